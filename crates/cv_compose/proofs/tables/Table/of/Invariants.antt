-- The answers so far are those of the pairs so far, in order.
use Rattle.std.proofs.Common.{◌≡◌, ℕ, ◌<◌, ◌/◌, ◌%◌, length, get_or}
use Rattle.cv_model.specs.Blends.{channel_merged}
use Rattle.cv_compose.proofs.tables.Table.of.Given as goal

abbrev pub invariant-loop-pair : goal.invariant-loop-pair
invariant-loop-pair l = record {
  whole : length l.answers.items ≡ l.pair;
  each : (k : ℕ) → k < l.pair → get_or l.answers.items k 0 ≡ channel_merged l.mode 255 (k / 256) (k % 256);
}
