-- A script that was read can be played.
use Rattle.std.proofs.Common.{ℕ, ◌+◌, List, [], ◌∷◌}
use Rattle.cv_script.specs.declared.script.Numbered.{Numbered}
use Rattle.cv_script.specs.Scripts.{AscendFrom, IsScript}
use Rattle.cv_session.specs.Playable.{Ascends, IsPlayable}

ascends : (n : ℕ) (cs : List Numbered) → AscendFrom n cs → Ascends n cs
ascends n [] f = tt
ascends n (c ∷ cs) f = (f.0, ascends (c.line + 1) cs f.2)

pub script_plays : (script : List Numbered) → IsScript script → IsPlayable script
script_plays script is = record { few = is.few; ascend = ascends 1 script is.ascend; factors = is.factors }
