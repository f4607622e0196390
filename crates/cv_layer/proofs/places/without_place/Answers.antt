-- Without a place that was found the others are as they were.
use Rattle.std.proofs.Common.{◌∙◌, ap, ℕ, List}
use Rattle.cv_model.specs.Packed.{is_among}
use Rattle.cv_layer.proofs.PlaceLemmas.{removed_other}
use Rattle.cv_layer.proofs.places.without_place.Goals as goal

pub loop-k-preserved : goal.loop-k-preserved
loop-k-preserved c = λ k other.
    ap (λ (ps : List ℕ). is_among ps k) c.in_ok-remove.ensures.ok
    ∙ removed_other c.args.at c.loop-k.made c.in-Some.k k c.in-Some.ensures.there other
    ∙ c.loop-k.invariant k other
