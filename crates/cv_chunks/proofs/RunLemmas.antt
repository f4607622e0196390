-- Lemmas on runs of a list.
use Rattle.std.proofs.Common.{◌≡◌, ℕ, ◌+◌, List, [], ◌++◌, length, drop, ap, sym, ◌∙◌}
use Rattle.std.proofs.lemmas.List.{drop-drop, take-append-drop}
use Rattle.cv_chunks.specs.Parts.{IsRunFrom}
use Rattle.cv_chunks.specs.Runs.{elements_left}

-- what is left stays where a run is taken out of the list
pub run_taken : {T : Type 0} (list run : List T) (behind : ℕ) → IsRunFrom list behind run
    → elements_left list run (behind + length run) ≡ elements_left list [] behind
run_taken list run behind is =
    rw (← drop-drop (length run) behind list)
    (ap (λ front. front ++ drop (length run) (drop behind list)) (sym is.same)
    ∙ take-append-drop (length run) (drop behind list))
