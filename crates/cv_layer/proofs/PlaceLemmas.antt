-- Places among others: a pass by runs, and a place more or less.
use Rattle.std.proofs.Common.{◌≡◌, ◌≢◌, ◌∙◌, sym, ap, refl, ℕ, zero, suc, ◌+◌, Bool, true, false, ◌||◌}
use Rattle.std.proofs.Common.{List, [], ◌∷◌, ◌++◌, length, take, Some, None, arith}
use Rattle.std.specs.Prelude.{position, slice_get, slice_index_or as get_or, ◌==◌, remove}
use Rattle.std.specs.List.{list_any}
use Rattle.std.proofs.Math.Seq.{take-add}
use Rattle.std.proofs.lemmas.Bool.Decides.{nat_tests}
use Rattle.std.proofs.lemmas.List.Elements.{All-from_get_or}
use Rattle.std.proofs.lemmas.List.Folds.{list_any-append, list_any_none}
use Rattle.std.proofs.lemmas.List.Quantifiers.{position-Some}
use Rattle.std.proofs.lemmas.Option.{slice_get-get_or, same_Some}
use Rattle.cv_chunks.specs.Parts.{IsRunFrom}
use Rattle.cv_model.specs.Packed.{is_among, IsMarked}
use Rattle.cv_model.proofs.PackedLemmas.{among_same, among_other}
use Rattle.cv_layer.proofs.TableLemmas.{run_at, run_within, none_at}

-- ---- a pass by runs

-- a place that isn't in a run isn't up to its end
pub passed_run : (at : ℕ) (ps : List ℕ) (from : ℕ) (run : List ℕ) → IsRunFrom ps from run
    → is_among (take from ps) at ≡ false → position (λ place. place == at) run ≡ None
    → is_among (take (from + length run) ps) at ≡ false
passed_run at ps from run is before none =
    let p = λ (place : ℕ). place == at in
    let there = list_any_none p run (All-from_get_or (λ place. p place ≡ false) run 0
    (λ k within. none_at p run k 0 none within)) in
    ap (list_any p) (take-add from (length run) ps ∙ ap (λ l. take from ps ++ l) is.same)
    ∙ list_any-append p (take from ps) run ∙ ap (λ b. b || list_any p run) before ∙ there

-- a place in a run stands in the list
pub found_run : (at : ℕ) (ps : List ℕ) (from : ℕ) (run : List ℕ) (k : ℕ) → IsRunFrom ps from run
    → position (λ place. place == at) run ≡ Some k → slice_get ps (from + k) ≡ Some at
found_run at ps from run k is found =
    let known = position-Some (λ place. place == at) run k 0 found in
    let whole = run_within ps from run is in
    let there = run_at ps from run k 0 is known.0 in
    let here : get_or run k 0 ≡ at = grind (arith, nat_tests, known.1) in
    slice_get-get_or ps (from + k) 0 (omega (arith, whole, known.0)) ∙ ap Some (there ∙ here)

-- a place that stands in the list is among its places
pub among_found : (at : ℕ) (ps : List ℕ) (k : ℕ) → slice_get ps k ≡ Some at → is_among ps at ≡ true
among_found at [] k h = absurd cc
among_found at (p ∷ ps) zero h =
    let here : p ≡ at = same_Some p at h in
    let same : (p == at) ≡ true = grind (arith, nat_tests) in
    ap (λ b. b || is_among ps at) same
among_found at (p ∷ ps) (suc k) h = either (p == at) (among_found at ps k h)
  where
    either : (b : Bool) → is_among ps at ≡ true → (b || is_among ps at) ≡ true
    either true e = refl
    either false e = e

-- ---- a place more or less

differs : (a b : ℕ) → a ≢ b → (a == b) ≡ false
differs a b h = grind (arith, nat_tests)

-- without an element the others are as they were
pub removed_other : (at : ℕ) (ps : List ℕ) (i k : ℕ) → slice_get ps i ≡ Some at → k ≢ at
    → is_among (remove ps i) k ≡ is_among ps k
removed_other at [] i k h other = absurd cc
removed_other at (p ∷ ps) zero k h other =
    let here : p ≡ at = same_Some p at h in
    sym (ap (λ b. b || is_among ps k) (differs p k (λ e. other (sym e ∙ here))))
removed_other at (p ∷ ps) (suc i) k h other =
    ap (λ b. (p == k) || b) (removed_other at ps i k h other)

pub marked_more : (ps : List ℕ) (at : ℕ) → IsMarked ps (ps ++ at ∷ []) at true
marked_more ps at = record {
  here = among_same ps at;
  others = λ k other. among_other ps at k other;
}
