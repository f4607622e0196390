-- Tests and strokes of a table's features, run by run.
use Rattle.std.proofs.Common.{◌≡◌, ◌∙◌, sym, ap, ℕ, ◌+◌, Bool, true, false, ◌||◌, List, ◌++◌, take, drop, length}
use Rattle.std.specs.List.{flat_map, list_any}
use Rattle.std.proofs.Math.Seq.{take-add}
use Rattle.std.proofs.lemmas.Grind.{flat_map-append}
use Rattle.std.proofs.lemmas.List.{take-append-drop, drop-drop}
use Rattle.std.proofs.lemmas.List.Folds.{list_any-append}
use Rattle.cv_model.specs.declared.colour.Rgba.{Rgba}
use Rattle.cv_model.specs.declared.feature.Feature.{Feature}
use Rattle.cv_model.specs.Colours.{transparent, laid, laid_on}
use Rattle.cv_paint.proofs.LayLemmas.{laid_more}

-- the pixel of some features, and of a run of them more
pub laid_run : (s : Feature → List Rgba) (rows run : List Feature) (i : ℕ) (pixel result : Rgba)
    → take (length run) (drop i rows) ≡ run → pixel ≡ laid (flat_map s (take i rows))
    → result ≡ laid_on pixel (flat_map s run) → result ≡ laid (flat_map s (take (i + length run) rows))
laid_run s rows run i pixel result is held more =
    let longer : take (i + length run) rows ≡ take i rows ++ run =
    take-add i (length run) rows ∙ ap (λ (rs : List Feature). take i rows ++ rs) is in
    let same : flat_map s (take (i + length run) rows) ≡ flat_map s (take i rows) ++ flat_map s run =
    ap (flat_map s) longer ∙ flat_map-append s (take i rows) run in
    more ∙ ap (λ (x : Rgba). laid_on x (flat_map s run)) held
    ∙ sym (laid_more transparent (flat_map s (take i rows)) (flat_map s run))
    ∙ sym (ap (λ (zs : List Rgba). laid zs) same)

-- what lies from a place on is a run and what lies behind it
any_split : (f : Feature → Bool) (rows run : List Feature) (i : ℕ) → take (length run) (drop i rows) ≡ run
    → list_any f (drop i rows) ≡ (list_any f run || list_any f (drop (i + length run) rows))
any_split f rows run i is =
    let split : drop i rows ≡ run ++ drop (i + length run) rows =
    sym (take-append-drop (length run) (drop i rows)) ∙ ap (λ (rs : List Feature). rs ++ drop (length run) (drop i rows)) is
    ∙ ap (λ (rs : List Feature). run ++ rs) (drop-drop (length run) i rows) in
    ap (list_any f) split ∙ list_any-append f run (drop (i + length run) rows)

-- where a test holds in a run, it holds from there on
pub any_in : (f : Feature → Bool) (rows run : List Feature) (i : ℕ) → take (length run) (drop i rows) ≡ run
    → list_any f run ≡ true → list_any f (drop i rows) ≡ true
any_in f rows run i is some =
    any_split f rows run i is ∙ ap (λ (b : Bool). b || list_any f (drop (i + length run) rows)) some

-- and where it doesn't, it holds from there on as it does behind the run
pub any_behind : (f : Feature → Bool) (rows run : List Feature) (i : ℕ) → take (length run) (drop i rows) ≡ run
    → list_any f run ≡ false → list_any f (drop (i + length run) rows) ≡ list_any f (drop i rows)
any_behind f rows run i is none =
    sym (any_split f rows run i is ∙ ap (λ (b : Bool). b || list_any f (drop (i + length run) rows)) none)
