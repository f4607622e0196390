-- Layers: their versions, and lists of them in form.
use Rattle.std.proofs.Common.{◌≡◌, ℕ, ◌++◌, ◌∷◌, [], List, map, Bool, true, false, nat_eq, refl, sym, ap}
use Rattle.std.proofs.Common.{◌∙◌, subst, arith}
use Rattle.std.specs.Prelude.{All}
use Rattle.std.specs.Cmp.{nat_eq_equiv}
use Rattle.std.specs.List.{IsDistinct, list_any}
use Rattle.std.proofs.lemmas.Bool.Decides.{eqb_tells}
use Rattle.std.proofs.lemmas.List.{map-append}
use Rattle.std.proofs.lemmas.List.Elements.{All-push}
use Rattle.std.proofs.lemmas.Map.Keys.{IsDistinct-push}
use Rattle.cv_model.specs.ProjectFiles.{IsLayer}
use Rattle.cv_model.specs.declared.project.LayerFile.{LayerFile}
use Rattle.cv_project.specs.Layers.{AreLayers}
use Rattle.cv_project.proofs.FieldLemmas.{list_any_map}

-- two numbers that differ aren't equal
pub not_equal : (a b : ℕ) → (a ≡ b → ⊥) → nat_eq a b ≡ false
not_equal a b apart = grind (arith, eqb_tells)

-- a layer in form with a new id, behind layers in form
pub AreLayers-push : (before : List LayerFile) (layer : LayerFile) → AreLayers before → IsLayer layer
    → list_any (λ (other : LayerFile). nat_eq layer.id other.id) before ≡ false
    → AreLayers (before ++ layer ∷ [])
AreLayers-push before layer are is new =
    let id : LayerFile → ℕ = λ l. l.id in record {
      each = All-push IsLayer before layer are.each is;
      distinct = subst (IsDistinct nat_eq) (sym (map-append id before (layer ∷ [])))
          (IsDistinct-push nat_eq_equiv (map id before) layer.id are.distinct (list_any_map
          (nat_eq layer.id) id before ∙ new));
    }
