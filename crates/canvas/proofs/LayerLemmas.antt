-- The name of a layer is that of the bytes of a project.
use Rattle.std.proofs.Common.{◌≡◌, ◌∙◌, sym, ap, ℕ, List, Option, Some, None, Ok, option_map, slice_get}
use Rattle.std.specs.Prelude.{IfSome}
use Rattle.cv_model.specs.ProjectFiles.{FileParts}
use Rattle.cv_open.specs.Opened.{project_in}
use Rattle.canvas.specs.Lines.{IsNameAt}

-- a name in the project that bytes say is one of the bytes
pub named : (bytes : List ℕ) (file : FileParts) (place : ℕ) (result : Option (List ℕ)) → project_in bytes ≡ Ok file
    → IfSome result (λ name. option_map (λ layer. layer.name) (slice_get file.layers place) ≡ Some name)
    → IfSome result (IsNameAt bytes place)
named bytes file place None says is = tt
named bytes file place (Some name) says is = (file, says, is)

-- and one of the bytes of a file that was read
pub read_named : (tells : Type 0) (there file : Option (List ℕ)) (bytes slice : List ℕ) (place : ℕ)
    (result : Option (List ℕ)) → (tells → file ≡ there) → file ≡ Some bytes → slice ≡ bytes
    → IfSome result (IsNameAt slice place)
    → IfSome result (λ name. (b : List ℕ) × (tells → there ≡ Some b) × IsNameAt b place name)
read_named tells there file bytes slice place None is has same says = tt
read_named tells there file bytes slice place (Some name) is has same says =
    (slice, (λ t. sym (is t) ∙ has ∙ ap Some (sym same)), says)
