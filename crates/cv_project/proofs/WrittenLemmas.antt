-- What is written of the tree of a file in form.
use Rattle.std.proofs.Common.{◌≡◌, ℕ, ◌≤◌, Bool, false, List, [], Some, Result, Ok, Err, IfOk, sym, ap, ◌∙◌, arith}
use Rattle.std.specs.Prelude.{IsUtf8}
use Rattle.serde_json.specs.Data.{Data, depth}
use Rattle.serde_json.specs.Read.{read, max_depth}
use Rattle.serde_json.specs.Written.{has_float, compact_text}
use Rattle.cv_model.specs.ProjectFiles.{FileParts, IsInForm}
use Rattle.cv_project.specs.Kept.{KeptFile}
use Rattle.cv_project.specs.Trees.{file_tree}
use Rattle.cv_project.specs.Written.{IsReadAs}
use Rattle.cv_project.proofs.ProjectTableLemmas.{file-stands}

-- what holds of an answer, from what else does
pub if_ok : {A E : Type 0} {P Q : A → Type 0} (r : Result A E) → ((x : A) → P x → Q x) → IfOk r P → IfOk r Q
if_ok (Ok x) f h = f x h
if_ok (Err e) f h = tt

pub if_ok-both : {A E : Type 0} {P Q R : A → Type 0} (r : Result A E) → ((x : A) → P x → Q x → R x)
    → IfOk r P → IfOk r Q → IfOk r R
if_ok-both (Ok x) f p q = f x p q
if_ok-both (Err e) f p q = tt

-- the tree of a file has no float, so its text is known
pub text-written : (file : FileParts) (d : Data) (bytes : List ℕ) → IsInForm file → KeptFile file
    → d ≡ file_tree file → (has_float d ≡ false → bytes ≡ compact_text d) → bytes ≡ compact_text (file_tree file)
text-written file d bytes form kept same text =
    let plain = (file-stands file form kept).plain in
    text (ap has_float same ∙ plain.no_float) ∙ ap compact_text same

-- it is shallow, so its text is read as it
pub text-read : (file : FileParts) (d : Data) (bytes : List ℕ) → IsInForm file → KeptFile file
    → d ≡ file_tree file → IsUtf8 bytes → (depth d ≤ max_depth → read bytes ≡ Some d) → IsReadAs bytes file
text-read file d bytes form kept same utf8 back =
    let stands = file-stands file form kept in
    let few : depth d ≤ 8 = rw same stands.plain.shallow in
    record {
      tree = record { utf8 = utf8; tree = back (omega (arith, few)) ∙ ap Some same };
      project = stands.reads [];
    }
