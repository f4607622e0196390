-- What bytes say, also where they are too many.
use Rattle.std.proofs.Common.{◌≡◌, ◌≢◌, ◌↔◌, ◌<◌, ◌≤◌, ℕ, ◌+◌, ◌++◌, Bool, true, false, List, [], ◌∷◌, length, Option, Some, None, Result, Ok, Err, codes, cond, ap, refl, subst, sym, ◌∙◌}
use Rattle.std.proofs.lemmas.Bool.{lt-ltb, le-ltb}
use Rattle.std.proofs.lemmas.Str.{IsUtf8-from_is_utf8, is_utf8-from_IsUtf8}
use Rattle.std.specs.Str.{is_utf8}
use Rattle.serde_json.specs.Data.{Data}
use Rattle.serde_json.specs.Read.{read}
use Rattle.cv_outside.specs.Seen.{ShelfSeen}
use Rattle.cv_model.specs.ProjectFiles.{FileParts}
use Rattle.cv_project.specs.Errors.{answered}
use Rattle.cv_project.specs.Projects.{IsTree, IsNoTree, tree_project}
use Rattle.cv_project.specs.declared.error.ProjectError.{ProjectError}
use Rattle.cv_model.specs.declared.layer.LayerData.{LayerData}
use Rattle.cv_model.specs.declared.project.Source.{Source}
use Rattle.cv_project.specs.declared.error.ProjectError.TheVariants.{NotJson, Limit, NoMemory}
use Rattle.cv_open.specs.declared.ends.DataError.{DataError}
use Rattle.cv_open.specs.declared.ends.DataError.TheVariants.{TooLong}
use Rattle.cv_open.specs.declared.ends.End.{End}
use Rattle.cv_open.specs.declared.ends.End.TheVariants.{BadData}
use Rattle.cv_open.specs.declared.layer.Layered.{Layered}
use Rattle.cv_open.specs.declared.room.Left.{Left}
use Rattle.cv_open.specs.Opened.{data_of, layer_of, layered, most_project, said_by, project_in, project_of, as_project}
use Rattle.cv_outside.specs.Seen.{ShelfStands}
use Rattle.cv_model.specs.declared.project.LayerFile.{LayerFile}
use Rattle.cv_open.specs.Opened.{layer_read, layers_read}
use Rattle.cv_open.specs.Readings.{Reads, LeadsTo, IsReadAs, IsSaid, only}
use Rattle.cv_open.specs.Rooms.{most_bytes}
use Rattle.cv_open.proofs.ReadingLemmas.{stays, leads_on, goes_on, then_leads, then_ends}

-- too many bytes of a layer are refused for it
pub long_layer : (from : Source) (left : Left) (bytes : List ℕ) → most_bytes left < length bytes → layer_of from left bytes ≡ Err TooLong
unfolding layer_of
long_layer from left bytes long = ap (λ b. cond b (Err TooLong) (data_of from left bytes)) (lt-ltb _ _ long)

-- others are read
pub short_layer : (from : Source) (left : Left) (bytes : List ℕ) → length bytes ≤ most_bytes left → layer_of from left bytes ≡ data_of from left bytes
unfolding layer_of
short_layer from left bytes short = ap (λ b. cond b (Err TooLong) (data_of from left bytes)) (le-ltb _ _ short)

-- too many bytes of a project are refused for it
pub long_project : (bytes : List ℕ) → most_project < length bytes → project_of bytes ≡ Err (Limit (codes "file"))
unfolding project_of
long_project bytes long = ap (λ b. cond b (Err (Limit (codes "file"))) (project_in bytes)) (lt-ltb _ _ long)

-- others are read
pub short_project : (bytes : List ℕ) → length bytes ≤ most_project → project_of bytes ≡ project_in bytes
unfolding project_of
short_project bytes short = ap (λ b. cond b (Err (Limit (codes "file"))) (project_in bytes)) (le-ltb _ _ short)

-- what is said of a layer is answered
pub layer_said : (place : ℕ) (left : Left) (n : ℕ) (said : Result LayerData DataError)
    → IsSaid (layered place left n said) (layered place left n said)
layer_said place left n (Ok contents) shelf = stays _ shelf
layer_said place left n (Err error) shelf = stays _ shelf

-- what is said of a project is answered
pub project_stays : (said : Result FileParts ProjectError) → IsSaid (as_project said) (as_project said)
project_stays (Ok file) shelf = stays _ shelf
project_stays (Err error) shelf = stays _ shelf

-- what is said of the bytes that were read is answered
pub layer_goes : (place : ℕ) (from : Source) (left : Left) (bytes got slice : List ℕ) (n : ℕ) (said : Result LayerData DataError) (result : Result Layered End)
    → got ≡ bytes → length bytes ≤ most_bytes left → slice ≡ got → n ≡ length slice → said ≡ data_of from left slice → result ≡ layered place left n said
    → IsSaid (layered place left (length bytes) (layer_of from left bytes)) result
layer_goes place from left bytes got slice n said result got_is short slice_is n_is said_is result_is =
    let same : said ≡ layer_of from left bytes = said_is ∙ ap (data_of from left) (slice_is ∙ got_is) ∙ sym (short_layer from left bytes short) in
    let is : result ≡ layered place left (length bytes) (layer_of from left bytes) =
    result_is ∙ ap (λ (m : ℕ). layered place left m said) (n_is ∙ ap length (slice_is ∙ got_is)) ∙ ap (layered place left (length bytes)) same in
    subst (λ (r : Result Layered End). IsSaid (layered place left (length bytes) (layer_of from left bytes)) r) (sym is)
    (layer_said place left (length bytes) (layer_of from left bytes))

-- too many bytes are refused
pub layer_long : (place : ℕ) (from : Source) (left : Left) (bytes : List ℕ) → most_bytes left < length bytes
    → IsSaid (layered place left (length bytes) (layer_of from left bytes)) (Err (BadData place TooLong))
layer_long place from left bytes long =
    subst (λ (said : Result LayerData DataError). IsSaid (layered place left (length bytes) (layer_of from left bytes)) (layered place left (length bytes) said))
    (long_layer from left bytes long) (layer_said place left (length bytes) (layer_of from left bytes))

-- what a reader says of bytes is said of a file that isn't too long
pub project_goes : (bytes got slice : List ℕ) (result : Result FileParts End) → got ≡ bytes → length bytes ≤ most_project → slice ≡ got
    → IsSaid (as_project (project_in slice)) result → IsSaid (as_project (project_of bytes)) result
project_goes bytes got slice result got_is short slice_is said =
    subst (λ (p : Result FileParts ProjectError). IsSaid (as_project p) result)
    (ap project_in (slice_is ∙ got_is) ∙ sym (short_project bytes short)) said

-- too many bytes are refused
pub project_long : (bytes : List ℕ) (result : Result FileParts End) → most_project < length bytes
    → IsSaid (as_project (Err (Limit (codes "file")))) result → IsSaid (as_project (project_of bytes)) result
project_long bytes result long said =
    subst (λ (p : Result FileParts ProjectError). IsSaid (as_project p) result) (sym (long_project bytes long)) said

-- what a tree says is said of its bytes
pub tree_said : (bytes : List ℕ) (tree : Data) → IsTree bytes tree → project_in bytes ≡ answered (tree_project tree)
tree_said bytes tree is =
    ap (λ b. cond b (said_by (read bytes)) (Err NotJson)) (is_utf8-from_IsUtf8 bytes is.utf8) ∙ ap said_by is.tree

-- a reader's refusal
abbrev pub refusal : ProjectError → Result FileParts ProjectError
refusal error = Err error

-- a reader's refusal is what is said of the bytes
error_said : (bytes : List ℕ) (error : ProjectError) (utf8 : Bool) (tree : Option Data) → is_utf8 bytes ≡ utf8 → read bytes ≡ tree
    → ((d : Data) → IsTree bytes d → refusal error ≡ answered (tree_project d))
    → (IsNoTree bytes → refusal error ≡ refusal NotJson) → project_in bytes ≡ Err error
error_said bytes error true (Some d) u r exact none =
    let is : IsTree bytes d = record { utf8 = IsUtf8-from_is_utf8 bytes u; tree = r } in
    tree_said bytes d is ∙ sym (exact d is)
error_said bytes error true None u r exact none =
    ap (λ b. cond b (said_by (read bytes)) (Err NotJson)) u ∙ ap said_by r ∙ sym (none (λ is. r))
error_said bytes error false tree u r exact none =
    ap (λ b. cond b (said_by (read bytes)) (Err NotJson)) u
    ∙ sym (none (λ is. let yes = is_utf8-from_IsUtf8 bytes is in absurd (cc)))

pub project_refused : (bytes : List ℕ) (error : ProjectError) → (error ≡ NoMemory → ⊥)
    → ((d : Data) → IsTree bytes d → refusal error ≢ refusal NoMemory → refusal error ≡ answered (tree_project d))
    → (refusal error ≢ refusal NoMemory → (refusal error ≡ refusal NotJson) ↔ IsNoTree bytes)
    → IsSaid (as_project (project_in bytes)) (as_project (Err error))
project_refused bytes error other exact none shelf =
    let differs : refusal error ≢ refusal NoMemory = λ is. other (cc) in
    let is : project_in bytes ≡ Err error =
    error_said bytes error (is_utf8 bytes) (read bytes) refl refl (λ d t. exact d t differs) (λ n. (none differs).1 n) in
    subst (λ (p : Result FileParts ProjectError). IsReadAs (only (as_project (project_in bytes))) (as_project p) shelf shelf) is
    (project_stays (project_in bytes) shelf)

module _ (all : Reads (List LayerData)) (place : ℕ) (left : Left) (contents : List LayerData) (front rest : List LayerFile) (layer : LayerFile)
    (old half new : ShelfSeen) where
  -- the next layer was read
  pub layer_led : (read : Layered) → front ≡ layer ∷ rest → ShelfStands old half → LeadsTo all (layers_read place left contents front) old half
      → LeadsTo (layer_read place left layer.source) (only (Ok read)) half new
      → LeadsTo all (layers_read (place + 1) read.left (contents ++ read.contents ∷ []) rest) old new
  layer_led read is stands before now =
      leads_on all (layers_read place left contents (layer ∷ rest)) (layers_read (place + 1) read.left (contents ++ read.contents ∷ []) rest) old half new stands
      (subst (λ (layers : List LayerFile). LeadsTo all (layers_read place left contents layers) old half) is before)
      (then_leads (layer_read place left layer.source) (λ found. layers_read (place + 1) found.left (contents ++ found.contents ∷ []) rest) (Ok read) half new now)

  -- or it ended the reads
  pub layer_ended : (end : End) → front ≡ layer ∷ rest → ShelfStands old half → LeadsTo all (layers_read place left contents front) old half
      → IsReadAs (layer_read place left layer.source) (Err end) half new → IsReadAs all (Err end) old new
  layer_ended end is stands before now =
      goes_on all (layers_read place left contents (layer ∷ rest)) (Err end) old half new stands
      (subst (λ (layers : List LayerFile). LeadsTo all (layers_read place left contents layers) old half) is before)
      (then_ends (layer_read place left layer.source) (λ found. layers_read (place + 1) found.left (contents ++ found.contents ∷ []) rest) end half new now)
