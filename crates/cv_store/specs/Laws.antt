-- What holds of stores and their edits: laws, each the clause of a function of its name.
use Rattle.std.specs.Prelude.{◌≡◌, ◌≢◌, ℕ, ◌≤◌, ◌<◌, false, List, [], ◌∷◌, ◌++◌, take, fold}
use Rattle.std.specs.Prelude.{Some, None, if◌then◌else◌}
use Rattle.cv_model.specs.declared.edit.Edit.{Edit}
use Rattle.cv_model.specs.Layers.{Project, parts, deps, has_layer}
use Rattle.cv_model.specs.Edits.{touches_any, step, version, revision, stamps}
use Rattle.cv_store.specs.Stores.{StoreParts, project_of, revision_in, input_in, stamps_in}
use Rattle.cv_store.specs.Answers.{IsEdited}

-- an edit that touches none of the layers on which a layer depends leaves what it is painted from: its
-- parts and its stamps together
abbrev pub InputStays : Type 0
InputStays = (s t : StoreParts) (edit : Edit) (id : ℕ) → IsEdited s edit t
    → touches_any edit (deps (project_of s) id) ≡ false → input_in t id ≡ input_in s id

-- and its stamps
abbrev pub StampsStay : Type 0
StampsStay = (s t : StoreParts) (edit : Edit) (id : ℕ) → IsEdited s edit t
    → touches_any edit (deps (project_of s) id) ≡ false → stamps_in t id ≡ stamps_in s id

-- the project behind the first n of the accepted edits of a history
abbrev pub behind : Project → List Edit → ℕ → Project
behind project edits n = fold step project (take n edits)

-- at two versions of one history at which the stamps of a layer are equal, what it is painted from is equal
abbrev pub EqualStampsEqualParts : Type 0
EqualStampsEqualParts = (project : Project) (edits : List Edit) (m n id : ℕ)
    → stamps project (take m edits) id ≡ stamps project (take n edits) id
    → parts (behind project edits m) id ≡ parts (behind project edits n) id

-- a store is an opened project behind these edits: its project, its version and the revisions are theirs
pub record IsBehind (project : Project) (edits : List Edit) (s : StoreParts) : Type 0 where
  pub project_is : project_of s ≡ fold step project edits
  pub version_is : s.version ≡ version edits
  pub revisions_are : (id : ℕ) → revision_in s id ≡ revision project edits id

-- a store behind some edits is, behind one more, behind all of them
abbrev pub HistoryGoesOn : Type 0
HistoryGoesOn = (project : Project) (edits : List Edit) (edit : Edit) (s t : StoreParts)
    → IsBehind project edits s → IsEdited s edit t → IsBehind project (edits ++ edit ∷ []) t

-- a store behind some edits has for each layer of its project exactly the stamps behind these edits, and none
-- for one that isn't there
abbrev pub StampsAreOfEdits : Type 0
StampsAreOfEdits = (project : Project) (edits : List Edit) (s : StoreParts) (id : ℕ)
    → IsBehind project edits s
    → stamps_in s id ≡ (if has_layer id (project_of s).layers then Some (stamps project edits id) else None)

-- stores at two versions of one history that have equal stamps of a layer have equal inputs of it: what it is
-- painted from, with its stamps
abbrev pub EqualStampsEqualInputs : Type 0
EqualStampsEqualInputs = (project : Project) (edits : List Edit) (m n id : ℕ) (s t : StoreParts)
    → IsBehind project (take m edits) s → IsBehind project (take n edits) t
    → stamps_in s id ≡ stamps_in t id → input_in s id ≡ input_in t id

-- a revision above 0 that a layer had at one version and hasn't at a later one never returns, also where the
-- layer was taken out and one with its id was added
abbrev pub LeftRevisionsNeverReturn : Type 0
LeftRevisionsNeverReturn = (project : Project) (edits : List Edit) (l m n id : ℕ) → l ≤ m → m ≤ n
    → 0 < revision project (take l edits) id
    → revision project (take m edits) id ≢ revision project (take l edits) id
    → revision project (take n edits) id ≢ revision project (take l edits) id
