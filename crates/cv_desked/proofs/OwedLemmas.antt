-- What a caller holds stays its own, whatever is called meanwhile.
use Rattle.std.proofs.Common.{◌≡◌, ◌∙◌, sym, ap, refl, subst, ℕ, ◌≤◌, ◌==◌, Bool, true, false, if◌then◌else◌}
use Rattle.std.proofs.Common.{List, Option, Some, None, is_some, option_map, slice_get, IsSomeAnd, IfOk, OnOk, OnErr, Result, Ok, Err, arith, le_refl, inl, inr}
use Rattle.std.proofs.lemmas.Bool.{false≢true, eqb-true}
use Rattle.std.proofs.lemmas.Bool.Decides.{nat_tests}
use Rattle.cv_model.specs.declared.edit.Edit.{Edit}
use Rattle.cv_model.specs.declared.edit.EditError.{EditError}
use Rattle.cv_model.specs.declared.edit.EditError.TheVariants.{UnknownLayer, UnknownFeature, WrongKind, DuplicateId, Limit, BadPlace, NoMemory}
use Rattle.cv_model.specs.Paintings.{Painting, Composition}
use Rattle.cv_layer.specs.declared.input.Piece.{Piece}
use Rattle.cv_store.specs.Stores.{input_in}
use Rattle.cv_event.specs.declared.entry.Act.{Act}
use Rattle.cv_event.specs.declared.entry.Act.TheVariants as act
use Rattle.cv_event.specs.declared.entry.How.TheVariants as how
use Rattle.cv_event.specs.declared.slot.Slot.{Slot}
use Rattle.cv_event.specs.declared.slot.Standing.{Standing}
use Rattle.cv_event.specs.declared.slot.Standing.TheVariants.{Missed}
use Rattle.cv_event.specs.declared.slot.Task.TheVariants.{Compose}
use Rattle.cv_event.specs.States.{Job, State, Canvas, Taken, job_in, looked, delivered, stands_at, composed_by, with_end}
use Rattle.cv_event.specs.Legality.{OfJob, task, is_open, all_ready, ready_bits, Allows}
use Rattle.cv_event.proofs.JobLemmas.{does, after_one}
use Rattle.cv_event.proofs.EndLemmas.{stays_where, edited_stays, edit_stays}
use Rattle.cv_event.proofs.SlotLemmas.{on_slot, slot_does, slot_one, edit_part, look_open, delivery_missed}
use Rattle.cv_event.proofs.DueLemmas.{composes_are_of_live_jobs}
use Rattle.cv_tables.specs.Rows.{Row, HasSlot, job_of, row_in, painting_from, painting_of, whole_of}
use Rattle.cv_desk.specs.Desks.{History, state, Basis, basis_of, Notes, Stays}
use Rattle.cv_desk.specs.Answers.{IsPiece, EditNotes, SaveNotes, ClaimNotes}
use Rattle.cv_desk.specs.declared.errors.SaveError.{SaveError}
use Rattle.cv_desk.specs.declared.errors.SaveError.TheVariants as save_error
use Rattle.cv_desk.specs.declared.errors.ClaimError.{ClaimError}
use Rattle.cv_desk.specs.declared.tasks.Claim.{Claim}
use Rattle.cv_desk.specs.declared.tasks.Claim.TheVariants as claim
use Rattle.cv_desk.proofs.BasisLemmas.{basis_stays, whole_stays}
use Rattle.cv_desk.proofs.KeepingLemmas.{slot_of}
use Rattle.cv_desk.proofs.SeenLemmas.{job_seen}
use Rattle.cv_desked.specs.declared.table.Held.{Held}
use Rattle.cv_desked.specs.declared.table.Held.TheVariants as held
use Rattle.cv_desked.specs.Owed.{Waits, IsOwed, Went}

-- ---- one job behind an entry

-- the job's row behind an entry: its basis is as it was, and the job is what the entry makes of it
row_after : (old new : History) (who : ℕ) (a : Act) (j : ℕ) (r : Row) → Notes old new who a → row_in old.tables.rows j ≡ Some r
    → (q : Row) × (row_in new.tables.rows j ≡ Some q) × (basis_of q ≡ basis_of r) × (job_of q ≡ does j who a (job_of r))
row_after old new who a j r notes there =
    let q = basis_stays old.tables.rows new.tables.rows j r notes.jobs there in
    let was : job_in (state old).jobs j ≡ Some (job_of r) = job_seen old.tables.rows j ∙ ap (option_map job_of) there in
    let is : Some (job_of q.0) ≡ Some (does j who a (job_of r)) =
    sym (job_seen new.tables.rows j ∙ ap (option_map job_of) q.1) ∙ ap (λ (s : State). job_in s.jobs j) notes.becomes
    ∙ after_one (state old) who a j (job_of r) notes.allowed was in
    let same : job_of q.0 ≡ does j who a (job_of r) = cc in (q.0, q.1, q.2, same)

-- so is a slot of it
slot_after : (q r : Row) (j at who : ℕ) (a : Act) (x : Slot) → job_of q ≡ does j who a (job_of r) → slice_get r.slots at ≡ Some x
    → slice_get q.slots at ≡ Some (slot_does j at (job_of r) who a x)
slot_after q r j at who a x same is =
    ap (λ (k : Job). slice_get k.slots at) same ∙ slot_one j who a (job_of r) at ∙ ap (option_map (slot_does j at (job_of r) who a)) is

-- ---- what stays

-- an act of a caller is no delivery by caller 0
abbrev pub Others : ℕ → Act → Type 0
Others who (act.Deliver j at fate) = 1 ≤ who
Others who a = Unit {0}

missed_not_open : (x : Standing) → x ≡ Missed 0 → is_open x ≡ true → ⊥
missed_not_open x e h = false≢true (sym (ap is_open e) ∙ h)

missed_is : (v w : ℕ) → Missed v ≡ Missed w → v ≡ w
missed_is v w h = ap number h
  where
    number : Standing → ℕ
    number (Missed who) = who
    number _ = 0

unless_both : (a b : Bool) (standing : Standing) (slot : Slot) → slot.standing ≡ Missed 0 → (a ≡ true → b ≡ true → ⊥)
    → (on_slot a b standing slot).standing ≡ Missed 0
unless_both true true standing slot h no_one = absurd (no_one refl refl)
unless_both true false standing slot h no_one = h
unless_both false b standing slot h no_one = h

slot_still : (s : State) (who j at : ℕ) (a : Act) (job : Job) (slot : Slot) → Allows s who a → job_in s.jobs j ≡ Some job
    → slice_get job.slots at ≡ Some slot → Others who a → slot.standing ≡ Missed 0
    → (slot_does j at job who a slot).standing ≡ Missed 0
slot_still s who j at (act.Edit e v) job slot allowed there is others h = edit_part (λ (x : Slot). x.standing) job e v slot refl ∙ h
slot_still s who j at (act.View c view) job slot allowed there is others h = h
slot_still s who j at (act.Start c k) job slot allowed there is others h = h
slot_still s who j at (act.Look k i hit) job slot allowed there is others h =
    unless_both (k == j) (i == at) (looked who hit) slot h
    (λ a b. missed_not_open slot.standing h (look_open s j k i at job slot allowed.0 there is a b))
slot_still s who j at (act.Deliver k i fate) job slot allowed there is others h =
    unless_both (k == j) (i == at) (delivered fate) slot h
    (λ a b. let same = missed_is 0 who (sym h ∙ delivery_missed s who j k i at job slot fate allowed there is a b) in
    absurd (omega (arith, same, others)))
slot_still s who j at (act.Compose k) job slot allowed there is others h = h
slot_still s who j at (act.Finish k) job slot allowed there is others h = h
slot_still s who j at (act.Fail k) job slot allowed there is others h = h
slot_still s who j at (act.Cancel k) job slot allowed there is others h = h
slot_still s who j at (act.Preview k bits) job slot allowed there is others h = h
slot_still s who j at (act.Save c k) job slot allowed there is others h = h

-- a job that is composed next has no composer, so a composer stays
free_composer : (s : State) (k : ℕ) (job : Job) → task s ≡ Some (Compose k) → job_in s.jobs k ≡ Some job → job.composer ≡ None
free_composer s k job due there =
    (subst (λ o. IsSomeAnd o (λ (job : Job). (job.ended ≡ None) × (all_ready job.slots ≡ true) × (job.composer ≡ None))) there
    (composes_are_of_live_jobs s k due)).2

composed_once : (s : State) (j k who : ℕ) (job : Job) → task s ≡ Some (Compose k) → job_in s.jobs j ≡ Some job
    → job.composer ≡ Some 0 → (x : Bool) → (k == j) ≡ x → (if x then composed_by who job else job).composer ≡ Some 0
composed_once s j k who job due there h true e =
    absurd (none_some (sym (free_composer s k job due (ap (job_in s.jobs) (eqb-true k j e) ∙ there)) ∙ h))
  where
    none_some : ◌≡◌ {A = Option ℕ} None (Some 0) → ⊥
    none_some h = absurd cc
composed_once s j k who job due there h false e = h

composer_still : (s : State) (who j : ℕ) (a : Act) (job : Job) → Allows s who a → job_in s.jobs j ≡ Some job
    → job.composer ≡ Some 0 → (does j who a job).composer ≡ Some 0
composer_still s who j (act.Edit e v) job allowed there h =
    edit_stays (λ (k : Job). k.composer) e v job (edited_stays (λ (k : Job). k.composer) (is_some job.ended) job _ refl) ∙ h
composer_still s who j (act.View c view) job allowed there h = h
composer_still s who j (act.Start c k) job allowed there h =
    stays_where (λ (k : Job). k.composer) (job.canvas == c) (with_end how.Cancelled) job refl ∙ h
composer_still s who j (act.Look k i hit) job allowed there h =
    stays_where (λ (k : Job). k.composer) (k == j) (stands_at i (looked who hit)) job refl ∙ h
composer_still s who j (act.Deliver k i fate) job allowed there h =
    stays_where (λ (k : Job). k.composer) (k == j) (stands_at i (delivered fate)) job refl ∙ h
composer_still s who j (act.Compose k) job allowed there h = composed_once s j k who job allowed there h (k == j) refl
composer_still s who j (act.Finish k) job allowed there h =
    stays_where (λ (k : Job). k.composer) (k == j) (with_end how.Finished) job refl ∙ h
composer_still s who j (act.Fail k) job allowed there h =
    stays_where (λ (k : Job). k.composer) (k == j) (with_end how.NoMemory) job refl ∙ h
composer_still s who j (act.Cancel k) job allowed there h =
    stays_where (λ (k : Job). k.composer) (k == j) (with_end how.Cancelled) job refl ∙ h
composer_still s who j (act.Preview k bits) job allowed there h = h
composer_still s who j (act.Save c k) job allowed there h = h

-- ---- what is owed

-- a slot of a row, as a fact of the rows
slot_there : (rows : List Row) (j at : ℕ) (r : Row) (x : Slot) (P : Row → Slot → Type 0) → row_in rows j ≡ Some r
    → slice_get r.slots at ≡ Some x → P r x → HasSlot rows j at P
slot_there rows j at r x P there is p =
    subst (λ (o : Option Row). IsSomeAnd o (λ row. IsSomeAnd (slice_get row.slots at) (P row))) (sym there)
    (subst (λ (o : Option Slot). IsSomeAnd o (P r)) (sym is) p)

row_there : (rows : List Row) (j : ℕ) (r : Row) (P : Row → Type 0) → row_in rows j ≡ Some r → P r → IsSomeAnd (row_in rows j) P
row_there rows j r P there p = subst (λ (o : Option Row). IsSomeAnd o P) (sym there) p

row_of : (rows : List Row) (j : ℕ) (P : Row → Type 0) → IsSomeAnd (row_in rows j) P → (r : Row) × (row_in rows j ≡ Some r) × P r
row_of rows j P h = by (row_in rows j) refl h
  where
    by : (o : Option Row) → row_in rows j ≡ o → IsSomeAnd o P → (r : Row) × (row_in rows j ≡ Some r) × P r
    by None there h = absurd h
    by (Some r) there h = (r, there, h)

-- a piece is of its job behind an entry
piece_after : (q r : Row) (x y : Slot) (piece : Piece) → basis_of q ≡ basis_of r → y.layer ≡ x.layer
    → IsPiece piece.input piece.view r x → IsPiece piece.input piece.view q y
piece_after q r x y piece same layer h =
    let store = ap (λ (b : Basis). b.store) same in (
      (λ i. input_in (store i) (layer i)) ∙ h.0,
      h.1 ∙ sym (ap (λ (b : Basis). b.view) same),
    )

layer_does : (j at who : ℕ) (a : Act) (job : Job) (x : Slot) → (slot_does j at job who a x).layer ≡ x.layer
layer_does j at who (act.Edit e v) job x = edit_part (λ (y : Slot). y.layer) job e v x refl
layer_does j at who (act.View c view) job x = refl
layer_does j at who (act.Start c k) job x = refl
layer_does j at who (act.Look k i hit) job x = of_both (k == j) (i == at) (looked who hit)
  where
    of_both : (a b : Bool) (standing : Standing) → (on_slot a b standing x).layer ≡ x.layer
    of_both true true standing = refl
    of_both true false standing = refl
    of_both false b standing = refl
layer_does j at who (act.Deliver k i fate) job x = of_both (k == j) (i == at) (delivered fate)
  where
    of_both : (a b : Bool) (standing : Standing) → (on_slot a b standing x).layer ≡ x.layer
    of_both true true standing = refl
    of_both true false standing = refl
    of_both false b standing = refl
layer_does j at who (act.Compose k) job x = refl
layer_does j at who (act.Finish k) job x = refl
layer_does j at who (act.Fail k) job x = refl
layer_does j at who (act.Cancel k) job x = refl
layer_does j at who (act.Preview k bits) job x = refl
layer_does j at who (act.Save c k) job x = refl

pub owed_notes : (old new : History) (who : ℕ) (a : Act) (t : Held) → Notes old new who a → Others who a
    → IsOwed 0 old.tables.rows t → IsOwed 0 new.tables.rows t
owed_notes old new who a held.Nothing notes others h = tt
owed_notes old new who a (held.Paint piece) notes others h =
    let f = slot_of old.tables.rows piece.job piece.slot (Waits 0 piece) h in
    let q = row_after old new who a piece.job f.0 notes f.2 in
    let job = job_of f.0 in
    let was : job_in (state old).jobs piece.job ≡ Some job = job_seen old.tables.rows piece.job ∙ ap (option_map job_of) f.2 in
    slot_there new.tables.rows piece.job piece.slot q.0 (slot_does piece.job piece.slot job who a f.1) (Waits 0 piece) q.1
    (slot_after q.0 f.0 piece.job piece.slot who a f.1 q.3 f.3) (
      slot_still (state old) who piece.job piece.slot a job f.1 notes.allowed was f.3 others f.4.0,
      piece_after q.0 f.0 f.1 (slot_does piece.job piece.slot job who a f.1) piece q.2 (layer_does piece.job piece.slot who a job f.1) f.4.1,
    )
owed_notes old new who a (held.Compose j input) notes others h =
    let f = row_of old.tables.rows j (λ row. (row.composer ≡ Some 0) × (input ≡ whole_of row)) h in
    let q = row_after old new who a j f.0 notes f.1 in
    let was : job_in (state old).jobs j ≡ Some (job_of f.0) = job_seen old.tables.rows j ∙ ap (option_map job_of) f.1 in
    row_there new.tables.rows j q.0 (λ row. (row.composer ≡ Some 0) × (input ≡ whole_of row)) q.1 (
      ap (λ (k : Job). k.composer) q.3 ∙ composer_still (state old) who j a (job_of f.0) notes.allowed was f.2.0,
      f.2.1 ∙ sym (whole_stays q.0 f.0 q.2),
    )

pub owed_stays : (old new : History) (who : ℕ) (t : Held) → Stays old new → IsOwed who old.tables.rows t → IsOwed who new.tables.rows t
owed_stays old new who t stays h = subst (λ u. IsOwed who u.rows t) (sym stays.tables) h

pub owed_same : (old new : History) (who : ℕ) (t : Held) → new ≡ old → IsOwed who old.tables.rows t → IsOwed who new.tables.rows t
owed_same old new who t same h = subst (λ (n : History). IsOwed who n.tables.rows t) (sym same) h

pub owed_went : (old new : History) (who : ℕ) (t : Held) → 1 ≤ who → Went old new who → IsOwed 0 old.tables.rows t
    → IsOwed 0 new.tables.rows t
owed_went old new who t other (inl stays) h = owed_stays old new 0 t stays h
owed_went old new who t other (inr went) h = owed_notes old new who went.0 t went.1 (by went.0) h
  where
    by : (a : Act) → Others who a
    by (act.Deliver j at fate) = other
    by (act.Edit e v) = tt
    by (act.View c view) = tt
    by (act.Start c j) = tt
    by (act.Look j at hit) = tt
    by (act.Compose j) = tt
    by (act.Finish j) = tt
    by (act.Fail j) = tt
    by (act.Cancel j) = tt
    by (act.Preview j bits) = tt
    by (act.Save c j) = tt

-- ---- what a claim hands out

-- a slot that was just missed waits for its caller
looked_now : (j at who : ℕ) (x : Slot) → (on_slot (j == j) (at == at) (looked who false) x).standing ≡ Missed who
looked_now j at who x =
    let one : (j == j) ≡ true = grind (arith, nat_tests) in
    let two : (at == at) ≡ true = grind (arith, nat_tests) in
    (λ i. (on_slot (one i) (two i) (looked who false) x).standing)

pub owed_piece : (old new : History) (who : ℕ) (piece : Piece) → Notes old new who (act.Look piece.job piece.slot false)
    → HasSlot old.tables.rows piece.job piece.slot (IsPiece piece.input piece.view) → IsOwed who new.tables.rows (held.Paint piece)
owed_piece old new who piece notes h =
    let a = act.Look piece.job piece.slot false in
    let f = slot_of old.tables.rows piece.job piece.slot (IsPiece piece.input piece.view) h in
    let q = row_after old new who a piece.job f.0 notes f.2 in
    let job = job_of f.0 in
    slot_there new.tables.rows piece.job piece.slot q.0 (slot_does piece.job piece.slot job who a f.1) (Waits who piece) q.1
    (slot_after q.0 f.0 piece.job piece.slot who a f.1 q.3 f.3) (
      looked_now piece.job piece.slot who f.1,
      piece_after q.0 f.0 f.1 (slot_does piece.job piece.slot job who a f.1) piece q.2 (layer_does piece.job piece.slot who a job f.1) f.4,
    )

pub owed_composition : (old new : History) (who j : ℕ) (input : Composition) → Notes old new who (act.Compose j)
    → IsSomeAnd (row_in old.tables.rows j) (λ row. input ≡ whole_of row) → IsOwed who new.tables.rows (held.Compose j input)
owed_composition old new who j input notes h =
    let f = row_of old.tables.rows j (λ row. input ≡ whole_of row) h in
    let q = row_after old new who (act.Compose j) j f.0 notes f.1 in
    let one : (j == j) ≡ true = grind (arith, nat_tests) in
    row_there new.tables.rows j q.0 (λ row. (row.composer ≡ Some who) × (input ≡ whole_of row)) q.1 (
      ap (λ (k : Job). k.composer) q.3 ∙ (λ i. (if one i then composed_by who (job_of f.0) else job_of f.0).composer),
      f.2 ∙ sym (whole_stays q.0 f.0 q.2),
    )

-- ---- what is handed in

-- what is painted of a piece is the painting of its slot
pub painted_slot : (rows : List Row) (who : ℕ) (piece : Piece) (p : Painting)
    → p ≡ record { input = piece.input; view = piece.view } → HasSlot rows piece.job piece.slot (Waits who piece)
    → HasSlot rows piece.job piece.slot
    (λ row x. (x.standing ≡ Missed who) × (row.ended ≡ None → painting_of row.store row.view x ≡ Some p))
painted_slot rows who piece p made h =
    let f = slot_of rows piece.job piece.slot (Waits who piece) h in
    slot_there rows piece.job piece.slot f.0 f.1
    (λ row x. (x.standing ≡ Missed who) × (row.ended ≡ None → painting_of row.store row.view x ≡ Some p)) f.2 f.3 (
      f.4.0,
      λ live. ap (option_map (painting_from f.0.view)) f.4.1.0
          ∙ ap (λ v. Some (painting_from v piece.input)) (sym f.4.1.1) ∙ ap Some (sym made),
    )

-- ---- the calls

pub owed_ok : {A E : Type 0} (r : Result A E) (old new : History) (who : ℕ) (a : Act) (t : Held) → OnOk r (Notes old new who a)
    → OnErr r (Stays old new) → Others who a → IsOwed 0 old.tables.rows t → IsOwed 0 new.tables.rows t
owed_ok (Ok x) old new who a t ok err others h = owed_notes old new who a t ok others h
owed_ok (Err e) old new who a t ok err others h = owed_stays old new 0 t err h

pub owed_end : {A E : Type 0} (r : Result A E) (old new : History) (who : ℕ) (a : Act) (t : Held) → OnOk r (Notes old new who a)
    → OnErr r (new ≡ old) → Others who a → IsOwed 0 old.tables.rows t → IsOwed 0 new.tables.rows t
owed_end (Ok x) old new who a t ok err others h = owed_notes old new who a t ok others h
owed_end (Err e) old new who a t ok err others h = owed_same old new 0 t err h

pub owed_start : {E : Type 0} (r : Result ℕ E) (old new : History) (who c : ℕ) (t : Held)
    → IfOk r (λ j. Notes old new who (act.Start c j)) → OnErr r (Stays old new) → IsOwed 0 old.tables.rows t
    → IsOwed 0 new.tables.rows t
owed_start (Ok j) old new who c t ok err h = owed_notes old new who (act.Start c j) t ok tt h
owed_start (Err e) old new who c t ok err h = owed_stays old new 0 t err h

pub owed_edit : (r : Result (Unit {0}) EditError) (old new : History) (who : ℕ) (e : Edit) (t : Held) → EditNotes old new who e r
    → IsOwed 0 old.tables.rows t → IsOwed 0 new.tables.rows t
owed_edit (Ok x) old new who e t went h = owed_notes old new who (act.Edit e None) t went tt h
owed_edit (Err UnknownLayer) old new who e t went h = owed_notes old new who (act.Edit e (Some UnknownLayer)) t went tt h
owed_edit (Err UnknownFeature) old new who e t went h = owed_notes old new who (act.Edit e (Some UnknownFeature)) t went tt h
owed_edit (Err WrongKind) old new who e t went h = owed_notes old new who (act.Edit e (Some WrongKind)) t went tt h
owed_edit (Err DuplicateId) old new who e t went h = owed_notes old new who (act.Edit e (Some DuplicateId)) t went tt h
owed_edit (Err Limit) old new who e t went h = owed_notes old new who (act.Edit e (Some Limit)) t went tt h
owed_edit (Err BadPlace) old new who e t went h = owed_notes old new who (act.Edit e (Some BadPlace)) t went tt h
owed_edit (Err NoMemory) old new who e t went h = owed_stays old new 0 t went h

pub owed_preview : {A E : Type 0} (r : Result A E) (old new : History) (who j : ℕ) (t : Held)
    → OnOk r (OfJob (state old) j (λ job. Notes old new who (act.Preview j (ready_bits job.slots)))) → OnErr r (Stays old new)
    → IsOwed 0 old.tables.rows t → IsOwed 0 new.tables.rows t
owed_preview (Err e) old new who j t ok err h = owed_stays old new 0 t err h
owed_preview (Ok x) old new who j t ok err h = by (job_in (state old).jobs j) ok
  where
    by : (o : Option Job) → IsSomeAnd o (λ job. Notes old new who (act.Preview j (ready_bits job.slots))) → IsOwed 0 new.tables.rows t
    by None ok = absurd ok
    by (Some job) ok = owed_notes old new who (act.Preview j (ready_bits job.slots)) t ok tt h

pub owed_save : (r : Result Composition SaveError) (old new : History) (who c : ℕ) (t : Held) → SaveNotes old new who c r
    → IsOwed 0 old.tables.rows t → IsOwed 0 new.tables.rows t
owed_save (Err save_error.NoMemory) old new who c t went h = owed_stays old new 0 t went h
owed_save (Err save_error.UnknownCanvas) old new who c t went h = owed_same old new 0 t went h
owed_save (Err save_error.Nothing) old new who c t went h = owed_same old new 0 t went h
owed_save (Ok image) old new who c t went h = by (slice_get (state old).canvases c) went
  where
    last : (o : Option Taken) → IsSomeAnd o (λ taken. Notes old new who (act.Save c taken.job)) → IsOwed 0 new.tables.rows t
    last None went = absurd went
    last (Some taken) went = owed_notes old new who (act.Save c taken.job) t went tt h

    by : (o : Option Canvas) → IsSomeAnd o (λ k. IsSomeAnd k.published (λ taken. Notes old new who (act.Save c taken.job)))
        → IsOwed 0 new.tables.rows t
    by None went = absurd went
    by (Some k) went = last k.published went

-- ---- what a claim answers

unchanged : (old new : History) → new ≡ old → Stays old new
unchanged old new same = record {
  opening = ap (λ (h : History). h.opening) same;
  journal = ap (λ (h : History). h.journal) same;
  tables = ap (λ (h : History). h.tables) same;
  spare = subst (λ (h : History). old.spare ≤ h.spare) (sym same) (le_refl old.spare);
}

pub owed_claim : (r : Result Claim ClaimError) (old new : History) (who : ℕ) → ClaimNotes old new who r → Went old new who
owed_claim (Ok (claim.Hit j at)) old new who went = inr (act.Look j at true, went)
owed_claim (Ok (claim.Paint piece)) old new who went = inr (act.Look piece.job piece.slot false, went)
owed_claim (Ok (claim.Compose j input)) old new who went = inr (act.Compose j, went)
owed_claim (Ok claim.Nothing) old new who went = inl (unchanged old new went)
owed_claim (Err e) old new who went = inl went
