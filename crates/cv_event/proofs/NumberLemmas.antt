-- Which numbers the jobs of a journal have.
use Rattle.std.proofs.Common.{◌≡◌, ◌∙◌, sym, ap, refl, ℕ, zero, suc, ◌+◌, ◌<◌, nat_eq, true, false, ◌||◌}
use Rattle.std.proofs.Common.{List, [], ◌∷◌, length, map, Option, Some, None, is_some, slice_get, fold, arith}
use Rattle.std.specs.List.{list_any, cons_option, range_with_len}
use Rattle.std.proofs.lemmas.Bool.Decides.{nat_tests}
use Rattle.std.proofs.lemmas.Bool.{false≢true}
use Rattle.std.proofs.lemmas.List.{length-map}
use Rattle.cv_model.specs.declared.edit.Edit.{Edit}
use Rattle.cv_model.specs.declared.edit.EditError.{EditError}
use Rattle.cv_model.specs.Views.{PixelGrid}
use Rattle.cv_event.specs.declared.entry.Act.{Act}
use Rattle.cv_event.specs.declared.entry.Act.TheVariants as act
use Rattle.cv_event.specs.declared.entry.Entry.{Entry}
use Rattle.cv_event.specs.declared.entry.How.TheVariants.{Finished, Cancelled, NoMemory}
use Rattle.cv_event.specs.States.{Job, State, job_in, view_on, job_edited, with_end, cancelled_on, new_job, started}
use Rattle.cv_event.specs.States.{looked, delivered, stands_at, composed_by, edit_made, did, after, begin, replay}
use Rattle.cv_event.specs.Legality.{Allows, LegalFrom}
use Rattle.cv_event.specs.Histories.{start_of, starts}
use Rattle.cv_event.specs.JobLaws.{JobsAreStarts, StartedJobsAreThere}
use Rattle.cv_event.proofs.FitLemmas.{length_job, length_one}

-- ---- jobs and starts

longer : (s : State) (c j : ℕ) (v : Option PixelGrid) (xs : List ℕ) → is_some v ≡ true
    → length xs + length (started c v s).jobs ≡ length (j ∷ xs) + length s.jobs
longer s c j None xs there = absurd (false≢true there)
longer s c j (Some view) xs there =
    let one : length (started c (Some view) s).jobs ≡ suc (length s.jobs) =
    length_one (map (cancelled_on c) s.jobs) (new_job c s.project view) ∙ ap suc (length-map s.jobs (cancelled_on c)) in
    let other : length (j ∷ xs) ≡ suc (length xs) = refl in
    omega (arith, one, other)

starts_made : (s : State) (e : Edit) (v : Option EditError) → length (edit_made e v s).jobs ≡ length s.jobs
starts_made s e None = length-map s.jobs (job_edited e)
starts_made s e (Some error) = refl

starts_one : (s : State) (who : ℕ) (a : Act) (xs : List ℕ) → Allows s who a
    → length xs + length (did s who a).jobs ≡ length (cons_option (start_of a) xs) + length s.jobs
starts_one s who (act.Edit e v) xs allowed = ap (λ n. length xs + n) (starts_made s e v)
starts_one s who (act.View c view) xs allowed = refl
starts_one s who (act.Start c j) xs allowed = longer s c j (view_on s c) xs allowed.0
starts_one s who (act.Look j at hit) xs allowed =
    ap (λ n. length xs + n) (length_job j (stands_at at (looked who hit)) s.jobs)
starts_one s who (act.Deliver j at fate) xs allowed =
    ap (λ n. length xs + n) (length_job j (stands_at at (delivered fate)) s.jobs)
starts_one s who (act.Compose j) xs allowed = ap (λ n. length xs + n) (length_job j (composed_by who) s.jobs)
starts_one s who (act.Finish j) xs allowed = ap (λ n. length xs + n) (length_job j (with_end Finished) s.jobs)
starts_one s who (act.Fail j) xs allowed = ap (λ n. length xs + n) (length_job j (with_end NoMemory) s.jobs)
starts_one s who (act.Cancel j) xs allowed = ap (λ n. length xs + n) (length_job j (with_end Cancelled) s.jobs)
starts_one s who (act.Preview j bits) xs allowed = refl
starts_one s who (act.Save c j) xs allowed = refl

starts_more : (s : State) (rest : List Entry) → LegalFrom s rest
    → length (fold after s rest).jobs ≡ length (starts rest) + length s.jobs
starts_more s [] legal = omega arith
starts_more s (entry ∷ rest) legal =
    starts_more (after s entry) rest legal.1 ∙ starts_one s entry.caller entry.act (starts rest) legal.0

-- ---- their numbers

-- behind an act that starts nothing, and behind a start
others : (m n : ℕ) (xs : List ℕ) → length xs + m ≡ length xs + n → xs ≡ range_with_len (suc m) (length xs)
    → xs ≡ range_with_len (suc n) (length xs)
others m n xs same h =
    let is : m ≡ n = omega (arith, same) in h ∙ ap (λ k. range_with_len (suc k) (length xs)) is

first : (m n j : ℕ) (xs : List ℕ) → length xs + m ≡ length (j ∷ xs) + n → j ≡ suc n
    → xs ≡ range_with_len (suc m) (length xs) → j ∷ xs ≡ range_with_len (suc n) (length (j ∷ xs))
first m n j xs more is h =
    let size : length (j ∷ xs) ≡ suc (length xs) = refl in
    let next : suc m ≡ suc n + 1 = omega (arith, more, size) in
    (λ i. is i ∷ h i) ∙ ap (λ k. suc n ∷ range_with_len k (length xs)) next

numbered_one : (s : State) (who : ℕ) (a : Act) (xs : List ℕ) → Allows s who a
    → xs ≡ range_with_len (suc (length (did s who a).jobs)) (length xs)
    → cons_option (start_of a) xs ≡ range_with_len (suc (length s.jobs)) (length (cons_option (start_of a) xs))
numbered_one s who (act.Edit e v) xs allowed h =
    others (length (did s who (act.Edit e v)).jobs) (length s.jobs) xs (starts_one s who (act.Edit e v) xs allowed) h
numbered_one s who (act.View c view) xs allowed h =
    others (length (did s who (act.View c view)).jobs) (length s.jobs) xs (starts_one s who (act.View c view) xs allowed) h
numbered_one s who (act.Start c j) xs allowed h =
    first (length (did s who (act.Start c j)).jobs) (length s.jobs) j xs (starts_one s who (act.Start c j) xs allowed)
    allowed.1 h
numbered_one s who (act.Look j at hit) xs allowed h =
    others (length (did s who (act.Look j at hit)).jobs) (length s.jobs) xs (starts_one s who (act.Look j at hit) xs allowed) h
numbered_one s who (act.Deliver j at fate) xs allowed h =
    others (length (did s who (act.Deliver j at fate)).jobs) (length s.jobs) xs (starts_one s who (act.Deliver j at fate) xs allowed) h
numbered_one s who (act.Compose j) xs allowed h =
    others (length (did s who (act.Compose j)).jobs) (length s.jobs) xs (starts_one s who (act.Compose j) xs allowed) h
numbered_one s who (act.Finish j) xs allowed h =
    others (length (did s who (act.Finish j)).jobs) (length s.jobs) xs (starts_one s who (act.Finish j) xs allowed) h
numbered_one s who (act.Fail j) xs allowed h =
    others (length (did s who (act.Fail j)).jobs) (length s.jobs) xs (starts_one s who (act.Fail j) xs allowed) h
numbered_one s who (act.Cancel j) xs allowed h =
    others (length (did s who (act.Cancel j)).jobs) (length s.jobs) xs (starts_one s who (act.Cancel j) xs allowed) h
numbered_one s who (act.Preview j bits) xs allowed h =
    others (length (did s who (act.Preview j bits)).jobs) (length s.jobs) xs (starts_one s who (act.Preview j bits) xs allowed) h
numbered_one s who (act.Save c j) xs allowed h =
    others (length (did s who (act.Save c j)).jobs) (length s.jobs) xs (starts_one s who (act.Save c j) xs allowed) h

numbered : (s : State) (rest : List Entry) → LegalFrom s rest
    → starts rest ≡ range_with_len (suc (length s.jobs)) (length (starts rest))
numbered s [] legal = refl
numbered s (entry ∷ rest) legal =
    numbered_one s entry.caller entry.act (starts rest) legal.0 (numbered (after s entry) rest legal.1)

pub jobs_are_starts : JobsAreStarts
jobs_are_starts o journal legal =
    let none : length (begin o).jobs ≡ 0 = refl in
    let many : length (starts journal) ≡ length (replay o journal).jobs =
    omega (arith, starts_more (begin o) journal legal, none) in
    numbered (begin o) journal legal ∙ ap (range_with_len 1) many

-- ---- whose job is there

below : (j a n : ℕ) → j < a → list_any (nat_eq j) (range_with_len a n) ≡ false
below j a zero h = refl
below j a (suc n) h =
    let no : nat_eq j a ≡ false = grind (arith, nat_tests) in
    (λ i. no i || list_any (nat_eq j) (range_with_len (a + 1) n)) ∙ below j (a + 1) n (omega (arith, h))

placed : (jobs : List Job) (k a : ℕ) → is_some (slice_get jobs k) ≡ list_any (nat_eq (a + k)) (range_with_len a
    (length jobs))
placed [] k a = refl
placed (job ∷ jobs) zero a =
    let yes : nat_eq (a + 0) a ≡ true = grind (arith, nat_tests) in
    sym (λ i. yes i || list_any (nat_eq (a + 0)) (range_with_len (a + 1) (length jobs)))
placed (job ∷ jobs) (suc k) a =
    let no : nat_eq (a + suc k) a ≡ false = grind (arith, nat_tests) in
    let shift : a + 1 + k ≡ a + suc k = omega arith in
    placed jobs k (a + 1) ∙ ap (λ n. list_any (nat_eq n) (range_with_len (a + 1) (length jobs))) shift
    ∙ sym (λ i. no i || list_any (nat_eq (a + suc k)) (range_with_len (a + 1) (length jobs)))

in_numbers : (jobs : List Job) (j : ℕ) → is_some (job_in jobs j) ≡ list_any (nat_eq j) (range_with_len 1 (length jobs))
in_numbers jobs zero = sym (below 0 1 (length jobs) (omega arith))
in_numbers jobs (suc k) =
    let shift : 1 + k ≡ suc k = omega arith in
    placed jobs k 1 ∙ ap (λ n. list_any (nat_eq n) (range_with_len 1 (length jobs))) shift

pub started_jobs_are_there : StartedJobsAreThere
started_jobs_are_there o journal j legal =
    in_numbers (replay o journal).jobs j ∙ sym (ap (list_any (nat_eq j)) (jobs_are_starts o journal legal))
