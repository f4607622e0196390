-- One job behind a journal: what each entry does to it, and what stays.
use Rattle.std.proofs.Common.{◌≡◌, ◌∙◌, sym, ap, refl, ℕ, zero, suc, ◌==◌, true, false}
use Rattle.std.proofs.Common.{List, [], ◌∷◌, ◌++◌, map, length, Option, Some, None, is_some}
use Rattle.std.proofs.Common.{slice_get, option_map, fold, arith, if◌then◌else◌}
use Rattle.std.proofs.lemmas.Bool.Decides.{nat_tests}
use Rattle.std.proofs.lemmas.List.Sums.{fold-append}
use Rattle.std.proofs.lemmas.List.{length-map}
use Rattle.cv_model.specs.declared.edit.Edit.{Edit}
use Rattle.cv_model.specs.declared.edit.EditError.{EditError}
use Rattle.cv_model.specs.Views.{PixelGrid}
use Rattle.cv_model.specs.Layers.{Opening}
use Rattle.cv_event.specs.declared.entry.Act.{Act}
use Rattle.cv_event.specs.declared.entry.Act.TheVariants as act
use Rattle.cv_event.specs.declared.entry.Entry.{Entry}
use Rattle.cv_event.specs.declared.entry.How.TheVariants.{Finished, Cancelled, NoMemory}
use Rattle.cv_event.specs.States.{Job, State, change_at, job_in, change_job, view_on, job_edited, with_end}
use Rattle.cv_event.specs.States.{cancelled_on, new_job, started, looked, delivered, stands_at, composed_by}
use Rattle.cv_event.specs.States.{did, after, begin, replay}
use Rattle.cv_event.specs.Legality.{Allows, LegalFrom, IsLegal}
use Rattle.cv_event.specs.Laws.{entry_of, started_between}

-- ---- lists by number

pub zero_suc : (m : ℕ) → (0 == suc m) ≡ false
zero_suc m = grind (arith, nat_tests)

pub suc_zero : (m : ℕ) → (suc m == 0) ≡ false
suc_zero m = grind (arith, nat_tests)

pub suc_suc : (i m : ℕ) → (suc i == suc m) ≡ (i == m)
suc_suc i m = grind (arith, nat_tests)

-- an item of a list in which one was changed
pub at_change : {A : Type 0} (change : A → A) (xs : List A) (i m : ℕ) (x : A) → slice_get xs m ≡ Some x
    → slice_get (change_at i change xs) m ≡ Some (if i == m then change x else x)
at_change change [] i m x h = absurd cc
at_change change (y ∷ ys) zero zero x h = ap (option_map change) h
at_change change (y ∷ ys) zero (suc m) x h = h ∙ sym (ap (λ b. Some (if b then change x else x)) (zero_suc m))
at_change change (y ∷ ys) (suc i) zero x h = h ∙ sym (ap (λ b. Some (if b then change x else x)) (suc_zero i))
at_change change (y ∷ ys) (suc i) (suc m) x h =
    at_change change ys i m x h ∙ sym (ap (λ b. Some (if b then change x else x)) (suc_suc i m))

-- an item of a list of changed ones
pub at_map : {A B : Type 0} (f : A → B) (xs : List A) (m : ℕ) → slice_get (map f xs) m ≡ option_map f (slice_get xs
    m)
at_map f [] m = refl
at_map f (x ∷ xs) zero = refl
at_map f (x ∷ xs) (suc m) = at_map f xs m

-- an item of a list to which more are added
pub at_more : {A : Type 0} (xs ys : List A) (m : ℕ) (x : A) → slice_get xs m ≡ Some x → slice_get (xs ++ ys) m ≡
    Some x
at_more [] ys m x h = absurd cc
at_more (y ∷ xs) ys zero x h = h
at_more (y ∷ xs) ys (suc m) x h = at_more xs ys m x h

-- the item that is added
pub at_last : {A : Type 0} (xs : List A) (x : A) → slice_get (xs ++ x ∷ []) (length xs) ≡ Some x
at_last [] x = refl
at_last (y ∷ xs) x = at_last xs x

-- ---- what an entry does to a job

-- a change of job k is one of job j where they are the same
abbrev pub on_job : ℕ → ℕ → (Job → Job) → Job → Job
on_job k j change job = if k == j then change job else job

abbrev pub edit_does : Edit → Option EditError → Job → Job
edit_does e None job = job_edited e job
edit_does e (Some error) job = job

-- what an act of a caller makes of job j
abbrev pub does : ℕ → ℕ → Act → Job → Job
does j who (act.Edit e v) job = edit_does e v job
does j who (act.View c view) job = job
does j who (act.Start c k) job = cancelled_on c job
does j who (act.Look k at hit) job = on_job k j (stands_at at (looked who hit)) job
does j who (act.Deliver k at fate) job = on_job k j (stands_at at (delivered fate)) job
does j who (act.Compose k) job = on_job k j (composed_by who) job
does j who (act.Finish k) job = on_job k j (with_end Finished) job
does j who (act.Fail k) job = on_job k j (with_end NoMemory) job
does j who (act.Cancel k) job = on_job k j (with_end Cancelled) job
does j who (act.Preview k bits) job = job
does j who (act.Save c k) job = job

abbrev pub job_does : ℕ → Job → Entry → Job
job_does j job entry = does j entry.caller entry.act job

job_in_change : (change : Job → Job) (jobs : List Job) (k j : ℕ) (job : Job) → job_in jobs j ≡ Some job
    → job_in (change_job k change jobs) j ≡ Some (on_job k j change job)
job_in_change change jobs k zero job h = absurd cc
job_in_change change jobs zero (suc m) job h = h ∙ sym (ap (λ b. Some (if b then change job else job)) (zero_suc m))
job_in_change change jobs (suc i) (suc m) job h =
    at_change change jobs i m job h ∙ sym (ap (λ b. Some (if b then change job else job)) (suc_suc i m))

job_in_map : (change : Job → Job) (jobs : List Job) (j : ℕ) (job : Job) → job_in jobs j ≡ Some job
    → job_in (map change jobs) j ≡ Some (change job)
job_in_map change jobs zero job h = absurd cc
job_in_map change jobs (suc m) job h = at_map change jobs m ∙ ap (option_map change) h

job_in_more : (jobs more : List Job) (j : ℕ) (job : Job) → job_in jobs j ≡ Some job → job_in (jobs ++ more) j ≡
    Some job
job_in_more jobs more zero job h = absurd cc
job_in_more jobs more (suc m) job h = at_more jobs more m job h

-- a start leaves the other jobs, but for those on its canvas
in_started : (s : State) (c j : ℕ) (o : Option PixelGrid) (job : Job) → is_some o ≡ true
    → job_in s.jobs j ≡ Some job
    → job_in (started c o s).jobs j ≡ Some (cancelled_on c job)
in_started s c j None job allowed h = absurd cc
in_started s c j (Some view) job allowed h =
    job_in_more (map (cancelled_on c) s.jobs) _ j _ (job_in_map (cancelled_on c) s.jobs j job h)

in_edited : (s : State) (e : Edit) (v : Option EditError) (j : ℕ) (job : Job) → job_in s.jobs j ≡ Some job
    → job_in (did s 0 (act.Edit e v)).jobs j ≡ Some (edit_does e v job)
in_edited s e None j job h = job_in_map (job_edited e) s.jobs j job h
in_edited s e (Some error) j job h = h

-- the job behind an entry
pub after_one : (s : State) (who : ℕ) (a : Act) (j : ℕ) (job : Job) → Allows s who a → job_in s.jobs j ≡ Some job
    → job_in (did s who a).jobs j ≡ Some (does j who a job)
after_one s who (act.Edit e v) j job allowed h = in_edited s e v j job h
after_one s who (act.View c view) j job allowed h = h
after_one s who (act.Start c k) j job allowed h = in_started s c j (view_on s c) job allowed.0 h
after_one s who (act.Look k at hit) j job allowed h = job_in_change (stands_at at (looked who hit)) s.jobs k j job h
after_one s who (act.Deliver k at fate) j job allowed h = job_in_change (stands_at at (delivered fate)) s.jobs k j
    job h
after_one s who (act.Compose k) j job allowed h = job_in_change (composed_by who) s.jobs k j job h
after_one s who (act.Finish k) j job allowed h = job_in_change (with_end Finished) s.jobs k j job h
after_one s who (act.Fail k) j job allowed h = job_in_change (with_end NoMemory) s.jobs k j job h
after_one s who (act.Cancel k) j job allowed h = job_in_change (with_end Cancelled) s.jobs k j job h
after_one s who (act.Preview k bits) j job allowed h = h
after_one s who (act.Save c k) j job allowed h = h

-- the job behind a journal
pub job_after : (s : State) (rest : List Entry) (j : ℕ) (job : Job) → LegalFrom s rest → job_in s.jobs j ≡ Some job
    → job_in (fold after s rest).jobs j ≡ Some (fold (job_does j) job rest)
job_after s [] j job legal h = h
job_after s (entry ∷ rest) j job legal h =
    job_after (after s entry) rest j (job_does j job entry) legal.1 (after_one s entry.caller entry.act j job
    legal.0 h)

-- ---- the parts of a journal

pub legal_parts : (s : State) (past rest : List Entry) → LegalFrom s (past ++ rest)
    → LegalFrom s past × LegalFrom (fold after s past) rest
legal_parts s [] rest legal = (tt, legal)
legal_parts s (entry ∷ past) rest legal =
    let parts = legal_parts (after s entry) past rest legal.1 in ((legal.0, parts.0), parts.1)

-- the state behind two parts
pub replayed : (o : Opening) (past rest : List Entry) → replay o (past ++ rest) ≡ fold after (replay o past) rest
replayed o past rest = fold-append after (begin o) past rest

-- a job behind its start and further entries
pub record Began (o : Opening) (past rest : List Entry) (who c j : ℕ) : Type 0 where
  pub view : PixelGrid
  pub view_is : view_on (replay o past) c ≡ Some view
  pub new_is : job_in (after (replay o past) (entry_of who (act.Start c j))).jobs j ≡ Some (new_job c (replay o
      past).project view)
  pub legal : LegalFrom (after (replay o past) (entry_of who (act.Start c j))) rest
  pub job_is : job_in (replay o (started_between past who c j rest)).jobs j ≡ Some (fold (job_does j) (new_job c
      (replay o past).project view) rest)

-- a start adds a job behind the others
new_started : (s : State) (c : ℕ) (view : PixelGrid) → job_in (started c (Some view) s).jobs (suc (length s.jobs))
    ≡ Some (new_job c s.project view)
new_started s c view =
    ap (slice_get (map (cancelled_on c) s.jobs ++ new_job c s.project view ∷ [])) (sym (length-map s.jobs
    (cancelled_on c)))
    ∙ at_last (map (cancelled_on c) s.jobs) (new_job c s.project view)

pub began : (o : Opening) (past rest : List Entry) (who c j : ℕ) → IsLegal o (started_between past who c j rest)
    → Began o past rest who c j
began o past rest who c j legal = by (view_on (replay o past) c) refl (legal_parts (begin o) past (entry_of who
    (act.Start c j) ∷ rest) legal).1
  where
    by : (v : Option PixelGrid) → view_on (replay o past) c ≡ v
        → LegalFrom (replay o past) (entry_of who (act.Start c j) ∷ rest) → Began o past rest who c j
    by None is parts = absurd cc
    by (Some view) is parts =
        let s = replay o past in
        let new : job_in (started c (view_on s c) s).jobs j ≡ Some (new_job c s.project view) =
        ap (λ v. job_in (started c v s).jobs j) is ∙ ap (job_in (started c (Some view) s).jobs) parts.0.1
        ∙ new_started s c view in
        record {
          view = view;
          view_is = is;
          new_is = new;
          legal = parts.1;
          job_is = ap (λ (t : State). job_in t.jobs j) (replayed o past (entry_of who (act.Start c j) ∷ rest))
              ∙ job_after (after s (entry_of who (act.Start c j))) rest j (new_job c s.project view) parts.1 new;
        }
