-- The stores of a desk and of its jobs are behind the edits of the journal, one entry further.
use Rattle.std.proofs.Common.{◌≡◌, ◌∙◌, sym, ap, refl, subst, ℕ, zero, suc, ◌+◌, nat_eq, Bool, true, false, ◌||◌, cond, not}
use Rattle.std.proofs.Common.{List, [], ◌∷◌, ◌++◌, map, Option, Some, None, is_some, slice_get, option_map, length, take, arith, if◌then◌else◌}
use Rattle.std.specs.List.{list_any, cons_option, prefix_len, before_first}
use Rattle.std.specs.Option.{option_map_or}
use Rattle.std.proofs.lemmas.List.{append-nil}
use Rattle.cv_model.specs.declared.edit.Edit.{Edit}
use Rattle.cv_model.specs.Layers.{Opening, Project}
use Rattle.cv_store.specs.Answers.{IsEdited}
use Rattle.cv_store.specs.Laws.{IsBehind}
use Rattle.cv_store.specs.Stores.{StoreParts, stamps_in, input_in}
use Rattle.cv_store.proofs.History.{history_goes_on}
use Rattle.cv_store.proofs.Revisions.{equal_stamps_equal_inputs}
use Rattle.cv_event.specs.declared.entry.Act.{Act}
use Rattle.cv_event.specs.declared.entry.Entry.{Entry}
use Rattle.cv_event.specs.Histories.{accepted_edit, edits, start_of, starts}
use Rattle.cv_event.specs.Legality.{IsLegal}
use Rattle.cv_event.specs.States.{State, job_in, replay}
use Rattle.cv_event.proofs.NumberLemmas.{started_jobs_are_there}
use Rattle.cv_event.proofs.TakenLemmas.{edits_parts}
use Rattle.cv_tables.specs.Rows.{Row, job_of, row_in, row_cancelled}
use Rattle.cv_tables.specs.Tabs.{Tables, state_of}
use Rattle.cv_desk.specs.Desks.{History, Basis, KeepJobs, starts_job, before_start, IsRevised, IsDesk}
use Rattle.cv_desk.proofs.BasisLemmas.{basis_stays}
use Rattle.cv_desk.proofs.SeenLemmas.{job_seen}

-- ---- the entries before a start

-- they go on where the first entry is no start of the job
before_cons : (p : Entry → Bool) (x : Entry) (xs : List Entry) → before_first p (x ∷ xs) ≡ (if p x then [] else x ∷ before_first p xs)
before_cons p x xs = by (p x)
  where
    one_more : (n : ℕ) → 1 + n ≡ suc n
    one_more n = omega arith

    by : (b : Bool) → take (cond (not b) (1 + prefix_len (λ y. not (p y)) xs) 0) (x ∷ xs) ≡ (if b then [] else x ∷ before_first p xs)
    by true = refl
    by false = ap (λ n. take n (x ∷ xs)) (one_more (prefix_len (λ y. not (p y)) xs))

-- entries behind a start don't stand before it
before_more : (j : ℕ) (journal rest : List Entry) → list_any (nat_eq j) (starts journal) ≡ true
    → before_start j (journal ++ rest) ≡ before_start j journal
before_more j [] rest h = absurd cc
before_more j (x ∷ xs) rest h =
    before_cons (starts_job j) x (xs ++ rest) ∙ by (start_of x.act) h (before_more j xs rest) ∙ sym (before_cons (starts_job j) x xs)
  where
    at : (b : Bool) → (b || list_any (nat_eq j) (starts xs)) ≡ true
        → (list_any (nat_eq j) (starts xs) ≡ true → before_start j (xs ++ rest) ≡ before_start j xs)
        → (if b then [] else x ∷ before_start j (xs ++ rest)) ≡ (if b then [] else x ∷ before_start j xs)
    at true h more = refl
    at false h more = ap (λ l. x ∷ l) (more h)

    by : (o : Option ℕ) → list_any (nat_eq j) (cons_option o (starts xs)) ≡ true
        → (list_any (nat_eq j) (starts xs) ≡ true → before_start j (xs ++ rest) ≡ before_start j xs)
        → (if option_map_or (nat_eq j) o false then [] else x ∷ before_start j (xs ++ rest))
        ≡ (if option_map_or (nat_eq j) o false then [] else x ∷ before_start j xs)
    by None h more = ap (λ l. x ∷ l) (more h)
    by (Some k) h more = at (nat_eq j k) h more

-- before a start that comes last stand all edits
before_last : (j : ℕ) (journal : List Entry) (e : Entry) → list_any (nat_eq j) (starts journal) ≡ false
    → accepted_edit e.act ≡ None → edits (before_start j (journal ++ e ∷ [])) ≡ edits journal
before_last j [] e h none = ap edits (before_cons (starts_job j) e []) ∙ by (starts_job j e)
  where
    by : (b : Bool) → edits (if b then [] else e ∷ before_start j []) ≡ []
    by true = refl
    by false = ap (λ o. cons_option o []) none
before_last j (x ∷ xs) e h none =
    ap edits (before_cons (starts_job j) x (xs ++ e ∷ [])) ∙ by (start_of x.act) h (λ g. before_last j xs e g none)
  where
    at : (b : Bool) → (b || list_any (nat_eq j) (starts xs)) ≡ false
        → (list_any (nat_eq j) (starts xs) ≡ false → edits (before_start j (xs ++ e ∷ [])) ≡ edits xs)
        → edits (if b then [] else x ∷ before_start j (xs ++ e ∷ [])) ≡ cons_option (accepted_edit x.act) (edits xs)
    at true h more = absurd cc
    at false h more = ap (cons_option (accepted_edit x.act)) (more h)

    by : (o : Option ℕ) → list_any (nat_eq j) (cons_option o (starts xs)) ≡ false
        → (list_any (nat_eq j) (starts xs) ≡ false → edits (before_start j (xs ++ e ∷ [])) ≡ edits xs)
        → edits (if option_map_or (nat_eq j) o false then [] else x ∷ before_start j (xs ++ e ∷ []))
        ≡ cons_option (accepted_edit x.act) (edits xs)
    by None h more = ap (cons_option (accepted_edit x.act)) (more h)
    by (Some k) h more = at (nat_eq j k) h more

-- the starts of two parts
starts_cons : (o : Option ℕ) (xs ys : List ℕ) → cons_option o xs ++ ys ≡ cons_option o (xs ++ ys)
starts_cons None xs ys = refl
starts_cons (Some k) xs ys = refl

starts_parts : (past rest : List Entry) → starts (past ++ rest) ≡ starts past ++ starts rest
starts_parts [] rest = refl
starts_parts (entry ∷ past) rest =
    ap (cons_option (start_of entry.act)) (starts_parts past rest)
    ∙ sym (starts_cons (start_of entry.act) (starts past) (starts rest))

-- ---- the store

-- a store behind an act that is this edit, if it is one
abbrev pub StoreGoes : StoreParts → Option Edit → StoreParts → Type 0
StoreGoes s None t = t ≡ s
StoreGoes s (Some e) t = IsEdited s e t

store_behind : (p : Project) (journal : List Entry) (e : Entry) (s t : StoreParts) → IsBehind p (edits journal) s
    → StoreGoes s (accepted_edit e.act) t → IsBehind p (edits (journal ++ e ∷ [])) t
store_behind p journal e s t was goes =
    subst (λ es. IsBehind p es t) (sym (edits_parts journal (e ∷ []))) (by (accepted_edit e.act) goes)
  where
    by : (o : Option Edit) → StoreGoes s o t → IsBehind p (edits journal ++ cons_option o []) t
    by None goes =
        subst (λ es. IsBehind p es t) (sym (append-nil (edits journal))) (subst (IsBehind p (edits journal)) (sym goes) was)
    by (Some edit) goes = history_goes_on p (edits journal) edit s t was goes

-- ---- the jobs

some_map : (o : Option Row) → is_some (option_map job_of o) ≡ is_some o
some_map None = refl
some_map (Some r) = refl

-- a job is there exactly where a journal, the state after which is these tables, starts one of its number
is_started : (o : Opening) (journal : List Entry) (t : Tables) (j : ℕ) → IsLegal o journal → replay o journal ≡ state_of t
    → list_any (nat_eq j) (starts journal) ≡ is_some (row_in t.rows j)
is_started o journal t j legal shows =
    sym (started_jobs_are_there o journal j legal) ∙ ap (λ (s : State). is_some (job_in s.jobs j)) shows
    ∙ ap is_some (job_seen t.rows j) ∙ some_map (row_in t.rows j)

-- a job that an act brought took the store before it
abbrev TakesThe : StoreParts → List Row → List Row → Act → Type 0
TakesThe store old new a =
    (j : ℕ) (row : Row) → row_in new j ≡ Some row → row_in old j ≡ None → (accepted_edit a ≡ None) × (row.store ≡ store)

jobs_behind : (h : History) (e : Entry) (u : Tables) → IsDesk h → KeepJobs h.tables.rows u.rows
    → TakesThe h.tables.store h.tables.rows u.rows e.act → (j : ℕ) (row : Row) → row_in u.rows j ≡ Some row
    → IsBehind h.opening.project (edits (before_start j (h.journal ++ e ∷ []))) row.store
jobs_behind h e u kept keep takes j row there = by (row_in h.tables.rows j) refl
  where
    started : list_any (nat_eq j) (starts h.journal) ≡ is_some (row_in h.tables.rows j)
    started = is_started h.opening h.journal h.tables j kept.legal kept.shows

    by : (o : Option Row) → row_in h.tables.rows j ≡ o
        → IsBehind h.opening.project (edits (before_start j (h.journal ++ e ∷ []))) row.store
    by None gone =
        let new = takes j row there gone in
        subst (λ es. IsBehind h.opening.project es row.store) (sym (before_last j h.journal e (started ∙ ap is_some gone) new.0))
        (subst (IsBehind h.opening.project (edits h.journal)) (sym new.1) kept.revised.store)
    by (Some r) had =
        let q = basis_stays h.tables.rows u.rows j r keep had in
        let found : Some q.0 ≡ Some row = sym q.1 ∙ there in
        let same : q.0 ≡ row = cc in
        let store : row.store ≡ r.store = ap (λ (k : Row). k.store) (sym same) ∙ ap (λ (b : Basis). b.store) q.2 in
        subst (λ l. IsBehind h.opening.project (edits l) row.store)
        (sym (before_more j h.journal (e ∷ []) (started ∙ ap is_some had)))
        (subst (IsBehind h.opening.project (edits (before_start j h.journal))) (sym store) (kept.revised.jobs j r had))

-- ---- an entry

-- an act that is no start brings no job
revised_more : (h : History) (journal : List Entry) (e : Entry) (u : Tables) → IsDesk h → journal ≡ h.journal ++ e ∷ []
    → KeepJobs h.tables.rows u.rows → StoreGoes h.tables.store (accepted_edit e.act) u.store
    → TakesThe h.tables.store h.tables.rows u.rows e.act → IsRevised h.opening.project journal u
revised_more h journal e u kept longer keep goes takes =
    subst (λ l. IsRevised h.opening.project l u) (sym longer) (record {
      store = store_behind h.opening.project h.journal e h.tables.store u.store kept.revised.store goes;
      jobs = jobs_behind h e u kept keep takes;
    })

pub revised_on : (h : History) (journal : List Entry) (e : Entry) (u : Tables) → IsDesk h → journal ≡ h.journal ++ e ∷ []
    → IsLegal h.opening journal → replay h.opening journal ≡ state_of u → KeepJobs h.tables.rows u.rows
    → StoreGoes h.tables.store (accepted_edit e.act) u.store → start_of e.act ≡ None → IsRevised h.opening.project journal u
revised_on h journal e u kept longer legal shows keep goes none =
    revised_more h journal e u kept longer keep goes (λ j row there gone. absurd (never j row there gone))
  where
    same : starts journal ≡ starts h.journal
    same =
        ap starts longer ∙ starts_parts h.journal (e ∷ []) ∙ ap (λ o. starts h.journal ++ cons_option o []) none
        ∙ append-nil (starts h.journal)

    never : (j : ℕ) (row : Row) → row_in u.rows j ≡ Some row → row_in h.tables.rows j ≡ None → ⊥
    never j row there gone =
        let yes : true ≡ false = sym (ap is_some there) ∙ sym (is_started h.opening journal u j legal shows)
        ∙ ap (list_any (nat_eq j)) same ∙ is_started h.opening h.journal h.tables j kept.legal kept.shows ∙ ap is_some gone in
        cc

-- a start brings one
last_new : (f : Row → Row) (rows : List Row) (new : Row) (at : ℕ) (row : Row) → slice_get (map f rows ++ new ∷ []) at ≡ Some row
    → slice_get rows at ≡ None → row ≡ new
last_new f [] new zero row there gone = cc
last_new f [] new (suc at) row there gone = absurd cc
last_new f (x ∷ xs) new zero row there gone = absurd cc
last_new f (x ∷ xs) new (suc at) row there gone = last_new f xs new at row there gone

pub revised_started : (h : History) (journal : List Entry) (e : Entry) (u : Tables) (c : ℕ) (new : Row) → IsDesk h
    → journal ≡ h.journal ++ e ∷ [] → KeepJobs h.tables.rows u.rows → u.store ≡ h.tables.store → accepted_edit e.act ≡ None
    → u.rows ≡ map (row_cancelled c) h.tables.rows ++ new ∷ [] → new.store ≡ h.tables.store
    → IsRevised h.opening.project journal u
revised_started h journal e u c new kept longer keep same none made taken =
    revised_more h journal e u kept longer keep (subst (λ o. StoreGoes h.tables.store o u.store) (sym none) same)
    (λ j row there gone. (none, ap (λ (r : Row). r.store) (by j row (ap (λ l. row_in l j) (sym made) ∙ there) gone) ∙ taken))
  where
    by : (j : ℕ) (row : Row) → row_in (map (row_cancelled c) h.tables.rows ++ new ∷ []) j ≡ Some row
        → row_in h.tables.rows j ≡ None → row ≡ new
    by zero row there gone = absurd cc
    by (suc at) row there gone = last_new (row_cancelled c) h.tables.rows new at row there gone

-- ---- stamps

-- the edits before a start are the first of all
before_front : (j : ℕ) (journal : List Entry)
    → edits (before_start j journal) ≡ take (length (edits (before_start j journal))) (edits journal)
before_front j [] = refl
before_front j (x ∷ xs) =
    subst (λ l. edits l ≡ take (length (edits l)) (edits (x ∷ xs))) (sym (before_cons (starts_job j) x xs))
    (by (starts_job j x) (before_front j xs))
  where
    more : (o : Option Edit) (es all : List Edit) → es ≡ take (length es) all
        → cons_option o es ≡ take (length (cons_option o es)) (cons_option o all)
    more None es all h = h
    more (Some e) es all h = ap (λ l. e ∷ l) h

    by : (b : Bool) → edits (before_start j xs) ≡ take (length (edits (before_start j xs))) (edits xs)
        → edits (if b then [] else x ∷ before_start j xs)
        ≡ take (length (edits (if b then [] else x ∷ before_start j xs))) (edits (x ∷ xs))
    by true h = refl
    by false h = more (accepted_edit x.act) (edits (before_start j xs)) (edits xs) h

pub alike_stamps : (p : Project) (journal : List Entry) (j k id : ℕ) (s t : StoreParts)
    → IsBehind p (edits (before_start j journal)) s → IsBehind p (edits (before_start k journal)) t
    → stamps_in s id ≡ stamps_in t id → input_in s id ≡ input_in t id
alike_stamps p journal j k id s t first second same =
    equal_stamps_equal_inputs p (edits journal) (length (edits (before_start j journal))) (length (edits (before_start k journal)))
    id s t (subst (λ es. IsBehind p es s) (before_front j journal) first)
    (subst (λ es. IsBehind p es t) (before_front k journal) second) same

pub present_stamps : (p : Project) (journal : List Entry) (j id : ℕ) (s t : StoreParts)
    → IsBehind p (edits (before_start j journal)) s → IsBehind p (edits journal) t
    → stamps_in s id ≡ stamps_in t id → input_in s id ≡ input_in t id
present_stamps p journal j id s t first second same =
    equal_stamps_equal_inputs p (edits journal) (length (edits (before_start j journal))) (length (edits journal))
    id s t (subst (λ es. IsBehind p es s) (before_front j journal) first)
    (subst (λ es. IsBehind p es t) (sym (whole (edits journal))) second) same
  where
    whole : (es : List Edit) → take (length es) es ≡ es
    whole [] = refl
    whole (e ∷ es) = ap (λ l. e ∷ l) (whole es)
