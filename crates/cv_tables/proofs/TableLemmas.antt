-- What a table of jobs keeps.
use Rattle.std.proofs.Common.{◌≡◌, ◌∙◌, sym, ap, refl, subst, ℕ, zero, suc, ◌+◌, ◌*◌, ◌<◌, ◌≤◌, ◌==◌, Bool, true, false, not}
use Rattle.std.proofs.Common.{List, [], ◌∷◌, ◌++◌, length, map, filter, Option, Some, None, option_and_then}
use Rattle.std.proofs.Common.{◌-◌, ◌^◌, slice_index_or, slice_set}
use Rattle.std.proofs.Common.{slice_get, IsSomeAnd, arith, if◌then◌else◌, is_some, nat_eq, drop, ◌||◌}
use Rattle.std.specs.List.{AllByRecursion, list_any}
use Rattle.std.specs.Option.{option_or}
use Rattle.std.proofs.lemmas.Bool.Decides.{nat_tests}
use Rattle.cv_model.specs.declared.edit.Edit.{Edit}
use Rattle.cv_event.specs.declared.entry.How.{How}
use Rattle.cv_event.specs.declared.entry.How.TheVariants.{Cancelled}
use Rattle.cv_event.specs.declared.slot.Slot.{Slot}
use Rattle.cv_event.specs.declared.slot.Task.{Task}
use Rattle.cv_event.specs.States.{change_at, slot_edited}
use Rattle.cv_event.specs.Legality.{open_task, task_from, task_behind, open_slot, is_ready, ready_bits}
use Rattle.cv_event.proofs.PresentLemmas.{all_change, all_at, all_map, all_more}
use Rattle.cv_store.specs.Stores.{project_of}
use Rattle.cv_tables.specs.Rows.{Row, job_of, row_in, change_row, row_ended, row_cancelled, row_edited}
use Rattle.cv_tables.specs.Rows.{cancelled_before, is_missed, missed_weight, end_weight, missed_in, weight, owed}
use Rattle.cv_tables.specs.Rows.{lives_with, lives, task_at, task_over, sweep, IsLiveOn, IsTable}
use Rattle.std.proofs.lemmas.List.{drop_more, drop_all, length-drop}
use Rattle.std.proofs.Math.Nat.{pow-succ', one-le-pow}
use Rattle.cv_tables.proofs.ListLemmas.{length_change, changed, got, within}

-- ---- what is owed

pub owed_change : (f : Row → Row) (rows : List Row) (at : ℕ) (r : Row) → slice_get rows at ≡ Some r
    → owed (change_at at f rows) + weight r ≡ owed rows + weight (f r)
owed_change f [] at r is = absurd cc
owed_change f (x ∷ xs) zero r is =
    let same : x ≡ r = cc in
    subst (λ z. weight (f x) + owed xs + weight z ≡ weight x + owed xs + weight (f z)) same (omega arith)
owed_change f (x ∷ xs) (suc at) r is =
    let rest = owed_change f xs at r is in omega (arith, rest)

pub weight_within : (rows : List Row) (at : ℕ) (r : Row) → slice_get rows at ≡ Some r → weight r ≤ owed rows
weight_within [] at r is = absurd cc
weight_within (x ∷ xs) zero r is =
    let same : x ≡ r = cc in subst (λ z. weight z ≤ weight x + owed xs) same (omega arith)
weight_within (x ∷ xs) (suc at) r is =
    let rest = weight_within xs at r is in omega (arith, rest)

pub owed_more : (rows : List Row) (r : Row) → owed (rows ++ r ∷ []) ≡ owed rows + weight r
owed_more [] r = omega arith
owed_more (x ∷ xs) r = let rest = owed_more xs r in omega (arith, rest)

missed_one : (slot : Slot) → missed_weight slot ≤ 1
missed_one slot = by (is_missed slot.standing)
  where
    by : (b : Bool) → (if b then 1 else 0) ≤ 1
    by true = omega arith
    by false = omega arith

pub missed_bound : (list : List Slot) → missed_in list ≤ length list
missed_bound [] = omega arith
missed_bound (slot ∷ list) = let rest = missed_bound list in let one = missed_one slot in omega (arith, rest, one)

end_one : (o : Option How) → end_weight o ≤ 1
end_one None = omega arith
end_one (Some how) = omega arith

abbrev pub IsShortRow : Row → Type 0
IsShortRow row = length row.slots ≤ 32

pub weight_bound : (row : Row) → IsShortRow row → weight row ≤ 33
weight_bound row short =
    let most = missed_bound row.slots in let one = end_one row.ended in omega (arith, most, one, short)

pub owed_bound : (rows : List Row) → AllByRecursion IsShortRow rows → owed rows ≤ 33 * length rows
owed_bound [] short = omega arith
owed_bound (x ∷ xs) short =
    let rest = owed_bound xs short.1 in let most = weight_bound x short.0 in omega (arith, rest, most)

-- the counter stays in range, and it falls by no more than it is
pub due_bound : (rows : List Row) (live : List ℕ) (due : ℕ) → IsTable rows live due → due ≤ 141733920735
due_bound rows live due kept =
    let most = owed_bound rows kept.short in
    let few = kept.few in let is = kept.due_is in omega (arith, most, few, is)

-- ---- the jobs without end

abbrev pub is_not : ℕ → ℕ → Bool
is_not at p = not (p == at)

abbrev pub KeepsEnd : (Row → Row) → Type 0
KeepsEnd f = (row : Row) → (f row).ended ≡ row.ended

pub lives_same : (f : Row → Row) → KeepsEnd f → (rows : List Row) (at : ℕ) → lives (change_at at f rows) ≡ lives rows
lives_same f keeps [] at = refl
lives_same f keeps (x ∷ xs) zero = ap (λ o. lives_with o (lives xs)) (keeps x)
lives_same f keeps (x ∷ xs) (suc at) = ap (lives_with x.ended) (lives_same f keeps xs at)

no_zero : (ps : List ℕ) → filter (is_not 0) (map suc ps) ≡ map suc ps
no_zero [] = refl
no_zero (p ∷ ps) =
    let pass : is_not 0 (suc p) ≡ true = grind (arith, nat_tests) in
    λ i. if pass i then suc p ∷ no_zero ps i else no_zero ps i

suc_test : (at p : ℕ) → is_not (suc at) (suc p) ≡ is_not at p
suc_test at p = grind (arith, nat_tests)

keep_suc : (at : ℕ) (ps : List ℕ) → filter (is_not (suc at)) (map suc ps) ≡ map suc (filter (is_not at) ps)
keep_suc at [] = refl
keep_suc at (p ∷ ps) =
    (λ i. if suc_test at p i then suc p ∷ keep_suc at ps i else keep_suc at ps i) ∙ by (is_not at p)
  where
    by : (b : Bool) → (if b then suc p ∷ map suc (filter (is_not at) ps) else map suc (filter (is_not at) ps))
        ≡ map suc (if b then p ∷ filter (is_not at) ps else filter (is_not at) ps)
    by true = refl
    by false = refl

zero_out : (ps : List ℕ) → filter (is_not 0) (0 ∷ map suc ps) ≡ map suc ps
zero_out ps =
    let fail : is_not 0 0 ≡ false = grind (arith, nat_tests) in
    (λ i. if fail i then 0 ∷ filter (is_not 0) (map suc ps) else filter (is_not 0) (map suc ps)) ∙ no_zero ps

zero_stays : (at : ℕ) (ps : List ℕ) → filter (is_not (suc at)) (0 ∷ map suc ps) ≡ 0 ∷ map suc (filter (is_not at) ps)
zero_stays at ps =
    let pass : is_not (suc at) 0 ≡ true = grind (arith, nat_tests) in
    (λ i. if pass i then 0 ∷ filter (is_not (suc at)) (map suc ps) else filter (is_not (suc at)) (map suc ps))
    ∙ ap (λ l. 0 ∷ l) (keep_suc at ps)

pub lives_end : (how : How) (rows : List Row) (at : ℕ) → lives (change_at at (row_ended how) rows) ≡ filter (is_not at) (lives
    rows)
lives_end how [] at = refl
lives_end how (x ∷ xs) zero = by x.ended
  where
    by : (o : Option How) → lives_with (option_or o (Some how)) (lives xs) ≡ filter (is_not 0) (lives_with o (lives xs))
    by None = sym (zero_out (lives xs))
    by (Some g) = sym (no_zero (lives xs))
lives_end how (x ∷ xs) (suc at) = ap (lives_with x.ended) (lives_end how xs at) ∙ by x.ended
  where
    by : (o : Option How) → lives_with o (filter (is_not at) (lives xs)) ≡ filter (is_not (suc at)) (lives_with o (lives xs))
    by None = sym (zero_stays at (lives xs))
    by (Some g) = sym (keep_suc at (lives xs))

map_behind : (ps : List ℕ) (n : ℕ) → map suc (ps ++ n ∷ []) ≡ map suc ps ++ suc n ∷ []
map_behind [] n = refl
map_behind (p ∷ ps) n = ap (λ l. suc p ∷ l) (map_behind ps n)

pub lives_more : (rows : List Row) (r : Row) → r.ended ≡ None → lives (rows ++ r ∷ []) ≡ lives rows ++ length rows ∷ []
lives_more [] r none = ap (λ o. lives_with o []) none
lives_more (x ∷ xs) r none = ap (lives_with x.ended) (lives_more xs r none) ∙ by x.ended
  where
    by : (o : Option How) → lives_with o (lives xs ++ length xs ∷ []) ≡ lives_with o (lives xs) ++ suc (length xs) ∷ []
    by None = ap (λ l. 0 ∷ l) (map_behind (lives xs) (length xs))
    by (Some g) = map_behind (lives xs) (length xs)

-- the places are of jobs without end
abbrev pub IsLiveAt : List Row → ℕ → Type 0
IsLiveAt rows at = IsSomeAnd (slice_get rows at) (λ row. row.ended ≡ None)

pub live_there : (rows : List Row) → AllByRecursion (IsLiveAt rows) (lives rows)
live_there [] = tt
live_there (x ∷ xs) = by x.ended refl (all_map (IsLiveAt xs) (IsLiveAt (x ∷ xs)) suc (λ p h. h) (lives xs) (live_there xs))
  where
    by : (o : Option How) → x.ended ≡ o → AllByRecursion (IsLiveAt (x ∷ xs)) (map suc (lives xs))
        → AllByRecursion (IsLiveAt (x ∷ xs)) (lives_with o (lives xs))
    by None is h = (is, h)
    by (Some g) is h = h

-- and all of them
in_suc : (at : ℕ) (ps : List ℕ) → list_any (nat_eq (suc at)) (map suc ps) ≡ list_any (nat_eq at) ps
in_suc at [] = refl
in_suc at (p ∷ ps) =
    let same : nat_eq (suc at) (suc p) ≡ nat_eq at p = grind (arith, nat_tests) in
    λ i. same i || in_suc at ps i

pub live_listed : (rows : List Row) (at : ℕ) → IsLiveAt rows at → list_any (nat_eq at) (lives rows) ≡ true
live_listed [] at is = absurd is
live_listed (x ∷ xs) zero is =
    let pass : nat_eq 0 0 ≡ true = grind (arith, nat_tests) in
    ap (λ o. list_any (nat_eq 0) (lives_with o (lives xs))) is ∙ (λ i. pass i || list_any (nat_eq 0) (map suc (lives xs)))
live_listed (x ∷ xs) (suc at) is = by x.ended (in_suc at (lives xs) ∙ live_listed xs at is)
  where
    by : (o : Option How) → list_any (nat_eq (suc at)) (map suc (lives xs)) ≡ true
        → list_any (nat_eq (suc at)) (lives_with o (lives xs)) ≡ true
    by None rest =
        let fail : nat_eq (suc at) 0 ≡ false = grind (arith, nat_tests) in
        (λ i. fail i || list_any (nat_eq (suc at)) (map suc (lives xs))) ∙ rest
    by (Some g) rest = rest

-- what is listed and isn't the first is in the rest
pub in_rest : (at p : ℕ) (ps : List ℕ) → list_any (nat_eq at) (p ∷ ps) ≡ true → (at ≡ p → ⊥) → list_any (nat_eq at) ps
    ≡ true
in_rest at p ps is other =
    let fail : nat_eq at p ≡ false = grind (arith, nat_tests, other) in
    sym (λ i. fail i || list_any (nat_eq at) ps) ∙ is

-- ---- changes that keep a table

pub changed_kept : (f : Row → Row) (rows : List Row) (live : List ℕ) (due next : ℕ) (at : ℕ) (r : Row) → KeepsEnd f
    → ((row : Row) → length (f row).slots ≡ length row.slots) → slice_get rows at ≡ Some r
    → next + weight r ≡ due + weight (f r) → IsTable rows live due → IsTable (change_at at f rows) live next
changed_kept f rows live due next at r ends sizes there count kept =
    let sum = owed_change f rows at r there in let is = kept.due_is in record {
      live_is = kept.live_is ∙ sym (lives_same f ends rows at);
      due_is = omega (arith, sum, count, is);
      few = subst (λ n. n ≤ 4294967295) (sym (length_change f rows at)) kept.few;
      short = all_change IsShortRow f (λ row h. subst (λ n. n ≤ 32) (sym (sizes row)) h) rows at kept.short;
    }

pub ended_kept : (how : How) (rows : List Row) (live rest : List ℕ) (due next : ℕ) (at : ℕ) (r : Row) → slice_get rows at
    ≡ Some r → next + weight r ≡ due + weight (row_ended how r) → rest ≡ filter (is_not at) live
    → IsTable rows live due → IsTable (change_at at (row_ended how) rows) rest next
ended_kept how rows live rest due next at r there count out kept =
    let sum = owed_change (row_ended how) rows at r there in let is = kept.due_is in record {
      live_is = out ∙ ap (filter (is_not at)) kept.live_is ∙ sym (lives_end how rows at);
      due_is = omega (arith, sum, count, is);
      few = subst (λ n. n ≤ 4294967295) (sym (length_change (row_ended how) rows at)) kept.few;
      short = all_change IsShortRow (row_ended how) (λ row h. h) rows at kept.short;
    }

length_more : (rows : List Row) (r : Row) → length (rows ++ r ∷ []) ≡ suc (length rows)
length_more [] r = refl
length_more (x ∷ xs) r = ap suc (length_more xs r)

pub pushed_kept : (rows : List Row) (live : List ℕ) (due next place : ℕ) (r : Row) → place ≡ length rows
    → length rows < 4294967295 → IsShortRow r → r.ended ≡ None → next ≡ due + weight r → IsTable rows live due
    → IsTable (rows ++ r ∷ []) (live ++ place ∷ []) next
pushed_kept rows live due next place r is few short none count kept =
    let more = length_more rows r in let was = kept.due_is in record {
      live_is = (λ i. kept.live_is i ++ is i ∷ []) ∙ sym (lives_more rows r none);
      due_is = let sum = owed_more rows r in omega (arith, sum, count, was);
      few = omega (arith, more, few);
      short = all_more IsShortRow rows (r ∷ []) kept.short (short, tt);
    }

-- ---- the task

over_suc : (number : ℕ → ℕ) (xs : List Row) (x : Row) (ps : List ℕ) → task_over (λ p. number (suc p)) xs ps
    ≡ task_over number (x ∷ xs) (map suc ps)
over_suc number xs x [] = refl
over_suc number xs x (p ∷ ps) = ap (option_or (task_at (λ p. number (suc p)) xs p)) (over_suc number xs x ps)

pub tasks_law : (number : ℕ → ℕ) → ((p : ℕ) → number (suc p) ≡ suc (number p)) → (rows : List Row)
    → task_from (number 0) (map job_of rows) ≡ task_over number rows (lives rows)
tasks_law number next [] = refl
tasks_law number next (x ∷ xs) =
    ap (option_or (open_task (number 0) (job_of x)))
    (ap (λ n. task_from n (map job_of xs)) (sym (next 0)) ∙ tasks_law (λ p. number (suc p)) (λ p. next (suc p)) xs
    ∙ over_suc number xs x (lives xs)) ∙ by x.ended refl
  where
    rest : Option Task
    rest = task_over number (x ∷ xs) (map suc (lives xs))

    by : (o : Option How) → x.ended ≡ o → option_or (open_task (number 0) (job_of x)) rest ≡ task_over number (x ∷ xs)
        (lives_with o (lives xs))
    by None is = refl
    by (Some g) is = ap (λ (e : Option How). option_or (if is_some e then None else task_behind (number 0) (job_of x)
        (open_slot 0 x.slots)) rest) is

-- ---- a pass over the jobs without end

abbrev pub IsIdle : (Row → Row) → Type 0
IsIdle f = (row : Row) (how : How) → row.ended ≡ Some how → f row ≡ row

sweep_suc : (f : Row → Row) (ps : List ℕ) (x : Row) (xs : List Row) → sweep f (map suc ps) (x ∷ xs) ≡ x ∷ sweep f ps xs
sweep_suc f [] x xs = refl
sweep_suc f (p ∷ ps) x xs = sweep_suc f ps x (change_at p f xs)

pub swept : (f : Row → Row) → IsIdle f → (rows : List Row) → sweep f (lives rows) rows ≡ map f rows
swept f idle [] = refl
swept f idle (x ∷ xs) = by x.ended refl (swept f idle xs)
  where
    by : (o : Option How) → x.ended ≡ o → sweep f (lives xs) xs ≡ map f xs
        → sweep f (lives_with o (lives xs)) (x ∷ xs) ≡ f x ∷ map f xs
    by None is rest = sweep_suc f (lives xs) (f x) xs ∙ ap (λ l. f x ∷ l) rest
    by (Some g) is rest = sweep_suc f (lives xs) x xs ∙ (λ i. sym (idle x g is) i ∷ rest i)

-- ---- cancels

cancel_twice : (c : ℕ) (row : Row) → row.canvas ≡ c → row_cancelled c (row_ended Cancelled row) ≡ row_cancelled c row
cancel_twice c row on =
    let pass : (row.canvas == c) ≡ true = grind (arith, nat_tests, on) in
    (λ i. if pass i then row_ended Cancelled (row_ended Cancelled row) else row_ended Cancelled row) ∙ by row.ended
    ∙ sym (λ i. if pass i then row_ended Cancelled row else row)
  where
    by : (o : Option How) → record row { ended = option_or (option_or o (Some Cancelled)) (Some Cancelled) }
        ≡ record row { ended = option_or o (Some Cancelled) }
    by None = refl
    by (Some g) = refl

pub cancel_step : (c n : ℕ) (rows : List Row) (at : ℕ) (r : Row) → suc at ≤ n → slice_get rows at ≡ Some r → r.canvas ≡ c
    → cancelled_before c n (change_at at (row_ended Cancelled) rows) ≡ cancelled_before c n rows
cancel_step c zero rows at r h is on = absurd (omega (arith, h))
cancel_step c (suc n) [] at r h is on = absurd cc
cancel_step c (suc n) (x ∷ xs) zero r h is on =
    let same : x ≡ r = cc in
    ap (λ z. z ∷ cancelled_before c n xs) (cancel_twice c x (ap (λ (z : Row). z.canvas) same ∙ on))
cancel_step c (suc n) (x ∷ xs) (suc at) r h is on =
    ap (λ l. row_cancelled c x ∷ l) (cancel_step c n xs at r (omega (arith, h)) is on)

pub cancel_none : (c n : ℕ) (rows : List Row) → ((at : ℕ) → suc at ≤ n → IsLiveOn c rows at → ⊥)
    → cancelled_before c n rows ≡ rows
cancel_none c zero rows none = refl
cancel_none c (suc n) [] none = refl
cancel_none c (suc n) (x ∷ xs) none =
    λ i. by (x.canvas == c) refl i ∷ cancel_none c n xs (λ at h is. none (suc at) (omega (arith, h)) is) i
  where
    ended : (o : Option How) → x.ended ≡ o → x.canvas ≡ c → record x { ended = option_or o (Some Cancelled) } ≡ record x { ended = o }
    ended None is on = absurd (none 0 (omega arith) (on, is))
    ended (Some g) is on = refl

    by : (b : Bool) → (x.canvas == c) ≡ b → (if b then row_ended Cancelled x else x) ≡ x
    by true test = ended x.ended refl (grind (arith, nat_tests, test))
    by false test = refl

pub cancel_all : (c : ℕ) (rows : List Row) (y : Row) → cancelled_before c (length rows) (rows ++ y ∷ []) ≡ map (row_cancelled c)
    rows ++ y ∷ []
cancel_all c [] y = refl
cancel_all c (x ∷ xs) y = ap (λ l. row_cancelled c x ∷ l) (cancel_all c xs y)

-- ---- jobs by number

pub row_none : (f : Row → Row) (rows : List Row) (j : ℕ) → row_in rows j ≡ None → change_row j f rows ≡ rows
row_none f rows zero none = refl
row_none f rows (suc at) none = by rows at none
  where
    by : (rows : List Row) (at : ℕ) → slice_get rows at ≡ None → change_at at f rows ≡ rows
    by [] at none = refl
    by (x ∷ xs) zero none = absurd cc
    by (x ∷ xs) (suc at) none = ap (λ l. x ∷ l) (by xs at none)

-- an end is one entry less
pub lighter : (how : How) (row : Row) → row.ended ≡ None → weight (row_ended how row) + 1 ≡ weight row
lighter how row none =
    let before = ap end_weight none in
    let after = ap (λ o. end_weight (option_or o (Some how))) none in omega (arith, before, after)

-- ---- an edit keeps ends and weights

pub edited_end : (e : Edit) → KeepsEnd (row_edited e)
edited_end e row = by row.ended refl
  where
    by : (o : Option How) → row.ended ≡ o → (if is_some o then row else record row { slots = map (slot_edited (project_of row.store) e) row.slots }).ended ≡ row.ended
    by None is = refl
    by (Some g) is = refl

missed_edited : (e : Edit) (row : Row) (list : List Slot) → missed_in (map (slot_edited (project_of row.store) e) list) ≡ missed_in list
missed_edited e row [] = refl
missed_edited e row (slot ∷ list) = ap (λ n. missed_weight slot + n) (missed_edited e row list)

pub edited_weight : (e : Edit) (row : Row) → weight (row_edited e row) ≡ weight row
edited_weight e row = by row.ended
  where
    by : (o : Option How) → weight (if is_some o then row else record row { slots = map (slot_edited (project_of row.store) e) row.slots }) ≡ weight row
    by None = ap (λ n. end_weight row.ended + n) (missed_edited e row row.slots)
    by (Some g) = refl

length_map : (e : Edit) (row : Row) (list : List Slot) → length (map (slot_edited (project_of row.store) e) list) ≡ length list
length_map e row [] = refl
length_map e row (slot ∷ list) = ap suc (length_map e row list)

pub edited_size : (e : Edit) (row : Row) → length (row_edited e row).slots ≡ length row.slots
edited_size e row = by row.ended
  where
    by : (o : Option How) → length (if is_some o then row else record row { slots = map (slot_edited (project_of row.store) e) row.slots }).slots ≡ length row.slots
    by None = length_map e row row.slots
    by (Some g) = refl

pub edited_idle : (e : Edit) → IsIdle (row_edited e)
edited_idle e row how is = ap (λ (o : Option How). if is_some o then row else record row { slots = map (slot_edited (project_of row.store) e) row.slots }) is

-- ---- what a write at a place makes of a table

pub table_changed : (f : Row → Row) (rows : List Row) (live : List ℕ) (due next at : ℕ) (x y : Row) → KeepsEnd f
    → ((row : Row) → length (f row).slots ≡ length row.slots) → at < length rows → x ≡ slice_index_or rows at x → y ≡ f x
    → next + weight x ≡ due + weight y → IsTable rows live due → IsTable (slice_set rows at y) live next
table_changed f rows live due next at x y ends sizes h is made count kept =
    subst (λ l. IsTable l live next) (sym (changed f rows at x y is made))
    (changed_kept f rows live due next at x ends sizes (got rows at x h is) (count ∙ ap (λ z. due + weight z) made) kept)

pub table_ended : (how : How) (rows : List Row) (live rest : List ℕ) (due next at : ℕ) (x y : Row) → at < length rows
    → x ≡ slice_index_or rows at x → y ≡ row_ended how x → next + weight x ≡ due + weight y → rest ≡ filter (is_not at) live
    → IsTable rows live due → IsTable (slice_set rows at y) rest next
table_ended how rows live rest due next at x y h is made count out kept =
    subst (λ l. IsTable l rest next) (sym (changed (row_ended how) rows at x y is made))
    (ended_kept how rows live rest due next at x (got rows at x h is) (count ∙ ap (λ z. due + weight z) made) out kept)

-- the counter neither passes its type nor falls below zero
pub add_fits : (rows : List Row) (live : List ℕ) (due after : ℕ) (y : Row) → after ≡ weight y → length y.slots ≤ 32
    → IsTable rows live due → due + after < 18446744073709551616
add_fits rows live due after y is short kept =
    let most = due_bound rows live due kept in let one = weight_bound y short in omega (arith, most, one, is)

pub sub_fits : (rows : List Row) (live : List ℕ) (due before at : ℕ) (x : Row) → at < length rows → x ≡ slice_index_or rows at x
    → before ≡ weight x → IsTable rows live due → before ≤ due
sub_fits rows live due before at x h is was kept =
    let most = weight_within rows at x (got rows at x h is) in let sum = kept.due_is in omega (arith, most, was, sum)

pub counted : (due before after w v : ℕ) → before ≤ due → before ≡ w → after ≡ v → due + after - before + w ≡ due + v
counted due before after w v h is so = omega (arith, h, is, so)

pub inside : {A : Type 0} (rows seen : List A) (at : ℕ) → rows ≡ seen → at < length seen → at < length rows
inside rows seen at same h = subst (λ l. at < length l) (sym same) h

-- ---- reading the places of the jobs without end

pub live_at : (c : ℕ) (rows : List Row) (at : ℕ) → IsLiveOn c rows at → IsLiveAt rows at
live_at c rows at is = by (slice_get rows at) is
  where
    by : (o : Option Row) → IsSomeAnd o (λ row. (row.canvas ≡ c) × (row.ended ≡ None)) → IsSomeAnd o (λ row. row.ended ≡ None)
    by None h = h
    by (Some r) h = h.1

pub live_within : (rows : List Row) (at : ℕ) → IsLiveAt rows at → at < length rows
live_within rows at is = by (slice_get rows at) refl is
  where
    by : (o : Option Row) → slice_get rows at ≡ o → IsSomeAnd o (λ (row : Row). row.ended ≡ None) → at < length rows
    by None there h = absurd h
    by (Some r) there h = within rows at r there

pub live_place : (rows : List Row) (live : List ℕ) (k p : ℕ) → live ≡ lives rows → k < length live → p ≡ slice_index_or live k p
    → IsLiveAt rows p
live_place rows live k p is h at =
    all_at (IsLiveAt rows) live k p (subst (AllByRecursion (IsLiveAt rows)) (sym is) (live_there rows)) (got live k p h at)

pub live_on : (c : ℕ) (rows : List Row) (p : ℕ) (row : Row) → IsLiveAt rows p → row ≡ slice_index_or rows p row → row.canvas ≡ c
    → IsLiveOn c rows p
live_on c rows p row is at on = by (slice_get rows p) (got rows p row (live_within rows p is) at) is
  where
    by : (o : Option Row) → o ≡ Some row → IsSomeAnd o (λ r. r.ended ≡ None) → IsSomeAnd o (λ r. (r.canvas ≡ c) × (r.ended ≡ None))
    by None there h = absurd h
    by (Some r) there h = let same : r ≡ row = cc in (ap (λ (z : Row). z.canvas) same ∙ on, h)

pub off_canvas : (c : ℕ) (rows : List Row) (p : ℕ) (row : Row) → p < length rows → row ≡ slice_index_or rows p row
    → (row.canvas ≡ c → ⊥) → IsLiveOn c rows p → ⊥
off_canvas c rows p row h at off is = by (slice_get rows p) (got rows p row h at) is
  where
    by : (o : Option Row) → o ≡ Some row → IsSomeAnd o (λ r. (r.canvas ≡ c) × (r.ended ≡ None)) → ⊥
    by None there h = h
    by (Some r) there h = let same : row ≡ r = cc in off (ap (λ (z : Row). z.canvas) same ∙ h.0)

-- one place further
pub rest_listed : (live : List ℕ) (k p at : ℕ) → k < length live → p ≡ slice_index_or live k p
    → list_any (nat_eq at) (drop k live) ≡ true → (at ≡ p → ⊥) → list_any (nat_eq at) (drop (k + 1) live) ≡ true
rest_listed live k p at h is any other =
    in_rest at p (drop (k + 1) live)
    (subst (λ q. list_any (nat_eq at) (q ∷ drop (k + 1) live) ≡ true) (sym is)
    (subst (λ l. list_any (nat_eq at) l ≡ true) (drop_more live k p h) any)) other

-- ---- reading tasks

task_read : (rows : List Row) (live : List ℕ) (k p : ℕ) (row : Row) → live ≡ lives rows → k < length live
    → p ≡ slice_index_or live k p → row ≡ slice_index_or rows p row
    → task_over suc rows (drop k live) ≡ option_or (open_task (suc p) (job_of row)) (task_over suc rows (drop (k + 1) live))
task_read rows live k p row is h at there =
    let on = got rows p row (live_within rows p (live_place rows live k p is h at)) there in
    ap (task_over suc rows) (drop_more live k p h)
    ∙ ap (λ q. option_or (task_at suc rows q) (task_over suc rows (drop (k + 1) live))) (sym at)
    ∙ ap (λ o. option_or (option_and_then (λ r. open_task (suc p) (job_of r)) o) (task_over suc rows (drop (k + 1) live))) on

pub task_found : (rows : List Row) (live : List ℕ) (k p : ℕ) (row : Row) (task : Task) → live ≡ lives rows → k < length live
    → p ≡ slice_index_or live k p → row ≡ slice_index_or rows p row → open_task (p + 1) (job_of row) ≡ Some task
    → task_over suc rows (drop k (lives rows)) ≡ task_over suc rows (lives rows)
    → Some task ≡ task_from 1 (map job_of rows)
task_found rows live k p row task is h at there found kept =
    let next : suc p ≡ p + 1 = omega arith in
    sym (ap (λ l. task_over suc rows (drop k l)) (sym is) ∙ task_read rows live k p row is h at there
    ∙ ap (λ n. option_or (open_task n (job_of row)) (task_over suc rows (drop (k + 1) live))) next
    ∙ ap (λ o. option_or o (task_over suc rows (drop (k + 1) live))) found)
    ∙ kept ∙ sym (tasks_law suc (λ q. refl) rows)

pub task_further : (rows : List Row) (live : List ℕ) (k p : ℕ) (row : Row) → live ≡ lives rows → k < length live
    → p ≡ slice_index_or live k p → row ≡ slice_index_or rows p row → open_task (p + 1) (job_of row) ≡ None
    → task_over suc rows (drop k (lives rows)) ≡ task_over suc rows (lives rows)
    → task_over suc rows (drop (k + 1) (lives rows)) ≡ task_over suc rows (lives rows)
task_further rows live k p row is h at there none kept =
    let next : suc p ≡ p + 1 = omega arith in
    ap (λ l. task_over suc rows (drop (k + 1) l)) (sym is)
    ∙ sym (ap (λ l. task_over suc rows (drop k l)) (sym is) ∙ task_read rows live k p row is h at there
    ∙ ap (λ n. option_or (open_task n (job_of row)) (task_over suc rows (drop (k + 1) live))) next
    ∙ ap (λ o. option_or o (task_over suc rows (drop (k + 1) live))) none)
    ∙ kept

pub task_none : (rows : List Row) (k : ℕ) → length (lives rows) ≤ k
    → task_over suc rows (drop k (lives rows)) ≡ task_over suc rows (lives rows) → None ≡ task_from 1 (map job_of rows)
task_none rows k h kept =
    sym (ap (task_over suc rows) (drop_all k (lives rows) h)) ∙ kept ∙ sym (tasks_law suc (λ q. refl) rows)

-- ---- a step of a pass

pub sweep_step : (f : Row → Row) (rows next : List Row) (live : List ℕ) (k p : ℕ) → KeepsEnd f → live ≡ lives rows
    → k < length live → p ≡ slice_index_or live k p → next ≡ change_at p f rows
    → sweep f (drop (k + 1) (lives next)) next ≡ sweep f (drop k (lives rows)) rows
sweep_step f rows next live k p keeps is h at made =
    ap (λ l. sweep f (drop (k + 1) (lives l)) l) made
    ∙ ap (λ l. sweep f (drop (k + 1) l) (change_at p f rows)) (lives_same f keeps rows p ∙ sym is)
    ∙ ap (λ q. sweep f (drop (k + 1) live) (change_at q f rows)) at
    ∙ sym (ap (λ l. sweep f l rows) (drop_more live k p h))
    ∙ ap (λ l. sweep f (drop k l) rows) is

pub sweep_over : (f : Row → Row) (rows : List Row) (k : ℕ) → length (lives rows) ≤ k → sweep f (drop k (lives rows)) rows ≡ rows
sweep_over f rows k h = ap (λ l. sweep f l rows) (drop_all k (lives rows) h)

-- ---- a step of the cancels

pub cancel_on : (c n : ℕ) (rows next : List Row) (at : ℕ) → suc at ≤ n → IsLiveOn c rows at
    → next ≡ change_at at (row_ended Cancelled) rows → cancelled_before c n next ≡ cancelled_before c n rows
cancel_on c n rows next at h is made = ap (cancelled_before c n) made ∙ by (slice_get rows at) refl is
  where
    by : (o : Option Row) → slice_get rows at ≡ o → IsSomeAnd o (λ row. (row.canvas ≡ c) × (row.ended ≡ None))
        → cancelled_before c n (change_at at (row_ended Cancelled) rows) ≡ cancelled_before c n rows
    by None there h2 = absurd h2
    by (Some r) there h2 = cancel_step c n rows at r h there h2.0

pub cancel_smaller : (c : ℕ) (rows next : List Row) (at : ℕ) → IsLiveOn c rows at
    → next ≡ change_at at (row_ended Cancelled) rows → owed next < owed rows
cancel_smaller c rows next at is made = subst (λ l. owed l < owed rows) (sym made) (by (slice_get rows at) refl is)
  where
    by : (o : Option Row) → slice_get rows at ≡ o → IsSomeAnd o (λ row. (row.canvas ≡ c) × (row.ended ≡ None))
        → owed (change_at at (row_ended Cancelled) rows) < owed rows
    by None there h = absurd h
    by (Some r) there h =
        let sum = owed_change (row_ended Cancelled) rows at r there in
        let one = lighter Cancelled r h.1 in omega (arith, sum, one)

-- ---- the place of a job

pub change_place : (f : Row → Row) (rows new : List Row) (j at : ℕ) → j ≡ suc at → new ≡ change_at at f rows
    → new ≡ change_row j f rows
change_place f rows new j at is made = made ∙ ap (λ n. change_row n f rows) (sym is)

-- ---- bits

bits_below : (left : ℕ) (xs : List Slot) → length xs ≤ left → ready_bits xs < 2 ^ left
bits_below left [] few = one-le-pow left 2 (omega arith)
bits_below zero (x ∷ xs) few = absurd (omega (arith, few))
bits_below (suc left) (x ∷ xs) few = by (is_ready x.standing) (bits_below left xs (omega (arith, few)))
  where
    by : (b : Bool) → ready_bits xs < 2 ^ left → 2 * ready_bits xs + (if b then 1 else 0) < 2 ^ suc left
    by true below = omega (arith, below, pow-succ' 2 left)
    by false below = omega (arith, below, pow-succ' 2 left)

pub bits_small : (xs : List Slot) (at bits : ℕ) → length xs ≤ 32 → bits ≡ ready_bits (drop at xs) → bits < 4294967296
bits_small xs at bits few is =
    let size = length-drop at xs in
    let below = bits_below 32 (drop at xs) (omega (arith, size, few)) in omega (arith, below, is)

pub past_count : (count at p : ℕ) → suc at ≤ count → at ≡ p → count ≤ p → ⊥
past_count count at p h same far = omega (arith, h, same, far)

pub smaller : (next now : List ℕ) (k : ℕ) → next ≡ now → k < length now → length next - (k + 1) < length now - k
smaller next now k same h = subst (λ l. length l - (k + 1) < length now - k) (sym same) (omega (arith, h))

pub few_rows : (rows seen : List Row) → rows ≡ seen → length seen < 4294967295 → length rows < 4294967295
few_rows rows seen same h = subst (λ l. length l < 4294967295) (sym same) h
