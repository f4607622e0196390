-- The task that is due: laws of the first job and of the least slot.
use Rattle.std.proofs.Common.{◌≡◌, ◌∙◌, sym, ap, refl, ℕ, zero, suc, ◌+◌, ◌<◌, true, false, ◌&&◌, List, []}
use Rattle.std.proofs.Common.{◌∷◌, Option, Some, None, is_some, is_none, slice_get, arith, if◌then◌else◌}
use Rattle.std.specs.Option.{option_or}
use Rattle.std.proofs.lemmas.Bool.{false≢true}
use Rattle.cv_event.specs.declared.entry.How.{How}
use Rattle.cv_event.specs.declared.slot.Slot.{Slot}
use Rattle.cv_event.specs.declared.slot.Standing.{Standing}
use Rattle.cv_event.specs.declared.slot.Standing.TheVariants.{Open, Missed, Ready, Lost}
use Rattle.cv_event.specs.declared.slot.Task.TheVariants.{Compose}
use Rattle.cv_event.specs.States.{Job}
use Rattle.cv_event.specs.Legality.{is_ready, is_open, open_slot, all_ready, task_behind, open_task, task_from}
use Rattle.cv_event.specs.Laws.{TaskIsOfTheFirst, TaskIsLeastSlot, ComposeIsDue}

-- an option that is there is the first of two
or_some : {A : Type 0} (o p : Option A) → is_some o ≡ true → option_or o p ≡ o
or_some None p h = absurd (false≢true h)
or_some (Some x) p h = refl

-- the first of jobs numbered from k that has a task
first_task : (k m : ℕ) (jobs : List Job) (job : Job) → slice_get jobs m ≡ Some job → is_some (open_task (k + m) job)
    ≡ true
    → ((i : ℕ) (other : Job) → i < m → slice_get jobs i ≡ Some other → open_task (k + i) other ≡ None)
    → task_from k jobs ≡ open_task (k + m) job
first_task k m [] job is some others = absurd cc
first_task k zero (x ∷ xs) job is some others =
    let same : x ≡ job = cc in
    let number : k ≡ k + 0 = omega arith in
    let same_task : open_task k x ≡ open_task (k + 0) job = λ i. open_task (number i) (same i) in
    or_some (open_task k x) (task_from (suc k) xs) (ap is_some same_task ∙ some) ∙ same_task
first_task k (suc m) (x ∷ xs) job is some others =
    let number : k + suc m ≡ suc k + m = omega arith in
    let none : open_task k x ≡ None = ap (λ n. open_task n x) (first k) ∙ others 0 x (omega arith) refl in
    ap (λ o. option_or o (task_from (suc k) xs)) none
    ∙ first_task (suc k) m xs job is (ap (λ n. is_some (open_task n job)) (sym number) ∙ some)
    (λ i other below there. ap (λ n. open_task n other) (next k i) ∙ others (suc i) other (omega (arith, below)) there)
    ∙ ap (λ n. open_task n job) (sym number)
  where
    first : (k : ℕ) → k ≡ k + 0
    first k = omega arith

    next : (k i : ℕ) → suc k + i ≡ k + suc i
    next k i = omega arith

pub task_is_of_the_first : TaskIsOfTheFirst
task_is_of_the_first s zero job there some others = absurd cc
task_is_of_the_first s (suc m) job there some others =
    first_task 1 m s.jobs job there (ap (λ n. is_some (open_task n job)) (one m) ∙ some)
    (λ i other below is. ap (λ n. open_task n other) (one i) ∙ others (suc i) other (omega (arith, below)) is)
    ∙ ap (λ n. open_task n job) (one m)
  where
    one : (m : ℕ) → 1 + m ≡ suc m
    one m = omega arith

-- ---- the least open slot

open_first : (k m : ℕ) (xs : List Slot) (slot : Slot) → slice_get xs m ≡ Some slot → is_open slot.standing ≡ true
    → ((i : ℕ) (lower : Slot) → i < m → slice_get xs i ≡ Some lower → is_open lower.standing ≡ false)
    → open_slot k xs ≡ Some (k + m)
open_first k m [] slot is opened lowers = absurd cc
open_first k zero (x ∷ xs) slot is opened lowers =
    let same : x ≡ slot = cc in
    let test : is_open x.standing ≡ true = ap (λ (y : Slot). is_open y.standing) same ∙ opened in
    ap (λ b. if b then Some k else open_slot (suc k) xs) test ∙ ap Some (number k)
  where
    number : (k : ℕ) → k ≡ k + 0
    number k = omega arith
open_first k (suc m) (x ∷ xs) slot is opened lowers =
    ap (λ b. if b then Some k else open_slot (suc k) xs) (lowers 0 x (omega arith) refl)
    ∙ open_first (suc k) m xs slot is opened (λ i lower below there. lowers (suc i) lower (omega (arith, below)) there)
    ∙ ap Some (number k m)
  where
    number : (k m : ℕ) → suc k + m ≡ k + suc m
    number k m = omega arith

pub task_is_least_slot : TaskIsLeastSlot
task_is_least_slot j at job slot live is opened lowers =
    ap (λ (o : Option How). if is_some o then None else task_behind j job (open_slot 0 job.slots)) live
    ∙ ap (task_behind j job) (open_first 0 at job.slots slot is opened lowers ∙ ap Some (number at))
  where
    number : (n : ℕ) → 0 + n ≡ n
    number n = omega arith

-- ---- the composition

ready_not_open : (x : Standing) → is_ready x ≡ true → is_open x ≡ false
ready_not_open Open h = absurd (false≢true h)
ready_not_open (Missed who) h = refl
ready_not_open Ready h = refl
ready_not_open Lost h = refl

none_open : (k : ℕ) (xs : List Slot) → ((i : ℕ) (slot : Slot) → slice_get xs i ≡ Some slot → is_ready slot.standing ≡
    true) → open_slot k xs ≡ None
none_open k [] all = refl
none_open k (x ∷ xs) all =
    ap (λ b. if b then Some k else open_slot (suc k) xs) (ready_not_open x.standing (all 0 x refl))
    ∙ none_open (suc k) xs (λ i slot is. all (suc i) slot is)

each_ready : (xs : List Slot) → ((i : ℕ) (slot : Slot) → slice_get xs i ≡ Some slot → is_ready slot.standing ≡ true)
    → all_ready xs ≡ true
each_ready [] all = refl
each_ready (x ∷ xs) all =
    ap (λ b. b && all_ready xs) (all 0 x refl) ∙ each_ready xs (λ i slot is. all (suc i) slot is)

pub compose_is_due : ComposeIsDue
compose_is_due j job live all free =
    ap (λ (o : Option How). if is_some o then None else task_behind j job (open_slot 0 job.slots)) live
    ∙ ap (task_behind j job) (none_open 0 job.slots all)
    ∙ ap (λ b. if b && is_none job.composer then Some (Compose j) else None) (each_ready job.slots all)
    ∙ ap (λ (o : Option ℕ). if is_none o then Some (Compose j) else None) free
