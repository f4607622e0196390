-- With caller 0 alone and memory enough, one journal follows a script.
use Rattle.std.proofs.Common.{◌≡◌, refl, ap, sym, ◌∙◌, ◌≤◌, ℕ, zero, suc, ◌+◌, Bool, true, false, not, ◌&&◌, if◌then◌else◌}
use Rattle.std.proofs.Common.{List, [], ◌∷◌, Option, Some, None, is_some, option_map, arith}
use Rattle.std.proofs.lemmas.Bool.{false≢true}
use Rattle.cv_model.specs.Layers.{Opening}
use Rattle.cv_model.specs.Views.{PixelGrid}
use Rattle.cv_event.specs.declared.entry.Act.{Act}
use Rattle.cv_event.specs.declared.entry.Entry.{Entry}
use Rattle.cv_event.specs.declared.entry.How.{How}
use Rattle.cv_event.specs.declared.slot.Task.{Task}
use Rattle.cv_event.specs.declared.slot.Task.TheVariants.{Look, Compose}
use Rattle.cv_event.specs.States.{State}
use Rattle.cv_event.specs.Legality.{how, task}
use Rattle.cv_script.specs.declared.script.Numbered.{Numbered}
use Rattle.cv_session.specs.Responses.{Response, Does, Refuses, Gives, Waits, claimed, job_of_task}
use Rattle.cv_session.specs.Plays.{Awaited, Mode, Opens, Begins, GivesOne, GivesAll, Works, Closes, Play}
use Rattle.cv_session.specs.Plays.{begun, begun_next, let_go, given_all, waited, worked, silent_in, silent}
use Rattle.cv_session.specs.Plays.{act_of, planned_next, planned_held, planned_work, planned_in, planned, next_in, through, entered, next, entry_by}
use Rattle.cv_session.specs.Plays.{Plays, stops, quiet, own, failed, other}
use Rattle.cv_session.specs.Follows.{at_first, IsThrough, Follows}
use Rattle.cv_session.specs.Laws.{HasMemory, OneJournalFollows}
use Rattle.cv_session.proofs.PlayLemmas.{Silently, turns, refuses, begins, lets, ends, ends_badly, silently}

-- ---- the play of caller 0 alone, by so many steps

-- a step: silent where one fits, else an entry where one is planned
pub data Step : Type 0 where
  Silent : Play → Step
  Enters : Act → Step
  Rests : Step

abbrev pub step_of : Option Play → Option Act → Step
step_of (Some b) d = Silent b
step_of None (Some d) = Enters d
step_of None None = Rests

-- the entries of so many steps
abbrev pub enters_by : (Play → List Entry) → Step → Play → List Entry
enters_by go (Silent b) a = go b
enters_by go (Enters d) a = entry_by 0 d ∷ go (next d a)
enters_by go Rests a = []

abbrev pub alone : ℕ → Play → List Entry
alone zero a = []
alone (suc n) a = enters_by (alone n) (step_of (silent a) (planned a)) a

-- the play behind them
abbrev pub goes_by : (Play → Play) → Step → Play → Play
goes_by go (Silent b) a = go b
goes_by go (Enters d) a = go (next d a)
goes_by go Rests a = a

abbrev pub behind : ℕ → Play → Play
behind zero a = a
behind (suc n) a = goes_by (behind n) (step_of (silent a) (planned a)) a

-- it is a play of its entries
step_plays : (n : ℕ) (a : Play) (o : Option Play) (p : Option Act) → silent a ≡ o → planned a ≡ p
    → ((b : Play) → Plays 0 b (alone n b) (behind n b))
    → Plays 0 a (enters_by (alone n) (step_of o p) a) (goes_by (behind n) (step_of o p) a)
step_plays n a (Some b) p h g rest = quiet a b _ _ h (rest b)
step_plays n a None (Some d) h g rest = own a _ d _ g (rest (next d a))
step_plays n a None None h g rest = stops a

pub alone_plays : (n : ℕ) (a : Play) → Plays 0 a (alone n a) (behind n a)
alone_plays zero a = stops a
alone_plays (suc n) a = step_plays n a (silent a) (planned a) refl refl (alone_plays n)

-- ---- caller 0 has seen all

abbrev pub KnowsAll : Play → Type 0
KnowsAll a = a.known ≡ a.state

knows_silent : {a b : Play} → Silently a b → KnowsAll a → KnowsAll b
knows_silent (turns m l) k = k
knows_silent (refuses n rest why c e) k = refl
knows_silent (begins n rest m c e g l) k = k
knows_silent (lets m t ts e l h) k = k
knows_silent (ends w m e h) k = refl
knows_silent (ends_badly w m e h) k = refl

knows_through : (cs : List Numbered) (d : Act) (a : Play) → KnowsAll a → KnowsAll (through cs d a)
knows_through [] d a k = k
knows_through (n ∷ rest) d a k = k

knows_next : (m : Mode) (d : Act) (a : Play) → KnowsAll a → KnowsAll (next_in m d a)
knows_next (Opens c views) d a k = k
knows_next Begins d a k = knows_through a.commands d a k
knows_next GivesOne d a k = k
knows_next (GivesAll w) d a k = k
knows_next (Works w) d a k = k
knows_next Closes d a k = k

-- ---- a silent step and an entry never both fit

never_begun : (line : ℕ) (rest : List Numbered) (r : Response) (a b : Play) → begun line rest r a ≡ Some b → act_of r ≡ None
never_begun line rest (Does d) a b h = absurd cc
never_begun line rest (Refuses why) a b h = refl
never_begun line rest Gives a b h = refl
never_begun line rest (Waits j) a b h = refl

never_next : (cs : List Numbered) (a b : Play) → begun_next cs a ≡ Some b → planned_next cs a ≡ None
never_next [] a b h = refl
never_next (n ∷ rest) a b h = never_begun n.line rest _ a b h

never_compose : (x : Bool) (p b : Play) (d : Act) → (if x then Some p else None) ≡ Some b → (if x then None else Some d) ≡ None
never_compose true p b d h = refl
never_compose false p b d h = absurd cc

never_held : (m : Mode) (ts : List Task) (a b : Play) → let_go m ts a ≡ Some b → planned_held ts a ≡ None
never_held m [] a b h = refl
never_held m (Look j at ∷ ts) a b h = absurd cc
never_held m (Compose j ∷ ts) a b h = never_compose (is_some (how a.state j)) _ b _ h

never_given : (w : Awaited) (ts : List Task) (a b : Play) → given_all w ts a ≡ Some b → planned_held ts a ≡ None
never_given w [] a b h = refl
never_given w (t ∷ ts) a b h = never_held (GivesAll w) (t ∷ ts) a b h

never_waited : (w : Awaited) (o : Option How) (d : Option Act) (a b : Play) → waited w o a ≡ Some b → (if is_some o then None else d) ≡ None
never_waited w None d a b h = absurd cc
never_waited w (Some x) d a b h = refl

-- who knows the state is overtaken by nothing
not_overtaken : (x : Bool) → (x && not x) ≡ false
not_overtaken true = refl
not_overtaken false = refl

never_worked : (w : Awaited) (ts : List Task) (a b : Play) → KnowsAll a → worked w ts a ≡ Some b → planned_work w ts a ≡ None
never_worked w [] a b k h =
    ap (λ (s : State). if is_some (how s w.job) then None else option_map (claimed a.state) (task a.state)) k
    ∙ never_waited w (how a.state w.job) _ a b h
never_worked w (t ∷ ts) a b k h = absurd (false≢true (sym (not_overtaken (is_some (how a.state (job_of_task t)))) ∙ ap (λ (s : State). is_some (how a.state (job_of_task t)) && not (is_some (how s (job_of_task t)))) (sym k) ∙ is_true _ _ b h))
  where
    is_true : (x : Bool) (p b : Play) → (if x then Some p else None) ≡ Some b → x ≡ true
    is_true true p b h = refl
    is_true false p b h = absurd cc

never_in : (m : Mode) (a b : Play) → KnowsAll a → silent_in m a ≡ Some b → planned_in m a ≡ None
never_in (Opens c []) a b k h = refl
never_in (Opens c (None ∷ views)) a b k h = refl
never_in (Opens c (Some view ∷ views)) a b k h = absurd cc
never_in Begins a b k h = never_next a.commands a b h
never_in GivesOne a b k h = never_held Begins a.held a b h
never_in (GivesAll w) a b k h = never_given w a.held a b h
never_in (Works w) a b k h = never_worked w a.held a b k h
never_in Closes a b k h = never_held Closes a.held a b h

pub never_both : (a b : Play) → KnowsAll a → silent a ≡ Some b → planned a ≡ None
never_both a b k h = never_in a.mode a b k h

-- so where an entry is planned no silent step fits
loud : (a : Play) (d : Act) (o : Option Play) → KnowsAll a → silent a ≡ o → planned a ≡ Some d → silent a ≡ None
loud a d None k e h = e
loud a d (Some b) k e h = absurd (none_some d (sym (never_both a b k e) ∙ h))
  where
    none_some : (d : Act) → None ≡ Some d → ⊥
    none_some d h = absurd cc

-- ---- a play by entries is the play by steps

-- from so many steps on
abbrev pub Settles : Play → List Entry → Play → Type 0
Settles a es b = (n : ℕ) × ((m : ℕ) → n ≤ m → (alone m a ≡ es) × (behind m a ≡ b))

rests : (m : ℕ) (a : Play) → silent a ≡ None → planned a ≡ None → (alone m a ≡ []) × (behind m a ≡ a)
rests zero a h g = (refl, refl)
rests (suc m) a h g = (
  ap (λ (o : Option Play). enters_by (alone m) (step_of o (planned a)) a) h ∙ ap (λ (p : Option Act). enters_by (alone m) (step_of None p) a) g,
  ap (λ (o : Option Play). goes_by (behind m) (step_of o (planned a)) a) h ∙ ap (λ (p : Option Act). goes_by (behind m) (step_of None p) a) g,
)

settled : (a : Play) → IsThrough a → Settles a [] a
settled a t = (0, λ m l. rests m a (silent_none a t) (planned_none a t))
  where
    silent_none : (a : Play) → IsThrough a → silent a ≡ None
    silent_none a t = ap (λ (m : Mode). silent_in m a) t.mode ∙ ap (λ (ts : List Task). let_go Closes ts a) t.held

    planned_none : (a : Play) → IsThrough a → planned a ≡ None
    planned_none a t = ap (λ (m : Mode). planned_in m a) t.mode ∙ ap (λ (ts : List Task). planned_held ts a) t.held

-- one step more
more_silent : (a b : Play) (m : ℕ) → silent a ≡ Some b → (alone (suc m) a ≡ alone m b) × (behind (suc m) a ≡ behind m b)
more_silent a b m h =
    (ap (λ (o : Option Play). enters_by (alone m) (step_of o (planned a)) a) h, ap (λ (o : Option Play). goes_by (behind m) (step_of o (planned a)) a) h)

more_entered : (a : Play) (d : Act) (m : ℕ) → silent a ≡ None → planned a ≡ Some d
    → (alone (suc m) a ≡ entry_by 0 d ∷ alone m (next d a)) × (behind (suc m) a ≡ behind m (next d a))
more_entered a d m h g = (
  ap (λ (o : Option Play). enters_by (alone m) (step_of o (planned a)) a) h ∙ ap (λ (p : Option Act). enters_by (alone m) (step_of None p) a) g,
  ap (λ (o : Option Play). goes_by (behind m) (step_of o (planned a)) a) h ∙ ap (λ (p : Option Act). goes_by (behind m) (step_of None p) a) g,
)

settles_silent : (a b : Play) (es : List Entry) (c : Play) → silent a ≡ Some b → Settles b es c → Settles a es c
settles_silent a b es c h s = (suc s.0, λ m l. one m l)
  where
    one : (m : ℕ) → suc s.0 ≤ m → (alone m a ≡ es) × (behind m a ≡ c)
    one zero l = absurd (omega (arith, l))
    one (suc m) l =
        let rest = s.1 m (omega (arith, l)) in
        let first = more_silent a b m h in
        (first.0 ∙ rest.0, first.1 ∙ rest.1)

settles_entered : (a : Play) (d : Act) (es : List Entry) (c : Play) → silent a ≡ None → planned a ≡ Some d → Settles (next d a) es c
    → Settles a (entry_by 0 d ∷ es) c
settles_entered a d es c h g s = (suc s.0, λ m l. one m l)
  where
    one : (m : ℕ) → suc s.0 ≤ m → (alone m a ≡ entry_by 0 d ∷ es) × (behind m a ≡ c)
    one zero l = absurd (omega (arith, l))
    one (suc m) l =
        let rest = s.1 m (omega (arith, l)) in
        let first = more_entered a d m h g in
        (first.0 ∙ ap (λ (xs : List Entry). entry_by 0 d ∷ xs) rest.0, first.1 ∙ rest.1)

second_of : (x y : Bool) → (x && y) ≡ true → y ≡ true
second_of true y h = h
second_of false y h = absurd (false≢true h)

pub settles : {a b : Play} {es : List Entry} → KnowsAll a → HasMemory es → IsThrough b → Plays 0 a es b → Settles a es b
settles k m t (stops a) = settled a t
settles k m t (quiet a b c es h r) =
    settles_silent a b es c h (settles (knows_silent (silently a b h) k) m t r)
settles k m t (own a c d es h r) =
    settles_entered a d es c (loud a d (silent a) k refl h) h (settles (knows_next a.mode d (entered d a) refl) (second_of _ _ m) t r)
settles k m t (failed a c j es h r) = absurd (false≢true m)
settles k m t (other a c e es low high is r) = absurd (omega (arith, low, high))

-- so what follows a script is what its play enters
pub follows_alone : (o : Opening) (views : List (Option PixelGrid)) (script : List Numbered) (n : ℕ) → IsThrough (behind n (at_first o views script))
    → Follows o views script 0 (alone n (at_first o views script)) (behind n (at_first o views script)).refused
follows_alone o views script n t =
    record { last = behind n (at_first o views script); plays = alone_plays n _; is_through = t; refused_are = refl }

pub one_journal_follows : OneJournalFollows
one_journal_follows o views script xs ys p q m n f g =
    let s = settles refl m f.is_through f.plays in
    let t = settles refl n g.is_through g.plays in
    let x = s.1 (s.0 + t.0) (omega arith) in
    let y = t.1 (s.0 + t.0) (omega arith) in
    (sym x.0 ∙ y.0, sym f.refused_are ∙ ap (λ (a : Play). a.refused) (sym x.1 ∙ y.1) ∙ g.refused_are)
