-- What a play has written is what its script, its journal and its refused commands say.
use Rattle.std.proofs.Common.{◌≡◌, inl, ⊎_elim, refl, ap, sym, ◌∙◌, subst, ◌≤◌, ◌<◌, ℕ, suc, ◌==◌, ◌+◌, Bool, true, false, ◌||◌, if◌then◌else◌}
use Rattle.std.proofs.Common.{List, [], ◌∷◌, ◌++◌, length, map, zip, fold, slice_get, append_assoc, Option, Some, None, is_some, option_map, option_and_then, option_to_list, arith, IsSome, IsSomeAnd, Result, Ok, Err}
use Rattle.std.specs.List.{AllByRecursion, cons_option}
use Rattle.std.specs.Option.{option_or}
use Rattle.std.proofs.lemmas.List.{append-nil}
use Rattle.std.proofs.lemmas.Bool.Decides.{nat_tests}
use Rattle.cv_model.specs.declared.colour.Rgb.{Rgb}
use Rattle.cv_model.specs.Layers.{Opening}
use Rattle.cv_model.specs.Views.{PixelGrid}
use Rattle.cv_model.specs.Pictures.{picture, picture_with}
use Rattle.cv_model.specs.Rasters.{Raster}
use Rattle.cv_geom.specs.declared.views.ViewError.{ViewError}
use Rattle.cv_geom.specs.Views.{view_of, pan, zoom}
use Rattle.cv_event.specs.declared.entry.Act.{Act}
use Rattle.cv_event.specs.declared.entry.Act.TheVariants as act
use Rattle.cv_event.specs.declared.entry.Entry.{Entry}
use Rattle.cv_event.specs.declared.refused.Reason.{Reason}
use Rattle.cv_event.specs.declared.refused.Reason.TheVariants as reason
use Rattle.cv_event.specs.declared.refused.Refused.{Refused}
use Rattle.cv_event.specs.States.{Taken, Job, Canvas, State, job_in, view_on, taken_of, did, after, begin, replay}
use Rattle.cv_event.specs.Legality.{Allows, LegalFrom, IsLegal}
use Rattle.cv_event.specs.Histories.{taken}
use Rattle.cv_event.specs.Lines.{listed_slots}
use Rattle.cv_event.specs.ShownLaws.{published_on, is_on, finished_by, last_finished}
use Rattle.cv_event.proofs.JobLemmas.{job_after, replayed}
use Rattle.cv_event.proofs.EndLemmas.{fixed_more}
use Rattle.cv_event.proofs.TakenLemmas.{taken_fixed}
use Rattle.cv_event.proofs.DueLemmas.{canvases_stay}
use Rattle.cv_event.proofs.ShownLemmas.{published_is_last_finished}
use Rattle.cv_script.specs.declared.script.Command.{Command}
use Rattle.cv_script.specs.declared.script.Command.TheVariants as command
use Rattle.cv_script.specs.declared.script.Numbered.{Numbered}
use Rattle.cv_session.specs.Playable.{Ascends, IsPlayable}
use Rattle.cv_session.specs.Follows.{at_first}
use Rattle.cv_session.specs.Responses.{last_from, last_job, edit_reason}
use Rattle.cv_session.specs.Plays.{Written, Mode, Opens, Begins, GivesOne, GivesAll, Works, Closes, Play, entered, refusals, picture_by, file_of, file_with, written_by, through, next_in, next, entry_by}
use Rattle.cv_session.specs.Plays.{Plays, stops, quiet, own, failed, other}
use Rattle.cv_session.specs.Entered.{IsClaim, IsViewed, MayAct}
use Rattle.cv_session.specs.Writes.{is_refused, name_written, names_written, picture_written, pictures_written}
use Rattle.cv_session.specs.Laws.{FilesAreWrites}
use Rattle.cv_session.proofs.EnteredLemmas.{act_may}
use Rattle.cv_session.proofs.PlayLemmas.{line_of, IsLineOf, Silently, turns, refuses, begins, lets, ends, ends_badly, silently, same_some}
use Rattle.cv_session.proofs.ScriptLemmas.{IsSame, Entering, by_command, by_task, entering, Failing, of_claim, of_task, failing, from_some}

-- ---- states of legal journals

-- a state behind a legal journal
pub record IsReached (s : State) : Type 0 where
  pub opening : Opening
  pub past : List Entry
  pub legal : IsLegal opening past
  pub state_is : replay opening past ≡ s

legal_joined : (s : State) (past rest : List Entry) → LegalFrom s past → LegalFrom (fold after s past) rest → LegalFrom s (past ++ rest)
legal_joined s [] rest f g = g
legal_joined s (e ∷ past) rest f g = (f.0, legal_joined (after s e) past rest f.1 g)

reached_more : (s : State) (e : Entry) → IsReached s → Allows s e.caller e.act → IsReached (after s e)
reached_more s e r h =
    let now = sym r.state_is in
    record {
      opening = r.opening;
      past = r.past ++ e ∷ [];
      legal = legal_joined (begin r.opening) r.past (e ∷ []) r.legal (subst (λ (s : State). Allows s e.caller e.act) now h, tt);
      state_is = replayed r.opening r.past (e ∷ []) ∙ ap (λ (s : State). after s e) r.state_is;
    }

-- what a job took that is there stays
taken_later : (s : State) (rest : List Entry) (j : ℕ) (job : Job) → LegalFrom s rest → job_in s.jobs j ≡ Some job
    → taken (fold after s rest) j ≡ Some (taken_of j job)
taken_later s rest j job legal h =
    ap (option_map (taken_of j)) (job_after s rest j job legal h) ∙ ap Some (fixed_more (taken_of j) (taken_fixed j) j rest job)

-- ---- jobs that are shown are there

abbrev IsThere : State → ℕ → Type 0
IsThere s j = (job : Job) × (job_in s.jobs j ≡ Some job)

-- a job that is the last one on a canvas
last_there : (k c j : ℕ) (jobs : List Job) → last_from k c jobs ≡ Some j → (m : ℕ) × (j ≡ k + m) × ((job : Job) × (slice_get jobs m ≡ Some job))
last_there k c j [] h = absurd cc
last_there k c j (job ∷ jobs) h = by_rest (last_from (suc k) c jobs) refl (last_there (suc k) c j jobs) h
  where
    by_test : (x : Bool) → (if x then Some k else None) ≡ Some j → (m : ℕ) × (j ≡ k + m) × ((found : Job) × (slice_get (job ∷ jobs) m ≡ Some found))
    by_test true h = (0, sym (same_some h) ∙ omega arith, (job, refl))
    by_test false h = absurd cc

    later : (m : ℕ) × (j ≡ suc k + m) × ((found : Job) × (slice_get jobs m ≡ Some found)) → (m : ℕ) × (j ≡ k + m) × ((found : Job) × (slice_get (job ∷ jobs) m ≡ Some found))
    later r = (suc r.0, r.1 ∙ omega arith, r.2)

    by_rest : (o : Option ℕ) → last_from (suc k) c jobs ≡ o
        → (last_from (suc k) c jobs ≡ Some j → (m : ℕ) × (j ≡ suc k + m) × ((found : Job) × (slice_get jobs m ≡ Some found)))
        → option_or o (if job.canvas == c then Some k else None) ≡ Some j
        → (m : ℕ) × (j ≡ k + m) × ((found : Job) × (slice_get (job ∷ jobs) m ≡ Some found))
    by_rest None e rec h = by_test (job.canvas == c) h
    by_rest (Some i) e rec h = later (rec (e ∙ h))

pub last_is_there : (s : State) (c j : ℕ) → last_job s c ≡ Some j → IsThere s j
last_is_there s c j h =
    let r = last_there 1 c j s.jobs h in
    let n : j ≡ suc r.0 = r.1 ∙ omega arith in
    (r.2.0, ap (job_in s.jobs) n ∙ r.2.1)

-- a job of which a picture was finished
taken_there : (s : State) (j : ℕ) (t : Taken) → taken s j ≡ Some t → (t.job ≡ j) × IsThere s j
taken_there s j t h = by_job (job_in s.jobs j) refl h
  where
    by_job : (o : Option Job) → job_in s.jobs j ≡ o → option_map (taken_of j) o ≡ Some t → (t.job ≡ j) × IsThere s j
    by_job None e h = absurd cc
    by_job (Some job) e h = (ap (λ (t : Taken). t.job) (sym (same_some h)), (job, e))

finished_there : (s : State) (c : ℕ) (a : Act) (t : Taken) → finished_by s c a ≡ Some t → IsThere s t.job
finished_there s c (act.Finish j) t h = by_test (is_on s c j) h
  where
    by_test : (x : Bool) → (if x then taken s j else None) ≡ Some t → IsThere s t.job
    by_test true h =
        let r = taken_there s j t h in
        subst (IsThere s) (sym r.0) r.1
    by_test false h = absurd cc
finished_there s c (act.Edit e v) t h = absurd cc
finished_there s c (act.View k view) t h = absurd cc
finished_there s c (act.Start k j) t h = absurd cc
finished_there s c (act.Look j at hit) t h = absurd cc
finished_there s c (act.Deliver j at fate) t h = absurd cc
finished_there s c (act.Compose j) t h = absurd cc
finished_there s c (act.Fail j) t h = absurd cc
finished_there s c (act.Cancel j) t h = absurd cc
finished_there s c (act.Preview j ready) t h = absurd cc
finished_there s c (act.Save k j) t h = absurd cc

last_finished_there : (s : State) (c : ℕ) (es : List Entry) (t : Taken) → last_finished s c es ≡ Some t → IsThere s t.job
last_finished_there s c [] t h = absurd cc
last_finished_there s c (e ∷ es) t h = by_rest (last_finished s c es) refl (last_finished_there s c es t) h
  where
    by_rest : (o : Option Taken) → last_finished s c es ≡ o → (last_finished s c es ≡ Some t → IsThere s t.job) → option_or o (finished_by s c e.act) ≡ Some t → IsThere s t.job
    by_rest None g rec h = finished_there s c e.act t h
    by_rest (Some u) g rec h = rec (g ∙ h)

-- a job whose picture may be saved
saved_there : (s : State) (c j : ℕ) → IsReached s → Allows s 0 (act.Save c j) → IsThere s j
saved_there s c j r h = by_canvas (slice_get s.canvases c) refl h
  where
    opened : (k : Canvas) → slice_get s.canvases c ≡ Some k → IsSome (slice_get r.opening.canvases c)
    opened k e =
        let spec : option_map (λ (k : Canvas). k.spec) (slice_get s.canvases c) ≡ slice_get r.opening.canvases c =
        ap (λ (s : State). option_map (λ (k : Canvas). k.spec) (slice_get s.canvases c)) (sym r.state_is) ∙ canvases_stay r.opening r.past c in
        ap is_some (sym spec ∙ ap (option_map (λ (k : Canvas). k.spec)) e)

    by_taken : (k : Canvas) (o : Option Taken) → slice_get s.canvases c ≡ Some k → k.published ≡ o → IsSomeAnd o (λ taken. taken.job ≡ j) → IsThere s j
    by_taken k None e p h = absurd h
    by_taken k (Some t) e p h =
        let law = published_is_last_finished r.opening r.past c r.legal (opened k e) in
        let on : published_on s c ≡ Some t = ap (option_and_then (λ (k : Canvas). k.published)) e ∙ p in
        let last : last_finished (replay r.opening r.past) c r.past ≡ Some t = sym law ∙ ap (λ (s : State). published_on s c) r.state_is ∙ on in
        let there = last_finished_there (replay r.opening r.past) c r.past t last in
        subst (IsThere s) h (subst (λ (s : State). IsThere s t.job) r.state_is there)

    by_canvas : (o : Option Canvas) → slice_get s.canvases c ≡ o → IsSomeAnd o (λ canvas. IsSomeAnd canvas.published (λ taken. taken.job ≡ j)) → IsThere s j
    by_canvas None e h = absurd h
    by_canvas (Some k) e h = by_taken k k.published e refl h

-- ---- what an act of a command shows

-- an act of a command that writes no file, or of one that does, with a picture of what a job took
pub data Shown (s : State) (d : Act) (c : Command) : Type 0 where
  nothing : file_of c ≡ None → ((t : State) → picture_by t d ≡ None) → Shown s d c
  shows : (name : List ℕ) (j : ℕ) (f : Taken → Raster Rgb) → file_of c ≡ Some name → IsThere s j
      → did s 0 d ≡ s → ((t : State) → picture_by t d ≡ option_map f (taken t j))
      → ((line seen : ℕ) → refusals line seen d ≡ []) → Shown s d c

same_act : (s : State) (c : Command) (e d : Act) → d ≡ e → Shown s e c → Shown s d c
same_act s c e d h g = subst (λ (d : Act). Shown s d c) (sym h) g

viewed_shows : (s : State) (c : ℕ) (r : Result PixelGrid ViewError) (d : Act) (b : Command) → file_of b ≡ None → IsViewed c r d → Shown s d b
viewed_shows s c (Ok view) d b n h = same_act s b (act.View c view) d h (nothing n (λ t. refl))
viewed_shows s c (Err error) d b n h = absurd h

claim_shows : (s : State) (d : Act) → IsClaim d → Shown s d command.Take
claim_shows s (act.Look j at hit) m = nothing refl (λ t. refl)
claim_shows s (act.Compose j) m = nothing refl (λ t. refl)
claim_shows s (act.Edit e v) m = absurd m
claim_shows s (act.View c view) m = absurd m
claim_shows s (act.Start c j) m = absurd m
claim_shows s (act.Deliver j at fate) m = absurd m
claim_shows s (act.Finish j) m = absurd m
claim_shows s (act.Fail j) m = absurd m
claim_shows s (act.Cancel j) m = absurd m
claim_shows s (act.Preview j ready) m = absurd m
claim_shows s (act.Save c j) m = absurd m

act_shows : (s : State) (held : ℕ) (c : Command) (d : Act) → IsReached s → Allows s 0 d → MayAct s held c d → Shown s d c
act_shows s held (command.Edit e) d r h m = same_act s _ (act.Edit e m.0) d m.1 (nothing refl (λ t. refl))
act_shows s held (command.View c e) d r h m =
    from_some (λ (k : Canvas). IsViewed c (view_of e k.spec.w k.spec.h) d) (slice_get s.canvases c) _ m (λ k g. viewed_shows s c _ d _ refl g)
act_shows s held (command.Pan c dx dy) d r h m =
    from_some (λ (v : PixelGrid). IsViewed c (pan v dx dy) d) (view_on s c) _ m (λ v g. viewed_shows s c _ d _ refl g)
act_shows s held (command.Zoom c num den) d r h m =
    from_some (λ (v : PixelGrid). IsViewed c (zoom v num den) d) (view_on s c) _ m (λ v g. viewed_shows s c _ d _ refl g)
act_shows s held (command.Start c) d r h m = same_act s _ (act.Start c m.0) d m.1 (nothing refl (λ t. refl))
act_shows s held (command.Cancel c) d r h m =
    from_some (λ (j : ℕ). d ≡ act.Cancel j) (last_job s c) _ m.1 (λ j g. same_act s _ (act.Cancel j) d g (nothing refl (λ t. refl)))
act_shows s held (command.Preview c file) d r h m = by_last (last_job s c) refl m.1
  where
    by_last : (o : Option ℕ) → last_job s c ≡ o → IsSomeAnd o (λ j. (ready : ℕ) × (d ≡ act.Preview j ready)) → Shown s d (command.Preview c file)
    by_last None e g = absurd g
    by_last (Some j) e g =
        same_act s _ (act.Preview j g.0) d g.1 (shows file j (λ t. picture_with t.project t.view (listed_slots g.0)) refl (last_is_there s c j e) refl (λ t. refl) (λ line seen. refl))
act_shows s held (command.Save c file) d r h m =
    same_act s _ (act.Save c m.0) d m.1
    (shows file m.0 (λ t. picture t.project t.view) refl (saved_there s c m.0 r (subst (Allows s 0) m.1 h)) refl (λ t. refl) (λ line seen. refl))
act_shows s held command.Take d r h m = claim_shows s d m.1
act_shows s held (command.Wait c) d r h m = absurd m
act_shows s held command.Give d r h m = absurd m

-- ---- refused lines

-- a line is refused in one part or the other
refused_append : (xs ys : List Refused) (l : ℕ) → is_refused (xs ++ ys) l ≡ (is_refused xs l || is_refused ys l)
refused_append [] ys l = refl
refused_append (x ∷ xs) ys l = ap (λ (b : Bool). (x.line == l) || b) (refused_append xs ys l) ∙ or_assoc (x.line == l) (is_refused xs l) (is_refused ys l)
  where
    or_assoc : (a b c : Bool) → (a || (b || c)) ≡ ((a || b) || c)
    or_assoc true b c = refl
    or_assoc false b c = refl

more_refused : (xs ys : List Refused) (l : ℕ) → is_refused xs l ≡ true → is_refused (xs ++ ys) l ≡ true
more_refused xs ys l h = refused_append xs ys l ∙ ap (λ (b : Bool). b || is_refused ys l) h

-- a line that was refused stays so
kept_silent : {a b : Play} → Silently a b → (l : ℕ) → is_refused a.refused l ≡ true → is_refused b.refused l ≡ true
kept_silent (turns m x) l h = h
kept_silent {a} (refuses n rest why c e) l h = more_refused a.refused _ l h
kept_silent (begins n rest m c e g x) l h = h
kept_silent (lets m t ts e x g) l h = h
kept_silent (ends w m e g) l h = h
kept_silent {a} (ends_badly w m e g) l h = more_refused a.refused _ l h

kept_entered : (a : Play) (d : Act) → Entering a d → (l : ℕ) → is_refused a.refused l ≡ true → is_refused (next d a).refused l ≡ true
kept_entered a d (by_command n rest c h e) l k = ap (λ (b : Play). is_refused b.refused l) e ∙ more_refused a.refused _ l k
kept_entered a d (by_task p s) l k = ap (λ (xs : List Refused). is_refused xs l) s.refused ∙ k

kept_failed : (a : Play) (j : ℕ) → Failing a j → (l : ℕ) → is_refused a.refused l ≡ true → is_refused (next (act.Fail j) a).refused l ≡ true
kept_failed a j (of_claim n rest c h e) l k = ap (λ (b : Play). is_refused b.refused l) e ∙ more_refused a.refused _ l k
kept_failed a j (of_task s) l k = ap (λ (xs : List Refused). is_refused xs l) s.refused ∙ k

kept_played : {n : ℕ} {a b : Play} {es : List Entry} → Plays n a es b → (l : ℕ) → is_refused a.refused l ≡ true → is_refused b.refused l ≡ true
kept_played (stops a) l h = h
kept_played (quiet a b c es e r) l h = kept_played r l (kept_silent (silently a b e) l h)
kept_played (own a c d es e r) l h = kept_played r l (kept_entered a d (entering a d e) l h)
kept_played (failed a c j es e r) l h = kept_played r l (kept_failed a j (failing a j e) l h)
kept_played (other a c e es low high is r) l h = kept_played r l h

-- a line that isn't refused yet, and is behind all commands that may be
abbrev pub IsOther : ℕ → Numbered → Type 0
IsOther l n = (n.line == l) ≡ false

pub record Avoids (l : ℕ) (a : Play) : Type 0 where
  pub refused : is_refused a.refused l ≡ false
  pub mode : (line_of a.mode == l) ≡ false
  pub commands : AllByRecursion (IsOther l) a.commands

-- another line
other_line : (x l : ℕ) → (x ≡ l → ⊥) → (x == l) ≡ false
other_line x l h = grind (arith, nat_tests)

avoids_line : (x y l : ℕ) → IsLineOf x y → 1 ≤ l → (y == l) ≡ false → (x == l) ≡ false
avoids_line x y l o low h = ⊎_elim (λ e. ap (λ (n : ℕ). n == l) e ∙ none l low) (λ e. ap (λ (n : ℕ). n == l) e ∙ h) o
  where
    none : (l : ℕ) → 1 ≤ l → (0 == l) ≡ false
    none l low = grind (arith, nat_tests)

neither : (xs ys : List Refused) (l : ℕ) → is_refused xs l ≡ false → is_refused ys l ≡ false → is_refused (xs ++ ys) l ≡ false
neither xs ys l h g = refused_append xs ys l ∙ ap (λ (b : Bool). b || is_refused ys l) h ∙ g

one_other : (line seen l : ℕ) (why : Reason) → (line == l) ≡ false → is_refused (record { line = line; seen = seen; reason = why } ∷ []) l ≡ false
one_other line seen l why h = ap (λ (b : Bool). b || false) h

-- what is refused with an act has its command's line
refusals_other : (line seen l : ℕ) (d : Act) → (line == l) ≡ false → is_refused (refusals line seen d) l ≡ false
refusals_other line seen l (act.Edit e None) h = refl
refusals_other line seen l (act.Edit e (Some error)) h = of_reason (edit_reason error)
  where
    of_reason : (o : Option Reason) → is_refused (option_to_list (option_map (λ why. record { line = line; seen = seen; reason = why }) o)) l ≡ false
    of_reason None = refl
    of_reason (Some why) = one_other line seen l why h
refusals_other line seen l (act.View c view) h = refl
refusals_other line seen l (act.Start c j) h = refl
refusals_other line seen l (act.Look j at hit) h = refl
refusals_other line seen l (act.Deliver j at fate) h = refl
refusals_other line seen l (act.Compose j) h = refl
refusals_other line seen l (act.Finish j) h = refl
refusals_other line seen l (act.Fail j) h = refl
refusals_other line seen l (act.Cancel j) h = refl
refusals_other line seen l (act.Preview j ready) h = refl
refusals_other line seen l (act.Save c j) h = refl

others_left : (l : ℕ) (n : Numbered) (cs rest : List Numbered) → cs ≡ n ∷ rest → AllByRecursion (IsOther l) cs → IsOther l n × AllByRecursion (IsOther l) rest
others_left l n cs rest e f = subst (AllByRecursion (IsOther l)) e f

avoids_silent : {a b : Play} → Silently a b → (l : ℕ) → 1 ≤ l → Avoids l a → Avoids l b
avoids_silent (turns m x) l low f = record { refused = f.refused; mode = avoids_line _ _ l x low f.mode; commands = f.commands }
avoids_silent {a} (refuses n rest why c e) l low f =
    let cs = others_left l n a.commands rest c f.commands in
    record { refused = neither a.refused _ l f.refused (one_other n.line a.read l why cs.0); mode = f.mode; commands = cs.1 }
avoids_silent {a} (begins n rest m c e g x) l low f =
    let cs = others_left l n a.commands rest c f.commands in
    record { refused = f.refused; mode = avoids_line _ _ l x low cs.0; commands = cs.1 }
avoids_silent (lets m t ts e x g) l low f = record { refused = f.refused; mode = avoids_line _ _ l x low f.mode; commands = f.commands }
avoids_silent (ends w m e g) l low f = record { refused = f.refused; mode = avoids_line 0 0 l (inl refl) low (avoids_line 0 _ l (inl refl) low f.mode); commands = f.commands }
avoids_silent {a} (ends_badly w m e g) l low f = record {
  refused = neither a.refused _ l f.refused (one_other w.line a.read l reason.EndedNoMemory (ap (λ (x : Mode). line_of x == l) (sym m) ∙ f.mode));
  mode = avoids_line 0 _ l (inl refl) low f.mode;
  commands = f.commands;
}

avoids_same : (a b : Play) (l : ℕ) → 1 ≤ l → IsSame a b → Avoids l a → Avoids l b
avoids_same a b l low s f = record {
  refused = ap (λ (xs : List Refused). is_refused xs l) s.refused ∙ f.refused;
  mode = avoids_line _ _ l s.line low f.mode;
  commands = subst (AllByRecursion (IsOther l)) (sym s.commands) f.commands;
}

avoids_through : (a : Play) (d : Act) (n : Numbered) (rest : List Numbered) (l : ℕ) → a.commands ≡ n ∷ rest → Avoids l a → Avoids l (through (n ∷ rest) d (entered d a))
avoids_through a d n rest l c f =
    let cs = others_left l n a.commands rest c f.commands in
    record { refused = neither a.refused _ l f.refused (refusals_other n.line (suc a.read) l d cs.0); mode = f.mode; commands = cs.1 }

avoids_entered : (a : Play) (d : Act) → Entering a d → (l : ℕ) → 1 ≤ l → Avoids l a → Avoids l (next d a)
avoids_entered a d (by_command n rest c h e) l low f = subst (Avoids l) (sym e) (avoids_through a d n rest l c f)
avoids_entered a d (by_task p s) l low f = avoids_same a (next d a) l low s f

avoids_failed : (a : Play) (j : ℕ) → Failing a j → (l : ℕ) → 1 ≤ l → Avoids l a → Avoids l (next (act.Fail j) a)
avoids_failed a j (of_claim n rest c h e) l low f = subst (Avoids l) (sym e) (avoids_through a (act.Fail j) n rest l c f)
avoids_failed a j (of_task s) l low f = avoids_same a (next (act.Fail j) a) l low s f

-- so it isn't refused at the end
avoids_played : {n : ℕ} {a b : Play} {es : List Entry} → Plays n a es b → (l : ℕ) → 1 ≤ l → Avoids l a → is_refused b.refused l ≡ false
avoids_played (stops a) l low f = f.refused
avoids_played (quiet a b c es e r) l low f = avoids_played r l low (avoids_silent (silently a b e) l low f)
avoids_played (own a c d es e r) l low f = avoids_played r l low (avoids_entered a d (entering a d e) l low f)
avoids_played (failed a c j es e r) l low f = avoids_played r l low (avoids_failed a j (failing a j e) l low f)
avoids_played (other a c e es low_caller high is r) l low f = avoids_played r l low (record { refused = f.refused; mode = f.mode; commands = f.commands })

-- ---- lines that ascend

-- the commands that are left stand in lines from this one on, and what was refused or begun in lines before it
pub record Lines (k : ℕ) (a : Play) : Type 0 where
  pub positive : 1 ≤ k
  pub commands : Ascends k a.commands
  pub refused : AllByRecursion (λ (r : Refused). r.line < k) a.refused
  pub mode : line_of a.mode < k

below_more : (k : ℕ) (xs ys : List Refused) → AllByRecursion (λ (r : Refused). r.line < k) xs → AllByRecursion (λ (r : Refused). r.line < k) ys
    → AllByRecursion (λ (r : Refused). r.line < k) (xs ++ ys)
below_more k [] ys f g = g
below_more k (x ∷ xs) ys f g = (f.0, below_more k xs ys f.1 g)

below_later : (k m : ℕ) (xs : List Refused) → k ≤ m → AllByRecursion (λ (r : Refused). r.line < k) xs → AllByRecursion (λ (r : Refused). r.line < m) xs
below_later k m [] l f = tt
below_later k m (x ∷ xs) l f = (omega (arith, l, f.0), below_later k m xs l f.1)

first_line : (k : ℕ) (n : Numbered) (cs rest : List Numbered) → cs ≡ n ∷ rest → Ascends k cs → (k ≤ n.line) × Ascends (n.line + 1) rest
first_line k n cs rest e f =
    let g = subst (Ascends k) e f in
    (g.0, g.1)

low_line : (x y k : ℕ) → IsLineOf x y → 1 ≤ k → y < k → x < k
low_line x y k o p h = ⊎_elim (λ e. omega (arith, e, p)) (λ e. omega (arith, e, h)) o

refusals_below : (line seen k : ℕ) (d : Act) → line < k → AllByRecursion (λ (r : Refused). r.line < k) (refusals line seen d)
refusals_below line seen k (act.Edit e None) h = tt
refusals_below line seen k (act.Edit e (Some error)) h = of_reason (edit_reason error)
  where
    of_reason : (o : Option Reason) → AllByRecursion (λ (r : Refused). r.line < k) (option_to_list (option_map (λ why. record { line = line; seen = seen; reason = why }) o))
    of_reason None = tt
    of_reason (Some why) = (h, tt)
refusals_below line seen k (act.View c view) h = tt
refusals_below line seen k (act.Start c j) h = tt
refusals_below line seen k (act.Look j at hit) h = tt
refusals_below line seen k (act.Deliver j at fate) h = tt
refusals_below line seen k (act.Compose j) h = tt
refusals_below line seen k (act.Finish j) h = tt
refusals_below line seen k (act.Fail j) h = tt
refusals_below line seen k (act.Cancel j) h = tt
refusals_below line seen k (act.Preview j ready) h = tt
refusals_below line seen k (act.Save c j) h = tt

lines_silent : {a b : Play} → Silently a b → (k : ℕ) → Lines k a → (m : ℕ) × Lines m b
lines_silent (turns m x) k f = (k, record { positive = f.positive; commands = f.commands; refused = f.refused; mode = low_line _ _ k x f.positive f.mode })
lines_silent {a} (refuses n rest why c e) k f =
    let cs = first_line k n a.commands rest c f.commands in (
      n.line + 1,
      record {
        positive = omega arith;
        commands = cs.1;
        refused = below_more (n.line + 1) a.refused _ (below_later k (n.line + 1) a.refused (omega (arith, cs.0)) f.refused) (omega arith, tt);
        mode = omega (arith, cs.0, f.mode);
      },
    )
lines_silent {a} (begins n rest m c e g x) k f =
    let cs = first_line k n a.commands rest c f.commands in (
      n.line + 1,
      record {
        positive = omega arith;
        commands = cs.1;
        refused = below_later k (n.line + 1) a.refused (omega (arith, cs.0)) f.refused;
        mode = low_line _ _ (n.line + 1) x (omega arith) (omega arith);
      },
    )
lines_silent (lets m t ts e x g) k f = (k, record { positive = f.positive; commands = f.commands; refused = f.refused; mode = low_line _ _ k x f.positive f.mode })
lines_silent (ends w m e g) k f = (k, record { positive = f.positive; commands = f.commands; refused = f.refused; mode = omega (arith, f.positive) })
lines_silent {a} (ends_badly w m e g) k f = (
  k,
  record {
    positive = f.positive;
    commands = f.commands;
    refused = below_more k a.refused _ f.refused (rw (ap line_of m) at f.mode, tt);
    mode = omega (arith, f.positive);
  },
)

lines_same : (a b : Play) (k : ℕ) → IsSame a b → Lines k a → Lines k b
lines_same a b k s f = record {
  positive = f.positive;
  commands = subst (Ascends k) (sym s.commands) f.commands;
  refused = subst (AllByRecursion (λ (r : Refused). r.line < k)) (sym s.refused) f.refused;
  mode = low_line _ _ k s.line f.positive f.mode;
}

lines_through : (a : Play) (d : Act) (n : Numbered) (rest : List Numbered) (k : ℕ) → a.commands ≡ n ∷ rest → Lines k a
    → Lines (n.line + 1) (through (n ∷ rest) d (entered d a))
lines_through a d n rest k c f =
    let cs = first_line k n a.commands rest c f.commands in
    record {
      positive = omega arith;
      commands = cs.1;
      refused = below_more (n.line + 1) a.refused _ (below_later k (n.line + 1) a.refused (omega (arith, cs.0)) f.refused) (refusals_below n.line (suc a.read) (n.line + 1) d (omega arith));
      mode = omega (arith, cs.0, f.mode);
    }

lines_entered : (a : Play) (d : Act) → Entering a d → (k : ℕ) → Lines k a → (m : ℕ) × Lines m (next d a)
lines_entered a d (by_command n rest c h e) k f = (n.line + 1, subst (Lines (n.line + 1)) (sym e) (lines_through a d n rest k c f))
lines_entered a d (by_task p s) k f = (k, lines_same a (next d a) k s f)

lines_failed : (a : Play) (j : ℕ) → Failing a j → (k : ℕ) → Lines k a → (m : ℕ) × Lines m (next (act.Fail j) a)
lines_failed a j (of_claim n rest c h e) k f = (n.line + 1, subst (Lines (n.line + 1)) (sym e) (lines_through a (act.Fail j) n rest k c f))
lines_failed a j (of_task s) k f = (k, lines_same a (next (act.Fail j) a) k s f)

-- the line of a command that is through is avoided, where nothing was refused with it
none_below : (k l : ℕ) (xs : List Refused) → k ≤ l → AllByRecursion (λ (r : Refused). r.line < k) xs → is_refused xs l ≡ false
none_below k l [] h f = refl
none_below k l (x ∷ xs) h f = ap (λ (b : Bool). b || is_refused xs l) (other_line x.line l (λ e. absurd (omega (arith, e, h, f.0)))) ∙ none_below k l xs h f.1

others_behind : (k l : ℕ) (cs : List Numbered) → l < k → Ascends k cs → AllByRecursion (IsOther l) cs
others_behind k l [] h f = tt
others_behind k l (c ∷ cs) h f =
    (other_line c.line l (λ e. absurd (omega (arith, e, h, f.0))), others_behind (c.line + 1) l cs (omega (arith, h, f.0)) f.1)

through_avoids : (a : Play) (d : Act) (n : Numbered) (rest : List Numbered) (k : ℕ) → a.commands ≡ n ∷ rest
    → ((line seen : ℕ) → refusals line seen d ≡ []) → Lines k a → Avoids n.line (through (n ∷ rest) d (entered d a))
through_avoids a d n rest k c none f =
    let cs = first_line k n a.commands rest c f.commands in
    record {
      refused = neither a.refused _ n.line (none_below k n.line a.refused cs.0 f.refused) (ap (λ (xs : List Refused). is_refused xs n.line) (none n.line (suc a.read)));
      mode = other_line _ n.line (λ e. absurd (omega (arith, e, cs.0, f.mode)));
      commands = others_behind (n.line + 1) n.line rest (omega arith) cs.1;
    }

-- ---- what is written

abbrev files_of : List (List ℕ) → List (Raster Rgb) → List Written
files_of names pictures = map (λ pair. file_with pair.0 pair.1) (zip names pictures)

zip_none : (names : List (List ℕ)) → files_of names [] ≡ []
zip_none [] = refl
zip_none (n ∷ ns) = refl

step_nothing : (w wb : List Written) (names : List (List ℕ)) (pictures : List (Raster Rgb)) (o : Option (List ℕ)) (p : Option (Raster Rgb))
    → wb ≡ [] → o ≡ None → p ≡ None → (w ++ wb) ++ files_of names pictures ≡ w ++ files_of (cons_option o names) (cons_option p pictures)
step_nothing w wb names pictures o p e n m =
    ap (λ (x : List Written). x ++ files_of names pictures) (ap (λ (wb : List Written). w ++ wb) e ∙ append-nil w)
    ∙ ap (λ (o : Option (List ℕ)). w ++ files_of (cons_option o names) pictures) (sym n)
    ∙ ap (λ (p : Option (Raster Rgb)). w ++ files_of (cons_option o names) (cons_option p pictures)) (sym m)

step_file : (w wb : List Written) (names : List (List ℕ)) (pictures : List (Raster Rgb)) (o : Option (List ℕ)) (p : Option (Raster Rgb))
    (name : List ℕ) (picture : Raster Rgb) → wb ≡ file_with name picture ∷ [] → o ≡ Some name → p ≡ Some picture
    → (w ++ wb) ++ files_of names pictures ≡ w ++ files_of (cons_option o names) (cons_option p pictures)
step_file w wb names pictures o p name picture e n m =
    ap (λ (wb : List Written). (w ++ wb) ++ files_of names pictures) e
    ∙ append_assoc w (file_with name picture ∷ []) (files_of names pictures)
    ∙ ap (λ (o : Option (List ℕ)). w ++ files_of (cons_option o names) (picture ∷ pictures)) (sym n)
    ∙ ap (λ (p : Option (Raster Rgb)). w ++ files_of (cons_option o names) (cons_option p pictures)) (sym m)

-- no name
no_name : (rs : List Refused) (n : Numbered) → file_of n.command ≡ None → name_written rs n ≡ None
no_name rs n h = by_test (is_refused rs n.line)
  where
    by_test : (x : Bool) → (if x then None else file_of n.command) ≡ None
    by_test true = refl
    by_test false = h

no_name_refused : (rs : List Refused) (n : Numbered) → is_refused rs n.line ≡ true → name_written rs n ≡ None
no_name_refused rs n h = ap (λ (x : Bool). if x then None else file_of n.command) h

names_more : (rs : List Refused) (n : Numbered) (cs rest : List Numbered) (o : Option (List ℕ)) → cs ≡ n ∷ rest → name_written rs n ≡ o
    → names_written rs cs ≡ cons_option o (names_written rs rest)
names_more rs n cs rest o e h = ap (names_written rs) e ∙ ap (λ (o : Option (List ℕ)). cons_option o (names_written rs rest)) h

names_silent : {a b : Play} → Silently a b → (rs : List Refused) → ((l : ℕ) → is_refused b.refused l ≡ true → is_refused rs l ≡ true)
    → names_written rs b.commands ≡ names_written rs a.commands
names_silent (turns m x) rs g = refl
names_silent {a} (refuses n rest why c e) rs g =
    sym (names_more rs n a.commands rest None c (no_name_refused rs n (g n.line (refused_append a.refused _ n.line ∙ ap (λ (b : Bool). is_refused a.refused n.line || (b || false)) (same_line n.line) ∙ or_true (is_refused a.refused n.line)))))
  where
    same_line : (l : ℕ) → (l == l) ≡ true
    same_line l = grind (arith, nat_tests)

    or_true : (x : Bool) → (x || true) ≡ true
    or_true true = refl
    or_true false = refl
names_silent {a} (begins n rest m c e f x) rs g = sym (names_more rs n a.commands rest None c (no_name rs n f))
names_silent (lets m t ts e x h) rs g = refl
names_silent (ends w m e h) rs g = refl
names_silent (ends_badly w m e h) rs g = refl

written_silent : {a b : Play} → Silently a b → b.written ≡ a.written
written_silent (turns m x) = refl
written_silent (refuses n rest why c e) = refl
written_silent (begins n rest m c e f x) = refl
written_silent (lets m t ts e x h) = refl
written_silent (ends w m e h) = refl
written_silent (ends_badly w m e h) = refl

pub state_silent : {a b : Play} → Silently a b → b.state ≡ a.state
state_silent (turns m x) = refl
state_silent (refuses n rest why c e) = refl
state_silent (begins n rest m c e f x) = refl
state_silent (lets m t ts e x h) = refl
state_silent (ends w m e h) = refl
state_silent (ends_badly w m e h) = refl

pub state_next : (m : Mode) (d : Act) (a : Play) → (next_in m d a).state ≡ a.state
state_next (Opens c views) d a = refl
state_next Begins d a = state_through a.commands d a
  where
    state_through : (cs : List Numbered) (d : Act) (a : Play) → (through cs d a).state ≡ a.state
    state_through [] d a = refl
    state_through (n ∷ rest) d a = refl
state_next GivesOne d a = refl
state_next (GivesAll w) d a = refl
state_next (Works w) d a = refl
state_next Closes d a = refl

-- behind a task's entry
files_same : (a b c : Play) (d : Act) (who : ℕ) (es : List Entry) (t : State) → IsSame a b → picture_written t (entry_by who d) ≡ None
    → c.written ≡ b.written ++ files_of (names_written c.refused b.commands) (pictures_written t es)
    → c.written ≡ a.written ++ files_of (names_written c.refused a.commands) (pictures_written t (entry_by who d ∷ es))
files_same a b c d who es t s p h =
    h ∙ ap (λ (w : List Written). w ++ files_of (names_written c.refused b.commands) (pictures_written t es)) s.written
    ∙ ap (λ (cs : List Numbered). a.written ++ files_of (names_written c.refused cs) (pictures_written t es)) s.commands
    ∙ ap (λ (o : Option (Raster Rgb)). a.written ++ files_of (names_written c.refused a.commands) (cons_option o (pictures_written t es))) (sym p)

-- behind a command's entry, where one step says what is written
files_command : (a b c : Play) (d : Act) (n : Numbered) (rest : List Numbered) (es : List Entry) (s t : State) → a.commands ≡ n ∷ rest
    → b.written ≡ a.written ++ written_by s d n.command → b.commands ≡ rest
    → c.written ≡ b.written ++ files_of (names_written c.refused b.commands) (pictures_written t es)
    → (a.written ++ written_by s d n.command) ++ files_of (names_written c.refused rest) (pictures_written t es)
    ≡ a.written ++ files_of (cons_option (name_written c.refused n) (names_written c.refused rest)) (cons_option (picture_by t d) (pictures_written t es))
    → c.written ≡ a.written ++ files_of (names_written c.refused a.commands) (pictures_written t (entry_by 0 d ∷ es))
files_command a b c d n rest es s t e w cs h step =
    h ∙ ap (λ (w : List Written). w ++ files_of (names_written c.refused b.commands) (pictures_written t es)) w
    ∙ ap (λ (cs : List Numbered). (a.written ++ written_by s d n.command) ++ files_of (names_written c.refused cs) (pictures_written t es)) cs
    ∙ step
    ∙ ap (λ (ns : List (List ℕ)). a.written ++ files_of ns (cons_option (picture_by t d) (pictures_written t es))) (sym (names_more c.refused n a.commands rest (name_written c.refused n) e refl))

-- a file's name, picture and bytes
pub no_file_written : (s : State) (d : Act) (c : Command) → file_of c ≡ None → written_by s d c ≡ []
no_file_written s d c h = ap (λ (o : Option (List ℕ)). option_to_list (option_and_then (λ name. option_map (file_with name) (picture_by s d)) o)) h

file_written : (s : State) (d : Act) (c : Command) (name : List ℕ) (p : Raster Rgb) → file_of c ≡ Some name → picture_by s d ≡ Some p
    → written_by s d c ≡ file_with name p ∷ []
file_written s d c name p h g =
    ap (λ (o : Option (List ℕ)). option_to_list (option_and_then (λ name. option_map (file_with name) (picture_by s d)) o)) h
    ∙ ap (λ (o : Option (Raster Rgb)). option_to_list (option_map (file_with name) o)) g

pub name_there : (rs : List Refused) (n : Numbered) (name : List ℕ) → is_refused rs n.line ≡ false → file_of n.command ≡ Some name → name_written rs n ≡ Some name
name_there rs n name h g = ap (λ (x : Bool). if x then None else file_of n.command) h ∙ g

command_step : (a c : Play) (d : Act) (n : Numbered) (rest : List Numbered) (es : List Entry) → Shown a.state d n.command
    → LegalFrom (did a.state 0 d) es → (((line seen : ℕ) → refusals line seen d ≡ []) → is_refused c.refused n.line ≡ false)
    → (a.written ++ written_by (did a.state 0 d) d n.command) ++ files_of (names_written c.refused rest) (pictures_written (fold after (did a.state 0 d) es) es)
    ≡ a.written ++ files_of (cons_option (name_written c.refused n) (names_written c.refused rest))
    (cons_option (picture_by (fold after (did a.state 0 d) es) d) (pictures_written (fold after (did a.state 0 d) es) es))
command_step a c d n rest es (nothing f p) legal avoid =
    step_nothing a.written _ _ _ _ _ (no_file_written (did a.state 0 d) d n.command f) (no_name c.refused n f) (p (fold after (did a.state 0 d) es))
command_step a c d n rest es (shows name j f file there same p none) legal avoid =
    let s = did a.state 0 d in
    let here : job_in s.jobs j ≡ Some there.0 = ap (λ (s : State). job_in s.jobs j) same ∙ there.1 in
    let now : picture_by s d ≡ Some (f (taken_of j there.0)) = p s ∙ ap (λ (o : Option Job). option_map f (option_map (taken_of j) o)) here in
    let then_is : picture_by (fold after s es) d ≡ Some (f (taken_of j there.0)) = p (fold after s es) ∙ ap (option_map f) (taken_later s es j there.0 legal here) in
    step_file a.written _ _ _ _ _ name (f (taken_of j there.0)) (file_written s d n.command name _ file now) (name_there c.refused n name (avoid none) file) then_is

files_entered : (a c : Play) (d : Act) (es : List Entry) (k : ℕ) → Entering a d → IsReached a.state → Allows a.state 0 d
    → LegalFrom (did a.state 0 d) es → Lines k a → ((l : ℕ) → 1 ≤ l → Avoids l (next d a) → is_refused c.refused l ≡ false)
    → c.written ≡ (next d a).written ++ files_of (names_written c.refused (next d a).commands) (pictures_written (fold after (did a.state 0 d) es) es)
    → c.written ≡ a.written ++ files_of (names_written c.refused a.commands) (pictures_written (fold after (did a.state 0 d) es) (entry_by 0 d ∷ es))
files_entered a c d es k (by_command n rest e h is) r allowed legal lines avoid rec =
    let shown = act_shows a.state (length a.held) n.command d r allowed (act_may a.state (length a.held) n.command d h) in
    let first = first_line k n a.commands rest e lines.commands in
    files_command a (next d a) c d n rest es (did a.state 0 d) (fold after (did a.state 0 d) es) e (ap (λ (b : Play). b.written) is) (ap (λ (b : Play). b.commands) is) rec
    (command_step a c d n rest es shown legal
    (λ none. avoid n.line (omega (arith, first.0, lines.positive)) (subst (Avoids n.line) (sym is) (through_avoids a d n rest k e none lines))))
files_entered a c d es k (by_task p s) r allowed legal lines avoid rec =
    files_same a (next d a) c d 0 es (fold after (did a.state 0 d) es) s (p.picture (fold after (did a.state 0 d) es)) rec

files_failed : (a c : Play) (j : ℕ) (es : List Entry) → Failing a j
    → c.written ≡ (next (act.Fail j) a).written ++ files_of (names_written c.refused (next (act.Fail j) a).commands) (pictures_written (fold after (did a.state 0 (act.Fail j)) es) es)
    → c.written ≡ a.written ++ files_of (names_written c.refused a.commands) (pictures_written (fold after (did a.state 0 (act.Fail j)) es) (entry_by 0 (act.Fail j) ∷ es))
files_failed a c j es (of_claim n rest e take is) rec =
    files_command a (next (act.Fail j) a) c (act.Fail j) n rest es (did a.state 0 (act.Fail j)) (fold after (did a.state 0 (act.Fail j)) es) e (ap (λ (b : Play). b.written) is) (ap (λ (b : Play). b.commands) is) rec
    (step_nothing a.written _ _ _ _ _ (no_file_written (did a.state 0 (act.Fail j)) (act.Fail j) n.command (ap file_of take)) (no_name c.refused n (ap file_of take)) refl)
files_failed a c j es (of_task s) rec = files_same a (next (act.Fail j) a) c (act.Fail j) 0 es (fold after (did a.state 0 (act.Fail j)) es) s refl rec

-- an entry of another caller writes nothing
other_picture : (t : State) (e : Entry) → 1 ≤ e.caller → picture_written t e ≡ None
other_picture t e low = ap (λ (x : Bool). if x then picture_by t e.act else None) (not_zero e.caller low)
  where
    not_zero : (n : ℕ) → 1 ≤ n → (n == 0) ≡ false
    not_zero n low = grind (arith, nat_tests)

files_played : {n : ℕ} {a c : Play} {es : List Entry} → Plays n a es c → LegalFrom a.state es → IsReached a.state → (k : ℕ) → Lines k a
    → c.written ≡ a.written ++ files_of (names_written c.refused a.commands) (pictures_written (fold after a.state es) es)
files_played (stops a) legal r k lines =
    sym (append-nil a.written) ∙ ap (λ (w : List Written). a.written ++ w) (sym (zip_none (names_written a.refused a.commands)))
files_played (quiet a b c es h rest) legal r k lines =
    let kind = silently a b h in
    let same = state_silent kind in
    let more = lines_silent kind k lines in
    let rec = files_played rest (subst (λ (s : State). LegalFrom s es) (sym same) legal) (subst IsReached (sym same) r) more.0 more.1 in
    rec ∙ ap (λ (s : State). b.written ++ files_of (names_written c.refused b.commands) (pictures_written (fold after s es) es)) same
    ∙ ap (λ (w : List Written). w ++ files_of (names_written c.refused b.commands) (pictures_written (fold after a.state es) es)) (written_silent kind)
    ∙ ap (λ (ns : List (List ℕ)). a.written ++ files_of ns (pictures_written (fold after a.state es) es)) (names_silent kind c.refused (λ l g. kept_played rest l g))
files_played (own a c d es h rest) legal r k lines =
    let kind = entering a d h in
    let same : (next d a).state ≡ did a.state 0 d = state_next a.mode d (entered d a) in
    let more = lines_entered a d kind k lines in
    let rec = files_played rest (subst (λ (s : State). LegalFrom s es) (sym same) legal.1) (subst IsReached (sym same) (reached_more a.state (entry_by 0 d) r legal.0)) more.0 more.1 in
    files_entered a c d es k kind r legal.0 legal.1 lines (λ l low f. avoids_played rest l low f)
    (rec ∙ ap (λ (s : State). (next d a).written ++ files_of (names_written c.refused (next d a).commands) (pictures_written (fold after s es) es)) same)
files_played (failed a c j es h rest) legal r k lines =
    let kind = failing a j h in
    let same : (next (act.Fail j) a).state ≡ did a.state 0 (act.Fail j) = state_next a.mode (act.Fail j) (entered (act.Fail j) a) in
    let more = lines_failed a j kind k lines in
    let rec = files_played rest (subst (λ (s : State). LegalFrom s es) (sym same) legal.1) (subst IsReached (sym same) (reached_more a.state (entry_by 0 (act.Fail j)) r legal.0)) more.0 more.1 in
    files_failed a c j es kind
    (rec ∙ ap (λ (s : State). (next (act.Fail j) a).written ++ files_of (names_written c.refused (next (act.Fail j) a).commands) (pictures_written (fold after s es) es)) same)
files_played (other a c e es low high is rest) legal r k lines =
    let rec = files_played rest legal.1 (reached_more a.state e r legal.0) k (record { positive = lines.positive; commands = lines.commands; refused = lines.refused; mode = lines.mode }) in
    rec ∙ ap (λ (o : Option (Raster Rgb)). a.written ++ files_of (names_written c.refused a.commands) (cons_option o (pictures_written (fold after a.state (e ∷ es)) es))) (sym (other_picture (fold after a.state (e ∷ es)) e low))

pub files_are_writes : FilesAreWrites
files_are_writes o views script workers journal last is legal p =
    files_played p legal (record { opening = o; past = []; legal = tt; state_is = refl }) 1
    (record { positive = omega arith; commands = is.ascend; refused = tt; mode = omega arith })

-- so the line of a command that is next isn't refused yet
lines_played : {n : ℕ} {a b : Play} {es : List Entry} → Plays n a es b → (k : ℕ) → Lines k a → (m : ℕ) × Lines m b
lines_played (stops a) k f = (k, f)
lines_played (quiet a b c es e r) k f =
    let more = lines_silent (silently a b e) k f in
    lines_played r more.0 more.1
lines_played (own a c d es e r) k f =
    let more = lines_entered a d (entering a d e) k f in
    lines_played r more.0 more.1
lines_played (failed a c j es e r) k f =
    let more = lines_failed a j (failing a j e) k f in
    lines_played r more.0 more.1
lines_played (other a c e es low high is r) k f =
    lines_played r k (record { positive = f.positive; commands = f.commands; refused = f.refused; mode = f.mode })

pub not_refused_yet : (o : Opening) (views : List (Option PixelGrid)) (script : List Numbered) (b : Play) (n : Numbered) (rest : List Numbered) {es : List Entry} → IsPlayable script
    → Plays 0 (at_first o views script) es b → b.commands ≡ n ∷ rest → is_refused b.refused n.line ≡ false
not_refused_yet o views script b n rest is plays c =
    let more = lines_played plays 1 (record { positive = omega arith; commands = is.ascend; refused = tt; mode = omega arith }) in
    none_below more.0 n.line b.refused (first_line more.0 n b.commands rest c more.1.commands).0 more.1.refused
