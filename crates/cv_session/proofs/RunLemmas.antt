-- How a session begins, and how it plays a whole script.
use Rattle.std.proofs.Common.{◌≡◌, inl, inr, ⊎_elim, refl, ap, sym, ◌∙◌, subst, ◌≤◌, ◌<◌, ℕ, zero, suc, ◌+◌, ◌-◌, List, [], ◌∷◌, ◌++◌, map, length, take, drop, get_or, replicate, slice_get, Option, Some, None, option_map, option_and_then, arith, IsSomeAnd, IfSome, IsTrue, Result, Ok, Err, OnOk}
use Rattle.std.specs.List.{AllByRecursion}
use Rattle.std.specs.List.{AllZip}
use Rattle.std.proofs.lemmas.List.{append-nil, length-append, drop_more, take-append-drop}
use Rattle.std.proofs.lemmas.List.Elements.{All-get_or}
use Rattle.std.proofs.lemmas.Slice.Zip.{AllZip-long}
use Rattle.cv_model.specs.declared.project.CanvasSpec.{CanvasSpec}
use Rattle.cv_model.specs.Layers.{Opening, Project}
use Rattle.cv_model.specs.Views.{PixelGrid}
use Rattle.cv_outside.specs.Counts.{Rose}
use Rattle.cv_outside.specs.Seen.{TraySeen, TrayStands}
use Rattle.cv_event.specs.TextLaws.{FitsOpening}
use Rattle.cv_event.specs.declared.entry.Act.{Act}
use Rattle.cv_event.specs.declared.entry.Act.TheVariants as act
use Rattle.cv_event.specs.declared.entry.Entry.{Entry}
use Rattle.cv_event.specs.Legality.{IsLegal}
use Rattle.cv_event.specs.States.{Job, Canvas, State, job_in, new_canvas, begin}
use Rattle.cv_script.specs.declared.script.Numbered.{Numbered}
use Rattle.cv_script.specs.Scripts.{HasFactors}
use Rattle.cv_session.specs.Playable.{IsPlayable}
use Rattle.cv_session.specs.Responses.{last_job}
use Rattle.cv_session.specs.Plays.{Opens, Begins, Closes, Written, Play, due_in, next, Plays}
use Rattle.cv_session.specs.Follows.{at_first}
use Rattle.cv_session.specs.Seats.{Seat, now, task_of, tasks_of, IsHeldOf, canvas_spec, IsOfSize, IsSeat, Enters, play_of, Moves}
use Rattle.cv_session.specs.Outputs.{Done, Broken}
use Rattle.cv_session.specs.Runs.{IsOpened, ShowsFirst, SizesStay, AreOfSize, ShowsAll, Through, Cut, Ends}
use Rattle.cv_session.proofs.PlayLemmas.{same_some}
use Rattle.cv_session.specs.HeldLaws.{HoldsTasks}
use Rattle.cv_session.specs.Covered.{Covers}
use Rattle.cv_session.proofs.SeatLemmas.{AreSized, size_stays}
use Rattle.cv_session.specs.Tasks.{Gives}
use Rattle.cv_session.proofs.ServeLemmas.{closes_all}
use Rattle.cv_session.proofs.MoveLemmas.{longer, stay_put, go_on, by_quiet, by_own}
use Rattle.cv_session.specs.declared.report.Report.{Report}
use Rattle.cv_session.specs.Reports.{FitsSize, RunDone, RunBroken}
use Rattle.cv_session.proofs.OutputLemmas.{puts_more, run_done, run_broken}

-- ---- places of lists

-- what stands at a place, and behind it
there_at : {A : Type 0} (xs : List A) (i : ℕ) (x : A) → i < length xs → x ≡ get_or xs i x → slice_get xs i ≡ Some x
there_at [] i x low e = absurd (omega (arith, low))
there_at (y ∷ ys) zero x low e = ap Some (sym e)
there_at (y ∷ ys) (suc i) x low e = there_at ys i x (omega (arith, low)) e

pub item_at : {A : Type 0} (xs : List A) (i : ℕ) (x : A) → i < length xs → x ≡ get_or xs i x → (drop i xs ≡ x ∷ drop (i + 1) xs) × (slice_get xs i ≡ Some x)
item_at xs i x low e = (drop_more xs i x low ∙ ap (λ z. z ∷ drop (i + 1) xs) (sym e), there_at xs i x low e)

-- ---- a session that is opened

replicate_at : {A : Type 0} (specs : List CanvasSpec) (c : ℕ) (x : A) → slice_get (replicate (length specs) x) c ≡ option_map (λ (k : Canvas). x) (slice_get (map new_canvas specs) c)
replicate_at [] c x = refl
replicate_at (s ∷ ss) zero x = refl
replicate_at (s ∷ ss) (suc c) x = replicate_at ss c x

specs_at : (specs : List CanvasSpec) (c : ℕ) → slice_get specs c ≡ option_map canvas_spec (slice_get (map new_canvas specs) c)
specs_at [] c = refl
specs_at (s ∷ ss) zero = refl
specs_at (s ∷ ss) (suc c) = specs_at ss c

no_view_at : (specs : List CanvasSpec) (c : ℕ) → option_and_then (λ (k : Canvas). k.view) (slice_get (map new_canvas specs) c) ≡ None
no_view_at [] c = refl
no_view_at (s ∷ ss) zero = refl
no_view_at (s ∷ ss) (suc c) = no_view_at ss c

no_job_at : (j : ℕ) (job : Job) → job_in [] j ≡ Some job → ⊥
no_job_at zero job e = absurd cc
no_job_at (suc m) job e = absurd cc

-- it is a seat
pub seat_opened : (o : Opening) (seat : Seat) → now seat ≡ begin o → seat.held ≡ [] → seat.specs ≡ o.canvases
    → seat.lasts ≡ replicate (length o.canvases) None → IsSeat seat
seat_opened o seat is held specs lasts =
    let tasks : tasks_of seat ≡ [] = ap (map task_of) held in
    record {
      holds = subst (λ (s : State). HoldsTasks s (tasks_of seat)) (sym is) (subst (HoldsTasks (begin o)) (sym tasks) (record { owed = tt; apart = tt }));
      covers = subst (λ (s : State). Covers s (tasks_of seat)) (sym is) (λ j job e live. absurd (no_job_at j job e));
      pieces = subst (AllByRecursion (IsHeldOf seat.history)) (sym held) tt;
      specs = λ c. ap (λ (xs : List CanvasSpec). slice_get xs c) specs ∙ specs_at o.canvases c ∙ ap (λ (s : State). option_map canvas_spec (slice_get s.canvases c)) (sym is);
      lasts = λ c. ap (λ (xs : List (Option ℕ)). slice_get xs c) lasts ∙ replicate_at o.canvases c None
          ∙ ap (λ (s : State). option_map (λ (k : Canvas). last_job s c) (slice_get s.canvases c)) (sym is);
      sized = subst AreSized (sym is) (λ c view e. absurd (none_some (sym (no_view_at o.canvases c) ∙ e)));
    }
  where
    none_some : {view : PixelGrid} → None ≡ Some view → ⊥
    none_some h = absurd cc

-- its play is the first one of a script
pub first_play : (o : Opening) (views : List (Option PixelGrid)) (script : List Numbered) (seat : Seat) → IsOpened o seat
    → at_first o views script ≡ play_of (Opens 0 views) script [] seat
first_play o views script seat f = λ i. record {
  read = length (sym f.journal i);
  state = sym f.state i;
  known = sym f.state i;
  due = due_in (sym f.state i);
  held = map task_of (sym f.held i);
  mode = Opens 0 views;
  commands = script;
  refused = sym f.refused i;
  written = [];
}

-- ---- first views

pub sizes_stay : (old new : Seat) (a : Act) → Enters old new a → SizesStay (now old) (now new)
sizes_stay old new a e = λ c view h. subst (λ (s : State). IsOfSize s c view) (sym e.notes.becomes) (size_stays (now old) 0 c a view h)

pub shows_view : (old new : Seat) (c : ℕ) (view : PixelGrid) → Enters old new (act.View c view) → ShowsFirst old new c (Some view)
shows_view old new c view e = λ views cs.
    by_own (Opens c (Some view ∷ views)) (Opens (suc c) views) cs cs old new (act.View c view) [] e.notes (λ before. refl)
    (λ before. arrives views cs before)
  where
    arrives : (views : List (Option PixelGrid)) (cs : List Numbered) (before : List Written)
        → next (act.View c view) (play_of (Opens c (Some view ∷ views)) cs before old) ≡ play_of (Opens (suc c) views) cs (before ++ []) new
    arrives views cs before =
        let read = longer old new (act.View c view) e.notes in
        λ i. record {
          read = read i;
          state = sym e.notes.becomes i;
          known = sym e.notes.becomes i;
          due = due_in (sym e.notes.becomes i);
          held = map task_of (sym e.held i);
          mode = Opens (suc c) views;
          commands = cs;
          refused = sym e.refused i;
          written = sym (append-nil before) i;
        }

pub shows_none : (seat : Seat) (c : ℕ) → ShowsFirst seat seat c None
shows_none seat c = λ views cs. by_quiet (Opens c (None ∷ views)) (Opens (suc c) views) cs cs seat seat refl (λ before. refl)

-- all views so far, and the next one
pub shows_next : (views : List (Option PixelGrid)) (a b d : Seat) (i c : ℕ) (view : Option PixelGrid) → c ≡ i → drop i views ≡ view ∷ drop (i + 1) views
    → ((cs : List Numbered) → Moves (Opens 0 views) cs a (Opens i (drop i views)) cs b []) → ShowsFirst b d c view
    → (cs : List Numbered) → Moves (Opens 0 views) cs a (Opens (i + 1) (drop (i + 1) views)) cs d []
shows_next views a b d i c view at left first more = λ cs.
    subst (λ (n : ℕ). Moves (Opens 0 views) cs a (Opens n (drop (i + 1) views)) cs d []) (let e = at in omega (arith, e))
    (go_on (Opens 0 views) (Opens c (view ∷ drop (i + 1) views)) (Opens (suc c) (drop (i + 1) views)) cs cs cs a b d [] []
    (subst (λ (n : ℕ). Moves (Opens 0 views) cs a (Opens n (view ∷ drop (i + 1) views)) cs b []) (sym at)
    (subst (λ (l : List (Option PixelGrid)). Moves (Opens 0 views) cs a (Opens i l) cs b []) left (first cs))) (more (drop (i + 1) views) cs))

pub shows_all : (views : List (Option PixelGrid)) (a b : Seat) (i : ℕ) → drop i views ≡ []
    → ((cs : List Numbered) → Moves (Opens 0 views) cs a (Opens i (drop i views)) cs b []) → ShowsAll a b views
shows_all views a b i none f = λ cs.
    go_on (Opens 0 views) (Opens i []) Begins cs cs cs a b b [] []
    (subst (λ (l : List (Option PixelGrid)). Moves (Opens 0 views) cs a (Opens i l) cs b []) none (f cs)) (by_quiet (Opens i []) Begins cs cs b b refl (λ before. refl))

-- a view that a canvas gets is of its size
pub first_size : (s : State) (views : List (Option PixelGrid)) (c : ℕ) (o : Option PixelGrid) → AreOfSize s views → slice_get views c ≡ Some o
    → IfSome o (IsOfSize s c)
first_size s views c None f e = tt
first_size s views c (Some view) f e = f c view e

-- ---- a tray

pub stands_still : (tray : TraySeen) → TrayStands tray tray
stands_still tray = record { told = refl; faults = omega arith }

pub stands_on : (t u v : TraySeen) → TrayStands t u → TrayStands u v → TrayStands t v
stands_on t u v f g = record { told = g.told ∙ f.told; faults = let a = f.faults in let b = g.faults in omega (arith, a, b) }

-- ---- commands

pub through_none : (cs : List Numbered) (seat : Seat) (tray : TraySeen) → Through cs seat seat cs 0 tray tray
through_none cs seat tray = record { files = []; moves = stay_put Begins cs seat; count = refl; puts = λ t q. refl }

pub through_more : (cs : List Numbered) (a b d : Seat) (n : Numbered) (rest : List Numbered) (images more : ℕ) (t u v : TraySeen)
    → Through cs a b (n ∷ rest) images t u → u.tells ≡ t.tells → Done b d n.line n.command more u v → Through cs a d rest (images + more) t v
through_more cs a b d n rest images more t u v f same g = record {
  files = f.files ++ g.files;
  moves = go_on Begins Begins Begins cs (n ∷ rest) rest a b d f.files g.files f.moves (g.obeys rest);
  count = let l = length-append f.files g.files in omega (arith, l, f.count, g.count);
  puts = λ h. puts_more f.files g.files t.files u.files v.files (f.puts h) (g.puts (subst IsTrue (sym same) h));
}

pub through_next : (cs : List Numbered) (a b d : Seat) (n : Numbered) (i images more : ℕ) (t u v : TraySeen) → drop i cs ≡ n ∷ drop (i + 1) cs
    → Through cs a b (drop i cs) images t u → u.tells ≡ t.tells → Done b d n.line n.command more u v → Through cs a d (drop (i + 1) cs) (images + more) t v
through_next cs a b d n i images more t u v left f same g =
    through_more cs a b d n (drop (i + 1) cs) images more t u v (subst (λ (l : List Numbered). Through cs a b l images t u) left f) same g

-- an opening stays
pub fits_next : (b d : Seat) (n : Numbered) (more : ℕ) (u v : TraySeen) → FitsOpening b.history.opening → Done b d n.line n.command more u v
    → FitsOpening d.history.opening
fits_next b d n more u v fits g = subst FitsOpening (sym (g.obeys []).opening) fits

-- the numbers of a zoom
pub factors_at : (cs : List Numbered) (i : ℕ) (n : Numbered) → i < length cs → n ≡ get_or cs i n → IsPlayable cs → HasFactors n.command
factors_at cs i n low e is = subst (λ (m : Numbered). HasFactors m.command) (sym e) (All-get_or (λ (m : Numbered). HasFactors m.command) cs i n low is.factors)

-- the command whose write failed
pub cut_at : (cs : List Numbered) (a b d : Seat) (n : Numbered) (i images : ℕ) (t u v : TraySeen) → drop i cs ≡ n ∷ drop (i + 1) cs
    → Through cs a b (drop i cs) images t u → TrayStands t u → Broken b d n.line n.command u v → Cut cs a d (images + 1) t v
cut_at cs a b d n i images t u v left f stands g = record {
  before = take i cs;
  cut = n;
  left = drop (i + 1) cs;
  script_is = sym (take-append-drop i cs) ∙ ap (λ (l : List Numbered). take i cs ++ l) left;
  mid = b;
  seen = u;
  images = images;
  through = subst (λ (l : List Numbered). Through cs a b l images t u) left f;
  told = stands.told;
  counts = stands.faults;
  broken = g;
  number = omega arith;
}

-- ---- the end

-- what follows of two facts of an answer
pub both_ok : {A E : Type 0} {P Q S : Type 0} (r : Result A E) → (P → Q → S) → OnOk r P → OnOk r Q → OnOk r S
both_ok (Ok x) f p q = f p q
both_ok (Err e) f p q = tt

pub ends_with : (old new : Seat) → Gives old new → new.held ≡ [] → Ends old new
ends_with old new g h = record { moves = closes_all old new g; none = h }

-- ---- a whole run

-- the first views of a script
pub first_sizes : (specs : List CanvasSpec) (project : Project) (s : State) (views : List (Option PixelGrid)) → s ≡ begin (record { project = project; canvases = specs })
    → AllZip FitsSize specs views → AreOfSize s views
first_sizes specs project s views is f = λ c view e.
    subst (λ (t : State). IsOfSize t c view) (sym is) (at specs views c view f e)
  where
    at : (specs : List CanvasSpec) (views : List (Option PixelGrid)) (c : ℕ) (view : PixelGrid) → AllZip FitsSize specs views → slice_get views c ≡ Some (Some view)
        → IsSomeAnd (slice_get (map new_canvas specs) c) (λ (k : Canvas). (view.w ≡ k.spec.w) × (view.h ≡ k.spec.h))
    at [] [] c view f e = absurd cc
    at [] (o ∷ os) c view f e = absurd f
    at (k ∷ ks) [] c view f e = absurd f
    at (k ∷ ks) (o ∷ os) zero view f e = subst (λ (o : Option PixelGrid). FitsSize k o) (same_some e) f.0
    at (k ∷ ks) (o ∷ os) (suc c) view f e = at ks os c view f.1 e

pub first_few : (specs : List CanvasSpec) (project : Project) (views : List (Option PixelGrid)) → FitsOpening (record { project = project; canvases = specs })
    → AllZip FitsSize specs views → length views ≤ 4294967295
first_few specs project views fits f = let same : length views ≡ length specs = AllZip-long FitsSize specs views f in omega (arith, same, fits.count)

-- the opening of a session stays behind its first views
pub fits_shown : (o : Opening) (views : List (Option PixelGrid)) (s0 s1 : Seat) → FitsOpening o → IsOpened o s0 → ShowsAll s0 s1 views
    → FitsOpening s1.history.opening
fits_shown o views s0 s1 fits opened shown = subst FitsOpening (sym ((shown []).opening ∙ opened.opening)) fits

-- what a whole run leaves
pub run_ends : (o : Opening) (views : List (Option PixelGrid)) (script : List Numbered) (s0 s1 s2 s3 : Seat) (r : Report) (images : ℕ) (tray tray' : TraySeen)
    → IsPlayable script → IsOpened o s0 → ShowsAll s0 s1 views → Through script s1 s2 [] images tray tray' → Ends s2 s3
    → IsLegal s3.history.opening s3.history.journal → r.journal.entries ≡ s3.history.journal → r.refused ≡ s3.refused → r.images ≡ images
    → RunDone o views script r tray tray'
run_ends o views script s0 s1 s2 s3 r images tray tray' is opened shown through ends legal entries refused count =
    run_done o views script r (play_of Closes [] through.files s3) tray tray' is
    (subst (λ (p : Opening). IsLegal p r.journal.entries) (all.opening ∙ opened.opening) (subst (IsLegal s3.history.opening) (sym entries) legal))
    (subst (λ (es : List Entry). Plays 0 (at_first o views script) es (play_of Closes [] through.files s3)) (sym (entries ∙ all.journal ∙ ap (λ (es : List Entry). es ++ all.entries) opened.journal))
    (subst (λ (p : Play). Plays 0 p all.entries (play_of Closes [] through.files s3)) (sym (first_play o views script s0 opened))
    (subst (λ (w : List Written). Plays 0 (play_of (Opens 0 views) script [] s0) all.entries (play_of Closes [] w s3)) (append-nil through.files) (all.plays []))))
    (record { mode = refl; held = ap (map task_of) ends.none; commands = refl }) (sym refused) (count ∙ through.count) through.puts
  where
    all : Moves (Opens 0 views) script s0 Closes [] s3 (through.files ++ [])
    all = go_on (Opens 0 views) Begins Closes script [] [] s0 s2 s3 through.files []
        (go_on (Opens 0 views) Begins Begins script script [] s0 s1 s2 [] through.files (shown script) through.moves) ends.moves

rose_from : (m n k : ℕ) → m ≤ n → Rose n k → Rose m k
rose_from m n k low h = ⊎_elim (λ f. inl (omega (arith, low, f))) (λ f. inr f) h

-- what a run leaves whose tray failed
pub run_cut : (o : Opening) (views : List (Option PixelGrid)) (script : List Numbered) (s0 s1 s2 : Seat) (r : Report) (image : ℕ) (tray tray' : TraySeen)
    → IsPlayable script → IsOpened o s0 → ShowsAll s0 s1 views → Cut script s1 s2 image tray tray'
    → IsLegal s2.history.opening s2.history.journal → r.journal.entries ≡ s2.history.journal → r.refused ≡ s2.refused → image ≡ suc r.images
    → RunBroken o views script image r tray tray'
run_cut o views script s0 s1 s2 r image tray tray' is opened shown k legal entries refused count =
    run_broken o views script image r tray tray' is
    (subst (λ (p : Opening). IsLegal p r.journal.entries) (last.opening ∙ first.opening ∙ opened.opening) (subst (IsLegal s2.history.opening) (sym entries) legal))
    count (rose_from tray.faults k.seen.faults tray'.faults k.counts k.broken.fault) (record {
      before = k.before;
      cut = k.cut;
      left = k.left;
      script_is = k.script_is;
      first = first.entries;
      second = last.entries;
      old = play_of Begins (k.cut ∷ k.left) k.through.files k.mid;
      new = play_of Begins k.left (k.through.files ++ k.broken.file ∷ []) s2;
      reaches = subst (λ (p : Play). Plays 0 p first.entries (play_of Begins (k.cut ∷ k.left) k.through.files k.mid)) (sym (first_play o views script s0 opened)) (first.plays []);
      commands = refl;
      cuts = last.plays k.through.files;
      entries = entries ∙ last.journal ∙ ap (λ (es : List Entry). es ++ last.entries) (first.journal ∙ ap (λ (es : List Entry). es ++ first.entries) opened.journal);
      is_before = record { mode = refl; commands = refl };
      file = k.broken.file;
      names = k.broken.names;
      written = refl;
      same = k.broken.refused;
      refused = sym refused;
      images = let a = k.number in let b = k.through.count in omega (arith, a, b, count);
      mid = k.seen.files;
      puts = k.through.puts;
      others = λ t. k.broken.others (subst IsTrue (sym k.told) t);
    })
  where
    first : Moves (Opens 0 views) script s0 Begins (k.cut ∷ k.left) k.mid k.through.files
    first = go_on (Opens 0 views) Begins Begins script script (k.cut ∷ k.left) s0 s1 k.mid [] k.through.files (shown script) k.through.moves

    last : Moves Begins (k.cut ∷ k.left) k.mid Begins k.left s2 (k.broken.file ∷ [])
    last = k.broken.obeys k.left

pub one_less : (image k n : ℕ) → image ≡ suc k → n ≡ image - 1 → image ≡ suc n
one_less image k n is less = omega (arith, is, less)
