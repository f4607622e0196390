-- A session that is played.
use Rattle.std.proofs.Common.{◌≡◌, ℕ, zero, suc, ◌+◌, ◌-◌, ◌<◌, ◌≤◌, Bool, true, false, if◌then◌else◌, List, [], ◌∷◌, ◌++◌, map, length, take, Option, Some, Result, Ok, Err, IsTrue, refl, ap, sym, subst, append-nil, arith, ◌∙◌}
use Rattle.std.proofs.Math.Seq.{take-length}
use Rattle.std.proofs.Math.Nat.{min-le_left}
use Rattle.std.specs.List.{list_all, All, AllByRecursion, AllZip}
use Rattle.cv_outside.specs.Counts.{Rose}
use Rattle.cv_outside.specs.Seen.{NamedFiles, ShelfSeen, TraySeen, SinkSeen, TrayStands}
use Rattle.cv_outside.proofs.SeenLemmas.{sink_stays}
use Rattle.cv_event.specs.declared.entry.Entry.{Entry}
use Rattle.cv_event.specs.Lines.{journal_text}
use Rattle.cv_event.specs.TextLaws.{FitsSpec, FitsOpening}
use Rattle.cv_model.specs.Layers.{Project}
use Rattle.cv_model.specs.declared.project.CanvasSpec.{CanvasSpec}
use Rattle.cv_model.specs.Views.{PixelGrid}
use Rattle.cv_script.specs.declared.script.Numbered.{Numbered}
use Rattle.cv_session.specs.declared.report.Report.{Report}
use Rattle.cv_session.specs.Files.{Puts, Breaks, Spares}
use Rattle.cv_session.specs.Laws.{is_no_fail, HasMemory}
use Rattle.cv_session.specs.Plays.{Written}
use Rattle.cv_session.specs.Reports.{reported, RunDone, RunBroken}
use Rattle.cv_open.specs.declared.ends.End.{End}
use Rattle.cv_open.specs.declared.ends.End.TheVariants.{Done, NoMemory, Usage, BadProject, BadData, BadScript, ReadFault, WriteFault, Missing}
use Rattle.cv_open.specs.declared.ends.Which.TheVariants.{Layer, Script, Output, Text}
use Rattle.cv_open.specs.declared.ends.Which.TheVariants as which_file
use Rattle.cv_open.specs.Opened.{opening_in, views_in}
use Rattle.cv_open.specs.Readings.{Asked, FilesFound, Reading, Reads, only, LeadsTo}
use Rattle.cv_top.specs.declared.orders.Order.{Order}
use Rattle.cv_top.specs.declared.orders.Order.TheVariants.{Session}
use Rattle.cv_top.specs.declared.stage.Staged.{Staged}
use Rattle.cv_top.specs.Parts.{SessionParts}
use Rattle.cv_top.specs.Sessions.{session_read, IsPlay}
use Rattle.cv_top.specs.Outcomes.{Product, Made, Told, Broken, Stopped, end_told, error_end, journal_made, outcome_from, IsPlayed, IsPlayedOf, IsOutcome}
use Rattle.cv_top.specs.Runs.{Untouched, IsWritten, IsPlayRun, IsRunOf, lacking}
use Rattle.std.proofs.Common.{◌⊎◌, inl, inr, cond, zip, None, option_map, IfSome}
use Rattle.std.proofs.lemmas.List.{length-map}
use Rattle.std.proofs.lemmas.List.Elements.{recursion_from_All}
use Rattle.std.proofs.lemmas.Slice.Zip.{length-zip}
use Rattle.cv_model.specs.declared.project.LayerFile.{LayerFile}
use Rattle.cv_model.specs.Positions.{Rectangle}
use Rattle.cv_model.specs.Views.{grid_of}
use Rattle.std.proofs.lemmas.Bool.{lt-ltb, le-ltb}
use Rattle.cv_model.specs.declared.layer.LayerData.{LayerData}
use Rattle.cv_model.specs.declared.project.CanvasFile.{CanvasFile}
use Rattle.cv_model.specs.Openings.{CanOpen, canvas_of_file, layer_of_file, first_view, opening_of}
use Rattle.cv_model.specs.ProjectFiles.{FileParts, IsCanvas}
use Rattle.cv_script.specs.declared.error.ScriptError.{ScriptError}
use Rattle.cv_script.specs.declared.error.ScriptError.TheVariants as script_error
use Rattle.cv_script.specs.Scripts.{script_of}
use Rattle.cv_session.specs.Reports.{AreFirst, RunEnds}
use Rattle.cv_session.specs.declared.report.SessionError.{SessionError}
use Rattle.cv_session.specs.declared.report.SessionError.TheVariants as session_error
use Rattle.cv_open.specs.Readings.{IsSaid}
use Rattle.cv_open.proofs.ReadingLemmas.{stays}
use Rattle.cv_top.specs.Sessions.{most_script, as_script, script_said}
use Rattle.cv_top.proofs.RunLemmas.{more_causes, completes, asks_all}
use Rattle.cv_top.proofs.OpenLemmas.{IsQuiet}

-- ---- the text

-- a session that is through ends as its text does, where none of its tasks wanted memory, and else for want of it; so far
-- without files
none_put : (n : ℕ) (old new : NamedFiles) → Puts (take n []) old new → Puts [] old new
none_put zero old new h = h
none_put (suc n) old new h = h

pub text_told : (memory : Bool) (end : End) (text : List ℕ) (tray : TraySeen) (out out' : SinkSeen) → IsWritten end (Made [] text) tray tray out out'
    → IsWritten (if memory then end else lacking end) (Told memory [] text) tray tray out out'
text_told true Done text tray out out' w =
    record { cause = refl; outputs = w.outputs; text = w.text; tray_stands = w.tray_stands; out_stands = w.out_stands }
text_told false Done text tray out out' w = record {
  cause = tt;
  outputs = w.outputs;
  text = λ t. (length text, w.text t ∙ ap (λ (l : List ℕ). out.taken ++ l) (sym (take-length text)));
  tray_stands = w.tray_stands;
  out_stands = w.out_stands;
}
text_told memory NoMemory text tray out out' w = by memory
  where
    kept : IsWritten NoMemory (Told memory [] text) tray tray out out'
    kept = record {
      cause = tt;
      outputs = λ t. none_put (w.outputs t).0 tray.files tray.files (w.outputs t).1;
      text = w.text;
      tray_stands = w.tray_stands;
      out_stands = w.out_stands;
    }

    by : (b : Bool) → IsWritten (if b then NoMemory else lacking NoMemory) (Told memory [] text) tray tray out out'
    by true = kept
    by false = kept
text_told memory (WriteFault Text) text tray out out' w = by memory
  where
    kept : IsWritten (WriteFault Text) (Told memory [] text) tray tray out out'
    kept = record { cause = w.cause; outputs = w.outputs; text = w.text; tray_stands = w.tray_stands; out_stands = w.out_stands }

    by : (b : Bool) → IsWritten (if b then WriteFault Text else lacking (WriteFault Text)) (Told memory [] text) tray tray out out'
    by true = kept
    by false = kept
text_told memory Usage text tray out out' w = absurd w.cause
text_told memory (BadProject error) text tray out out' w = absurd (other w.cause)
  where
    other : Done ≡ BadProject error → ⊥
    other e = absurd cc
text_told memory (BadData place error) text tray out out' w = absurd (other w.cause)
  where
    other : Done ≡ BadData place error → ⊥
    other e = absurd cc
text_told memory (BadScript line) text tray out out' w = absurd (other w.cause)
  where
    other : Done ≡ BadScript line → ⊥
    other e = absurd cc
text_told memory (Missing which) text tray out out' w = absurd w.cause.1
text_told memory (ReadFault which) text tray out out' w = absurd w.cause
text_told memory (WriteFault (Output k)) text tray out out' w = absurd (omega (arith, w.cause.0.0, w.cause.0.1))
text_told memory (WriteFault which_file.Project) text tray out out' w = absurd w.cause
text_told memory (WriteFault (Layer place)) text tray out out' w = absurd w.cause
text_told memory (WriteFault Script) text tray out out' w = absurd w.cause

-- ---- with the files before it

-- a session that is through ends in no other way
ends_told : (memory : Bool) (end : End) → end_told memory ≡ end → (end ≡ Done) ⊎ (end ≡ NoMemory)
ends_told true end e = inl (sym e)
ends_told false end e = inr (sym e)

with_files : (memory : Bool) (end : End) (files : List Written) (text : List ℕ) (tray tray' : TraySeen) (out out' : SinkSeen) → TrayStands tray tray'
    → (IsTrue tray.tells → Puts files tray.files tray'.files) → IsWritten end (Told memory [] text) tray' tray' out out' → IsWritten end (Told memory files text) tray tray' out out'
with_files memory Done files text tray tray' out out' stands puts w =
    record { cause = w.cause; outputs = puts; text = w.text; tray_stands = stands; out_stands = w.out_stands }
with_files memory NoMemory files text tray tray' out out' stands puts w =
    record { cause = tt; outputs = puts; text = w.text; tray_stands = stands; out_stands = w.out_stands }
with_files memory (WriteFault Text) files text tray tray' out out' stands puts w =
    record { cause = w.cause; outputs = puts; text = w.text; tray_stands = stands; out_stands = w.out_stands }
with_files memory Usage files text tray tray' out out' stands puts w = absurd w.cause
with_files memory (BadProject error) files text tray tray' out out' stands puts w = absurd (other (ends_told memory (BadProject error) w.cause))
  where
    other : (BadProject error ≡ Done) ⊎ (BadProject error ≡ NoMemory) → ⊥
    other (inl e) = absurd cc
    other (inr e) = absurd cc
with_files memory (BadData place error) files text tray tray' out out' stands puts w = absurd (other (ends_told memory (BadData place error) w.cause))
  where
    other : (BadData place error ≡ Done) ⊎ (BadData place error ≡ NoMemory) → ⊥
    other (inl e) = absurd cc
    other (inr e) = absurd cc
with_files memory (BadScript line) files text tray tray' out out' stands puts w = absurd (other (ends_told memory (BadScript line) w.cause))
  where
    other : (BadScript line ≡ Done) ⊎ (BadScript line ≡ NoMemory) → ⊥
    other (inl e) = absurd cc
    other (inr e) = absurd cc
with_files memory (Missing which) files text tray tray' out out' stands puts w = absurd w.cause.1
with_files memory (ReadFault which) files text tray tray' out out' stands puts w = absurd w.cause
with_files memory (WriteFault (Output k)) files text tray tray' out out' stands puts w = absurd w.cause.0
with_files memory (WriteFault which_file.Project) files text tray tray' out out' stands puts w = absurd w.cause
with_files memory (WriteFault (Layer place)) files text tray tray' out out' stands puts w = absurd w.cause
with_files memory (WriteFault Script) files text tray tray' out out' stands puts w = absurd w.cause

-- ---- what a session comes to

-- a script that is through
pub done_played : (s : Staged) (r : Report) (end : End) (tray tray' : TraySeen) (out out' : SinkSeen) → TrayStands tray tray'
    → RunDone (opening_in s.opened) (views_in s.opened) s.script r tray tray' → IsWritten end (journal_made r) tray' tray' out out' → IsPlayRun s end tray tray' out out'
done_played s r end tray tray' out out' stands run w = by_memory (list_all (λ (entry : Entry). is_no_fail entry.act) r.journal.entries) refl w
  where
    files : List Written
    files = reported (opening_in s.opened) s.script r

    text : List ℕ
    text = journal_text r.journal.entries r.refused r.images

    play : (P : List Entry → Type 0) → P r.journal.entries → IsPlay s files text P
    play P holds = record {
      journal = r.journal.entries;
      refused = r.refused;
      legal = run.legal;
      follows = run.follows;
      files_are = refl;
      text_is = ap (journal_text r.journal.entries r.refused) run.images;
      holds = holds;
    }

    by_memory : (memory : Bool) → list_all (λ (entry : Entry). is_no_fail entry.act) r.journal.entries ≡ memory → IsWritten end (Told memory [] text) tray' tray' out out'
        → IsPlayRun s end tray tray' out out'
    by_memory true e w = (Told true files text, play HasMemory e, with_files true end files text tray tray' out out' stands run.puts w)
    by_memory false e w =
        (Told false files text, play (λ journal. HasMemory journal → ⊥) (λ h. absurd (none (sym e ∙ h))), with_files false end files text tray tray' out out' stands run.puts w)
      where
        none : false ≡ true → ⊥
        none h = absurd cc

-- one that is cut by a failed write
pub broken_played : (s : Staged) (image : ℕ) (r : Report) (tray tray' : TraySeen) (out : SinkSeen) → TrayStands tray tray'
    → RunBroken (opening_in s.opened) (views_in s.opened) s.script image r tray tray' → IsPlayRun s (WriteFault (Output image)) tray tray' out out
broken_played s image r tray tray' out stands run = (
  Broken (reported (opening_in s.opened) s.script r),
  record {
    journal = r.journal.entries;
    refused = r.refused;
    left = run.left;
    legal = run.legal;
    follows = run.follows;
    files_are = refl;
  },
  record {
    cause = ((subst (λ (k : ℕ). 1 ≤ k) (sym run.images) (omega arith), sym run.last), run.fault);
    outputs = λ t.
        let k : image - 1 ≡ r.images = omega (arith, run.images) in
        subst (λ (k : ℕ). Breaks k (reported (opening_in s.opened) s.script r) tray.files tray'.files) (sym k) (run.breaks t);
    text = λ t. refl;
    tray_stands = stands;
    out_stands = sink_stays out;
  },
)

-- one that got no memory
pub stopped_played : (s : Staged) (tray tray' : TraySeen) (out : SinkSeen) → TrayStands tray tray' → (IsTrue tray.tells → Spares s.script tray.files tray'.files)
    → IsPlayRun s NoMemory tray tray' out out
stopped_played s tray tray' out stands spares = (
  Stopped s.script,
  refl,
  record {
    cause = tt;
    outputs = spares;
    text = λ t. (0, sym (append-nil out.taken));
    tray_stands = stands;
    out_stands = sink_stays out;
  },
)

-- one that stopped
pub error_played : (s : Staged) (error : SessionError) (tray tray' : TraySeen) (out : SinkSeen) → TrayStands tray tray'
    → RunEnds (opening_in s.opened) (views_in s.opened) s.script (Err error) tray tray' → (IsTrue tray.tells → Spares s.script tray.files tray'.files)
    → IsPlayRun s (error_end error) tray tray' out out
error_played s (session_error.Tray image r) tray tray' out stands run spares = broken_played s image r tray tray' out stands run
error_played s session_error.NoMemory tray tray' out stands run spares = stopped_played s tray tray' out stands spares

pub error_untouched : (end : End) (error : SessionError) (out : Type 0) → end ≡ error_end error → out → Untouched end ⊥ ⊥ out
error_untouched end error out is same = subst (λ (e : End). Untouched e ⊥ ⊥ out) (sym is) (by error)
  where
    by : (error : SessionError) → Untouched (error_end error) ⊥ ⊥ out
    by (session_error.Tray image r) = same
    by session_error.NoMemory = tt

-- ---- with the reads before it

-- what a session gives where its reads gave no value
pub stops : Staged → Product
stops s = Stopped s.script

pub stops_given : (order : SessionParts) (found : FilesFound) → IsOutcome (Session order) found (outcome_from (λ (s : Staged). Stopped s.script) (session_read order.project order.script found))
stops_given order found = (refl, by_given (session_read order.project order.script found).given)
  where
    by_given : (r : Result Staged End) → IsPlayedOf r (outcome_from (λ (s : Staged). Stopped s.script) (record { asked = []; given = r; later = found })).product
    by_given (Ok s) = refl
    by_given (Err end) = refl

pub stops_quietly : (s : Staged) → IsQuiet (Stopped s.script)
stops_quietly s files name other = refl

-- all was read, and the script played
pub played_run : (order : SessionParts) (shelf shelf' : ShelfSeen) (tray tray' : TraySeen) (out out' : SinkSeen) (s : Staged) (end : End)
    → LeadsTo (session_read order.project order.script) (only (Ok s)) shelf shelf' → IsPlayRun s end tray tray' out out'
    → IsRunOf (Session order) end shelf shelf' tray tray' out out'
played_run order shelf shelf' tray tray' out out' s end l run =
    let p = run.0 in
    let w = run.2 in
    let f = l.gives (λ _. shelf'.files) (λ _ _ _. refl) in
    let is : session_read order.project order.script f.0 ≡ record { asked = l.names; given = Ok s; later = λ _. shelf'.files } =
    f.2 ∙ ap (λ (names : List Asked). record { asked = names; given = Ok s; later = λ _. shelf'.files }) (append-nil l.names) in record {
      reads = f.0;
      told = f.1;
      outcome = record { asked = l.names; product = p };
      gives = subst (λ (r : Reading Staged). (l.names ≡ r.asked) × IsPlayedOf r.given p) (sym is) (refl, run.1);
      cause = more_causes end p _ _ _ _ w.cause;
      names = λ t. asks_all end p _ _ _ l.names _ _ w.cause (l.asked t);
      outputs = w.outputs;
      text = w.text;
      complete = completes end p (λ _. ⊥) _ _ _ _ w.cause (λ which r. absurd r);
    }

-- ---- the script

-- the bytes of a script give this
abbrev pub Gives : List ℕ → Result (List Numbered) ScriptError → Type 0
Gives bytes r = (r ≡ Err script_error.NoMemory → ⊥) → r ≡ script_of bytes

pub script_read_ok : (bytes : List ℕ) (s : List Numbered) → Gives bytes (Ok s) → IsSaid (as_script (script_of bytes)) (Ok s)
script_read_ok bytes s h shelf =
    subst (λ (r : Result (List Numbered) ScriptError). LeadsTo (only (as_script r)) (only (Ok s)) shelf shelf) (h other) (stays (only (Ok s)) shelf)
  where
    other : ◌≡◌ {A = Result (List Numbered) ScriptError} (Ok s) (Err script_error.NoMemory) → ⊥
    other e = absurd cc

pub script_refused : (bytes : List ℕ) (line : ℕ) → Gives bytes (Err (script_error.BadLine line)) → IsSaid (as_script (script_of bytes)) (Err (BadScript line))
script_refused bytes line h shelf =
    subst (λ (r : Result (List Numbered) ScriptError). LeadsTo (only (as_script r)) (only (Err (BadScript line))) shelf shelf) (h other) (stays (only (Err (BadScript line))) shelf)
  where
    other : ◌≡◌ {A = Result (List Numbered) ScriptError} (Err (script_error.BadLine line)) (Err script_error.NoMemory) → ⊥
    other e = absurd cc

short_script : (bytes : List ℕ) → length bytes ≤ most_script → script_said bytes ≡ as_script (script_of bytes)
unfolding script_said
short_script bytes short = ap (λ b. cond b (Err (BadScript 0)) (as_script (script_of bytes))) (le-ltb _ _ short)

long_script : (bytes : List ℕ) → most_script < length bytes → script_said bytes ≡ Err (BadScript 0)
unfolding script_said
long_script bytes long = ap (λ b. cond b (Err (BadScript 0)) (as_script (script_of bytes))) (lt-ltb _ _ long)

pub script_goes : (bytes got slice : List ℕ) (result : Result (List Numbered) End) → got ≡ bytes → length bytes ≤ most_script → slice ≡ got
    → IsSaid (as_script (script_of slice)) result → IsSaid (script_said bytes) result
script_goes bytes got slice result is short same said =
    subst (λ (r : Result (List Numbered) End). IsSaid r result) (ap (λ (b : List ℕ). as_script (script_of b)) (same ∙ is) ∙ sym (short_script bytes short)) said

pub script_long : (bytes : List ℕ) → most_script < length bytes → IsSaid (script_said bytes) (Err (BadScript 0))
script_long bytes long shelf =
    subst (λ (r : Result (List Numbered) End). LeadsTo (only r) (only (Err (BadScript 0))) shelf shelf) (sym (long_script bytes long)) (stays (only (Err (BadScript 0))) shelf)

-- ---- the canvases

sizes_fit : (canvases : List CanvasFile) → AllByRecursion IsCanvas canvases → AllByRecursion FitsSpec (map canvas_of_file canvases)
sizes_fit [] f = tt
sizes_fit (c ∷ cs) f =
    let w = f.0.size.most_wide in
    let h = f.0.size.most_high in
    ((omega (arith, w), omega (arith, h)), sizes_fit cs f.1)

pub first_fit : (canvases : List CanvasFile) → AreFirst (map canvas_of_file canvases) (map first_view canvases)
first_fit [] = tt
first_fit (c ∷ cs) = (by_extent c.extent, first_fit cs)
  where
    by_extent : (o : Option Rectangle) → IfSome (option_map (λ extent. grid_of extent c.width c.height) o) (λ v. (v.w ≡ c.width) × (v.h ≡ c.height))
    by_extent None = tt
    by_extent (Some extent) = (refl, refl)

-- what a project's file opens has numbers of their types
pub opening_fits : (file : FileParts) (contents : List LayerData) → CanOpen file contents → FitsOpening (opening_of file contents)
opening_fits file contents can =
    let layers = length-map (zip file.layers contents) (λ (row : LayerFile × LayerData). layer_of_file row.0 row.1) in
    let zipped = length-zip file.layers contents in
    let few = min-le_left (length file.layers) (length contents) in
    let canvases = length-map file.canvases canvas_of_file in
    let four = can.form.few_canvases in
    let most = can.form.few_layers in record {
      layers = omega (arith, layers, zipped, few, most);
      count = omega (arith, canvases, four);
      sizes = sizes_fit file.canvases (recursion_from_All IsCanvas file.canvases can.form.canvases);
    }

pub opening_runs : (file : FileParts) (contents : List LayerData) (project : Project) (specs : List CanvasSpec) → CanOpen file contents
    → project ≡ (opening_of file contents).project → specs ≡ map canvas_of_file file.canvases → FitsOpening (record { project = project; canvases = specs })
opening_runs file contents project specs can p s =
    subst FitsOpening (λ i. record { project = sym p i; canvases = sym s i }) (opening_fits file contents can)

pub views_run : (canvases : List CanvasFile) (specs : List CanvasSpec) (views : List (Option PixelGrid)) → specs ≡ map canvas_of_file canvases → views ≡ map first_view canvases
    → AreFirst specs views
views_run canvases specs views s v =
    subst (λ (l : List CanvasSpec). AreFirst l views) (sym s) (subst (λ (l : List (Option PixelGrid)). AreFirst (map canvas_of_file canvases) l) (sym v) (first_fit canvases))
