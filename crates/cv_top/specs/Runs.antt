-- What a run is: its end, and what stands of its devices.
use Rattle.std.specs.Prelude.{◌≡◌, ◌↔◌, ℕ, ◌+◌, ◌-◌, ◌≤◌, ◌⊎◌, Some, option_map, IsTrue}
use Rattle.std.specs.Prelude.{List, [], ◌++◌, length, take, map, slice_get}
use Rattle.cv_outside.specs.declared.shelves.Shelf.{Ghosts as ShelfGhosts}
use Rattle.cv_outside.specs.declared.sinks.Sink.{Ghosts as SinkGhosts}
use Rattle.cv_outside.specs.declared.trays.Tray.{Ghosts as TrayGhosts}
use Rattle.cv_outside.specs.Counts.{Rose}
use Rattle.cv_outside.specs.Reads.{SameFiles}
use Rattle.cv_outside.specs.Seen.{NamedFiles, ShelfSeen, TraySeen, SinkSeen, shelf_seen, tray_seen, sink_seen}
use Rattle.cv_outside.specs.Seen.{ShelfStands, TrayStands, SinkStands}
use Rattle.cv_open.specs.declared.ends.End.{End}
use Rattle.cv_open.specs.declared.ends.End.TheVariants.{Done, NoMemory, Usage, BadProject, BadData, Missing}
use Rattle.cv_open.specs.declared.ends.End.TheVariants.{BadScript, ReadFault, WriteFault}
use Rattle.cv_open.specs.declared.ends.Which.{Which}
use Rattle.cv_open.specs.declared.ends.Which.TheVariants.{Project, Layer, Script, Output, Text}
use Rattle.cv_session.specs.Files.{Puts, Breaks, Spares}
use Rattle.cv_session.specs.Plays.{Written}
use Rattle.cv_top.specs.declared.orders.Order.{Order}
use Rattle.cv_top.specs.declared.stage.Staged.{Staged}
use Rattle.cv_open.specs.Readings.{Asked, FilesFound, AreOf}
use Rattle.cv_top.specs.Outcomes.{Product, Refused, Made, Told, Broken, Stopped, Outcome, IsOutcome, IsPlayed}
use Rattle.cv_top.specs.Outcomes.{end_of, text_of}
use Rattle.cv_top.specs.Words.{IsOrder, IsNoForm}

-- the name asked at a place, counted from 0, is that of this file
abbrev pub IsAskedAt : ℕ → Which → List Asked → Type 0
IsAskedAt n which asked = option_map (λ a. a.which) (slice_get asked n) ≡ Some which

-- the output of this number can fail: one of those that are written, or the last
abbrev pub IsOutput : ℕ → Product → Type 0
IsOutput k (Refused end) = ⊥
IsOutput k (Made files text) = (1 ≤ k) × (k ≤ length files)
IsOutput k (Told memory files text) = ⊥
IsOutput k (Broken files) = (1 ≤ k) × (k ≡ length files)
IsOutput k (Stopped script) = ⊥

-- there is a text
abbrev pub HasText : Product → Type 0
HasText (Refused end) = ⊥
HasText (Made files text) = Unit {0}
HasText (Told memory files text) = Unit {0}
HasText (Broken files) = ⊥
HasText (Stopped script) = ⊥

-- nothing was refused
abbrev pub IsBegun : Product → Type 0
IsBegun (Refused end) = ⊥
IsBegun p = Unit {0}

-- the cause of each end: a refusal is the product's own; a fault is one of the file asked, of the output of
-- this number or of the text, whose count rose; for a missing file the count of misses rose too
abbrev pub HasCause : End → Product → (read : Which → Type 0) → (miss write print : Type 0) → Type 0
HasCause Done p read miss write print = end_of p ≡ Done
HasCause NoMemory p read miss write print = Unit {0}
HasCause Usage p read miss write print = ⊥
HasCause (BadProject error) p read miss write print = end_of p ≡ BadProject error
HasCause (BadData place error) p read miss write print = end_of p ≡ BadData place error
HasCause (BadScript line) p read miss write print = end_of p ≡ BadScript line
HasCause (Missing which) p read miss write print = (end_of p ≡ Missing which) × miss
HasCause (ReadFault which) p read miss write print = read which
HasCause (WriteFault (Output k)) p read miss write print = IsOutput k p × write
HasCause (WriteFault Text) p read miss write print = HasText p × print
HasCause (WriteFault Project) p read miss write print = ⊥
HasCause (WriteFault (Layer place)) p read miss write print = ⊥
HasCause (WriteFault Script) p read miss write print = ⊥

-- what no call was made on: at no form the three devices, at a refusal and a failed read tray and sink, at
-- an output's fault the sink
abbrev pub Untouched : End → (shelf tray out : Type 0) → Type 0
Untouched Usage shelf tray out = shelf × tray × out
Untouched (BadProject error) shelf tray out = tray × out
Untouched (BadData place error) shelf tray out = tray × out
Untouched (BadScript line) shelf tray out = tray × out
Untouched (ReadFault which) shelf tray out = tray × out
Untouched (Missing which) shelf tray out = tray × out
Untouched (WriteFault (Output k)) shelf tray out = out
Untouched (WriteFault Text) shelf tray out = Unit {0}
Untouched (WriteFault Project) shelf tray out = ⊥
Untouched (WriteFault (Layer place)) shelf tray out = ⊥
Untouched (WriteFault Script) shelf tray out = ⊥
Untouched Done shelf tray out = Unit {0}
Untouched NoMemory shelf tray out = Unit {0}

-- the names asked: all of them; up to the file whose read failed; the first so many of them at want of memory
abbrev pub Asks : End → List Asked → (old new : List (List ℕ)) → Type 0
Asks NoMemory asked old new = (n : ℕ) × (new ≡ old ++ map (λ a. a.name) (take n asked))
Asks (ReadFault which) asked old new =
    (n : ℕ) × IsAskedAt n which asked × (new ≡ old ++ map (λ a. a.name) (take (n + 1) asked))
Asks end asked old new = new ≡ old ++ map (λ a. a.name) asked

-- the tray's files: all are put; those before a fault; the first so many of them at want of memory; none
abbrev pub KeepsFiles : End → List Written → (old new : NamedFiles) → Type 0
KeepsFiles Done files old new = Puts files old new
KeepsFiles (WriteFault Text) files old new = Puts files old new
KeepsFiles (WriteFault (Output k)) files old new = Breaks (k - 1) files old new
KeepsFiles NoMemory files old new = (n : ℕ) × Puts (take n files) old new
KeepsFiles end files old new = SameFiles old new

-- the same where the end is want of memory, but came behind the files
abbrev pub KeepsAll : End → List Written → (old new : NamedFiles) → Type 0
KeepsAll NoMemory files old new = Puts files old new
KeepsAll end files old new = KeepsFiles end files old new

-- the tray's files by what was to be made: of a session that is through all, whatever became of its text; of one
-- that got no memory those that its script doesn't name are as before
abbrev pub Keeps : End → Product → (old new : NamedFiles) → Type 0
Keeps end (Refused refusal) old new = KeepsFiles end [] old new
Keeps end (Made files text) old new = KeepsFiles end files old new
Keeps end (Told memory files text) old new = KeepsAll end files old new
Keeps end (Broken files) old new = KeepsFiles end files old new
Keeps end (Stopped script) old new = Spares script old new

-- what the sink took: the whole text; a front of it at its own fault and want of memory; nothing
abbrev pub Prints : End → (text old new : List ℕ) → Type 0
Prints Done text old new = new ≡ old ++ text
Prints (WriteFault Text) text old new = (n : ℕ) × (new ≡ old ++ take n text)
Prints NoMemory text old new = (n : ℕ) × (new ≡ old ++ take n text)
Prints end text old new = new ≡ old

-- without a fault of the shelf, nor of tray and sink where nothing is refused, the end is the product's, but
-- for want of memory
abbrev pub IsComplete : End → Product → (read write print : Type 0) → Type 0
IsComplete end p read write print =
    ¬ read → (IsBegun p → (¬ write) × (¬ print)) → (end ≡ end_of p) ⊎ (end ≡ NoMemory)

-- the end of a session a task of which got no memory, where its text was written with this end
abbrev pub lacking : End → End
lacking Done = NoMemory
lacking end = end

-- the part of a run behind its reads, which have given this product
pub record IsWritten (end : End) (p : Product) (tray tray' : TraySeen) (out out' : SinkSeen) : Type 0 where
  pub cause : HasCause end p (λ _. ⊥) ⊥ (Rose tray.faults tray'.faults) (Rose out.faults out'.faults)
  pub outputs : IsTrue tray.tells → Keeps end p tray.files tray'.files
  pub text : IsTrue out.tells → Prints end (text_of p) out.taken out'.taken
  pub tray_stands : TrayStands tray tray'
  pub out_stands : SinkStands out out'

-- a session behind its reads, which have given this
abbrev pub IsPlayRun : Staged → End → (tray tray' : TraySeen) → (out out' : SinkSeen) → Type 0
IsPlayRun s end tray tray' out out' = (p : Product) × IsPlayed s p × IsWritten end p tray tray' out out'

-- a run of an order: what the order gives over the files that the reads found, the shelf's own where it tells
pub record IsRunOf
    (order : Order) (end : End) (shelf shelf' : ShelfSeen) (tray tray' : TraySeen) (out out' : SinkSeen)
    : Type 0 where
  pub reads : FilesFound
  pub told : AreOf shelf reads
  pub outcome : Outcome
  pub gives : IsOutcome order reads outcome
  pub cause :
      HasCause end outcome.product
      (λ which. (n : ℕ) × IsAskedAt n which outcome.asked × Rose shelf.faults shelf'.faults)
      (Rose shelf.misses shelf'.misses) (Rose tray.faults tray'.faults) (Rose out.faults out'.faults)
  pub names : IsTrue shelf.tells → Asks end outcome.asked shelf.asked shelf'.asked
  pub outputs : IsTrue tray.tells → Keeps end outcome.product tray.files tray'.files
  pub text : IsTrue out.tells → Prints end (text_of outcome.product) out.taken out'.taken
  pub complete :
      IsComplete end outcome.product
      (Rose shelf.faults shelf'.faults) (Rose tray.faults tray'.faults) (Rose out.faults out'.faults)

-- a run that obeys an order, with what stands of its devices
pub record Obeys {F T O : Type 0} (f : ShelfGhosts F) (t : TrayGhosts T) (o : SinkGhosts O)
    (order : Order) (end : End) (shelf shelf' : F) (tray tray' : T) (out out' : O) : Type 0 where
  pub untouched : Untouched end ⊥ (tray' ≡ tray) (out' ≡ out)
  pub shelf_stands : ShelfStands (shelf_seen f shelf) (shelf_seen f shelf')
  pub tray_stands : TrayStands (tray_seen t tray) (tray_seen t tray')
  pub out_stands : SinkStands (sink_seen o out) (sink_seen o out')
  pub run :
      IsRunOf order end (shelf_seen f shelf) (shelf_seen f shelf') (tray_seen t tray) (tray_seen t tray')
      (sink_seen o out) (sink_seen o out')

-- a run of a command: Usage exactly where the words are no form, and else a run of what they ask for
pub record IsRun {F T O : Type 0} (f : ShelfGhosts F) (t : TrayGhosts T) (o : SinkGhosts O)
    (end : End) (words : List (List ℕ)) (shelf shelf' : F) (tray tray' : T) (out out' : O) : Type 0 where
  pub usage : (end ≡ Usage) ↔ IsNoForm words
  pub untouched : Untouched end (shelf' ≡ shelf) (tray' ≡ tray) (out' ≡ out)
  pub shelf_stands : ShelfStands (shelf_seen f shelf) (shelf_seen f shelf')
  pub tray_stands : TrayStands (tray_seen t tray) (tray_seen t tray')
  pub out_stands : SinkStands (sink_seen o out) (sink_seen o out')
  pub run :
      (order : Order) → IsOrder words order → IsRunOf order end (shelf_seen f shelf) (shelf_seen f shelf')
      (tray_seen t tray) (tray_seen t tray') (sink_seen o out) (sink_seen o out')

-- no device failed
abbrev pub IsNoFault : End → Type 0
IsNoFault (ReadFault which) = ⊥
IsNoFault (WriteFault which) = ⊥
IsNoFault end = Unit {0}
