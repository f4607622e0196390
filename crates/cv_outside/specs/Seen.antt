-- What a device shows, as a plain record, and what stands of it behind any of its calls.
use Rattle.std.specs.Prelude.{◌≡◌, ◌≤◌, ℕ, Bool, List, Option, IsTrue}
use Rattle.cv_outside.specs.declared.shelves.Shelf.{Ghosts as ShelfGhosts}
use Rattle.cv_outside.specs.declared.trays.Tray.{Ghosts as TrayGhosts}
use Rattle.cv_outside.specs.declared.sinks.Sink.{Ghosts as SinkGhosts}
use Rattle.cv_outside.specs.Reads.{SameFiles}

-- the bytes that stand under each name, if there are any
abbrev pub NamedFiles : Type 0
NamedFiles = List ℕ → Option (List ℕ)

-- what a shelf shows: whether it tells, the bytes under each name, the names asked, its faults and its misses
pub record ShelfSeen : Type 0 where
  pub tells : Bool
  pub files : NamedFiles
  pub asked : List (List ℕ)
  pub faults : ℕ
  pub misses : ℕ

-- what a tray shows: whether it tells, the bytes under each name, and its faults
pub record TraySeen : Type 0 where
  pub tells : Bool
  pub files : NamedFiles
  pub faults : ℕ

-- what a sink shows: whether it tells, the bytes taken, and its faults
pub record SinkSeen : Type 0 where
  pub tells : Bool
  pub taken : List ℕ
  pub faults : ℕ

-- a shelf as it is seen
abbrev pub shelf_seen : {F : Type 0} → ShelfGhosts F → F → ShelfSeen
shelf_seen g shelf =
    record {
      tells = g.tells shelf;
      files = g.file_at shelf;
      asked = g.asked shelf;
      faults = g.faults shelf;
      misses = g.misses shelf;
    }

-- a tray as it is seen
abbrev pub tray_seen : {T : Type 0} → TrayGhosts T → T → TraySeen
tray_seen g tray = record { tells = g.tells tray; files = g.file_at tray; faults = g.faults tray }

-- a sink as it is seen
abbrev pub sink_seen : {O : Type 0} → SinkGhosts O → O → SinkSeen
sink_seen g out = record { tells = g.tells out; taken = g.taken out; faults = g.faults out }

-- a shelf behind any calls: it tells as before, has the files that it had, and its counts didn't fall
pub record ShelfStands (old new : ShelfSeen) : Type 0 where
  pub told : new.tells ≡ old.tells
  pub files : IsTrue old.tells → SameFiles old.files new.files
  pub faults : old.faults ≤ new.faults
  pub misses : old.misses ≤ new.misses

-- a tray behind any calls: it tells as before, and its count didn't fall
pub record TrayStands (old new : TraySeen) : Type 0 where
  pub told : new.tells ≡ old.tells
  pub faults : old.faults ≤ new.faults

-- a sink behind any calls: it tells as before, and its count didn't fall
pub record SinkStands (old new : SinkSeen) : Type 0 where
  pub told : new.tells ≡ old.tells
  pub faults : old.faults ≤ new.faults
