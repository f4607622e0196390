-- A journal's text: a line for each entry, then the refused commands, then the counts.
--
-- Source: this project's own.
use Rattle.std.specs.Prelude.{ℕ, zero, suc, ◌+◌, ◌/◌, ◌%◌, ◌==◌, Bool, true, false, if◌then◌else◌, List, [], ◌∷◌}
use Rattle.std.specs.Prelude.{◌++◌, length, flat_map, codes, decimal, Option, Some, None}
use Rattle.std.specs.Fmt.{signed_decimal}
use Rattle.cv_model.specs.declared.edit.EditError.{EditError}
use Rattle.cv_model.specs.declared.edit.EditError.TheVariants as error
use Rattle.cv_event.specs.declared.entry.Act.{Act}
use Rattle.cv_event.specs.declared.entry.Act.TheVariants as act
use Rattle.cv_event.specs.declared.entry.Entry.{Entry}
use Rattle.cv_event.specs.declared.entry.Fate.{Fate}
use Rattle.cv_event.specs.declared.entry.Fate.TheVariants.{Stored, Kept, Dropped}
use Rattle.cv_event.specs.declared.refused.Reason.{Reason}
use Rattle.cv_event.specs.declared.refused.Reason.TheVariants as reason
use Rattle.cv_event.specs.declared.refused.Refused.{Refused}

-- ---- lines of words

-- words behind a first one, each after a space, up to the line's end
abbrev pub ended : List (List ℕ) → List ℕ
ended [] = 10 ∷ []
ended (word ∷ words) = 32 ∷ (word ++ ended words)

-- a line of words
abbrev pub line : List ℕ → List (List ℕ) → List ℕ
line first words = first ++ ended words

-- ---- words

abbrev pub error_word : EditError → List ℕ
error_word error.UnknownLayer = codes "unknown-layer"
error_word error.UnknownFeature = codes "unknown-feature"
error_word error.WrongKind = codes "wrong-kind"
error_word error.DuplicateId = codes "duplicate-id"
error_word error.Limit = codes "limit"
error_word error.BadPlace = codes "bad-place"
error_word error.NoMemory = codes "no-memory"

abbrev pub verdict_word : Option EditError → List ℕ
verdict_word None = codes "ok"
verdict_word (Some e) = error_word e

abbrev pub hit_word : Bool → List ℕ
hit_word true = codes "hit"
hit_word false = codes "miss"

abbrev pub fate_word : Fate → List ℕ
fate_word Stored = codes "stored"
fate_word Kept = codes "kept"
fate_word Dropped = codes "dropped"

abbrev pub reason_word : Reason → List ℕ
reason_word reason.UnknownLayer = codes "unknown-layer"
reason_word reason.UnknownFeature = codes "unknown-feature"
reason_word reason.WrongKind = codes "wrong-kind"
reason_word reason.DuplicateId = codes "duplicate-id"
reason_word reason.Limit = codes "limit"
reason_word reason.BadPlace = codes "bad-place"
reason_word reason.UnknownCanvas = codes "unknown-canvas"
reason_word reason.Empty = codes "empty"
reason_word reason.Range = codes "range"
reason_word reason.NoView = codes "no-view"
reason_word reason.TooManyJobs = codes "too-many-jobs"
reason_word reason.NoJob = codes "no-job"
reason_word reason.EndedFinished = codes "ended-finished"
reason_word reason.EndedCancelled = codes "ended-cancelled"
reason_word reason.EndedNoMemory = codes "ended-no-memory"
reason_word reason.HeldFull = codes "held-full"
reason_word reason.Nothing = codes "nothing"
reason_word reason.NothingHeld = codes "nothing-held"

-- the numbers, from k on, of the bits that are set, of so many
abbrev pub set_bits : ℕ → ℕ → ℕ → List ℕ
set_bits zero k bits = []
set_bits (suc left) k bits =
    if bits % 2 == 1 then k ∷ set_bits left (k + 1) (bits / 2) else set_bits left (k + 1) (bits / 2)

-- the slots that a preview lists, ascending
unfoldable pub listed_slots : ℕ → List ℕ
listed_slots bits = set_bits 32 0 bits

-- numbers with commas between them, or `-` for none
abbrev pub slots_word : List ℕ → List ℕ
slots_word [] = codes "-"
slots_word (slot ∷ rest) = decimal slot ++ flat_map (λ other. 44 ∷ decimal other) rest

-- ---- the text

-- the words of an act, where so many edits stand up to it
abbrev pub act_words : ℕ → Act → List (List ℕ)
act_words edits (act.Edit e verdict) = codes "edit" ∷ decimal edits ∷ verdict_word verdict ∷ []
act_words edits (act.View c view) =
    codes "view" ∷ decimal c ∷ signed_decimal view.lx2 ∷ signed_decimal view.ty2 ∷ signed_decimal view.u
    ∷ decimal view.w ∷ decimal view.h ∷ []
act_words edits (act.Start c job) = codes "start" ∷ decimal c ∷ decimal job ∷ []
act_words edits (act.Look job slot hit) = codes "look" ∷ decimal job ∷ decimal slot ∷ hit_word hit ∷ []
act_words edits (act.Deliver job slot fate) = codes "deliver" ∷ decimal job ∷ decimal slot ∷ fate_word fate ∷ []
act_words edits (act.Compose job) = codes "compose" ∷ decimal job ∷ []
act_words edits (act.Finish job) = codes "finish" ∷ decimal job ∷ []
act_words edits (act.Fail job) = codes "fail" ∷ decimal job ∷ []
act_words edits (act.Cancel job) = codes "cancel" ∷ decimal job ∷ []
act_words edits (act.Preview job bits) = codes "preview" ∷ decimal job ∷ slots_word (listed_slots bits) ∷ []
act_words edits (act.Save c job) = codes "save" ∷ decimal c ∷ decimal job ∷ []

-- the first part of the end of a view's line: the act's word, the canvas and the corner
abbrev pub corner_part : List ℕ → List ℕ → List ℕ → List ℕ
corner_part canvas left top = 32 ∷ (codes "view" ++ 32 ∷ (canvas ++ 32 ∷ (left ++ 32 ∷ top)))

-- how many edits stand up to an act, accepted or refused, where so many stand before it
abbrev pub edits_with : ℕ → Act → ℕ
edits_with edits (act.Edit e verdict) = edits + 1
edits_with edits _ = edits

-- the line of the entry of this number
abbrev pub entry_line : ℕ → ℕ → Entry → List ℕ
entry_line number edits entry = line (decimal number) (decimal entry.caller ∷ act_words edits entry.act)

-- the lines of entries, numbered from here on, where so many edits stand before
abbrev pub entry_lines : ℕ → ℕ → List Entry → List ℕ
entry_lines number edits [] = []
entry_lines number edits (entry ∷ rest) =
    entry_line number (edits_with edits entry.act) entry
    ++ entry_lines (number + 1) (edits_with edits entry.act) rest

-- the line of a refused command
abbrev pub refused_line : Refused → List ℕ
refused_line r = line (codes "refused") (decimal r.line ∷ decimal r.seen ∷ reason_word r.reason ∷ [])

-- the last line: how many entries and written images there are
abbrev pub last_line : ℕ → ℕ → List ℕ
last_line entries images = line (codes "end") (decimal entries ∷ decimal images ∷ [])

-- the text of a journal
unfoldable pub journal_text : List Entry → List Refused → ℕ → List ℕ
journal_text journal refused images =
    entry_lines 1 0 journal ++ (flat_map refused_line refused ++ last_line (length journal) images)
