-- A run that makes something of what it opened.
use Rattle.std.proofs.Common.{◌≡◌, ℕ, ◌+◌, List, [], ◌∷◌, ◌++◌, map, length, take, Some, option_map, Result, Ok, Err, IsTrue, refl, ap, sym, subst, append-nil, arith, ◌∙◌}
use Rattle.std.proofs.lemmas.List.{length-append}
use Rattle.std.specs.List.{slice_get}
use Rattle.cv_outside.specs.Counts.{Rose}
use Rattle.cv_outside.specs.Seen.{ShelfSeen, TraySeen, SinkSeen}
use Rattle.cv_open.specs.declared.ends.End.{End}
use Rattle.cv_open.specs.declared.ends.End.TheVariants.{Done, NoMemory, Usage, BadProject, BadData, BadScript, ReadFault, WriteFault, Missing}
use Rattle.cv_open.specs.declared.ends.Which.{Which}
use Rattle.cv_open.specs.Readings.{Asked, FilesFound, Reading, Reads, only, LeadsTo, IsReadAs}
use Rattle.cv_top.specs.declared.orders.Order.{Order}
use Rattle.cv_outside.specs.Seen.{NamedFiles}
use Rattle.cv_top.specs.Outcomes.{Product, Refused, Made, Told, Broken, Stopped, Outcome, text_of, product_from, outcome_from, IsOutcome}
use Rattle.cv_top.specs.Runs.{HasCause, Asks, Keeps, Prints, IsAskedAt, IsRunOf, IsWritten, Untouched}
use Rattle.cv_top.proofs.RunLemmas.{more_causes, completes, asks_all}

-- the names in front, and what stands behind them
front : (names rest : List Asked) → take (length names) (names ++ rest) ≡ names
front [] rest = grind arith
front (a ∷ names) rest = ap (λ (l : List Asked). a ∷ l) (front names rest)

front_more : (names : List Asked) (a : Asked) (rest : List Asked) → take (length names + 1) ((names ++ a ∷ []) ++ rest) ≡ names ++ a ∷ []
front_more names a rest =
    ap (λ (n : ℕ). take n ((names ++ a ∷ []) ++ rest)) (sym (length-append names (a ∷ []))) ∙ front (names ++ a ∷ []) rest

at_front : (names : List Asked) (a : Asked) (rest : List Asked) → slice_get ((names ++ a ∷ []) ++ rest) (length names) ≡ Some a
at_front [] a rest = refl
at_front (b ∷ names) a rest = at_front names a rest

module _ {X : Type 0} (order : Order) (reads : Reads X) (make : X → Product) (gives : (found : FilesFound) → IsOutcome order found (outcome_from make (reads found)))
    (shelf shelf' : ShelfSeen) (tray tray' : TraySeen) (out out' : SinkSeen) where
  -- all was read
  pub opened_run : (x : X) (end : End) → LeadsTo reads (only (Ok x)) shelf shelf'
      → IsWritten end (make x) tray tray' out out' → IsRunOf order end shelf shelf' tray tray' out out'
  opened_run x end l w =
      let f = l.gives (λ _. shelf'.files) (λ _ _ _. refl) in
      let is : outcome_from make (reads f.0) ≡ record { asked = l.names; product = make x } =
      ap (outcome_from make) f.2 ∙ ap (λ (names : List Asked). record { asked = names; product = make x }) (append-nil l.names) in record {
        reads = f.0;
        told = f.1;
        outcome = record { asked = l.names; product = make x };
        gives = subst (IsOutcome order f.0) is (gives f.0);
        cause = more_causes end (make x) _ _ _ _ w.cause;
        names = λ t. asks_all end (make x) _ _ _ l.names _ _ w.cause (l.asked t);
        outputs = w.outputs;
        text = w.text;
        complete = completes end (make x) (λ _. ⊥) _ _ _ _ w.cause (λ which r. absurd r);
      }

-- a product leaves the tray alone where memory was wanting before anything was written
abbrev pub IsQuiet : Product → Type 0
IsQuiet p = (files : NamedFiles) → Keeps NoMemory p files files

quiet_from : {X : Type 0} (make : X → Product) → ((x : X) → IsQuiet (make x)) → (r : Result X End) → IsQuiet (product_from make r)
quiet_from make quiet (Ok x) = quiet x
quiet_from make quiet (Err end) = λ files. (0, λ q. refl)

-- any product does where a read failed
keeps_fault : (which : Which) (p : Product) (files : NamedFiles) → Keeps (ReadFault which) p files files
keeps_fault which (Refused end) files = λ q. refl
keeps_fault which (Made fs text) files = λ q. refl
keeps_fault which (Told memory fs text) files = λ q. refl
keeps_fault which (Broken fs) files = λ q. refl
keeps_fault which (Stopped script) files = λ name other. refl

module _ {X : Type 0} (order : Order) (reads : Reads X) (make : X → Product) (gives : (found : FilesFound) → IsOutcome order found (outcome_from make (reads found)))
    (quiet : (x : X) → IsQuiet (make x)) (shelf shelf' : ShelfSeen) (tray : TraySeen) (out : SinkSeen) where
  -- a refusal ended the reads
  refused : (end : End) (l : LeadsTo reads (only (Err end)) shelf shelf')
      → HasCause end (Refused end) (λ which. (n : ℕ) × IsAskedAt n which l.names × Rose shelf.faults shelf'.faults)
      (Rose shelf.misses shelf'.misses) (Rose tray.faults tray.faults) (Rose out.faults out.faults)
      → (IsTrue shelf.tells → Asks end l.names shelf.asked shelf'.asked)
      → Keeps end (Refused end) tray.files tray.files → Prints end [] out.taken out.taken
      → IsRunOf order end shelf shelf' tray tray out out
  refused end l cause asks keeps prints =
      let f = l.gives (λ _. shelf'.files) (λ _ _ _. refl) in
      let is : outcome_from make (reads f.0) ≡ record { asked = l.names; product = Refused end } =
      ap (outcome_from make) f.2 ∙ ap (λ (names : List Asked). record { asked = names; product = Refused end }) (append-nil l.names) in record {
        reads = f.0;
        told = f.1;
        outcome = record { asked = l.names; product = Refused end };
        gives = subst (IsOutcome order f.0) is (gives f.0);
        cause = cause;
        names = asks;
        outputs = λ t. keeps;
        text = λ t. prints;
        complete = completes end (Refused end) _ _ _ _ _ cause (λ which r. r.2);
      }

  -- reads broke off
  broken : (end : End) (rest : Reads X) (l : LeadsTo reads rest shelf shelf')
      → ((o : Outcome) (later : List Asked) → o.asked ≡ l.names ++ later → IsQuiet o.product
      → HasCause end o.product (λ which. (n : ℕ) × IsAskedAt n which o.asked × Rose shelf.faults shelf'.faults)
      (Rose shelf.misses shelf'.misses) (Rose tray.faults tray.faults) (Rose out.faults out.faults)
      × (IsTrue shelf.tells → Asks end o.asked shelf.asked shelf'.asked)
      × Keeps end o.product tray.files tray.files × Prints end (text_of o.product) out.taken out.taken)
      → IsRunOf order end shelf shelf' tray tray out out
  broken end rest l all =
      let later : FilesFound = λ _. shelf'.files in
      let f = l.gives later (λ _ _ _. refl) in
      let o : Outcome = outcome_from make (reads f.0) in
      let h = all o (rest later).asked (ap (λ (r : Reading X). r.asked) f.2) (quiet_from make quiet (reads f.0).given) in record {
        reads = f.0;
        told = f.1;
        outcome = o;
        gives = gives f.0;
        cause = h.0;
        names = h.1;
        outputs = λ t. h.2;
        text = λ t. h.3;
        complete = completes end o.product _ _ _ _ _ h.0 (λ which r. r.2);
      }

  -- reads gave no value
  pub stopped_run : (end : End) → IsReadAs reads (Err end) shelf shelf' → IsRunOf order end shelf shelf' tray tray out out
  stopped_run NoMemory r =
      broken NoMemory r.0 r.1
      (λ o later is still. (
        tt,
        λ t. (
          length r.1.names,
          r.1.asked t ∙ ap (λ (names : List Asked). shelf.asked ++ map (λ a. a.name) names)
              (sym (ap (take (length r.1.names)) is ∙ front r.1.names later)),
        ),
        still tray.files,
        (0, sym (append-nil out.taken)),
      ))
  stopped_run (ReadFault which) r =
      let b = r.0 in
      let w : Asked = record { which = which; name = b.name } in
      broken (ReadFault which) b.rest b.leads
      (λ o later is still.
      let same : o.asked ≡ (b.front ++ w ∷ []) ++ later = is ∙ ap (λ (names : List Asked). names ++ later) b.last in
      let at : IsAskedAt (length b.front) which o.asked =
      ap (λ (asked : List Asked). option_map (λ a. a.which) (slice_get asked (length b.front))) same
      ∙ ap (option_map (λ a. a.which)) (at_front b.front w later) in (
        (length b.front, at, r.1),
        λ t. (
          length b.front,
          at,
          b.leads.asked t ∙ ap (λ (names : List Asked). shelf.asked ++ map (λ a. a.name) names)
              (b.last ∙ sym (ap (take (length b.front + 1)) same ∙ front_more b.front w later)),
        ),
        keeps_fault which o.product tray.files,
        refl,
      ))
  stopped_run (Missing which) r = refused (Missing which) r.0 (refl, r.1) r.0.asked (λ q. refl) refl
  stopped_run (BadProject error) r = refused (BadProject error) r refl r.asked (λ q. refl) refl
  stopped_run (BadData place error) r = refused (BadData place error) r refl r.asked (λ q. refl) refl
  stopped_run (BadScript line) r = refused (BadScript line) r refl r.asked (λ q. refl) refl
  stopped_run Done r = absurd r
  stopped_run Usage r = absurd r
  stopped_run (WriteFault which) r = absurd r

-- reads that gave no value leave tray and sink untouched
pub stopped_untouched : {X : Type 0} (all : Reads X) (end : End) (old new : ShelfSeen) (tray out : Type 0)
    → IsReadAs all (Err end) old new → tray → out → Untouched end ⊥ tray out
stopped_untouched all Done old new tray out r t o = absurd r
stopped_untouched all NoMemory old new tray out r t o = tt
stopped_untouched all Usage old new tray out r t o = absurd r
stopped_untouched all (BadProject error) old new tray out r t o = (t, o)
stopped_untouched all (BadData place error) old new tray out r t o = (t, o)
stopped_untouched all (BadScript line) old new tray out r t o = (t, o)
stopped_untouched all (ReadFault which) old new tray out r t o = (t, o)
stopped_untouched all (Missing which) old new tray out r t o = (t, o)
stopped_untouched all (WriteFault which) old new tray out r t o = absurd r
