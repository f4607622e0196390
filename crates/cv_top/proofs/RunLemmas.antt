-- How a run is put together, and what follows from its causes.
use Rattle.std.proofs.Common.{◌≡◌, ℕ, Bool, true, false, List, [], ◌∷◌, ◌++◌, map, Option, Some, None, IsTrue, length, refl, ap, sym, subst, inl, inr, append-nil, ◌∙◌}
use Rattle.std.proofs.Math.Seq.{take-length}
use Rattle.std.proofs.lemmas.Option.{same_Some}
use Rattle.cv_outside.specs.declared.shelves.Shelf.{Ghosts as ShelfGhosts}
use Rattle.cv_outside.specs.declared.sinks.Sink.{Ghosts as SinkGhosts}
use Rattle.cv_outside.specs.declared.trays.Tray.{Ghosts as TrayGhosts}
use Rattle.cv_outside.specs.Counts.{Rose}
use Rattle.cv_outside.specs.Seen.{ShelfSeen, TraySeen, SinkSeen, shelf_seen, tray_seen, sink_seen}
use Rattle.cv_open.specs.declared.ends.End.{End}
use Rattle.cv_open.specs.declared.ends.End.TheVariants.{Done, NoMemory, Usage, BadProject, BadData, BadScript, ReadFault, WriteFault, Missing}
use Rattle.cv_open.specs.declared.ends.Which.{Which}
use Rattle.cv_open.specs.declared.ends.Which.TheVariants.{Project, Layer, Script, Output, Text}
use Rattle.cv_top.specs.declared.orders.Order.{Order}
use Rattle.cv_top.specs.Words.{IsOrder}
use Rattle.cv_top.specs.Outcomes.{Product, Refused, Made, Told, Broken, Stopped, Outcome, end_of, text_of}
use Rattle.cv_open.specs.Readings.{Asked}
use Rattle.cv_top.specs.Runs.{HasCause, IsOutput, HasText, IsBegun, Asks, Keeps, Prints, IsComplete, IsAskedAt, Untouched, Obeys, IsRun, IsRunOf, IsWritten, IsNoFault}

-- a cause stays one where more is a cause
pub more_causes : (end : End) (p : Product) (read : Which → Type 0) (miss write print : Type 0)
    → HasCause end p (λ _. ⊥) ⊥ write print → HasCause end p read miss write print
more_causes Done p read miss write print h = h
more_causes NoMemory p read miss write print h = h
more_causes Usage p read miss write print h = h
more_causes (BadProject error) p read miss write print h = h
more_causes (BadData place error) p read miss write print h = h
more_causes (BadScript line) p read miss write print h = h
more_causes (Missing which) p read miss write print h = absurd h.1
more_causes (ReadFault which) p read miss write print h = absurd h
more_causes (WriteFault (Output k)) p read miss write print h = h
more_causes (WriteFault Text) p read miss write print h = h
more_causes (WriteFault Project) p read miss write print h = h
more_causes (WriteFault (Layer place)) p read miss write print h = h
more_causes (WriteFault Script) p read miss write print h = h

-- what can't be written wasn't refused
output_begun : (k : ℕ) (p : Product) → IsOutput k p → IsBegun p
output_begun k (Refused end) h = absurd h
output_begun k (Made files text) h = tt
output_begun k (Told memory files text) h = absurd h
output_begun k (Broken files) h = tt
output_begun k (Stopped script) h = tt

text_begun : (p : Product) → HasText p → IsBegun p
text_begun (Refused end) h = absurd h
text_begun (Made files text) h = tt
text_begun (Told memory files text) h = tt
text_begun (Broken files) h = tt
text_begun (Stopped script) h = tt

-- an end whose cause is no fault is the product's, or want of memory
pub completes : (end : End) (p : Product) (read : Which → Type 0) (miss write print any : Type 0)
    → HasCause end p read miss write print → ((which : Which) → read which → any) → IsComplete end p any write print
completes Done p read miss write print any h some r wp = inl (sym h)
completes NoMemory p read miss write print any h some r wp = inr refl
completes Usage p read miss write print any h some r wp = absurd h
completes (BadProject error) p read miss write print any h some r wp = inl (sym h)
completes (BadData place error) p read miss write print any h some r wp = inl (sym h)
completes (BadScript line) p read miss write print any h some r wp = inl (sym h)
completes (Missing which) p read miss write print any h some r wp = inl (sym h.0)
completes (ReadFault which) p read miss write print any h some r wp = absurd (r (some which h))
completes (WriteFault (Output k)) p read miss write print any h some r wp = absurd ((wp (output_begun k p h.0)).0 h.1)
completes (WriteFault Text) p read miss write print any h some r wp = absurd ((wp (text_begun p h.0)).1 h.1)
completes (WriteFault Project) p read miss write print any h some r wp = absurd h
completes (WriteFault (Layer place)) p read miss write print any h some r wp = absurd h
completes (WriteFault Script) p read miss write print any h some r wp = absurd h

-- an end with a cause is not Usage
pub not_usage : (end : End) (p : Product) (read : Which → Type 0) (miss write print : Type 0)
    → HasCause end p read miss write print → end ≡ Usage → ⊥
not_usage end p read miss write print h is = subst (λ (e : End). HasCause e p read miss write print) is h

-- all names are asked where no read failed
pub asks_all : (end : End) (p : Product) (miss write print : Type 0) (asked : List Asked) (old new : List (List ℕ))
    → HasCause end p (λ _. ⊥) miss write print → new ≡ old ++ map (λ a. a.name) asked → Asks end asked old new
asks_all Done p miss write print asked old new h e = e
asks_all NoMemory p miss write print asked old new h e = (length asked, e ∙ ap (λ l. old ++ map (λ a. a.name) l) (sym (take-length asked)))
asks_all Usage p miss write print asked old new h e = e
asks_all (BadProject error) p miss write print asked old new h e = e
asks_all (BadData place error) p miss write print asked old new h e = e
asks_all (BadScript line) p miss write print asked old new h e = e
asks_all (Missing which) p miss write print asked old new h e = e
asks_all (ReadFault which) p miss write print asked old new h e = absurd h
asks_all (WriteFault which) p miss write print asked old new h e = e

-- what a run that has read leaves untouched
untouched_more : (end : End) (shelf tray out : Type 0) → Untouched end ⊥ tray out → Untouched end shelf tray out
untouched_more Done shelf tray out h = h
untouched_more NoMemory shelf tray out h = h
untouched_more Usage shelf tray out h = absurd h.0
untouched_more (BadProject error) shelf tray out h = h
untouched_more (BadData place error) shelf tray out h = h
untouched_more (BadScript line) shelf tray out h = h
untouched_more (Missing which) shelf tray out h = h
untouched_more (ReadFault which) shelf tray out h = h
untouched_more (WriteFault (Output k)) shelf tray out h = h
untouched_more (WriteFault Text) shelf tray out h = h
untouched_more (WriteFault Project) shelf tray out h = h
untouched_more (WriteFault (Layer place)) shelf tray out h = h
untouched_more (WriteFault Script) shelf tray out h = h

-- what was made of a value that was read leaves no more untouched than the sink
pub made_untouched : (end : End) (tray out : Type 0) → Untouched end ⊥ ⊥ out → Untouched end ⊥ tray out
made_untouched Done tray out h = h
made_untouched NoMemory tray out h = h
made_untouched Usage tray out h = absurd h.0
made_untouched (BadProject error) tray out h = absurd h.0
made_untouched (BadData place error) tray out h = absurd h.0
made_untouched (BadScript line) tray out h = absurd h.0
made_untouched (Missing which) tray out h = absurd h.0
made_untouched (ReadFault which) tray out h = absurd h.0
made_untouched (WriteFault (Output k)) tray out h = h
made_untouched (WriteFault Text) tray out h = h
made_untouched (WriteFault Project) tray out h = h
made_untouched (WriteFault (Layer place)) tray out h = h
made_untouched (WriteFault Script) tray out h = h

-- without a fault no end is one
not_fault : (end : End) (p : Product) (read : Which → Type 0) (miss write print : Type 0) → HasCause end p read miss write print
    → ((which : Which) → read which → ⊥) → (write → ⊥) → (print → ⊥) → IsNoFault end
not_fault Done p read miss write print h r w o = tt
not_fault NoMemory p read miss write print h r w o = tt
not_fault Usage p read miss write print h r w o = tt
not_fault (BadProject error) p read miss write print h r w o = tt
not_fault (BadData place error) p read miss write print h r w o = tt
not_fault (BadScript line) p read miss write print h r w o = tt
not_fault (Missing which) p read miss write print h r w o = tt
not_fault (ReadFault which) p read miss write print h r w o = r which h
not_fault (WriteFault (Output k)) p read miss write print h r w o = w h.1
not_fault (WriteFault Text) p read miss write print h r w o = o h.1
not_fault (WriteFault Project) p read miss write print h r w o = h
not_fault (WriteFault (Layer place)) p read miss write print h r w o = h
not_fault (WriteFault Script) p read miss write print h r w o = h

-- an end that would be a fault only at no form is none
faultless : (end : End) (form : Type 0) → (form → end ≡ Usage) → ((IsNoFault end → ⊥) → form) → IsNoFault end
faultless Done form usage h = tt
faultless NoMemory form usage h = tt
faultless Usage form usage h = tt
faultless (BadProject error) form usage h = tt
faultless (BadData place error) form usage h = tt
faultless (BadScript line) form usage h = tt
faultless (Missing which) form usage h = tt
faultless (ReadFault which) form usage h = let e = usage (h (λ x. x)) in absurd (cc)
faultless (WriteFault which) form usage h = let e = usage (h (λ x. x)) in absurd (cc)

module _ {F T O : Type 0} (f : ShelfGhosts F) (t : TrayGhosts T) (o : SinkGhosts O)
    (end : End) (words : List (List ℕ)) (shelf shelf' : F) (tray tray' : T) (out out' : O) where
  -- a run of the one order that the words ask for is a run of the words
  pub is_run : (order : Order) → IsOrder words order → ((other : Order) → IsOrder words other → Some order ≡ Some other)
      → Obeys f t o order end shelf shelf' tray tray' out out' → IsRun f t o end words shelf shelf' tray tray' out out'
  is_run order asks only ran = record {
    usage = (λ is. absurd (not_usage end ran.run.outcome.product _ _ _ _ ran.run.cause is), λ none. absurd (none order asks));
    untouched = untouched_more end _ _ _ ran.untouched;
    shelf_stands = ran.shelf_stands;
    tray_stands = ran.tray_stands;
    out_stands = ran.out_stands;
    run = λ other q. subst (λ (x : Order). IsRunOf x end (shelf_seen f shelf) (shelf_seen f shelf') (tray_seen t tray) (tray_seen t tray') (sink_seen o out) (sink_seen o out'))
        (same_Some order other (only other q)) ran.run;
  }

  -- no fault is answered over devices whose counts of faults can't rise
  pub no_fault : IsRun f t o end words shelf shelf' tray tray' out out'
      → (Rose (f.faults shelf) (f.faults shelf') → ⊥) → (Rose (t.faults tray) (t.faults tray') → ⊥) → (Rose (o.faults out) (o.faults out') → ⊥) → IsNoFault end
  no_fault ran read write print =
      faultless end _ ran.usage.1
      (λ fault order q. fault (not_fault end _ _ _ _ _ (ran.run order q).cause (λ which r. read r.2) write print))

-- a tray that nothing was written to is untouched
pub untouched_tray : (end : End) (tray out : Type 0) → tray → Untouched end ⊥ (Unit {0}) out → Untouched end ⊥ tray out
untouched_tray Done tray out same h = h
untouched_tray NoMemory tray out same h = h
untouched_tray Usage tray out same h = absurd h.0
untouched_tray (BadProject error) tray out same h = (same, h.1)
untouched_tray (BadData place error) tray out same h = (same, h.1)
untouched_tray (BadScript line) tray out same h = (same, h.1)
untouched_tray (Missing which) tray out same h = (same, h.1)
untouched_tray (ReadFault which) tray out same h = (same, h.1)
untouched_tray (WriteFault (Output k)) tray out same h = h
untouched_tray (WriteFault Text) tray out same h = h
untouched_tray (WriteFault Project) tray out same h = h
untouched_tray (WriteFault (Layer place)) tray out same h = h
untouched_tray (WriteFault Script) tray out same h = h
