use Rattle.std.proofs.Common.{◌≡◌, ◌∙◌, ap, refl, ◌+◌, ◌-◌, ◌*◌, ◌<◌, ◌∷◌, drop, length, get_or, arith}
use Rattle.std.proofs.lemmas.List.{drop_more, at_drop_all}
use Rattle.std.proofs.lemmas.List.Elements.{All-head, All-tail}
use Rattle.cv_scan.specs.declared.marks.Mark.{Mark}
use Rattle.cv_scan.specs.Marks.{MarkIn}
use Rattle.cv_scan.specs.Planes.{toggled, first_of}
use Rattle.cv_scan.proofs.PlaneLemmas.{toggled-odd, skipped-odd, toggled-room, held-all}
use Rattle.cv_scan.proofs.planes.toggle_all.Goals as goal
use Rattle.cv_scan.proofs.planes.toggle_all.Goals.{then-area-column, else-area-column}

pub loop-mark-init : goal.loop-mark-init
loop-mark-init c = record { within = c.requires.marks; room = c.requires.room; odd = λ i j here. refl }

pub loop-mark-preserved : goal.loop-mark-preserved
loop-mark-preserved c =
    let area = c.args.area in
    let xs = c.args.marks.now in
    let at = c.loop-mark.mark-index in
    let none : Mark = record { row = 0; column = 0 } in
    let item = get_or xs at none in
    let told = c.loop-mark.invariant in
    let words = c.loop-mark.bits.items in
    let less : at < length xs = omega (arith, c.loop-mark-test.true, c.loop-mark.auto.mark-index-end) in
    let rest = drop (at + 1) xs in
    let is : drop at xs ≡ item ∷ rest = drop_more xs at none less in
    let within = rw is at told.within in
    let here_in = All-head (MarkIn area) item rest within in
    elim c.if-area-column.branch [
      | then-area-column w ↦
          let below : w.place_of.result < 64 * length words = omega (arith, w.place_of.ensures.within, told.room) in
          let same : c.if-area-column.bits.items ≡ toggled words (first_of area item.row + (item.column - 1 - area.columns.from)) =
          ap (λ v. v.items) w.bits-is ∙ w.toggle.ensures ∙ ap (toggled words) w.place_of.ensures.value in
          record {
            within = All-tail (MarkIn area) item rest within;
            room =
                rw same
                (toggled-room area words (first_of area item.row + (item.column - 1 - area.columns.from)) told.room);
            odd = λ i j here.
                rw same
                (toggled-odd area words item rest i j _ here here_in (omega (arith, w.if-area-column.true))
                (rw w.place_of.ensures.value at below) (rw is at (told.odd i j here)));
          }
      | else-area-column w ↦
          let same : c.if-area-column.bits.items ≡ words = ap (λ v. v.items) w.bits-is in
          record {
            within = All-tail (MarkIn area) item rest within;
            room = rw same told.room;
            odd = λ i j here.
                rw same
                (skipped-odd area words item rest i j _ here (omega (arith, w.if-area-column.false))
                (rw is at (told.odd i j here)));
          }
    ]

pub returns : goal.returns
returns c =
    let xs = c.args.marks.now in
    let at = c.loop-mark.mark-index in
    held-all c.args.area xs (drop at xs) c.args.bits.now.items c.loop-mark.bits.items c.loop-mark.invariant.room
    (at_drop_all (λ ms. ms) xs at (omega (arith, c.loop-mark-test.false, c.loop-mark.auto.mark-index-end)))
    c.loop-mark.invariant.odd
