-- The bytes are said, or are too many.
use Rattle.cv_open.specs.Opened.{layer_of, layered}
use Rattle.cv_open.specs.Readings.{only}
use Rattle.cv_open.proofs.OpenedLemmas.{layer_goes, layer_long}
use Rattle.cv_open.proofs.ReadingLemmas.{stays}
use Rattle.std.proofs.Common.{length, refl}
use Rattle.cv_open.proofs.layer.said_of.Goals as goal

pub returns-in-None : goal.returns-in-None
returns-in-None c = λ bytes stands.
    layer_long c.args.place c.args.source.now c.args.left.now bytes (rw c.in-None.is at stands)

pub returns-in-Ok : goal.returns-in-Ok
returns-in-Ok c = λ bytes stands.
    let h = rw c.in-Some.is at stands in
    layer_goes c.args.place c.args.source.now c.args.left.now bytes c.in-Some.bytes.items c.as_slice-text.result.now
    (length c.as_slice-text.result.now) c.in-Ok.said c.with_left.result h.0 h.1 c.as_slice-text.ensures.value refl c.in-Ok.ensures c.with_left.ensures

pub returns : goal.returns
returns c = λ bytes stands shelf.
    (only (layered c.args.place c.args.left.now (length bytes) (layer_of c.args.source.now c.args.left.now bytes)), stays _ shelf)
