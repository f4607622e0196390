-- What is written, with what is left to be, is all.
use Rattle.std.proofs.Common.{◌≡◌, ◌++◌, drop, string_bytes}
use Rattle.cv_open.specs.Reports.{layers_lines}
use Rattle.cv_open.proofs.reports.write_layers.Given as goal

abbrev pub invariant-loop-layer : goal.invariant-loop-layer
invariant-loop-layer l =
    string_bytes l.text ++ layers_lines (drop l.layer-index l.layers) l.rest
    ≡ string_bytes l.fn.text ++ layers_lines l.layers l.contents
