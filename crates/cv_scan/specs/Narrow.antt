-- Narrow: the places and slopes that numbers of 64 bits stand for.
--
-- Source: this project's own.
use Rattle.cv_scan.specs.declared.narrow.NarrowPlace.{NarrowPlace}
use Rattle.cv_scan.specs.declared.narrow.NarrowSlope.{NarrowSlope}
use Rattle.cv_scan.specs.declared.terms.Place.{Place}
use Rattle.cv_scan.specs.declared.terms.Slope.{Slope}

-- the place that one of 64 bits stands for
abbrev pub wide_place : NarrowPlace → Place
wide_place p = record { column = p.column; over = p.over }

-- and the slope
abbrev pub wide_slope : NarrowSlope → Slope
wide_slope s = record { columns = s.columns; part = s.part; whole = s.whole }
