-- A token past the last cell, one that is a cell, and one that is no decimal.
use Rattle.std.proofs.Common.{◌≡◌, length, take, None, sym, subst, arith}
use Rattle.cv_number.specs.Reader.{decimal_of}
use Rattle.cv_grid.specs.Scanning.{IsFront, front_len}
use Rattle.cv_grid.proofs.CellLemmas.{cells_here, cells_many, cells_bad, cells_more}
use Rattle.cv_grid.proofs.cells.put_first.Goals as goal

pub returns-then-len-from-clause-err : goal.returns-then-len-from-clause-err
returns-then-len-from-clause-err c = λ other.
    let here = cells_here c.args.text.now c.args.at c.args.total c.args.void c.args.cells.now (omega arith)
    c.requires.few in
    let few = c.requires.few in
    let full : length c.args.cells.now ≡ c.args.total = omega arith in
    cells_many c.args.text.now c.args.at c.args.total c.args.void c.args.cells.now c.args.at c.args.cells.now
    here c.requires.at (sym c.requires.token) full

pub returns-in-Ok-clause-ok : goal.returns-in-Ok-clause-ok
returns-in-Ok-clause-ok c =
    let here = cells_here c.args.text.now c.args.at c.args.total c.args.void c.args.cells.now (omega arith)
    c.requires.few in
    let front = subst (λ bs. IsFront bs c.in-Some.spelt) c.rest.ensures c.in-Some.ensures.some in
    let more = cells_more c.args.text.now c.args.at c.args.total c.args.void c.args.cells.now c.args.at
    c.args.cells.now c.in-Some.spelt here c.requires.at (sym c.requires.token) (λ e. omega arith) front in
    rw c.in-Ok.ensures.ok (rw c.cell.ensures more)

pub returns-in-None-clause-err : goal.returns-in-None-clause-err
returns-in-None-clause-err c = λ other.
    let here = cells_here c.args.text.now c.args.at c.args.total c.args.void c.args.cells.now (omega arith)
    c.requires.few in
    let none = subst (λ bs. decimal_of (take (front_len bs) bs) ≡ None) c.rest.ensures
    c.in-None.ensures.none in
    cells_bad c.args.text.now c.args.at c.args.total c.args.void c.args.cells.now c.args.at
    c.args.cells.now here c.requires.at (sym c.requires.token) (λ e. omega arith) none
