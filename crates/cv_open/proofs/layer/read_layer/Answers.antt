-- The file is read, and its bytes said.
use Rattle.std.proofs.Common.{List, ℕ, length, subst, Err}
use Rattle.cv_outside.specs.Seen.{shelf_seen}
use Rattle.cv_open.specs.declared.ends.Which.TheVariants.{Layer}
use Rattle.cv_open.specs.Opened.{layer_of, layered}
use Rattle.cv_open.specs.Readings.{file_of, only, ◌>>=◌, IsReadAs}
use Rattle.cv_open.proofs.ReadingLemmas.{file_ends, file_goes}
use Rattle.cv_open.proofs.layer.read_layer.Goals as goal

pub returns-in-Ok-clause-read : goal.returns-in-Ok-clause-read
returns-in-Ok-clause-read g c =
    let given : List ℕ → _ = λ bytes. layered c.args.place c.args.left.now (length bytes) (layer_of c.args.source.now c.args.left.now bytes) in
    let old = shelf_seen g.F.Shelf c.args.shelf.now in
    let new = shelf_seen g.F.Shelf c.fetch.new.shelf in
    let read = rw c.most_bytes.ensures at c.in-Ok.ensures.read in
    subst (λ (name : List ℕ). IsReadAs (file_of (record { which = Layer c.args.place; name = name }) >>= (λ bytes. only (given bytes))) c.said_of.result old new)
    c.name_of.ensures
    (file_goes (record { which = Layer c.args.place; name = c.name_of.result.now }) given old new _ c.in-Ok.got c.said_of.result
    c.in-Ok.ensures.stands read c.said_of.ensures)

pub returns-in-Err-clause-read : goal.returns-in-Err-clause-read
returns-in-Err-clause-read g c =
    let given : List ℕ → _ = λ bytes. layered c.args.place c.args.left.now (length bytes) (layer_of c.args.source.now c.args.left.now bytes) in
    let old = shelf_seen g.F.Shelf c.args.shelf.now in
    let new = shelf_seen g.F.Shelf c.fetch.new.shelf in
    subst (λ (name : List ℕ). IsReadAs (file_of (record { which = Layer c.args.place; name = name }) >>= (λ bytes. only (given bytes))) (Err c.in-Err.end) old new)
    c.name_of.ensures
    (file_ends (record { which = Layer c.args.place; name = c.name_of.result.now }) given c.in-Err.end old new c.in-Err.ensures.read)
