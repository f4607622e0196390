use Rattle.std.proofs.Common.{◌<◌, length, refl, arith}
use Rattle.cv_outside.proofs.SeenLemmas.{saw_more}
use Rattle.cv_outside.proofs.whole.read_file.Goals as goal

pub returns-in-Found-2-clause-found : goal.returns-in-Found-2-clause-found
returns-in-Found-2-clause-found g c =
    let more : c.args.max < length c.read.new.into.items = omega arith in
    saw_more (g.F.Shelf.tells c.args.shelf.now) _ c.args.max c.read.new.into.items c.in-Found-2.ensures.found more

pub returns-in-Failed-clause-found : goal.returns-in-Failed-clause-found
returns-in-Failed-clause-found g c = (g.F.Shelf.file_at c.args.shelf.now c.args.name.now, λ _. refl, tt)

pub returns-in-NoMemory-clause-found : goal.returns-in-NoMemory-clause-found
returns-in-NoMemory-clause-found g c = (g.F.Shelf.file_at c.args.shelf.now c.args.name.now, λ _. refl, tt)
