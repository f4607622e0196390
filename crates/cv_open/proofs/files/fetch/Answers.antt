-- Each answer of the read is one of the reading of one file.
use Rattle.std.proofs.Common.{subst, refl}
use Rattle.cv_outside.specs.Seen.{shelf_seen}
use Rattle.cv_outside.specs.declared.ends.Unread.{Unread}
use Rattle.cv_open.specs.Readings.{Asked}
use Rattle.cv_open.proofs.ReadingLemmas.{one_read, is_present, Unfetched, unfetched}
use Rattle.cv_open.proofs.files.fetch.Goals as goal

pub returns-in-Ok-clause-read : goal.returns-in-Ok-clause-read
returns-in-Ok-clause-read g c =
    let a : Asked = record { which = c.args.which; name = c.args.name.now } in
    let seen = c.in-Ok.ensures.found in
    let old = shelf_seen g.F.Shelf c.args.shelf.now in
    let new = shelf_seen g.F.Shelf c.read_file.new.shelf in (
      c.in-Ok.bytes.items,
      (refl, c.in-Ok.ensures.size),
      is_present a seen.0 c.in-Ok.bytes.items old new seen.2
          (one_read a seen.0 old new c.in-Ok.ensures.stands seen.1 c.in-Ok.ensures.names),
    )

pub returns-in-Err-TooLong-clause-read : goal.returns-in-Err-TooLong-clause-read
returns-in-Err-TooLong-clause-read g c =
    let a : Asked = record { which = c.args.which; name = c.args.name.now } in
    let seen = c.in-Err-TooLong.ensures.found in
    let old = shelf_seen g.F.Shelf c.args.shelf.now in
    let new = shelf_seen g.F.Shelf c.read_file.new.shelf in
    subst (λ (why : Unread). Unfetched a c.args.max why old new) c.in-Err-TooLong.field-0-is
    (unfetched a c.args.max c.in-Err-TooLong.field-0 seen.0 old new c.in-Err-TooLong.ensures.stands seen.1 seen.2
    c.in-Err-TooLong.ensures.cause c.in-Err-TooLong.ensures.names)

pub returns-in-Err-Absent-clause-read : goal.returns-in-Err-Absent-clause-read
returns-in-Err-Absent-clause-read g c =
    let a : Asked = record { which = c.args.which; name = c.args.name.now } in
    let seen = c.in-Err-Absent.ensures.found in
    let old = shelf_seen g.F.Shelf c.args.shelf.now in
    let new = shelf_seen g.F.Shelf c.read_file.new.shelf in
    subst (λ (why : Unread). Unfetched a c.args.max why old new) c.in-Err-Absent.field-0-is
    (unfetched a c.args.max c.in-Err-Absent.field-0 seen.0 old new c.in-Err-Absent.ensures.stands seen.1 seen.2
    c.in-Err-Absent.ensures.cause c.in-Err-Absent.ensures.names)

pub returns-in-Err-Failed-clause-read : goal.returns-in-Err-Failed-clause-read
returns-in-Err-Failed-clause-read g c =
    let a : Asked = record { which = c.args.which; name = c.args.name.now } in
    let seen = c.in-Err-Failed.ensures.found in
    let old = shelf_seen g.F.Shelf c.args.shelf.now in
    let new = shelf_seen g.F.Shelf c.read_file.new.shelf in
    subst (λ (why : Unread). Unfetched a c.args.max why old new) c.in-Err-Failed.field-0-is
    (unfetched a c.args.max c.in-Err-Failed.field-0 seen.0 old new c.in-Err-Failed.ensures.stands seen.1 seen.2
    c.in-Err-Failed.ensures.cause c.in-Err-Failed.ensures.names)

pub returns-in-Err-NoMemory-clause-read : goal.returns-in-Err-NoMemory-clause-read
returns-in-Err-NoMemory-clause-read g c =
    let a : Asked = record { which = c.args.which; name = c.args.name.now } in
    let seen = c.in-Err-NoMemory.ensures.found in
    let old = shelf_seen g.F.Shelf c.args.shelf.now in
    let new = shelf_seen g.F.Shelf c.read_file.new.shelf in
    subst (λ (why : Unread). Unfetched a c.args.max why old new) c.in-Err-NoMemory.field-0-is
    (unfetched a c.args.max c.in-Err-NoMemory.field-0 seen.0 old new c.in-Err-NoMemory.ensures.stands seen.1 seen.2
    c.in-Err-NoMemory.ensures.cause c.in-Err-NoMemory.ensures.names)
