use Rattle.std.proofs.Common.{refl, arith}
use Rattle.cv_outside.proofs.SeenLemmas.{sink_stays}
use Rattle.cv_outside.specs.Seen.{sink_seen}
use Rattle.cv_top.proofs.outputs.write_outputs.Goals as goal

pub returns-in-Failed-clause-written : goal.returns-in-Failed-clause-written
returns-in-Failed-clause-written g c = record {
  cause = ((omega arith, omega arith), c.in-Failed.ensures.cause);
  outputs = λ t. record {
    mid = g.T.Tray.file_at c.args.tray.now;
    before = λ q. refl;
    failed = record { name = c.args.name.now; bytes = c.args.bytes.now };
    is = refl;
    others = c.in-Failed.ensures.files t;
  };
  text = λ t. refl;
  tray_stands = record { told = c.write.ensures.told; faults = c.write.ensures.counts };
  out_stands = sink_stays (sink_seen g.O.Sink c.args.out.now);
}

pub returns-in-Err-NoMemory-clause-written : goal.returns-in-Err-NoMemory-clause-written
returns-in-Err-NoMemory-clause-written g c = record {
  cause = tt;
  outputs = λ t. (1, (g.T.Tray.file_at c.write.new.self, c.in-Kept.ensures.files t, λ q. refl));
  text = λ t. let part = c.in-Err-NoMemory.ensures.err t in (part.0, part.2);
  tray_stands = record { told = c.write.ensures.told; faults = c.write.ensures.counts };
  out_stands = c.write_all.ensures.stands;
}
