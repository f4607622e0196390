use Rattle.std.proofs.Common.{get_or, refl}
use Rattle.cv_scan.specs.Marks.{marks_right}
use Rattle.cv_scan.specs.Pairs.{no_marks}
use Rattle.cv_scan.proofs.PairLemmas.{listed-more}
use Rattle.cv_scan.proofs.pairs.list_pairs.Goals as goal

pub loop-at-preserved : goal.loop-at-preserved
loop-at-preserved c =
    let xs = c.args.pairs.now in
    let at = c.loop-at.at in
    let told = c.in_ok-list_mark-2.ensures in
    record {
      within = told.within;
      counted = λ i j here.
          listed-more i j c.args.first at (marks_right i j c.args.marks.now.items)
          (marks_right i j c.loop-at.marks.items) (marks_right i j c.list_mark.new.marks.items)
          (marks_right i j c.list_mark-in-loop-at.new.marks.items) xs (get_or xs at no_marks) refl
          (c.loop-at.invariant.counted i j here) (c.in_ok-list_mark.ensures.counted i j here)
          (told.counted i j here);
    }
