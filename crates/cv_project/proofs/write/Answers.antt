use Rattle.cv_project.proofs.WrittenLemmas.{if_ok, if_ok-both, text-written, text-read}
use Rattle.cv_project.proofs.write.Goals as goal

pub returns-in-Ok-clause-bytes : goal.returns-in-Ok-clause-bytes
returns-in-Ok-clause-bytes c =
    if_ok c.to_vec.result (λ b text. text-written c.args.file.now _ b.items c.requires c.in-Ok.ensures.kept
    c.in-Ok.ensures.tree text) c.to_vec.ensures.text

pub returns-in-Ok-clause-read : goal.returns-in-Ok-clause-read
returns-in-Ok-clause-read c =
    if_ok-both c.to_vec.result (λ b utf8 back. text-read c.args.file.now _ b.items c.requires c.in-Ok.ensures.kept
    c.in-Ok.ensures.tree utf8 back) c.to_vec.ensures.utf8 c.to_vec.ensures.reads_back
