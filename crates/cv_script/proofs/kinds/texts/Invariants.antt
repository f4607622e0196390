use Rattle.cv_script.proofs.KindLemmas.{TextsAlong}
use Rattle.cv_script.proofs.kinds.texts.Given as goal

abbrev pub invariant-loop-word : goal.invariant-loop-word
invariant-loop-word l = TextsAlong l.words l.word-index l.texts
