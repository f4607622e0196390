-- Behind the bytes that are read, the others give the words of the line.
use Rattle.std.proofs.Common.{◌≡◌, drop}
use Rattle.std.specs.Result.{result_ok}
use Rattle.cv_reading.specs.Machines.{run}
use Rattle.cv_script.specs.Words.{word_reader, no_words}
use Rattle.cv_script.proofs.words.words.Given as goal

abbrev pub invariant-loop-byte : goal.invariant-loop-byte
invariant-loop-byte l =
    result_ok (run word_reader (drop l.byte-index l.line)
    (record { place = l.place; word = l.word; words = l.words }))
    ≡ result_ok (run word_reader l.line no_words)
