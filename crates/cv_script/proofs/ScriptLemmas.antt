-- The commands of lines, one line at a time.
use Rattle.std.proofs.Common.{◌≡◌, ℕ, ◌+◌, ◌≤◌, ◌<◌, Bool, true, false, if◌then◌else◌, List, [], ◌∷◌, ◌++◌, Option, Some, None, Result}
use Rattle.std.proofs.Common.{Ok, Err, refl, ap, append_assoc, append-nil, subst, arith}
use Rattle.std.specs.Prelude.{nat_lt}
use Rattle.std.proofs.lemmas.Bool.Decides.{nat_tests}
use Rattle.cv_script.specs.declared.error.ScriptError.{ScriptError}
use Rattle.cv_script.specs.declared.error.ScriptError.TheVariants.{BadLine}
use Rattle.cv_script.specs.declared.script.Command.{Command}
use Rattle.cv_script.specs.declared.script.Numbered.{Numbered}
use Rattle.cv_script.specs.Scripts.{line_of, with_line, commands_from, with_front, AscendFrom}

over : (n : ℕ) → 100000 < n → nat_lt 100000 n ≡ true
over n h = grind (arith, nat_tests)

under : (n : ℕ) → n ≤ 100000 → nat_lt 100000 n ≡ false
under n h = grind (arith, nat_tests)

-- a line behind the 100,000th is refused
pub commands_over : (n : ℕ) (line : List ℕ) (rest : List (List ℕ)) → 100000 < n
    → commands_from n (line ∷ rest) ≡ Err (BadLine n)
commands_over n line rest h = rw (over n h) refl

-- and one that isn't in the grammar
pub commands_bad : (n : ℕ) (line : List ℕ) (rest : List (List ℕ)) → n ≤ 100000 → line_of line ≡ None
    → commands_from n (line ∷ rest) ≡ Err (BadLine n)
commands_bad n line rest h bad = rw (under n h, bad) refl

-- a line without a command adds none
pub commands_silent : (front : List Numbered) (n : ℕ) (line : List ℕ) (rest : List (List ℕ)) → n ≤ 100000
    → line_of line ≡ Some None
    → with_front front (commands_from (n + 1) rest) ≡ with_front front (commands_from n (line ∷ rest))
commands_silent front n line rest h says = rw (under n h, says) refl

more_of : (front : List Numbered) (n : ℕ) (c : Command) (r : Result (List Numbered) ScriptError)
    → with_front (front ++ (record { line = n; command = c }) ∷ []) r
    ≡ with_front front (with_line n (Some (Some c)) r)
more_of front n c (Ok cs) = ap Ok (append_assoc front ((record { line = n; command = c }) ∷ []) cs)
more_of front n c (Err e) = refl

-- a line with one adds it
pub commands_more : (front : List Numbered) (n : ℕ) (line : List ℕ) (rest : List (List ℕ)) (c : Command)
    → n ≤ 100000 → line_of line ≡ Some (Some c)
    → with_front (front ++ (record { line = n; command = c }) ∷ []) (commands_from (n + 1) rest)
    ≡ with_front front (commands_from n (line ∷ rest))
commands_more front n line rest c h says = rw (under n h, says) (more_of front n c (commands_from (n + 1) rest))

-- with nothing in front an answer stays
pub front_none : (r : Result (List Numbered) ScriptError) → with_front [] r ≡ r
front_none (Ok cs) = refl
front_none (Err e) = refl

-- and with nothing behind what is in front
pub front_end : (front : List Numbered) → with_front front (Ok []) ≡ Ok front
front_end front = ap Ok (append-nil front)

low_of : (n : ℕ) → nat_lt 100000 n ≡ false → n ≤ 100000
low_of n h = grind (arith, nat_tests)

from_next : (n : ℕ) (cs : List Numbered) → AscendFrom (n + 1) cs → AscendFrom n cs
from_next n [] h = tt
from_next n (c ∷ cs) h = let above = h.0 in (omega (arith, above), h.1, h.2)

ascend_step : (n : ℕ) (b : Bool) (x : Option (Option Command)) (r : Result (List Numbered) ScriptError)
    (cs : List Numbered) → nat_lt 100000 n ≡ b
    → ((ds : List Numbered) → r ≡ Ok ds → AscendFrom (n + 1) ds)
    → (if b then Err (BadLine n) else with_line n x r) ≡ Ok cs → AscendFrom n cs
ascend_step n true x r cs low others h = cc
ascend_step n false None r cs low others h = cc
ascend_step n false (Some None) r cs low others h = from_next n cs (others cs h)
ascend_step n false (Some (Some c)) (Ok ds) cs low others h =
    let same : (record { line = n; command = c } ∷ ds) ≡ cs = cc in
    subst (AscendFrom n) same (omega arith, low_of n low, others ds refl)
ascend_step n false (Some (Some c)) (Err e) cs low others h = cc

-- the commands that lines say stand in ascending lines
pub commands_ascend : (n : ℕ) (ls : List (List ℕ)) (cs : List Numbered) → commands_from n ls ≡ Ok cs
    → AscendFrom n cs
commands_ascend n [] cs h = let same : [] ≡ cs = cc in subst (AscendFrom n) same tt
commands_ascend n (l ∷ ls) cs h =
    ascend_step n (nat_lt 100000 n) (line_of l) (commands_from (n + 1) ls) cs refl
    (λ ds k. commands_ascend (n + 1) ls ds k) h

-- one line more, and none
pub ruleset line_rules = (commands_over, commands_bad, commands_silent, commands_more)

pub ruleset front_rules = (front_none, front_end)
