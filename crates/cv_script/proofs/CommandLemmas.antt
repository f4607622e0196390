-- What the commands of a script keep: each follows from its row of the table.
use Rattle.std.proofs.Common.{◌≡◌, ℕ, ◌+◌, ◌≤◌, Bool, true, false, ◌&&◌, if◌then◌else◌, List, [], ◌∷◌}
use Rattle.std.proofs.Common.{Option, Some, None, Result, Ok, Err, length, refl, sym, subst, arith}
use Rattle.std.specs.Prelude.{nat_le, nat_lt, ◌≢◌, IfOk}
use Rattle.std.specs.List.{All}
use Rattle.std.specs.Str.{is_utf8}
use Rattle.std.proofs.lemmas.Bool.Decides.{nat_tests}
use Rattle.std.proofs.lemmas.List.Elements.{All-nil, All-cons}
use Rattle.cv_script.specs.declared.error.ScriptError.{ScriptError}
use Rattle.cv_script.specs.declared.error.ScriptError.TheVariants.{BadLine, NoMemory}
use Rattle.cv_script.specs.declared.names.CommandName.{CommandName}
use Rattle.cv_script.specs.declared.names.CommandName.TheVariants as name_of
use Rattle.cv_script.specs.declared.script.Command.{Command}
use Rattle.cv_script.specs.declared.script.Command.TheVariants as command
use Rattle.cv_script.specs.declared.script.Numbered.{Numbered}
use Rattle.cv_script.specs.Answers.{◌>>=◌, tested}
use Rattle.cv_script.specs.Kinds.{whole_in, is_whole, digits_value, number, step, name, word_in}
use Rattle.cv_script.specs.Table.{none, one, two, three, one_and, factor, extent, row, command_of, command_made}
use Rattle.cv_script.specs.Table.{command_spelling, command_names, edit_made}
use Rattle.cv_script.specs.Words.{words_of}
use Rattle.cv_script.specs.Scripts.{without_mark, is_silent, line_of, lines, with_line, commands_from, script_of}
use Rattle.cv_script.specs.Scripts.{AscendFrom, IsFactor, HasFactors, IsScript}
use Rattle.cv_script.proofs.ScriptLemmas.{commands_ascend}
use Rattle.cv_script.proofs.StyleLemmas.{both}

-- ---- a property of the value, where there is one

abbrev pub Each : {A : Type 0} → (A → Type 0) → Option A → Type 0
Each P None = Unit {0}
Each P (Some x) = P x

each_behind : {A B : Type 0} (P : B → Type 0) (o : Option A) (f : A → Option B)
    → ((x : A) → o ≡ Some x → Each P (f x)) → Each P (o >>= f)
each_behind P None f h = tt
each_behind P (Some x) f h = h x refl

-- where each word that is read makes a value with it, it holds of what the words make
each_none : {R : Type 0} (P : R → Type 0) (made : R) → P made → (words : List (List ℕ))
    → Each P (none made words)
each_none P made h [] = h
each_none P made h (a ∷ rest) = tt

each_one : {A R : Type 0} (P : R → Type 0) (p : List ℕ → Option A) (make : A → R)
    → ((a : List ℕ) (x : A) → p a ≡ Some x → P (make x)) → (words : List (List ℕ))
    → Each P (one p make words)
each_one P p make h [] = tt
each_one P p make h (a ∷ []) = each_behind P (p a) (λ x. Some (make x)) (λ x e. h a x e)
each_one P p make h (a ∷ b ∷ rest) = tt

each_two : {A B R : Type 0} (P : R → Type 0) (p : List ℕ → Option A) (q : List ℕ → Option B) (make : A → B → R)
    → ((b : List ℕ) (x : A) (y : B) → q b ≡ Some y → P (make x y)) → (words : List (List ℕ))
    → Each P (two p q make words)
each_two P p q make h [] = tt
each_two P p q make h (a ∷ rest) =
    each_behind P (p a) (λ x. one q (make x) rest) (λ x e. each_one P q (make x) (λ b y k. h b x y k) rest)

each_three : {A B C R : Type 0} (P : R → Type 0) (p : List ℕ → Option A) (q : List ℕ → Option B)
    (r : List ℕ → Option C) (make : A → B → C → R)
    → ((b c : List ℕ) (x : A) (y : B) (z : C) → q b ≡ Some y → r c ≡ Some z → P (make x y z))
    → (words : List (List ℕ)) → Each P (three p q r make words)
each_three P p q r make h [] = tt
each_three P p q r make h (a ∷ []) = each_behind P (p a) (λ x. two q r (make x) []) (λ x e. tt)
each_three P p q r make h (a ∷ b ∷ rest) =
    each_behind P (p a) (λ x. two q r (make x) (b ∷ rest)) (λ x e.
    each_behind P (q b) (λ y. one r (make x y) rest) (λ y k.
    each_one P r (make x y) (λ c z m. h b c x y z k m) rest))

each_one_and : {A B R : Type 0} (P : R → Type 0) (p : List ℕ → Option A) (rest : List (List ℕ) → Option B)
    (make : A → B → R) → ((x : A) (y : B) → P (make x y)) → (words : List (List ℕ))
    → Each P (one_and p rest make words)
each_one_and P p rest make h [] = tt
each_one_and P p rest make h (a ∷ words) =
    each_behind P (p a) (λ x. rest words >>= λ y. Some (make x y)) (λ x e.
    each_behind P (rest words) (λ y. Some (make x y)) (λ y k. h x y))

-- ---- the numbers of a zoom

tested_some : {A : Type 0} (b : Bool) (x y : A) → tested b x ≡ Some y → (b ≡ true) × (x ≡ y)
tested_some true x y h = (refl, cc)
tested_some false x y h = cc

in_range : (n : ℕ) → (nat_le 1 n && nat_le n 1000) ≡ true → IsFactor n
in_range n h =
    let parts = both (nat_le 1 n) (nat_le n 1000) h in
    let low = parts.0 in
    let high = parts.1 in (grind (arith, nat_tests), grind (arith, nat_tests))

factor_of : (o : Option ℕ) (n : ℕ) → (o >>= λ m. tested (nat_le 1 m && nat_le m 1000) m) ≡ Some n → IsFactor n
factor_of None n h = cc
factor_of (Some m) n h =
    let k = tested_some (nat_le 1 m && nat_le m 1000) m n h in subst IsFactor k.1 (in_range m k.0)

factor_in_range : (word : List ℕ) (n : ℕ) → factor word ≡ Some n → IsFactor n
unfolding whole_in
factor_in_range word n h = factor_of (tested (is_whole word) (digits_value word)) n h

-- ---- from the rows to the script

row_keeps : (n : CommandName) (words : List (List ℕ)) → Each HasFactors ((row n).makes words)
row_keeps name_of.View words = each_one_and HasFactors number extent command.View (λ x y. tt) words
row_keeps name_of.Pan words = each_three HasFactors number step step command.Pan (λ b c x y z k m. tt) words
row_keeps name_of.Zoom words =
    each_three HasFactors number factor factor command.Zoom
    (λ b c x y z k m. (factor_in_range b y k, factor_in_range c z m)) words
row_keeps name_of.Start words = each_one HasFactors number command.Start (λ a x e. tt) words
row_keeps name_of.Cancel words = each_one HasFactors number command.Cancel (λ a x e. tt) words
row_keeps name_of.Wait words = each_one HasFactors number command.Wait (λ a x e. tt) words
row_keeps name_of.Take words = each_none HasFactors command.Take tt words
row_keeps name_of.Give words = each_none HasFactors command.Give tt words
row_keeps name_of.Preview words = each_two HasFactors number name command.Preview (λ b x y k. tt) words
row_keeps name_of.Save words = each_two HasFactors number name command.Save (λ b x y k. tt) words

made_keeps : (n : Option CommandName) (word : List ℕ) (words : List (List ℕ))
    → Each HasFactors (command_made n word words)
made_keeps (Some n) word words = row_keeps n words
made_keeps None word words = each_behind HasFactors (edit_made word words) (λ e. Some (command.Edit e)) (λ e k. tt)

command_keeps : (words : List (List ℕ)) → Each HasFactors (command_of words)
unfolding command_of
command_keeps [] = tt
command_keeps (word ∷ words) = made_keeps (word_in command_spelling command_names word) word words

loud_keeps : (silent : Bool) (line : List ℕ) → Each (Each HasFactors)
    (if silent then Some None else (words_of line >>= command_of >>= λ c. Some (Some c)))
loud_keeps true line = tt
loud_keeps false line =
    each_behind (Each HasFactors) (words_of line >>= command_of) (λ c. Some (Some c)) (λ c e.
    subst (Each HasFactors) e (each_behind HasFactors (words_of line) command_of (λ words k. command_keeps words)))

line_keeps : (line : List ℕ) → Each (Each HasFactors) (line_of line)
unfolding line_of
line_keeps line =
    each_behind (Each HasFactors) (tested (is_utf8 line) line)
    (λ utf8. if is_silent line then Some None else (words_of line >>= command_of >>= λ c. Some (Some c)))
    (λ utf8 e. loud_keeps (is_silent line) line)

abbrev Factors : List Numbered → Type 0
Factors cs = All (λ c. HasFactors c.command) cs

keeps_step : (n : ℕ) (over : Bool) (x : Option (Option Command)) (r : Result (List Numbered) ScriptError)
    (cs : List Numbered) → Each (Each HasFactors) x → ((ds : List Numbered) → r ≡ Ok ds → Factors ds)
    → (if over then Err (BadLine n) else with_line n x r) ≡ Ok cs → Factors cs
keeps_step n true x r cs one others h = cc
keeps_step n false None r cs one others h = cc
keeps_step n false (Some None) r cs one others h = others cs h
keeps_step n false (Some (Some c)) (Ok ds) cs one others h =
    let same : (record { line = n; command = c } ∷ ds) ≡ cs = cc in
    subst Factors same
    (All-cons (λ d. HasFactors d.command) (record { line = n; command = c }) ds one (others ds refl))
keeps_step n false (Some (Some c)) (Err e) cs one others h = cc

commands_keep : (n : ℕ) (ls : List (List ℕ)) (cs : List Numbered) → commands_from n ls ≡ Ok cs → Factors cs
commands_keep n [] cs h =
    let same : [] ≡ cs = cc in subst Factors same (All-nil (λ c. HasFactors c.command))
commands_keep n (l ∷ ls) cs h =
    keeps_step n (nat_lt 100000 n) (line_of l) (commands_from (n + 1) ls) cs (line_keeps l)
    (λ ds k. commands_keep (n + 1) ls ds k) h

-- commands in ascending lines are as many as there are lines for, at most
few_of : (n : ℕ) (cs : List Numbered) → n ≤ 100001 → AscendFrom n cs → n + length cs ≤ 100001
few_of n [] low h = omega (arith, low)
few_of n (c ∷ cs) low h =
    let above = h.0 in
    let within = h.1 in
    let rest = few_of (c.line + 1) cs (omega (arith, within)) h.2 in omega (arith, above, rest)

script_kept : (cs : List Numbered) → AscendFrom 1 cs → Factors cs → IsScript cs
script_kept cs ascend factors =
    let few = few_of 1 cs (omega arith) ascend in record {
      few = omega (arith, few);
      ascend = ascend;
      factors = factors;
    }

kept_of : (bytes : List ℕ) (cs : List Numbered) → script_of bytes ≡ Ok cs → IsScript cs
unfolding script_of
kept_of bytes cs h =
    script_kept cs (commands_ascend 1 (lines (without_mark bytes)) cs h)
    (commands_keep 1 (lines (without_mark bytes)) cs h)

-- so an answer that is the script's keeps what a script does
pub read_kept : (bytes : List ℕ) (r : Result (List Numbered) ScriptError)
    → ((r ≢ Err NoMemory) → r ≡ script_of bytes) → IfOk r IsScript
read_kept bytes (Ok cs) h = kept_of bytes cs (sym (h (λ e. cc)))
read_kept bytes (Err e) h = tt
