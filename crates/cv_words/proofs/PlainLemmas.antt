-- What `clap` makes of a word that isn't empty and doesn't begin with a hyphen.
use Rattle.std.proofs.Common.{◌≡◌, ◌∙◌, ◌==◌, ◌&&◌, ◌||◌, ℕ, Bool, true, false, List, [], ◌∷◌, Some, None, if◌then◌else◌, option_and_then, unwrap_or, not, length, true≢false, arith, refl, sym, ap, codes}
use Rattle.std.specs.List.{list_all}
use Rattle.std.specs.Option.{option_map_or}
use Rattle.std.specs.Str.{bytes_eq}
use Rattle.clap.specs.Lexer.{long_of, long_of_rest, short_of, short_of_rest, strip_byte}
use Rattle.clap.specs.Walk.{Held, Rule, Step, Text, Walk, idle, option, next, value, trailing, option_word, arg_by_id, word_met, walked, after_step, to_positional, arg_by_index, long_or_other, short_or_plain, Row, first_of, rows_of}
use Rattle.clap.specs.Simple.{App, Shape, app_of_fields, new_app, on_top}
use Rattle.clap.specs.declared.builder.command.Command.{Command}
use Rattle.clap.specs.declared.builder.command.Command.TheOpen.{Command-F}
use Rattle.clap.specs.Takes.{word_passes, turn_passes, step_passes, flag_word_passes, bundle_passes}
use Rattle.clap.specs.Matches.{found_of}
use Rattle.clap.specs.declared.parser.matches.ArgMatches.{ArgMatches}
use Rattle.clap.proofs.WalkLemmas.{first_value-rows}
use Rattle.cv_words.specs.Found.{word_at}
use Rattle.cv_words.specs.Plain.{is_plain, AreSessionWords}

-- where the walk stands before a word, while nothing waits
abbrev pub standing : Held → ℕ → Walk
standing held position = record { held = held; waiting = idle; position = position; is_trailing = false; stopped = None }

-- what is held behind a word that goes to the positional at this place
abbrev pub held_behind : List Rule → ℕ → Text → Held → Held
held_behind rules position word held = (to_positional rules (arg_by_index rules position) word (standing held position) held).held

module _ (byte : ℕ) (bytes : List ℕ) (plain : (byte == 45) ≡ false) where
  stripped : strip_byte 45 (byte ∷ bytes) ≡ None
  stripped = ap (λ (b : Bool). if b then Some bytes else None) plain

  no_long : long_of (byte ∷ bytes) ≡ None
  no_long = ap (λ o. option_and_then long_of_rest (option_and_then (strip_byte 45) o)) stripped

  no_short : short_of (byte ∷ bytes) ≡ None
  no_short = ap (λ o. option_and_then short_of_rest o) stripped

  no_dashes : bytes_eq (byte ∷ bytes) (45 ∷ 45 ∷ []) ≡ false
  no_dashes = ap (λ b. b && bytes_eq bytes (45 ∷ [])) plain

  -- it is a value of a positional
  pub plain_met : (rules : List Rule) (position : ℕ) (held : Held) → word_met rules [] false idle position (byte ∷ bytes) held ≡ (held, value)
  plain_met rules position held =
      ap (λ b. if b then (held, trailing position) else long_or_other rules idle (byte ∷ bytes) (long_of (byte ∷ bytes)) held) no_dashes
      ∙ ap (λ o. long_or_other rules idle (byte ∷ bytes) o held) no_long
      ∙ ap (λ o. short_or_plain rules idle (byte ∷ bytes) o held) no_short

  pub plain_passes : (s : Shape) (position : ℕ) (held : Held) → word_passes s [] false idle (byte ∷ bytes) held ≡ true
  plain_passes s position held =
      ap (λ b. b || flag_word_passes s.rules s.args_override_self (long_of (byte ∷ bytes)) (byte ∷ bytes) held) no_dashes
      ∙ ap (λ o. flag_word_passes s.rules s.args_override_self o (byte ∷ bytes) held) no_long
      ∙ ap (λ o. option_map_or (λ flags. bundle_passes s.rules s.args_override_self flags held) o true) no_short

  pub turn_plain : (s : Shape) (held : Held) (position : ℕ) → turn_passes s [] (standing held position) (byte ∷ bytes) ≡ step_passes s position held value
  turn_plain s held position =
      ap (λ b. b && step_passes s position (word_met s.rules [] false idle position (byte ∷ bytes) held).0 (word_met s.rules [] false idle position (byte ∷ bytes) held).1)
      (plain_passes s position held)
      ∙ ap (λ (met : Held × Step). step_passes s position met.0 met.1) (plain_met s.rules position held)

  pub walked_plain : (rules : List Rule) (held : Held) (position : ℕ)
      → walked rules [] (standing held position) (byte ∷ bytes) ≡ to_positional rules (arg_by_index rules position) (byte ∷ bytes) (standing held position) held
  unfolding walked
  walked_plain rules held position = ap (λ (met : Held × Step). after_step rules (byte ∷ bytes) (standing held position) met.0 met.1) (plain_met rules position held)

-- where the walk stands before a word, while an option waits for its value
abbrev pub waiting_for : Text → Held → ℕ → Walk
waiting_for id held position = record { held = held; waiting = option id; position = position; is_trailing = false; stopped = None }

-- the word is the option's value
module _ (byte : ℕ) (bytes : List ℕ) (plain : (byte == 45) ≡ false) (rules : List Rule) (id : Text) (held : Held) where
  pub value_met : (position : ℕ) → word_met rules [] false (option id) position (byte ∷ bytes) held
      ≡ ((option_word (arg_by_id rules id) id (byte ∷ bytes) held).0, next (option_word (arg_by_id rules id) id (byte ∷ bytes) held).1)
  value_met position =
      ap (λ b. if b then (held, trailing position) else long_or_other rules (option id) (byte ∷ bytes) (long_of (byte ∷ bytes)) held) (no_dashes byte bytes plain)
      ∙ ap (λ o. long_or_other rules (option id) (byte ∷ bytes) o held) (no_long byte bytes plain)
      ∙ ap (λ o. short_or_plain rules (option id) (byte ∷ bytes) o held) (no_short byte bytes plain)

  pub value_passes : (s : Shape) → s.rules ≡ rules → (position : ℕ) → turn_passes s [] (waiting_for id held position) (byte ∷ bytes) ≡ true
  value_passes s same position =
      ap (λ b. b && step_passes s position (word_met s.rules [] false (option id) position (byte ∷ bytes) held).0 (word_met s.rules [] false (option id) position (byte ∷ bytes) held).1)
      (ap (λ b. b || flag_word_passes s.rules s.args_override_self (long_of (byte ∷ bytes)) (byte ∷ bytes) held) (no_dashes byte bytes plain)
      ∙ ap (λ o. flag_word_passes s.rules s.args_override_self o (byte ∷ bytes) held) (no_long byte bytes plain)
      ∙ ap (λ o. option_map_or (λ flags. bundle_passes s.rules s.args_override_self flags held) o true) (no_short byte bytes plain))
      ∙ ap (λ (rs : List Rule). step_passes s position (word_met rs [] false (option id) position (byte ∷ bytes) held).0 (word_met rs [] false (option id) position (byte ∷ bytes) held).1) same
      ∙ ap (λ (met : Held × Step). step_passes s position met.0 met.1) (value_met position)

  pub walked_value : (position : ℕ) → walked rules [] (waiting_for id held position) (byte ∷ bytes)
      ≡ record {
        held = (option_word (arg_by_id rules id) id (byte ∷ bytes) held).0;
        waiting = (option_word (arg_by_id rules id) id (byte ∷ bytes) held).1;
        position = position;
        is_trailing = false;
        stopped = None;
      }
  unfolding walked
  walked_value position = ap (λ (met : Held × Step). after_step rules (byte ∷ bytes) (waiting_for id held position) met.0 met.1) (value_met position)

not_true : (b : Bool) → not b ≡ true → b ≡ false
not_true true e = absurd (true≢false (sym e))
not_true false e = refl

both : (a b : Bool) → (a && b) ≡ true → (a ≡ true) × (b ≡ true)
both true b e = (refl, e)
both false b e = absurd (true≢false (sym e))

-- a plain word has a first byte, which is no hyphen
pub record IsPlainWord (word : List ℕ) : Type 0 where
  pub byte : ℕ
  pub bytes : List ℕ
  pub is : word ≡ byte ∷ bytes
  pub plain : (byte == 45) ≡ false

plain_word : (word : List ℕ) → is_plain word ≡ true → IsPlainWord word
plain_word [] e = absurd (true≢false (sym e))
plain_word (byte ∷ bytes) e = record { byte = byte; bytes = bytes; is = refl; plain = not_true (byte == 45) e }

-- one plain word
pub one_plain : (words : List (List ℕ)) → length words ≡ 1 → list_all is_plain words ≡ true
    → (word : List ℕ) × (words ≡ word ∷ []) × IsPlainWord word
one_plain [] one plain = absurd (omega arith)
one_plain (word ∷ []) one plain = (word, refl, plain_word word (both (is_plain word) true plain).0)
one_plain (word ∷ other ∷ words) one plain = absurd (omega arith)

-- the words of a session are the option and three plain words
pub session_plain : (words : List (List ℕ)) → AreSessionWords words
    → (a b c : List ℕ) × (words ≡ codes "--workers" ∷ a ∷ b ∷ c ∷ []) × IsPlainWord a × IsPlainWord b × IsPlainWord c
session_plain words w =
    let first = both (is_plain w.number) _ w.plain in
    let second = both (is_plain w.project) _ first.1 in
    (w.number, w.project, w.script, w.spelled, plain_word w.number first.0, plain_word w.project second.0, plain_word w.script (both (is_plain w.script) true second.1).0)

-- three plain words
pub three_plain : (words : List (List ℕ)) → length words ≡ 3 → list_all is_plain words ≡ true
    → (a b c : List ℕ) × (words ≡ a ∷ b ∷ c ∷ []) × IsPlainWord a × IsPlainWord b × IsPlainWord c
three_plain [] three plain = absurd (omega arith)
three_plain (a ∷ []) three plain = absurd (omega arith)
three_plain (a ∷ b ∷ []) three plain = absurd (omega arith)
three_plain (a ∷ b ∷ c ∷ []) three plain =
    let first = both (is_plain a) _ plain in
    let second = both (is_plain b) _ first.1 in
    (a, b, c, refl, plain_word a first.0, plain_word b second.0, plain_word c (both (is_plain c) true second.1).0)
three_plain (a ∷ b ∷ c ∷ d ∷ words) three plain = absurd (omega arith)

-- what was found under a name, by the rows of the matches
pub found_word : (name word : Text) (found : ArgMatches) (rows : List Row) → rows_of (found_of found) ≡ rows → first_of name rows ≡ Some word → word_at name found ≡ word
found_word name word found rows are gives =
    ap (λ o. unwrap_or o []) (first_value-rows (found_of found) name ∙ ap (first_of name) are ∙ gives)

-- a command without arguments, which has no help of its own, and whose words begin with the first
abbrev pub bare_app : Text → App
bare_app name = on_top (λ s. record s { no_binary_name = true; disable_help_flag = true }) (new_app name)

-- the two settings make it of a new command
pub settings : (name : Text) (new named helpless : Command-F Command) → app_of_fields new ≡ new_app name → named ≡ record new { no_binary_name = true }
    → helpless ≡ record named { disable_help_flag = true } → app_of_fields helpless ≡ bare_app name
settings name new named helpless is first second =
    ap app_of_fields second
    ∙ ap (λ (f : Command-F Command). app_of_fields (record f { disable_help_flag = true })) first
    ∙ ap (on_top (λ s. record s { no_binary_name = true; disable_help_flag = true })) is
