-- What `clap` makes of the words behind `session`: an option and two words.
use Rattle.std.proofs.Common.{◌≡◌, ◌∙◌, ◌==◌, ◌&&◌, ℕ, true, false, List, [], ◌∷◌, Some, refl, ap, codes}
use Rattle.std.specs.List.{list_all}
use Rattle.clap.specs.Walk.{Held, Rule, Text, Walk, nothing_held, walk, walk_from, walked, first_of, finished}
use Rattle.clap.specs.Simple.{App, Shape, built, is_simple, matches_of, new_rule, new_shape}
use Rattle.clap.specs.Takes.{takes, built_takes, level_passes, walk_passes, turn_passes, settle_passes, default_passes, is_valid}
use Rattle.clap.proofs.TakesLemmas.{leaf_takes}
use Rattle.clap.proofs.OnLiterals.{clap_on_literals}
use Rattle.cv_words.proofs.PlainLemmas.{standing, waiting_for, held_behind, turn_plain, walked_plain, value_passes, walked_value}

abbrev pub rule : Text → Rule
rule id = record (new_rule id) { required = true }

abbrev pub workers : Rule
workers = record (new_rule (codes "workers")) { long = Some (codes "workers") }

abbrev pub session : App
session = record {
  top = record (new_shape (codes "session")) { rules = workers ∷ rule (codes "project") ∷ rule (codes "script") ∷ []; no_binary_name = true; disable_help_flag = true };
  subs = [];
}

pub session_simple : is_simple session ≡ true
unfolding clap_on_literals
session_simple = refl

abbrev shape : Shape
shape = (built session).top

abbrev option_word : Text
option_word = codes "--workers"

-- the option waits for its value
abbrev asked : Held
asked = record { rows = []; pending = Some (codes "workers", []); skip = 0 }

option_met : walked shape.rules [] (walk_from nothing_held) option_word ≡ waiting_for (codes "workers") asked 1
unfolding clap_on_literals
option_met = refl

option_passes : turn_passes shape [] (walk_from nothing_held) option_word ≡ true
unfolding clap_on_literals
option_passes = refl

module _ (a : ℕ) (rest_a : List ℕ) (a_plain : (a == 45) ≡ false) (b : ℕ) (bs : List ℕ) (b_plain : (b == 45) ≡ false) (c : ℕ) (cs : List ℕ) (c_plain : (c == 45) ≡ false) where
  abbrev number_word : Text
  number_word = a ∷ rest_a

  abbrev project_word : Text
  project_word = b ∷ bs

  abbrev script_word : Text
  script_word = c ∷ cs

  abbrev words : List Text
  words = option_word ∷ number_word ∷ project_word ∷ script_word ∷ []

  -- what is held behind each word
  abbrev one : Held
  one = record { rows = []; pending = Some (codes "workers", number_word ∷ []); skip = 0 }

  abbrev two : Held
  two = held_behind shape.rules 1 project_word one

  abbrev three : Held
  three = held_behind shape.rules 2 script_word two

  first : walked shape.rules [] (waiting_for (codes "workers") asked 1) number_word ≡ standing one 1
  first = walked_value a rest_a a_plain shape.rules (codes "workers") asked 1

  second : walked shape.rules [] (standing one 1) project_word ≡ standing two 2
  second = walked_plain b bs b_plain shape.rules one 1

  third : walked shape.rules [] (standing two 2) script_word ≡ standing three 3
  third = walked_plain c cs c_plain shape.rules two 2

  whole : walk shape.rules [] nothing_held words ≡ standing three 3
  whole =
      ap (λ (w : Walk). walked shape.rules [] (walked shape.rules [] (walked shape.rules [] w number_word) project_word) script_word) option_met
      ∙ ap (λ (w : Walk). walked shape.rules [] (walked shape.rules [] w project_word) script_word) first
      ∙ ap (λ (w : Walk). walked shape.rules [] w script_word) second ∙ third

  pub gives_workers : first_of (codes "workers") (matches_of session words) ≡ Some number_word
  gives_workers = ap (λ (w : Walk). first_of (codes "workers") (finished shape.rules w.held)) whole

  pub gives_project : first_of (codes "project") (matches_of session words) ≡ Some project_word
  gives_project = ap (λ (w : Walk). first_of (codes "project") (finished shape.rules w.held)) whole

  pub gives_script : first_of (codes "script") (matches_of session words) ≡ Some script_word
  gives_script = ap (λ (w : Walk). first_of (codes "script") (finished shape.rules w.held)) whole

  last_passes : walk_passes shape [] (standing two 2) (script_word ∷ []) ≡ true
  unfolding walk_passes
  last_passes = ap (λ b. b && true) (turn_plain c cs c_plain shape two 2)

  rest_passes : walk_passes shape [] (standing one 1) (project_word ∷ script_word ∷ []) ≡ true
  unfolding walk_passes
  rest_passes =
      ap (λ b. b && walk_passes shape [] (walked shape.rules [] (standing one 1) project_word) (script_word ∷ [])) (turn_plain b bs b_plain shape one 1)
      ∙ ap (λ (w : Walk). walk_passes shape [] w (script_word ∷ [])) second ∙ last_passes

  number_passes : walk_passes shape [] (waiting_for (codes "workers") asked 1) (number_word ∷ project_word ∷ script_word ∷ []) ≡ true
  unfolding walk_passes
  number_passes =
      ap (λ b. b && walk_passes shape [] (walked shape.rules [] (waiting_for (codes "workers") asked 1) number_word) (project_word ∷ script_word ∷ []))
      (value_passes a rest_a a_plain shape.rules (codes "workers") asked shape refl 1)
      ∙ ap (λ (w : Walk). walk_passes shape [] w (project_word ∷ script_word ∷ [])) first ∙ rest_passes

  all_pass : walk_passes shape [] (walk_from nothing_held) words ≡ true
  unfolding walk_passes
  all_pass =
      ap (λ b. b && walk_passes shape [] (walked shape.rules [] (walk_from nothing_held) option_word) (number_word ∷ project_word ∷ script_word ∷ [])) option_passes
      ∙ ap (λ (w : Walk). walk_passes shape [] w (number_word ∷ project_word ∷ script_word ∷ [])) option_met ∙ number_passes

  level : level_passes shape [] nothing_held words false ≡ true
  level =
      ap (λ b. b && (settle_passes shape.rules shape.args_override_self (walk shape.rules [] nothing_held words).held
      && (list_all default_passes shape.rules && is_valid shape (finished shape.rules (walk shape.rules [] nothing_held words).held) false))) all_pass
      ∙ ap (λ (w : Walk). settle_passes shape.rules shape.args_override_self w.held && (list_all default_passes shape.rules && is_valid shape (finished shape.rules w.held) false)) whole

  pub session_takes : takes session words ≡ true
  session_takes = ap (λ b. b && built_takes (built session) nothing_held words) session_simple ∙ leaf_takes (built session) nothing_held words refl level
