-- What `clap` makes of the words behind `paint`.
use Rattle.std.proofs.Common.{◌≡◌, ◌∙◌, ◌==◌, ◌&&◌, ℕ, true, false, List, [], ◌∷◌, Some, refl, ap, codes}
use Rattle.std.specs.List.{list_all}
use Rattle.clap.specs.Walk.{Held, Rule, Text, Walk, nothing_held, walk, walk_from, walked, first_of, finished}
use Rattle.clap.specs.Simple.{App, Shape, built, is_simple, matches_of, new_rule, new_shape}
use Rattle.clap.specs.Takes.{takes, built_takes, level_passes, walk_passes, settle_passes, default_passes, is_valid}
use Rattle.clap.proofs.TakesLemmas.{leaf_takes}
use Rattle.clap.proofs.OnLiterals.{clap_on_literals}
use Rattle.cv_words.proofs.PlainLemmas.{standing, held_behind, turn_plain, walked_plain}

abbrev pub rule : Text → Rule
rule id = record (new_rule id) { required = true }

abbrev pub paint : App
paint = record {
  top = record (new_shape (codes "paint")) { rules = rule (codes "project") ∷ rule (codes "canvas") ∷ rule (codes "out") ∷ []; no_binary_name = true; disable_help_flag = true };
  subs = [];
}

pub paint_simple : is_simple paint ≡ true
unfolding clap_on_literals
paint_simple = refl

abbrev shape : Shape
shape = (built paint).top

module _ (a : ℕ) (rest_a : List ℕ) (a_plain : (a == 45) ≡ false) (b : ℕ) (bs : List ℕ) (b_plain : (b == 45) ≡ false) (c : ℕ) (cs : List ℕ) (c_plain : (c == 45) ≡ false) where
  abbrev project_word : Text
  project_word = a ∷ rest_a

  abbrev canvas_word : Text
  canvas_word = b ∷ bs

  abbrev out_word : Text
  out_word = c ∷ cs

  abbrev words : List Text
  words = project_word ∷ canvas_word ∷ out_word ∷ []

  -- what is held behind each word
  abbrev one : Held
  one = held_behind shape.rules 1 project_word nothing_held

  abbrev two : Held
  two = held_behind shape.rules 2 canvas_word one

  abbrev three : Held
  three = held_behind shape.rules 3 out_word two

  first : walked shape.rules [] (walk_from nothing_held) project_word ≡ standing one 2
  first = walked_plain a rest_a a_plain shape.rules nothing_held 1

  second : walked shape.rules [] (standing one 2) canvas_word ≡ standing two 3
  second = walked_plain b bs b_plain shape.rules one 2

  third : walked shape.rules [] (standing two 3) out_word ≡ standing three 4
  third = walked_plain c cs c_plain shape.rules two 3

  whole : walk shape.rules [] nothing_held words ≡ standing three 4
  whole =
      ap (λ (w : Walk). walked shape.rules [] (walked shape.rules [] w canvas_word) out_word) first
      ∙ ap (λ (w : Walk). walked shape.rules [] w out_word) second ∙ third

  pub gives_project : first_of (codes "project") (matches_of paint words) ≡ Some project_word
  gives_project = ap (λ (w : Walk). first_of (codes "project") (finished shape.rules w.held)) whole

  pub gives_canvas : first_of (codes "canvas") (matches_of paint words) ≡ Some canvas_word
  gives_canvas = ap (λ (w : Walk). first_of (codes "canvas") (finished shape.rules w.held)) whole

  pub gives_out : first_of (codes "out") (matches_of paint words) ≡ Some out_word
  gives_out = ap (λ (w : Walk). first_of (codes "out") (finished shape.rules w.held)) whole

  last_passes : walk_passes shape [] (standing two 3) (out_word ∷ []) ≡ true
  unfolding walk_passes
  last_passes = ap (λ b. b && true) (turn_plain c cs c_plain shape two 3)

  rest_passes : walk_passes shape [] (standing one 2) (canvas_word ∷ out_word ∷ []) ≡ true
  unfolding walk_passes
  rest_passes =
      ap (λ b. b && walk_passes shape [] (walked shape.rules [] (standing one 2) canvas_word) (out_word ∷ [])) (turn_plain b bs b_plain shape one 2)
      ∙ ap (λ (w : Walk). walk_passes shape [] w (out_word ∷ [])) second ∙ last_passes

  all_pass : walk_passes shape [] (walk_from nothing_held) words ≡ true
  unfolding walk_passes
  all_pass =
      ap (λ b. b && walk_passes shape [] (walked shape.rules [] (walk_from nothing_held) project_word) (canvas_word ∷ out_word ∷ [])) (turn_plain a rest_a a_plain shape nothing_held 1)
      ∙ ap (λ (w : Walk). walk_passes shape [] w (canvas_word ∷ out_word ∷ [])) first ∙ rest_passes

  level : level_passes shape [] nothing_held words false ≡ true
  level =
      ap (λ b. b && (settle_passes shape.rules shape.args_override_self (walk shape.rules [] nothing_held words).held
      && (list_all default_passes shape.rules && is_valid shape (finished shape.rules (walk shape.rules [] nothing_held words).held) false))) all_pass
      ∙ ap (λ (w : Walk). settle_passes shape.rules shape.args_override_self w.held && (list_all default_passes shape.rules && is_valid shape (finished shape.rules w.held) false)) whole

  pub paint_takes : takes paint words ≡ true
  paint_takes = ap (λ b. b && built_takes (built paint) nothing_held words) paint_simple ∙ leaf_takes (built paint) nothing_held words refl level
