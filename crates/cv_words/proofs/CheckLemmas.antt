-- What `clap` makes of the word behind `check`.
use Rattle.std.proofs.Common.{◌≡◌, ◌∙◌, ◌==◌, ◌&&◌, ℕ, true, false, List, [], ◌∷◌, Some, refl, ap, codes}
use Rattle.std.specs.List.{list_all}
use Rattle.clap.specs.Walk.{Held, Rule, Text, Walk, nothing_held, walk, walk_from, walked, first_of, finished}
use Rattle.clap.specs.Simple.{App, Shape, built, is_simple, matches_of, new_rule, new_shape}
use Rattle.clap.specs.Takes.{takes, built_takes, level_passes, walk_passes, settle_passes, default_passes, is_valid}
use Rattle.clap.proofs.TakesLemmas.{leaf_takes}
use Rattle.clap.proofs.OnLiterals.{clap_on_literals}
use Rattle.cv_words.proofs.PlainLemmas.{standing, turn_plain, walked_plain}

abbrev pub project : Rule
project = record (new_rule (codes "project")) { required = true }

abbrev pub check : App
check = record {
  top = record (new_shape (codes "check")) { rules = project ∷ []; no_binary_name = true; disable_help_flag = true };
  subs = [];
}

pub check_simple : is_simple check ≡ true
unfolding clap_on_literals
check_simple = refl

-- what is held behind the word
abbrev behind : Text → Held
behind word = record { rows = []; pending = Some (codes "project", word ∷ []); skip = 0 }

module _ (byte : ℕ) (bytes : List ℕ) (plain : (byte == 45) ≡ false) where
  abbrev shape : Shape
  shape = (built check).top

  -- the walk behind the word
  walked_check : walked shape.rules [] (walk_from nothing_held) (byte ∷ bytes) ≡ standing (behind (byte ∷ bytes)) 2
  walked_check = walked_plain byte bytes plain shape.rules nothing_held 1

  pub check_gives : first_of (codes "project") (matches_of check ((byte ∷ bytes) ∷ [])) ≡ Some (byte ∷ bytes)
  check_gives = ap (λ (w : Walk). first_of (codes "project") (finished shape.rules w.held)) walked_check

  passes : walk_passes shape [] (walk_from nothing_held) ((byte ∷ bytes) ∷ []) ≡ true
  unfolding walk_passes
  passes = ap (λ b. b && true) (turn_plain byte bytes plain shape nothing_held 1)

  level : level_passes shape [] nothing_held ((byte ∷ bytes) ∷ []) false ≡ true
  level =
      ap (λ b. b && (settle_passes shape.rules shape.args_override_self (walk shape.rules [] nothing_held ((byte ∷ bytes) ∷ [])).held
      && (list_all default_passes shape.rules && is_valid shape (finished shape.rules (walk shape.rules [] nothing_held ((byte ∷ bytes) ∷ [])).held) false))) passes
      ∙ ap (λ (w : Walk). settle_passes shape.rules shape.args_override_self w.held && (list_all default_passes shape.rules && is_valid shape (finished shape.rules w.held) false)) walked_check

  pub check_takes : takes check ((byte ∷ bytes) ∷ []) ≡ true
  check_takes =
      ap (λ b. b && built_takes (built check) nothing_held ((byte ∷ bytes) ∷ [])) check_simple
      ∙ leaf_takes (built check) nothing_held ((byte ∷ bytes) ∷ []) refl level
