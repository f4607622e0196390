-- `clap` takes the word, and gives it.
use Rattle.std.proofs.Common.{◌≡◌, ◌∙◌, rules, [], ◌∷◌, map, codes, ap, ap₂, sym}
use Rattle.std.proofs.lemmas.Result.{IfErr-weaker, IfOk-weaker}
use Rattle.std.proofs.lemmas.List.{length-map}
use Rattle.clap.specs.Walk.{Text}
use Rattle.clap.specs.Words.{app_of, is_simple, matches_of, rule_of, takes, with_rule}
use Rattle.cv_words.proofs.PlainLemmas.{bare_app, found_word, settings, one_plain}
use Rattle.cv_words.proofs.CheckLemmas.{check, project, check_simple, check_takes, check_gives}
use Rattle.cv_words.proofs.check.matches.Goals as goal

pub returns : goal.returns
returns c =
    let project_is : rule_of c.required-project.result ≡ project = search rules in
    let bare : app_of c.disable_help_flag.result ≡ bare_app (codes "check") =
    settings (codes "check") _ _ _ c.new-2.ensures.app c.no_binary_name.ensures c.disable_help_flag.ensures in
    let check_is : app_of c.in_ok-check.check ≡ check = c.in_ok-check.ensures.shape (search rules) ∙ ap₂ with_rule bare project_is in
    let words = map (λ w. w.now) c.args.words.now in
    let one = one_plain words (length-map c.args.words.now (λ w. w.now) ∙ c.requires.one) c.requires.plain in
    let word = one.2 in
    let words_are : words ≡ (word.byte ∷ word.bytes) ∷ [] = one.1 ∙ ap (λ (w : Text). w ∷ []) word.is in
    let parse = c.try_get_matches_from in
    record {
      ok = IfOk-weaker parse.result _ _ (λ found h.
          words_are ∙ ap (λ (w : Text). w ∷ []) (sym (found_word (codes "project") (word.byte ∷ word.bytes) found (matches_of check ((word.byte ∷ word.bytes) ∷ []))
          ((h (ap is_simple check_is ∙ check_simple)).0 ∙ ap₂ matches_of check_is words_are) (check_gives word.byte word.bytes word.plain)))) parse.ensures.matches;
      err = IfErr-weaker parse.result _ _ (λ e h. h (ap₂ takes check_is words_are ∙ check_takes word.byte word.bytes word.plain)) parse.ensures.passes;
    }
