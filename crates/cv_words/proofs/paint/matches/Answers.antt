-- `clap` takes the words, and gives them.
use Rattle.std.proofs.Common.{◌≡◌, ◌∙◌, rules, [], ◌∷◌, map, codes, ap, ap₂, sym}
use Rattle.std.proofs.lemmas.Result.{IfErr-weaker, IfOk-weaker}
use Rattle.std.proofs.lemmas.List.{length-map}
use Rattle.clap.specs.Walk.{Text}
use Rattle.clap.specs.Words.{app_of, is_simple, matches_of, rule_of, takes, with_rule}
use Rattle.cv_words.specs.Found.{word_at}
use Rattle.cv_words.proofs.PlainLemmas.{bare_app, found_word, settings, three_plain}
use Rattle.cv_words.proofs.PaintLemmas.{rule, paint, paint_simple, paint_takes, gives_project, gives_canvas, gives_out}
use Rattle.cv_words.proofs.paint.matches.Goals as goal

pub returns : goal.returns
returns c =
    let project_is : rule_of c.required-project.result ≡ rule (codes "project") = search rules in
    let canvas_is : rule_of c.required-canvas.result ≡ rule (codes "canvas") = search rules in
    let out_is : rule_of c.required-out.result ≡ rule (codes "out") = search rules in
    let bare : app_of c.disable_help_flag.result ≡ bare_app (codes "paint") =
    settings (codes "paint") _ _ _ c.new-4.ensures.app c.no_binary_name.ensures c.disable_help_flag.ensures in
    let one : app_of c.in_ok-arg.field-0 ≡ with_rule (bare_app (codes "paint")) (rule (codes "project")) = c.in_ok-arg.ensures.shape (search rules) ∙ ap₂ with_rule bare project_is in
    let two : app_of c.in_ok-arg-2.field-0 ≡ with_rule (with_rule (bare_app (codes "paint")) (rule (codes "project"))) (rule (codes "canvas")) = c.in_ok-arg-2.ensures.shape (search rules) ∙ ap₂ with_rule one canvas_is in
    let paint_is : app_of c.in_ok-paint.paint ≡ paint = c.in_ok-paint.ensures.shape (search rules) ∙ ap₂ with_rule two out_is in
    let words = map (λ w. w.now) c.args.words.now in
    let q = three_plain words (length-map c.args.words.now (λ w. w.now) ∙ c.requires.three) c.requires.plain in
    let a = q.4 in
    let b = q.5 in
    let d = q.6 in
    let words_are : words ≡ (a.byte ∷ a.bytes) ∷ (b.byte ∷ b.bytes) ∷ (d.byte ∷ d.bytes) ∷ [] =
    q.3 ∙ ap (λ (w : Text). w ∷ q.1 ∷ q.2 ∷ []) a.is ∙ ap (λ (w : Text). (a.byte ∷ a.bytes) ∷ w ∷ q.2 ∷ []) b.is ∙ ap (λ (w : Text). (a.byte ∷ a.bytes) ∷ (b.byte ∷ b.bytes) ∷ w ∷ []) d.is in
    let parse = c.try_get_matches_from in
    record {
      ok = IfOk-weaker parse.result _ _ (λ found h.
          let rows = (h (ap is_simple paint_is ∙ paint_simple)).0 ∙ ap₂ matches_of paint_is words_are in
          let is_a = found_word (codes "project") (a.byte ∷ a.bytes) found _ rows (gives_project a.byte a.bytes a.plain b.byte b.bytes b.plain d.byte d.bytes d.plain) in
          let is_b = found_word (codes "canvas") (b.byte ∷ b.bytes) found _ rows (gives_canvas a.byte a.bytes a.plain b.byte b.bytes b.plain d.byte d.bytes d.plain) in
          let is_d = found_word (codes "out") (d.byte ∷ d.bytes) found _ rows (gives_out a.byte a.bytes a.plain b.byte b.bytes b.plain d.byte d.bytes d.plain) in
          words_are ∙ sym (ap (λ (w : Text). w ∷ word_at (codes "canvas") found ∷ word_at (codes "out") found ∷ []) is_a
          ∙ ap (λ (w : Text). (a.byte ∷ a.bytes) ∷ w ∷ word_at (codes "out") found ∷ []) is_b ∙ ap (λ (w : Text). (a.byte ∷ a.bytes) ∷ (b.byte ∷ b.bytes) ∷ w ∷ []) is_d)) parse.ensures.matches;
      err = IfErr-weaker parse.result _ _ (λ e h.
          h (ap₂ takes paint_is words_are ∙ paint_takes a.byte a.bytes a.plain b.byte b.bytes b.plain d.byte d.bytes d.plain)) parse.ensures.passes;
    }
