-- `clap` takes the words, and gives them.
use Rattle.std.proofs.Common.{◌≡◌, ◌∙◌, rules, [], ◌∷◌, map, codes, ap, ap₂, sym}
use Rattle.std.proofs.lemmas.Result.{IfErr-weaker, IfOk-weaker}
use Rattle.clap.specs.Walk.{Text}
use Rattle.clap.specs.Words.{app_of, is_simple, matches_of, rule_of, takes, with_rule}
use Rattle.cv_words.specs.Found.{word_at}
use Rattle.cv_words.proofs.PlainLemmas.{bare_app, found_word, settings, session_plain}
use Rattle.cv_words.proofs.SessionLemmas.{rule, workers, session, session_simple, session_takes, gives_workers, gives_project, gives_script}
use Rattle.cv_words.proofs.session.matches.Goals as goal

pub returns : goal.returns
returns c =
    let workers_is : rule_of c.long-workers.result ≡ workers = search rules in
    let project_is : rule_of c.required-project.result ≡ rule (codes "project") = search rules in
    let script_is : rule_of c.required-script.result ≡ rule (codes "script") = search rules in
    let bare : app_of c.disable_help_flag.result ≡ bare_app (codes "session") =
    settings (codes "session") _ _ _ c.new-4.ensures.app c.no_binary_name.ensures c.disable_help_flag.ensures in
    let one : app_of c.in_ok-arg.field-0 ≡ with_rule (bare_app (codes "session")) workers = c.in_ok-arg.ensures.shape (search rules) ∙ ap₂ with_rule bare workers_is in
    let two : app_of c.in_ok-arg-2.field-0 ≡ with_rule (with_rule (bare_app (codes "session")) workers) (rule (codes "project")) = c.in_ok-arg-2.ensures.shape (search rules) ∙ ap₂ with_rule one project_is in
    let session_is : app_of c.in_ok-session.session ≡ session = c.in_ok-session.ensures.shape (search rules) ∙ ap₂ with_rule two script_is in
    let words = map (λ w. w.now) c.args.words.now in
    let q = session_plain words c.requires in
    let a = q.4 in
    let b = q.5 in
    let d = q.6 in
    let words_are : words ≡ codes "--workers" ∷ (a.byte ∷ a.bytes) ∷ (b.byte ∷ b.bytes) ∷ (d.byte ∷ d.bytes) ∷ [] =
    q.3 ∙ ap (λ (w : Text). codes "--workers" ∷ w ∷ q.1 ∷ q.2 ∷ []) a.is ∙ ap (λ (w : Text). codes "--workers" ∷ (a.byte ∷ a.bytes) ∷ w ∷ q.2 ∷ []) b.is
    ∙ ap (λ (w : Text). codes "--workers" ∷ (a.byte ∷ a.bytes) ∷ (b.byte ∷ b.bytes) ∷ w ∷ []) d.is in
    let parse = c.try_get_matches_from in
    record {
      ok = IfOk-weaker parse.result _ _ (λ found h.
          let rows = (h (ap is_simple session_is ∙ session_simple)).0 ∙ ap₂ matches_of session_is words_are in
          let is_a = found_word (codes "workers") (a.byte ∷ a.bytes) found _ rows (gives_workers a.byte a.bytes a.plain b.byte b.bytes b.plain d.byte d.bytes d.plain) in
          let is_b = found_word (codes "project") (b.byte ∷ b.bytes) found _ rows (gives_project a.byte a.bytes a.plain b.byte b.bytes b.plain d.byte d.bytes d.plain) in
          let is_d = found_word (codes "script") (d.byte ∷ d.bytes) found _ rows (gives_script a.byte a.bytes a.plain b.byte b.bytes b.plain d.byte d.bytes d.plain) in
          words_are ∙ sym (ap (λ (w : Text). codes "--workers" ∷ w ∷ word_at (codes "project") found ∷ word_at (codes "script") found ∷ []) is_a
          ∙ ap (λ (w : Text). codes "--workers" ∷ (a.byte ∷ a.bytes) ∷ w ∷ word_at (codes "script") found ∷ []) is_b
          ∙ ap (λ (w : Text). codes "--workers" ∷ (a.byte ∷ a.bytes) ∷ (b.byte ∷ b.bytes) ∷ w ∷ []) is_d)) parse.ensures.matches;
      err = IfErr-weaker parse.result _ _ (λ e h.
          h (ap₂ takes session_is words_are ∙ session_takes a.byte a.bytes a.plain b.byte b.bytes b.plain d.byte d.bytes d.plain)) parse.ensures.passes;
    }
