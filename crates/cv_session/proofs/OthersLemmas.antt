-- The entries of other callers behind a play.
use Rattle.std.proofs.Common.{◌≡◌, ◌⊎◌, inl, inr, refl, ◌∙◌, ℕ, List, [], ◌∷◌}
use Rattle.std.specs.List.{AllByRecursion}
use Rattle.cv_event.specs.declared.entry.Entry.{Entry}
use Rattle.cv_session.specs.Plays.{Play, passed, Plays, stops, quiet, own, failed, other}
use Rattle.cv_session.specs.Laws.{IsOfWorker, OthersDoTasks, OthersMayGoOn}
use Rattle.cv_session.proofs.PlayLemmas.{joined}

-- the play behind entries of other callers
abbrev pub passed_over : List Entry → Play → Play
passed_over [] a = a
passed_over (e ∷ es) a = passed_over es (passed e a)

others_play : (n : ℕ) (es : List Entry) (a : Play) → AllByRecursion (IsOfWorker n) es → Plays n a es (passed_over es a)
others_play n [] a f = stops a
others_play n (e ∷ es) a f = other a _ e es f.0.other f.0.known f.0.act (others_play n es (passed e a) f.1)

mode_same : (es : List Entry) (a : Play) → (passed_over es a).mode ≡ a.mode
mode_same [] a = refl
mode_same (e ∷ es) a = mode_same es (passed e a)

commands_same : (es : List Entry) (a : Play) → (passed_over es a).commands ≡ a.commands
commands_same [] a = refl
commands_same (e ∷ es) a = commands_same es (passed e a)

refused_same : (es : List Entry) (a : Play) → (passed_over es a).refused ≡ a.refused
refused_same [] a = refl
refused_same (e ∷ es) a = refused_same es (passed e a)

pub others_may_go_on : OthersMayGoOn
others_may_go_on left o views script n xs ys refused f g = record {
  last = passed_over ys f.last;
  plays = joined ys (passed_over ys f.last) f.plays (others_play n ys f.last g);
  is_before = record { mode = mode_same ys f.last ∙ f.is_before.mode; commands = commands_same ys f.last ∙ f.is_before.commands };
  refused_are = refused_same ys f.last ∙ f.refused_are;
  before = f.before;
  cut = f.cut;
  script_is = f.script_is;
  wrote = f.wrote;
}

tasks_played : {n : ℕ} {a b : Play} {es : List Entry} → Plays n a es b
    → AllByRecursion (λ (e : Entry). (e.caller ≡ 0) ⊎ IsOfWorker n e) es
tasks_played (stops a) = tt
tasks_played (quiet a b c es h r) = tasks_played r
tasks_played (own a c d es h r) = (inl refl, tasks_played r)
tasks_played (failed a c j es h r) = (inl refl, tasks_played r)
tasks_played (other a c e es low high is r) = (inr (record { other = low; known = high; act = is }), tasks_played r)

pub others_do_tasks : OthersDoTasks
others_do_tasks o views script n journal refused f = tasks_played f.plays
