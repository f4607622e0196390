-- What is left of a list that is handed out run by run.
use Rattle.std.specs.Prelude.{ℕ, List, ◌++◌, drop}

-- the rest of the run at hand, and then what stands behind that run in the list
abbrev pub elements_left : {T : Type 0} → List T → List T → ℕ → List T
elements_left list run behind = run ++ drop behind list
