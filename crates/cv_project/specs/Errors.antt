-- What callers see of refusals.
use Rattle.std.specs.Prelude.{Result, Ok, Err}
use Rattle.cv_project.specs.declared.error.ProjectError.{ProjectError}
use Rattle.cv_project.specs.declared.error.ProjectError.TheVariants as error
use Rattle.cv_project.specs.declared.refusal.Refusal.{Refusal}
use Rattle.cv_project.specs.declared.refusal.Refusal.TheVariants.{Missing, WrongKind, Unknown, Duplicate}
use Rattle.cv_project.specs.declared.refusal.Refusal.TheVariants.{Limit, BadVersion, NoMemory}

-- the error of a refusal
abbrev pub error_of : Refusal → ProjectError
error_of (Missing path) = error.Missing path
error_of (WrongKind path) = error.WrongKind path
error_of (Unknown path) = error.Unknown path
error_of (Duplicate id) = error.Duplicate id
error_of (Limit path) = error.Limit path
error_of BadVersion = error.BadVersion
error_of NoMemory = error.NoMemory

-- what a tree says, as callers see it
abbrev pub answered : {X : Type 0} → Result X Refusal → Result X ProjectError
answered (Ok x) = Ok x
answered (Err e) = Err (error_of e)
