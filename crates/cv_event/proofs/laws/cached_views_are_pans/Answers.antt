use Rattle.cv_event.proofs.PanLemmas.{cached_views_are_pans}
use Rattle.cv_event.proofs.laws.cached_views_are_pans.Goals as goal

pub returns : goal.returns
returns c = cached_views_are_pans
