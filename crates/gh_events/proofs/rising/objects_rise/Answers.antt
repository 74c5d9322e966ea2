use Rattle.gh_events.proofs.RisingRows.{objects_rising}
use Rattle.gh_events.proofs.rising.objects_rise.Goals as goal

pub returns : goal.returns
returns c = λ lines history n fit events. objects_rising lines history n fit events
