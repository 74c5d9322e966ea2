use Rattle.gh_events.proofs.GraceTurn.{owe_graced, settle_graced}
use Rattle.gh_events.proofs.grace.owe_keeps_grace.Goals as goal

pub returns-clause-owe : goal.returns-clause-owe
returns-clause-owe c = λ conf cpu object graced may. owe_graced conf object.0 graced

pub returns-clause-settle : goal.returns-clause-settle
returns-clause-settle c = λ conf cpu object graced may. settle_graced conf object.0 graced
