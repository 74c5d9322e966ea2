-- With no others, the step is the event.
use Rattle.std.specs.Prelude.{⊤}
use Rattle.gh_words.proofs.Alone.{alone_between, lone}
use Rattle.gh_words.proofs.law.lone_steps_are_events.Goals as goal

pub returns-clause-possible : goal.returns-clause-possible
returns-clause-possible g c words conf event moved none = (lone g.W.Words.between (λ _. ⊤) (g.W.Words.shows words) conf event moved none).0

pub returns-clause-shown : goal.returns-clause-shown
returns-clause-shown g c words conf event moved none = (lone g.W.Words.between (λ _. ⊤) (g.W.Words.shows words) conf event moved none).1

pub returns-clause-made : goal.returns-clause-made
returns-clause-made g c words conf event may none shown = alone_between g.W.Words.between (λ _. ⊤) (g.W.Words.shows words) conf event none may tt shown
