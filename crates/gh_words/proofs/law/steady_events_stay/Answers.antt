-- Others leave what the holder relies on.
use Rattle.std.specs.Prelude.{⊤}
use Rattle.gh_words.proofs.CanMakes.{can_begin, can_go_on, can_possible}
use Rattle.gh_words.proofs.law.steady_events_stay.Goals as goal

pub returns-clause-begins : goal.returns-clause-begins
returns-clause-begins g c at conf events steady done = can_begin at conf events steady done

pub returns-clause-possible : goal.returns-clause-possible
returns-clause-possible g c at conf event events can = can_possible at conf event events can

pub returns-clause-goes_on : goal.returns-clause-goes_on
returns-clause-goes_on g c words at conf event events moved can =
    can_go_on g.W.Words.between (λ _. ⊤) (g.W.Words.shows words) at conf event events can moved
