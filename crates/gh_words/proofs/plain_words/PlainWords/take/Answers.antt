-- The turn is the one that was made.
use Rattle.std.proofs.Common.{Some, subst, sym}
use Rattle.gh_events.specs.TurnEvents.{taken}
use Rattle.gh_words.specs.Shows.{Shows}
use Rattle.gh_words.specs.declared.plain_words.Turn.{Turn}
use Rattle.gh_words.proofs.TurnsMade.{take_made}
use Rattle.gh_words.proofs.plain_words.PlainWords.take.Goals as goal

pub returns-clause-made : goal.returns-clause-made
returns-clause-made c conf shown may is =
    subst (λ (turn : Turn). Shows (record c.args.self.now { log = c.reserve.new.self; turn = Some turn }) (taken conf c.args.cpu.0)) (sym c.in_ok-turn.ensures)
    (take_made c.args.self.now c.reserve.new.self c.args.cpu c.args.number c.args.frame.now c.args.grants.now c.requires.cpu c.reserve.ensures.entries conf shown may is)
