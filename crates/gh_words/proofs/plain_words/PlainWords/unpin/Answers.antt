-- The count is one less.
use Rattle.gh_words.proofs.PinsMade.{unpin_made}
use Rattle.gh_words.proofs.plain_words.PlainWords.unpin.Goals as goal

pub returns-clause-made : goal.returns-clause-made
returns-clause-made c conf shown pin may =
    unpin_made c.args.self.now c.take_one.new.self conf c.args.cpu.0 c.args.object.0 c.take_one.result shown c.requires.holds.is_index c.take_one.ensures.word pin may c.take_one.ensures.taken
