-- The count is one more.
use Rattle.std.proofs.Common.{refl}
use Rattle.gh_words.proofs.PinsMade.{pin_alive, pin_dead, pin_made}
use Rattle.gh_words.proofs.plain_words.PlainWords.pin.Goals as goal

pub returns-then-word-clause-answer : goal.returns-then-word-clause-answer
returns-then-word-clause-answer c conf shown =
    pin_dead c.args.self.now c.add_one-word.new.self conf c.args.cpu.0 c.args.object.0 c.add_one-word.result shown c.requires.holds.is_index c.add_one-word.ensures.word c.if-word.true _ refl

pub returns-then-word-clause-made : goal.returns-then-word-clause-made
returns-then-word-clause-made c conf shown pins may =
    pin_made c.args.self.now c.add_one-word.new.self conf c.args.cpu.0 c.args.object.0 c.add_one-word.result shown c.requires.holds.is_index c.add_one-word.ensures.word pins may c.add_one-word.ensures.added

pub returns-clause-answer : goal.returns-clause-answer
returns-clause-answer c conf shown =
    pin_alive c.args.self.now c.add_one-word.new.self conf c.args.cpu.0 c.args.object.0 c.add_one-word.result shown c.requires.holds.is_index c.add_one-word.ensures.word c.if-word.false

pub returns-clause-made : goal.returns-clause-made
returns-clause-made c conf shown pins may =
    pin_made c.args.self.now c.add_one-word.new.self conf c.args.cpu.0 c.args.object.0 c.add_one-word.result shown c.requires.holds.is_index c.add_one-word.ensures.word pins may c.add_one-word.ensures.added
