-- The holder is the CPU that has the turn.
use Rattle.std.proofs.Common.{refl}
use Rattle.gh_words.proofs.TurnsMade.{freed_made, holder_within}
use Rattle.gh_words.specs.Turns.{holder_of}
use Rattle.gh_words.proofs.plain_words.PlainWords.free.Goals as goal

pub put_end-requires : goal.put_end-requires
put_end-requires c = holder_within c.args.self.now.turn c.requires.conf c.requires.is_shown.turn

pub returns-clause-made : goal.returns-clause-made
returns-clause-made c = freed_made c.args.self.now c.put_end.new.self (holder_of c.args.self.now.turn) refl c.put_end.ensures
