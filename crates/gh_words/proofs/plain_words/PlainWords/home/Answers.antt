-- The home is that of the configuration.
use Rattle.gh_words.proofs.PinsMade.{home_made, home_within}
use Rattle.gh_words.proofs.plain_words.PlainWords.home.Goals as goal

pub returns-clause-home : goal.returns-clause-home
returns-clause-home c conf shown = home_made c.args.self.now conf c.args.cpu.0 0 shown c.requires.holds.is_cpu c.get.result c.get.ensures

pub returns-clause-within : goal.returns-clause-within
returns-clause-within c = home_within c.args.self.now c.requires.conf c.args.cpu.0 0 c.requires.is_shown c.requires.holds.is_cpu c.get.result c.get.ensures
