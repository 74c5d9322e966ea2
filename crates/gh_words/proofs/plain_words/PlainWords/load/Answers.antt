-- The word lies at the home of the CPU.
use Rattle.gh_words.proofs.PinsMade.{load_made}
use Rattle.gh_words.proofs.plain_words.PlainWords.load.Goals as goal

pub returns : goal.returns
returns c conf shown =
    load_made c.args.self.now conf c.args.cpu.0 c.args.slot shown c.requires.holds.is_cpu c.home.result.0 c.slot_place.result c.cap.result
    (c.home.ensures.home conf shown) c.home.ensures.within c.slot_place.ensures.place c.slot_place.ensures.within c.cap.ensures
