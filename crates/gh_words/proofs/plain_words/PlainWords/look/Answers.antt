-- The look is of the word that was loaded.
use Rattle.std.proofs.Common.{◌≡◌}
use Rattle.gh_words.specs.Calls.{look_at}
use Rattle.gh_words.proofs.PinsMade.{look_is, look_made}
use Rattle.gh_words.proofs.plain_words.PlainWords.look.Goals as goal

pub returns-clause-look : goal.returns-clause-look
returns-clause-look c conf shown =
    let word = c.load-word.ensures conf shown in
    let place : c.max-place.result ≡ (look_at conf c.args.cpu.0 c.args.slot).place =
    look_is c.args.self.now conf c.args.cpu.0 c.args.slot shown c.requires.holds.is_cpu c.load-word.result c.set_at.result c.max-place.result word c.set_at.ensures c.max-place.ensures in
    cc

pub returns-clause-made : goal.returns-clause-made
returns-clause-made c conf shown is may =
    look_made c.args.self.now conf c.args.cpu.0 c.args.slot shown is.is_cpu c.put_place.new.self c.max-place.result
    (look_is c.args.self.now conf c.args.cpu.0 c.args.slot shown is.is_cpu c.load-word.result c.set_at.result c.max-place.result (c.load-word.ensures conf shown) c.set_at.ensures c.max-place.ensures)
    c.put_place.ensures may
