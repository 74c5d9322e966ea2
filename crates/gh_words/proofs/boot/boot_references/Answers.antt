-- One word more.
use Rattle.gh_words.specs.Booting.{boot_word}
use Rattle.gh_words.proofs.Puts.{filled_more}
use Rattle.gh_words.proofs.boot.boot_references.Goals as goal

pub loop-at-preserved : goal.loop-at-preserved
loop-at-preserved c =
    filled_more (boot_word c.args.boot.now) c.loop-at.words c.set.new.self c.loop-at.at c.boot_word.result c.set.ensures.set c.set.ensures.put c.boot_word.ensures c.loop-at.invariant
