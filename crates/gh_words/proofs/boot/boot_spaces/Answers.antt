-- One object more.
use Rattle.gh_words.specs.Booting.{space_at}
use Rattle.gh_words.proofs.Puts.{filled_more}
use Rattle.gh_words.proofs.boot.boot_spaces.Goals as goal

pub loop-at-preserved : goal.loop-at-preserved
loop-at-preserved c =
    filled_more (space_at c.args.boot.now) c.loop-at.spaces c.set.new.self c.loop-at.at c.space_at.result c.set.ensures.set c.set.ensures.put c.space_at.ensures c.loop-at.invariant
