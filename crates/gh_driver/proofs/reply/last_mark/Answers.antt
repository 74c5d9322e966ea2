-- The mark is the CPU's, and none of those behind it is.
use Rattle.std.proofs.Common.{rules, ◌≡◌, true}
use Rattle.gh_model.specs.Run.{is_mark_of}
use Rattle.gh_driver.proofs.MarkLemmas.{last_found}
use Rattle.gh_driver.proofs.reply.last_mark.Goals as goal

pub returns-then-eq : goal.returns-then-eq
returns-then-eq c =
    last_found (is_mark_of c.args.cpu.0) c.args.marks.now c.loop-at.at c.index-marks-at.result c.loop-at-test.true c.loop-at.invariant.within c.index-marks-at.is
    (let own : is_mark_of c.args.cpu.0 c.index-marks-at.result ≡ true = search rules in own)
    c.loop-at.invariant.behind
