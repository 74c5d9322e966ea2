-- The first one from the CPU before.
use Rattle.std.proofs.Common.{◌∙◌, arith}
use Rattle.gh_items.proofs.CauseLemmas.{reader_before}
use Rattle.gh_items.proofs.causes.first_reader.Goals as goal

pub loop-cpu-preserved : goal.loop-cpu-preserved
loop-cpu-preserved c = record {
  within = omega (arith, c.loop-cpu.invariant.within);
  behind =
      c.reader_or-first.ensures
      ∙ reader_before c.args.now.now c.args.seen.now c.loop-cpu.cpu c.loop-cpu.first c.loop-cpu-test.true
      (omega (arith, c.loop-cpu.invariant.within, c.told-now)) (omega (arith, c.loop-cpu.invariant.within, c.told-seen))
      c.loop-cpu.invariant.behind;
}
