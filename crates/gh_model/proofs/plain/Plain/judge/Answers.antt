-- An act keeps the sums small, and rings and gives a serial at most once.
use Rattle.gh_model.proofs.ActLemmas.{act_kept}
use Rattle.gh_model.proofs.plain.Plain.judge.Goals as goal

pub invariant_of-self : goal.invariant_of-self
invariant_of-self c =
    act_kept _ c.act.new.state c.has_moved-moved.result c.args.cpu.0 c.args.call.now c.as_slice-bytes.result.now c.args.grants.now c.act.result
    c.act.ensures.judged c.act.ensures.no_memory c.self.invariant
