use Rattle.gh_base.specs.RmLayout.{memory_entry, memory_width}
use Rattle.gh_rmproto.proofs.EntryLemmas.{reading_on, reading_done}
use Rattle.gh_rmproto.proofs.memory.memory_entries.Goals as goal

pub loop-preserved : goal.loop-preserved
loop-preserved c =
    let next = reading_on memory_entry memory_width _ _ _ _ _ c.loop.invariant c.loop-test.true in
    rw (c.split_at.ensures.back, c.in_ok-push.ensures.ok, c.memory_entry.ensures) next

pub returns : goal.returns
returns c = reading_done memory_entry memory_width _ _ _ _ _ c.loop.invariant c.loop-test.false
