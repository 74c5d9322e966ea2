-- What was read with what is left is the whole.
use Rattle.gh_base.specs.RmLayout.{memory_entry, memory_width}
use Rattle.gh_rmproto.proofs.EntryLemmas.{IsReading}
use Rattle.gh_rmproto.proofs.memory.memory_entries.Given as goal

abbrev pub invariant-loop : goal.invariant-loop
invariant-loop l = IsReading memory_entry memory_width l.count l.counter l.bytes l.left l.list
