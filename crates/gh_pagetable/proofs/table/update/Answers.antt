-- The table shows what the entry said, with the run set, and the entry then says what the table is.
use Rattle.std.proofs.Common.{◌∙◌}
use Rattle.gh_pagetable.proofs.Entries.{targets_of-descriptor_of}
use Rattle.gh_pagetable.proofs.table.update.Goals as goal

pub returns-clause-targets : goal.returns-clause-targets
returns-clause-targets g c =
    let table = c.set.ensures.table in
    let shows = targets_of-descriptor_of g.E.Entry.targets g.E.Entry.PAGES c.set.new.entries table in
    rw c.describe.ensures.value (shows ∙ c.set.ensures.targets ∙ rw c.split.ensures.targets)
