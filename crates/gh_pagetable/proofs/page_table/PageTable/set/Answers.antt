-- Writing a run over the map sets it.
use Rattle.std.proofs.Common.{◌≡◌, ◌+◌, ◌≤◌, length, ◌∙◌}
use Rattle.std.proofs.lemmas.List.{with_items_is}
use Rattle.gh_pagetable.proofs.Maps.{overwritten_sets}
use Rattle.gh_pagetable.proofs.Tables.{length-table}
use Rattle.gh_pagetable.proofs.page_table.PageTable.set.Goals as goal

pub returns : goal.returns
returns c =
    let old = c.args.self.now in
    let before = c.self.inside.top in
    let view = c.self.view_is in
    let kept : length c.set.new.entries ≡ before.len = c.set.auto.entries ∙ c.deref_mut.ensures.len in
    let entries = with_items_is before c.set.new.entries kept in
    let size : length old ≡ 4096 = rw (← view) (length-table (λ e. e) 256 before.items c.self.invariant) in
    let within : c.args.first + c.args.count ≤ length old = rw size c.requires.space in
    let sets = overwritten_sets old c.args.first c.args.count c.args.target within in
    rw (entries, c.set.ensures.targets, c.deref_mut.ensures.value, view) sets
