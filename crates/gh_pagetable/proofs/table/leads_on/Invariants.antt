-- Whether the entries that are left lead on says whether all do.
use Rattle.std.proofs.Common.{◌≡◌, ◌*◌, drop}
use Rattle.std.specs.List.{flat_map}
use Rattle.gh_pagetable.specs.Map.{further}
use Rattle.gh_pagetable.specs.Entry.{AreNumbered, leads_on}
use Rattle.gh_pagetable.proofs.table.leads_on.Given as goal

abbrev pub invariant-loop-entry : goal.invariant-loop-entry
invariant-loop-entry g l = record {
  rest : leads_on l.expected (flat_map g.E.Entry.targets (drop l.entry-index l.entries))
      ≡ leads_on l.fn.target (flat_map g.E.Entry.targets l.entries);
  next : l.expected ≡ further l.fn.target (g.E.Entry.PAGES * l.entry-index);
  machine : AreNumbered l.fn.target (g.E.Entry.PAGES * l.entry-index);
}
