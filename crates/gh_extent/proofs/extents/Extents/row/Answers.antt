-- A row that is found is one of the rows, and has the serial.
use Rattle.std.proofs.Common.{◌+◌, ◌≤◌, length}
use Rattle.gh_model.specs.Rows.{is_extent}
use Rattle.gh_extent.proofs.ExtentLemmas.{found, found_serial}
use Rattle.gh_extent.proofs.extents.Extents.row.Goals as goal

pub returns-clause-within : goal.returns-clause-within
returns-clause-within c =
    rw (c.row_in.ensures, c.deref.ensures.value, ← c.self.view_is)
    (found (λ row. row.first.0 + row.count ≤ length c.self.inside.holders) (is_extent c.args.extent.0) c.self.inside.rows.items c.self.invariant.within.spans)

pub returns-clause-serial : goal.returns-clause-serial
returns-clause-serial c =
    rw (c.row_in.ensures, c.deref.ensures.value) (found_serial c.args.extent c.self.inside.rows.items)
