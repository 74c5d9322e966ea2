-- The objects so far and those of the rows that are left.
use Rattle.std.proofs.Common.{◌≡◌, ◌++◌, drop, filter, map}
use Rattle.gh_items.proofs.sweep.doomed_objects.Given as goal
use Rattle.gh_schedules.specs.Sweep.{doomed_objects, is_doomed_row, serial_of}

abbrev pub invariant-loop-row : goal.invariant-loop-row
invariant-loop-row l = l.serials ++ map serial_of (filter (is_doomed_row l.state) (drop l.row-index l.rows)) ≡ doomed_objects l.state
