-- So many CPUs have their seats.
use Rattle.std.proofs.Common.{◌≡◌, map}
use Rattle.std.specs.List.{range_with_len}
use Rattle.gh_items.specs.Beginning.{new_seat}
use Rattle.gh_items.proofs.beginning.new_seats.Given as goal

abbrev pub invariant-loop-cpu : goal.invariant-loop-cpu
invariant-loop-cpu l = l.seats ≡ map (new_seat l.boot) (range_with_len 0 l.cpu)
