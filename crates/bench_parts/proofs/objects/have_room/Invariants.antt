use Rattle.std.proofs.Common.{ℕ, ◌<◌, is_some, count_by}
use Rattle.gh_base.specs.declared.limits.TheConstants.{PARTITION_PLACES}
use Rattle.gh_objects.specs.Headers.{headers_in}
use Rattle.bench_parts.proofs.objects.have_room.Given as goal

-- the places before this one have room
abbrev pub invariant-loop-place : goal.invariant-loop-place
invariant-loop-place l = (place : ℕ) → place < l.place → count_by is_some (headers_in l.objects.table.headers place) < PARTITION_PLACES
