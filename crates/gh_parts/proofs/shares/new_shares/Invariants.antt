use Rattle.std.proofs.Common.{◌≡◌, replicate}
use Rattle.gh_parts.specs.Shares.{no_place}
use Rattle.gh_parts.proofs.shares.new_shares.Given as goal

abbrev pub invariant-loop : goal.invariant-loop
invariant-loop l = l.shares.items ≡ replicate l.counter (replicate l.places no_place)
