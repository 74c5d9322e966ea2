use Rattle.std.proofs.Common.{◌≡◌, replicate}
use Rattle.gh_parts.specs.Shares.{no_place}
use Rattle.gh_parts.proofs.shares.Share.new.Given as goal

abbrev pub invariant-loop : goal.invariant-loop
invariant-loop l = l.places.items ≡ replicate l.counter no_place
