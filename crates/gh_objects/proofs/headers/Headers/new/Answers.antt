-- No partition has a place where no object lives.
use Rattle.std.proofs.Common.{List, Option, None, replicate, refl, ap}
use Rattle.gh_base.specs.declared.limits.TheConstants.{PARTITIONS}
use Rattle.gh_objects.specs.declared.header.Header.{Header}
use Rattle.gh_objects.specs.Headers.{HeaderTable}
use Rattle.gh_objects.proofs.PartitionsLemmas.{HavePlaces-none}
use Rattle.gh_objects.proofs.headers.Headers.new.Goals as goal

pub invariant_of-result : goal.invariant_of-result
invariant_of-result c = HavePlaces-none _ _ c.in_ok-new.ensures refl

pub returns : goal.returns
returns c =
    let of : List (Option Header) → HeaderTable = λ headers. record { headers = headers; partitions = replicate PARTITIONS None } in
    ap of c.in_ok-new.ensures
