use Rattle.std.proofs.Common.{sym}
use Rattle.std.proofs.lemmas.List.{take_all}
use Rattle.gh_rpc.proofs.message.part.Goals as goal

pub returns-then-left-le-FRAGMENT_PAYLOAD_BYTES-clause-value :
    goal.returns-then-left-le-FRAGMENT_PAYLOAD_BYTES-clause-value
returns-then-left-le-FRAGMENT_PAYLOAD_BYTES-clause-value c =
    sym (take_all _ _ c.if-left-le-FRAGMENT_PAYLOAD_BYTES.true)
