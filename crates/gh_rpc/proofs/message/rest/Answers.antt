use Rattle.std.proofs.Common.{sym}
use Rattle.std.proofs.lemmas.List.{drop_all}
use Rattle.gh_rpc.proofs.message.rest.Goals as goal

pub returns-then-left-le-FRAGMENT_PAYLOAD_BYTES : goal.returns-then-left-le-FRAGMENT_PAYLOAD_BYTES
returns-then-left-le-FRAGMENT_PAYLOAD_BYTES c =
    sym (drop_all _ _ c.if-left-le-FRAGMENT_PAYLOAD_BYTES.true)
