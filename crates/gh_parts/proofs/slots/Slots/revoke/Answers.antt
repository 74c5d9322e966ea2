-- The word is written over the empty one.
use Rattle.gh_parts.proofs.SlotLemmas.{revoked_over}
use Rattle.gh_parts.proofs.slots.Slots.revoke.Goals as goal

pub returns : goal.returns
returns c =
    revoked_over c.args.slot c.args.entry c.args.self.now c.empty.new.self c.get-word.result _ _
    c.get-word.ensures.word c.empty.ensures c.revoked.ensures.bits c.insert.ensures
