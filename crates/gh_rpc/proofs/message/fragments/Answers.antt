use Rattle.std.proofs.lemmas.List.{map-append}
use Rattle.gh_rpc.proofs.FragmentLemmas.{making_begins, making_on, making_ends}
use Rattle.gh_rpc.proofs.MessageLemmas.{fragments_are_message}
use Rattle.gh_rpc.proofs.message.fragments.Goals as goal

pub loop-init : goal.loop-init
loop-init c =
    let counted = rw c.payload-left.ensures.value at c.further-further.ensures.value in
    rw (c.in_ok-push.ensures.items, c.in_ok-made.ensures.items, c.fragment.ensures, c.payload-left.ensures.value)
    (making_begins _ _ counted)

pub loop-preserved : goal.loop-preserved
loop-preserved c =
    let next = making_on _ _ _ _ _ c.loop.invariant c.loop-test.true in
    rw (c.in_ok-push-2.ensures.items, map-append, c.fragment-in-loop.ensures, c.rest-left.ensures) next

pub returns-clause-made : goal.returns-clause-made
returns-clause-made c = making_ends _ _ _ _ _ c.loop.invariant c.loop-test.false

pub returns-clause-message : goal.returns-clause-message
returns-clause-message c =
    rw (making_ends _ _ _ _ _ c.loop.invariant c.loop-test.false)
    (fragments_are_message c.args.message.now c.payload-left.ensures.fields)
