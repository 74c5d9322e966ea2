-- The VM's link names its request queue.
use Rattle.std.proofs.Common.{◌≡◌, ◌∙◌, Option, Some, None, ap, find, sym}
use Rattle.gh_model.specs.ManagerCalls.{has_requests, is_link_for}
use Rattle.gh_model.specs.declared.rows.LinkRow.{LinkRow}
use Rattle.gh_parts.proofs.parts.Parts.vm_requests.Goals as goal

pub returns-in-None : goal.returns-in-None
returns-in-None c = λ s stands.
    let found : None ≡ find (is_link_for c.args.vm) s.links =
    sym c.in-None.is ∙ c.link_of.ensures ∙ ap (find (is_link_for c.args.vm)) (c.as_slice.ensures ∙ stands.numbers.links) in
    ap (λ (link : Option LinkRow). has_requests s link) found

pub returns-in-Some : goal.returns-in-Some
returns-in-Some c = λ s stands.
    let found : Some c.in-Some.link ≡ find (is_link_for c.args.vm) s.links =
    sym c.in-Some.is ∙ c.link_of.ensures ∙ ap (find (is_link_for c.args.vm)) (c.as_slice.ensures ∙ stands.numbers.links) in
    c.has_messages.ensures s stands ∙ ap (λ (link : Option LinkRow). has_requests s link) found
