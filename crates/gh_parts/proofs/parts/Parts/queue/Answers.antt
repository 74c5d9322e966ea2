-- The queue's body shows its row.
use Rattle.std.proofs.Common.{◌∙◌, ap}
use Rattle.gh_parts.specs.QueueReads.{fill_in}
use Rattle.gh_parts.proofs.QueueReadLemmas.{fill_told}
use Rattle.gh_parts.specs.declared.body.Body.{Body}
use Rattle.gh_parts.proofs.ReadLemmas.{seen_told, seen_untold}
use Rattle.gh_parts.proofs.parts.Parts.queue.Goals as goal

pub returns-in-None : goal.returns-in-None
returns-in-None c = λ s stands.
    seen_untold c.args.self.now s stands (λ (body : Body). fill_in body) _ c.args.queue.0 (fill_told c.args.self.now s stands c.args.queue.0) c.in-None.ensures.found

pub returns-in-Some : goal.returns-in-Some
returns-in-Some c = λ s stands.
    c.fill_of.ensures ∙ ap (λ (body : Body). fill_in body) c.body.ensures
    ∙ seen_told c.args.self.now s stands (λ (body : Body). fill_in body) _ c.args.queue.0 c.in-Some.index (fill_told c.args.self.now s stands c.args.queue.0) c.in-Some.ensures.found
