-- The address space's body is changed, if there is one.
use Rattle.std.proofs.Common.{◌∙◌, List, ap, refl, sym, subst}
use Rattle.gh_parts.specs.MappingChanges.{Remaps, Unmaps}
use Rattle.gh_parts.specs.Shares.{body_at}
use Rattle.gh_parts.specs.declared.body.Body.{Body}
use Rattle.gh_parts.specs.declared.shares.Place.{Place}
use Rattle.gh_parts.proofs.BodyLemmas.{changed_shares}
use Rattle.gh_parts.proofs.IndexLemmas.{found_at}
use Rattle.gh_parts.proofs.parts.Parts.unmap.Goals as goal

pub returns-in-Some : goal.returns-in-Some
returns-in-Some c = record {
  body = c.unmapped.result;
  so =
      subst (λ (body : Body). Remaps (Unmaps c.args.row) body c.unmapped.result)
      (c.take-body.ensures.before
      ∙ ap (body_at c.args.self.now.shares) (sym (found_at c.args.self.now.table.headers c.args.row.space.0 c.in-Some.index (sym c.in-Some.ensures.found))))
      c.unmapped.ensures;
  parts =
      ap (λ (shares : List (List Place)). record (c.args.self.now) { shares = shares })
      (sym (changed_shares c.args.self.now.table.headers c.args.self.now.shares c.args.row.space.0 c.in-Some.index
      (λ body. c.unmapped.result) _ _ _ _ c.in-Some.ensures.found c.take-body.ensures.before c.take-body.ensures.taken
      refl c.put.ensures));
}
