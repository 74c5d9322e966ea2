-- The address space's body is changed, and without memory put back as it was.
use Rattle.std.proofs.Common.{◌∙◌, List, ap, refl, sym, subst}
use Rattle.std.proofs.lemmas.Result.{on_err_weaker, on_ok_weaker}
use Rattle.gh_parts.specs.MappingChanges.{Maps, Remaps}
use Rattle.gh_parts.specs.Shares.{body_at, with_body}
use Rattle.gh_parts.specs.Stands.{extent_rows, page_holders, span_row_of}
use Rattle.gh_parts.specs.declared.body.Body.{Body}
use Rattle.gh_parts.specs.declared.body.Body.TheVariants.{Nothing}
use Rattle.gh_parts.specs.declared.shares.Place.{Place}
use Rattle.gh_parts.proofs.BodyLemmas.{changed_shares}
use Rattle.gh_parts.proofs.IndexLemmas.{found_at}
use Rattle.gh_parts.proofs.SharesLemmas.{body_same, body_twice}
use Rattle.gh_parts.proofs.parts.Parts.map.Goals as goal

pub returns-in-Some-clause-ok : goal.returns-in-Some-clause-ok
returns-in-Some-clause-ok c =
    on_ok_weaker c.map_body-answer.result
    (λ so. record {
      body = c.map_body-answer.new.body;
      so =
          subst (λ (body : Body). Remaps (Maps (span_row_of (extent_rows c.args.self.now.journal.memory)) (page_holders c.args.self.now.journal.memory) c.args.row)
          body c.map_body-answer.new.body)
          (c.take-body.ensures.before
          ∙ ap (body_at c.args.self.now.shares) (sym (found_at c.args.self.now.table.headers c.args.row.space.0 c.in-Some.index (sym c.in-Some.ensures.found))))
          so;
      parts =
          ap (λ (shares : List (List Place)). record (c.args.self.now) { shares = shares })
          (sym (changed_shares c.args.self.now.table.headers c.args.self.now.shares c.args.row.space.0 c.in-Some.index
          (λ body. c.map_body-answer.new.body) _ _ _ _ c.in-Some.ensures.found c.take-body.ensures.before c.take-body.ensures.taken
          refl c.put.ensures));
    })
    c.map_body-answer.ensures.ok

pub returns-in-Some-clause-err : goal.returns-in-Some-clause-err
returns-in-Some-clause-err c =
    on_err_weaker c.map_body-answer.result
    (λ same. ap (λ (shares : List (List Place)). record (c.args.self.now) { shares = shares })
    (c.put.ensures
    ∙ ap (λ (shares : List (List Place)). with_body shares c.in-Some.index.0 c.map_body-answer.new.body) c.take-body.ensures.taken
    ∙ body_twice c.args.self.now.shares c.in-Some.index.0 Nothing c.map_body-answer.new.body
    ∙ ap (with_body c.args.self.now.shares c.in-Some.index.0) (same ∙ c.take-body.ensures.before)
    ∙ body_same c.args.self.now.shares c.in-Some.index.0))
    c.map_body-answer.ensures.err
