-- The bell's body is changed with its row.
use Rattle.std.proofs.Common.{List, [], subst}
use Rattle.gh_model.specs.Changes.{set_bell}
use Rattle.gh_parts.specs.BodyChanges.{belled}
use Rattle.gh_parts.specs.Stands.{Stands}
use Rattle.gh_parts.specs.declared.shares.Place.{Place}
use Rattle.gh_parts.proofs.BodyLemmas.{changed_shares, unfound_shares}
use Rattle.gh_parts.proofs.StandsBells.{bell_stands}
use Rattle.gh_parts.proofs.parts.Parts.set_bell.Goals as goal

pub returns-in-Some : goal.returns-in-Some
returns-in-Some g c =
    subst (λ (shares : List (List Place)). Stands (record c.args.self.now { shares = shares }) (set_bell c.args.row g.s))
    (changed_shares c.args.self.now.table.headers c.args.self.now.shares c.args.row.serial.0 c.in-Some.index
    (belled c.args.row) _ _ _ _ c.in-Some.ensures.found c.take-body.ensures.before c.take-body.ensures.taken
    c.belled.ensures c.put.ensures)
    (bell_stands [] c.args.self.now g.s c.requires c.args.row)

pub returns-in_default : goal.returns-in_default
returns-in_default g c =
    subst (λ (shares : List (List Place)). Stands (record c.args.self.now { shares = shares }) (set_bell c.args.row g.s))
    (unfound_shares c.args.self.now.table.headers c.args.self.now.shares c.args.row.serial.0 _
    c.requires.objects.indexed c.requires.objects.whole c.in_default.ensures.found)
    (bell_stands [] c.args.self.now g.s c.requires c.args.row)
