-- Where the object isn't found nothing changes.
use Rattle.std.proofs.Common.{List, ap, sym}
use Rattle.gh_parts.specs.declared.shares.Place.{Place}
use Rattle.gh_parts.proofs.PlaceLemmas.{unfound_cost}
use Rattle.gh_parts.proofs.parts.Parts.set_cost.Goals as goal

pub returns-in_default : goal.returns-in_default
returns-in_default c =
    ap (λ (shares : List (List Place)). record (c.args.self.now) { shares = shares })
    (sym (unfound_cost c.args.self.now.table.headers c.args.self.now.shares c.args.object.0 c.args.cost
    c.requires.indexed c.requires.whole c.in_default.ensures.found))
