-- The slots at the place that is found are the capability space's.
use Rattle.std.proofs.Common.{◌≡◌, ◌∙◌, Some, None, position, ap}
use Rattle.gh_parts.specs.Slots.{granted_in, is_home}
use Rattle.gh_parts.proofs.SlotLemmas.{granted_home, granted_none}
use Rattle.gh_parts.proofs.slots.granted.Goals as goal

pub returns-in-None : goal.returns-in-None
returns-in-None c =
    let none : position (is_home c.args.cspace.0) c.args.all.now ≡ None = cc in
    granted_none c.args.all.now c.args.cspace.0 c.args.slot none

pub returns-in-Some : goal.returns-in-Some
returns-in-Some c =
    let found : position (is_home c.args.cspace.0) c.args.all.now ≡ Some c.in-Some.at = cc in
    c.granted.ensures ∙ ap (granted_in c.args.slot) c.index-all-at.is ∙ granted_home c.args.all.now c.args.cspace.0 c.args.slot c.in-Some.at c.index-all-at.result found
