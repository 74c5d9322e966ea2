-- An extent without a row has nothing to give back.
use Rattle.std.proofs.Common.{◌∙◌, Option, subst, sym}
use Rattle.std.specs.Option.{unwrap_or}
use Rattle.gh_base.specs.declared.ids.Serial.{Serial}
use Rattle.gh_parts.specs.Follows.{GivesBack}
use Rattle.gh_parts.specs.Slots.{no_serial}
use Rattle.gh_parts.proofs.ReturnLemmas.{none_returned}
use Rattle.gh_parts.proofs.parts.Parts.return_pages.Goals as goal

pub returns-in_default : goal.returns-in_default
returns-in_default c =
    subst (λ (parent : Option Serial). GivesBack c.args.extent.0 (unwrap_or parent no_serial) c.args.self.now c.args.self.now)
    (sym c.in_default.is)
    (none_returned c.args.self.now c.args.extent.0 c.requires.may.some c.requires.tree
    (sym c.in_default.is ∙ c.requires.told) c.requires.whole)
