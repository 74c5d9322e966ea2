-- The capability space's slots alone are others.
use Rattle.std.proofs.Common.{◌≡◌, Some, List, position, subst, ap, ◌∙◌, sym, get_or}
use Rattle.gh_parts.specs.declared.slots.Slots.{Slots}
use Rattle.gh_base.specs.declared.cap_word.CapWord.{CapWord}
use Rattle.gh_parts.specs.Slots.{IsFilledSlot}
use Rattle.gh_model.proofs.RowLemmas.{row_changed}
use Rattle.gh_parts.specs.Slots.{emptied, is_home}
use Rattle.gh_parts.proofs.SlotLemmas.{words_at_home}
use Rattle.gh_parts.proofs.slots.empty_slot.Goals as goal

pub empty-requires : goal.empty-requires
empty-requires c =
    let found : position (is_home c.args.cspace.0) c.args.all.now ≡ Some c.in-Some.at = cc in
    subst (λ (words : List CapWord). IsFilledSlot words c.args.slot)
    (words_at_home c.args.all.now c.args.cspace.0 c.in-Some.at c.index-as_mut_slice-at.result found
    ∙ sym (ap (λ (all : List Slots). (get_or all c.in-Some.at c.index-as_mut_slice-at.result).words) c.as_mut_slice.ensures.value))
    c.requires

pub returns-in-Some : goal.returns-in-Some
returns-in-Some c =
    let found : position (is_home c.args.cspace.0) c.args.all.now ≡ Some c.in-Some.at = cc in
    row_changed (is_home c.args.cspace.0) (emptied c.args.slot c.args.entry) c.args.all.now _ c.in-Some.at _ _
    c.as_mut_slice.ensures.value found c.empty.ensures
