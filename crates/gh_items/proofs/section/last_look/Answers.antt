-- The last look is the one that a fold ends with.
use Rattle.std.proofs.Common.{◌∙◌, List, ap, length, slice_get}
use Rattle.std.proofs.Common.{◌-◌}
use Rattle.gh_core.specs.declared.current.SeenLook.{SeenLook}
use Rattle.gh_items.proofs.SeatLemmas.{last_get}
use Rattle.gh_items.proofs.section.last_look.Goals as goal

pub returns : goal.returns
returns c =
    c.copied.ensures ∙ c.last.ensures.value
    ∙ ap (λ (seen : List SeenLook). slice_get seen (length seen - 1)) c.as_slice.ensures
    ∙ last_get c.args.call.now.seen
