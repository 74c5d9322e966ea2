-- The call that is in progress is held where it is.
use Rattle.std.proofs.Common.{◌∙◌, ap, slice_get, sym}
use Rattle.gh_items.proofs.HeldLemmas.{found_goes, found_held, none_goes}
use Rattle.gh_items.proofs.section.section_item.Goals as goal
use Rattle.gh_items.specs.declared.progress.Progress.{Progress}

pub go_on-requires : goal.go_on-requires
go_on-requires g c = (
  found_held g.from c.args.progress.now c.args.cpu.0 c.requires.0 c.requires.1.0 c.requires.1.1.0 c.requires.1.1.1.0 c.requires.1.1.1.1.0 c.requires.1.1.1.1.1.0
      c.as_mut_slice.result.now _ c.as_mut_slice.ensures.value c.in-Some.call c.in-Some.is,
  (
    record {
      state = ap (λ (p : Progress). p.plain) c.requires.0;
      indices = c.as_slice.ensures ∙ ap (λ (p : Progress). p.places) c.requires.0;
      seated = sym (λ i. slice_get (c.requires.0 i).seats (c.requires.1.0 i)) ∙ c.seat_of-seat.ensures;
    },
    found_goes c.args.progress.now g.from.conf c.args.cpu.0 c.requires.1.1.0 c.requires.1.1.1.1.0 c.as_mut_slice.result.now _ c.as_mut_slice.ensures.value
        c.in-Some.call c.in-Some.is c.requires.1.1.1.1.1.1,
  ),
)

pub returns-in-None-clause-stands : goal.returns-in-None-clause-stands
returns-in-None-clause-stands g c =
    none_goes c.args.progress.now g.from.conf c.args.cpu.0 c.requires.1.1.0 c.requires.1.1.1.1.0 c.as_mut_slice.result.now _ c.as_mut_slice.ensures.value
    c.in-None.is c.requires.1.1.1.1.1.1
