-- The tables of the boot, in which nothing was written.
use Rattle.std.proofs.Common.{◌∙◌, ap, map, refl}
use Rattle.gh_model.specs.declared.state.State.{State}
use Rattle.gh_core.specs.Booted.{placed}
use Rattle.gh_core.proofs.BootTables.{new_begins, new_kept}
use Rattle.gh_core.proofs.config.Config.boot.Goals as goal

pub invariant_of-result : goal.invariant_of-result
invariant_of-result c = new_kept _ c.args.boot.now c.lines-lines.ensures.fits (record {
  boot = c.in_ok-boot.ensures;
  log = c.new.ensures;
  first = c.in_ok-first.ensures ∙ ap (λ (s : State). map (placed s) s.objects) (c.state.ensures.state ∙ c.in_ok-plain.ensures);
  given = c.new-2.ensures;
  caps = c.new-3.ensures;
  counts = c.new-4.ensures;
  dead = c.new-5.ensures;
  counters = c.new-6.ensures;
  turn = refl;
  seats = c.in_ok-seats.ensures;
})

pub returns : goal.returns
returns c = new_begins _ c.args.boot.now (record {
  boot = c.in_ok-boot.ensures;
  log = c.new.ensures;
  first = c.in_ok-first.ensures ∙ ap (λ (s : State). map (placed s) s.objects) (c.state.ensures.state ∙ c.in_ok-plain.ensures);
  given = c.new-2.ensures;
  caps = c.new-3.ensures;
  counts = c.new-4.ensures;
  dead = c.new-5.ensures;
  counters = c.new-6.ensures;
  turn = refl;
  seats = c.in_ok-seats.ensures;
})
