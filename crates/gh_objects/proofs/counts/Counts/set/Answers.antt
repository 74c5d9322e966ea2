-- The serials that the old object lists are replaced by those of the new one.
use Rattle.std.proofs.Common.{◌<◌, length, sym, ap, ◌∙◌, arith}
use Rattle.gh_objects.specs.Counts.{doomed_serial, retired_serial, count_at}
use Rattle.gh_objects.proofs.CountsLemmas.{listed, room, AreListed-set}
use Rattle.gh_objects.proofs.counts.Counts.set.Goals as goal

pub relist-requires : goal.relist-requires
relist-requires c =
    let counts = c.self.inside.counts.items in
    let within : c.args.index < length counts = omega (arith, c.self.invariant.indices, c.requires) in
    let old = c.get-old.ensures.count ∙ ap (λ os. count_at os c.args.index) (sym c.self.view_is) in
    let serial = c.doomed_serial.ensures ∙ ap doomed_serial old in
    record {
      listed = listed doomed_serial counts c.args.index _ _ within c.self.invariant.doomed_listed serial;
      room = omega (arith, c.self.invariant.indices, room doomed_serial counts c.args.index _ _ within c.self.invariant.doomed_listed serial);
    }

pub relist-requires-2 : goal.relist-requires-2
relist-requires-2 c =
    let counts = c.self.inside.counts.items in
    let within : c.args.index < length counts = omega (arith, c.self.invariant.indices, c.requires) in
    let old = c.get-old.ensures.count ∙ ap (λ os. count_at os c.args.index) (sym c.self.view_is) in
    let serial = c.retired_serial.ensures ∙ ap retired_serial old in
    record {
      listed = listed retired_serial counts c.args.index _ _ within c.self.invariant.retired_listed serial;
      room = omega (arith, c.self.invariant.indices, room retired_serial counts c.args.index _ _ within c.self.invariant.retired_listed serial);
    }

pub invariant_of-self : goal.invariant_of-self
invariant_of-self c =
    let old = c.get-old.ensures.count ∙ ap (λ os. count_at os c.args.index) (sym c.self.view_is) in
    AreListed-set _ _ _ _ _ c.args.index c.args.count c.self.invariant c.requires
    (rw (c.doomed_serial.ensures, old, c.doomed_serial-2.ensures) at c.relist.ensures)
    (rw (c.retired_serial.ensures, old, c.retired_serial-2.ensures) at c.relist-2.ensures)
