-- Each part begins in a sound configuration, and leads to the next.
use Rattle.std.proofs.Common.{◌∙◌, Some, arith, refl, subst, sym}
use Rattle.gh_schedules.specs.Items.{parts}
use Rattle.gh_schedules.specs.Trace.{after_all}
use Rattle.gh_items.specs.Stands.{Stands, with_call}
use Rattle.gh_items.proofs.RevokeLemmas.{parts_later, parts_none, parts_sound}
use Rattle.gh_items.proofs.parts.make_parts.Goals as goal

pub loop-made-init : goal.loop-made-init
loop-made-init g c = record {
  stands = subst (Stands (with_call c.args.progress.now c.args.cpu.0 (Some c.args.call.now))) (sym (parts_none c.args.cpu.0 g.conf)) c.requires.0;
  marks = refl;
}

pub part-requires-clause-stands : goal.part-requires-clause-stands
part-requires-clause-stands g c = record {
  conf = after_all g.conf (parts c.args.cpu.0 c.loop-made.made g.conf);
  stands = c.loop-made.invariant.stands;
  sound = parts_sound c.args.cpu.0 c.loop-made.made c.args.count g.conf c.requires.1.0 (omega (arith, c.loop-made.auto.made-end)) c.requires.1.1.1.1;
}

pub loop-made-preserved : goal.loop-made-preserved
loop-made-preserved g c = record {
  stands = subst (Stands (with_call c.part.new.progress c.args.cpu.0 (Some c.args.call.now)))
      (sym (parts_later c.args.cpu.0 c.loop-made.made g.conf))
      (c.in_ok-part.ensures.stands (after_all g.conf (parts c.args.cpu.0 c.loop-made.made g.conf)) c.loop-made.invariant.stands
      (parts_sound c.args.cpu.0 c.loop-made.made c.args.count g.conf c.requires.1.0 (omega (arith, c.loop-made.auto.made-end)) c.requires.1.1.1.1));
  marks = c.in_ok-part.ensures.marks ∙ c.loop-made.invariant.marks;
}
