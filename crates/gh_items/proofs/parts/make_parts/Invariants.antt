-- Each part begins where the parts before it led, and no call ends.
use Rattle.std.proofs.Common.{◌≡◌, Some}
use Rattle.gh_schedules.specs.Items.{parts}
use Rattle.gh_schedules.specs.Trace.{after_all}
use Rattle.gh_items.specs.Stands.{Stands, with_call}
use Rattle.gh_items.proofs.parts.make_parts.Given as goal

abbrev pub invariant-loop-made : goal.invariant-loop-made
invariant-loop-made g l = record {
  stands : Stands (with_call l.progress l.cpu.0 (Some l.call)) (after_all g.conf (parts l.cpu.0 l.made g.conf));
  marks : l.progress.marks ≡ l.initial.progress.marks;
}
