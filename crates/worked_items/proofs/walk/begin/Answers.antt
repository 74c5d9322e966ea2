-- The begin of the call leads to the configuration behind it.
use Rattle.std.proofs.Common.{subst}
use Rattle.gh_base.specs.declared.frame.Frame.{Frame}
use Rattle.gh_items.specs.Calling.{begun}
use Rattle.gh_items.specs.Stands.{Stands}
use Rattle.worked_items.specs.Walk.{frame_of}
use Rattle.worked_items.proofs.WalkLemmas.{begin_goes_on}
use Rattle.worked_items.proofs.walk.begin.Goals as goal

pub returns : goal.returns
returns g c = λ _. record {
  stands = subst (λ (frame : Frame). Stands c.begin_call.new.progress (begun g.conf c.args.cpu.0 frame)) c.frame_of.ensures c.in_ok-begin_call.ensures.stands;
  steady = begin_goes_on g.conf c.args.cpu.0 (frame_of c.args.x) c.requires.0.steady c.requires.1 (c.may_begin.ensures c.if-not-may_begin.false);
}
