-- The progress stands as before where the turn is taken.
use Rattle.std.proofs.Common.{◌∙◌, sym}
use Rattle.gh_items.proofs.CallingLemmas.{stands_taken}
use Rattle.gh_items.proofs.act_item.act_item.Goals as goal

pub swept_act-requires : goal.swept_act-requires
swept_act-requires g c = (
  stands_taken c.args.progress.now g.conf c.args.cpu.0 c.args.call.now c.requires.0 c.requires.1.0 c.requires.1.1,
  (c.requires.1.0, sym c.sweeps.ensures ∙ c.if-sweeps.true),
)

pub unswept_act-requires : goal.unswept_act-requires
unswept_act-requires g c = (
  stands_taken c.args.progress.now g.conf c.args.cpu.0 c.args.call.now c.requires.0 c.requires.1.0 c.requires.1.1,
  (c.requires.1.0, sym c.sweeps.ensures ∙ c.if-sweeps.false),
)
