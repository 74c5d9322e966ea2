-- The copy of the tables is what was copied, and behind a step they are those of its configuration.
use Rattle.std.proofs.Common.{◌∙◌, subst, sym}
use Rattle.gh_core.specs.Running.{IsKept}
use Rattle.gh_core.proofs.StepLemmas.{step_made, step_none}
use Rattle.gh_core.proofs.stepping.step.Goals as goal

pub step_tables-requires : goal.step_tables-requires
step_tables-requires c = subst IsKept (sym c.in_ok-running.ensures) c.running-tables.ensures.kept

pub returns-then-made : goal.returns-then-made
returns-then-made c = step_made c.args.event _ c.args.config.now _ _ _ (c.in_ok-running.ensures ∙ c.running-tables.ensures.same) c.of.ensures c.if-made.true c.in_ok-made.ensures.did

pub returns-else-made : goal.returns-else-made
returns-else-made c = step_none c.args.event _ c.args.config.now c.step_tables.new.running _ (c.in_ok-running.ensures ∙ c.running-tables.ensures.same) c.if-made.false c.in_ok-made.ensures.did
