use Rattle.std.proofs.Common.{◌+◌, rules, length}
use Rattle.gunyah.proofs.LoadLemmas.{ended_at, ended_behind}
use Rattle.gunyah.proofs.load.load_files.Goals as goal

pub returns-in_err-text-clause-asked : goal.returns-in_err-text-clause-asked
returns-in_err-text-clause-asked g c =
    ended_at c.from_residual-in_err-text.result c.in_err-text.field-0.0 (g.F.Files.contents c.args.files.now) _ _ _ c.args.names.now c.loop-name.name-index (length c.loop-name.texts + 1) _
    (search rules) c.loop-name-test.true (search rules) c.loop-name.invariant.asked c.loop-name.invariant.small c.in_err-text.ensures.asked (search rules)

pub returns-in_err-push-clause-asked : goal.returns-in_err-push-clause-asked
returns-in_err-push-clause-asked g c =
    ended_behind c.from_residual-in_err-push.result (g.F.Files.contents c.args.files.now) _ _ _ c.args.names.now c.loop-name.name-index _
    (search rules) c.loop-name-test.true c.loop-name.invariant.asked c.loop-name.invariant.small c.in_ok-text.ensures.asked
