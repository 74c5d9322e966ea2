-- The law is the lemma.
use Rattle.gh_events.proofs.HolderCalls.{kill_keeps_calls, owe_keeps_calls, revive_keeps_calls, scan_keeps_calls, settle_keeps_calls}
use Rattle.gh_events.proofs.calls.words_keep_calls.Goals as goal

pub returns-clause-owe : goal.returns-clause-owe
returns-clause-owe c = λ conf cpu object sound may. owe_keeps_calls conf object.0 sound

pub returns-clause-settle : goal.returns-clause-settle
returns-clause-settle c = λ conf cpu object sound may. settle_keeps_calls conf object.0 sound

pub returns-clause-kill : goal.returns-clause-kill
returns-clause-kill c = λ conf cpu object sound may. kill_keeps_calls conf object.0 sound

pub returns-clause-scan : goal.returns-clause-scan
returns-clause-scan c = λ conf cpu of_cpu sound may. scan_keeps_calls conf of_cpu.0 sound

pub returns-clause-revive : goal.returns-clause-revive
returns-clause-revive c = λ conf cpu object count sound may. revive_keeps_calls conf cpu.0 object.0 count sound may
