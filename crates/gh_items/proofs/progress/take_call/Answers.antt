-- The call is gone, and is there again once it is put back.
use Rattle.std.proofs.Common.{◌∙◌, List, Option, Some, ap, get_or, slice_set, sym}
use Rattle.std.proofs.lemmas.Option.{slice_get-get_or}
use Rattle.gh_core.specs.declared.current.CurrentCall.{CurrentCall}
use Rattle.gh_items.specs.declared.progress.Progress.{Progress}
use Rattle.gh_items.proofs.SeatLemmas.{set_back}
use Rattle.gh_items.proofs.progress.take_call.Goals as goal
use Rattle.gh_model.proofs.RowLemmas.{refilled_set}

abbrev Calls : Type 0
Calls = List (Option CurrentCall)

abbrev with_calls : Progress → Calls → Progress
with_calls progress calls = record progress { calls = calls }

pub returns-clause-taken : goal.returns-clause-taken
returns-clause-taken c =
    ap (with_calls c.args.progress.now)
    (refilled_set c.args.progress.now.calls c.as_mut_slice.result.now c.args.cpu.0 c.take.new.self c.as_mut_slice.ensures.value
    ∙ ap (slice_set c.args.progress.now.calls c.args.cpu.0) c.take.ensures.after)

pub returns-clause-back : goal.returns-clause-back
returns-clause-back c =
    ap (with_calls c.args.progress.now)
    (set_back c.args.progress.now.calls c.args.cpu.0 c.take.result c.take.new.self
    (slice_get-get_or c.args.progress.now.calls c.args.cpu.0 c.index-as_mut_slice-cpu.result c.requires
    ∙ ap (λ (call : Option CurrentCall). Some call)
    (ap (λ (calls : Calls). get_or calls c.args.cpu.0 c.index-as_mut_slice-cpu.result) (sym c.as_mut_slice.ensures.value) ∙ sym c.take.ensures.value))
    ∙ ap (λ (calls : Calls). slice_set calls c.args.cpu.0 c.take.result)
    (sym (refilled_set c.args.progress.now.calls c.as_mut_slice.result.now c.args.cpu.0 c.take.new.self c.as_mut_slice.ensures.value)))
