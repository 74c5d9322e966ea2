-- There are few objects, and so many rounds are the sweep.
use Rattle.std.proofs.Common.{◌≡◌, ◌+◌, ◌*◌, ◌∙◌, ap, arith, length}
use Rattle.gh_model.specs.declared.state.State.{State}
use Rattle.gh_items.proofs.SeatLemmas.{if_ok}
use Rattle.gh_items.proofs.SweepLemmas.{objects_few, sweep_stands, sweeps_at}
use Rattle.gh_items.proofs.sweep.sweep.Goals as goal

pub overflow_mul-objects : goal.overflow_mul-objects
overflow_mul-objects g c =
    let are : c.len-objects.result ≡ length c.args.progress.now.plain.objects = c.len-objects.ensures ∙ ap (λ (s : State). length s.objects) c.state.ensures.state in
    omega (arith, are, objects_few c.args.progress.now c.args.cpu.0 c.args.call.now g.conf c.requires.0 c.requires.1.0)

pub overflow_add-objects : goal.overflow_add-objects
overflow_add-objects g c =
    let are : c.len-objects.result ≡ length c.args.progress.now.plain.objects = c.len-objects.ensures ∙ ap (λ (s : State). length s.objects) c.state.ensures.state in
    omega (arith, are, objects_few c.args.progress.now c.args.cpu.0 c.args.call.now g.conf c.requires.0 c.requires.1.0)

pub rounds-requires : goal.rounds-requires
rounds-requires g c =
    sweeps_at c.args.progress.now c.args.cpu.0 c.args.call.now g.conf c.requires.0 c.requires.1.0 c.requires.1.1.0 c.requires.1.1.1.1

pub returns-clause-stands : goal.returns-clause-stands
returns-clause-stands g c =
    let are : c.len-objects.result ≡ length c.args.progress.now.plain.objects = c.len-objects.ensures ∙ ap (λ (s : State). length s.objects) c.state.ensures.state in
    if_ok c.rounds.result
    (sweep_stands c.args.progress.now c.args.cpu.0 c.args.call.now g.conf c.requires.0 c.requires.1.0 c.rounds.new.progress (2 * c.len-objects.result + 1)
    (let all : 2 * c.len-objects.result + 1 ≡ 2 * length c.args.progress.now.plain.objects + 1 = omega (arith, are) in all))
    c.rounds.ensures.stands
