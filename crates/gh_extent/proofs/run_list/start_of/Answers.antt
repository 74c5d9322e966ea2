-- A run begins where the runs before it end.
use Rattle.std.proofs.Common.{◌≡◌, ◌-◌, suc, take, arith, sym, ap, ◌∙◌}
use Rattle.gh_extent.specs.Runs.{end_of}
use Rattle.gh_extent.proofs.RunLemmas.{end_of-take}
use Rattle.gh_extent.proofs.run_list.start_of.Goals as goal

pub returns-then-at-eq0 : goal.returns-then-at-eq0
unfolding end_of
returns-then-at-eq0 c = rw c.if-at-eq0.true

pub returns-else-at-eq0 : goal.returns-else-at-eq0
returns-else-at-eq0 c =
    let runs = c.args.runs.now in
    let at' = c.args.at in
    let place : at' ≡ suc (at' - 1) = omega arith in
    sym (end_of-take runs 0 (at' - 1) (record { end = 0; holder = record { 0 = 0 } }) (omega arith))
    ∙ ap (λ k. end_of 0 (take k runs)) (sym place)
