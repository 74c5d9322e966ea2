-- The next CPU has its seat behind the others.
use Rattle.std.proofs.Common.{◌∙◌, [], ◌∷◌, ◌++◌, arith, sym}
use Rattle.std.proofs.lemmas.List.FromFn.{map-range_with_len_more}
use Rattle.gh_items.specs.Beginning.{new_seat}
use Rattle.gh_items.proofs.beginning.new_seats.Goals as goal

pub loop-cpu-preserved : goal.loop-cpu-preserved
loop-cpu-preserved c =
    c.in_ok-push.ensures.ok ∙ (λ i. c.loop-cpu.invariant i ++ c.new_seat.ensures i ∷ [])
    ∙ sym (map-range_with_len_more (new_seat c.args.boot.now) 0 c.loop-cpu.cpu c.loop-cpu.cpu (omega arith))
