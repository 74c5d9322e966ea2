-- The item leads to the configuration behind it.
use Rattle.gh_items.proofs.SeatLemmas.{if_ok}
use Rattle.worked_items.proofs.WalkLemmas.{item_goes_on}
use Rattle.worked_items.proofs.walk.make.Goals as goal

pub returns : goal.returns
returns g c =
    if_ok c.next_item.result
    (λ stands. record { stands = stands; steady = item_goes_on g.conf c.args.cpu.0 c.requires.0.steady c.requires.1 })
    c.next_item.ensures.stands
