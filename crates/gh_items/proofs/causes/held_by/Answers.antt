-- An object without references that isn't retired is held by its pins, and a retired one by a CPU.
use Rattle.std.proofs.Common.{◌∙◌, List, ℕ, ap, option_map, slice_get, sym}
use Rattle.gh_events.specs.TurnEvents.{first_reader, reading}
use Rattle.gh_items.proofs.CauseLemmas.{pins_hold}
use Rattle.gh_items.proofs.causes.held_by.Goals as goal
use Rattle.gh_schedules.specs.Causes.{count_of, counters_now, held_by}

pub returns-in-None : goal.returns-in-None
returns-in-None g c =
    pins_hold g.conf c.args.row.now c.pins_of.result c.in-None.is c.requires.1.1.1.1
    (λ doomed. c.pins_of.ensures.counts g.conf c.requires.0 c.requires.1.1.1.0 c.requires.1.0 doomed)

pub returns-in-Some : goal.returns-in-Some
returns-in-Some g c =
    c.reading.ensures
    ∙ ap (λ (now : List ℕ). option_map (reading c.args.row.now) (first_reader (slice_get now) 0 c.in-Some.seen)) c.requires.1.1.0
    ∙ sym (ap (held_by (counters_now g.conf) (count_of g.conf c.args.row.now.serial.0) c.args.row.now) c.in-Some.is)
