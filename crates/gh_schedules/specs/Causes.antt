-- What holds the objects behind a sweep, as the counters of the CPUs and the counts of the words
-- then are.
use Rattle.std.specs.Prelude.{ℕ, List, Option, Some, None, flat_map, map, option_map, slice_get}
use Rattle.gh_base.specs.declared.mark.Held.{Held}
use Rattle.gh_model.specs.Held.{held_rows}
use Rattle.gh_model.specs.declared.rows.ObjectRow.{ObjectRow}
use Rattle.gh_model.specs.declared.state.State.{State}
use Rattle.gh_events.specs.Config.{Config, present}
use Rattle.gh_events.specs.TurnEvents.{as_list, first_reader, pins_of, reading}
use Rattle.gh_schedules.specs.Sweep.{all_cpus}

-- what holds an object, by the counters that CPUs have and the count of its word: the first CPU
-- that still has its odd counter of the retirement, or else the pins
abbrev pub held_by : List ℕ → ℕ → ObjectRow → Option (List ℕ) → Option Held
held_by now count row None = Some (pins_of row count)
held_by now count row (Some seen) =
    option_map (reading row) (first_reader (slice_get now) 0 seen)

-- what holds each object that is retired or without references, by these counters and by the counts
-- of the words of objects
abbrev pub causes_by : List ℕ → (ℕ → ℕ) → State → List Held
causes_by now count s =
    flat_map (λ (row : ObjectRow). as_list (held_by now (count row.serial.0) row row.retired))
    (held_rows s)

-- the counters of all CPUs, and the count of an object's word, as they are
abbrev pub counters_now : Config → List ℕ
counters_now conf = map conf.counter all_cpus

abbrev pub count_of : Config → ℕ → ℕ
count_of conf serial = conf.count (conf.index serial)

-- what holds these objects now
abbrev pub causes_now : Config → List Held
causes_now conf = causes_by (counters_now conf) (count_of conf) (present conf)
