-- Counters of CPUs and pins on objects, by the calls of a progress that stands for the configuration.
use Rattle.std.proofs.Common.{◌≡◌, ◌==◌, ◌+◌, ◌*◌, ◌-◌, ◌<◌, ◌≤◌, ◌∙◌, inl, inr, ℕ, zero, suc, Bool, true, false, List, [], ◌∷◌, length, map, take, refl, sym, ap, subst, arith, Option, Some, None, is_some, slice_get, slice_set, option_map, if◌then◌else◌}
use Rattle.std.specs.Prelude.{count_by}
use Rattle.std.specs.List.{last_or, range_with_len}
use Rattle.std.specs.Option.{option_map_or, unwrap_or}
use Rattle.std.proofs.lemmas.Bool.{eqb-true}
use Rattle.std.proofs.lemmas.Bool.Decides.{eqb_tells}
use Rattle.std.proofs.lemmas.List.{length-map, length-set, length-take, take-map}
use Rattle.std.proofs.lemmas.List.Sums.{count_by-le-length}
use Rattle.std.proofs.lemmas.Option.{slice_get-get_or}
use Rattle.std.proofs.Math.Seq.{take-length}
use Rattle.gh_base.specs.declared.limits.TheConstants.{CPUS}
use Rattle.gh_core.specs.Running.{current_of, seen_of, stage_of}
use Rattle.gh_core.specs.declared.current.CallStage.{CallStage}
use Rattle.gh_core.specs.declared.current.CallStage.TheVariants as stages
use Rattle.gh_core.specs.declared.current.CurrentCall.{CurrentCall}
use Rattle.gh_core.specs.declared.current.SeenLook.{SeenLook}
use Rattle.gh_events.specs.CallEvents.{pin_of_look}
use Rattle.gh_events.specs.Calls.{CurrentIs, pinned_looks, steps}
use Rattle.gh_events.specs.Config.{Config, Current, Holder, Pin, is_pin_at, pin_of, present}
use Rattle.gh_events.specs.References.{IsRow, dead_pin, owed_at, pin_at_stage, pins_at, pins_of, total}
use Rattle.gh_events.specs.Sound.{IsSound}
use Rattle.gh_events.proofs.Finding.{found_passes, same_number}
use Rattle.gh_invariant.proofs.Counting.{count_cons, found_one}
use Rattle.gh_items.specs.Stands.{SeatStands, index_in, noted_in}
use Rattle.gh_schedules.specs.Places.{places_of}
use Rattle.gh_items.specs.SweepReads.{IsMade, StandsWith, call_at, call_pins, call_steps, counter_at, is_look_at, pinned_count, seat_sections}
use Rattle.gh_items.specs.declared.progress.Progress.{Progress}
use Rattle.gh_items.specs.declared.progress.Seat.{Seat}
use Rattle.gh_items.proofs.LookLemmas.{index_is}
use Rattle.gh_items.proofs.SeatLemmas.{set_here, set_other}
use Rattle.gh_model.specs.Marks.{Seen, cspace_of, has_looks}
use Rattle.gh_model.specs.References.{is_doomed, references}
use Rattle.gh_model.specs.Rows.{is_object, object_row}
use Rattle.gh_model.specs.declared.rows.ObjectRow.{ObjectRow}
use Rattle.gh_schedules.specs.Sweep.{HasNotBegun, all_cpus}

-- numbers from a place on that are the same one by one
pub mapped_same : (f g : ℕ → ℕ) (bound count from : ℕ) → from + count ≤ bound → ((n : ℕ) → n < bound → f n ≡ g n)
    → map f (range_with_len from count) ≡ map g (range_with_len from count)
mapped_same f g bound zero from few same = refl
mapped_same f g bound (suc count) from few same =
    rw (same from (omega (arith, few))) (ap (λ (others : List ℕ). g from ∷ others) (mapped_same f g bound count (from + 1) (omega (arith, few)) same))

-- so are their sums
pub total_below : (k : ℕ) (f g : ℕ → ℕ) → ((n : ℕ) → n < k → f n ≡ g n) → total k f ≡ total k g
unfolding total
total_below zero f g same = refl
total_below (suc k) f g same = omega (arith, total_below k f g (λ n few. same n (omega (arith, few))), same k (omega arith))

pub total_later : (k : ℕ) (f : ℕ → ℕ) → total (k + 1) f ≡ total k f + f k
unfolding total
total_later k f = let same : k + 1 ≡ suc k = omega arith in ap (λ (n : ℕ). total n f) same

pub total_start : (f : ℕ → ℕ) → total 0 f ≡ 0
unfolding total
total_start f = refl

-- what a mapped list counts
count_mapped : {A B : Type 0} (p : B → Bool) (f : A → B) (xs : List A) → count_by p (map f xs) ≡ count_by (λ (a : A). p (f a)) xs
count_mapped p f [] = refl
count_mapped p f (x ∷ xs) = omega (arith, count_cons p (f x) (map f xs), count_cons (λ (a : _). p (f a)) x xs, count_mapped p f xs)

-- a call has no more pins than looks
pinned_few : (stage : CallStage) (count : ℕ) → pinned_count stage count ≤ count
pinned_few stages.Reading count = omega arith
pinned_few stages.Looked count = omega arith
pinned_few stages.DeadPin count = omega arith
pinned_few stages.Undone count = omega arith
pinned_few stages.Failed count = omega arith
pinned_few stages.AtAct count = omega arith

pub call_few : (index : ℕ) (call : CurrentCall) → call_pins index (Some call) ≤ length call.seen
call_few index call =
    omega (
      arith,
      count_by-le-length (is_look_at index) (take (pinned_count call.stage (length call.seen)) call.seen),
      length-take (pinned_count call.stage (length call.seen)) call.seen,
      pinned_few call.stage (length call.seen),
    )

-- an item that there is
get_there : {X : Type 0} (xs : List X) (at : ℕ) (d : X) → at < length xs → slice_get xs at ≡ Some (unwrap_or (slice_get xs at) d)
get_there xs at d few =
    slice_get-get_or xs at d few ∙ sym (ap (λ (one : Option _). Some (unwrap_or one d)) (slice_get-get_or xs at d few))

-- pins of a call

module _ (index : ℕ) where
  abbrev seen_pins : List Seen → ℕ
  seen_pins seen = count_by (is_pin_at index) (map pin_of seen)

  -- the looks at an index are the pins of these looks
  look_pins : (seen : List SeenLook) → count_by (is_look_at index) seen ≡ seen_pins (map seen_of seen)
  look_pins seen =
      sym (count_mapped (is_pin_at index) pin_of (map seen_of seen) ∙ count_mapped (λ (one : Seen). is_pin_at index (pin_of one)) seen_of seen)

  front_pins : (count : ℕ) (seen : List SeenLook) → count_by (is_look_at index) (take count seen) ≡ seen_pins (take count (map seen_of seen))
  front_pins count seen = look_pins (take count seen) ∙ ap seen_pins (sym (take-map seen_of count seen))

  -- the last look has its pin beside those of the others
  last_pins : (seen : List Seen) → seen_pins seen ≡ seen_pins (take (length seen - 1) seen) + count_by (is_pin_at index) (pin_of_look (last_or None seen))
  last_pins [] = refl
  last_pins (one ∷ []) =
      let none : length (one ∷ []) - 1 ≡ 0 = omega arith in
      let front : seen_pins (take (length (one ∷ []) - 1) (one ∷ [])) ≡ 0 = ap (λ (n : ℕ). seen_pins (take n (one ∷ []))) none in
      omega (arith, front)
  last_pins (one ∷ next ∷ seen) =
      let fewer : length (one ∷ next ∷ seen) - 1 ≡ suc (length seen) = omega arith in
      let least : length (next ∷ seen) - 1 ≡ length seen = omega arith in
      let front : seen_pins (take (length (one ∷ next ∷ seen) - 1) (one ∷ next ∷ seen)) ≡ seen_pins (one ∷ take (length seen) (next ∷ seen)) =
      ap (λ (n : ℕ). seen_pins (take n (one ∷ next ∷ seen))) fewer in
      let rest : seen_pins (take (length (next ∷ seen) - 1) (next ∷ seen)) ≡ seen_pins (take (length seen) (next ∷ seen)) =
      ap (λ (n : ℕ). seen_pins (take n (next ∷ seen))) least in
      omega (
        arith,
        front,
        rest,
        last_pins (next ∷ seen),
        count_cons (is_pin_at index) (pin_of one) (map pin_of (next ∷ seen)),
        count_cons (is_pin_at index) (pin_of one) (map pin_of (take (length seen) (next ∷ seen))),
      )

  abbrev StagePins : CallStage → List SeenLook → Type 0
  StagePins stage seen =
      count_by (is_look_at index) (take (pinned_count stage (length seen)) seen)
      ≡ count_by (is_pin_at index) (map pin_of (pinned_looks (stage_of stage) (map seen_of seen)))
      + count_by (is_pin_at index) (pin_at_stage (stage_of stage) (map seen_of seen))

  all_pins : (seen : List SeenLook) → count_by (is_look_at index) (take (length seen) seen) ≡ seen_pins (map seen_of seen)
  all_pins seen = ap (count_by (is_look_at index)) (take-length seen) ∙ look_pins seen

  none_more : (n : ℕ) → n ≡ n + 0
  none_more n = omega arith

  but_one : (seen : List SeenLook)
      → count_by (is_look_at index) (take (length seen - 1) seen) ≡ seen_pins (take (length (map seen_of seen) - 1) (map seen_of seen)) + 0
  but_one seen =
      front_pins (length seen - 1) seen
      ∙ ap (λ (n : ℕ). seen_pins (take (n - 1) (map seen_of seen))) (sym (length-map seen seen_of))
      ∙ none_more (seen_pins (take (length (map seen_of seen) - 1) (map seen_of seen)))

  stage_pins : (stage : CallStage) (seen : List SeenLook) → StagePins stage seen
  stage_pins stages.Reading seen = all_pins seen ∙ none_more (seen_pins (map seen_of seen))
  stage_pins stages.Looked seen = but_one seen
  stage_pins stages.DeadPin seen = all_pins seen ∙ last_pins (map seen_of seen)
  stage_pins stages.Undone seen = but_one seen
  stage_pins stages.Failed seen = but_one seen
  stage_pins stages.AtAct seen = all_pins seen ∙ none_more (seen_pins (map seen_of seen))

-- CPUs

module _ (progress : Progress) (cpu : ℕ) (call : CurrentCall) (conf : Config) (there : StandsWith progress cpu call conf) where
  abbrev one_at : ℕ → Option CurrentCall
  one_at at = call_at progress cpu call at

  calls_nine : length progress.calls ≡ CPUS
  calls_nine = sym (length-set progress.calls cpu (Some call)) ∙ there.stands.nine_calls

  call_is : (at : ℕ) → at < CPUS → slice_get (slice_set progress.calls cpu (Some call)) at ≡ Some (one_at at)
  call_is at few = by_same (at == cpu) refl
    where
      by_same : (same : Bool) → (at == cpu) ≡ same
          → slice_get (slice_set progress.calls cpu (Some call)) at ≡ Some (if same then Some call else unwrap_or (slice_get progress.calls at) None)
      by_same true same =
          let is : at ≡ cpu = eqb-true at cpu same in
          ap (slice_get (slice_set progress.calls cpu (Some call))) is ∙ set_here progress.calls cpu (Some call) (omega (arith, is, few, calls_nine))
      by_same false differs =
          set_other progress.calls cpu at (Some call)
          (λ is. let yes : (at == cpu) ≡ true = subst (λ (n : ℕ). (at == n) ≡ true) is (same_number at) in let never : ⊥ = cc in never)
          ∙ get_there progress.calls at None (omega (arith, few, calls_nine))

  abbrev some_seat : Seat
  some_seat = record { cpu = record { 0 = 0 }; cspace = record { 0 = 0 }; calls = 0; sections = 0; place = 0; ended = false }

  abbrev its_seat : ℕ → Seat
  its_seat at = unwrap_or (slice_get progress.seats at) some_seat

  seat_there : (at : ℕ) → at < CPUS → slice_get progress.seats at ≡ Some (its_seat at)
  seat_there at few = get_there progress.seats at some_seat (omega (arith, few, there.stands.nine_seats))

  stands_at : (at : ℕ) → at < CPUS → SeatStands at (cspace_of conf.boot at) progress.marks (its_seat at) (one_at at) (conf.cpu at)
  stands_at at few = there.stands.seats at (its_seat at) (one_at at) (seat_there at few) (call_is at few)

  -- counters

  steps_are : (one : Option CurrentCall) → call_steps one ≡ steps (option_map current_of one)
  steps_are None = refl
  steps_are (Some call) = refl

  pub counter_is : (at : ℕ) → at < CPUS → counter_at progress cpu call at ≡ conf.counter at
  counter_is at few =
      ap (λ (found : Option Seat). 2 * option_map_or seat_sections found 0 + call_steps (one_at at)) (seat_there at few)
      ∙ ap (λ (n : ℕ). 2 * n + call_steps (one_at at)) (stands_at at few).sections
      ∙ ap (λ (n : ℕ). 2 * count_by has_looks (conf.cpu at).made + n) (steps_are (one_at at) ∙ ap steps (sym (stands_at at few).current))
      ∙ sym (there.sound.calls.counters at)

  pub counters_are : map (counter_at progress cpu call) all_cpus ≡ map conf.counter all_cpus
  counters_are = mapped_same (counter_at progress cpu call) conf.counter CPUS CPUS 0 (omega arith) counter_is

  -- pins

  cpu_pins : (index at : ℕ) → at < CPUS → call_pins index (one_at at) ≡ pins_of (conf.cpu at) index
  cpu_pins index at few = by_call (one_at at) refl
    where
      by_call : (one : Option CurrentCall) → one_at at ≡ one → call_pins index one ≡ pins_of (conf.cpu at) index
      by_call None is =
          let none : (conf.cpu at).current ≡ None = (stands_at at few).current ∙ ap (option_map current_of) is in
          let dropped : (conf.cpu at).pins ≡ [] = (stands_at at few).dropped is in
          sym (ap (λ (pins : List Pin). count_by (is_pin_at index) pins + count_by (is_pin_at index) (dead_pin (conf.cpu at).current)) dropped
          ∙ ap (λ (c : Option Current). count_by (is_pin_at index) [] + count_by (is_pin_at index) (dead_pin c)) none)
      by_call (Some one) is =
          let now : (conf.cpu at).current ≡ Some (current_of one) = (stands_at at few).current ∙ ap (option_map current_of) is in
          let its : CurrentIs conf.boot conf.history conf.index conf.dead at (conf.cpu at) (current_of one) =
          (there.sound.calls.calls at).current (current_of one) now in
          stage_pins index one.stage one.seen
          ∙ sym (ap (λ (pins : List Pin). count_by (is_pin_at index) pins + count_by (is_pin_at index) (dead_pin (conf.cpu at).current)) its.pinned
          ∙ ap (λ (c : Option Current). count_by (is_pin_at index) (map pin_of (pinned_looks (stage_of one.stage) (map seen_of one.seen))) + count_by (is_pin_at index) (dead_pin c)) now)

  pub pins_are : (index : ℕ) → total CPUS (λ at. call_pins index (one_at at)) ≡ pins_at conf.cpu index
  pins_are index = total_below CPUS (λ at. call_pins index (one_at at)) (λ at. pins_of (conf.cpu at) index) (cpu_pins index)

  -- what lives has its index

  serial_some : (serial : ℕ) → (found : Option ObjectRow) → object_row (present conf) serial ≡ found → is_some found ≡ true → 0 < serial
  serial_some serial None is some = absurd (let never : ⊥ = cc in never)
  serial_some serial (Some row) is some =
      elim (eqb_tells serial 0) as (λ _. 0 < serial) [
        | inl first ↦ (let one : 1 ≤ count_by (is_object serial) (present conf).objects = found_one (is_object serial) (present conf).objects row is in
            let none : count_by (is_object serial) (present conf).objects ≡ 0 =
            ap (λ (n : ℕ). count_by (is_object n) (present conf).objects) first.1 ∙ there.sound.valid.valid.objects.none in
            absurd (omega (arith, one, none)))
        | inr apart ↦ omega (arith, apart.1)
      ]

  pub place_is : (serial : ℕ) → IsMade conf serial → index_in progress.places serial ≡ conf.index serial
  place_is serial alive =
      index_is (present conf).next_serial progress.places conf.index there.stands.places serial
      (serial_some serial (object_row (present conf) serial) refl alive) (there.sound.state.given serial alive)

  -- and the place that it was noted with
  found_note : (serial : ℕ) → 0 < serial → serial < (present conf).next_serial → noted_in progress.noted serial ≡ places_of conf serial
  found_note serial some made = ap (λ (found : Option ℕ). unwrap_or found 0) (there.stands.noted serial some made)

  pub noted_is : (serial : ℕ) → IsMade conf serial → noted_in progress.noted serial ≡ places_of conf serial
  noted_is serial alive =
      found_note serial (serial_some serial (object_row (present conf) serial) refl alive) (there.sound.state.given serial alive)

  -- the pins on it
  pub object_pins : (serial index : ℕ) → index ≡ index_in progress.places serial → IsMade conf serial
      → total CPUS (λ at. call_pins index (one_at at)) ≡ pins_at conf.cpu (conf.index serial)
  object_pins serial index is alive = pins_are index ∙ ap (pins_at conf.cpu) (is ∙ place_is serial alive)

-- the count of the word of an object without references, of which nothing is owed

module _ (conf : Config) (cpu : ℕ) (sound : IsSound conf) (begins : HasNotBegun conf cpu) (serial : ℕ) (doomed : is_doomed (present conf) serial ≡ true) where
  abbrev at : ℕ
  at = conf.index serial

  unowed : owed_at conf.turn at ≡ 0
  unowed = ap (λ (turn : Option Holder). owed_at turn at) begins.has_turn.turn ∙ begins.owes_nothing at

  alive_count : (row : ObjectRow) → object_row (present conf) serial ≡ Some row → conf.dead at ≡ false → conf.count at ≡ pins_at conf.cpu at
  alive_count row is alive =
      let same : row.serial.0 ≡ serial = eqb-true row.serial.0 serial (found_passes (is_object serial) (present conf).objects row is) in
      let own : IsRow (present conf) row = subst (λ (n : ℕ). object_row (present conf) n ≡ Some row) (sym same) is in
      let all : conf.count at ≡ references (present conf) serial + (pins_at conf.cpu at + owed_at conf.turn at) =
      subst (λ (n : ℕ). conf.dead (conf.index n) ≡ false → conf.count (conf.index n) ≡ references (present conf) n + (pins_at conf.cpu (conf.index n) + owed_at conf.turn (conf.index n)))
      same (sound.references.counted.counts row own) alive in
      let none : references (present conf) serial ≡ 0 = eqb-true (references (present conf) serial) 0 doomed in
      omega (arith, all, none, unowed)

  pub object_count : IsMade conf serial → conf.count at ≡ pins_at conf.cpu at
  object_count alive = by_dead (conf.dead at) refl (object_row (present conf) serial) refl alive
    where
      by_dead : (dead : Bool) → conf.dead at ≡ dead → (found : Option ObjectRow) → object_row (present conf) serial ≡ found → is_some found ≡ true
          → conf.count at ≡ pins_at conf.cpu at
      by_dead true dead found is some = sound.references.counted.dead_counts at (sound.state.within serial alive) dead
      by_dead false dead None is some = absurd (let never : ⊥ = cc in never)
      by_dead false dead (Some row) is some = alive_count row is dead
