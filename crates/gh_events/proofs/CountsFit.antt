-- Every count of a reference word stays below 2^63.
use Rattle.std.proofs.Common.{◌≡◌, ◌+◌, ◌*◌, ◌^◌, ◌<◌, ◌≤◌, ◌∙◌, inl, inr, ℕ, Bool, true, false, List, length, refl, subst, ap, arith, Option, Some, None}
use Rattle.std.specs.Prelude.{is_some}
use Rattle.std.specs.List.{last_or}
use Rattle.gh_base.specs.declared.limits.TheConstants.{CPUS, OBJECT_INDICES}
use Rattle.gh_model.specs.Marks.{Seen}
use Rattle.gh_model.specs.References.{references}
use Rattle.gh_model.specs.declared.rows.ObjectRow.{ObjectRow}
use Rattle.gh_events.specs.CallEvents.{pin_of_look}
use Rattle.gh_events.specs.Config.{AtAct, Config, Current, DeadPin, Failed, Looked, Reading, Stage, Undone, is_pin_at, object_at, present}
use Rattle.gh_events.specs.References.{HasHome, dead_pin, owed_at, pin_at_stage, pins_at, pins_of}
use Rattle.gh_events.specs.Sound.{IsSound}
use Rattle.gh_events.proofs.BoundKeeps.{objects_bounded}
use Rattle.gh_events.proofs.LengthBound.{count_all}
use Rattle.gh_events.proofs.LengthCalls.{total_most}
use Rattle.gh_events.proofs.Living.{LivesAt, lives_there}

-- pins

look_pin : (last : Option Seen) → length (pin_of_look last) ≤ 1
look_pin None = omega arith
look_pin (Some seen) = omega arith

stage_pin : (stage : Stage) (seen : List Seen) → length (pin_at_stage stage seen) ≤ 1
stage_pin DeadPin seen = look_pin (last_or None seen)
stage_pin Reading seen = omega arith
stage_pin Looked seen = omega arith
stage_pin Undone seen = omega arith
stage_pin Failed seen = omega arith
stage_pin AtAct seen = omega arith

-- a call has one pin on a dead word at most
one_dead : (current : Option Current) → length (dead_pin current) ≤ 1
one_dead None = omega arith
one_dead (Some call) = stage_pin call.stage call.seen

module _ (conf : Config) (sound : IsSound conf) where
  few_pins : (cpu at : ℕ) → pins_of (conf.cpu cpu) at ≤ 3
  few_pins cpu at =
      omega (
        arith,
        count_all (is_pin_at at) (conf.cpu cpu).pins,
        count_all (is_pin_at at) (dead_pin (conf.cpu cpu).current),
        sound.bound.few_pins cpu,
        one_dead (conf.cpu cpu).current,
      )

  -- all pins on a word are few
  pub all_pins : (at : ℕ) → pins_at conf.cpu at ≤ CPUS * 3
  all_pins at = total_most CPUS 3 (λ cpu. pins_of (conf.cpu cpu) at) (λ cpu. few_pins cpu at)

  owed_few : (at : ℕ) → at < OBJECT_INDICES → owed_at conf.turn at ≤ 2 ^ 62
  owed_few at within = omega (arith, sound.bound.bounded at within)

  alive_fits : (at : ℕ) → at < OBJECT_INDICES → conf.dead at ≡ false → (found : Option ObjectRow)
      → object_at (present conf) conf.index at ≡ found → is_some found ≡ true → conf.count at < 2 ^ 63
  alive_fits at within alive None is some = absurd (let never : ⊥ = cc in never)
  alive_fits at within alive (Some found) is some =
      let one : LivesAt (present conf) conf.index at found.serial.0 = lives_there (present conf) conf.index at found is in
      let its : ℕ = conf.index one.row.serial.0 in
      let counts : conf.count its ≡ references (present conf) one.row.serial.0 + (pins_at conf.cpu its + owed_at conf.turn its) =
      sound.references.counted.counts one.row one.is (ap conf.dead one.there ∙ alive) in
      let few : references (present conf) one.row.serial.0 + owed_at conf.turn its ≤ 2 ^ 62 =
      objects_bounded conf sound.references sound.state sound.bound.bounded one.row one.is in
      let fits : conf.count its < 2 ^ 63 = omega (arith, counts, few, all_pins its) in
      subst (λ (n : ℕ). conf.count n < 2 ^ 63) one.there fits

  home_fits : (at : ℕ) → at < OBJECT_INDICES → conf.dead at ≡ false → HasHome conf at → conf.count at < 2 ^ 63
  home_fits at within alive (inl some) =
      alive_fits at within alive (object_at (present conf) conf.index at) refl some
  home_fits at within alive (inr fresh) = omega (arith, fresh.owed, owed_few at within)

  -- a word counts references, pins and what is owed, or pins alone
  count_by_dead : (at : ℕ) → at < OBJECT_INDICES → (dead : Bool) → conf.dead at ≡ dead → conf.count at < 2 ^ 63
  count_by_dead at within true is =
      omega (arith, sound.references.counted.dead_counts at within is, all_pins at)
  count_by_dead at within false is = home_fits at within is (sound.references.counted.homes at within is)

  pub count_fits : (at : ℕ) → at < OBJECT_INDICES → conf.count at < 2 ^ 63
  count_fits at within = count_by_dead at within (conf.dead at) refl
