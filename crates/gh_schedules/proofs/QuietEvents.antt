-- Events that commit no entry leave the objects in their blocks.
use Rattle.std.proofs.Common.{◌≡◌, ◌==◌, ℕ, Bool, true, false, List, [], ◌∷◌, refl, subst, sym, map, Option, Some, None, if◌then◌else◌}
use Rattle.std.specs.List.{last_or, list_all}
use Rattle.std.proofs.lemmas.Bool.{and_from, and_parts}
use Rattle.gh_model.specs.History as history
use Rattle.gh_model.specs.declared.state.State.{State}
use Rattle.gh_model.specs.Marks.{Fails, Grants, Outcome, Seen, Wants}
use Rattle.gh_model.specs.declared.rows.ObjectRow.{ObjectRow}
use Rattle.gh_events.specs.CallEvents.{begun, has_needs}
use Rattle.gh_schedules.specs.Committing.{cpu_no}
use Rattle.gh_events.specs.Config.{AtAct, Config, Current, DeadPin, Failed, Given, Looked, Pin as Held, Reading, Stage, Undone, came_to, object_at, present, put}
use Rattle.gh_events.specs.Events.{after}
use Rattle.gh_events.specs.HolderEvents.{kill_failed, with_turn, without_scans}
use Rattle.gh_schedules.specs.Indices.{HasBlocks}
use Rattle.gh_schedules.specs.Items.{act, begins, item, item_between, item_in, item_of, leave, leave_ended, pins_last, reads, undoes_last, unpin, unpins}
use Rattle.gh_schedules.specs.Trace.{after_all, and_then}
use Rattle.gh_events.specs.TurnEvents.{call_at_act, if_at_act, if_lookless, ready}
use Rattle.gh_events.specs.declared.event.Event.{Event}
use Rattle.gh_events.specs.declared.event.Event.TheVariants.{Enter, Leave, Take, Look, Pin, Unpin, Undo, Kill, Commit, SetCap, Free, Scan, Revive, Join, Split}

-- the event commits no entry
abbrev pub is_quiet : Event → Bool
is_quiet (Commit cpu entry) = false
is_quiet (SetCap cpu entry space slot word) = false
is_quiet _ = true

same_blocks : (conf new : Config) → new.boot ≡ conf.boot → new.history ≡ conf.history → new.index ≡ conf.index
    → HasBlocks conf → HasBlocks new
same_blocks conf new boot log index blocks =
    subst (λ (its : ℕ → ℕ). HasBlocks (record new { index = its })) (sym index)
    (subst (λ (events : List history.Event). HasBlocks (record new { index = conf.index; history = events })) (sym log)
    (subst (λ (state : State). HasBlocks (record new { index = conf.index; history = conf.history; boot = state })) (sym boot) (record { apart = blocks.apart; few = blocks.few; each = blocks.each })))

failed_blocks : (conf : Config) (object : ℕ) (found : Option ObjectRow) → HasBlocks conf → HasBlocks (kill_failed conf object found)
failed_blocks conf object None blocks = blocks
failed_blocks conf object (Some row) blocks = same_blocks conf (kill_failed conf object (Some row)) refl refl refl blocks

killed_blocks : (conf : Config) (object : ℕ) (none : Bool) → HasBlocks conf
    → HasBlocks (if none then record (with_turn without_scans conf) { dead = put conf.dead object true }
    else kill_failed conf object (object_at (present conf) conf.index object))
killed_blocks conf object true blocks =
    same_blocks conf (record (with_turn without_scans conf) { dead = put conf.dead object true }) refl refl refl blocks
killed_blocks conf object false blocks =
    failed_blocks conf object (object_at (present conf) conf.index object) blocks

event_blocks : (conf : Config) (event : Event) → is_quiet event ≡ true → HasBlocks conf → HasBlocks (after conf event)
event_blocks conf (Enter cpu) quiet blocks = same_blocks conf (after conf (Enter cpu)) refl refl refl blocks
event_blocks conf (Leave cpu) quiet blocks = same_blocks conf (after conf (Leave cpu)) refl refl refl blocks
event_blocks conf (Take cpu) quiet blocks = same_blocks conf (after conf (Take cpu)) refl refl refl blocks
event_blocks conf (Look cpu slot) quiet blocks = same_blocks conf (after conf (Look cpu slot)) refl refl refl blocks
event_blocks conf (Pin cpu object false) quiet blocks = same_blocks conf (after conf (Pin cpu object false)) refl refl refl blocks
event_blocks conf (Pin cpu object true) quiet blocks = same_blocks conf (after conf (Pin cpu object true)) refl refl refl blocks
event_blocks conf (Unpin cpu object false) quiet blocks = same_blocks conf (after conf (Unpin cpu object false)) refl refl refl blocks
event_blocks conf (Unpin cpu object true) quiet blocks = same_blocks conf (after conf (Unpin cpu object true)) refl refl refl blocks
event_blocks conf (Undo cpu object) quiet blocks = same_blocks conf (after conf (Undo cpu object)) refl refl refl blocks
event_blocks conf (Kill cpu object) quiet blocks = killed_blocks conf object.0 (conf.count object.0 == 0) blocks
event_blocks conf (Commit cpu entry) quiet blocks = absurd (let never : ⊥ = cc in never)
event_blocks conf (SetCap cpu entry space slot word) quiet blocks = absurd (let never : ⊥ = cc in never)
event_blocks conf (Free cpu true) quiet blocks = same_blocks conf (after conf (Free cpu true)) refl refl refl blocks
event_blocks conf (Free cpu false) quiet blocks = same_blocks conf (after conf (Free cpu false)) refl refl refl blocks
event_blocks conf (Scan cpu of_cpu) quiet blocks = same_blocks conf (after conf (Scan cpu of_cpu)) refl refl refl blocks
event_blocks conf (Revive cpu object count) quiet blocks = same_blocks conf (after conf (Revive cpu object count)) refl refl refl blocks
event_blocks conf (Join cpu) quiet blocks = blocks
event_blocks conf (Split cpu) quiet blocks = blocks

pub quiet_blocks : (conf : Config) (events : List Event) → list_all is_quiet events ≡ true → HasBlocks conf
    → HasBlocks (after_all conf events)
quiet_blocks conf [] quiet blocks = blocks
quiet_blocks conf (event ∷ events) quiet blocks =
    let parts = and_parts (is_quiet event) (list_all is_quiet events) quiet in
    quiet_blocks (after conf event) events parts.1 (event_blocks conf event parts.0 blocks)

-- the events of a call are quiet

pub pins_quiet : (at : ℕ) (pins : List Held) → list_all is_quiet (map (unpin at) pins) ≡ true
pins_quiet at [] = refl
pins_quiet at (pin ∷ pins) = and_from _ _ refl (pins_quiet at pins)

module _ (conf : Config) (at : ℕ) where
  unpins_quiet : list_all is_quiet (unpins at conf) ≡ true
  unfolding unpins
  unpins_quiet = pins_quiet at (conf.cpu at).pins

  leave_quiet : list_all is_quiet (leave at conf) ≡ true
  unfolding leave
  leave_quiet = refl

  ended_quiet : list_all is_quiet (leave_ended at conf) ≡ true
  unfolding leave_ended and_then leave unpins
  ended_quiet = pins_quiet at ((after conf (Leave (cpu_no at))).cpu at).pins

  reads_quiet : (came : Outcome) → list_all is_quiet (reads at conf came) ≡ true
  reads_quiet (Wants slot need) = refl
  reads_quiet (Fails errno) = leave_quiet
  reads_quiet Grants = leave_quiet

  last_quiet : (last : Option Seen) → list_all is_quiet (pins_last at last) ≡ true
  last_quiet None = refl
  last_quiet (Some seen) = refl

  undo_quiet : (last : Option Seen) → list_all is_quiet (undoes_last at last) ≡ true
  undo_quiet None = refl
  undo_quiet (Some seen) = refl

  in_quiet : (call : Current) (stage : Stage) → if_at_act stage call ≡ None → list_all is_quiet (item_in at conf call stage) ≡ true
  in_quiet call Reading apart = reads_quiet (came_to call)
  in_quiet call Looked apart = last_quiet (last_or None call.seen)
  in_quiet call DeadPin apart = undo_quiet (last_or None call.seen)
  in_quiet call Undone apart = ended_quiet
  in_quiet call Failed apart = ended_quiet
  in_quiet call AtAct apart = absurd (let never : ⊥ = cc in never)

  begins_quiet : (next : Option Given) → if_lookless next ≡ None → list_all is_quiet (begins at conf next) ≡ true
  begins_quiet None apart = refl
  begins_quiet (Some given) apart = by_looks (has_needs given) apart
    where
      by_looks : (looks : Bool) → (if looks then None else Some (begun 0 AtAct given)) ≡ None
          → list_all is_quiet (if looks then Enter (cpu_no at) ∷ [] else act at conf) ≡ true
      by_looks true none = refl
      by_looks false none = absurd (let never : ⊥ = cc in never)

  between_quiet : (pins : List Held) → call_at_act None pins (conf.cpu at).next ≡ None → list_all is_quiet (item_between at conf pins) ≡ true
  between_quiet [] apart = begins_quiet (conf.cpu at).next apart
  between_quiet (pin ∷ pins) apart = unpins_quiet

  of_quiet : (current : Option Current) → call_at_act current (conf.cpu at).pins (conf.cpu at).next ≡ None
      → list_all is_quiet (item_of at conf current) ≡ true
  of_quiet None apart = between_quiet (conf.cpu at).pins apart
  of_quiet (Some call) apart = in_quiet call call.stage apart

  -- an item that isn't an act commits nothing
  pub item_quiet : ready (conf.cpu at) ≡ None → list_all is_quiet (item conf at) ≡ true
  unfolding item
  item_quiet apart = of_quiet (conf.cpu at).current apart
