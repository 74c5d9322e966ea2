-- The items of a call outside its act are possible.
use Rattle.std.proofs.Common.{◌≡◌, ◌==◌, ◌<◌, ◌∙◌, ◌⊎◌, inl, inr, ℕ, suc, Bool, true, false, List, [], ◌∷◌, refl, subst, sym, ap, Option, Some, None, is_some, map, slice_get, if◌then◌else◌}
use Rattle.std.specs.List.{last_or, list_any}
use Rattle.gh_base.specs.declared.limits.TheConstants.{CPUS, OBJECT_INDICES}
use Rattle.gh_model.specs.Marks.{Fails, Grants, Made, Outcome, Seen, Wants}
use Rattle.gh_events.specs.Calls.{CurrentIs, came_fits}
use Rattle.gh_events.specs.CallEvents.{MayLeave, MayUnpin, after_leave, begun, end_of_looks, finished, has_grants, has_needs, leaves_from, left, reply_of_looks, unpinned, with_end, with_left, without_pin}
use Rattle.gh_events.specs.Config.{AtAct, Config, Cpu, Current, DeadPin, Failed, Given, Holder, IsBetween, Looked, Pin, Reading, Stage, Undone, came_to, is_pin_at, present}
use Rattle.gh_schedules.specs.Committing.{cpu_no}
use Rattle.gh_schedules.specs.Items.{act, begins, item, item_between, item_in, item_of, leave, leave_ended, pins_last, reads, undoes_last, unpin, unpins}
use Rattle.gh_events.specs.References.{IsPinned}
use Rattle.gh_events.specs.Sound.{IsSound}
use Rattle.gh_events.specs.TurnEvents.{call_at_act, if_at_act, if_lookless, ready}
use Rattle.gh_events.specs.declared.event.Event.{Event}
use Rattle.gh_events.specs.declared.event.Event.TheVariants.{Enter}
use Rattle.gh_events.proofs.EntryKeeps.{index_bound}
use Rattle.gh_events.proofs.Finding.{put_here, same_number}
use Rattle.gh_events.proofs.Living.{LivesAt, lives_there}
use Rattle.gh_schedules.proofs.TraceLaws.{Leads, leads_none, leads_so, leads_then}

-- the pins of an ended call

-- the call has ended but for these pins, each at an index that there is, and the turn is this
pub record IsUnpinning (conf : Config) (at : ℕ) (turn : Option Holder) (pins : List Pin) : Type 0 where
  pub is_cpu : at < CPUS
  pub turn_is : conf.turn ≡ turn
  pub ended : (conf.cpu at).current ≡ None
  pub held : (conf.cpu at).pins ≡ pins
  pub within : (i : ℕ) (pin : Pin) → slice_get pins i ≡ Some pin → pin.index < OBJECT_INDICES

unpins_one : (conf : Config) (at : ℕ) (turn : Option Holder) (pin : Pin) (pins : List Pin)
    → IsUnpinning conf at turn (pin ∷ pins) → MayUnpin conf at pin.index
unpins_one conf at turn pin pins has = record {
  is_cpu = has.is_cpu;
  is_index = has.within 0 pin refl;
  ended = has.ended;
  held = ap (list_any (is_pin_at pin.index)) has.held ∙ here (list_any (is_pin_at pin.index) pins) (same_number pin.index);
}
  where
    here : (others : Bool) → (pin.index == pin.index) ≡ true → list_any (is_pin_at pin.index) (pin ∷ pins) ≡ true
    here others same = rw same refl

unpins_on : (conf : Config) (at : ℕ) (turn : Option Holder) (pin : Pin) (pins : List Pin)
    → IsUnpinning conf at turn (pin ∷ pins) → IsUnpinning (unpinned conf at pin.index) at turn pins
unpins_on conf at turn pin pins has = record {
  is_cpu = has.is_cpu;
  turn_is = has.turn_is;
  ended = ap (λ (cpu : Cpu). cpu.current) new ∙ has.ended;
  held = ap (λ (cpu : Cpu). cpu.pins) new ∙ ap (without_pin pin.index) has.held ∙ first (same_number pin.index);
  within = λ i other is. has.within (suc i) other is;
}
  where
    new : (unpinned conf at pin.index).cpu at ≡ record (conf.cpu at) { pins = without_pin pin.index (conf.cpu at).pins }
    new = put_here conf.cpu at (record (conf.cpu at) { pins = without_pin pin.index (conf.cpu at).pins })

    first : (pin.index == pin.index) ≡ true → without_pin pin.index (pin ∷ pins) ≡ pins
    first same = rw same refl

-- all of them are dropped
pub unpins_done : (conf : Config) (at : ℕ) (turn : Option Holder) (pins : List Pin) → IsUnpinning conf at turn pins
    → Leads conf (map (unpin at) pins) (λ new. IsUnpinning new at turn [])
unpins_done conf at turn [] has = leads_none conf (λ new. IsUnpinning new at turn []) has
unpins_done conf at turn (pin ∷ pins) has =
    let rest : Leads (unpinned conf at pin.index) (map (unpin at) pins) (λ new. IsUnpinning new at turn []) =
    unpins_done (unpinned conf at pin.index) at turn pins (unpins_on conf at turn pin pins has) in
    record { done = (unpins_one conf at turn pin pins has, rest.done); behind = rest.behind }

pub unpins_lead : (conf : Config) (at : ℕ) (turn : Option Holder) (pins : List Pin) → IsUnpinning conf at turn pins
    → Leads conf (unpins at conf) (λ new. IsUnpinning new at turn [])
unfolding unpins
unpins_lead conf at turn pins has =
    subst (λ (list : List Pin). Leads conf (map (unpin at) list) (λ new. IsUnpinning new at turn [])) (sym has.held) (unpins_done conf at turn pins has)

-- a pin is at an index that there is
pub pin_within : (conf : Config) (at i : ℕ) (pin : Pin) → IsSound conf
    → slice_get (conf.cpu at).pins i ≡ Some pin → pin.index < OBJECT_INDICES
pin_within conf at i pin sound is =
    let pinned : IsPinned conf pin = (sound.references.holds at).pinned i pin is in
    let lives : LivesAt (present conf) conf.index pin.index pinned.row.serial.0 = lives_there (present conf) conf.index pin.index pinned.row pinned.lives_there in
    subst (λ (n : ℕ). n < OBJECT_INDICES) lives.there (sound.state.within lives.row.serial.0 (ap is_some lives.is))

pub is_unpinning : (conf : Config) (at : ℕ) → IsSound conf → at < CPUS → (conf.cpu at).current ≡ None
    → IsUnpinning conf at conf.turn (conf.cpu at).pins
is_unpinning conf at sound is_cpu ended = record {
  is_cpu = is_cpu;
  turn_is = refl;
  ended = ended;
  held = refl;
  within = λ i pin is. pin_within conf at i pin sound is;
}

-- Leave

-- a call that ends where it leaves its section keeps its pins until they are dropped
left_ended : (conf : Config) (at : ℕ) (call : Current) → (conf.cpu at).current ≡ Some call
    → (is_failed : (call.stage ≡ Undone) ⊎ (call.stage ≡ Failed)) → IsSound conf → at < CPUS
    → IsUnpinning (left conf at) at conf.turn (conf.cpu at).pins
left_ended conf at call is ended sound is_cpu = record {
  is_cpu = is_cpu;
  turn_is = refl;
  ended = ap (λ (cpu : Cpu). cpu.current) new;
  held = ap (λ (cpu : Cpu). cpu.pins) new;
  within = λ i pin there. pin_within conf at i pin sound there;
}
  where
    made : Made
    made = finished at call (end_of_looks (came_to call)) (reply_of_looks (came_to call))

    by_stage : (stage : Stage) → (stage ≡ Undone) ⊎ (stage ≡ Failed)
        → with_left at (conf.cpu at) call stage ≡ with_end (conf.cpu at) made
    by_stage stage (inl undone) = rw undone refl
    by_stage stage (inr failed) = rw failed refl

    new : (left conf at).cpu at ≡ with_end (conf.cpu at) made
    new =
        put_here conf.cpu at (after_leave at (conf.cpu at) (conf.cpu at).current)
        ∙ ap (after_leave at (conf.cpu at)) is ∙ by_stage call.stage ended

may_leave : (conf : Config) (at : ℕ) (call : Current) → at < CPUS
    → (conf.cpu at).current ≡ Some call → leaves_from call.stage (came_to call) ≡ true
    → MayLeave conf at
may_leave conf at call is_cpu is done =
    record { is_cpu = is_cpu; call = call; is_current = is; is_done = done }

leaves_undone : (came : Outcome) (stage : Stage) → (stage ≡ Undone) ⊎ (stage ≡ Failed)
    → leaves_from stage came ≡ true
leaves_undone came stage (inl undone) = rw undone refl
leaves_undone came stage (inr failed) = rw failed refl

-- the section is left
leaves_same : (conf : Config) (at : ℕ) → MayLeave conf at → Leads conf (leave at conf) (λ new. new.turn ≡ conf.turn)
unfolding leave
leaves_same conf at may = record { done = (may, tt); behind = refl }

-- and the pins go with it where the call ends
pub leave_ends : (conf : Config) (at : ℕ) (call : Current) → (conf.cpu at).current ≡ Some call
    → (call.stage ≡ Undone) ⊎ (call.stage ≡ Failed) → IsSound conf → at < CPUS
    → Leads conf (leave_ended at conf) (λ new. IsUnpinning new at conf.turn [])
unfolding leave_ended leave
leave_ends conf at call is ended sound is_cpu =
    leads_then (leave at) (unpins at) conf (λ new. IsUnpinning new at conf.turn (conf.cpu at).pins) (λ new. IsUnpinning new at conf.turn [])
    (record {
      done = (may_leave conf at call is_cpu is (leaves_undone (came_to call) call.stage ended), tt);
      behind = left_ended conf at call is ended sound is_cpu;
    })
    (λ new has. unpins_lead new at conf.turn (conf.cpu at).pins has)

-- items

module _ (conf : Config) (at : ℕ) (sound : IsSound conf) (is_cpu : at < CPUS) where
  -- the events are possible, and leave the turn as it was
  abbrev pub Same : List Event → Type 0
  Same events = Leads conf events (λ new. new.turn ≡ conf.turn)

  ends_same : (call : Current) → (conf.cpu at).current ≡ Some call → (call.stage ≡ Undone) ⊎ (call.stage ≡ Failed)
      → Same (leave_ended at conf)
  ends_same call is ended =
      leads_so conf (leave_ended at conf) (λ new. IsUnpinning new at conf.turn []) (λ new. new.turn ≡ conf.turn)
      (leave_ends conf at call is ended sound is_cpu) (λ new has. has.turn_is)

  module _ (call : Current) (is : (conf.cpu at).current ≡ Some call) where
    now : CurrentIs conf.boot conf.history conf.index conf.dead at (conf.cpu at) call
    now = (sound.calls.calls at).current call is

    reads_done : (came : Outcome) → came_to call ≡ came → call.stage ≡ Reading
        → Same (reads at conf came)
    reads_done (Wants slot need) came stage =
        record { done = (record { is_cpu = is_cpu; call = call; reading = record { is_current = is; at_stage = stage }; need = need; asked = came }, tt); behind = refl }
    reads_done (Fails errno) came stage =
        let fits : came_fits Reading (Fails errno) ≡ true = subst (λ (one : Outcome). came_fits Reading one ≡ true) came (subst (λ (one : Stage). came_fits one (came_to call) ≡ true) stage now.came) in
        absurd (let never : ⊥ = cc in never)
    reads_done Grants came stage =
        leaves_same conf at (may_leave conf at call is_cpu is (subst (λ (one : Stage). leaves_from one (came_to call) ≡ true) (sym stage) (ap has_grants came)))

    pins_done : (last : Option Seen) → last_or None call.seen ≡ last → call.stage ≡ Looked
        → Same (pins_last at last)
    pins_done None none stage = record { done = tt; behind = refl }
    pins_done (Some seen) last stage =
        record { done = (record { is_cpu = is_cpu; is_index = index_bound seen.look.word.0; call = call; is_looked = record { is_current = is; at_stage = stage }; granted = record { seen = seen; last = last; index_is = refl } }, tt); behind = refl }

    undoes_done : (last : Option Seen) → last_or None call.seen ≡ last → call.stage ≡ DeadPin
        → Same (undoes_last at last)
    undoes_done None none stage = record { done = tt; behind = refl }
    undoes_done (Some seen) last stage =
        record { done = (record { is_cpu = is_cpu; is_index = index_bound seen.look.word.0; call = call; dead = record { is_current = is; at_stage = stage }; granted = record { seen = seen; last = last; index_is = refl } }, tt); behind = refl }

    in_done : (stage : Stage) → call.stage ≡ stage → if_at_act stage call ≡ None
        → Same (item_in at conf call stage)
    in_done Reading stage apart = reads_done (came_to call) refl stage
    in_done Looked stage apart = pins_done (last_or None call.seen) refl stage
    in_done DeadPin stage apart = undoes_done (last_or None call.seen) refl stage
    in_done Undone stage apart = ends_same call is (inl stage)
    in_done Failed stage apart = ends_same call is (inr stage)
    in_done AtAct stage apart = absurd (let never : ⊥ = cc in never)

  begins_done : (next : Option Given) → (conf.cpu at).next ≡ next → IsBetween (conf.cpu at)
      → if_lookless next ≡ None → Same (begins at conf next)
  begins_done None is between apart = record { done = tt; behind = refl }
  begins_done (Some given) is between apart = by_looks (has_needs given) refl apart
    where
      by_looks : (looks : Bool) → has_needs given ≡ looks
          → (if looks then None else Some (begun 0 AtAct given)) ≡ None
          → Same (if looks then Enter (cpu_no at) ∷ [] else act at conf)
      by_looks true looks none =
          record { done = (record { is_cpu = is_cpu; between = between; given = given; next = is; looks = looks }, tt); behind = refl }
      by_looks false looks none = absurd (let never : ⊥ = cc in never)

  between_done : (conf.cpu at).current ≡ None → (pins : List Pin) → (conf.cpu at).pins ≡ pins
      → call_at_act None pins (conf.cpu at).next ≡ None → Same (item_between at conf pins)
  between_done none [] dropped apart =
      begins_done (conf.cpu at).next refl record { none = none; dropped = dropped } apart
  between_done none (pin ∷ pins) held apart =
      leads_so conf (unpins at conf) (λ new. IsUnpinning new at conf.turn []) (λ new. new.turn ≡ conf.turn) (unpins_lead conf at conf.turn (conf.cpu at).pins (is_unpinning conf at sound is_cpu none)) (λ new has. has.turn_is)

  of_done : (current : Option Current) → (conf.cpu at).current ≡ current
      → call_at_act current (conf.cpu at).pins (conf.cpu at).next ≡ None
      → Same (item_of at conf current)
  of_done None is apart = between_done is (conf.cpu at).pins refl apart
  of_done (Some call) is apart = in_done call is call.stage refl apart

  -- an item that isn't an act is possible
  pub call_item_done : ready (conf.cpu at) ≡ None → Same (item conf at)
  unfolding item
  call_item_done apart = of_done (conf.cpu at).current refl apart
