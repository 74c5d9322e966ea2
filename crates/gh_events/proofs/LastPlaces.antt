-- A CPU's last place is never above the history, and never falls.
use Rattle.std.proofs.Common.{◌≡◌, ◌==◌, ◌+◌, ◌<◌, ◌≤◌, ◌∙◌, ℕ, Bool, true, false, List, [], ◌∷◌, ◌++◌, length, refl, subst, sym, ap, arith, Option, Some, None}
use Rattle.std.specs.Prelude.{Result, Ok, Err, option_map}
use Rattle.std.proofs.lemmas.List.{take-append-le}
use Rattle.std.proofs.lemmas.List.Sums.{fold-append}
use Rattle.std.proofs.lemmas.Option.{slice_get_within}
use Rattle.gh_base.specs.declared.call.Call.{Call}
use Rattle.gh_base.specs.declared.errno.Errno.{Errno}
use Rattle.gh_base.specs.declared.frame.Frame.{Frame}
use Rattle.gh_base.specs.declared.frame.Reply.{Reply}
use Rattle.gh_base.specs.declared.mark.End.{End}
use Rattle.gh_model.proofs.RunLists.{slice_get_left}
use Rattle.gh_model.specs.Legal.{CallIs}
use Rattle.gh_model.specs.Marks.{InTurn, Outcome, Wants, Fails, Grants, Seen, after_look, place, place_after, place_after_call}
use Rattle.gh_events.specs.CallEvents.{after_leave, at_stage, begun, end_of_looks, finished, found, reply_of_looks, with_call, with_end, with_left, with_look, with_pin}
use Rattle.gh_events.specs.Calls.{acted_call}
use Rattle.gh_events.specs.Config.{Config, Cpu, Current, DeadPin, Given, Holder, Reading, Stage, Undone, came_to, entries, last_place, put}
use Rattle.gh_events.specs.Sound.{IsSound, looks_now, made_by, place_now}
use Rattle.std.specs.Option.{unwrap_or}
use Rattle.gh_model.specs.Registers.{call_of}
use Rattle.gh_events.specs.Entries.{index_after}
use Rattle.gh_events.specs.Events.{Possible, after}
use Rattle.gh_events.specs.Start.{MayGive, given, refused_frame, with_next}
use Rattle.gh_events.specs.TurnEvents.{Ending, end_call, ending, with_ending}
use Rattle.gh_events.specs.declared.event.Event.{Event}
use Rattle.gh_events.specs.declared.event.Event.TheVariants.{Enter, Leave, Take, Look, Pin, Unpin, Undo, Kill, Commit, SetCap, Free, Scan, Revive, Join, Split}
use Rattle.gh_events.proofs.FewPins.{committed_cpus, killed_cpus}
use Rattle.gh_events.proofs.GraceEnds.{end_place}
use Rattle.gh_events.proofs.LengthCalls.{put_each}
use Rattle.gh_events.proofs.TakeCalls.{Begins, Comes, Was, comes_by}
use Rattle.gh_events.proofs.Places.{calls_within, looks_within}

-- the first calls of a list follow one another too
in_turn_front : {X : Type 0} (P : List X → X → Type 0) (xs ys : List X) → InTurn P (xs ++ ys) → InTurn P xs
in_turn_front P xs ys all i x is =
    let within : i < length xs = slice_get_within xs i x is in
    subst (λ (front : List _). P front x) (take-append-le i xs ys (omega (arith, within)))
    (all i x (slice_get_left xs ys i within ∙ is))

module _ (conf : Config) (sound : IsSound conf) (cpu : ℕ) where
  -- the finished calls' last place
  made_within : place_after (made_by conf cpu) ≤ length conf.history
  made_within =
      calls_within conf.boot conf.history cpu (made_by conf cpu)
      (in_turn_front (CallIs conf.boot conf.history cpu) (made_by conf cpu) (acted_call conf.boot conf.history conf.turn cpu (conf.cpu cpu).current) (sound.calls.calls cpu).finished)

  place_by : (current : Option Current) → (conf.cpu cpu).current ≡ current
      → last_place (conf.cpu cpu) (looks_now current) ≤ length conf.history
  place_by None is = made_within
  place_by (Some call) is =
      looks_within (length conf.history) (place_after (made_by conf cpu)) call.seen made_within
      (λ i seen there. (((sound.calls.calls cpu).current call is).looks i seen there).within)

  -- no last place is above the history
  pub place_within : place_now (conf.cpu cpu) ≤ length conf.history
  place_within = place_by (conf.cpu cpu).current refl

-- and none falls

abbrev Rises : Cpu → Cpu → Type 0
Rises before now = place_now before ≤ place_now now

still : (cpu : Cpu) → Rises cpu cpu
still cpu = omega arith

-- a call that goes on with its looks
kept_looks : (cpu : Cpu) (change : Current → Current) → ((call : Current) → (change call).seen ≡ call.seen)
    → Rises cpu (with_call change cpu)
kept_looks cpu change keeps = by_current cpu.current
  where
    by_current : (current : Option Current)
        → last_place cpu (looks_now current) ≤ last_place cpu (looks_now (option_map change current))
    by_current None = omega arith
    by_current (Some call) = omega (arith, ap (λ (seen : List Seen). last_place cpu seen) (keeps call))

-- a look is at the last place, or above it
looked_place : (conf : Config) (at slot : ℕ) (current : Option Current)
    → last_place (conf.cpu at) (looks_now current)
    ≤ last_place (conf.cpu at) (looks_now (option_map (λ call. with_look (found conf at slot call) call) current))
looked_place conf at slot None = omega arith
looked_place conf at slot (Some call) =
    omega (arith, fold-append after_look (place_after (conf.cpu at).made) call.seen (found conf at slot call ∷ []))

-- a call that has its end
ended_place : (at : ℕ) (cpu : Cpu) (call : Current) (end : End) (reply : Reply)
    → place_now (with_end cpu (finished at call end reply)) ≡ unwrap_or (place end) (last_place cpu call.seen)
ended_place at cpu call end reply = fold-append place_after_call 0 cpu.made (finished at call end reply ∷ [])

looks_placeless : (came : Outcome) → place (end_of_looks came) ≡ None
looks_placeless (Wants slot need) = refl
looks_placeless (Fails errno) = refl
looks_placeless Grants = refl

left_place : (at : ℕ) (cpu : Cpu) (call : Current) → cpu.current ≡ Some call → (stage : Stage)
    → Rises cpu (with_left at cpu call stage)
left_place at cpu call is Reading = omega (arith, ap (λ (one : Option Current). last_place cpu (looks_now one)) is)
left_place at cpu call is _ =
    omega (
      arith,
      ap (λ (one : Option Current). last_place cpu (looks_now one)) is,
      ended_place at cpu call (end_of_looks (came_to call)) (reply_of_looks (came_to call)),
      ap (λ (o : Option ℕ). unwrap_or o (last_place cpu call.seen)) (looks_placeless (came_to call)),
    )

left_rises : (at : ℕ) (cpu : Cpu) (current : Option Current) → cpu.current ≡ current → Rises cpu (after_leave at cpu current)
left_rises at cpu None is = still cpu
left_rises at cpu (Some call) is = left_place at cpu call is call.stage

-- a call that comes to its act has the looks that it had
taken_looks : (cpu : Cpu) (call : Current) → Comes cpu call → call.seen ≡ looks_now cpu.current
taken_looks cpu call (Was in_act) = sym (ap looks_now in_act.is_current)
taken_looks cpu call (Begins given none next no_needs same) =
    ap (λ (one : Current). one.seen) same ∙ sym (ap looks_now none)

freed_by : (conf : Config) (at : ℕ) (call : Current) (end : Option Ending)
    → (conf.cpu at).current ≡ Some call → place_now (conf.cpu at) ≤ length conf.history
    → ((one : Ending) → end ≡ Some one → place one.end ≡ Some (entries conf))
    → Rises (conf.cpu at) (with_ending at (conf.cpu at) call end)
freed_by conf at call None is within placed = still (conf.cpu at)
freed_by conf at call (Some end) is within placed =
    omega (
      arith,
      within,
      ended_place at (conf.cpu at) call end.end end.reply,
      ap (λ (o : Option ℕ). unwrap_or o (last_place (conf.cpu at) call.seen)) (placed end refl),
    )

freed_rises : (conf : Config) (at : ℕ) (turn : Option Holder) (current : Option Current) → (conf.cpu at).current ≡ current
    → place_now (conf.cpu at) ≤ length conf.history → Rises (conf.cpu at) (end_call conf at turn current)
freed_rises conf at None current is within = still (conf.cpu at)
freed_rises conf at (Some holder) None is within = still (conf.cpu at)
freed_rises conf at (Some holder) (Some call) is within =
    freed_by conf at call (ending conf at holder call) is within (λ end there. end_place conf at holder call end there)

begun_looks : (section : ℕ) (next : Option Given) → looks_now (option_map (begun section Reading) next) ≡ []
begun_looks section None = refl
begun_looks section (Some given) = refl

pinned_rises : (dead : Bool) (cpu : Cpu) → Rises cpu (with_pin dead cpu)
pinned_rises true cpu = kept_looks cpu (at_stage DeadPin) (λ call. refl)
pinned_rises false cpu = by_current cpu.current
  where
    by_current : (current : Option Current)
        → last_place cpu (looks_now current) ≤ last_place cpu (looks_now (option_map (at_stage Reading) current))
    by_current None = omega arith
    by_current (Some call) = omega arith

-- every event

module _ (conf : Config) where
  abbrev AllRise : (ℕ → Cpu) → Type 0
  AllRise cpus = (n : ℕ) → Rises (conf.cpu n) (cpus n)

  one_rises : (at : ℕ) (one : Cpu) → Rises (conf.cpu at) one → AllRise (put conf.cpu at one)
  one_rises at one rises n = put_each (λ i cpu. Rises (conf.cpu i) cpu) conf.cpu at one rises (λ i differs. still (conf.cpu i)) n

  all_rise : AllRise conf.cpu
  all_rise n = still (conf.cpu n)

  pub event_places : (event : Event) → IsSound conf → Possible conf event → AllRise (after conf event).cpu
  event_places (Enter cpu) sound may =
      one_rises cpu.0 _ (omega (
        arith,
        ap (λ (one : Option Current). last_place (conf.cpu cpu.0) (looks_now one)) may.between.none,
        ap (last_place (conf.cpu cpu.0)) (begun_looks (conf.counter cpu.0 + 1) (conf.cpu cpu.0).next),
      ))
  event_places (Leave cpu) sound may = one_rises cpu.0 _ (left_rises cpu.0 (conf.cpu cpu.0) (conf.cpu cpu.0).current refl)
  event_places (Take cpu) sound may =
      let one : Cpu = conf.cpu cpu.0 in
      let looks : may.call.seen ≡ looks_now one.current =
      taken_looks one may.call (comes_by one may.call one.current one.pins one.next refl refl may.is_ready) in
      one_rises cpu.0 _ (omega (arith, ap (λ (call : Option Current). last_place one (looks_now call)) may.is_ready, ap (last_place one) looks))
  event_places (Look cpu slot) sound may = one_rises cpu.0 _ (looked_place conf cpu.0 slot (conf.cpu cpu.0).current)
  event_places (Pin cpu object false) sound may = one_rises cpu.0 _ (pinned_rises (conf.dead object.0) (conf.cpu cpu.0))
  event_places (Pin cpu object true) sound may = all_rise
  event_places (Unpin cpu object false) sound may = one_rises cpu.0 _ (still (conf.cpu cpu.0))
  event_places (Unpin cpu object true) sound may = all_rise
  event_places (Undo cpu object) sound may = one_rises cpu.0 _ (kept_looks (conf.cpu cpu.0) (at_stage Undone) (λ call. refl))
  event_places (Kill cpu object) sound may =
      subst AllRise (sym (killed_cpus conf object.0 (conf.count object.0 == 0))) all_rise
  event_places (Commit cpu entry) sound may =
      subst AllRise (sym (committed_cpus conf entry (λ new. conf.index) (conf.cpu cpu.0).current)) all_rise
  event_places (SetCap cpu entry space slot word) sound may =
      subst AllRise (sym (committed_cpus conf entry (λ new. index_after conf new word) (conf.cpu cpu.0).current)) all_rise
  event_places (Free cpu true) sound may =
      one_rises cpu.0 _ (freed_rises conf cpu.0 conf.turn (conf.cpu cpu.0).current refl (place_within conf sound cpu.0))
  event_places (Free cpu false) sound may = all_rise
  event_places (Scan cpu of_cpu) sound may = all_rise
  event_places (Revive cpu object count) sound may = all_rise
  event_places (Join cpu) sound may = all_rise
  event_places (Split cpu) sound may = all_rise

-- and a call that a CPU is given

next_place : (at number : ℕ) (frame : Frame) (cpu : Cpu) (shape : Result Call Errno) → cpu.current ≡ None
    → Rises cpu (with_next at number frame cpu shape)
next_place at number frame cpu (Ok call) none = still cpu
next_place at number frame cpu (Err errno) none =
    omega (
      arith,
      ap (λ (one : Option Current). last_place cpu (looks_now one)) none,
      ap (λ (one : Option Current). last_place (with_next at number frame cpu (Err errno)) (looks_now one)) none,
      fold-append place_after_call 0 cpu.made (refused_frame at number frame errno ∷ []),
    )

pub given_places : (conf : Config) (at number : ℕ) (frame : Frame) → MayGive conf at number
    → AllRise conf (given conf at number frame).cpu
given_places conf at number frame may =
    one_rises conf at _ (next_place at number frame (conf.cpu at) (call_of frame) may.between.none)
