-- What an item leaves of its CPU's call: the call goes on with fewer items left, or has ended.
use Rattle.std.proofs.Common.{◌≡◌, ◌+◌, ◌-◌, ◌<◌, ◌∙◌, ◌⊎◌, inl, inr, ℕ, Bool, true, false, List, [], ◌∷◌, ◌++◌, length, refl, subst, sym, ap, arith, Option, Some, None, map, if◌then◌else◌}
use Rattle.std.specs.Prelude.{Result, Ok, Err, is_some, nat_lt, option_map}
use Rattle.std.specs.List.{last_or}
use Rattle.std.proofs.lemmas.List.{length-append, length-map}
use Rattle.gh_base.specs.declared.cap_word.Need.{Need}
use Rattle.gh_base.specs.declared.errno.Errno.{Errno}
use Rattle.gh_base.specs.declared.ids.Serial.{Serial}
use Rattle.gh_base.specs.declared.limits.TheConstants.{CPUS}
use Rattle.gh_model.specs.Marks.{Fails, Grants, Made, Outcome, Seen, Wants, on_grant, outcome, word_of}
use Rattle.gh_model.specs.Registers.{needs_of}
use Rattle.gh_model.specs.Word.{look_reply}
use Rattle.gh_model.specs.declared.word.Word.{Word}
use Rattle.gh_events.specs.CallEvents.{after_leave, at_stage, begun, entered, found, has_needs, left, looked, pinned, stage_after_look, undone, with_call, with_left, with_look, with_pin}
use Rattle.gh_events.specs.Calls.{CurrentIs, looks_fit}
use Rattle.gh_events.specs.Config.{AtAct, Config, Cpu, Current, DeadPin, Failed, Given, Looked, Pin as Held, Reading, Stage, Undone, came_to, seen_index}
use Rattle.gh_events.specs.Sound.{Does, after_steps}
use Rattle.gh_events.specs.TurnEvents.{call_at_act, if_at_act, ready, taken}
use Rattle.gh_events.specs.declared.event.Event.{Event}
use Rattle.gh_events.specs.declared.event.Event.TheVariants.{Enter, Take}
use Rattle.gh_schedules.specs.Committing.{cpu_no, index_no}
use Rattle.gh_schedules.specs.Course.{call_of_cpu, either_call}
use Rattle.gh_schedules.specs.Items.{IsSteady, act, acting, begins, freeing, item, item_between, item_in, item_of, leave, leave_ended, pins_last, preparing, reads, taking, undoes_last, unpins}
use Rattle.gh_schedules.specs.Schedule.{CallEnds, CallGoesOn, IsItem, items_at, items_of_call}
use Rattle.gh_schedules.specs.Trace.{AreDone, after_all, and_then}
use Rattle.gh_schedules.proofs.ActItems.{act_leads}
use Rattle.gh_schedules.proofs.CallItems.{IsUnpinning, leave_ends}
use Rattle.gh_schedules.proofs.CallsOver.{CallsOn, SameCalls, taken_call}
use Rattle.gh_schedules.proofs.ItemsLaw.{act_between, item_leads, item_steady}
use Rattle.gh_schedules.proofs.OwnEvents.{item_leaves}
use Rattle.gh_schedules.proofs.TraceCalls.{on_ends, trace_behind, trace_calls, trace_runs}
use Rattle.gh_schedules.proofs.TraceLaws.{Leads}
use Rattle.gh_schedules.proofs.TurnItems.{HasEnded, may_take}
use Rattle.gh_events.proofs.Finding.{put_here}
use Rattle.gh_events.proofs.SoundEvents.{event_keeps_sound}

-- looks

granted_wants : (reply : Result Serial Errno) (others : Outcome) (slot : ℕ) (need : Need)
    → on_grant reply others ≡ Wants slot need → others ≡ Wants slot need
granted_wants (Err errno) others slot need is = absurd (let never : ⊥ = cc in never)
granted_wants (Ok serial) others slot need is = is

-- where one more is wanted, the looks so far are fewer than the needs
fewer_looks : (needs : List (ℕ × Need)) (words : List Word) (slot : ℕ) (need : Need)
    → outcome needs words ≡ Wants slot need → length words < length needs
fewer_looks [] words slot need is = absurd (let never : ⊥ = cc in never)
fewer_looks (first ∷ needs) [] slot need is = omega arith
fewer_looks (first ∷ needs) (word ∷ words) slot need is =
    omega (arith, fewer_looks needs words slot need (granted_wants (look_reply word first.1) (outcome needs words) slot need is))

-- a look more leaves fewer items, whatever it came to
look_fewer : (came : Outcome) (needs looks more : ℕ) → looks < needs → more ≡ looks + 1
    → items_at (stage_after_look came) (needs - more) < items_at Reading (needs - looks)
look_fewer (Wants slot need) needs looks more below is = omega (arith, below, is)
look_fewer (Fails errno) needs looks more below is = omega arith
look_fewer Grants needs looks more below is = omega (arith, below, is)

-- a call with looks has a last one
last_some : (first : Seen) (seen : List Seen) → last_or None (first ∷ seen) ≡ None → ⊥
last_some first [] none = let never : ⊥ = cc in never
last_some first (second ∷ seen) none = last_some second seen none

has_last : (seen : List Seen) → nat_lt 0 (length seen) ≡ true → last_or None seen ≡ None → ⊥
has_last [] some none = let never : ⊥ = cc in never
has_last (first ∷ seen) some none = last_some first seen none

-- the call goes on

-- the items that a call has left
abbrev left_of : Current → ℕ
left_of call = items_at call.stage (length (needs_of call.given.call) - length call.seen)

module _ (before : Cpu) (call : Current) (is : before.current ≡ Some call) where
  -- it is at another stage of the same call, with these pins
  set_on : (new : Current) (pins : List Held) → new.given ≡ call.given → left_of new < left_of call
      → CallGoesOn before (record before { current = Some new; pins = pins })
  set_on new pins same fewer = record {
    same = ap Some same ∙ sym (ap (λ (one : Option Current). either_call one before.next) is);
    made = refl;
    fewer = subst (λ (one : Option Current). left_of new < items_of_call one before.next) (sym is) fewer;
  }

  changed_on : (change : Current → Current) (pins : List Held) → (change call).given ≡ call.given
      → left_of (change call) < left_of call
      → CallGoesOn before (record (with_call change before) { pins = pins })
  changed_on change pins same fewer =
      subst (λ (one : Option Current). CallGoesOn before (record before { current = option_map change one; pins = pins })) (sym is)
      (set_on (change call) pins same fewer)

-- items

module _ (conf : Config) (at : ℕ) (given : Given) (steady : IsSteady conf) (is_cpu : at < CPUS)
    (has : call_of_cpu (conf.cpu at) ≡ Some given) where
  abbrev before : Cpu
  before = conf.cpu at

  -- the call goes on behind the events, or has ended
  abbrev Own : List Event → Type 0
  Own events = CallGoesOn before ((after_all conf events).cpu at) ⊎ CallEnds given before ((after_all conf events).cpu at)

  -- the CPU is so behind the event
  goes_here : (new : Cpu) (cpus : ℕ → Cpu) → cpus at ≡ new → CallGoesOn before new
      → CallGoesOn before (cpus at) ⊎ CallEnds given before (cpus at)
  goes_here new cpus is on = inl (subst (CallGoesOn before) (sym is) on)

  -- the whole act

  abbrev behind_take : Config → List Event
  behind_take = and_then (preparing at) (and_then (acting at) (and_then (freeing at) (unpins at)))

  act_is : act at conf ≡ Take (cpu_no at) ∷ behind_take (taken conf at)
  unfolding act and_then taking
  act_is = refl

  module _ (call : Current) (is : ready before ≡ Some call) (alone : is_some before.current ≡ true → before.next ≡ None) where
    led : Leads conf (act at conf) (HasEnded at)
    led = act_leads conf at steady.sound steady.nine is_cpu steady.free call is steady.blocks

    done : AreDone conf (Take (cpu_no at) ∷ behind_take (taken conf at))
    done = subst (AreDone conf) act_is led.done

    abbrev turned : Cpu
    turned = record before { next = if is_some before.current then before.next else None; current = ready before }

    turned_is : (taken conf at).cpu at ≡ turned
    turned_is = put_here conf.cpu at turned

    same : SameCalls before turned
    same = taken_call conf at (may_take conf at steady.sound is_cpu steady.free call is)

    none_next : (some : Bool) → is_some before.current ≡ some → (if some then before.next else None) ≡ None
    none_next true there = alone there
    none_next false none = refl

    abbrev last : Cpu
    last = (after_all conf (act at conf)).cpu at

    last_is : (after_all (taken conf at) (behind_take (taken conf at))).cpu at ≡ last
    last_is = ap (λ (events : List Event). (after_all conf events).cpu at) (sym act_is)

    ends_turned : CallEnds given turned last
    ends_turned =
        on_ends turned last given (same.same ∙ has) (none_next (is_some before.current) refl)
        (act_between (after_all conf (act at conf)) at led.behind)
        (subst (λ (now : Cpu). CallsOn turned now) last_is
        (subst (λ (now : Cpu). CallsOn now ((after_all (taken conf at) (behind_take (taken conf at))).cpu at)) turned_is
        (trace_calls (behind_take (taken conf at)) (taken conf at) (event_keeps_sound conf (Take (cpu_no at)) steady.sound done.0) done.1 at)))

    -- it ends the call
    act_ends : Own (act at conf)
    act_ends = inr (record {
      call = ends_turned.call;
      made = ends_turned.made ∙ ap (λ (list : List Made). list ++ ends_turned.call ∷ []) same.made;
      frame = ends_turned.frame;
      none = ends_turned.none;
      between = ends_turned.between;
    })

  -- a call in progress

  module _ (call : Current) (is : before.current ≡ Some call) where
    now : CurrentIs conf.boot conf.history conf.index conf.dead at before call
    now = (steady.sound.calls.calls at).current call is

    alone : before.next ≡ None
    alone = (steady.sound.valid.cpus at).alone (ap is_some is)

    -- at this stage it has so many items left
    staged : (stage : Stage) (new : ℕ) → call.stage ≡ stage
        → new < items_at stage (length (needs_of call.given.call) - length call.seen) → new < left_of call
    staged stage new there fewer =
        subst (λ (one : Stage). new < items_at one (length (needs_of call.given.call) - length call.seen)) (sym there) fewer

    leaves_own : call.stage ≡ Reading → Own (leave at conf)
    unfolding leave
    leaves_own there =
        goes_here (record before { current = Some (at_stage AtAct call) }) (left conf at).cpu
        (put_here conf.cpu at (after_leave at before before.current) ∙ ap (after_leave at before) is
        ∙ ap (with_left at before call) there)
        (set_on before call is (at_stage AtAct call) before.pins refl (staged Reading 1 there (omega arith)))

    look_own : (slot : ℕ) (need : Need) → came_to call ≡ Wants slot need → call.stage ≡ Reading
        → Own (reads at conf (Wants slot need))
    look_own slot need came there =
        let seen : Seen = found conf at slot call in
        let below : length call.seen < length (needs_of call.given.call) =
        omega (arith, length-map call.seen word_of, fewer_looks (needs_of call.given.call) (map word_of call.seen) slot need came) in
        goes_here (with_call (λ one. with_look (found conf at slot one) one) before) (looked conf at slot).cpu
        (put_here conf.cpu at (with_call (λ one. with_look (found conf at slot one) one) before))
        (changed_on before call is (λ one. with_look (found conf at slot one) one) before.pins refl
        (staged Reading _ there
        (look_fewer (outcome (needs_of call.given.call) (map word_of (call.seen ++ seen ∷ []))) (length (needs_of call.given.call)) (length call.seen) (length (call.seen ++ seen ∷ [])) below
        (length-append call.seen (seen ∷ [])))))

    reads_own : (came : Outcome) → came_to call ≡ came → call.stage ≡ Reading → Own (reads at conf came)
    reads_own (Wants slot need) came there = look_own slot need came there
    reads_own (Fails errno) came there = leaves_own there
    reads_own Grants came there = leaves_own there

    looked_some : (stage : Stage) → call.stage ≡ stage → looks_fit stage call.seen ≡ true
    looked_some stage there = subst (λ (one : Stage). looks_fit one call.seen ≡ true) there now.looked

    pin_on : (dead : Bool) → call.stage ≡ Looked → CallGoesOn before (with_pin dead before)
    pin_on true there =
        changed_on before call is (at_stage DeadPin) before.pins refl (staged Looked 2 there (omega arith))
    pin_on false there =
        changed_on before call is (at_stage Reading) _ refl (staged Looked _ there (omega arith))

    pins_own : (last : Option Seen) → last_or None call.seen ≡ last → call.stage ≡ Looked
        → Own (pins_last at last)
    pins_own None none there = absurd (has_last call.seen (looked_some Looked there) none)
    pins_own (Some seen) some there =
        goes_here (with_pin (conf.dead (index_no (seen_index seen)).0) before) (pinned conf at (seen_index seen)).cpu
        (put_here conf.cpu at (with_pin (conf.dead (index_no (seen_index seen)).0) before))
        (pin_on (conf.dead (index_no (seen_index seen)).0) there)

    undoes_own : (last : Option Seen) → last_or None call.seen ≡ last → call.stage ≡ DeadPin
        → Own (undoes_last at last)
    undoes_own None none there = absurd (has_last call.seen (looked_some DeadPin there) none)
    undoes_own (Some seen) some there =
        goes_here (with_call (at_stage Undone) before) (undone conf at (seen_index seen)).cpu
        (put_here conf.cpu at (with_call (at_stage Undone) before))
        (changed_on before call is (at_stage Undone) before.pins refl (staged DeadPin 1 there (omega arith)))

    ended_own : (call.stage ≡ Undone) ⊎ (call.stage ≡ Failed) → Own (leave_ended at conf)
    ended_own ended =
        let led : Leads conf (leave_ended at conf) (λ new. IsUnpinning new at conf.turn []) =
        leave_ends conf at call is ended steady.sound is_cpu in
        inr (on_ends before ((after_all conf (leave_ended at conf)).cpu at) given has alone
        (record { none = led.behind.ended; dropped = led.behind.held })
        (trace_calls (leave_ended at conf) conf steady.sound led.done at))

    in_own : (stage : Stage) → call.stage ≡ stage → Own (item_in at conf call stage)
    in_own Reading there = reads_own (came_to call) refl there
    in_own Looked there = pins_own (last_or None call.seen) refl there
    in_own DeadPin there = undoes_own (last_or None call.seen) refl there
    in_own Undone there = ended_own (inl there)
    in_own Failed there = ended_own (inr there)
    in_own AtAct there =
        act_ends call
        (ap (λ (one : Option Current). call_at_act one before.pins before.next) is ∙ ap (λ (one : Stage). if_at_act one call) there)
        (λ some. alone)

  -- the next call begins

  module _ (none : before.current ≡ None) where
    next_is : before.next ≡ Some given
    next_is = sym (ap (λ (one : Option Current). either_call one before.next) none) ∙ has

    dropped : before.pins ≡ []
    dropped = ((steady.sound.calls.calls at).next given next_is).dropped

    enters_own : CallGoesOn before ((entered conf at).cpu at)
    enters_own =
        subst (CallGoesOn before) (sym (put_here conf.cpu at (record before { next = None; current = option_map (begun (conf.counter at + 1) Reading) before.next })))
        (subst (λ (one : Option Given). CallGoesOn before (record before { next = None; current = option_map (begun (conf.counter at + 1) Reading) one })) (sym next_is)
        (record {
          same = sym has;
          made = refl;
          fewer = subst (λ (one : Option Current). left_of (begun (conf.counter at + 1) Reading given) < items_of_call one before.next) (sym none)
              (subst (λ (one : Option Given). left_of (begun (conf.counter at + 1) Reading given) < items_of_call None one) (sym next_is) (omega arith));
        }))

    begins_own : (looks : Bool) → has_needs given ≡ looks
        → Own (if looks then Enter (cpu_no at) ∷ [] else act at conf)
    begins_own true looks = inl enters_own
    begins_own false looks =
        act_ends (begun 0 AtAct given)
        (ap (λ (one : Option Current). call_at_act one before.pins before.next) none
        ∙ ap (λ (pins : List Held). call_at_act None pins before.next) dropped
        ∙ ap (λ (next : Option Given). call_at_act None [] next) next_is
        ∙ ap (λ (b : Bool). if b then None else Some (begun 0 AtAct given)) looks)
        (λ some. absurd (let never : ⊥ = cc in never))

    between_own : Own (item_between at conf before.pins)
    between_own =
        subst (λ (pins : List Held). Own (item_between at conf pins)) (sym dropped)
        (subst (λ (next : Option Given). Own (begins at conf next)) (sym next_is) (begins_own (has_needs given) refl))

  of_own : (current : Option Current) → before.current ≡ current → Own (item_of at conf current)
  of_own None none = between_own none
  of_own (Some call) is = in_own call is call.stage refl

  item_own : Own (item conf at)
  unfolding item
  item_own = of_own before.current refl

  abbrev Behind : Config → Type 0
  Behind new = CallGoesOn before (new.cpu at) ⊎ CallEnds given before (new.cpu at)

  -- so it is an item of the call
  pub item_is_item : IsItem conf at given (item conf at)
  item_is_item =
      let same : after_steps conf (map Does (item conf at)) ≡ after_all conf (item conf at) = trace_behind (item conf at) conf in
      record {
        runs = trace_runs (item conf at) conf (item_leads conf at steady.sound steady.nine is_cpu steady.free steady.blocks).done;
        steady = subst IsSteady (sym same) (item_steady conf at steady.sound steady.nine is_cpu steady.free steady.blocks);
        others = λ cpu apart. ap (λ (new : Config). new.cpu cpu) same ∙ item_leaves conf at cpu apart;
        own = subst Behind (sym same) item_own;
      }
