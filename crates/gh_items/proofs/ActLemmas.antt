-- The act of a call behind what prepares it, as one item.
use Rattle.std.proofs.Common.{◌≡◌, ◌==◌, ◌+◌, ◌<◌, ◌∙◌, inl, inr, ℕ, Bool, true, false, List, [], length, refl, subst, sym, ap, arith, Option, Some, None, is_some, slice_get, if◌then◌else◌}
use Rattle.std.proofs.lemmas.Bool.{eqb-true}
use Rattle.gh_base.specs.declared.call.Call.{Call}
use Rattle.gh_base.specs.declared.call.Call.TheVariants as calls
use Rattle.gh_base.specs.declared.frame.Reply.{Reply}
use Rattle.gh_base.specs.declared.limits.TheConstants.{HISTORY_ENTRIES}
use Rattle.gh_schedules.specs.Committing.{cpu_no}
use Rattle.gh_events.specs.Config.{AtAct, Config, Cpu, Current, Stage, judged, present}
use Rattle.gh_events.specs.Entries.{logged}
use Rattle.gh_events.specs.HolderEvents.{is_create}
use Rattle.gh_schedules.specs.Items.{act, acting, freeing, object_revoked, parts, plain_caps, preparing, prepares, sweeps, taking, unpins}
use Rattle.gh_core.specs.Running.{current_of}
use Rattle.gh_events.specs.Sound.{IsSound}
use Rattle.gh_schedules.specs.Sweep.{HasNotBegun, sweep}
use Rattle.gh_schedules.specs.Trace.{AreDone, after_all, and_then}
use Rattle.gh_events.specs.TurnEvents.{call_at_act, if_at_act, ready, taken}
use Rattle.gh_core.specs.declared.current.CurrentCall.{CurrentCall}
use Rattle.gh_events.specs.declared.event.Event.{Event}
use Rattle.gh_events.specs.declared.event.Event.TheVariants.{Take}
use Rattle.gh_schedules.proofs.Acting.{IsDone, acted_allows}
use Rattle.gh_schedules.proofs.ActItems.{IsPrepared, preparing_leads}
use Rattle.gh_schedules.proofs.EntryReferences.{MakesNone, Objects, event_objects}
use Rattle.gh_events.proofs.Finding.{put_here, put_other}
use Rattle.gh_events.proofs.LengthBound.{history_is_short}
use Rattle.gh_events.proofs.LookCalls.{entries_all}
use Rattle.gh_events.proofs.SoundEvents.{event_keeps_sound}
use Rattle.gh_schedules.proofs.SweepLaw.{is_sweeping}
use Rattle.gh_schedules.proofs.SweepSteps.{IsSweeping}
use Rattle.gh_schedules.proofs.TraceLaws.{after_append}
use Rattle.gh_schedules.proofs.TurnItems.{may_take, take_begins}
use Rattle.gh_events.proofs.ValidEntries.{event_fits}
use Rattle.gh_items.specs.Acts.{ActsNext, act_entry, after_judged, judged_in, in_state, with_judged}
use Rattle.gh_items.specs.Stands.{Stands, with_call}
use Rattle.gh_items.specs.declared.progress.Progress.{Progress}
use Rattle.gh_items.specs.declared.progress.Seat.{Seat}
use Rattle.gh_items.proofs.LikeLemmas.{IsLike}
use Rattle.gh_items.proofs.VerdictLemmas.{done_stands, refused_stands}
use Rattle.gh_model.specs.Act.{Done, Judges}
use Rattle.gh_model.specs.Legal.{is_revoke}
use Rattle.gh_model.specs.declared.plain.Judged.{Judged}
use Rattle.gh_model.specs.declared.plain.Judged.TheVariants as says
use Rattle.gh_model.specs.declared.state.State.{State}

-- a create sweeps
create_sweeps : (call : Call) → is_create call ≡ true → sweeps call ≡ true
create_sweeps (calls.Create partition cspace number) creates = refl
create_sweeps _ creates = absurd (let never : ⊥ = cc in never)

module _ (conf : Config) (at : ℕ) (call : Current) (next : ActsNext conf at call) where
  abbrev Taken : Config
  Taken = taken conf at

  pub taken_sound : IsSound (taken conf at)
  taken_sound = event_keeps_sound conf (Take (cpu_no at)) next.steady.sound (may_take conf at next.steady.sound next.is_cpu next.steady.free call next.is_ready)

  pub begins : HasNotBegun (taken conf at) at
  begins = take_begins conf at next.steady.sound next.is_cpu next.steady.free call next.is_ready

  its_call : begins.call ≡ call
  its_call =
      let taken_now : ((taken conf at).cpu at).current ≡ Some call = ap (λ (cpu : Cpu). cpu.current) (put_here conf.cpu at _) ∙ next.is_ready in
      let both : Some begins.call ≡ Some call = sym begins.in_act.is_current ∙ taken_now in
      cc

  sweeping : IsSweeping (taken conf at) at begins.call
  sweeping = is_sweeping (taken conf at) at taken_sound next.is_cpu (record { apart = next.steady.blocks.apart; few = next.steady.blocks.few; each = next.steady.blocks.each }) begins

  pub taken_now : ((taken conf at).cpu at).current ≡ Some call
  taken_now = ap (λ (cpu : Cpu). cpu.current) (put_here conf.cpu at _) ∙ next.is_ready

  -- what prepares it is possible
  pub prepares_done : AreDone (taken conf at) (preparing at (taken conf at))
  prepares_done = (preparing_leads at begins.call (taken conf at) sweeping next.steady.nine).done

  -- the configuration in which the act is judged
  pub prepared : IsPrepared (judged_in conf at) at call
  unfolding and_then taking
  prepared = subst (IsPrepared (after_all (taken conf at) (preparing at (taken conf at))) at) its_call (preparing_leads at begins.call (taken conf at) sweeping next.steady.nine).behind

  -- the item leads on from it
  pub act_is : after_all conf (act at conf) ≡ after_judged (judged_in conf at) at
  unfolding act and_then taking
  act_is =
      after_append (taken conf at) (preparing at (taken conf at))
      (and_then (acting at) (and_then (freeing at) (unpins at)) (after_all (taken conf at) (preparing at (taken conf at))))

  -- nothing prepares the act of another call
  pub plain_judged : sweeps call.given.call ≡ false → is_revoke call.given.call ≡ false → judged_in conf at ≡ taken conf at
  unfolding and_then taking preparing
  plain_judged unswept other =
      let taken_now : ((taken conf at).cpu at).current ≡ Some call = ap (λ (cpu : Cpu). cpu.current) (put_here conf.cpu at _) ∙ next.is_ready in
      ap (λ (current : Option Current). after_all (taken conf at) (prepares at (taken conf at) current)) taken_now
      ∙ ap (after_all (taken conf at))
      (none (sweep at (taken conf at)) (parts at (length (plain_caps (present (taken conf at)) (object_revoked call))) (taken conf at))
      (sweeps call.given.call) (is_revoke call.given.call) unswept other)
    where
      none : (first second : List Event) (swept revokes : Bool) → swept ≡ false → revokes ≡ false
          → (if swept then first else (if revokes then second else [])) ≡ []
      none first second true revokes unswept other = absurd (let never : ⊥ = cc in never)
      none first second false true unswept other = absurd (let never : ⊥ = cc in never)
      none first second false false unswept other = refl

-- the turn is taken, and the progress stands as it did

module _ (conf : Config) (at : ℕ) (call : Current) (now : (conf.cpu at).current ≡ Some call) (stage : call.stage ≡ AtAct) where
  taken_here : (taken conf at).cpu at ≡ conf.cpu at
  taken_here =
      put_here conf.cpu at _
      ∙ (let here : is_some (conf.cpu at).current ≡ true = ap is_some now in
      let comes : ready (conf.cpu at) ≡ (conf.cpu at).current =
      ap (λ (current : Option Current). call_at_act current (conf.cpu at).pins (conf.cpu at).next) now
      ∙ ap (λ (one : Stage). if_at_act one call) stage ∙ sym now in
      ap (λ (b : Bool). record (conf.cpu at) { next = if b then (conf.cpu at).next else None; current = ready (conf.cpu at) }) here
      ∙ ap (λ (current : Option Current). record (conf.cpu at) { current = current }) comes)

  pub taken_like : IsLike conf (taken conf at)
  taken_like = record {
    boot = refl;
    history = refl;
    index = λ n. refl;
    cpu = λ n. sym (by_same n (n == at) refl);
  }
    where
      by_same : (n : ℕ) (same : Bool) → (n == at) ≡ same → (taken conf at).cpu n ≡ conf.cpu n
      by_same n true same = ap (taken conf at).cpu (eqb-true n at same) ∙ taken_here ∙ ap conf.cpu (sym (eqb-true n at same))
      by_same n false differs = put_other conf.cpu at _ n differs

-- the act is judged where the progress stands

module _ (progress : Progress) (conf : Config) (at : ℕ) (call : CurrentCall) (next : ActsNext conf at (current_of call))
    (stands : Stands (with_call progress at (Some call)) (judged_in conf at)) (seat : Seat) (seated : slice_get progress.seats at ≡ Some seat)
    (unswept : sweeps call.given.call ≡ false) where
  is_prepared : IsPrepared (judged_in conf at) at (current_of call)
  is_prepared = prepared conf at (current_of call) next

  there : judged progress.plain at (current_of call) ≡ judged (present (judged_in conf at)) at (current_of call)
  there = ap (λ (s : State). judged s at (current_of call)) stands.state

  makes_none : (new : State) (reply : Reply) → judged (present (judged_in conf at)) at (current_of call) ≡ Done new reply
      → MakesNone (present (judged_in conf at)) (logged (act_entry at call) (current_of call))
  makes_none new reply done =
      let is : IsDone (judged_in conf at) at (current_of call) is_prepared.judges = record { new = new; reply = reply; is = done } in
      by_objects (event_objects (present (judged_in conf at)) (logged (act_entry at call) (current_of call)) is_prepared.judges.active.sound.valid.valid
      (event_fits (judged_in conf at) at (act_entry at call) is_prepared.judges.holder (current_of call) (judged_in conf at).index
      (acted_allows (judged_in conf at) at (current_of call) is_prepared.judges is) is_prepared.judges.active.sound.valid))
    where
      by_objects : Objects (present (judged_in conf at)) (logged (act_entry at call) (current_of call))
          → MakesNone (present (judged_in conf at)) (logged (act_entry at call) (current_of call))
      by_objects (inl none) = none
      by_objects (inr one) =
          let swept : sweeps call.given.call ≡ true = create_sweeps call.given.call one.creates in
          let not_swept : sweeps call.given.call ≡ false = unswept in
          absurd (let never : ⊥ = cc in never)

  pub judged_stands : (judged_as : Judged) (new : State) → Judges progress.plain new judged_as (judged progress.plain at (current_of call))
      → Stands (with_judged (in_state progress new) at seat call judged_as) (after_all conf (act at conf))
  judged_stands (says.Done reply) new is =
      let done : judged (present (judged_in conf at)) at (current_of call) ≡ Done new reply = sym there ∙ is in
      subst (Stands (with_judged (in_state progress new) at seat call (says.Done reply))) (sym (act_is conf at (current_of call) next))
      (done_stands progress (judged_in conf at) at call stands next.is_cpu seat seated is_prepared new reply done (makes_none new reply done))
  judged_stands (says.Refused reply) new is =
      subst (λ (s : State). Stands (with_judged (in_state progress s) at seat call (says.Refused reply)) (after_all conf (act at conf))) (sym is.1)
      (subst (Stands (with_judged progress at seat call (says.Refused reply))) (sym (act_is conf at (current_of call) next))
      (refused_stands progress (judged_in conf at) at call stands next.is_cpu seat seated is_prepared reply (sym there ∙ is.0) unswept))

  -- the history has room for an entry
  pub entries_few : progress.plain.entries < HISTORY_ENTRIES
  entries_few =
      let all : (present (judged_in conf at)).entries ≡ (judged_in conf at).boot.entries + length (judged_in conf at).history =
      entries_all (judged_in conf at).boot (judged_in conf at).history in
      let state : progress.plain.entries ≡ (present (judged_in conf at)).entries = ap (λ (s : State). s.entries) stands.state in
      omega (
        arith,
        all,
        state,
        is_prepared.judges.active.sound.begins,
        history_is_short (judged_in conf at) is_prepared.judges.active.sound.long is_prepared.judges.active.sound.calls,
      )
