-- The act of a call is judged: where it is done the history gets its entry, and the call has its end.
use Rattle.std.proofs.Common.{◌≡◌, ◌==◌, ◌+◌, ◌-◌, ◌<◌, ◌∙◌, ℕ, Bool, true, false, List, [], ◌∷◌, ◌++◌, refl, subst, sym, ap, arith, length, length-append, map, Option, Some, None, is_some, slice_get, if◌then◌else◌}
use Rattle.std.specs.Prelude.{◌||◌, slice_index}
use Rattle.std.specs.List.{list_any}
use Rattle.std.proofs.lemmas.List.{take-append-le}
use Rattle.std.proofs.lemmas.List.Folds.{list_any-append}
use Rattle.std.proofs.lemmas.List.Sums.{fold-append}
use Rattle.gh_base.specs.declared.call.Call.{Call}
use Rattle.gh_base.specs.declared.call.Call.TheVariants as calls
use Rattle.gh_base.specs.declared.frame.Reply.{Reply}
use Rattle.gh_base.specs.declared.limits.TheConstants.{CPUS}
use Rattle.gh_base.specs.declared.mark.End.{End}
use Rattle.gh_base.specs.declared.mark.End.TheVariants as ends
use Rattle.gh_base.specs.declared.mark.Held.{Held}
use Rattle.gh_schedules.specs.Committing.{committing, cpu_no}
use Rattle.gh_events.specs.Config.{Config, Current, Holder, entries, has_acted, has_part, is_acted, judged, present}
use Rattle.gh_events.specs.Entries.{logged, next_state}
use Rattle.gh_events.specs.HolderEvents.{is_done}
use Rattle.gh_schedules.specs.Items.{acting, acts, freeing, sweeps, unpins}
use Rattle.gh_core.specs.Running.{current_of}
use Rattle.gh_schedules.specs.Trace.{after_all, and_then}
use Rattle.gh_events.specs.TurnEvents.{Ending, acted_ending, causes, ending, has_causes, refused_ending}
use Rattle.gh_core.specs.declared.current.CurrentCall.{CurrentCall}
use Rattle.gh_events.specs.declared.event.Event.{Event}
use Rattle.gh_schedules.proofs.Acting.{IsDone, acted_allows}
use Rattle.gh_schedules.proofs.ActItems.{IsPrepared}
use Rattle.gh_schedules.proofs.Commits.{IsCommitted, entered_by, plain_commits}
use Rattle.gh_schedules.proofs.EntryReferences.{MakesNone}
use Rattle.gh_events.proofs.LookCalls.{entries_all}
use Rattle.gh_schedules.proofs.TraceLaws.{after_append}
use Rattle.gh_items.specs.Acts.{act_entry, after_judged, in_state, with_entry, with_judged}
use Rattle.gh_items.specs.Stands.{Stands, with_call, with_end}
use Rattle.gh_items.specs.Swept.{refused_end, with_refusal}
use Rattle.gh_items.specs.declared.progress.Progress.{Progress}
use Rattle.gh_items.specs.declared.progress.Seat.{Seat}
use Rattle.gh_items.proofs.EntryLemmas.{entry_stands}
use Rattle.gh_items.proofs.FreeLemmas.{free_stands}
use Rattle.gh_items.proofs.SeatLemmas.{current_is}
use Rattle.gh_model.specs.Act.{Verdict, Done, Refused}
use Rattle.gh_model.specs.History as history
use Rattle.gh_model.specs.Legal.{is_short}
use Rattle.gh_model.specs.Marks.{word_of}
use Rattle.gh_model.specs.declared.entry.Entry.{Entry}
use Rattle.gh_model.specs.declared.entry.Entry.TheVariants.{Acted}
use Rattle.gh_model.specs.declared.plain.Judged.TheVariants as says
use Rattle.gh_model.specs.declared.state.State.{State}
use Rattle.gh_model.proofs.RunLists.{take_all}

-- want of units refuses only a call that sweeps
not_short : (call : Call) (reply : Reply) → sweeps call ≡ false → is_short call reply ≡ false
not_short (calls.Create partition cspace number) reply unswept = absurd (let never : ⊥ = cc in never)
not_short (calls.ConfigurePartition cap quota) reply unswept = absurd (let never : ⊥ = cc in never)
not_short (calls.ConfigureQueue cap depth size) reply unswept = absurd (let never : ⊥ = cc in never)
not_short _ reply unswept = refl

-- the end of a refused act, by what the holder committed and by the reply
refused_by : (acted part zero short all : Bool) (entered : Option Ending) (other one : Ending) → acted ≡ false
    → is_some (if acted then entered else (if part then None else (if zero then None else (if short then (if all then Some other else None) else Some one)))) ≡ true
    → (if acted then entered else (if part then None else (if zero then None else (if short then (if all then Some other else None) else Some one))))
    ≡ Some (if short then other else one)
refused_by true part zero short all entered other one not_acted some = absurd (let never : ⊥ = cc in never)
refused_by false true zero short all entered other one not_acted some = absurd (let never : ⊥ = cc in never)
refused_by false false true short all entered other one not_acted some = absurd (let never : ⊥ = cc in never)
refused_by false false false true true entered other one not_acted some = refl
refused_by false false false true false entered other one not_acted some = absurd (let never : ⊥ = cc in never)
refused_by false false false false all entered other one not_acted some = refl

-- its reply is the same for either end
either_end : (short : Bool) (first second : End) (reply : Reply)
    → (if short then record { end = first; reply = reply } else record { end = second; reply = reply })
    ≡ (let all : Ending = record { end = if short then first else second; reply = reply } in all)
either_end true first second reply = refl
either_end false first second reply = refl

module _ (progress : Progress) (conf : Config) (at : ℕ) (call : CurrentCall) (stands : Stands (with_call progress at (Some call)) conf)
    (within : at < CPUS) (seat : Seat) (seated : slice_get progress.seats at ≡ Some seat) (prepared : IsPrepared conf at (current_of call)) where
  abbrev one : Current
  one = current_of call

  abbrev holder : Holder
  holder = prepared.judges.holder

  now : (conf.cpu at).current ≡ Some (current_of call)
  now = current_is progress conf at call stands within

  -- the number of entries
  counted : progress.plain.entries ≡ entries conf
  counted =
      let all : (present conf).entries ≡ conf.boot.entries + length conf.history = entries_all conf.boot conf.history in
      let state : progress.plain.entries ≡ (present conf).entries = ap (λ (s : State). s.entries) stands.state in
      omega (arith, all, state, prepared.judges.active.sound.begins)

  -- a refusal

  module _ (reply : Reply) (refused : judged (present conf) at (current_of call) ≡ Refused reply) where
    abbrev held : List Held
    held = causes holder (present conf)

    abbrev its_end : End
    its_end = refused_end call.given.call reply (entries conf) (causes holder (present conf))

    refusal_is : ending conf at holder one ≡ Some (record { end = its_end; reply = reply })
    refusal_is =
        let is : ending conf at holder one
        ≡ (if has_acted holder then acted_ending (entries conf) (judged (history.state_at conf.boot conf.history (entries conf - 1)) at one)
        else (if has_part holder then None else refused_ending holder (present conf) (entries conf) call.given.call (Refused reply))) =
        ap (λ (verdict : Verdict). if has_acted holder then acted_ending (entries conf) (judged (history.state_at conf.boot conf.history (entries conf - 1)) at one)
        else (if has_part holder then None else refused_ending holder (present conf) (entries conf) call.given.call verdict)) refused in
        is
        ∙ refused_by (has_acted holder) (has_part holder) (slice_index reply.x 0 == 0) (is_short call.given.call reply) (has_causes holder (present conf)) _
        (record { end = ends.Short (entries conf) (causes holder (present conf)); reply = reply }) (record { end = ends.Act (entries conf); reply = reply })
        prepared.judges.not_acted
        (sym (ap is_some is) ∙ prepared.refused (ap is_done refused))
        ∙ ap Some (either_end (is_short call.given.call reply) (ends.Short (entries conf) (causes holder (present conf))) (ends.Act (entries conf)) reply)

    none_acts : acting at conf ≡ []
    unfolding acting
    none_acts = ap (acts at conf) now ∙ ap (λ (verdict : Verdict). if is_done verdict then committing at (Acted (cpu_no at) call.given.number) conf else []) refused

    pub refusal_stands : Stands (with_refusal progress at seat call (causes holder (present conf)) reply) (after_judged conf at)
    unfolding and_then
    refusal_stands =
        let ended : Stands (with_end progress at seat call its_end reply) (after_all conf (and_then (freeing at) (unpins at) conf)) =
        free_stands progress conf at call stands within seat seated holder prepared.judges.active.has_turn.turn (record { end = its_end; reply = reply }) refusal_is in
        subst (λ (place : ℕ). Stands (with_end progress at seat call (refused_end call.given.call reply place (causes holder (present conf))) reply) (after_judged conf at)) (sym counted)
        (subst (λ (events : List Event). Stands (with_end progress at seat call its_end reply)
        (after_all conf (events ++ and_then (freeing at) (unpins at) (after_all conf events)))) (sym none_acts) ended)

    -- of a call that doesn't sweep
    pub refused_stands : sweeps call.given.call ≡ false → Stands (with_judged progress at seat call (says.Refused reply)) (after_judged conf at)
    refused_stands unswept =
        subst (λ (short : Bool). Stands (with_end progress at seat call (if short then ends.Short progress.plain.entries (causes holder (present conf)) else ends.Act progress.plain.entries) reply) (after_judged conf at))
        (not_short call.given.call reply unswept) refusal_stands

  -- an act that is done

  module _ (new : State) (reply : Reply) (done : judged (present conf) at (current_of call) ≡ Done new reply) where
    abbrev entry : Entry
    entry = act_entry at call

    is_made : IsDone conf at one prepared.judges
    is_made = record { new = new; reply = reply; is = done }

    abbrev behind : Config
    behind = after_all conf (committing at entry conf)

    -- the state behind is the verdict's
    pub new_is : next_state conf one entry ≡ new
    new_is =
        let may : history.may_act (present conf) at call.given.call (map word_of one.seen) ≡ true =
        (acted_allows conf at one prepared.judges is_made).allowed.may_act in
        ap (λ (b : Bool). if b then history.after_verdict (present conf) (judged (present conf) at one) else history.numbered (present conf)) may
        ∙ ap (history.after_verdict (present conf)) done

    -- the end is that entry
    abbrev grows : List history.Event
    grows = conf.history ++ logged entry one ∷ []

    has_one : (before : List Entry) → list_any is_acted (before ++ entry ∷ []) ≡ true
    has_one before = list_any-append is_acted before (entry ∷ []) ∙ either (list_any is_acted before)
      where
        either : (a : Bool) → (a || (true || false)) ≡ true
        either true = refl
        either false = refl

    longer : length (conf.history ++ logged entry one ∷ []) ≡ length conf.history + 1
    longer = length-append conf.history (logged entry one ∷ [])

    before_it : history.state_at conf.boot (conf.history ++ logged entry one ∷ []) (length (conf.history ++ logged entry one ∷ []) - 1) ≡ present conf
    before_it =
        let last : length (conf.history ++ logged entry one ∷ []) - 1 ≡ length conf.history = omega (arith, longer) in
        ap (history.state_at conf.boot (conf.history ++ logged entry one ∷ [])) last
        ∙ ap (history.replay conf.boot) (take-append-le (length conf.history) conf.history (logged entry one ∷ []) (omega arith) ∙ take_all conf.history)

    abbrev its : Ending
    its = record { end = ends.Entry (length (conf.history ++ logged entry one ∷ [])); reply = reply }

    number_is : new.entries ≡ length (conf.history ++ logged entry one ∷ [])
    number_is =
        let all : (history.replay conf.boot (conf.history ++ logged entry one ∷ [])).entries ≡ conf.boot.entries + length (conf.history ++ logged entry one ∷ []) =
        entries_all conf.boot (conf.history ++ logged entry one ∷ []) in
        let grown : history.replay conf.boot (conf.history ++ logged entry one ∷ []) ≡ next_state conf one entry =
        fold-append history.after_event conf.boot conf.history (logged entry one ∷ []) in
        let same : (history.replay conf.boot (conf.history ++ logged entry one ∷ [])).entries ≡ new.entries =
        ap (λ (s : State). s.entries) (grown ∙ new_is) in
        omega (arith, all, same, prepared.judges.active.sound.begins)

    one_acts : acting at conf ≡ committing at entry conf
    unfolding acting
    one_acts = ap (acts at conf) now ∙ ap (λ (verdict : Verdict). if is_done verdict then committing at (Acted (cpu_no at) call.given.number) conf else []) done

    -- whatever it makes: the progress behind the entry, and then the end
    module _ (later : ℕ → ℕ) (dead : ℕ → Bool) (revived : List ℕ) (commits : IsCommitted conf holder entry one later dead revived behind)
        (now_at : Progress) (its_seat : slice_get now_at.seats at ≡ Some seat) (stood : Stands (with_call now_at at (Some call)) behind) where
      abbrev entered : Holder
      entered = entered_by holder entry revived commits.owed

      ending_of : (there : Config) → there.boot ≡ conf.boot → there.history ≡ conf.history ++ logged entry one ∷ []
          → ending there at entered one ≡ Some its
      ending_of there boot grew =
          let acted_now : has_acted entered ≡ true = has_one holder.entries in
          rw acted_now
          (ap (λ (both : State × List history.Event). acted_ending (length both.1) (judged (history.state_at both.0 both.1 (length both.1 - 1)) at one))
          (let same : (there.boot, there.history) ≡ (conf.boot, conf.history ++ logged entry one ∷ []) = cc in same)
          ∙ ap (λ (s : State). acted_ending (length (conf.history ++ logged entry one ∷ [])) (judged s at one)) before_it
          ∙ ap (acted_ending (length (conf.history ++ logged entry one ∷ []))) done)

      pub entered_stands : Stands (with_end now_at at seat call (ends.Entry new.entries) reply) (after_judged conf at)
      unfolding and_then
      entered_stands =
          let ended : Stands (with_end now_at at seat call its.end reply) (after_all behind (and_then (freeing at) (unpins at) behind)) =
          free_stands now_at behind at call stood within seat its_seat entered
          (ap (λ (c : Config). c.turn) commits.is) its
          (ending_of behind (ap (λ (c : Config). c.boot) commits.is) (ap (λ (c : Config). c.history) commits.is)) in
          subst (λ (place : ℕ). Stands (with_end now_at at seat call (ends.Entry place) reply) (after_judged conf at)) (sym number_is)
          (subst (λ (events : List Event). Stands (with_end now_at at seat call its.end reply)
          (after_all conf (events ++ and_then (freeing at) (unpins at) (after_all conf events)))) (sym one_acts)
          (subst (Stands (with_end now_at at seat call its.end reply))
          (sym (after_append conf (committing at entry conf) (and_then (freeing at) (unpins at) behind))) ended))

    -- one that makes no object

    module _ (makes : MakesNone (present conf) (logged (act_entry at call) (current_of call))) where
      commits : IsCommitted conf holder entry one conf.index conf.dead holder.revived behind
      commits = (plain_commits conf at entry holder one prepared.judges.active (acted_allows conf at one prepared.judges is_made) makes).behind

      stood : Stands (with_call (with_entry (in_state progress new) entry) at (Some call)) behind
      stood =
          subst (λ (s : State). Stands (with_entry (in_state (with_call progress at (Some call)) s) entry) behind) new_is
          (entry_stands (with_call progress at (Some call)) conf stands entry one makes.none holder conf.dead holder.revived behind commits)

      pub done_stands : Stands (with_judged (in_state progress new) at seat call (says.Done reply)) (after_judged conf at)
      done_stands =
          entered_stands conf.index conf.dead holder.revived commits (with_entry (in_state progress new) entry) seated stood
