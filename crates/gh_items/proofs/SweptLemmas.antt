-- The act of a call that sweeps, behind its sweep.
use Rattle.std.proofs.Common.{◌≡◌, ◌+◌, ◌<◌, ◌∙◌, inl, inr, ℕ, Bool, true, false, List, [], ◌∷◌, ◌++◌, length, refl, subst, sym, ap, arith, map, Option, Some, None, option_map, slice_get, if◌then◌else◌}
use Rattle.gh_base.specs.declared.call.Call.{Call}
use Rattle.gh_base.specs.declared.call.Call.TheVariants as calls
use Rattle.gh_base.specs.declared.frame.Reply.{Reply}
use Rattle.gh_base.specs.declared.ids.ObjIndex.{ObjIndex}
use Rattle.gh_base.specs.declared.ids.Serial.{Serial}
use Rattle.gh_base.specs.declared.kind.Kind.{Kind}
use Rattle.gh_base.specs.declared.limits.TheConstants.{CPUS}
use Rattle.gh_base.specs.declared.mark.End.TheVariants as ends_as
use Rattle.gh_base.specs.declared.mark.Held.{Held}
use Rattle.gh_base.specs.declared.mark.Mark.{Mark}
use Rattle.gh_core.specs.Running.{current_of}
use Rattle.gh_core.specs.declared.current.CurrentCall.{CurrentCall}
use Rattle.gh_events.specs.Config.{Config, Current, Holder, judged, present, put}
use Rattle.gh_events.specs.Entries.{logged, next_state}
use Rattle.gh_events.specs.HolderEvents.{is_create, is_done}
use Rattle.gh_events.specs.TurnEvents.{causes, taken}
use Rattle.gh_events.proofs.ValidEntries.{event_fits}
use Rattle.gh_invariant.specs.Events.{judged_by}
use Rattle.gh_invariant.specs.Lives.{lives}
use Rattle.gh_items.specs.Acts.{ActsNext, act_entry, after_judged, in_state, judged_in, with_entry}
use Rattle.gh_items.specs.NewIndex.{index_in_block, index_made, place_for}
use Rattle.gh_items.specs.Calling.{AddsMark}
use Rattle.gh_items.specs.Stands.{Stands, index_in, index_number, mark_at, noted_in, with_call}
use Rattle.gh_items.specs.SweepReads.{StandsWith}
use Rattle.gh_items.specs.Swept.{refused_end, with_done, with_place, with_refusal}
use Rattle.gh_items.specs.declared.progress.Progress.{Progress}
use Rattle.gh_items.specs.declared.progress.Seat.{Seat}
use Rattle.gh_items.proofs.ActLemmas.{act_is, begins, prepared, taken_now, taken_sound}
use Rattle.gh_items.proofs.IndexLemmas.{new_same, place_is_new}
use Rattle.gh_items.proofs.MadeLemmas.{made_serial, made_stands}
use Rattle.gh_items.proofs.SweepReadLemmas.{noted_is, place_is as indexed_is}
use Rattle.gh_items.proofs.VerdictLemmas.{done_stands, entered_stands, new_is, refusal_stands}
use Rattle.gh_model.specs.Act.{Done, Judges, Refused, grants_of}
use Rattle.gh_model.specs.Decisions.{grant_at}
use Rattle.gh_model.specs.History.{may_act}
use Rattle.gh_model.specs.Legal.{is_revoke}
use Rattle.gh_model.specs.Marks.{word_of}
use Rattle.gh_model.specs.ObjectCalls.{new_master, new_object}
use Rattle.gh_model.specs.declared.plain.Judged.{Judged}
use Rattle.gh_model.specs.declared.plain.Judged.TheVariants as says
use Rattle.gh_model.specs.declared.state.State.{State}
use Rattle.gh_schedules.specs.Causes.{causes_now}
use Rattle.gh_schedules.specs.Committing.{committing}
use Rattle.gh_schedules.specs.Indices.{HasBlocks, kind_made, new_index}
use Rattle.gh_schedules.specs.Items.{act, object_revoked, parts, plain_caps, preparing, prepares, sweeps, taking}
use Rattle.gh_schedules.specs.Sweep.{HasNotBegun, sweep}
use Rattle.gh_schedules.specs.Trace.{after_all, and_then}
use Rattle.gh_schedules.specs.Places.{added, new_place, places_of, places_with}
use Rattle.gh_schedules.proofs.BlocksStay.{places_next}
use Rattle.gh_model.specs.declared.change.Change.{Change}
use Rattle.gh_schedules.proofs.Acting.{IsDone, acted_allows}
use Rattle.gh_schedules.proofs.ActItems.{IsPrepared, new_home_lives, new_is_free}
use Rattle.gh_schedules.proofs.Commits.{IsCommitted}
use Rattle.gh_schedules.proofs.CreateMakes.{create_makes}
use Rattle.gh_schedules.proofs.Creates.{create_commits}
use Rattle.gh_schedules.proofs.EntryReferences.{MakesNone, MakesOne, Objects, event_objects}
use Rattle.gh_schedules.proofs.SweepLaw.{sweep_begins, sweep_causes_now}

-- a call that is no create makes no object
none_made : (call : Call) → is_create call ≡ false → kind_made call ≡ None
none_made (calls.Create partition cspace number) other = absurd (let never : ⊥ = cc in never)
none_made _ other = refl

-- an index by its number
none_of : (index : Option ObjIndex) → option_map index_number index ≡ None → index ≡ None
none_of None is = refl
none_of (Some one) is = absurd (let never : ⊥ = cc in never)

record IsNumber (index : Option ObjIndex) (number : ℕ) : Type 0 where
  one : ObjIndex
  there : index ≡ Some one
  is : one.0 ≡ number

number_of : (index : Option ObjIndex) (number : ℕ) → option_map index_number index ≡ Some number → IsNumber index number
number_of None number is = absurd (let never : ⊥ = cc in never)
number_of (Some one) number is = record { one = one; there = refl; is = let same : one.0 ≡ number = cc in same }

-- behind the sweep

module _ (conf : Config) (at : ℕ) (call : Current) (next : ActsNext conf at call) (swept : sweeps call.given.call ≡ true) where
  -- the act is judged there
  pub swept_judged : judged_in conf at ≡ after_all (taken conf at) (sweep at (taken conf at))
  unfolding and_then taking preparing
  swept_judged =
      ap (λ (current : Option Current). after_all (taken conf at) (prepares at (taken conf at) current)) (taken_now conf at call next)
      ∙ ap (λ (b : Bool). after_all (taken conf at) (if b then sweep at (taken conf at)
      else (if is_revoke call.given.call then parts at (length (plain_caps (present (taken conf at)) (object_revoked call))) (taken conf at) else []))) swept

  blocks : HasBlocks (taken conf at)
  blocks = record { apart = next.steady.blocks.apart; few = next.steady.blocks.few; each = next.steady.blocks.each }

  -- nothing of the act was committed
  pub judged_begins : HasNotBegun (judged_in conf at) at
  judged_begins =
      subst (λ (there : Config). HasNotBegun there at) (sym swept_judged)
      (sweep_begins (taken conf at) at (taken_sound conf at call next) next.is_cpu blocks (begins conf at call next))

  -- and the causes are what the counters and the counts are
  pub judged_causes : (holder : Holder) → (judged_in conf at).turn ≡ Some holder → causes holder (present (judged_in conf at)) ≡ causes_now (judged_in conf at)
  judged_causes =
      subst (λ (there : Config). (holder : Holder) → there.turn ≡ Some holder → causes holder (present there) ≡ causes_now there) (sym swept_judged)
      (λ holder turn. sweep_causes_now (taken conf at) at (taken_sound conf at call next) next.is_cpu blocks (begins conf at call next) next.steady.nine holder turn)

module _ (progress : Progress) (conf : Config) (at : ℕ) (call : CurrentCall) (next : ActsNext conf at (current_of call))
    (stands : Stands (with_call progress at (Some call)) (judged_in conf at)) (seat : Seat) (seated : slice_get progress.seats at ≡ Some seat)
    (swept : sweeps call.given.call ≡ true) where
  abbrev there : Config
  there = judged_in conf at

  abbrev one : Current
  one = current_of call

  -- the objects that its looks granted
  abbrev grants : List Serial
  grants = grants_of call.given.call (map word_of one.seen)

  is_prepared : IsPrepared there at (current_of call)
  is_prepared = prepared conf at (current_of call) next

  pub stands_with : StandsWith progress at call there
  stands_with = record { stands = stands; sound = is_prepared.judges.active.sound }

  same_verdict : judged progress.plain at (current_of call) ≡ judged (present there) at (current_of call)
  same_verdict = ap (λ (s : State). judged s at (current_of call)) stands.state

  pub seats_there : at < length progress.seats
  seats_there = omega (arith, next.is_cpu, stands.nine_seats)

  -- a refusal
  pub swept_refused : (reply : Reply) → judged progress.plain at (current_of call) ≡ Refused reply
      → Stands (with_refusal progress at seat call (causes_now there) reply) (after_all conf (act at conf))
  swept_refused reply refused =
      subst (λ (held : List Held). Stands (with_refusal progress at seat call held reply) (after_all conf (act at conf)))
      (judged_causes conf at (current_of call) next swept is_prepared.judges.holder is_prepared.judges.active.has_turn.turn)
      (subst (Stands (with_refusal progress at seat call (causes is_prepared.judges.holder (present there)) reply)) (sym (act_is conf at (current_of call) next))
      (refusal_stands progress there at call stands next.is_cpu seat seated is_prepared reply (sym same_verdict ∙ refused)))

  -- an act that is done

  module _ (new : State) (reply : Reply) (done : judged progress.plain at (current_of call) ≡ Done new reply) (index : Option ObjIndex)
      (indexed : option_map index_number index ≡ index_made progress.plain (noted_in progress.noted) (index_in progress.places) call.given.call grants)
      (place : ℕ) (placed : place ≡ place_for progress.plain (noted_in progress.noted)) where
    abbrev s : State
    s = present there

    done_there : judged (present there) at (current_of call) ≡ Done new reply
    done_there = sym same_verdict ∙ done

    is_made : IsDone there at (current_of call) is_prepared.judges
    is_made = record { new = new; reply = reply; is = done_there }

    abbrev Behind : Option ObjIndex → Type 0
    Behind index = Stands (with_done (in_state progress new) at seat call index place reply) (after_judged there at)

    -- no object
    other_stands : is_create call.given.call ≡ false → Stands (with_done (in_state progress new) at seat call index place reply) (after_judged there at)
    other_stands other =
        subst (λ (index : Option ObjIndex). Stands (with_done (in_state progress new) at seat call index place reply) (after_judged there at))
        (sym (none_of index (indexed ∙ ap (option_map (λ (k : Kind). index_in_block progress.plain (index_in progress.places) (noted_in progress.noted (grant_at grants 0).0))) (none_made call.given.call other))))
        (done_stands progress there at call stands next.is_cpu seat seated is_prepared new reply done_there
        (by_objects (event_objects (present there) (logged (act_entry at call) (current_of call)) is_prepared.judges.active.sound.valid.valid
        (event_fits there at (act_entry at call) is_prepared.judges.holder (current_of call) there.index
        (acted_allows there at (current_of call) is_prepared.judges is_made) is_prepared.judges.active.sound.valid))))
      where
        by_objects : Objects (present there) (logged (act_entry at call) (current_of call))
            → MakesNone (present there) (logged (act_entry at call) (current_of call))
        by_objects (inl none) = none
        by_objects (inr made) =
            let creates : is_create call.given.call ≡ true = made.creates in
            let not_creates : is_create call.given.call ≡ false = other in
            absurd (let never : ⊥ = cc in never)

    -- a new object
    module _ (creates : is_create call.given.call ≡ true) where
      may : may_act (present there) at call.given.call (map word_of (current_of call).seen) ≡ true
      may = (acted_allows there at (current_of call) is_prepared.judges is_made).allowed.may_act

      makes : MakesOne (present there) (logged (act_entry at call) (current_of call))
      makes = create_makes (present there) at call.given.number (current_of call) creates may (ap is_done done_there)

      abbrev home : ℕ
      home =
          new_index (present there) (places_of there) there.index (grant_at grants 0).0

      same_index : (serial : ℕ) → lives (present there).objects serial ≡ true → index_in progress.places serial ≡ there.index serial
      same_index serial alive = indexed_is progress at call there stands_with serial alive

      same_noted : (serial : ℕ) → lives (present there).objects serial ≡ true → noted_in progress.noted serial ≡ places_of there serial
      same_noted serial alive = noted_is progress at call there stands_with serial alive

      home_is : option_map index_number index ≡ Some home
      home_is =
          indexed
          ∙ ap (option_map (λ (k : Kind). index_in_block progress.plain (index_in progress.places) (noted_in progress.noted (grant_at grants 0).0))) makes.new.numbered
          ∙ ap (λ (state : State). Some (index_in_block state (index_in progress.places) (noted_in progress.noted (grant_at grants 0).0))) stands.state
          ∙ ap (λ (n : ℕ). Some (index_in_block (present there) (index_in progress.places) n))
          (same_noted (grant_at grants 0).0 (new_home_lives at (current_of call) there is_prepared is_made makes))
          ∙ ap Some
          (new_same (present there) is_prepared.judges.active.sound.valid.valid (index_in progress.places) there.index same_index
          (places_of there (grant_at grants 0).0))

      place_is : place ≡ new_place (present there) (places_of there)
      place_is =
          placed ∙ ap (λ (state : State). place_for state (noted_in progress.noted)) stands.state
          ∙ place_is_new (present there) is_prepared.judges.active.sound.valid.valid (noted_in progress.noted) (places_of there) same_noted

      placing : places_next there (logged (act_entry at call) (current_of call)) ≡ put (places_of there) (present there).next_serial place
      placing =
          ap (λ (made : List Change). places_with (present there) (places_of there) (added made)) makes.new.is
          ∙ ap (put (places_of there) (present there).next_serial) (sym place_is)

      abbrev behind : Config
      behind = after_all there (committing at (act_entry at call) there)

      commits : IsCommitted there is_prepared.judges.holder (act_entry at call) (current_of call)
          (put there.index (present there).next_serial home) (put there.dead home false)
          (is_prepared.judges.holder.revived ++ home ∷ []) behind
      commits =
          (create_commits there at (current_of call) is_prepared.judges is_made makes (new_is_free at (current_of call) there is_prepared is_made makes)).behind

      serials : (next_state there (current_of call) (act_entry at call)).next_serial ≡ (present there).next_serial + 1
      serials =
          made_serial (present there) (may_act (present there) at call.given.call (map word_of (current_of call).seen))
          (judged_by (present there) at (logged (act_entry at call) (current_of call)))
          (new_object (present there) (grant_at grants 0) makes.new.kind)
          (new_master (present there) (grant_at grants 1) makes.new.slot makes.new.kind)
          makes.new.is

      stood : (i : ObjIndex) → i.0 ≡ home
          → Stands (with_call (with_place (with_entry (in_state progress new) (act_entry at call)) (Some i) place) at (Some call)) behind
      stood i is =
          subst (λ (state : State). Stands (with_place (with_entry (in_state (with_call progress at (Some call)) state) (act_entry at call)) (Some i) place) behind)
          (new_is progress there at call stands next.is_cpu seat seated is_prepared new reply done_there)
          (subst (Stands (with_place (with_entry (in_state (with_call progress at (Some call)) (next_state there (current_of call) (act_entry at call))) (act_entry at call)) (Some i) place)) (sym commits.is)
          (made_stands (with_call progress at (Some call)) there stands (act_entry at call) (current_of call) serials home i is place placing
          commits.cap commits.count (put there.dead home false) _))

      number : IsNumber index home
      number = number_of index home home_is

      create_stands : Stands (with_done (in_state progress new) at seat call index place reply) (after_judged there at)
      create_stands =
          subst (λ (index : Option ObjIndex). Stands (with_done (in_state progress new) at seat call index place reply) (after_judged there at)) (sym number.there)
          (entered_stands progress there at call stands next.is_cpu seat seated is_prepared new reply done_there
          (put there.index (present there).next_serial home) (put there.dead home false) (is_prepared.judges.holder.revived ++ home ∷ []) commits
          (with_place (with_entry (in_state progress new) (act_entry at call)) (Some number.one) place) seated (stood number.one number.is))

    by_create : (creates : Bool) → is_create call.given.call ≡ creates
        → Stands (with_done (in_state progress new) at seat call index place reply) (after_judged there at)
    by_create true is = create_stands is
    by_create false is = other_stands is

    pub swept_done : Stands (with_done (in_state progress new) at seat call index place reply) (after_all conf (act at conf))
    swept_done =
        subst (Stands (with_done (in_state progress new) at seat call index place reply)) (sym (act_is conf at (current_of call) next))
        (by_create (is_create call.given.call) refl)

  -- what the code says of the verdict, and the progress behind it

  module _ (behind : Progress) (says_of : Judged) (is : Judges progress.plain behind.plain says_of (judged progress.plain at (current_of call)))
      (same : behind ≡ in_state progress behind.plain) where
    refused_is : (reply : Reply) → says_of ≡ says.Refused reply → (judged progress.plain at (current_of call) ≡ Refused reply) × (behind.plain ≡ progress.plain)
    refused_is reply one = subst (λ (answer : Judged). Judges progress.plain behind.plain answer (judged progress.plain at (current_of call))) one is

    done_is : (reply : Reply) → says_of ≡ says.Done reply → judged progress.plain at (current_of call) ≡ Done behind.plain reply
    done_is reply one = subst (λ (answer : Judged). Judges progress.plain behind.plain answer (judged progress.plain at (current_of call))) one is

    unchanged : (reply : Reply) → says_of ≡ says.Refused reply → behind ≡ progress
    unchanged reply one = same ∙ ap (in_state progress) (refused_is reply one).1

    pub refused_with : (reply : Reply) → says_of ≡ says.Refused reply → StandsWith behind at call there
    refused_with reply one = subst (λ (p : Progress). StandsWith p at call there) (sym (unchanged reply one)) stands_with

    pub refused_ends : (reply : Reply) → says_of ≡ says.Refused reply → (last : Progress)
        → last ≡ with_refusal behind at seat call (causes_now there) reply → Stands last (after_all conf (act at conf))
    refused_ends reply one last ends =
        subst (λ (p : Progress). Stands p (after_all conf (act at conf)))
        (sym (ends ∙ ap (λ (p : Progress). with_refusal p at seat call (causes_now there) reply) (unchanged reply one)))
        (swept_refused reply (refused_is reply one).0)

    pub done_ends : (reply : Reply) → says_of ≡ says.Done reply → (index : Option ObjIndex)
        → option_map index_number index ≡ index_made progress.plain (noted_in progress.noted) (index_in progress.places) call.given.call grants
        → (place : ℕ) → place ≡ place_for progress.plain (noted_in progress.noted)
        → (last : Progress) → last ≡ with_done behind at seat call index place reply → Stands last (after_all conf (act at conf))
    done_ends reply one index indexed place placed last ends =
        subst (λ (p : Progress). Stands p (after_all conf (act at conf)))
        (sym (ends ∙ ap (λ (p : Progress). with_done p at seat call index place reply) same))
        (swept_done behind.plain reply (done_is reply one) index indexed place placed)

-- one call ends

pub refusal_marks : (progress judged_at : Progress) (new : State) (at : ℕ) (seat : Seat) (call : CurrentCall) (held : List Held) (reply : Reply) (last : Progress)
    → at < CPUS → judged_at ≡ in_state progress new → last ≡ with_refusal judged_at at seat call held reply → AddsMark progress.marks last.marks
refusal_marks progress judged_at new at seat call held reply last within same ends =
    inr (record { mark = mark_at at call (refused_end call.given.call reply new.entries held) reply; its_cpu = within; is = ap (λ (p : Progress). p.marks) (ends ∙ ap (λ (p : Progress). with_refusal p at seat call held reply) same) })

place_marks : (progress : Progress) (index : Option ObjIndex) (place : ℕ) → (with_place progress index place).marks ≡ progress.marks
place_marks progress None place = refl
place_marks progress (Some index) place = refl

pub done_marks : (progress judged_at : Progress) (new : State) (at : ℕ) (seat : Seat) (call : CurrentCall) (index : Option ObjIndex) (place : ℕ) (reply : Reply) (last : Progress)
    → at < CPUS → judged_at ≡ in_state progress new → last ≡ with_done judged_at at seat call index place reply → AddsMark progress.marks last.marks
done_marks progress judged_at new at seat call index place reply last within same ends =
    inr (record {
      mark = mark_at at call (ends_as.Entry new.entries) reply;
      its_cpu = within;
      is =
          ap (λ (p : Progress). p.marks) (ends ∙ ap (λ (p : Progress). with_done p at seat call index place reply) same)
          ∙ ap (λ (marks : List Mark). marks ++ mark_at at call (ends_as.Entry new.entries) reply ∷ []) (place_marks (with_entry (in_state progress new) (act_entry at call)) index place);
    })
