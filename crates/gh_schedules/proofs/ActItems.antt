-- The whole act of a call is possible in a sound configuration with a free turn.
use Rattle.std.proofs.Common.{◌≡◌, ◌==◌, ◌<◌, ◌∙◌, ℕ, Bool, true, false, not, List, [], ◌∷◌, refl, subst, sym, ap, length, map, Option, Some, None, is_some, if◌then◌else◌}
use Rattle.std.specs.Prelude.{◌&&◌}
use Rattle.gh_base.specs.Errno.{errno_number}
use Rattle.gh_base.specs.Reply.{refusal}
use Rattle.gh_base.specs.declared.call.Call.{Call}
use Rattle.gh_base.specs.declared.call.Call.TheVariants as calls
use Rattle.gh_base.specs.declared.errno.Errno.{Errno}
use Rattle.gh_base.specs.declared.errno.Errno.TheVariants as errno
use Rattle.gh_base.specs.declared.frame.Reply.{Reply}
use Rattle.gh_base.specs.declared.limits.TheConstants.{CPUS}
use Rattle.gh_model.specs.Act.{Refused, grants_of}
use Rattle.gh_model.specs.Decide.{decision, has_moved, verdict}
use Rattle.gh_model.specs.Legal.{is_revoke, is_short}
use Rattle.gh_model.specs.Marks.{word_of}
use Rattle.gh_model.specs.declared.change.Decision.{Decision}
use Rattle.gh_model.specs.declared.change.Decision.TheVariants.{Refuse, Unfinished, Make}
use Rattle.gh_model.specs.declared.entry.Entry.TheVariants.{Acted}
use Rattle.gh_model.specs.declared.state.State.{State}
use Rattle.gh_base.specs.declared.ids.Serial.{Serial}
use Rattle.gh_base.specs.declared.kind.Kind.{Kind}
use Rattle.gh_base.specs.declared.kind.Kind.TheVariants as kind
use Rattle.gh_invariant.specs.Events.{EventFits}
use Rattle.gh_invariant.specs.Lives.{lives}
use Rattle.gh_invariant.specs.Premises.{MayChangeAll}
use Rattle.gh_invariant.proofs.EventWords.{event_may}
use Rattle.gh_model.specs.ObjectCalls.{new_master, new_object}
use Rattle.gh_model.specs.declared.change.Change.{Change}
use Rattle.gh_model.specs.declared.change.Change.TheVariants.{AddObject, PutCapability}
use Rattle.gh_schedules.specs.Committing.{cpu_no}
use Rattle.gh_events.specs.Config.{Config, Current, Holder, entries, has_acted, has_part, judged, present}
use Rattle.gh_events.specs.Entries.{logged}
use Rattle.gh_events.specs.HolderEvents.{is_done}
use Rattle.gh_schedules.specs.Indices.{InBlocks, IsFreeIndex, new_index}
use Rattle.gh_model.specs.Decisions.{grant_at}
use Rattle.gh_base.specs.declared.mark.End.TheVariants as ends
use Rattle.gh_events.specs.TurnEvents as turns
use Rattle.gh_events.specs.Calls.{stands_open}
use Rattle.gh_schedules.specs.Items.{act, acting, freeing, object_revoked, parts, plain_caps, preparing, prepares, sweeps, taking, unpins}
use Rattle.gh_events.specs.Sound.{IsSound}
use Rattle.gh_schedules.specs.Sweep.{HasNotBegun, KeepsNine, sweep}
use Rattle.gh_schedules.specs.Trace.{after_all, and_then}
use Rattle.gh_events.specs.TurnEvents.{Ending, ending, has_causes, ready, refused_ending, short_ending, taken}
use Rattle.gh_events.specs.declared.event.Event.TheVariants.{Take}
use Rattle.gh_schedules.proofs.Acting.{IsDone, IsJudged, acted_allows, acting_leads}
use Rattle.gh_schedules.proofs.Blocks.{IsNewIndex, new_at}
use Rattle.gh_schedules.proofs.Commits.{IsActive}
use Rattle.gh_events.proofs.EntryMoves.{indices_of}
use Rattle.gh_events.proofs.ValidEntries.{event_fits}
use Rattle.gh_events.proofs.WordsFollow.{lives_any}
use Rattle.gh_schedules.proofs.CallMakes.{decision_settled, is_unfinished}
use Rattle.gh_schedules.proofs.Creates.{create_acts}
use Rattle.gh_schedules.proofs.EntryReferences.{MakesOne}
use Rattle.gh_schedules.proofs.PartItems.{IsRevoking, Rests, object_of, refused_before, revoke_leads}
use Rattle.gh_schedules.proofs.Revokes.{none_taken}
use Rattle.gh_events.proofs.SoundEvents.{event_keeps_sound}
use Rattle.gh_schedules.proofs.SweepLaw.{is_sweeping}
use Rattle.gh_schedules.proofs.SweepRounds.{IsSwept, sweep_leads}
use Rattle.gh_schedules.proofs.SweepSteps.{IsScanned, IsSweeping}
use Rattle.gh_schedules.proofs.TraceLaws.{Leads, leads_none, leads_so, leads_then}
use Rattle.gh_schedules.proofs.TraceSound.{trace_nine}
use Rattle.gh_schedules.proofs.TurnItems.{HasActed, HasEnded, free_leads, may_take, take_begins, take_leads}
use Rattle.gh_schedules.specs.Places.{places_of}

-- a refusal ends the act

number_some : (one : Errno) → (errno_number one == 0) ≡ false
number_some errno.Unimplemented = refl
number_some errno.Retry = refl
number_some errno.ArgInval = refl
number_some errno.ArgSize = refl
number_some errno.ArgAlign = refl
number_some errno.Nomem = refl
number_some errno.AddrOvfl = refl
number_some errno.AddrInval = refl
number_some errno.Denied = refl
number_some errno.Busy = refl
number_some errno.ObjState = refl
number_some errno.ObjConfig = refl
number_some errno.CapNull = refl
number_some errno.CapRevoked = refl
number_some errno.WrongType = refl
number_some errno.InsufRights = refl
number_some errno.CspaceFull = refl
number_some errno.QueueEmpty = refl
number_some errno.QueueFull = refl

-- want of units comes behind a sweep alone
short_sweeps : (call : Call) (reply : Reply) → is_short call reply ≡ true → sweeps call ≡ true
short_sweeps (calls.Create partition cspace number) reply short = refl
short_sweeps (calls.ConfigurePartition cap quota) reply short = refl
short_sweeps (calls.ConfigureQueue cap depth size) reply short = refl
short_sweeps _ reply short = absurd (let never : ⊥ = cc in never)

module _ (holder : Holder) (s : State) (place : ℕ) (call : Call) (causes : sweeps call ≡ true → has_causes holder s ≡ true) where
  short_by : (reply : Reply) (short : Bool) → is_short call reply ≡ short
      → is_some {T = Ending} (if short then short_ending holder s place reply else Some (record { end = ends.Act place; reply = reply })) ≡ true
  short_by reply true short =
      ap (λ (all : Bool). is_some {T = Ending} (if all then Some (record { end = ends.Short place (turns.causes holder s); reply = reply }) else None)) (causes (short_sweeps call reply short))
  short_by reply false short = refl

  refusal_ends : (one : Errno) → is_some (refused_ending holder s place call (Refused (refusal one))) ≡ true
  refusal_ends one =
      ap (λ (zero : Bool). is_some {T = Ending} (if zero then None else (if is_short call (refusal one) then short_ending holder s place (refusal one) else Some (record { end = ends.Act place; reply = refusal one })))) (number_some one)
      ∙ short_by (refusal one) (is_short call (refusal one)) refl

  decision_ends : (one : Decision) → is_unfinished one ≡ false → is_done (verdict s one) ≡ false
      → is_some (refused_ending holder s place call (verdict s one)) ≡ true
  decision_ends (Refuse errno) settled undone = refusal_ends errno
  decision_ends Unfinished settled undone = absurd (let never : ⊥ = cc in never)
  decision_ends (Make changes reply) settled undone = absurd (let never : ⊥ = cc in never)

-- the act is judged, and where it is refused it has ended
pub record IsPrepared (conf : Config) (at : ℕ) (call : Current) : Type 0 where
  pub judges : IsJudged conf at call
  pub refused : is_done (judged (present conf) at call) ≡ false
      → is_some (ending conf at judges.holder call) ≡ true

module _ (at : ℕ) (call : Current) where
  ending_is : (conf : Config) (holder : Holder) → has_acted holder ≡ false → has_part holder ≡ false
      → ending conf at holder call ≡ refused_ending holder (present conf) (entries conf) call.given.call (judged (present conf) at call)
  ending_is conf holder not_acted no_part = rw not_acted (rw no_part refl)

  -- without parts
  plain_prepared : (conf : Config) (sweeping : IsSweeping conf at call) → is_revoke call.given.call ≡ false
      → (sweeps call.given.call ≡ true → has_causes sweeping.holder (present conf) ≡ true) → IsPrepared conf at call
  plain_prepared conf sweeping other causes = record {
    judges = record {
      holder = sweeping.holder;
      active = sweeping.active;
      not_acted = sweeping.not_acted;
      none_killed = sweeping.none_killed;
    };
    refused = λ undone. ap is_some (ending_is conf sweeping.holder sweeping.not_acted sweeping.no_part) ∙ decision_ends sweeping.holder (present conf) (entries conf) call.given.call causes (decision (has_moved (present conf) at call.given.call (map word_of call.seen)) (present conf) at call.given.call call.given.frame.bytes (grants_of call.given.call (map word_of call.seen))) (decision_settled (present conf) (has_moved (present conf) at call.given.call (map word_of call.seen)) at call.given.call call.given.frame.bytes (grants_of call.given.call (map word_of call.seen)) other) undone;
  }

  sweeps_apart : (one : Call) → sweeps one ≡ true → is_revoke one ≡ false
  sweeps_apart (calls.CapsRevoke cap) is = absurd (let never : ⊥ = cc in never)
  sweeps_apart _ is = refl

  swept_prepared : (conf : Config) → IsSweeping conf at call → KeepsNine conf.history → sweeps call.given.call ≡ true
      → Leads conf (sweep at conf) (λ new. IsPrepared new at call)
  swept_prepared conf sweeping nine is =
      let led : Leads conf (sweep at conf) (λ new. IsScanned new at call × IsSwept at call new) = sweep_leads at call conf sweeping in
      let later : KeepsNine (after_all conf (sweep at conf)).history = trace_nine conf (sweep at conf) nine led.done in
      record {
        done = led.done;
        behind = plain_prepared (after_all conf (sweep at conf)) led.behind.0.sweeping (sweeps_apart call.given.call is) (λ swept. (led.behind.1 led.behind.0 later).0);
      }

  -- behind its parts
  rests_prepared : (conf : Config) → Rests at call conf → IsPrepared conf at call
  rests_prepared conf rests = record {
    judges = rests.0.judged;
    refused = λ undone. let both = refused_before conf at call rests.0 rests.1 undone in ap is_some (ending_is conf rests.0.judged.holder rests.0.judged.not_acted both.0 ∙ ap (refused_ending rests.0.judged.holder (present conf) (entries conf) call.given.call) both.1) ∙ refusal_ends rests.0.judged.holder (present conf) (entries conf) call.given.call (λ is. absurd (never_sweeps is rests.0.revokes)) errno.CapRevoked;
  }
    where
      never_sweeps : sweeps call.given.call ≡ true → is_revoke call.given.call ≡ true → ⊥
      never_sweeps is revokes =
          let other : is_revoke call.given.call ≡ false = sweeps_apart call.given.call is in let never : ⊥ = cc in never

  revoking : (conf : Config) (sweeping : IsSweeping conf at call) → is_revoke call.given.call ≡ true → IsRevoking conf at call
  revoking conf sweeping revokes = record {
    judged = record { holder = sweeping.holder; active = sweeping.active; not_acted = sweeping.not_acted; none_killed = sweeping.none_killed };
    revokes = revokes;
    taken = none_taken (present conf) (object_of call) (sweeping.active.sound.calls.entries.untaken (ap stands_open sweeping.active.has_turn.turn ∙ closed (has_part sweeping.holder) (not (has_acted sweeping.holder)) sweeping.no_part));
    parts = λ none. sweeping.no_part;
  }
    where
      closed : (a b : Bool) → a ≡ false → (a && b) ≡ false
      closed true b is = absurd (let never : ⊥ = cc in never)
      closed false b is = refl

  -- whatever comes before the entry
  prepares_by : (conf : Config) → IsSweeping conf at call → KeepsNine conf.history → (sweeping revokes : Bool)
      → sweeps call.given.call ≡ sweeping → is_revoke call.given.call ≡ revokes
      → Leads conf (if sweeping then sweep at conf else (if revokes then parts at (length (plain_caps (present conf) (object_revoked call))) conf else []))
      (λ new. IsPrepared new at call)
  prepares_by conf active nine true revokes is also = swept_prepared conf active nine is
  prepares_by conf active nine false true is also =
      leads_so conf (parts at (length (plain_caps (present conf) (object_revoked call))) conf) (Rests at call) (λ new. IsPrepared new at call)
      (revoke_leads conf at call (revoking conf active also)) rests_prepared
  prepares_by conf active nine false false is also =
      leads_none conf (λ new. IsPrepared new at call)
      (plain_prepared conf active also (λ swept. absurd (let never : ⊥ = cc in never)))

  pub preparing_leads : (conf : Config) → IsSweeping conf at call → KeepsNine conf.history
      → Leads conf (preparing at conf) (λ new. IsPrepared new at call)
  unfolding preparing
  preparing_leads conf sweeping nine =
      subst (λ (current : Option Current). Leads conf (prepares at conf current) (λ new. IsPrepared new at call)) (sym sweeping.active.in_act.is_current)
      (prepares_by conf sweeping nine (sweeps call.given.call) (is_revoke call.given.call) refl refl)

  -- what a create makes may be made
  abbrev grant : ℕ → Serial
  grant place = grant_at (grants_of call.given.call (map word_of call.seen)) place

  abbrev made_changes : State → Kind → ℕ → List Change
  made_changes s k slot = AddObject (new_object s (grant 0) k) ∷ PutCapability (new_master s (grant 1) slot k) ∷ []

  may_make : (conf : Config) (prepared : IsPrepared conf at call) (done : IsDone conf at call prepared.judges)
      → (makes : MakesOne (present conf) (logged (Acted (cpu_no at) call.given.number) call))
      → MayChangeAll (present conf) (made_changes (present conf) makes.new.kind makes.new.slot)
  may_make conf prepared done makes =
      let fits : EventFits (present conf) (logged (Acted (cpu_no at) call.given.number) call) =
      event_fits conf at (Acted (cpu_no at) call.given.number) prepared.judges.holder call conf.index (acted_allows conf at call prepared.judges done) prepared.judges.active.sound.valid in
      subst (MayChangeAll (present conf)) makes.new.is
      (event_may (present conf) (logged (Acted (cpu_no at) call.given.number) call) prepared.judges.active.sound.valid.valid fits)

  -- the partition of an object that a create makes lives
  pub new_home_lives : (conf : Config) (prepared : IsPrepared conf at call) (done : IsDone conf at call prepared.judges)
      → MakesOne (present conf) (logged (Acted (cpu_no at) call.given.number) call) → lives (present conf).objects (grant 0).0 ≡ true
  new_home_lives conf prepared done makes =
      lives_any (present conf).objects (grant 0).0 kind.Partition (may_make conf prepared done makes).first.partition

  -- and its index is free
  pub new_is_free : (conf : Config) (prepared : IsPrepared conf at call) (done : IsDone conf at call prepared.judges)
      → (makes : MakesOne (present conf) (logged (Acted (cpu_no at) call.given.number) call))
      → IsFreeIndex conf (new_index (present conf) (places_of conf) conf.index (grant 0).0)
  new_is_free conf prepared done makes =
      let active : IsActive conf at prepared.judges.holder call = prepared.judges.active in
      let new : IsNewIndex (present conf) conf.index (places_of conf (grant 0).0) (new_index (present conf) (places_of conf) conf.index (grant 0).0) =
      new_at (present conf) (places_of conf) conf.index active.sound.valid.valid active.blocks
      (new_object (present conf) (grant 0) makes.new.kind) (may_make conf prepared done makes).first in
      record { within = new.free.within; uninhabited = new.free.uninhabited }

  -- the entry, and the end
  finishes : (conf : Config) → IsPrepared conf at call → Leads conf (acting at conf) (λ new. HasActed new at)
  finishes conf prepared =
      acting_leads conf at call prepared.judges
      (λ done makes. create_acts conf at call prepared.judges done makes (new_is_free conf prepared done makes))
      prepared.refused

  ends_act : (conf : Config) → IsPrepared conf at call
      → Leads conf (and_then (acting at) (and_then (freeing at) (unpins at)) conf) (HasEnded at)
  ends_act conf prepared =
      leads_then (acting at) (and_then (freeing at) (unpins at)) conf (λ new. HasActed new at) (HasEnded at)
      (finishes conf prepared) (λ new acted. free_leads new at acted)

-- the whole act

module _ (conf : Config) (at : ℕ) (sound : IsSound conf)
    (nine : KeepsNine conf.history) (is_cpu : at < CPUS) (free : conf.turn ≡ None) (call : Current)
    (is : ready (conf.cpu at) ≡ Some call) (blocks : InBlocks (present conf) (places_of conf) conf.index) where
  abbrev Taken : Config
  Taken = taken conf at

  taken_sound : IsSound Taken
  taken_sound = event_keeps_sound conf (Take (cpu_no at)) sound (may_take conf at sound is_cpu free call is)

  begins : HasNotBegun Taken at
  begins = take_begins conf at sound is_cpu free call is

  prepared : Leads Taken (preparing at Taken) (λ new. IsPrepared new at begins.call)
  prepared = preparing_leads at begins.call Taken (is_sweeping Taken at taken_sound is_cpu (record { apart = blocks.apart; few = blocks.few; each = blocks.each }) begins) nine

  rest_leads : Leads Taken (and_then (preparing at) (and_then (acting at) (and_then (freeing at) (unpins at))) Taken) (HasEnded at)
  rest_leads =
      leads_then (preparing at) (and_then (acting at) (and_then (freeing at) (unpins at))) Taken (λ new. IsPrepared new at begins.call) (HasEnded at)
      prepared (λ new ready. ends_act at begins.call new ready)

  -- it leaves the CPU between calls
  pub act_leads : Leads conf (act at conf) (HasEnded at)
  unfolding act
  act_leads =
      leads_then (taking at) (and_then (preparing at) (and_then (acting at) (and_then (freeing at) (unpins at)))) conf (λ new. new ≡ Taken) (HasEnded at)
      (take_leads conf at sound is_cpu free call is)
      (λ new same. subst (λ (there : Config). Leads there (and_then (preparing at) (and_then (acting at) (and_then (freeing at) (unpins at))) there) (HasEnded at)) (sym same) rest_leads)
