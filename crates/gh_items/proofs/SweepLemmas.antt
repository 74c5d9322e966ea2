-- The sweep's loops: each step leads on from a configuration that the progress stands for.
use Rattle.std.proofs.Common.{◌≡◌, ◌+◌, ◌*◌, ◌<◌, ◌≤◌, ◌∙◌, inl, inr, ℕ, suc, Bool, true, false, List, [], ◌∷◌, ◌++◌, drop, length, sym, ap, subst, arith, Some, None, slice_get, if◌then◌else◌}
use Rattle.std.specs.Prelude.{nat_lt}
use Rattle.std.proofs.lemmas.List.{length-map}
use Rattle.std.proofs.lemmas.Bool.{cases_lt}
use Rattle.gh_base.specs.declared.limits.TheConstants.{CPUS, OBJECT_INDICES}
use Rattle.gh_base.specs.declared.ids.Serial.{Serial}
use Rattle.gh_core.specs.Running.{current_of}
use Rattle.gh_core.specs.declared.current.CurrentCall.{CurrentCall}
use Rattle.gh_events.specs.Config.{Config, Current, entries, present}
use Rattle.gh_events.specs.Sound.{IsSound}
use Rattle.gh_events.specs.declared.event.Event.{Event}
use Rattle.gh_events.proofs.FewReferences.{few_objects}
use Rattle.gh_items.specs.Stands.{Stands, with_call}
use Rattle.gh_items.specs.Sweeps.{Scans, ScansIn, Sweeps, SweepsIn}
use Rattle.gh_items.specs.declared.progress.Progress.{Progress}
use Rattle.gh_items.proofs.PartLemmas.{drop_at}
use Rattle.gh_items.proofs.SweepScanLemmas.{scanned_is, scans_as, scans_here, sweeps_as}
use Rattle.gh_model.specs.History.{entry_of}
use Rattle.gh_model.specs.declared.state.State.{State}
use Rattle.gh_schedules.specs.Sweep.{HasNotBegun, adds_entry, doomed_objects, killing, kills_all, reclaiming, reclaims_all, retired_objects, round, rounds, scans, sweep}
use Rattle.gh_schedules.specs.Indices.{HasBlocks}
use Rattle.gh_schedules.specs.Trace.{after_all, and_then, for_each}
use Rattle.gh_schedules.proofs.SweepKills.{killing_leads}
use Rattle.gh_schedules.proofs.SweepSteps.{IsScanned, IsSweeping, reclaiming_leads}
use Rattle.gh_schedules.proofs.TraceLaws.{Leads, after_append, leads_each}

-- the plan leads from a configuration that the progress stands for to the end
pub record GoesOn (progress : Progress) (at : ℕ) (call : CurrentCall) (plan : Config → List Event) (end : Config) : Type 0 where
  pub conf : Config
  pub scans : ScansIn progress at call conf
  pub is : after_all conf (plan conf) ≡ end

pub some_scans : (progress : Progress) (at : ℕ) (call : CurrentCall) (plan : Config → List Event) (end : Config)
    → GoesOn progress at call plan end → Scans progress at call
some_scans progress at call plan end goes = record { conf = goes.conf; scans = goes.scans }

-- each plan leaves the counters scanned

abbrev Keeps : (Serial → Config → List Event) → ℕ → Current → Type 0
Keeps plan at call = (x : Serial) (conf : Config) → IsScanned conf at call → Leads conf (plan x conf) (λ new. IsScanned new at call)

pub reclaims_keep : (at : ℕ) (call : Current) → Keeps (reclaiming at) at call
reclaims_keep at call x conf scanned =
    record { done = (reclaiming_leads conf at call x scanned).done; behind = (reclaiming_leads conf at call x scanned).behind.0 }

pub kills_keep : (at : ℕ) (call : Current) → Keeps (killing at) at call
kills_keep at call x conf scanned =
    record { done = (killing_leads conf at call x scanned).done; behind = (killing_leads conf at call x scanned).behind.0 }

module _ (at : ℕ) (call : CurrentCall) (plan : Serial → Config → List Event) (keeps : Keeps plan at (current_of call)) where
  -- one more of them
  pub goes_on : (progress new : Progress) (x : Serial) (xs : List Serial) (end : Config)
      → (goes : GoesOn progress at call (for_each plan (x ∷ xs)) end)
      → Stands (with_call new at (Some call)) (after_all goes.conf (plan x goes.conf))
      → GoesOn new at call (for_each plan xs) end
  unfolding for_each and_then
  goes_on progress new x xs end goes stands = record {
    conf = after_all goes.conf (plan x goes.conf);
    scans = scans_as new at call (after_all goes.conf (plan x goes.conf)) (keeps x goes.conf (scanned_is progress at call goes.conf goes.scans)).behind stands;
    is = sym (after_append goes.conf (plan x goes.conf) (for_each plan xs (after_all goes.conf (plan x goes.conf)))) ∙ goes.is;
  }

  -- all are done
  pub goes_last : (progress : Progress) (end : Config) → GoesOn progress at call (for_each plan []) end → Stands (with_call progress at (Some call)) end
  unfolding for_each
  goes_last progress end goes = subst (Stands (with_call progress at (Some call))) goes.is goes.scans.sweeps.stands

  pub goes_first : (progress : Progress) (xs ys : List Serial) (conf : Config) → ScansIn progress at call conf → xs ≡ ys
      → GoesOn progress at call (for_each plan xs) (after_all conf (for_each plan ys conf))
  goes_first progress xs ys conf scans same =
      record { conf = conf; scans = scans; is = ap (λ (list : List Serial). after_all conf (for_each plan list conf)) same }

  -- the one at this place
  pub goes_next : (progress new : Progress) (objects : List Serial) (place : ℕ) (x : Serial) (end : Config) → slice_get objects place ≡ Some x
      → GoesOn progress at call (for_each plan (drop place objects)) end
      → ((conf : Config) → ScansIn progress at call conf → Stands (with_call new at (Some call)) (after_all conf (plan x conf)))
      → GoesOn new at call (for_each plan (drop (place + 1) objects)) end
  goes_next progress new objects place x end is goes stands =
      let later : suc place ≡ place + 1 = omega arith in
      let here : GoesOn progress at call (for_each plan (x ∷ drop (suc place) objects)) end =
      subst (λ (list : List Serial). GoesOn progress at call (for_each plan list) end) (drop_at objects place x is) goes in
      subst (λ (n : ℕ). GoesOn new at call (for_each plan (drop n objects)) end) later
      (goes_on progress new x (drop (suc place) objects) end here (stands here.conf here.scans))

  pub goes_end : (progress : Progress) (objects : List Serial) (place : ℕ) (end : Config) → drop place objects ≡ []
      → GoesOn progress at call (for_each plan (drop place objects)) end → Stands (with_call progress at (Some call)) end
  goes_end progress objects place end none goes =
      goes_last progress end (subst (λ (list : List Serial). GoesOn progress at call (for_each plan list) end) none goes)

  pub all_keep : (xs : List Serial) (conf : Config) → IsScanned conf at (current_of call) → IsScanned (after_all conf (for_each plan xs conf)) at (current_of call)
  all_keep xs conf scanned = (leads_each plan (λ new. IsScanned new at (current_of call)) keeps xs conf scanned).behind

-- the objects of a round

pub reclaims_first : (progress : Progress) (at : ℕ) (call : CurrentCall) (objects : List Serial) (conf : Config) → ScansIn progress at call conf
    → objects ≡ retired_objects progress.plain
    → GoesOn progress at call (for_each (reclaiming at) objects) (after_all conf (reclaims_all at conf))
unfolding reclaims_all
reclaims_first progress at call objects conf scans same =
    goes_first at call (reclaiming at) (reclaims_keep at (current_of call)) progress objects (retired_objects (present conf)) conf scans
    (same ∙ ap retired_objects scans.sweeps.stands.state)

pub kills_first : (progress : Progress) (at : ℕ) (call : CurrentCall) (objects : List Serial) (conf : Config) → ScansIn progress at call conf
    → objects ≡ doomed_objects progress.plain
    → GoesOn progress at call (for_each (killing at) objects) (after_all conf (kills_all at conf))
unfolding kills_all
kills_first progress at call objects conf scans same =
    goes_first at call (killing at) (kills_keep at (current_of call)) progress objects (doomed_objects (present conf)) conf scans
    (same ∙ ap doomed_objects scans.sweeps.stands.state)

-- a round

module _ (progress : Progress) (at : ℕ) (call : CurrentCall) (conf : Config) (sweeps : SweepsIn progress at call conf) where
  abbrev Scanned : Config
  Scanned = after_all conf (scans at conf)

  abbrev Reclaimed : Config
  Reclaimed = after_all Scanned (reclaims_all at Scanned)

  pub first_scans : ScansIn progress at call (after_all conf (scans at conf))
  first_scans = scans_here progress at call conf sweeps

  reclaims_scanned : IsScanned Reclaimed at (current_of call)
  unfolding reclaims_all
  reclaims_scanned =
      all_keep at call (reclaiming at) (reclaims_keep at (current_of call)) (retired_objects (present Scanned)) Scanned (scanned_is progress at call Scanned first_scans)

  pub second_scans : (new : Progress) → Stands (with_call new at (Some call)) (after_all Scanned (reclaims_all at Scanned))
      → ScansIn new at call (after_all Scanned (reclaims_all at Scanned))
  second_scans new stands = scans_as new at call Reclaimed reclaims_scanned stands

  pub round_is : after_all conf (round at conf) ≡ after_all Reclaimed (kills_all at Reclaimed)
  unfolding round and_then
  round_is =
      after_append conf (scans at conf) (reclaims_all at Scanned ++ kills_all at Reclaimed)
      ∙ after_append Scanned (reclaims_all at Scanned) (kills_all at Reclaimed)

  round_scanned : IsScanned (after_all Reclaimed (kills_all at Reclaimed)) at (current_of call)
  unfolding kills_all
  round_scanned = all_keep at call (killing at) (kills_keep at (current_of call)) (doomed_objects (present Reclaimed)) Reclaimed reclaims_scanned

  pub round_scans : Scans progress at call
  round_scans = record { conf = Scanned; scans = first_scans }

  -- it leaves a configuration in which the next one begins
  pub round_sweeps : (new : Progress) → Stands (with_call new at (Some call)) (after_all conf (round at conf)) → SweepsIn new at call (after_all conf (round at conf))
  round_sweeps new stands =
      sweeps_as new at call (after_all conf (round at conf))
      (subst (λ (there : Config). IsSweeping there at (current_of call)) (sym round_is) round_scanned.sweeping) stands

-- rounds

-- so many rounds more lead from a configuration that the progress stands for to the end
pub record RoundsOn (progress : Progress) (at : ℕ) (call : CurrentCall) (left : ℕ) (end : Config) : Type 0 where
  pub conf : Config
  pub sweeps : SweepsIn progress at call conf
  pub is : after_all conf (rounds at left conf) ≡ end

pub some_sweeps : (progress : Progress) (at : ℕ) (call : CurrentCall) (left : ℕ) (end : Config) → RoundsOn progress at call left end → Sweeps progress at call
some_sweeps progress at call left end on = record { conf = on.conf; sweeps = on.sweeps }

module _ (progress new : Progress) (at : ℕ) (call : CurrentCall) (left more : ℕ) (end : Config) (on : RoundsOn progress at call left end)
    (one_more : left ≡ suc more) (stands : Stands (with_call new at (Some call)) (after_all on.conf (round at on.conf))) where
  abbrev Round : Config
  Round = after_all on.conf (round at on.conf)

  adds_is : nat_lt (length progress.entries) (length new.entries) ≡ adds_entry on.conf (round at on.conf)
  adds_is =
      ap (λ (n : ℕ). nat_lt n (length new.entries)) (entries_are progress on.conf on.sweeps.stands)
      ∙ ap (nat_lt (entries on.conf)) (entries_are new Round stands)
    where
      entries_are : (p : Progress) (conf : Config) → Stands (with_call p at (Some call)) conf → length p.entries ≡ entries conf
      entries_are p conf stands = ap length stands.entries ∙ length-map conf.history entry_of

  goes_is : after_all Round (if nat_lt (length progress.entries) (length new.entries) then rounds at more Round else []) ≡ end
  unfolding rounds
  goes_is =
      ap (λ (adds : Bool). after_all Round (if adds then rounds at more Round else [])) adds_is
      ∙ sym (after_append on.conf (round at on.conf) (if adds_entry on.conf (round at on.conf) then rounds at more Round else []))
      ∙ sym (ap (λ (n : ℕ). after_all on.conf (rounds at n on.conf)) one_more) ∙ on.is

  -- a round that adds an entry is followed by the next
  pub rounds_on : nat_lt (length progress.entries) (length new.entries) ≡ true → RoundsOn new at call more end
  rounds_on adds = record {
    conf = Round;
    sweeps = round_sweeps progress at call on.conf on.sweeps new stands;
    is = sym (ap (λ (b : Bool). after_all Round (if b then rounds at more Round else [])) adds) ∙ goes_is;
  }

  -- and one that adds none is the last
  pub rounds_end : nat_lt (length progress.entries) (length new.entries) ≡ false → Stands (with_call new at (Some call)) end
  rounds_end none =
      subst (Stands (with_call new at (Some call)))
      (sym (ap (λ (b : Bool). after_all Round (if b then rounds at more Round else [])) none) ∙ goes_is) stands

-- there are none left
pub rounds_none : (progress : Progress) (at : ℕ) (call : CurrentCall) (end : Config) → RoundsOn progress at call 0 end
    → Stands (with_call progress at (Some call)) end
unfolding rounds
rounds_none progress at call end on = subst (Stands (with_call progress at (Some call))) on.is on.sweeps.stands

-- the sweep

-- a CPU whose call is in progress is one of those that there are
within_by : (conf : Config) (at : ℕ) (call : Current) → IsSound conf → (conf.cpu at).current ≡ Some call → at < CPUS
within_by conf at call sound is =
    elim (cases_lt at CPUS) as (λ _. at < CPUS) [
      | inl within ↦ within
      | inr beyond ↦ (let none : (conf.cpu at).current ≡ None = sound.grace.seats at beyond in absurd (let never : ⊥ = cc in never))
    ]

module _ (progress : Progress) (at : ℕ) (call : CurrentCall) (conf : Config) (stands : Stands (with_call progress at (Some call)) conf)
    (sound : IsSound conf) where
  -- there are few objects
  pub objects_few : length progress.plain.objects ≤ OBJECT_INDICES
  objects_few =
      subst (λ (s : State). length s.objects ≤ OBJECT_INDICES) (sym stands.state) (few_objects conf sound.valid.valid sound.state sound.references.placed)

  pub sweeps_at : HasBlocks conf → HasNotBegun conf at → SweepsIn progress at call conf
  sweeps_at blocks begins = record {
    stands = stands;
    sound = sound;
    within = within_by conf at begins.call sound begins.in_act.is_current;
    blocks = blocks;
    begins = begins;
  }

  -- so many rounds are the sweep
  pub sweep_stands : (new : Progress) (count : ℕ) → count ≡ 2 * length progress.plain.objects + 1
      → Stands (with_call new at (Some call)) (after_all conf (rounds at count conf))
      → Stands (with_call new at (Some call)) (after_all conf (sweep at conf))
  unfolding sweep
  sweep_stands new count is there =
      subst (λ (n : ℕ). Stands (with_call new at (Some call)) (after_all conf (rounds at n conf)))
      (is ∙ ap (λ (s : State). 2 * length s.objects + 1) stands.state) there
