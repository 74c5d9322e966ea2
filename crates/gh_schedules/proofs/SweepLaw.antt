-- The law of the sweep.
use Rattle.std.proofs.Common.{◌≡◌, ◌<◌, ◌∙◌, ℕ, true, subst, sym, Option, Some}
use Rattle.gh_base.specs.declared.limits.TheConstants.{CPUS}
use Rattle.gh_events.specs.Config.{Config, Holder, present}
use Rattle.gh_schedules.specs.Causes.{causes_now}
use Rattle.gh_schedules.specs.Indices.{InBlocks, HasBlocks}
use Rattle.gh_events.specs.Sound.{IsSound}
use Rattle.gh_schedules.specs.Sweep.{HasNotBegun, KeepsNine, sweep}
use Rattle.gh_schedules.specs.Trace.{AreDone, after_all}
use Rattle.gh_events.specs.TurnEvents.{causes, has_causes}
use Rattle.gh_schedules.proofs.KilledNone.{none_each, none_some}
use Rattle.gh_schedules.proofs.SweepRounds.{IsSwept, sweep_leads}
use Rattle.gh_schedules.proofs.SweepSteps.{IsScanned, IsSweeping}
use Rattle.gh_schedules.proofs.TraceLaws.{Leads}
use Rattle.gh_schedules.proofs.TraceSound.{trace_nine}
use Rattle.gh_schedules.specs.Places.{places_of}

module _ (conf : Config) (at : ℕ) (sound : IsSound conf) (is_cpu : at < CPUS)
    (blocks : InBlocks (present conf) (places_of conf) conf.index) (begins : HasNotBegun conf at) where
  pub is_sweeping : IsSweeping conf at begins.call
  is_sweeping = record {
    holder = begins.holder;
    active = record {
      sound = sound;
      is_cpu = is_cpu;
      has_turn = begins.has_turn;
      in_act = begins.in_act;
      owes_nothing = begins.owes_nothing;
      unrevived = begins.unrevived;
      blocks = blocks;
    };
    not_acted = begins.not_acted;
    no_part = begins.no_part;
    none_killed = none_each (present conf) conf.index conf.dead begins.none_killed;
  }

  leads : Leads conf (sweep at conf) (λ new. IsScanned new at begins.call × IsSwept at begins.call new)
  leads = sweep_leads at begins.call conf is_sweeping

  -- the sweep is possible
  pub sweep_done : AreDone conf (sweep at conf)
  sweep_done = leads.done

  unbegun : (new : Config) → IsScanned new at begins.call → HasNotBegun new at
  unbegun new scanned = record {
    holder = scanned.sweeping.holder;
    call = begins.call;
    has_turn = scanned.sweeping.active.has_turn;
    in_act = scanned.sweeping.active.in_act;
    owes_nothing = scanned.sweeping.active.owes_nothing;
    unrevived = scanned.sweeping.active.unrevived;
    not_acted = scanned.sweeping.not_acted;
    no_part = scanned.sweeping.no_part;
    none_killed = none_some (present new) new.index new.dead scanned.sweeping.active.sound.valid.valid scanned.sweeping.none_killed;
  }

  -- objects still lie in their blocks
  pub sweep_blocks : HasBlocks (after_all conf (sweep at conf))
  sweep_blocks = leads.behind.0.sweeping.active.blocks

  -- and the act may begin behind it
  pub sweep_begins : HasNotBegun (after_all conf (sweep at conf)) at
  sweep_begins = unbegun (after_all conf (sweep at conf)) leads.behind.0

  same_holder : (first second : Holder) (turn : Option Holder) → turn ≡ Some first → turn ≡ Some second → first ≡ second
  same_holder first second turn one two = let both : Some first ≡ Some second = sym one ∙ two in cc

  -- each object that is retired or without references then has what holds it, and the holder names
  -- it as the counters and the counts are
  behind_sweep : KeepsNine conf.history → (holder : Holder)
      → (after_all conf (sweep at conf)).turn ≡ Some holder
      → (has_causes holder (present (after_all conf (sweep at conf))) ≡ true)
      × (causes holder (present (after_all conf (sweep at conf))) ≡ causes_now (after_all conf (sweep at conf)))
  behind_sweep nine holder turn =
      let scanned : IsScanned (after_all conf (sweep at conf)) at begins.call = leads.behind.0 in
      subst (λ (one : Holder). (has_causes one (present (after_all conf (sweep at conf))) ≡ true) × (causes one (present (after_all conf (sweep at conf))) ≡ causes_now (after_all conf (sweep at conf))))
      (same_holder scanned.sweeping.holder holder (after_all conf (sweep at conf)).turn scanned.sweeping.active.has_turn.turn turn)
      (leads.behind.1 scanned (trace_nine conf (sweep at conf) nine leads.done))

  pub sweep_causes : KeepsNine conf.history → (holder : Holder)
      → (after_all conf (sweep at conf)).turn ≡ Some holder
      → has_causes holder (present (after_all conf (sweep at conf))) ≡ true
  sweep_causes nine holder turn = (behind_sweep nine holder turn).0

  pub sweep_causes_now : KeepsNine conf.history → (holder : Holder)
      → (after_all conf (sweep at conf)).turn ≡ Some holder
      → causes holder (present (after_all conf (sweep at conf))) ≡ causes_now (after_all conf (sweep at conf))
  sweep_causes_now nine holder turn = (behind_sweep nine holder turn).1
