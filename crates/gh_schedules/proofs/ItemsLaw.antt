-- The law of items: a CPU's next item is possible, and leaves the turn free.
use Rattle.std.proofs.Common.{◌≡◌, ◌<◌, ◌∙◌, ℕ, Bool, true, false, List, [], ◌∷◌, refl, subst, sym, Option, Some, None, if◌then◌else◌}
use Rattle.gh_base.specs.declared.limits.TheConstants.{CPUS}
use Rattle.gh_events.specs.CallEvents.{begun, has_needs}
use Rattle.gh_schedules.specs.Committing.{cpu_no}
use Rattle.gh_events.specs.Config.{AtAct, Config, Current, DeadPin, Failed, Given, IsBetween, Looked, Pin, Reading, Stage, Undone}
use Rattle.gh_schedules.specs.Items.{IsSteady, act, begins, item, item_between, item_in, item_of}
use Rattle.gh_schedules.specs.Indices.{HasBlocks}
use Rattle.gh_events.specs.Sound.{IsSound}
use Rattle.gh_schedules.specs.Sweep.{KeepsNine}
use Rattle.gh_schedules.specs.Trace.{after_all}
use Rattle.gh_events.specs.TurnEvents.{call_at_act, if_at_act, if_lookless, ready}
use Rattle.gh_events.specs.declared.event.Event.{Event}
use Rattle.gh_events.specs.declared.event.Event.TheVariants.{Enter}
use Rattle.gh_schedules.proofs.ActItems.{act_leads}
use Rattle.gh_schedules.proofs.CallItems.{call_item_done}
use Rattle.gh_schedules.proofs.QuietEvents.{item_quiet, quiet_blocks}
use Rattle.gh_schedules.proofs.TraceSound.{trace_keeps_sound, trace_nine}
use Rattle.gh_schedules.proofs.TurnItems.{HasEnded}
use Rattle.gh_schedules.proofs.TraceLaws.{Leads, leads_so}

-- the item of a call that is at its act is the act

module _ (conf : Config) (at : ℕ) where
  stage_acts : (current call : Current) (stage : Stage) → if_at_act stage current ≡ Some call
      → item_in at conf current stage ≡ act at conf
  stage_acts current call Reading is = absurd (let never : ⊥ = cc in never)
  stage_acts current call Looked is = absurd (let never : ⊥ = cc in never)
  stage_acts current call DeadPin is = absurd (let never : ⊥ = cc in never)
  stage_acts current call Undone is = absurd (let never : ⊥ = cc in never)
  stage_acts current call Failed is = absurd (let never : ⊥ = cc in never)
  stage_acts current call AtAct is = refl

  given_acts : (given : Given) (call : Current) (looks : Bool)
      → (if looks then None else Some (begun 0 AtAct given)) ≡ Some call
      → (if looks then Enter (cpu_no at) ∷ [] else act at conf) ≡ act at conf
  given_acts given call true is = absurd (let never : ⊥ = cc in never)
  given_acts given call false is = refl

  next_acts : (call : Current) (next : Option Given) → if_lookless next ≡ Some call → begins at conf next ≡ act at conf
  next_acts call None is = absurd (let never : ⊥ = cc in never)
  next_acts call (Some given) is = given_acts given call (has_needs given) is

  pins_acts : (call : Current) (pins : List Pin) → call_at_act None pins (conf.cpu at).next ≡ Some call
      → item_between at conf pins ≡ act at conf
  pins_acts call [] is = next_acts call (conf.cpu at).next is
  pins_acts call (pin ∷ pins) is = absurd (let never : ⊥ = cc in never)

  current_acts : (call : Current) (current : Option Current)
      → call_at_act current (conf.cpu at).pins (conf.cpu at).next ≡ Some call
      → item_of at conf current ≡ act at conf
  current_acts call None is = pins_acts call (conf.cpu at).pins is
  current_acts call (Some current) is = stage_acts current call current.stage is

  item_acts : (call : Current) → ready (conf.cpu at) ≡ Some call → item conf at ≡ act at conf
  unfolding item
  item_acts call is = current_acts call (conf.cpu at).current is

module _ (conf : Config) (at : ℕ) (sound : IsSound conf)
    (nine : KeepsNine conf.history) (is_cpu : at < CPUS) (free : conf.turn ≡ None) (blocks : HasBlocks conf) where
  abbrev Rests : Config → Type 0
  Rests new = (new.turn ≡ None) × HasBlocks new

  leads_by : (call : Option Current) → ready (conf.cpu at) ≡ call → Leads conf (item conf at) Rests
  leads_by None is =
      let led : Leads conf (item conf at) (λ new. new.turn ≡ conf.turn) = call_item_done conf at sound is_cpu is in
      record { done = led.done; behind = (led.behind ∙ free, quiet_blocks conf (item conf at) (item_quiet conf at is) blocks) }
  leads_by (Some call) is =
      subst (λ (events : List Event). Leads conf events Rests) (sym (item_acts conf at call is))
      (leads_so conf (act at conf) (HasEnded at) Rests (act_leads conf at sound nine is_cpu free call is blocks) (λ new has. (has.0.turn_is, has.1)))

  -- the item is possible, and leaves the turn free
  pub item_leads : Leads conf (item conf at) (λ new. (new.turn ≡ None) × HasBlocks new)
  item_leads = leads_by (ready (conf.cpu at)) refl

  -- and the configuration steady
  pub item_steady : IsSteady (after_all conf (item conf at))
  item_steady = record {
    sound = trace_keeps_sound conf (item conf at) sound item_leads.done;
    nine = trace_nine conf (item conf at) nine item_leads.done;
    blocks = item_leads.behind.1;
    free = item_leads.behind.0;
  }

-- an act leaves its CPU between calls
pub act_between : (conf : Config) (at : ℕ) → HasEnded at conf → IsBetween (conf.cpu at)
act_between conf at has = record { none = has.0.ended; dropped = has.0.held }
