-- A CPU that is given a call without looks, and takes the turn for its act.
use Rattle.std.proofs.Common.{◌≡◌, ◌==◌, ◌<◌, ◌∙◌, ℕ, Bool, false, List, length, refl, sym, ap, subst, Option, Some, None, Ok, is_some, if◌then◌else◌}
use Rattle.std.specs.Prelude.{nat_lt}
use Rattle.gh_base.specs.declared.call.Call.{Call}
use Rattle.gh_base.specs.declared.call.Call.TheVariants as calls
use Rattle.gh_base.specs.declared.limits.TheConstants.{CPUS}
use Rattle.gh_events.specs.CallEvents.{begun, has_needs}
use Rattle.gh_events.specs.Config.{AtAct, Config, Cpu, Current, Pin}
use Rattle.gh_schedules.specs.Items.{sweeps}
use Rattle.gh_core.specs.Running.{given_of}
use Rattle.gh_events.specs.Start.{MayGive, given as given_next, with_next}
use Rattle.gh_events.specs.TurnEvents.{call_at_act, ready, taken}
use Rattle.gh_core.specs.declared.current.GivenCall.{GivenCall}
use Rattle.gh_events.proofs.Finding.{put_here, put_other}
use Rattle.gh_items.specs.Acts.{lookless_call}
use Rattle.gh_items.specs.Stands.{SeatStands, Stands, with_call}
use Rattle.gh_items.specs.declared.progress.Progress.{Progress}
use Rattle.gh_items.proofs.LikeLemmas.{stands_like}
use Rattle.gh_items.proofs.SeatLemmas.{call_moves, moved}
use Rattle.gh_model.specs.Marks.{cspace_of}
use Rattle.gh_model.specs.Registers.{call_of, needs_of}

-- a call without looks doesn't sweep
pub lookless_unswept : (call : Call) → nat_lt 0 (length (needs_of call)) ≡ false → sweeps call ≡ false
lookless_unswept (calls.Create partition cspace number) lookless = absurd (let never : ⊥ = cc in never)
lookless_unswept (calls.ConfigurePartition cap quota) lookless = absurd (let never : ⊥ = cc in never)
lookless_unswept (calls.ConfigureQueue cap depth size) lookless = absurd (let never : ⊥ = cc in never)
lookless_unswept _ lookless = refl

module _ (progress : Progress) (conf : Config) (stands : Stands progress conf) (at : ℕ) (within : at < CPUS)
    (call : GivenCall) (may : MayGive conf at call.number) (of_frame : call_of call.frame ≡ Ok call.call)
    (lookless : has_needs (given_of call) ≡ false) where
  abbrev given_conf : Config
  given_conf = given_next conf at call.number call.frame

  taken_here : (taken given_conf at).cpu at ≡ record (conf.cpu at) { next = None; current = Some (begun 0 AtAct (given_of call)) }
  taken_here =
      put_here given_conf.cpu at _
      ∙ ap (λ (cpu : Cpu). record cpu { next = if is_some cpu.current then cpu.next else None; current = ready cpu })
      (put_here conf.cpu at _ ∙ ap (with_next at call.number call.frame (conf.cpu at)) of_frame)
      ∙ ap (λ (current : Option Current). record (conf.cpu at) {
        next = if is_some current then Some (given_of call) else None;
        current = call_at_act current (conf.cpu at).pins (Some (given_of call));
      }) may.between.none
      ∙ ap (λ (pins : List Pin). record (conf.cpu at) { next = None; current = call_at_act None pins (Some (given_of call)); pins = (conf.cpu at).pins }) may.between.dropped
      ∙ ap (λ (looks : Bool). record (conf.cpu at) { next = None; current = if looks then None else Some (begun 0 AtAct (given_of call)) }) lookless

  taken_others : (n : ℕ) → (n == at) ≡ false → (taken given_conf at).cpu n ≡ conf.cpu n
  taken_others n differs = put_other given_conf.cpu at _ n differs ∙ put_other conf.cpu at _ n differs

  pub lookless_stands : Stands (with_call progress at (Some (lookless_call call))) (taken given_conf at)
  lookless_stands =
      stands_like (with_call progress at (Some (lookless_call call))) (moved conf conf.counter conf.count (taken given_conf at).cpu) (taken given_conf at)
      (record { boot = refl; history = refl; index = λ n. refl; cpu = λ n. refl })
      (call_moves progress conf stands at within (Some (lookless_call call)) conf.counter conf.count (taken given_conf at).cpu taken_others
      (λ seat old there one.
      subst (SeatStands at (cspace_of conf.boot at) progress.marks seat (Some (lookless_call call))) (sym taken_here) (record {
        its_cpu = one.its_cpu;
        space = one.space;
        unasked = refl;
        current = refl;
        dropped = λ none. absurd (let never : ⊥ = cc in never);
        made = one.made;
        calls = one.calls;
        sections = one.sections;
        place = one.place;
        ended = one.ended;
      })))
