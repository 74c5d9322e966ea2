-- A CPU that is given a call and opens its section.
use Rattle.std.proofs.Common.{◌≡◌, ◌==◌, ◌+◌, ◌*◌, ◌<◌, ◌∙◌, ℕ, false, refl, sym, ap, subst, arith, Some, None, Ok, slice_get, option_map}
use Rattle.std.specs.Prelude.{count_by, slice_index_or}
use Rattle.std.proofs.lemmas.Option.{slice_get-get_or}
use Rattle.gh_base.specs.declared.limits.TheConstants.{CPUS}
use Rattle.gh_events.specs.CallEvents.{begun, entered}
use Rattle.gh_events.specs.Calls.{HasCalls, counted, steps}
use Rattle.gh_events.specs.Config.{Config, Cpu, Reading}
use Rattle.gh_core.specs.Running.{given_of}
use Rattle.gh_events.specs.Start.{MayGive, given as given_next, with_next}
use Rattle.gh_core.specs.declared.current.GivenCall.{GivenCall}
use Rattle.gh_events.proofs.Finding.{put_here, put_other}
use Rattle.gh_items.specs.Stands.{SeatStands, Stands, begun_call, with_call}
use Rattle.gh_items.specs.declared.progress.Progress.{Progress}
use Rattle.gh_items.specs.declared.progress.Seat.{Seat}
use Rattle.gh_items.proofs.SeatLemmas.{call_moves}
use Rattle.gh_model.specs.Marks.{cspace_of, has_looks}
use Rattle.gh_model.specs.Registers.{call_of}

-- between calls, a counter is twice the sections
idle_counter : (cpu : Cpu) (counter : ℕ) → counter ≡ counted cpu → cpu.current ≡ None → counter ≡ 2 * count_by has_looks cpu.made
idle_counter cpu counter is none =
    let still : steps cpu.current ≡ 0 = ap steps none in
    omega (arith, is, still)

-- the call of a CPU that there is, if it has one
pub call_there : (progress : Progress) (conf : Config) → Stands progress conf → (at : ℕ) → at < CPUS
    → slice_get progress.calls at ≡ Some (slice_index_or progress.calls at None)
call_there progress conf stands at within = slice_get-get_or progress.calls at None (omega (arith, stands.nine_calls))

module _ (progress : Progress) (conf : Config) (stands : Stands progress conf) (calls : HasCalls conf) (at : ℕ) (within : at < CPUS)
    (call : GivenCall) (may : MayGive conf at call.number) (of_frame : call_of call.frame ≡ Ok call.call) where
  abbrev given_conf : Config
  given_conf = given_next conf at call.number call.frame

  -- the CPU behind both
  abbrev entered_cpu : Cpu
  entered_cpu = record (conf.cpu at) { next = None; current = Some (begun (conf.counter at + 1) Reading (given_of call)) }

  entered_here : (entered given_conf at).cpu at ≡ entered_cpu
  entered_here =
      put_here given_conf.cpu at _
      ∙ ap (λ (cpu : Cpu). record cpu { next = None; current = option_map (begun (conf.counter at + 1) Reading) cpu.next })
      (put_here conf.cpu at _ ∙ ap (with_next at call.number call.frame (conf.cpu at)) of_frame)

  entered_others : (n : ℕ) → (n == at) ≡ false → (entered given_conf at).cpu n ≡ conf.cpu n
  entered_others n differs = put_other given_conf.cpu at _ n differs ∙ put_other conf.cpu at _ n differs

  section_is : (seat : Seat) → slice_get progress.seats at ≡ Some seat → 2 * seat.sections + 1 ≡ conf.counter at + 1
  section_is seat is =
      let one = stands.seats at seat _ is (call_there progress conf stands at within) in
      let twice : conf.counter at ≡ 2 * count_by has_looks (conf.cpu at).made =
      idle_counter (conf.cpu at) (conf.counter at) (calls.counters at) may.between.none in
      let same : seat.sections ≡ count_by has_looks (conf.cpu at).made = one.sections in
      omega (arith, twice, same)

  pub enter_stands : (before : Seat) → slice_get progress.seats at ≡ Some before
      → Stands (with_call progress at (Some (begun_call call (2 * before.sections + 1)))) (entered given_conf at)
  enter_stands before is =
      call_moves progress conf stands at within (Some (begun_call call (2 * before.sections + 1))) _ conf.count _ entered_others
      (λ seat old there one.
      subst (SeatStands at (cspace_of conf.boot at) progress.marks seat (Some (begun_call call (2 * before.sections + 1)))) (sym entered_here) (record {
        its_cpu = one.its_cpu;
        space = one.space;
        unasked = refl;
        current = ap (λ (n : ℕ). Some (begun n Reading (given_of call))) (sym (section_is before is));
        dropped = λ none. absurd (let never : ⊥ = cc in never);
        made = one.made;
        calls = one.calls;
        sections = one.sections;
        place = one.place;
        ended = one.ended;
      }))
