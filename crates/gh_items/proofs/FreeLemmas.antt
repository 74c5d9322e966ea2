-- The turn is given back with the call's end, and its pins are dropped.
use Rattle.std.proofs.Common.{◌≡◌, ◌<◌, ◌∙◌, ℕ, [], ap, Option, Some, None, slice_get}
use Rattle.gh_base.specs.declared.limits.TheConstants.{CPUS}
use Rattle.gh_events.specs.CallEvents.{finished, with_end as ended_cpu}
use Rattle.gh_events.specs.Config.{Config, Cpu, Holder}
use Rattle.gh_schedules.specs.Items.{freeing, unpins}
use Rattle.gh_core.specs.Running.{current_of}
use Rattle.gh_schedules.specs.Trace.{after_all, and_then}
use Rattle.gh_events.specs.TurnEvents.{Ending, end_call, ended, ending, with_ending}
use Rattle.gh_core.specs.declared.current.CurrentCall.{CurrentCall}
use Rattle.gh_events.proofs.Finding.{put_here, put_other}
use Rattle.gh_items.specs.Stands.{Stands, with_call, with_end}
use Rattle.gh_items.specs.declared.progress.Progress.{Progress}
use Rattle.gh_items.specs.declared.progress.Seat.{Seat}
use Rattle.gh_items.proofs.EndLemmas.{end_stands}
use Rattle.gh_items.proofs.LikeLemmas.{IsLike, stands_like, unpinned_cpu, unpins_like}
use Rattle.gh_items.proofs.SeatLemmas.{current_is}

module _ (progress : Progress) (conf : Config) (at : ℕ) (call : CurrentCall) (stands : Stands (with_call progress at (Some call)) conf)
    (within : at < CPUS) (seat : Seat) (seated : slice_get progress.seats at ≡ Some seat) (holder : Holder) (has : conf.turn ≡ Some holder)
    (its : Ending) (is : ending conf at holder (current_of call) ≡ Some its) where
  ended_here : (ended conf at).cpu at ≡ ended_cpu (conf.cpu at) (finished at (current_of call) its.end its.reply)
  ended_here =
      put_here conf.cpu at _
      ∙ ap (λ (turn : Option Holder). end_call conf at turn (conf.cpu at).current) has
      ∙ ap (end_call conf at (Some holder)) (current_is progress conf at call stands within)
      ∙ ap (with_ending at (conf.cpu at) (current_of call)) is

  pub free_stands : Stands (with_end progress at seat call its.end its.reply) (after_all conf (and_then (freeing at) (unpins at) conf))
  unfolding freeing and_then
  free_stands =
      let old : Config = ended conf at in
      let like : IsLike (unpinned_cpu old at) (after_all old (unpins at old)) = unpins_like old at in
      let stood : Stands (with_end progress at seat call its.end its.reply) (unpinned_cpu old at) =
      end_stands progress conf at call stands within seat seated its.end its.reply conf.counter conf.count (unpinned_cpu old at).cpu None
      (λ n differs. put_other old.cpu at _ n differs ∙ put_other conf.cpu at _ n differs)
      (put_here old.cpu at _ ∙ ap (λ (cpu : Cpu). record cpu { pins = [] }) ended_here) in
      stands_like (with_end progress at seat call its.end its.reply) (unpinned_cpu old at) (after_all conf (and_then (freeing at) (unpins at) conf)) like stood
