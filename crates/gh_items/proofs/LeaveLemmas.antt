-- A call that ends where it leaves its section.
use Rattle.std.proofs.Common.{◌≡◌, ◌+◌, ◌<◌, ◌≤◌, ◌∙◌, ◌⊎◌, inl, inr, ℕ, Bool, true, false, [], length, refl, ap, arith, Option, Some, is_some, slice_get}
use Rattle.std.specs.Prelude.{◌||◌}
use Rattle.gh_base.specs.declared.frame.Reply.{Reply}
use Rattle.gh_base.specs.declared.limits.TheConstants.{CALL_NUMBERS, CPUS}
use Rattle.gh_base.specs.declared.mark.End.{End}
use Rattle.gh_events.specs.CallEvents.{after_leave, end_of_looks, finished, left, reply_of_looks, with_end as ended_cpu, with_left}
use Rattle.gh_events.specs.Config.{Config, Cpu, Current, Failed, Undone, came_to}
use Rattle.gh_schedules.specs.Items.{leave, leave_ended, unpins}
use Rattle.gh_events.specs.Length.{calls_given}
use Rattle.gh_core.specs.Running.{current_of, stage_of}
use Rattle.gh_events.specs.Sound.{IsSound}
use Rattle.gh_schedules.specs.Trace.{after_all, and_then}
use Rattle.gh_core.specs.declared.current.CurrentCall.{CurrentCall}
use Rattle.gh_events.proofs.Finding.{put_here, put_other}
use Rattle.gh_events.proofs.LengthBound.{count_all}
use Rattle.gh_items.specs.Stands.{Stands, with_call, with_end}
use Rattle.gh_items.specs.declared.progress.Progress.{Progress}
use Rattle.gh_items.specs.declared.progress.Seat.{Seat}
use Rattle.gh_items.proofs.EndLemmas.{end_stands}
use Rattle.gh_items.proofs.LikeLemmas.{IsLike, stands_like, unpinned_cpu, unpins_like}
use Rattle.gh_items.proofs.SeatLemmas.{current_is, seat_stands}
use Rattle.gh_model.specs.Marks.{has_looks}
use Rattle.gh_model.specs.QueueCalls.{one_if}

module _ (progress : Progress) (conf : Config) (at : ℕ) (call : CurrentCall) (stands : Stands (with_call progress at (Some call)) conf)
    (within : at < CPUS) (seat : Seat) (seated : slice_get progress.seats at ≡ Some seat) where
  now : (conf.cpu at).current ≡ Some (current_of call)
  now = current_is progress conf at call stands within

  -- a seat's counts have room for one more
  given_now : IsSound conf → length (conf.cpu at).made + 1 ≤ CALL_NUMBERS
  given_now sound =
      let busy : calls_given (conf.cpu at) ≡ length (conf.cpu at).made + 1 =
      ap (λ (c : Option Current). length (conf.cpu at).made + one_if (is_some (conf.cpu at).next || is_some c)) now
      ∙ ap (λ (n : ℕ). length (conf.cpu at).made + n) (either (is_some (conf.cpu at).next)) in
      omega (arith, busy, sound.long.calls.numbers at)
    where
      either : (b : Bool) → one_if (b || true) ≡ 1
      either true = refl
      either false = refl

  pub calls_few : IsSound conf → seat.calls + 1 < 4294967296
  calls_few sound =
      let was = seat_stands progress conf at call stands within seat seated in
      omega (arith, was.calls, given_now sound)

  pub sections_few : IsSound conf → seat.sections + 1 < 4294967296
  sections_few sound =
      let was = seat_stands progress conf at call stands within seat seated in
      omega (arith, was.sections, count_all has_looks (conf.cpu at).made, given_now sound)

  -- the call ends, and its pins are dropped
  abbrev end : End
  end = end_of_looks (came_to (current_of call))

  abbrev reply : Reply
  reply = reply_of_looks (came_to (current_of call))

  left_here : (stage_of call.stage ≡ Undone) ⊎ (stage_of call.stage ≡ Failed)
      → (left conf at).cpu at ≡ ended_cpu (conf.cpu at) (finished at (current_of call) end reply)
  left_here ended =
      put_here conf.cpu at _ ∙ ap (after_leave at (conf.cpu at)) now
      ∙ elim ended as (λ _. with_left at (conf.cpu at) (current_of call) (stage_of call.stage) ≡ ended_cpu (conf.cpu at) (finished at (current_of call) end reply)) [
        | inl undone ↦ ap (with_left at (conf.cpu at) (current_of call)) undone
        | inr failed ↦ ap (with_left at (conf.cpu at) (current_of call)) failed
      ]

  pub leave_ended_stands : (stage_of call.stage ≡ Undone) ⊎ (stage_of call.stage ≡ Failed)
      → Stands (with_end progress at seat call end reply) (after_all conf (leave_ended at conf))
  unfolding leave_ended leave and_then
  leave_ended_stands ended =
      let old : Config = left conf at in
      let like : IsLike (unpinned_cpu old at) (after_all old (unpins at old)) = unpins_like old at in
      let stood : Stands (with_end progress at seat call end reply) (unpinned_cpu old at) =
      end_stands progress conf at call stands within seat seated end reply old.counter conf.count (unpinned_cpu old at).cpu conf.turn
      (λ n differs. put_other old.cpu at _ n differs ∙ put_other conf.cpu at _ n differs)
      (put_here old.cpu at _ ∙ ap (λ (cpu : Cpu). record cpu { pins = [] }) (left_here ended)) in
      stands_like (with_end progress at seat call end reply) (unpinned_cpu old at) (after_all conf (leave_ended at conf)) like stood
