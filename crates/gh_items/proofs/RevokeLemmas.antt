-- The parts of a revoke one after the other, as many as there are capabilities to revoke.
use Rattle.std.proofs.Common.{◌≡◌, ◌+◌, ◌≤◌, ◌∙◌, ℕ, zero, suc, Bool, true, false, List, [], ◌∷◌, ◌++◌, filter, length, refl, subst, sym, ap, arith, if◌then◌else◌}
use Rattle.std.specs.Prelude.{count_by}
use Rattle.gh_base.specs.declared.call.Call.{Call}
use Rattle.gh_base.specs.declared.call.Call.TheVariants as calls
use Rattle.gh_events.specs.Config.{Config, Current}
use Rattle.gh_schedules.specs.Items.{part, parts, preparing, prepares, sweeps, taking}
use Rattle.gh_events.specs.Sound.{IsSound}
use Rattle.gh_schedules.specs.Sweep.{sweep}
use Rattle.gh_schedules.specs.Trace.{AreDone, after_all, and_then}
use Rattle.gh_events.specs.TurnEvents.{taken}
use Rattle.gh_events.specs.Events.{after}
use Rattle.gh_events.specs.declared.event.Event.{Event}
use Rattle.gh_schedules.proofs.TraceLaws.{after_append, done_append}
use Rattle.gh_schedules.proofs.TraceSound.{trace_keeps_sound}
use Rattle.gh_invariant.proofs.Counting.{count_cons, one_false, one_true}
use Rattle.gh_items.specs.Acts.{ActsNext, judged_in}
use Rattle.gh_items.specs.Parts.{all_parts}
use Rattle.gh_items.proofs.ActLemmas.{prepares_done, taken_now}
use Rattle.gh_model.specs.Legal.{is_revoke}

-- what passes is as much as is kept
pub counted_plain : {X : Type 0} (p : X → Bool) (xs : List X) → count_by p xs ≡ length (filter p xs)
counted_plain p [] = refl
counted_plain p (x ∷ xs) = by_kept (p x) refl (counted_plain p xs)
  where
    by_kept : (kept : Bool) → p x ≡ kept → count_by p xs ≡ length (filter p xs)
        → count_by p (x ∷ xs) ≡ length (if kept then x ∷ filter p xs else filter p xs)
    by_kept true is rest = omega (arith, count_cons p x xs, one_true (p x) is, rest)
    by_kept false is rest = omega (arith, count_cons p x xs, one_false (p x) is, rest)

-- what is done in front, and what behind it
pub done_parts : (conf : Config) (first second : List Event) → AreDone conf (first ++ second)
    → AreDone conf first × AreDone (after_all conf first) second
done_parts conf [] second done = (tt, done)
done_parts conf (event ∷ first) second done =
    let rest = done_parts (after conf event) first second done.1 in
    ((done.0, rest.0), rest.1)

done_front : (at m n : ℕ) (conf : Config) → m ≤ n → AreDone conf (parts at n conf) → AreDone conf (parts at m conf)
unfolding parts and_then
done_front at zero n conf few done = tt
done_front at (suc m) zero conf few done = absurd (omega (arith, few))
done_front at (suc m) (suc n) conf few done =
    let both = done_parts conf (part at conf) (parts at n (after_all conf (part at conf))) done in
    join (part at conf) (parts at m (after_all conf (part at conf))) both.0
    (done_front at m n (after_all conf (part at conf)) (omega (arith, few)) both.1)
  where
    join : (first second : List Event) → AreDone conf first → AreDone (after_all conf first) second → AreDone conf (first ++ second)
    join first second here there = done_append conf first second here there

-- each of them leads to a sound configuration
pub parts_sound : (at m n : ℕ) (conf : Config) → IsSound conf → m ≤ n → AreDone conf (parts at n conf) → IsSound (after_all conf (parts at m conf))
parts_sound at m n conf sound few done = trace_keeps_sound conf (parts at m conf) sound (done_front at m n conf few done)

-- and one more is a part behind them
pub parts_more : (at m : ℕ) (conf : Config)
    → after_all conf (parts at (suc m) conf) ≡ after_all (after_all conf (parts at m conf)) (part at (after_all conf (parts at m conf)))
unfolding parts and_then
parts_more at zero conf = after_append conf (part at conf) []
parts_more at (suc m) conf =
    after_append conf (part at conf) (parts at (suc m) (after_all conf (part at conf)))
    ∙ parts_more at m (after_all conf (part at conf))
    ∙ ap (λ (there : Config). after_all there (part at there)) (sym (after_append conf (part at conf) (parts at m (after_all conf (part at conf)))))

pub parts_none : (at : ℕ) (conf : Config) → after_all conf (parts at 0 conf) ≡ conf
unfolding parts
parts_none at conf = refl

pub parts_later : (at m : ℕ) (conf : Config)
    → after_all conf (parts at (m + 1) conf) ≡ after_all (after_all conf (parts at m conf)) (part at (after_all conf (parts at m conf)))
parts_later at m conf =
    let same : m + 1 ≡ suc m = omega arith in ap (λ (n : ℕ). after_all conf (parts at n conf)) same ∙ parts_more at m conf

-- what prepares the act of a revoke

pub revoke_unswept : (call : Call) → is_revoke call ≡ true → sweeps call ≡ false
revoke_unswept (calls.CapsRevoke cap) revokes = refl
revoke_unswept _ revokes = absurd (let never : ⊥ = cc in never)

module _ (conf : Config) (at : ℕ) (call : Current) (next : ActsNext conf at call) (revokes : is_revoke call.given.call ≡ true) where
  its_parts : preparing at (taken conf at) ≡ all_parts at call (taken conf at)
  unfolding preparing
  its_parts =
      ap (prepares at (taken conf at)) (taken_now conf at call next)
      ∙ by_kind (sweep at (taken conf at)) (sweeps call.given.call) (is_revoke call.given.call) (revoke_unswept call.given.call revokes) revokes
    where
      by_kind : (first : List Event) (swept other : Bool) → swept ≡ false → other ≡ true
          → (if swept then first else (if other then all_parts at call (taken conf at) else [])) ≡ all_parts at call (taken conf at)
      by_kind first true other unswept is = absurd (let never : ⊥ = cc in never)
      by_kind first false false unswept is = absurd (let never : ⊥ = cc in never)
      by_kind first false true unswept is = refl

  pub parts_done : AreDone (taken conf at) (all_parts at call (taken conf at))
  parts_done = subst (AreDone (taken conf at)) its_parts (prepares_done conf at call next)

  pub parts_judged : judged_in conf at ≡ after_all (taken conf at) (all_parts at call (taken conf at))
  unfolding and_then taking
  parts_judged = ap (after_all (taken conf at)) its_parts
