-- Every event keeps the acts of the history as many as the calls that ended with their entries, and
-- the numbers of calls within the last one.
use Rattle.std.proofs.Common.{◌≡◌, ◌==◌, ◌+◌, ◌*◌, ◌<◌, ◌≤◌, ◌∙◌, inl, inr, ℕ, zero, suc, Bool, false, List, [], ◌∷◌, ◌++◌, length, refl, subst, sym, ap, arith, Option, Some, None}
use Rattle.std.specs.Prelude.{◌&&◌, ◌||◌, count_by, is_some, option_map}
use Rattle.std.specs.List.{list_any}
use Rattle.std.proofs.lemmas.Bool.{and_left, and_right}
use Rattle.std.proofs.lemmas.Bool.Decides.{eqb_tells, nat_tests}
use Rattle.gh_base.specs.declared.limits.TheConstants.{CALL_NUMBERS, CPUS}
use Rattle.gh_model.specs.History as history
use Rattle.gh_model.specs.Marks.{Made}
use Rattle.gh_model.specs.QueueCalls.{one_if}
use Rattle.gh_model.specs.declared.entry.Entry.{Entry}
use Rattle.gh_invariant.proofs.Counting.{count_push}
use Rattle.gh_events.specs.Config.{Cpu, Given, Holder, has_acted, is_acted, put}
use Rattle.gh_events.specs.Length.{CallsCount, acts_of, calls_given, has_entry, is_act}
use Rattle.gh_events.specs.References.{total}
use Rattle.gh_events.specs.ValidState.{acts}
use Rattle.gh_events.proofs.Finding.{put_here, put_other, same_number, total_put}

-- sums

pub total_same : (n : ℕ) (f g : ℕ → ℕ) → ((i : ℕ) → f i ≡ g i) → total n f ≡ total n g
unfolding total
total_same zero f g same = refl
total_same (suc n) f g same = omega (arith, total_same n f g same, same n)

pub total_most : (n most : ℕ) (f : ℕ → ℕ) → ((i : ℕ) → f i ≤ most) → total n f ≤ n * most
unfolding total
total_most zero most f few = omega arith
total_most (suc n) most f few = grind (arith, total_most n most f few, few n)

-- one of them is greater
total_more : (f g : ℕ → ℕ) (at more : ℕ) → at < CPUS → ((i : ℕ) → g i ≡ put f at (f at + more) i)
    → total CPUS g ≡ total CPUS f + more
total_more f g at more within same =
    let all : total CPUS g ≡ total CPUS (λ i. put f at (f at + more) i) =
    total_same CPUS g (λ i. put f at (f at + more) i) same in
    omega (arith, all, total_put f at (f at + more) (λ n. n) CPUS within)

-- what holds of the value that was put and of the others, holds of each
module _ {X : Type 0} (P : ℕ → X → Type 0) (values : ℕ → X) (at : ℕ) (value : X) where
  pub put_each : P at value → ((n : ℕ) → (n == at) ≡ false → P n (values n))
      → (n : ℕ) → P n (put values at value n)
  put_each here others n =
      elim (eqb_tells n at) as (λ _. P n (put values at value n)) [
        | inl same ↦
            subst (λ (i : ℕ). P i (put values at value i)) (sym same.1)
            (subst (P at) (sym (put_here values at value)) here)
        | inr differs ↦ subst (P n) (sym (put_other values at value n differs.0)) (others n differs.0)
      ]

-- the calls of the CPUs

-- one CPU's calls changed, and the turn: the acts of each are as many as before, and it was given
-- no more calls than there may be
module _ (events : List history.Event) (old new : Option Holder) (cpus : ℕ → Cpu) (at : ℕ) (one : Cpu)
    (counts : CallsCount events old cpus) where
  pub part_counts : count_by has_entry one.made + one_if (acts new at) ≡ acts_of old cpus at
      → ((n : ℕ) → (n == at) ≡ false → acts new n ≡ acts old n)
      → calls_given one ≤ CALL_NUMBERS → CallsCount events new (put cpus at one)
  part_counts here others few = record {
    acts = counts.acts ∙ total_same CPUS (acts_of old cpus) (acts_of new (put cpus at one)) same;
    numbers = put_each (λ n cpu. calls_given cpu ≤ CALL_NUMBERS) cpus at one few (λ n differs. counts.numbers n);
  }
    where
      other : (n : ℕ) → (n == at) ≡ false
          → acts_of old cpus n ≡ count_by has_entry (cpus n).made + one_if (acts new n)
      other n differs = ap (λ (b : Bool). count_by has_entry (cpus n).made + one_if b) (sym (others n differs))

      same : (n : ℕ) → acts_of old cpus n ≡ acts_of new (put cpus at one) n
      same n =
          put_each (λ i cpu. acts_of old cpus i ≡ count_by has_entry cpu.made + one_if (acts new i)) cpus at one
          (sym here) other n

-- a CPU's calls changed while the turn stays
module _ (events : List history.Event) (turn : Option Holder) (cpus : ℕ → Cpu) (at : ℕ) (one : Cpu)
    (counts : CallsCount events turn cpus) where
  pub cpu_counts : count_by has_entry one.made ≡ count_by has_entry (cpus at).made
      → calls_given one ≤ CALL_NUMBERS → CallsCount events turn (put cpus at one)
  cpu_counts same few =
      part_counts events turn turn cpus at one counts (ap (λ (n : ℕ). n + one_if (acts turn at)) same)
      (λ n differs. refl) few

  -- or it goes on with its calls
  pub call_counts : one.made ≡ (cpus at).made → one.next ≡ (cpus at).next
      → is_some one.current ≡ is_some (cpus at).current → CallsCount events turn (put cpus at one)
  call_counts made next current =
      cpu_counts (ap (count_by has_entry) made)
      (subst (λ (n : ℕ). n ≤ CALL_NUMBERS)
      (sym (ap (λ (calls : List Made). length calls + one_if (is_some one.next || is_some one.current)) made
      ∙ ap (λ (given : Option Given). length (cpus at).made + one_if (is_some given || is_some one.current)) next
      ∙ ap (λ (b : Bool). length (cpus at).made + one_if (is_some (cpus at).next || b)) current))
      (counts.numbers at))

-- the turn changed, but for who acts
pub turn_counts : (events : List history.Event) (old new : Option Holder) (cpus : ℕ → Cpu)
    → ((n : ℕ) → acts new n ≡ acts old n) → CallsCount events old cpus → CallsCount events new cpus
turn_counts events old new cpus same counts = record {
  acts = counts.acts
      ∙ total_same CPUS (acts_of old cpus) (acts_of new cpus) (λ n. ap (λ (b : Bool). count_by has_entry (cpus n).made + one_if b) (sym (same n)));
  numbers = counts.numbers;
}

-- the holder's words changed
pub acts_same : (turn : Option Holder) (change : Holder → Holder)
    → ((holder : Holder) → (change holder).cpu ≡ holder.cpu)
    → ((holder : Holder) → (change holder).entries ≡ holder.entries) → (at : ℕ)
    → acts (option_map change turn) at ≡ acts turn at
acts_same None change cpu entries at = refl
acts_same (Some holder) change cpu entries at =
    ap (λ (n : ℕ). (n == at) && has_acted (change holder)) (cpu holder)
    ∙ ap (λ (list : List Entry). (holder.cpu == at) && list_any is_acted list) (entries holder)

-- nobody acts in a turn without its act
pub none_acts : (holder : Holder) (at : ℕ) → has_acted holder ≡ false → acts (Some holder) at ≡ false
none_acts holder at none = and_right (holder.cpu == at) (has_acted holder) none

-- one more entry
module _ (events : List history.Event) (event : history.Event) (holder more : Holder) (cpus : ℕ → Cpu)
    (within : holder.cpu < CPUS) (none : has_acted holder ≡ false) (same : more.cpu ≡ holder.cpu)
    (acted : has_acted more ≡ is_act event) where
  acts_now : (n : ℕ) → acts_of (Some more) cpus n
      ≡ put (acts_of (Some holder) cpus) holder.cpu (acts_of (Some holder) cpus holder.cpu + one_if (is_act event)) n
  acts_now n =
      put_each (λ i count. acts_of (Some more) cpus i ≡ count) (acts_of (Some holder) cpus) holder.cpu
      (acts_of (Some holder) cpus holder.cpu + one_if (is_act event)) here other n
    where
      now : (i : ℕ) → acts (Some more) i ≡ ((holder.cpu == i) && is_act event)
      now i = ap (λ (c : ℕ). (c == i) && has_acted more) same ∙ ap (λ (b : Bool). (holder.cpu == i) && b) acted

      before : (i : ℕ) → one_if (acts (Some holder) i) ≡ 0
      before i = ap one_if (none_acts holder i none)

      here : acts_of (Some more) cpus holder.cpu ≡ acts_of (Some holder) cpus holder.cpu + one_if (is_act event)
      here = omega (arith, ap one_if (now holder.cpu), ap (λ (b : Bool). one_if (b && is_act event)) (same_number holder.cpu), before holder.cpu)

      other : (i : ℕ) → (i == holder.cpu) ≡ false → acts_of (Some more) cpus i ≡ acts_of (Some holder) cpus i
      other i differs =
          let apart : (holder.cpu == i) ≡ false = grind (arith, nat_tests) in
          omega (arith, ap one_if (now i), ap one_if (and_left (holder.cpu == i) (is_act event) apart), before i)

  pub entry_counts : CallsCount events (Some holder) cpus → CallsCount (events ++ event ∷ []) (Some more) cpus
  entry_counts counts = record {
    acts = omega (arith, count_push is_act events event, counts.acts, total_more (acts_of (Some holder) cpus) (acts_of (Some more) cpus) holder.cpu (one_if (is_act event)) within acts_now);
    numbers = counts.numbers;
  }
