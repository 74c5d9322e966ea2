-- The holder scans the counters of all CPUs.
use Rattle.std.proofs.Common.{◌≡◌, ◌==◌, ◌+◌, ◌<◌, ◌≤◌, ◌∙◌, inl, inr, ℕ, zero, suc, false, refl, subst, sym, ap, arith, length, map, slice_get, Option, Some}
use Rattle.std.specs.List.{range_with_len}
use Rattle.std.specs.Option.{unwrap_or}
use Rattle.std.proofs.lemmas.Bool.Decides.{eqb_tells, nat_tests}
use Rattle.gh_base.specs.declared.limits.TheConstants.{CPUS}
use Rattle.gh_events.specs.Config.{Config, Current, Holder, put}
use Rattle.gh_events.specs.Entries.{AreScans}
use Rattle.gh_events.specs.Grace.{scan_of}
use Rattle.gh_events.specs.HolderEvents.{MayScan}
use Rattle.gh_events.specs.Sound.{IsSound}
use Rattle.gh_schedules.specs.Sweep.{all_cpus, counters, scan, scanned_of, scans}
use Rattle.gh_schedules.specs.Trace.{after_all}
use Rattle.gh_schedules.proofs.Commits.{IsActive}
use Rattle.gh_events.proofs.Finding.{put_here, put_other}
use Rattle.gh_events.proofs.SoundEvents.{event_keeps_sound}
use Rattle.gh_schedules.proofs.TraceLaws.{Leads, leads_none}

-- what the holder scanned, changed
abbrev pub with_scans : Holder → (ℕ → Option ℕ) → Holder
with_scans holder seen = record holder { scans = seen }

abbrev pub at_scans : Config → Holder → (ℕ → Option ℕ) → Config
at_scans conf holder seen = record conf { turn = Some (with_scans holder seen) }

-- the holder has the counters of all CPUs
abbrev pub HasScans : Config → Holder → Type 0
HasScans conf holder = (cpu : ℕ) → cpu < CPUS → holder.scans cpu ≡ Some (conf.counter cpu)

-- only the scans changed, and are those of these CPUs; of lesser ones they are as before
pub record ScansTo (conf : Config) (holder : Holder) (before : ℕ → Option ℕ) (from to : ℕ)
    (new : Config) : Type 0 where
  pub seen : ℕ → Option ℕ
  pub is : new ≡ at_scans conf holder seen
  pub sound : IsSound new
  pub got : (cpu : ℕ) → from ≤ cpu → cpu < to → seen cpu ≡ Some (conf.counter cpu)
  pub rest : (cpu : ℕ) → cpu < from → seen cpu ≡ before cpu

module _ (conf : Config) (at : ℕ) (holder : Holder) (is_cpu : at < CPUS) (its : holder.cpu ≡ at)
  where
    got_by : (seen : ℕ → Option ℕ) (before : ℕ → Option ℕ) (from cpu : ℕ)
        → ((n : ℕ) → n < from + 1 → seen n ≡ put before from (Some (conf.counter from)) n)
        → cpu ≡ from → seen cpu ≡ Some (conf.counter cpu)
    got_by seen before from cpu rest same =
        subst (λ (n : ℕ). seen n ≡ Some (conf.counter n)) (sym same) (rest from (omega arith) ∙ put_here before from (Some (conf.counter from)))

    pub scans_from : (count from : ℕ) (before : ℕ → Option ℕ) → from + count ≤ CPUS
        → IsSound (at_scans conf holder before)
        → Leads (at_scans conf holder before) (map (scan at) (range_with_len from count))
        (ScansTo conf holder before from (from + count))
    scans_from zero from before few sound =
        leads_none (at_scans conf holder before) (ScansTo conf holder before from (from + 0))
        (record { seen = before; is = refl; sound = sound; got = λ cpu above below. absurd (omega (arith, above, below)); rest = λ cpu below. refl })
    scans_from (suc count) from before few sound =
        let may : MayScan (at_scans conf holder before) at from = record { is_cpu = is_cpu; of_cpu = omega (arith, few); holder = with_scans holder before; has_turn = record { turn = refl; its_cpu = its } } in
        let seen : ℕ → Option ℕ = put before from (Some (conf.counter from)) in
        let on : Leads (at_scans conf holder (put before from (Some (conf.counter from)))) (map (scan at) (range_with_len (from + 1) count)) (ScansTo conf holder (put before from (Some (conf.counter from))) (from + 1) (from + 1 + count)) =
        scans_from count (from + 1) (put before from (Some (conf.counter from))) (omega (arith, few))
        (event_keeps_sound (at_scans conf holder before) (scan at from) sound may) in
        record {
          done = (may, on.done);
          behind = (let last : ScansTo conf holder (put before from (Some (conf.counter from))) (from + 1) (from + 1 + count) (after_all (at_scans conf holder (put before from (Some (conf.counter from)))) (map (scan at) (range_with_len (from + 1) count))) = on.behind in
              record {
                seen = last.seen;
                is = last.is;
                sound = last.sound;
                got = λ cpu above below. by_first last.seen last.rest last.got cpu above below;
                rest = λ cpu below. last.rest cpu (omega (arith, below)) ∙ put_other before from (Some (conf.counter from)) cpu (let apart : (cpu == from) ≡ false = grind (arith, nat_tests) in apart);
              });
        }
      where
        by_first : (seen : ℕ → Option ℕ)
            → ((n : ℕ) → n < from + 1 → seen n ≡ put before from (Some (conf.counter from)) n)
            → ((n : ℕ) → from + 1 ≤ n → n < from + 1 + count → seen n ≡ Some (conf.counter n))
            → (cpu : ℕ) → from ≤ cpu → cpu < from + suc count → seen cpu ≡ Some (conf.counter cpu)
        by_first seen rest got cpu above below =
            elim (eqb_tells cpu from) as (λ _. seen cpu ≡ Some (conf.counter cpu)) [
              | inl same ↦ got_by seen before from cpu rest same.1
              | inr differs ↦ got cpu (omega (arith, above, differs.1)) (omega (arith, below))
            ]

-- all of them are scanned
pub scans_lead : (conf : Config) (at : ℕ) (holder : Holder) (call : Current)
    → IsActive conf at holder call
    → Leads conf (scans at conf) (ScansTo conf holder holder.scans 0 CPUS)
unfolding scans
scans_lead conf at holder call active =
    let same : at_scans conf holder holder.scans ≡ conf = ap (λ (turn : Option Holder). record conf { turn = turn }) (sym active.has_turn.turn) in
    subst (λ (now : Config). Leads now (map (scan at) all_cpus) (ScansTo conf holder holder.scans 0 CPUS)) same
    (scans_from conf at holder active.is_cpu active.has_turn.its_cpu CPUS 0 holder.scans (omega arith) (subst IsSound (sym same) active.sound))

-- the counters that the holder scanned, as a list

-- an item of such a list
pub mapped_at : {X : Type 0} (f : ℕ → X) (count from at : ℕ) → at < count
    → slice_get (map f (range_with_len from count)) at ≡ Some (f (from + at))
mapped_at f zero from at few = absurd (omega (arith, few))
mapped_at f (suc count) from zero few = ap (λ (n : ℕ). Some (f n)) (let same : from ≡ from + 0 = omega arith in same)
mapped_at f (suc count) from (suc at) few =
    mapped_at f count (from + 1) at (omega (arith, few)) ∙ ap (λ (n : ℕ). Some (f n)) (let same : from + 1 + at ≡ from + suc at = omega arith in same)

pub counter_at : (conf : Config) (holder : Holder) → conf.turn ≡ Some holder → HasScans conf holder
    → (cpu : ℕ) → cpu < CPUS → slice_get (counters conf) cpu ≡ Some (conf.counter cpu)
unfolding counters
counter_at conf holder turn has cpu few =
    mapped_at (scanned_of conf.turn) CPUS 0 cpu few
    ∙ ap (λ (n : ℕ). Some (scanned_of conf.turn n)) (let same : 0 + cpu ≡ cpu = omega arith in same)
    ∙ ap (λ (one : Option Holder). Some (unwrap_or (scan_of one cpu) 0)) turn
    ∙ ap (λ (one : Option ℕ). Some (unwrap_or one 0)) (has cpu few)

pub nine_counters : (conf : Config) → length (counters conf) ≡ CPUS
unfolding counters
nine_counters conf = refl

-- they are what the holder scanned
pub are_scans : (conf : Config) (holder : Holder) → conf.turn ≡ Some holder → HasScans conf holder
    → AreScans holder (counters conf)
are_scans conf holder turn has = record {
  nine = nine_counters conf;
  each = λ cpu few. counter_at conf holder turn has cpu few ∙ sym (has cpu few);
}
