-- The counters that the holder has are those that its scans gave.
use Rattle.std.proofs.Common.{◌≡◌, ◌+◌, ◌<◌, ◌∙◌, ℕ, List, ap, arith, get_or, length, sym, Option, Some}
use Rattle.std.specs.Option.{unwrap_or}
use Rattle.std.proofs.lemmas.Grind.{same_number_lists}
use Rattle.std.proofs.lemmas.Option.{get_or_from_slice_get, unwrap_or-slice_get}
use Rattle.gh_base.specs.declared.limits.TheConstants.{CPUS}
use Rattle.gh_events.specs.Config.{Config, Holder}
use Rattle.gh_events.specs.Grace.{scan_of}
use Rattle.gh_schedules.specs.Sweep.{counters, scanned_of}
use Rattle.gh_words.specs.Holding.{HasScans}
use Rattle.gh_schedules.proofs.Scanning.{mapped_at, nine_counters}

module _ (conf : Config) (seen : List ℕ) (has : HasScans conf seen) where
  scanned_seen : (cpu : ℕ) → cpu < CPUS → scanned_of conf.turn cpu ≡ get_or seen cpu 0
  scanned_seen cpu few =
      ap (λ (turn : Option Holder). unwrap_or (scan_of turn cpu) 0) has.turn
      ∙ ap (λ (scan : Option ℕ). unwrap_or scan 0) (sym (has.scans.each cpu few))
      ∙ unwrap_or-slice_get seen cpu 0

  counter_seen : (cpu : ℕ) → cpu < length (counters conf) → get_or (counters conf) cpu 0 ≡ get_or seen cpu 0
  unfolding counters
  counter_seen cpu within =
      get_or_from_slice_get (counters conf) cpu (scanned_of conf.turn cpu) 0
      (mapped_at (scanned_of conf.turn) CPUS 0 cpu within
      ∙ ap (λ (n : ℕ). Some (scanned_of conf.turn n)) (let same : 0 + cpu ≡ cpu = omega arith in same))
      ∙ scanned_seen cpu within

  pub seen_counters : counters conf ≡ seen
  seen_counters = same_number_lists (counters conf) seen (nine_counters conf ∙ sym has.scans.nine) counter_seen
