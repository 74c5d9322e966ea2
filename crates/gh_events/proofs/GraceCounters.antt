-- The counters that an entry keeps are above the sections that they should be above.
use Rattle.std.proofs.Common.{◌≡◌, ◌==◌, ◌%◌, ◌<◌, ◌≤◌, ◌∙◌, ℕ, Bool, true, false, List, inl, inr, refl, subst, sym, ap, arith, IsTrue, Some, length, slice_get}
use Rattle.std.specs.Prelude.{nat_lt, slice_index}
use Rattle.std.proofs.lemmas.Bool.Decides.{eqb_tells, nat_tests}
use Rattle.std.proofs.lemmas.Slice.Zip.{AllZip-long}
use Rattle.gh_base.specs.Counters.{is_odd}
use Rattle.gh_base.specs.declared.ids.Serial.{Serial}
use Rattle.gh_base.specs.declared.limits.TheConstants.{CPUS}
use Rattle.gh_model.specs.Graced.{was_granted}
use Rattle.gh_model.specs.History.{counters, reclaims}
use Rattle.gh_model.specs.Marks.{Made}
use Rattle.gh_model.specs.Rows.{object_row}
use Rattle.gh_model.specs.declared.entry.Entry.{Entry}
use Rattle.gh_model.specs.declared.entry.Entry.TheVariants.{Acted, Part, Retired, Reclaimed}
use Rattle.gh_events.specs.Config.{Config, Holder, present}
use Rattle.gh_events.specs.Entries.{AreScans}
use Rattle.gh_events.specs.Grace.{CounterFits, CpuGrace, HasGrace, IsKept, IsLeft, has_section, objects_of, scan_of}
use Rattle.gh_events.specs.TurnEvents.{MayCommit}
use Rattle.gh_events.proofs.GraceCalls.{same_some}
use Rattle.gh_events.proofs.GraceReclaim.{scans_are}
use Rattle.gh_events.proofs.GraceSpares.{HasCounters, left_all, old, zip_at}

-- a section that there is, is odd
section_odd : (counter section : ℕ) → IsLeft counter section → nat_lt 0 section ≡ true
    → section % 2 ≡ 1
section_odd counter section (inl none) some =
    let more : 0 < section = grind (arith, nat_tests) in
    absurd (omega (arith, none, more))
section_odd counter section (inr left) some = left.0

module _ (conf : Config) (graced : HasGrace conf) (holder : Holder) (turn : conf.turn ≡ Some holder)
    (seen : List ℕ) (are : AreScans holder seen) (cpu : ℕ) (within : cpu < CPUS) where
  scan_is : scan_of conf.turn cpu ≡ Some (slice_index seen cpu)
  scan_is = scans_are conf holder seen cpu turn are within

  -- of an entry that reclaims nothing
  scan_fits : (entry : Entry) → ((i serial : ℕ) (made : Made) → slice_get (conf.cpu cpu).made i ≡ Some made → reclaims entry ≡ Some serial → was_granted serial made ≡ true → has_section made ≡ true → made.mark.section < slice_index seen cpu)
      → CounterFits conf entry cpu (slice_index seen cpu)
  scan_fits entry granted = record {
    rising = (graced.each cpu within).kept_scanned (slice_index seen cpu) scan_is;
    ended = λ i made is placed some. (graced.each cpu within).acts (slice_index seen cpu) i made scan_is is placed some;
    granted = granted;
  }

module _ (conf : Config) (at : ℕ) (serial : Serial) (seen : List ℕ) (graced : HasGrace conf)
    (may : MayCommit conf at (Reclaimed serial seen)) (cpu : ℕ) (within : cpu < CPUS) where
  before : HasCounters (object_row (present conf) serial.0)
  before = old conf at serial seen graced may

  -- a CPU that was reading at the retirement has left, and an even counter isn't a section
  above_by : (odd : Bool) (section : ℕ) → is_odd (slice_index before.seen cpu) ≡ odd
      → section % 2 ≡ 1 → section ≤ slice_index before.seen cpu → section < slice_index seen cpu
  unfolding before
  above_by true section reading is below =
      let all = left_all conf at serial seen graced may in
      let long : length seen ≡ length before.seen = AllZip-long (λ first now. IsTrue (is_odd first) → first < now) before.seen seen all in
      let gone : slice_index before.seen cpu < slice_index seen cpu = zip_at (λ first now. IsTrue (is_odd first) → first < now) before.seen seen cpu all (omega (arith, long, may.allows.allowed.scans.nine, within)) reading in
      omega (arith, gone, below)
  above_by false section even is below =
      let kept : IsKept conf.history serial.0 before.seen = graced.kept serial.0 before.seen before.is in
      let most : slice_index before.seen cpu ≤ slice_index seen cpu = (graced.each cpu within).kept_scanned (slice_index seen cpu) (scans_are conf may.holder seen cpu may.allows.has_turn.turn may.allows.allowed.scans within) kept.at kept.event before.seen kept.is kept.keeps in
      let apart : section < slice_index before.seen cpu = odd_below section (slice_index before.seen cpu) is even below in
      omega (arith, most, apart)
    where
      same_parity : (first second : ℕ) → first % 2 ≡ 1 → is_odd second ≡ false → first ≡ second → ⊥
      same_parity first second is even same =
          let odd : second % 2 ≡ 1 = sym (ap (λ (n : ℕ). n % 2) same) ∙ is in
          let reads : is_odd second ≡ true = grind (arith, nat_tests) in
          cc

      odd_below : (first second : ℕ) → first % 2 ≡ 1 → is_odd second ≡ false → first ≤ second → first < second
      odd_below first second is even below =
          elim (eqb_tells first second) as (λ _. first < second) [
            | inl same ↦ absurd (same_parity first second is even same.1)
            | inr differs ↦ let apart : (first == second) ≡ false = differs.0 in grind (arith, nat_tests)
          ]

  reclaim_above : (i named : ℕ) (made : Made) → slice_get (conf.cpu cpu).made i ≡ Some made
      → Some serial.0 ≡ Some named → was_granted named made ≡ true → has_section made ≡ true
      → made.mark.section < slice_index seen cpu
  unfolding before
  reclaim_above i named made is that granted some =
      let same : serial.0 ≡ named = same_some serial.0 named that in
      let grace : CpuGrace (objects_of conf) conf.history cpu (conf.cpu cpu) (conf.counter cpu) (scan_of conf.turn cpu) = graced.each cpu within in
      let own : was_granted serial.0 made ≡ true = subst (λ (n : ℕ). was_granted n made ≡ true) (sym same) granted in
      let below : made.mark.section ≤ slice_index before.seen cpu = (grace.made_reads i serial.0 made is own).retired before.seen before.is in
      above_by (is_odd (slice_index before.seen cpu)) made.mark.section refl (section_odd (conf.counter cpu) made.mark.section (grace.ended i made is) some) below

-- the counters of an entry fit
pub counters_fit : (conf : Config) (at : ℕ) (entry : Entry) (seen : List ℕ) (cpu : ℕ) → HasGrace conf
    → MayCommit conf at entry → counters entry ≡ Some seen → cpu < CPUS
    → CounterFits conf entry cpu (slice_index seen cpu)
counters_fit conf at (Acted n number) seen cpu graced may keeps within = absurd (let never : ⊥ = cc in never)
counters_fit conf at (Part n number space slot) seen cpu graced may keeps within = absurd (let never : ⊥ = cc in never)
counters_fit conf at (Retired serial kept) seen cpu graced may keeps within =
    subst (λ (list : List ℕ). CounterFits conf (Retired serial kept) cpu (slice_index list cpu)) (same_some kept seen keeps) (scan_fits conf graced may.holder may.allows.has_turn.turn kept may.allows.allowed.scans cpu within (Retired serial kept) (λ i named made is that. absurd (let never : ⊥ = cc in never)))
counters_fit conf at (Reclaimed serial kept) seen cpu graced may keeps within =
    subst (λ (list : List ℕ). CounterFits conf (Reclaimed serial kept) cpu (slice_index list cpu)) (same_some kept seen keeps) (scan_fits conf graced may.holder may.allows.has_turn.turn kept may.allows.allowed.scans cpu within (Reclaimed serial kept) (reclaim_above conf at serial kept graced may cpu within))
