-- Rounds of the sweep, until one adds no entry: then each object that is retired or without
-- references has what holds it.
use Rattle.std.proofs.Common.{◌≡◌, ◌==◌, ◌+◌, ◌*◌, ◌<◌, ◌≤◌, ◌∙◌, inl, inr, ℕ, zero, suc, Bool, true, false, not, List, [], ◌∷◌, ◌++◌, refl, subst, sym, ap, arith, length, filter, map, slice_get, Option, Some, None, is_some, if◌then◌else◌}
use Rattle.std.specs.Prelude.{⊤, ◌&&◌, ◌||◌, count_by, flat_map, nat_lt, option_map, slice_index}
use Rattle.std.specs.List.{list_all, range_with_len}
use Rattle.std.specs.Option.{unwrap_or}
use Rattle.std.proofs.lemmas.Bool.{and_from}
use Rattle.std.proofs.lemmas.Bool.Decides.{nat_tests}
use Rattle.gh_base.specs.Counters.{is_odd}
use Rattle.gh_base.specs.declared.ids.Serial.{Serial}
use Rattle.gh_base.specs.declared.mark.Held.{Held}
use Rattle.gh_base.specs.declared.limits.TheConstants.{CPUS}
use Rattle.gh_model.specs.Graced.{retirement}
use Rattle.gh_model.specs.Held.{is_held}
use Rattle.gh_model.specs.History as history
use Rattle.gh_model.specs.QueueCalls.{one_if}
use Rattle.gh_model.specs.References.{is_doomed, references}
use Rattle.gh_model.specs.Rows.{is_object, object_row}
use Rattle.gh_model.specs.declared.rows.ObjectRow.{ObjectRow}
use Rattle.gh_model.specs.declared.state.State.{State}
use Rattle.gh_invariant.proofs.Counting.{count_cons}
use Rattle.gh_events.specs.Config.{Config, Current, Holder, entries, present}
use Rattle.gh_events.specs.Grace.{IsKept, scan_of}
use Rattle.gh_events.specs.Length.{is_leaving, is_staying}
use Rattle.gh_schedules.specs.Causes.{causes_now, count_of, counters_now, held_by}
use Rattle.gh_schedules.specs.Sweep.{KeepsNine, adds_entry, counters, doomed_objects, all_cpus, has_left, have_left, is_doomed_row, is_left, is_retired_row, killing, kills_all, may_kill, may_reclaim, reclaiming, reclaims_all, retired_objects, round, rounds, scanned_of, scans, serial_of, sweep}
use Rattle.gh_schedules.specs.Trace.{after_all, and_then, for_each}
use Rattle.gh_events.specs.TurnEvents.{as_list, cause, cause_of, causes, first_reader, has_causes, is_scan, pins_of, reading}
use Rattle.gh_events.specs.declared.event.Event.{Event}
use Rattle.gh_events.proofs.CausesHeld.{stands_found}
use Rattle.gh_events.proofs.Finding.{same_number}
use Rattle.gh_schedules.proofs.Scanning.{ScansTo, counter_at, mapped_at, nine_counters, scans_lead}
use Rattle.gh_schedules.proofs.SweepKills.{grew_on, killing_leads, scanned_on, still_grew, still_on, still_still}
use Rattle.gh_schedules.proofs.SweepSteps.{Grew, IsScanned, IsSeen, IsStill, IsSweeping, Steps, failed_of, reclaiming_leads, to_go}
use Rattle.gh_schedules.proofs.TraceLaws.{Leads, leads_append, leads_none, leads_so, leads_then}

-- each object in turn

abbrev AllFacts : (Serial → Config → Type 0) → List Serial → Config → Type 0
AllFacts Fact [] new = ⊤
AllFacts Fact (x ∷ xs) new = Fact x new × AllFacts Fact xs new

module _ (at : ℕ) (call : Current) (plan : Serial → Config → List Event)
    (Fact : Serial → Config → Type 0)
    (each : (x : Serial) (conf : Config) → IsScanned conf at call
    → Leads conf (plan x conf) (λ new. IsScanned new at call × Steps conf (Fact x) new))
    (stable : (x : Serial) (conf new : Config) → IsScanned conf at call → IsScanned new at call
    → IsStill conf new → Fact x conf → Fact x new) where
  joined : (conf mid new : Config) (x : Serial) (xs : List Serial) → IsScanned mid at call
      → IsScanned new at call → Steps conf (Fact x) mid → Steps mid (AllFacts Fact xs) new
      → Steps conf (AllFacts Fact (x ∷ xs)) new
  joined conf mid new x xs was now (inl more) others = inl (grew_on conf mid new (AllFacts Fact xs) more others)
  joined conf mid new x xs was now (inr still) (inl more) = inl (still_grew conf mid new still.0 more)
  joined conf mid new x xs was now (inr still) (inr rest) =
      inr (still_still conf mid new still.0 rest.0, (stable x mid new was now rest.0 still.1, rest.1))

  each_leads : (xs : List Serial) (conf : Config) → IsScanned conf at call
      → Leads conf (for_each plan xs conf) (λ new. IsScanned new at call × Steps conf (AllFacts Fact xs) new)
  unfolding for_each
  each_leads [] conf scanned =
      leads_none conf (λ new. IsScanned new at call × Steps conf (AllFacts Fact []) new)
      (scanned, inr (record { history = refl; boot = refl; counter = refl; failed = λ serial some. some }, tt))
  each_leads (x ∷ xs) conf scanned =
      leads_then (plan x) (for_each plan xs) conf (λ new. IsScanned new at call × Steps conf (Fact x) new) (λ new. IsScanned new at call × Steps conf (AllFacts Fact (x ∷ xs)) new)
      (each x conf scanned)
      (λ mid both. leads_so mid (for_each plan xs mid) (λ new. IsScanned new at call × Steps mid (AllFacts Fact xs) new) (λ new. IsScanned new at call × Steps conf (AllFacts Fact (x ∷ xs)) new)
      (each_leads xs mid both.0)
      (λ new more. (more.0, joined conf mid new x xs both.0 more.0 both.1 more.1)))

-- what stays where nothing changed

still_state : (conf new : Config) → IsStill conf new → present new ≡ present conf
still_state conf new still =
    ap (λ (events : List history.Event). history.replay new.boot events) still.history ∙ ap (λ (boot : State). history.replay boot conf.history) still.boot

module _ (at : ℕ) (call : Current) where
  abbrev Unreclaimed : Serial → Config → Type 0
  Unreclaimed x new = may_reclaim (present new) x (counters new) ≡ false

  abbrev KillSeen : Serial → Config → Type 0
  KillSeen x new = may_kill (present new) x ≡ true → IsSeen new x.0

  same_counters : (conf new : Config) → IsScanned conf at call → IsScanned new at call → IsStill conf new
      → counters new ≡ counters conf
  unfolding counters
  same_counters conf new was now still =
      mapped_same (λ cpu few. by_cpu cpu few)
    where
      by_cpu : (cpu : ℕ) → cpu < CPUS → scanned_of new.turn cpu ≡ scanned_of conf.turn cpu
      by_cpu cpu few =
          ap (λ (one : Option Holder). unwrap_or (scan_of one cpu) 0) now.sweeping.active.has_turn.turn
          ∙ ap (λ (one : Option ℕ). unwrap_or one 0) (now.scans cpu few)
          ∙ ap (λ (values : ℕ → ℕ). values cpu) still.counter
          ∙ sym (ap (λ (one : Option Holder). unwrap_or (scan_of one cpu) 0) was.sweeping.active.has_turn.turn
          ∙ ap (λ (one : Option ℕ). unwrap_or one 0) (was.scans cpu few))

      mapped_from : (count from : ℕ) → from + count ≤ CPUS
          → ((cpu : ℕ) → cpu < CPUS → scanned_of new.turn cpu ≡ scanned_of conf.turn cpu)
          → map (scanned_of new.turn) (range_with_len from count) ≡ map (scanned_of conf.turn) (range_with_len from count)
      mapped_from zero from few same = refl
      mapped_from (suc count) from few same =
          rw (same from (omega (arith, few))) (ap (λ (others : List ℕ). scanned_of conf.turn from ∷ others) (mapped_from count (from + 1) (omega (arith, few)) same))

      mapped_same : ((cpu : ℕ) → cpu < CPUS → scanned_of new.turn cpu ≡ scanned_of conf.turn cpu)
          → map (scanned_of new.turn) all_cpus ≡ map (scanned_of conf.turn) all_cpus
      mapped_same same = mapped_from CPUS 0 (omega arith) same

  stays_unreclaimed : (x : Serial) (conf new : Config) → IsScanned conf at call → IsScanned new at call
      → IsStill conf new → Unreclaimed x conf → Unreclaimed x new
  stays_unreclaimed x conf new was now still fact =
      ap (λ (s : State). may_reclaim s x (counters new)) (still_state conf new still)
      ∙ ap (may_reclaim (present conf) x) (same_counters conf new was now still) ∙ fact

  stays_seen : (x : Serial) (conf new : Config) → IsScanned conf at call → IsScanned new at call
      → IsStill conf new → KillSeen x conf → KillSeen x new
  stays_seen x conf new was now still fact =
      λ may. still.failed x.0 (fact (sym (ap (λ (s : State). may_kill s x) (still_state conf new still)) ∙ may))

  abbrev AllUnreclaimed : List Serial → Config → Type 0
  AllUnreclaimed xs new =
      AllFacts Unreclaimed xs new

  abbrev AllSeen : List Serial → Config → Type 0
  AllSeen xs new =
      AllFacts KillSeen xs new

  reclaims_lead : (xs : List Serial) (conf : Config) → IsScanned conf at call
      → Leads conf (for_each (reclaiming at) xs conf) (λ new. IsScanned new at call × Steps conf (AllUnreclaimed xs) new)
  reclaims_lead xs conf scanned =
      each_leads at call (reclaiming at) Unreclaimed (λ x conf scanned. reclaiming_leads conf at call x scanned) stays_unreclaimed xs conf scanned

  kills_lead : (xs : List Serial) (conf : Config) → IsScanned conf at call
      → Leads conf (for_each (killing at) xs conf) (λ new. IsScanned new at call × Steps conf (AllSeen xs) new)
  kills_lead xs conf scanned =
      each_leads at call (killing at) KillSeen (λ x conf scanned. killing_leads conf at call x scanned) stays_seen xs conf scanned

-- the first reader

first_by : (seen : ℕ → Option ℕ) (from counter : ℕ) (others : Option (ℕ × ℕ)) (odd scan : Bool)
    → is_some others ≡ true → is_some (if odd && scan then Some (from, counter) else others) ≡ true
first_by seen from counter others true true some = refl
first_by seen from counter others true false some = some
first_by seen from counter others false scan some = some

-- where not all have left by these seen, there is one
first_reads : (seen : ℕ → Option ℕ) (values : ℕ → ℕ) (before now : List ℕ) (from : ℕ)
    → length before ≡ length now
    → ((k : ℕ) → k < length before → slice_get now k ≡ Some (values (from + k)))
    → ((k : ℕ) → k < length before → seen (from + k) ≡ Some (values (from + k)))
    → ((k : ℕ) → k < length before → slice_index before k ≤ values (from + k))
    → have_left before now ≡ false → is_some (first_reader seen from before) ≡ true
first_reads seen values [] [] from same there scanned below left = absurd (let never : ⊥ = cc in never)
first_reads seen values [] (n ∷ now) from same there scanned below left = absurd (let never : ⊥ = cc in never)
first_reads seen values (b ∷ before) [] from same there scanned below left = absurd (let never : ⊥ = cc in never)
first_reads seen values (b ∷ before) (n ∷ now) from same there scanned below left =
    by_left (has_left b n) refl (λ later. first_reads seen values before now (from + 1) (omega (arith, same)) (λ k few. there (suc k) (omega (arith, few)) ∙ moved k) (λ k few. sym (ap seen (shift k)) ∙ scanned (suc k) (omega (arith, few)) ∙ moved k) (λ k few. subst (λ (m : ℕ). slice_index before k ≤ values m) (shift k) (below (suc k) (omega (arith, few)))) later)
  where
    shift : (k : ℕ) → from + suc k ≡ from + 1 + k
    shift k = omega arith

    moved : (k : ℕ) → Some (values (from + suc k)) ≡ Some (values (from + 1 + k))
    moved k = ap (λ (m : ℕ). Some (values m)) (shift k)

    here : from + 0 ≡ from
    here = omega arith

    value : n ≡ values from
    value =
        let is : Some n ≡ Some (values (from + 0)) = there 0 (omega arith) in
        let same_value : n ≡ values (from + 0) = cc in
        same_value ∙ ap values here

    scan : seen from ≡ Some n
    scan = sym (ap seen here) ∙ scanned 0 (omega arith) ∙ ap (λ (m : ℕ). Some (values m)) here ∙ ap (λ (m : ℕ). Some m) (sym value)

    least : b ≤ n
    least = subst (λ (m : ℕ). b ≤ m) (ap values here ∙ sym value) (below 0 (omega arith))

    stuck : has_left b n ≡ false → (is_odd b ≡ true) × (b ≡ n)
    stuck kept = by_odd (is_odd b) refl kept
      where
        by_odd : (odd : Bool) → is_odd b ≡ odd → (not odd || nat_lt b n) ≡ false → (is_odd b ≡ true) × (b ≡ n)
        by_odd true is kept = (is, by_less (nat_lt b n) refl kept)
          where
            by_less : (less : Bool) → nat_lt b n ≡ less → (false || less) ≡ false → b ≡ n
            by_less true is_less kept = absurd (let never : ⊥ = cc in never)
            by_less false is_less kept = grind (arith, nat_tests, least)
        by_odd false is kept = absurd (let never : ⊥ = cc in never)

    by_left : (gone : Bool) → has_left b n ≡ gone
        → (have_left before now ≡ false → is_some (first_reader seen (from + 1) before) ≡ true)
        → is_some (first_reader seen from (b ∷ before)) ≡ true
    by_left true gone rest =
        first_by seen from b (first_reader seen (from + 1) before) (is_odd b) (is_scan b (seen from))
        (rest (sym (ap (λ (one : Bool). one && have_left before now) gone) ∙ left))
    by_left false gone rest =
        let odd : is_odd b ≡ true = (stuck gone).0 in
        let same_counter : b ≡ n = (stuck gone).1 in
        let is : is_scan b (seen from) ≡ true = ap (is_scan b) scan ∙ subst (λ (m : ℕ). (n == m) ≡ true) (sym same_counter) (same_number n) in
        ap (λ (both : Bool). is_some (if both then Some (from, b) else first_reader seen (from + 1) before)) (and_from _ _ odd is)

-- by the same scans, it is the same one
same_reader : (seen other : ℕ → Option ℕ) (from : ℕ) (before : List ℕ)
    → ((cpu : ℕ) → cpu < from + length before → seen cpu ≡ other cpu)
    → first_reader seen from before ≡ first_reader other from before
same_reader seen other from [] same = refl
same_reader seen other from (b ∷ before) same =
    ap (λ (scan : Option ℕ). if is_odd b && is_scan b scan then Some (from, b) else first_reader seen (from + 1) before) (same from (omega arith))
    ∙ ap (λ (others : Option (ℕ × ℕ)). if is_odd b && is_scan b (other from) then Some (from, b) else others)
    (same_reader seen other (from + 1) before (λ cpu few. same cpu (omega (arith, few))))

all_stay : (at : ℕ) (call : Current) (Fact : Serial → Config → Type 0)
    → ((x : Serial) (conf new : Config) → IsScanned conf at call → IsScanned new at call → IsStill conf new → Fact x conf → Fact x new)
    → (xs : List Serial) (conf new : Config) → IsScanned conf at call → IsScanned new at call → IsStill conf new
    → AllFacts Fact xs conf → AllFacts Fact xs new
all_stay at call Fact stable [] conf new was now still facts = tt
all_stay at call Fact stable (x ∷ xs) conf new was now still facts =
    (stable x conf new was now still facts.0, all_stay at call Fact stable xs conf new was now still facts.1)

-- what holds each object

module _ (at : ℕ) (call : Current) (conf : Config) (scanned : IsScanned conf at call)
    (nine : KeepsNine conf.history) where
  abbrev s : State
  s = present conf

  abbrev holder : Holder
  holder = scanned.sweeping.holder

  abbrev Own : List ObjectRow → Type 0
  Own rows = (i : ℕ) (row : ObjectRow) → slice_get rows i ≡ Some row → object_row s row.serial.0 ≡ Some row

  own_all : Own s.objects
  own_all i row is =
      stands_found (is_object row.serial.0) s.objects i row is (same_number row.serial.0) (scanned.sweeping.active.sound.valid.valid.objects.once row.serial.0)

  -- the counters of a retirement are nine, none above a scan
  kept_nine : (serial : ℕ) (before : List ℕ) → retirement (object_row s serial) ≡ Some before → length before ≡ CPUS
  kept_nine serial before is =
      let kept : IsKept conf.history serial before = scanned.sweeping.active.sound.grace.kept serial before is in
      nine kept.at kept.event before kept.is kept.keeps

  kept_below : (serial : ℕ) (before : List ℕ) → retirement (object_row s serial) ≡ Some before
      → (cpu : ℕ) → cpu < CPUS → slice_index before cpu ≤ conf.counter cpu
  kept_below serial before is cpu few =
      let kept : IsKept conf.history serial before = scanned.sweeping.active.sound.grace.kept serial before is in
      (scanned.sweeping.active.sound.grace.each cpu few).kept_below kept.at kept.event before kept.is kept.keeps

  reader_there : (serial : ℕ) (before : List ℕ) → retirement (object_row s serial) ≡ Some before
      → have_left before (counters conf) ≡ false → is_some (first_reader holder.scans 0 before) ≡ true
  reader_there serial before is left =
      first_reads holder.scans conf.counter before (counters conf) 0 (kept_nine serial before is ∙ sym (nine_counters conf))
      (λ k few. counter_at conf holder scanned.sweeping.active.has_turn.turn scanned.scans k (within k few) ∙ ap (λ (n : ℕ). Some (conf.counter n)) (plus k))
      (λ k few. sym (ap holder.scans (plus k)) ∙ scanned.scans k (within k few) ∙ ap (λ (n : ℕ). Some (conf.counter n)) (plus k))
      (λ k few. subst (λ (n : ℕ). slice_index before k ≤ conf.counter n) (plus k) (kept_below serial before is k (within k few)))
      left
    where
      plus : (k : ℕ) → k ≡ 0 + k
      plus k = omega arith

      within : (k : ℕ) → k < length before → k < CPUS
      within k few = omega (arith, few, kept_nine serial before is)

  -- a retired object has no references, so a CPU reads it where it wasn't reclaimed
  still_read : (row : ObjectRow) (before : List ℕ) → object_row s row.serial.0 ≡ Some row → row.retired ≡ Some before
      → may_reclaim s row.serial (counters conf) ≡ false
      → is_some (first_reader holder.scans 0 before) ≡ true
  still_read row before own kept fails =
      let retired : history.is_retired (object_row s row.serial.0) ≡ true = ap history.is_retired own ∙ ap is_some kept in
      let none : references s row.serial.0 ≡ 0 = scanned.sweeping.active.sound.valid.valid.retired row.serial.0 retired in
      let doomed : is_doomed s row.serial.0 ≡ true = grind (arith, nat_tests) in
      let retirement_is : retirement (object_row s row.serial.0) ≡ Some before = ap retirement own ∙ kept in
      let left : have_left before (counters conf) ≡ false =
      sym (ap (λ (list : Option (List ℕ)). is_left list (counters conf)) retirement_is)
      ∙ sym (ap (λ (one : Bool). one && is_left (retirement (object_row s row.serial.0)) (counters conf)) doomed) ∙ fails in
      reader_there row.serial.0 before retirement_is left

  mapped_some : {A B : Type 0} (f : A → B) (found : Option A) → is_some found ≡ true → is_some (option_map f found) ≡ true
  mapped_some f None some = absurd (let never : ⊥ = cc in never)
  mapped_some f (Some a) some = refl

  -- what is seen of a row
  abbrev RowFacts : ObjectRow → Type 0
  RowFacts row =
      (is_retired_row row ≡ true → Unreclaimed at call row.serial conf)
      × (is_doomed_row s row ≡ true → KillSeen at call row.serial conf)

  -- a failed kill saw the count of its word
  kill_seen : (row : ObjectRow) → row.retired ≡ None → object_row s row.serial.0 ≡ Some row
      → is_held s row ≡ true → RowFacts row
      → holder.failed row.serial.0 ≡ Some (conf.count (conf.index row.serial.0))
  kill_seen row is own held facts =
      let doomed : is_doomed s row.serial.0 ≡ true = sym (ap (λ (kept : Option (List ℕ)). is_some kept || is_doomed s row.serial.0) is) ∙ held in
      let unretired : not (is_some row.retired) ≡ true = ap (λ (kept : Option (List ℕ)). not (is_some kept)) is in
      let may : may_kill s row.serial ≡ true = and_from _ _ doomed (ap history.is_unretired own ∙ unretired) in
      sym (ap (λ (turn : Option Holder). failed_of turn row.serial.0) scanned.sweeping.active.has_turn.turn)
      ∙ facts.1 (and_from _ _ doomed unretired) may

  caused_by : (row : ObjectRow) (kept : Option (List ℕ)) → row.retired ≡ kept → object_row s row.serial.0 ≡ Some row
      → is_held s row ≡ true → RowFacts row → is_some (cause holder row kept) ≡ true
  caused_by row (Some before) is own held facts =
      mapped_some (reading row) (first_reader holder.scans 0 before) (still_read row before own is (facts.0 (ap is_some is)))
  caused_by row None is own held facts =
      mapped_some (pins_of row) (holder.failed row.serial.0) (ap is_some (kill_seen row is own held facts))

  -- the scans are the counters
  scans_now : (cpu : ℕ) → cpu < CPUS → holder.scans cpu ≡ slice_get (counters_now conf) cpu
  scans_now cpu few =
      scanned.scans cpu few
      ∙ sym (mapped_at conf.counter CPUS 0 cpu few ∙ ap (λ (n : ℕ). Some (conf.counter n)) (let same : 0 + cpu ≡ cpu = omega arith in same))

  cause_is : (row : ObjectRow) (kept : Option (List ℕ)) → row.retired ≡ kept → object_row s row.serial.0 ≡ Some row
      → is_held s row ≡ true → RowFacts row
      → cause holder row kept ≡ held_by (counters_now conf) (conf.count (conf.index row.serial.0)) row kept
  cause_is row (Some before) is own held facts =
      ap (option_map (reading row))
      (same_reader holder.scans (slice_get (counters_now conf)) 0 before
      (λ k few. scans_now k (omega (arith, few, kept_nine row.serial.0 before (ap retirement own ∙ is)))))
  cause_is row None is own held facts = ap (option_map (pins_of row)) (kill_seen row is own held facts)

  facts_first : (Fact : Serial → Config → Type 0) (test : ObjectRow → Bool) (row : ObjectRow) (rows : List ObjectRow) (here : Bool)
      → test row ≡ here
      → AllFacts Fact (map serial_of (if here then row ∷ filter test rows else filter test rows)) conf
      → (test row ≡ true → Fact row.serial conf) × AllFacts Fact (map serial_of (filter test rows)) conf
  facts_first Fact test row rows true is facts = (λ passes. facts.0, facts.1)
  facts_first Fact test row rows false is facts = (λ passes. absurd (let never : ⊥ = cc in never), facts)

  abbrev Causes : List ObjectRow → Type 0
  Causes rows =
      (list_all (λ (row : ObjectRow). is_some (cause_of holder row)) rows ≡ true)
      × (flat_map (λ (row : ObjectRow). as_list (cause_of holder row)) rows
      ≡ flat_map (λ (row : ObjectRow). as_list (held_by (counters_now conf) (count_of conf row.serial.0) row row.retired)) rows)

  all_caused : (rows : List ObjectRow) → Own rows
      → AllFacts (Unreclaimed at call) (map serial_of (filter is_retired_row rows)) conf
      → AllFacts (KillSeen at call) (map serial_of (filter (is_doomed_row s) rows)) conf
      → Causes (filter (is_held s) rows)
  all_caused [] own unreclaimed seen = (refl, refl)
  all_caused (row ∷ rows) own unreclaimed seen =
      let first = facts_first (Unreclaimed at call) is_retired_row row rows (is_retired_row row) refl unreclaimed in
      let second = facts_first (KillSeen at call) (is_doomed_row s) row rows (is_doomed_row s row) refl seen in
      by_held (is_held s row) refl (first.0, second.0) (all_caused rows (λ i one is. own (suc i) one is) first.1 second.1)
    where
      by_held : (held : Bool) → is_held s row ≡ held → RowFacts row → Causes (filter (is_held s) rows)
          → Causes (if held then row ∷ filter (is_held s) rows else filter (is_held s) rows)
      by_held true is facts rest = (
        and_from _ _ (caused_by row row.retired refl (own 0 row refl) is facts) rest.0,
        ap (λ (found : Option Held). as_list found ++ flat_map (λ (one : ObjectRow). as_list (cause_of holder one)) (filter (is_held s) rows))
            (cause_is row row.retired refl (own 0 row refl) is facts)
            ∙ ap (λ (others : List Held). as_list (held_by (counters_now conf) (count_of conf row.serial.0) row row.retired) ++ others) rest.1,
      )
      by_held false is facts rest = rest

  pub has_all_causes : AllFacts (Unreclaimed at call) (retired_objects s) conf
      → AllFacts (KillSeen at call) (doomed_objects s) conf
      → (has_causes holder s ≡ true) × (causes holder s ≡ causes_now conf)
  has_all_causes unreclaimed seen = all_caused s.objects own_all unreclaimed seen

-- a round

-- the objects that are held have what holds them, as the counters and the counts are
abbrev pub IsSwept : ℕ → Current → Config → Type 0
IsSwept at call new =
    (scanned : IsScanned new at call) → KeepsNine new.history
    → (has_causes scanned.sweeping.holder (present new) ≡ true)
    × (causes scanned.sweeping.holder (present new) ≡ causes_now new)

module _ (at : ℕ) (call : Current) where
  abbrev AfterRound : Config → Config → Type 0
  AfterRound conf new = IsScanned new at call × Steps conf (IsSwept at call) new

  swept_by : (conf mid new : Config) → IsScanned mid at call → IsScanned new at call → IsStill conf mid
      → Steps mid (AllUnreclaimed at call (retired_objects (present mid))) new
      → (last : Config) → IsScanned last at call
      → Steps new (AllSeen at call (doomed_objects (present new))) last → Steps conf (IsSwept at call) last
  swept_by conf mid new was now still (inl more) last end others =
      inl (still_grew conf mid last still (grew_on mid new last (AllSeen at call (doomed_objects (present new))) more others))
  swept_by conf mid new was now still (inr rest) last end (inl more) =
      inl (still_grew conf new last (still_still conf mid new still rest.0) more)
  swept_by conf mid new was now still (inr rest) last end (inr seen) =
      let to_last : IsStill mid last = still_still mid new last rest.0 seen.0 in
      inr (
        still_still conf mid last still to_last,
        λ scanned nine. has_all_causes at call last scanned nine
            (subst (λ (s : State). AllFacts (Unreclaimed at call) (retired_objects s) last) (sym (still_state mid last to_last))
            (all_stay at call (Unreclaimed at call) (stays_unreclaimed at call) (retired_objects (present mid)) new last now end seen.0 rest.1))
            (subst (λ (s : State). AllFacts (KillSeen at call) (doomed_objects s) last) (sym (still_state new last seen.0)) seen.1),
      )

  kills_on : (conf mid new : Config) → IsScanned mid at call → IsStill conf mid
      → IsScanned new at call × Steps mid (AllUnreclaimed at call (retired_objects (present mid))) new
      → Leads new (kills_all at new) (AfterRound conf)
  unfolding kills_all
  kills_on conf mid new was still both =
      leads_so new (for_each (killing at) (doomed_objects (present new)) new) (λ last. IsScanned last at call × Steps new (AllSeen at call (doomed_objects (present new))) last) (AfterRound conf)
      (kills_lead at call (doomed_objects (present new)) new both.0)
      (λ last more. (more.0, swept_by conf mid new was both.0 still both.1 last more.0 more.1))

  reclaims_on : (conf mid : Config) → IsScanned mid at call → IsStill conf mid
      → Leads mid (and_then (reclaims_all at) (kills_all at) mid) (AfterRound conf)
  unfolding reclaims_all
  reclaims_on conf mid scanned still =
      leads_then (reclaims_all at) (kills_all at) mid (λ new. IsScanned new at call × Steps mid (AllUnreclaimed at call (retired_objects (present mid))) new) (AfterRound conf)
      (reclaims_lead at call (retired_objects (present mid)) mid scanned)
      (λ new both. kills_on conf mid new scanned still both)

  round_leads : (conf : Config) → IsSweeping conf at call → Leads conf (round at conf) (AfterRound conf)
  unfolding round
  round_leads conf sweeping =
      leads_then (scans at) (and_then (reclaims_all at) (kills_all at)) conf (λ mid. IsScanned mid at call × IsStill conf mid) (AfterRound conf)
      (leads_so conf (scans at conf) (ScansTo conf sweeping.holder sweeping.holder.scans 0 CPUS) (λ mid. IsScanned mid at call × IsStill conf mid)
      (scans_lead conf at sweeping.holder call sweeping.active)
      (λ mid has. (scanned_on conf at call sweeping mid has, still_on conf at call sweeping mid has)))
      (λ mid both. reclaims_on conf mid both.0 both.1)

  -- rounds

  abbrev Swept : Config → Type 0
  Swept new = IsScanned new at call × IsSwept at call new

  adds_more : (conf : Config) → Grew conf (after_all conf (round at conf)) → adds_entry conf (round at conf) ≡ true
  adds_more conf more =
      let less : entries conf < entries (after_all conf (round at conf)) = more.entries in grind (arith, nat_tests)

  adds_none : (conf : Config) → IsStill conf (after_all conf (round at conf)) → adds_entry conf (round at conf) ≡ false
  adds_none conf still =
      let same : entries (after_all conf (round at conf)) ≡ entries conf = ap length still.history in
      grind (arith, nat_tests)

  rounds_lead : (more : ℕ) (conf : Config) → IsSweeping conf at call → to_go (present conf) < more
      → Leads conf (rounds at more conf) Swept
  unfolding rounds
  rounds_lead zero conf sweeping few = absurd (omega (arith, few))
  rounds_lead (suc more) conf sweeping few =
      leads_append conf (round at conf) (if adds_entry conf (round at conf) then rounds at more (after_all conf (round at conf)) else []) (AfterRound conf) Swept
      (round_leads conf sweeping)
      (λ behind. by_steps (after_all conf (round at conf)) refl behind.0 behind.1 (λ grew. rounds_lead more (after_all conf (round at conf)) behind.0.sweeping (omega (arith, few, grew.left))))
    where
      by_steps : (new : Config) → after_all conf (round at conf) ≡ new → IsScanned (after_all conf (round at conf)) at call
          → Steps conf (IsSwept at call) (after_all conf (round at conf))
          → (Grew conf (after_all conf (round at conf)) → Leads (after_all conf (round at conf)) (rounds at more (after_all conf (round at conf))) Swept)
          → Leads (after_all conf (round at conf)) (if adds_entry conf (round at conf) then rounds at more (after_all conf (round at conf)) else []) Swept
      by_steps new is scanned (inl grew) rest =
          subst (λ (adds : Bool). Leads (after_all conf (round at conf)) (if adds then rounds at more (after_all conf (round at conf)) else []) Swept) (sym (adds_more conf grew)) (rest grew)
      by_steps new is scanned (inr still) rest =
          subst (λ (adds : Bool). Leads (after_all conf (round at conf)) (if adds then rounds at more (after_all conf (round at conf)) else []) Swept) (sym (adds_none conf still.0))
          (leads_none (after_all conf (round at conf)) Swept (scanned, still.1))

  -- there are as many rounds as there can be entries
  few_to_go : (rows : List ObjectRow) → 2 * count_by is_staying rows + count_by is_leaving rows ≤ 2 * length rows
  few_to_go [] = omega arith
  few_to_go (row ∷ rows) =
      omega (arith, few_to_go rows, count_cons is_staying row rows, count_cons is_leaving row rows, either (is_some row.retired))
    where
      either : (b : Bool) → one_if (not b) + one_if b ≤ 1
      either true = omega arith
      either false = omega arith

  -- the sweep
  pub sweep_leads : (conf : Config) → IsSweeping conf at call
      → Leads conf (sweep at conf) (λ new. IsScanned new at call × IsSwept at call new)
  unfolding sweep
  sweep_leads conf sweeping =
      rounds_lead (2 * length (present conf).objects + 1) conf sweeping (omega (arith, few_to_go (present conf).objects))
