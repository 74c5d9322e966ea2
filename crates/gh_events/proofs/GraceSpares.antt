-- A reclaim spares every grant: no call in its section was granted the object that is reclaimed.
use Rattle.std.proofs.Common.{◌≡◌, ◌%◌, ◌<◌, ◌≤◌, ◌∙◌, ℕ, zero, suc, Bool, true, false, List, [], ◌∷◌, refl, subst, ap, arith, IsTrue, Option, Some, None, IfSome, is_some, length}
use Rattle.std.specs.Prelude.{nat_lt, slice_index}
use Rattle.std.specs.List.{AllZip, last_or}
use Rattle.std.proofs.lemmas.Bool.Decides.{nat_tests}
use Rattle.std.proofs.lemmas.Slice.Zip.{AllZip-long}
use Rattle.gh_base.specs.Counters.{HaveLeft, is_odd}
use Rattle.gh_base.specs.declared.ids.Serial.{Serial}
use Rattle.gh_base.specs.declared.limits.TheConstants.{CPUS}
use Rattle.gh_model.specs.Act.{granted}
use Rattle.gh_model.specs.Graced.{retirement}
use Rattle.gh_model.specs.History.{is_retired}
use Rattle.gh_model.specs.Marks.{Seen}
use Rattle.gh_model.specs.Rows.{object_row}
use Rattle.gh_model.specs.declared.entry.Entry.{Entry}
use Rattle.gh_model.specs.declared.entry.Entry.TheVariants.{Acted, Part, Retired, Reclaimed}
use Rattle.gh_model.specs.declared.rows.ObjectRow.{ObjectRow}
use Rattle.gh_events.specs.Config.{Config, Current, present}
use Rattle.gh_events.specs.Grace.{CpuGrace, HasGrace, IsKept, holds_grant, is_open_at, objects_of, open_now, scan_of, sections}
use Rattle.gh_events.specs.References.{HasGrant}
use Rattle.gh_events.specs.Replayed.{IsUnlooked, SparesLooks}
use Rattle.gh_events.specs.TurnEvents.{MayCommit}
use Rattle.gh_events.proofs.GraceCalls.{grants_open, odd_open, open_one}
use Rattle.gh_events.proofs.GraceReclaim.{scans_are}

-- of two lists place by place
pub zip_at : (R : ℕ → ℕ → Type 0) (before after : List ℕ) (at : ℕ) → AllZip R before after
    → at < length before → R (slice_index before at) (slice_index after at)
zip_at R [] after at all within = absurd (omega (arith, within))
zip_at R (x ∷ xs) [] at all within = absurd all
zip_at R (x ∷ xs) (y ∷ ys) zero all within = all.0
zip_at R (x ∷ xs) (y ∷ ys) (suc at) all within = zip_at R xs ys at all.1 (omega (arith, within))

-- the counters of an object that is retired
pub record HasCounters (object : Option ObjectRow) : Type 0 where
  pub seen : List ℕ
  pub is : retirement object ≡ Some seen

counters_by : (retired : Option (List ℕ)) (row : ObjectRow) → row.retired ≡ retired
    → is_some retired ≡ true → HasCounters (Some row)
counters_by None row is some = absurd (let never : ⊥ = cc in never)
counters_by (Some seen) row is some = record { seen = seen; is = is }

has_counters : (object : Option ObjectRow) → is_retired object ≡ true → HasCounters object
has_counters None is = absurd (let never : ⊥ = cc in never)
has_counters (Some row) is = counters_by row.retired row refl is

module _ (conf : Config) (at : ℕ) (serial : Serial) (seen : List ℕ) (graced : HasGrace conf)
    (may : MayCommit conf at (Reclaimed serial seen)) where
  pub old : HasCounters (object_row (present conf) serial.0)
  old = has_counters (object_row (present conf) serial.0) may.allows.allowed.unreferenced.1

  pub left_all : HaveLeft old.seen seen
  left_all = subst (λ (one : Option (List ℕ)). IfSome one (λ (before : List ℕ). HaveLeft before seen)) old.is may.allows.allowed.unread

  -- the CPU of a call that is in its section was reading at the retirement, and hasn't left
  never_open : (cpu : ℕ) (call : Current) → cpu < CPUS → (conf.cpu cpu).current ≡ Some call
      → is_open_at call.stage ≡ true → holds_grant serial.0 call ≡ true → ⊥
  never_open cpu call within is opened holds =
      let grace : CpuGrace (objects_of conf) conf.history cpu (conf.cpu cpu) (conf.counter cpu) (scan_of conf.turn cpu) = graced.each cpu within in
      let kept : IsKept conf.history serial.0 old.seen = graced.kept serial.0 old.seen old.is in
      let section : call.section ≡ conf.counter cpu = grace.opened call is opened in
      let one : open_now (conf.cpu cpu).current ≡ 1 = open_one (conf.cpu cpu).current call is opened in
      let odd : conf.counter cpu % 2 ≡ 1 = odd_open (conf.counter cpu) (sections (conf.cpu cpu)) (omega (arith, one, grace.counted)) in
      let above : call.section ≤ slice_index old.seen cpu = (grace.reads call serial.0 is holds).retired old.seen old.is in
      let below : slice_index old.seen cpu ≤ conf.counter cpu = grace.kept_below kept.at kept.event old.seen kept.is kept.keeps in
      let same : slice_index old.seen cpu ≡ conf.counter cpu = omega (arith, section, above, below) in
      let reading : is_odd (slice_index old.seen cpu) ≡ true = odd_is (slice_index old.seen cpu) (ap (λ (n : ℕ). n % 2) same ∙ odd) in
      let long : length seen ≡ length old.seen = AllZip-long (λ before after. IsTrue (is_odd before) → before < after) old.seen seen left_all in
      let gone : slice_index old.seen cpu < slice_index seen cpu = zip_at (λ before after. IsTrue (is_odd before) → before < after) old.seen seen cpu left_all (omega (arith, long, may.allows.allowed.scans.nine, within)) reading in
      let scanned : slice_index seen cpu ≤ conf.counter cpu = grace.scanned (slice_index seen cpu) (scans_are conf may.holder seen cpu may.allows.has_turn.turn may.allows.allowed.scans within) in
      omega (arith, same, gone, scanned)
    where
      odd_is : (n : ℕ) → n % 2 ≡ 1 → is_odd n ≡ true
      odd_is n is = grind (arith, nat_tests)

  spares_by : (here : Bool) (cpu : ℕ) (call : Current) (one : Seen) → nat_lt cpu CPUS ≡ here
      → HasGrant (conf.cpu cpu) call → last_or None call.seen ≡ Some one
      → (granted one.word).0 ≡ serial.0 → ⊥
  spares_by true cpu call one seat grant last names =
      let within : cpu < CPUS = grind (arith, nat_tests) in
      let holds : holds_grant serial.0 call ≡ true = subst (λ (n : ℕ). holds_grant n call ≡ true) names ((graced.each cpu within).grants call one grant.is_current grant.grants last) in
      never_open cpu call within grant.is_current (grants_open call.stage grant.grants) holds
  spares_by false cpu call one seat grant last names =
      let none : (conf.cpu cpu).current ≡ None = graced.seats cpu (grind (arith, nat_tests)) in
      let some : (conf.cpu cpu).current ≡ Some call = grant.is_current in
      cc

  -- a reclaim spares the grants of open sections
  pub reclaim_spares : IsUnlooked conf serial.0
  reclaim_spares = λ cpu call one grant last names. spares_by (nat_lt cpu CPUS) cpu call one refl grant last names

-- so does every entry
pub entry_spares : (conf : Config) (at : ℕ) (entry : Entry) → HasGrace conf → MayCommit conf at entry
    → SparesLooks conf entry
entry_spares conf at (Acted cpu number) graced may = tt
entry_spares conf at (Part cpu number space slot) graced may = tt
entry_spares conf at (Retired serial seen) graced may = tt
entry_spares conf at (Reclaimed serial seen) graced may = reclaim_spares conf at serial seen graced may
