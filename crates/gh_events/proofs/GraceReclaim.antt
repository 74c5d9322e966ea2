-- A retirement and a reclaim keep grace.
use Rattle.std.proofs.Common.{◌≡◌, ◌==◌, ◌<◌, ◌≤◌, ◌∙◌, ℕ, Bool, true, false, List, [], ◌∷◌, ◌++◌, ◌⊎◌, inl, inr, refl, subst, sym, ap, arith, Option, Some, None, find, is_some, slice_get, if◌then◌else◌}
use Rattle.std.specs.Prelude.{◌&&◌, not, option_map, slice_index}
use Rattle.std.specs.Option.{option_map_or}
use Rattle.std.proofs.lemmas.Bool.{and_from, eqb-true}
use Rattle.std.proofs.lemmas.Bool.Decides.{eqb_tells, nat_tests}
use Rattle.std.proofs.lemmas.List.Sums.{fold-append}
use Rattle.std.proofs.lemmas.Option.{slice_get-get_or}
use Rattle.gh_base.specs.declared.ids.Serial.{Serial}
use Rattle.gh_base.specs.declared.limits.TheConstants.{CPUS}
use Rattle.gh_model.proofs.ChangedRows.{find_changed}
use Rattle.gh_invariant.proofs.ChangedRow.{find_past_change}
use Rattle.gh_invariant.proofs.RowsLeft.{find_gone, find_left}
use Rattle.gh_model.specs.Act.{counted}
use Rattle.gh_model.specs.Changes.{reclaim_object, retire_object, with_counters, without}
use Rattle.gh_model.specs.Graced.{retirement}
use Rattle.gh_model.specs.History.{Event, after_event, counters, is_retired, is_unretired, numbered, replay}
use Rattle.gh_model.specs.References.{is_doomed}
use Rattle.gh_model.specs.Rows.{change_row, is_object, object_row}
use Rattle.gh_model.specs.declared.entry.Entry.TheVariants.{Retired, Reclaimed}
use Rattle.gh_model.specs.declared.rows.ObjectRow.{ObjectRow}
use Rattle.gh_model.specs.declared.state.State.{State}
use Rattle.gh_events.specs.Config.{Config, Current, Holder, is_killed, present}
use Rattle.gh_events.specs.Entries.{AreScans, logged, next_state}
use Rattle.gh_events.specs.Grace.{HasGrace, Objects, Reads, objects_of, scan_of}
use Rattle.gh_events.specs.TurnEvents.{MayCommit, committed, committed_by, with_entry}
use Rattle.gh_events.proofs.Finding.{found_passes}
use Rattle.gh_events.proofs.GraceCalls.{same_some}
use Rattle.gh_events.proofs.GraceEntries.{entry_stays, EntryFits, EntryGraced, entry_graced, with_event}

-- the state behind an entry
pub replay_more : (boot : State) (history : List Event) (event : Event)
    → replay boot (history ++ event ∷ []) ≡ after_event (replay boot history) event
replay_more boot history event = fold-append after_event boot history (event ∷ [])

-- counters that are scans

-- the holder's scan of each CPU is the entry's counter
pub scans_are : (conf : Config) (holder : Holder) (seen : List ℕ) (cpu : ℕ) → conf.turn ≡ Some holder
    → AreScans holder seen → cpu < CPUS → scan_of conf.turn cpu ≡ Some (slice_index seen cpu)
scans_are conf holder seen cpu turn are within =
    let here : slice_get seen cpu ≡ Some (slice_index seen cpu) = slice_get-get_or seen cpu 0 (subst (λ (n : ℕ). cpu < n) (sym are.nine) within) in
    ap (λ (one : Option Holder). scan_of one cpu) turn ∙ (sym (are.each cpu within) ∙ here)

module _ (conf : Config) (graced : HasGrace conf) (holder : Holder) (turn : conf.turn ≡ Some holder)
    (event : Event) (kept : List ℕ) (keeps : counters event.entry ≡ Some kept)
    (are : AreScans holder kept) (cpu : ℕ) (within : cpu < CPUS) where
  scan_below : (seen : List ℕ) → counters event.entry ≡ Some seen
      → slice_index seen cpu ≤ conf.counter cpu
  scan_below seen also =
      let same : kept ≡ seen = same_some kept seen (sym keeps ∙ also) in
      subst (λ (list : List ℕ). slice_index list cpu ≤ conf.counter cpu) same ((graced.each cpu within).scanned (slice_index kept cpu) (scans_are conf holder kept cpu turn are within))

  scan_scanned : (seen : List ℕ) (n : ℕ) → counters event.entry ≡ Some seen
      → scan_of conf.turn cpu ≡ Some n → slice_index seen cpu ≤ n
  scan_scanned seen n also is =
      let same : kept ≡ seen = same_some kept seen (sym keeps ∙ also) in
      let value : slice_index kept cpu ≡ n = same_some (slice_index kept cpu) n (sym (scans_are conf holder kept cpu turn are within) ∙ is) in
      let list : slice_index kept cpu ≡ slice_index seen cpu = ap (λ (one : List ℕ). slice_index one cpu) same in
      omega (arith, value, list)

  -- such an entry fits, where the grants do
  pub scans_fit : (behind : Objects)
      → ((section serial : ℕ) → Reads (objects_of conf) cpu (scan_of conf.turn cpu) section serial → Reads behind cpu (scan_of conf.turn cpu) section serial)
      → EntryFits (objects_of conf) behind event cpu (conf.counter cpu) (scan_of conf.turn cpu)
  scans_fit behind reads = record { below = scan_below; scanned = scan_scanned; reads = reads }

-- Retired

unretired_by : (retired : Bool) → not retired ≡ true → retired ≡ false
unretired_by true is = absurd (let never : ⊥ = cc in never)
unretired_by false is = refl

-- the row of an object behind a change of one row
pub data RowBehind (s new : State) (serial : ℕ) (change : Option ObjectRow → Option ObjectRow) (x : ℕ) : Type 0 where
  Kept : object_row new x ≡ object_row s x → RowBehind s new serial change x
  Changed : x ≡ serial → object_row new x ≡ change (object_row s x) → RowBehind s new serial change x

apart_rows : (a b x : ℕ) → (x == b) ≡ false → (a == b) ≡ true → (a == x) ≡ false
apart_rows a b x apart here = grind (arith, nat_tests)

pub retire_row : (s : State) (serial : Serial) (seen : List ℕ) (x : ℕ)
    → RowBehind s (counted (retire_object serial seen s)) serial.0 (option_map (with_counters seen)) x
retire_row s serial seen x =
    elim (eqb_tells x serial.0) as (λ _. RowBehind s (counted (retire_object serial seen s)) serial.0 (option_map (with_counters seen)) x) [
      | inl same ↦ Changed same.1 (subst (λ (n : ℕ). find (is_object n) (change_row (is_object serial.0) (with_counters seen) s.objects) ≡ option_map (with_counters seen) (find (is_object n) s.objects)) (sym same.1) (find_changed (is_object serial.0) (with_counters seen) s.objects (λ row. refl)))
      | inr differs ↦ Kept (find_past_change (is_object x) (is_object serial.0) (with_counters seen) s.objects (λ row here. apart_rows row.serial.0 serial.0 x differs.0 here) (λ row here. apart_rows row.serial.0 serial.0 x differs.0 here))
    ]

pub reclaim_row : (s : State) (serial : Serial) (x : ℕ)
    → RowBehind s (counted (reclaim_object serial s)) serial.0 (λ object. None) x
reclaim_row s serial x =
    elim (eqb_tells x serial.0) as (λ _. RowBehind s (counted (reclaim_object serial s)) serial.0 (λ object. None) x) [
      | inl same ↦ Changed same.1 (subst (λ (n : ℕ). find (is_object n) (without (is_object serial.0) s.objects) ≡ None) (sym same.1) (find_gone (is_object serial.0) (is_object serial.0) s.objects (λ row other. other)))
      | inr differs ↦ Kept (find_left (is_object x) (is_object serial.0) s.objects (λ row here. apart_rows row.serial.0 serial.0 x differs.0 here))
    ]

-- with its counters an object isn't killed any more, and they are those of the entry
counters_now : (object : Option ObjectRow) (seen kept : List ℕ)
    → retirement (option_map (with_counters seen) object) ≡ Some kept → seen ≡ kept
counters_now None seen kept is = absurd (let never : ⊥ = cc in never)
counters_now (Some row) seen kept is = same_some seen kept is

pub killed_no_more : (object : Option ObjectRow) (seen : List ℕ) (dead : ℕ → Bool) (index : ℕ → ℕ)
    → option_map_or (is_killed dead index) (option_map (with_counters seen) object) false ≡ true → ⊥
killed_no_more None seen dead index is = cc
killed_no_more (Some row) seen dead index is = cc

module _ (conf : Config) (at : ℕ) (serial : Serial) (seen : List ℕ) (graced : HasGrace conf)
    (may : MayCommit conf at (Retired serial seen)) where
  retired_state : replay conf.boot (conf.history ++ logged (Retired serial seen) may.call ∷ []) ≡ counted (retire_object serial seen (present conf))
  retired_state =
      let allowed : (is_doomed (present conf) serial.0 && is_unretired (object_row (present conf) serial.0)) ≡ true = and_from _ _ may.allows.allowed.unreferenced.0 may.allows.allowed.unreferenced.1 in
      replay_more conf.boot conf.history (logged (Retired serial seen) may.call) ∙ ap (λ (one : Bool). if one then counted (retire_object serial seen (present conf)) else numbered (present conf)) allowed

  row_behind : (x : ℕ) → RowBehind (present conf) (replay conf.boot (conf.history ++ logged (Retired serial seen) may.call ∷ [])) serial.0 (option_map (with_counters seen)) x
  row_behind x =
      subst (λ (new : State). RowBehind (present conf) new serial.0 (option_map (with_counters seen)) x) (sym retired_state) (retire_row (present conf) serial seen x)

  killed_now : (object : Option ObjectRow) → object_row (present conf) serial.0 ≡ object
      → is_unretired object ≡ true
      → option_map_or (is_killed conf.dead conf.index) object false ≡ true
  killed_now None is unretired = absurd (let never : ⊥ = cc in never)
  killed_now (Some row) is unretired =
      let same : row.serial.0 ≡ serial.0 = eqb-true row.serial.0 serial.0 (found_passes (is_object serial.0) (present conf).objects row is) in
      let dead : conf.dead (conf.index row.serial.0) ≡ true = ap (λ (n : ℕ). conf.dead (conf.index n)) same ∙ may.allows.allowed.dead in
      ap (λ (one : Bool). if one then false else conf.dead (conf.index row.serial.0)) (unretired_by (is_some row.retired) unretired) ∙ dead

  was_killed : (objects_of conf).killed serial.0 ≡ true
  was_killed = killed_now (object_row (present conf) serial.0) refl may.allows.allowed.unreferenced.1

  kept_by : (x : ℕ) (kept : List ℕ)
      → RowBehind (present conf) (replay conf.boot (conf.history ++ logged (Retired serial seen) may.call ∷ [])) serial.0 (option_map (with_counters seen)) x
      → retirement (object_row (replay conf.boot (conf.history ++ logged (Retired serial seen) may.call ∷ [])) x) ≡ Some kept
      → ((objects_of conf).kept x ≡ Some kept) ⊎ ((Some serial.0 ≡ Some x) × (Some seen ≡ Some kept))
  kept_by x kept (Kept same) is = inl (sym (ap retirement same) ∙ is)
  kept_by x kept (Changed here now) is =
      inr (ap (λ (n : ℕ). Some n) (sym here), ap (λ (list : List ℕ). Some list) (counters_now (object_row (present conf) x) seen kept (sym (ap retirement now) ∙ is)))

  killed_by : (x : ℕ)
      → RowBehind (present conf) (replay conf.boot (conf.history ++ logged (Retired serial seen) may.call ∷ [])) serial.0 (option_map (with_counters seen)) x
      → option_map_or (is_killed conf.dead conf.index) (object_row (replay conf.boot (conf.history ++ logged (Retired serial seen) may.call ∷ [])) x) false ≡ true
      → (objects_of conf).killed x ≡ true
  killed_by x (Kept same) is = sym (ap (λ (one : Option ObjectRow). option_map_or (is_killed conf.dead conf.index) one false) same) ∙ is
  killed_by x (Changed here now) is = absurd (killed_no_more (object_row (present conf) x) seen conf.dead conf.index (sym (ap (λ (one : Option ObjectRow). option_map_or (is_killed conf.dead conf.index) one false) now) ∙ is))

  retired_reads : (cpu section x : ℕ) (kept : List ℕ) → cpu < CPUS
      → Reads (objects_of conf) cpu (scan_of conf.turn cpu) section x
      → ((objects_of conf).kept x ≡ Some kept) ⊎ ((Some serial.0 ≡ Some x) × (Some seen ≡ Some kept))
      → section ≤ slice_index kept cpu
  retired_reads cpu section x kept within reads (inl before) = reads.retired kept before
  retired_reads cpu section x kept within reads (inr now) =
      let here : serial.0 ≡ x = same_some serial.0 x now.0 in
      let list : seen ≡ kept = same_some seen kept now.1 in
      let killed : (objects_of conf).killed x ≡ true = ap (objects_of conf).killed (sym here) ∙ was_killed in
      subst (λ (one : List ℕ). section ≤ slice_index one cpu) list (reads.killed (slice_index seen cpu) killed (scans_are conf may.holder seen cpu may.allows.has_turn.turn may.allows.allowed.scans within))

  retire_entry : EntryGraced conf (logged (Retired serial seen) may.call) conf.index conf.cap (with_entry conf (Retired serial seen) (next_state conf may.call (Retired serial seen)) conf.index)
  retire_entry = record {
    scans = λ holder. refl;
    stays = entry_stays conf (Retired serial seen) (next_state conf may.call (Retired serial seen)) conf.index;
    kept = λ x kept is. kept_by x kept (row_behind x) is;
    killed = λ x is. killed_by x (row_behind x) is;
    fits = λ cpu within. scans_fit conf graced may.holder may.allows.has_turn.turn (logged (Retired serial seen) may.call) seen refl may.allows.allowed.scans cpu within (objects_of (with_event conf (logged (Retired serial seen) may.call) conf.index conf.cap (with_entry conf (Retired serial seen) (next_state conf may.call (Retired serial seen)) conf.index))) (λ section x reads. record { retired = λ kept is. retired_reads cpu section x kept within reads (kept_by x kept (row_behind x) is); killed = λ n is scan. reads.killed n (killed_by x (row_behind x) is) scan });
  }

  -- a retirement keeps grace
  pub retire_graced : HasGrace (committed conf at (Retired serial seen))
  retire_graced =
      subst (λ (one : Option Current). HasGrace (committed_by conf (Retired serial seen) (λ new. conf.index) one)) (sym may.allows.in_act.is_current) (entry_graced conf (logged (Retired serial seen) may.call) conf.index conf.cap (with_entry conf (Retired serial seen) (next_state conf may.call (Retired serial seen)) conf.index) retire_entry graced)

-- Reclaimed

module _ (conf : Config) (at : ℕ) (serial : Serial) (seen : List ℕ) (graced : HasGrace conf)
    (may : MayCommit conf at (Reclaimed serial seen)) where
  reclaimed_state : replay conf.boot (conf.history ++ logged (Reclaimed serial seen) may.call ∷ []) ≡ counted (reclaim_object serial (present conf))
  reclaimed_state =
      let allowed : (is_doomed (present conf) serial.0 && is_retired (object_row (present conf) serial.0)) ≡ true = and_from _ _ may.allows.allowed.unreferenced.0 may.allows.allowed.unreferenced.1 in
      replay_more conf.boot conf.history (logged (Reclaimed serial seen) may.call) ∙ ap (λ (one : Bool). if one then counted (reclaim_object serial (present conf)) else numbered (present conf)) allowed

  row_left : (x : ℕ) → RowBehind (present conf) (replay conf.boot (conf.history ++ logged (Reclaimed serial seen) may.call ∷ [])) serial.0 (λ object. None) x
  row_left x =
      subst (λ (new : State). RowBehind (present conf) new serial.0 (λ object. None) x) (sym reclaimed_state) (reclaim_row (present conf) serial x)

  kept_left : (x : ℕ) (kept : List ℕ)
      → RowBehind (present conf) (replay conf.boot (conf.history ++ logged (Reclaimed serial seen) may.call ∷ [])) serial.0 (λ object. None) x
      → retirement (object_row (replay conf.boot (conf.history ++ logged (Reclaimed serial seen) may.call ∷ [])) x) ≡ Some kept
      → (objects_of conf).kept x ≡ Some kept
  kept_left x kept (Kept same) is = sym (ap retirement same) ∙ is
  kept_left x kept (Changed here now) is =
      let none : retirement (object_row (replay conf.boot (conf.history ++ logged (Reclaimed serial seen) may.call ∷ [])) x) ≡ None = ap retirement now in
      absurd (let never : ⊥ = cc in never)

  killed_left : (x : ℕ)
      → RowBehind (present conf) (replay conf.boot (conf.history ++ logged (Reclaimed serial seen) may.call ∷ [])) serial.0 (λ object. None) x
      → option_map_or (is_killed conf.dead conf.index) (object_row (replay conf.boot (conf.history ++ logged (Reclaimed serial seen) may.call ∷ [])) x) false ≡ true
      → (objects_of conf).killed x ≡ true
  killed_left x (Kept same) is = sym (ap (λ (one : Option ObjectRow). option_map_or (is_killed conf.dead conf.index) one false) same) ∙ is
  killed_left x (Changed here now) is =
      let none : option_map_or (is_killed conf.dead conf.index) (object_row (replay conf.boot (conf.history ++ logged (Reclaimed serial seen) may.call ∷ [])) x) false ≡ false = ap (λ (one : Option ObjectRow). option_map_or (is_killed conf.dead conf.index) one false) now in
      absurd (let never : ⊥ = cc in never)

  reclaim_entry : EntryGraced conf (logged (Reclaimed serial seen) may.call) conf.index conf.cap (with_entry conf (Reclaimed serial seen) (next_state conf may.call (Reclaimed serial seen)) conf.index)
  reclaim_entry = record {
    scans = λ holder. refl;
    stays = entry_stays conf (Reclaimed serial seen) (next_state conf may.call (Reclaimed serial seen)) conf.index;
    kept = λ x kept is. inl (kept_left x kept (row_left x) is);
    killed = λ x is. killed_left x (row_left x) is;
    fits = λ cpu within. scans_fit conf graced may.holder may.allows.has_turn.turn (logged (Reclaimed serial seen) may.call) seen refl may.allows.allowed.scans cpu within (objects_of (with_event conf (logged (Reclaimed serial seen) may.call) conf.index conf.cap (with_entry conf (Reclaimed serial seen) (next_state conf may.call (Reclaimed serial seen)) conf.index))) (λ section x reads. record { retired = λ kept is. reads.retired kept (kept_left x kept (row_left x) is); killed = λ n is scan. reads.killed n (killed_left x (row_left x) is) scan });
  }

  -- a reclaim keeps grace
  pub reclaim_graced : HasGrace (committed conf at (Reclaimed serial seen))
  reclaim_graced =
      subst (λ (one : Option Current). HasGrace (committed_by conf (Reclaimed serial seen) (λ new. conf.index) one)) (sym may.allows.in_act.is_current) (entry_graced conf (logged (Reclaimed serial seen) may.call) conf.index conf.cap (with_entry conf (Reclaimed serial seen) (next_state conf may.call (Reclaimed serial seen)) conf.index) reclaim_entry graced)
