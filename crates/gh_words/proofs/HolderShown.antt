-- Plain words behind each event of the turn's holder on reference words and counters.
use Rattle.std.proofs.Common.{◌≡◌, ◌==◌, ◌+◌, ◌-◌, ◌<◌, ◌≤◌, ◌^◌, ◌∙◌, ℕ, zero, suc, Bool, true, false, length, refl, sym, ap, subst, arith, Option, Some, option_map, slice_get, map, Err, Ok}
use Rattle.std.specs.Prelude.{⊤}
use Rattle.std.specs.List.{range_with_len}
use Rattle.std.specs.Option.{option_map_or}
use Rattle.std.proofs.lemmas.Bool.Decides.{nat_tests}
use Rattle.gh_base.specs.declared.ids.CpuNo.{CpuNo}
use Rattle.gh_base.specs.declared.ids.ObjIndex.{ObjIndex}
use Rattle.gh_base.specs.declared.limits.TheConstants.{CPUS, OBJECT_INDICES}
use Rattle.gh_events.specs.Config.{Config, HasTurn, Holder, live_references, present, put}
use Rattle.gh_events.specs.HolderEvents.{MayKill, MayOwe, MayRevive, MayScan, MaySettle, kill_failed, killed, one_less as owes_less, one_more as owes_more, owed, revived, scanned, settled, with_failed, with_revived, with_scan, with_turn, without_scans}
use Rattle.gh_events.specs.References.{owed_at}
use Rattle.gh_events.specs.declared.event.Event.TheVariants.{Scan}
use Rattle.gh_events.proofs.Finding.{put_here, put_other}
use Rattle.gh_model.specs.References.{references}
use Rattle.gh_model.specs.declared.rows.ObjectRow.{ObjectRow}
use Rattle.gh_schedules.specs.Committing.{cpu_no}
use Rattle.gh_words.specs.Holding.{HasScans, KillAnswers, ScansAll, killing, owing, reviving}
use Rattle.gh_words.specs.Moved.{IsAlone, Makes, MakesFinding, MovedAll}
use Rattle.gh_words.specs.Shows.{Fits, Shows, held, reference_word}
use Rattle.gh_words.specs.Tables.{one_less, one_more, with_reference}
use Rattle.gh_words.specs.declared.plain_words.PlainWords.{PlainWords}
use Rattle.gh_words.specs.declared.plain_words.ReferenceWord.{ReferenceWord}
use Rattle.gh_words.proofs.Alone.{alone}
use Rattle.gh_words.proofs.Puts.{each_place}
use Rattle.gh_words.proofs.WordsShown.{owed_changed, shows_stepped, shows_word}

-- the word that was read is the one of the configuration
pub word_read : (words : PlainWords) (conf : Config) (object : ℕ) (word : ReferenceWord) → Shows words conf
    → object < OBJECT_INDICES → slice_get words.references object ≡ Some word → word ≡ reference_word conf object
word_read words conf object word shown within is =
    let there : slice_get words.references object ≡ Some (reference_word conf object) = shown.references object within in
    cc

-- an index at which nothing moved
pub fits_still : (conf next : Config) (n : ℕ) → held next n ≡ held conf n → next.count n ≡ conf.count n
    → next.dead n ≡ conf.dead n → Fits conf n → Fits next n
fits_still conf next n holds counts marks was = record {
  bounded = omega (arith, holds, was.bounded);
  least = omega (arith, holds, counts, was.least);
  few = omega (arith, holds, counts, was.few);
  dead = λ is. holds ∙ was.dead (sym marks ∙ is);
}

-- one at which the count and what is held moved together, whose word isn't dead
fits_moved : (conf next : Config) (n : ℕ) → held next n + conf.count n ≡ held conf n + next.count n
    → held next n ≤ 2 ^ 62 → next.dead n ≡ false → Fits conf n → Fits next n
fits_moved conf next n moved bounded alive was = record {
  bounded = bounded;
  least = omega (arith, moved, was.least);
  few = omega (arith, moved, was.few);
  dead = λ is. absurd (let never : ⊥ = cc in never);
}

-- what is owed, by the holder
owed_by : (conf : Config) (at : ℕ) (holder : Holder) (n : ℕ) → HasTurn conf at holder → owed_at conf.turn n ≡ holder.owed n
owed_by conf at holder n has = ap (λ (turn : Option Holder). owed_at turn n) has.turn

-- owe and settle: the word and what is owed move by one

module _ (words : PlainWords) (conf : Config) (shown : Shows words conf) (at object : ℕ) where
  owe_fits : (may : MayOwe conf at object) (n : ℕ) → n < OBJECT_INDICES → Fits (owed conf object) n
  owe_fits may n few = each_place (λ (n : ℕ). n < OBJECT_INDICES → Fits (owed conf object) n) object n
      (λ within.
      let owes : owed_at (owed conf object).turn object ≡ may.holder.owed object + 1 =
      owed_changed (owes_more object) conf.turn may.holder object may.has_turn.turn ∙ put_here may.holder.owed object (may.holder.owed object + 1) in
      let counts : (owed conf object).count object ≡ conf.count object + 1 = put_here conf.count object (conf.count object + 1) in
      fits_moved conf (owed conf object) object (omega (arith, owes, owed_by conf at may.holder object may.has_turn, counts)) (omega (arith, owes, may.room)) may.alive (shown.fits object within))
      (λ differs few.
      let owes : owed_at (owed conf object).turn n ≡ may.holder.owed n =
      owed_changed (owes_more object) conf.turn may.holder n may.has_turn.turn ∙ put_other may.holder.owed object (may.holder.owed object + 1) n differs in
      fits_still conf (owed conf object) n (omega (arith, owes, owed_by conf at may.holder n may.has_turn)) (put_other conf.count object (conf.count object + 1) n differs) refl (shown.fits n few)) few

  owe_shown : (word : ReferenceWord) → MayOwe conf at object → slice_get words.references object ≡ Some word
      → Shows (with_reference words object (one_more word)) (owed conf object)
  owe_shown word may is =
      let read : word ≡ reference_word conf object = word_read words conf object word shown may.is_index is in
      subst (λ (w : ReferenceWord). Shows (with_reference words object (one_more w)) (owed conf object)) (sym read)
      (shows_word words conf shown (owes_more object) (λ holder. refl) (put conf.count object (conf.count object + 1)) conf.dead
      object (one_more (reference_word conf object)) may.is_index
      (ap (λ (count : ℕ). record { count = count; dead = conf.dead object }) (put_here conf.count object (conf.count object + 1)))
      (λ n differs. ap (λ (count : ℕ). record { count = count; dead = conf.dead n }) (put_other conf.count object (conf.count object + 1) n differs))
      (owe_fits may))

  -- where something is owed, the word isn't dead, and counts it
  settle_alive : (may : MaySettle conf at object) → Fits conf object → conf.dead object ≡ false
  settle_alive may was = by_mark (conf.dead object) refl
    where
      by_mark : (dead : Bool) → conf.dead object ≡ dead → dead ≡ false
      by_mark false is = refl
      by_mark true is = absurd (let never : ⊥ = omega (arith, was.dead is, owed_by conf at may.holder object may.has_turn, may.owes) in never)

  pub settle_counts : (may : MaySettle conf at object) → 0 < conf.count object
  settle_counts may =
      let was : Fits conf object = shown.fits object may.is_index in
      omega (arith, was.least, owed_by conf at may.holder object may.has_turn, may.owes)

  settle_fits : (may : MaySettle conf at object) (n : ℕ) → n < OBJECT_INDICES → Fits (settled conf object) n
  settle_fits may n few = each_place (λ (n : ℕ). n < OBJECT_INDICES → Fits (settled conf object) n) object n
      (λ within.
      let was : Fits conf object = shown.fits object within in
      let owes : owed_at (settled conf object).turn object ≡ may.holder.owed object - 1 =
      owed_changed (owes_less object) conf.turn may.holder object may.has_turn.turn ∙ put_here may.holder.owed object (may.holder.owed object - 1) in
      let counts : (settled conf object).count object ≡ conf.count object - 1 = put_here conf.count object (conf.count object - 1) in
      let owed_before : owed_at conf.turn object ≡ may.holder.owed object = owed_by conf at may.holder object may.has_turn in
      fits_moved conf (settled conf object) object (omega (arith, owes, owed_before, counts, settle_counts may, may.owes)) (omega (arith, owes, owed_before, was.bounded)) (settle_alive may was) was)
      (λ differs few.
      let owes : owed_at (settled conf object).turn n ≡ may.holder.owed n =
      owed_changed (owes_less object) conf.turn may.holder n may.has_turn.turn ∙ put_other may.holder.owed object (may.holder.owed object - 1) n differs in
      fits_still conf (settled conf object) n (omega (arith, owes, owed_by conf at may.holder n may.has_turn)) (put_other conf.count object (conf.count object - 1) n differs) refl (shown.fits n few)) few

  settle_shown : (word : ReferenceWord) → MaySettle conf at object → slice_get words.references object ≡ Some word
      → Shows (with_reference words object (one_less word)) (settled conf object)
  settle_shown word may is =
      let read : word ≡ reference_word conf object = word_read words conf object word shown may.is_index is in
      subst (λ (w : ReferenceWord). Shows (with_reference words object (one_less w)) (settled conf object)) (sym read)
      (shows_word words conf shown (owes_less object) (λ holder. refl) (put conf.count object (conf.count object - 1)) conf.dead
      object (one_less (reference_word conf object)) may.is_index
      (ap (λ (count : ℕ). record { count = count; dead = conf.dead object }) (put_here conf.count object (conf.count object - 1)))
      (λ n differs. ap (λ (count : ℕ). record { count = count; dead = conf.dead n }) (put_other conf.count object (conf.count object - 1) n differs))
      (settle_fits may))

pub owe_made : (words new : PlainWords) (object : ObjIndex) (word : ReferenceWord) (more : Bool)
    → slice_get words.references object.0 ≡ Some word → new ≡ with_reference words object.0 (one_more word)
    → more ≡ true → Makes IsAlone (Shows words) (Shows new) (owing object more)
owe_made words new object word true is put_new more conf cpu shown may =
    alone (λ _. ⊤) (Shows new) conf (owing object true cpu) may tt
    (subst (λ (w : PlainWords). Shows w (owed conf object.0)) (sym put_new) (owe_shown words conf shown cpu.0 object.0 word may is))
owe_made words new object word false is put_new more conf cpu shown may = absurd (let never : ⊥ = cc in never)

pub settle_made : (words new : PlainWords) (object : ObjIndex) (word : ReferenceWord) (more : Bool)
    → slice_get words.references object.0 ≡ Some word → new ≡ with_reference words object.0 (one_less word)
    → more ≡ false → Makes IsAlone (Shows words) (Shows new) (owing object more)
settle_made words new object word false is put_new more conf cpu shown may =
    alone (λ _. ⊤) (Shows new) conf (owing object false cpu) may tt
    (subst (λ (w : PlainWords). Shows w (settled conf object.0)) (sym put_new) (settle_shown words conf shown cpu.0 object.0 word may is))
settle_made words new object word true is put_new more conf cpu shown may = absurd (let never : ⊥ = cc in never)

-- kill: a word of 0 becomes dead, else the count is kept as seen

module _ (words : PlainWords) (conf : Config) (shown : Shows words conf) (at object : ℕ) (may : MayKill conf at object) where
  abbrev killed_now : Config
  killed_now = record (with_turn without_scans conf) { dead = put conf.dead object true }

  still_owed : (n : ℕ) → owed_at killed_now.turn n ≡ owed_at conf.turn n
  still_owed n = owed_changed without_scans conf.turn may.holder n may.has_turn.turn ∙ sym (owed_by conf at may.holder n may.has_turn)

  kill_fits : conf.count object ≡ 0 → (n : ℕ) → n < OBJECT_INDICES → Fits killed_now n
  kill_fits empty n few = each_place (λ (n : ℕ). n < OBJECT_INDICES → Fits killed_now n) object n
      (λ within.
      let was : Fits conf object = shown.fits object within in
      let none : held killed_now object ≡ 0 = omega (arith, still_owed object, was.least, empty) in
      record {
        bounded = omega (arith, none);
        least = omega (arith, none);
        few = omega (arith, none, empty);
        dead = λ is. none;
      })
      (λ differs few. fits_still conf killed_now n (omega (arith, still_owed n)) refl (put_other conf.dead object true n differs) (shown.fits n few)) few

  killed_shown : conf.count object ≡ 0 → Shows (with_reference words object (record { count = 0; dead = true })) killed_now
  killed_shown empty =
      shows_word words conf shown without_scans (λ holder. refl) conf.count (put conf.dead object true)
      object (record { count = 0; dead = true }) may.is_index
      (ap (λ (dead : Bool). record { count = conf.count object; dead = dead }) (put_here conf.dead object true) ∙ ap (λ (count : ℕ). record { count = count; dead = true }) empty)
      (λ n differs. ap (λ (dead : Bool). record { count = conf.count n; dead = dead }) (put_other conf.dead object true n differs))
      (kill_fits empty)

  saw_shown : (row : ObjectRow) → Shows words (with_turn (with_failed row.serial.0 (conf.count object)) conf)
  saw_shown row =
      shows_stepped words conf shown (with_failed row.serial.0 (conf.count object)) (λ holder. refl) conf.count conf.dead
      words.references shown.references
      (λ n few. fits_still conf (with_turn (with_failed row.serial.0 (conf.count object)) conf) n
      (let owes : owed_at (option_map (with_failed row.serial.0 (conf.count object)) conf.turn) n ≡ owed_at conf.turn n =
      owed_changed (with_failed row.serial.0 (conf.count object)) conf.turn may.holder n may.has_turn.turn ∙ sym (owed_by conf at may.holder n may.has_turn) in
      omega (arith, owes)) refl refl (shown.fits n few))

  killed_to : (new : PlainWords) (none : Bool) → (conf.count object == 0) ≡ none → none ≡ true
      → Shows new killed_now → Shows new (killed conf object)
  killed_to new true is found shows = rw is shows
  killed_to new false is found shows = absurd (let never : ⊥ = cc in never)

  failed_to : (new : PlainWords) (none : Bool) → (conf.count object == 0) ≡ none → none ≡ false
      → Shows new (with_turn (with_failed may.row.serial.0 (conf.count object)) conf) → Shows new (killed conf object)
  failed_to new false is found shows =
      rw is (subst (λ (row : Option ObjectRow). Shows new (kill_failed conf object row)) (sym may.lives_there) shows)
  failed_to new true is found shows = absurd (let never : ⊥ = cc in never)

pub kill_made : (words new : PlainWords) (object : ObjIndex) (word : ReferenceWord) → slice_get words.references object.0 ≡ Some word
    → new ≡ with_reference words object.0 (record { count = 0; dead = true }) → word.count ≡ 0
    → MakesFinding IsAlone (Shows words) (Shows new) (killing object) (KillAnswers object (Ok tt))
kill_made words new object word is put_new none conf cpu shown may =
    let read : word ≡ reference_word conf object.0 = word_read words conf object.0 word shown may.is_index is in
    let empty : conf.count object.0 ≡ 0 = sym (ap (λ (w : ReferenceWord). w.count) read) ∙ none in
    alone (KillAnswers object (Ok tt)) (Shows new) conf (killing object cpu) may empty
    (killed_to words conf shown cpu.0 object.0 may new (conf.count object.0 == 0) refl (ap (λ (count : ℕ). count == 0) empty)
    (subst (λ (w : PlainWords). Shows w (killed_now words conf shown cpu.0 object.0 may)) (sym put_new) (killed_shown words conf shown cpu.0 object.0 may empty)))

pub kill_seen : (words : PlainWords) (object : ObjIndex) (word : ReferenceWord) → slice_get words.references object.0 ≡ Some word
    → 0 < word.count → MakesFinding IsAlone (Shows words) (Shows words) (killing object) (KillAnswers object (Err word.count))
kill_seen words object word is some conf cpu shown may =
    let read : word ≡ reference_word conf object.0 = word_read words conf object.0 word shown may.is_index is in
    let count : word.count ≡ conf.count object.0 = ap (λ (w : ReferenceWord). w.count) read in
    alone (KillAnswers object (Err word.count)) (Shows words) conf (killing object cpu) may (record { is_count = count; some = some })
    (failed_to words conf shown cpu.0 object.0 may words (conf.count object.0 == 0) refl
    (let counted : 0 < conf.count object.0 = omega (arith, count, some) in grind (arith, nat_tests))
    (saw_shown words conf shown cpu.0 object.0 may may.row))

-- revive: the word is the count, all of which is owed

module _ (words : PlainWords) (conf : Config) (shown : Shows words conf) (at object count : ℕ) (may : MayRevive conf at object count) where
  revive_fits : (n : ℕ) → n < OBJECT_INDICES → Fits (revived conf object count) n
  revive_fits n few = each_place (λ (n : ℕ). n < OBJECT_INDICES → Fits (revived conf object count) n) object n
      (λ within.
      let owes : owed_at (revived conf object count).turn object ≡ count =
      owed_changed (with_revived object count) conf.turn may.holder object may.has_turn.turn ∙ put_here may.holder.owed object count in
      let none : live_references conf object ≡ 0 = ap (λ (row : Option ObjectRow). option_map_or (λ (row : ObjectRow). references (present conf) row.serial.0) row 0) may.uninhabited in
      let counts : (revived conf object count).count object ≡ count = put_here conf.count object count in
      let alive : (revived conf object count).dead object ≡ false = put_here conf.dead object false in
      record {
        bounded = omega (arith, owes, none, may.bounded);
        least = omega (arith, owes, none, counts);
        few = omega (arith, owes, none, counts);
        dead = λ is. absurd (let never : ⊥ = cc in never);
      })
      (λ differs few.
      let owes : owed_at (revived conf object count).turn n ≡ may.holder.owed n =
      owed_changed (with_revived object count) conf.turn may.holder n may.has_turn.turn ∙ put_other may.holder.owed object count n differs in
      fits_still conf (revived conf object count) n (omega (arith, owes, owed_by conf at may.holder n may.has_turn)) (put_other conf.count object count n differs)
      (put_other conf.dead object false n differs) (shown.fits n few)) few

  revive_shown : Shows (with_reference words object (record { count = count; dead = false })) (revived conf object count)
  revive_shown =
      shows_word words conf shown (with_revived object count) (λ holder. refl) (put conf.count object count) (put conf.dead object false)
      object (record { count = count; dead = false }) may.is_index
      (ap (λ (c : ℕ). record { count = c; dead = put conf.dead object false object }) (put_here conf.count object count) ∙ ap (λ (dead : Bool). record { count = count; dead = dead }) (put_here conf.dead object false))
      (λ n differs. ap (λ (c : ℕ). record { count = c; dead = put conf.dead object false n }) (put_other conf.count object count n differs) ∙ ap (λ (dead : Bool). record { count = conf.count n; dead = dead }) (put_other conf.dead object false n differs))
      revive_fits

pub revive_made : (words new : PlainWords) (object : ObjIndex) (count : ℕ)
    → new ≡ with_reference words object.0 (record { count = count; dead = false })
    → Makes IsAlone (Shows words) (Shows new) (reviving object count)
revive_made words new object count put_new conf cpu shown may =
    alone (λ _. ⊤) (Shows new) conf (reviving object count cpu) may tt
    (subst (λ (w : PlainWords). Shows w (revived conf object.0 count)) (sym put_new) (revive_shown words conf shown cpu.0 object.0 count may))

-- scans: the counters of all CPUs, in order

scan_shown : (words : PlainWords) (conf : Config) (at of_cpu : ℕ) → Shows words conf → MayScan conf at of_cpu → Shows words (scanned conf of_cpu)
scan_shown words conf at of_cpu shown may =
    shows_stepped words conf shown (with_scan of_cpu (conf.counter of_cpu)) (λ holder. refl) conf.count conf.dead
    words.references shown.references
    (λ n few. fits_still conf (scanned conf of_cpu) n
    (let owes : owed_at (scanned conf of_cpu).turn n ≡ owed_at conf.turn n =
    owed_changed (with_scan of_cpu (conf.counter of_cpu)) conf.turn may.holder n may.has_turn.turn ∙ sym (owed_by conf at may.holder n may.has_turn) in
    omega (arith, owes)) refl refl (shown.fits n few))

module _ (words : PlainWords) (cpu : CpuNo) (is_cpu : cpu.0 < CPUS) (nine : length words.counters ≡ CPUS) where
  -- the CPUs so far are scanned
  scans_from : (count from : ℕ) → from + count ≡ CPUS → (conf : Config) (holder : Holder) → Shows words conf
      → HasTurn conf cpu.0 holder → ((n : ℕ) → n < from → slice_get words.counters n ≡ holder.scans n)
      → MovedAll IsAlone (λ later. Shows words later × HasScans later words.counters) conf (map (λ of_cpu. Scan cpu (cpu_no of_cpu)) (range_with_len from count))
  scans_from zero from all conf holder shown has known = (
    shown,
    record {
      holder = holder;
      turn = has.turn;
      scans = record { nine = nine; each = λ n within. known n (omega (arith, within, all)) };
    },
  )
  scans_from (suc count) from all conf holder shown has known =
      let may : MayScan conf cpu.0 from = record { is_cpu = is_cpu; of_cpu = omega (arith, all); holder = holder; has_turn = has } in
      let there : slice_get words.counters from ≡ Some (conf.counter from) = (shown.cpus from may.of_cpu).counter in
      alone (λ _. ⊤) (λ later. MovedAll IsAlone (λ later. Shows words later × HasScans later words.counters) later (map (λ of_cpu. Scan cpu (cpu_no of_cpu)) (range_with_len (from + 1) count)))
      conf (Scan cpu (cpu_no from)) may tt
      (scans_from count (from + 1) (omega (arith, all)) (scanned conf from) (with_scan from (conf.counter from) holder)
      (scan_shown words conf cpu.0 from shown may)
      (record { turn = ap (option_map (with_scan from (conf.counter from))) has.turn; its_cpu = has.its_cpu })
      (λ n few. each_place (λ (n : ℕ). n < from + 1 → slice_get words.counters n ≡ put holder.scans from (Some (conf.counter from)) n) from n
      (λ less. there ∙ sym (put_here holder.scans from (Some (conf.counter from))))
      (λ differs less. known n (let below : n < from = grind (arith, nat_tests) in below) ∙ sym (put_other holder.scans from (Some (conf.counter from)) n differs)) few))

pub scans_made : (words : PlainWords) → length words.counters ≡ CPUS → ScansAll IsAlone (Shows words) (Shows words) words.counters
scans_made words nine conf cpu shown may =
    scans_from words cpu may.is_cpu nine CPUS 0 refl conf may.holder shown may.has_turn (λ n less. absurd (let never : ⊥ = omega (arith, less) in never))

-- the bell's number is none of the configuration's
pub rung_shown : (words : PlainWords) (rings : ℕ) (conf : Config) → Shows words conf → Shows (record words { rings = rings }) conf
rung_shown words rings conf shown = record {
  caps = shown.caps;
  references = shown.references;
  fits = shown.fits;
  cpus = λ cpu within. let is = shown.cpus cpu within in record { home = is.home; has_home = is.has_home; is_home = is.is_home; counter = is.counter; low = is.low; place = is.place };
  entries = shown.entries;
  turn = shown.turn;
}
