-- Grace before any event, and the events of the holder on words, counters and the turn that keep it.
use Rattle.std.proofs.Common.{◌≡◌, ◌==◌, ◌+◌, ◌-◌, ◌∙◌, ℕ, Bool, true, false, List, [], ◌∷◌, ◌++◌, refl, subst, sym, ap, Option, Some, None, find, is_some, if◌then◌else◌}
use Rattle.std.specs.Prelude.{◌||◌, option_map}
use Rattle.std.specs.List.{list_any}
use Rattle.std.specs.Option.{option_map_or}
use Rattle.std.proofs.lemmas.Bool.{eqb-true}
use Rattle.gh_model.specs.Graced.{retirement}
use Rattle.gh_model.specs.Rows.{is_object, object_row}
use Rattle.gh_model.specs.declared.rows.ObjectRow.{ObjectRow}
use Rattle.gh_model.specs.declared.state.State.{State}
use Rattle.gh_events.specs.Config.{Config, Holder, has_acted, is_killed, object_at, present, put, some_killed}
use Rattle.gh_events.specs.Entries.{is_that_index}
use Rattle.gh_events.specs.Grace.{AreRevived, CpuGrace, HasGrace, objects_of, scan_of}
use Rattle.gh_events.specs.HolderEvents.{MayRevive, killed, one_less, one_more, owed, revived, settled, with_revived}
use Rattle.gh_events.specs.References.{IsRow}
use Rattle.gh_events.specs.Start.{AreIndices, IsUnretired, boot_dead, new_cpu, start}
use Rattle.gh_events.proofs.Finding.{found_passes, put_here, put_other}
use Rattle.gh_events.proofs.GraceFrames.{turn_graced}
use Rattle.gh_events.proofs.Living.{index_apart, stands_there}
use Rattle.gh_events.proofs.ReviveKeeps.{apart_by}
use Rattle.gh_events.proofs.WordsMove.{with_words}

-- killed objects

-- an object that is killed and not retired: its row
pub record KilledRow (s : State) (dead : ℕ → Bool) (index : ℕ → ℕ) (serial : ℕ) : Type 0 where
  pub row : ObjectRow
  pub found : object_row s serial ≡ Some row
  pub is : IsRow s row
  pub same : row.serial.0 ≡ serial
  pub unretired : row.retired ≡ None
  pub is_dead : dead (index row.serial.0) ≡ true

-- an object that is killed isn't retired
pub unretired_by : (retired : Option (List ℕ)) (dead : Bool)
    → (if is_some retired then false else dead) ≡ true → (retired ≡ None) × (dead ≡ true)
unretired_by None dead is = (refl, is)
unretired_by (Some seen) dead is = absurd (let never : ⊥ = cc in never)

killed_by : (s : State) (dead : ℕ → Bool) (index : ℕ → ℕ) (serial : ℕ) (object : Option ObjectRow)
    → object_row s serial ≡ object → option_map_or (is_killed dead index) object false ≡ true
    → KilledRow s dead index serial
killed_by s dead index serial None is killed = absurd (let never : ⊥ = cc in never)
killed_by s dead index serial (Some row) is killed =
    let same : row.serial.0 ≡ serial = eqb-true row.serial.0 serial (found_passes (is_object serial) s.objects row is) in
    let both : (row.retired ≡ None) × (dead (index row.serial.0) ≡ true) = unretired_by row.retired (dead (index row.serial.0)) killed in
    record {
      row = row;
      found = is;
      is = subst (λ (n : ℕ). find (is_object n) s.objects ≡ Some row) (sym same) is;
      same = same;
      unretired = both.0;
      is_dead = both.1;
    }

pub killed_row : (conf : Config) (serial : ℕ) → (objects_of conf).killed serial ≡ true
    → KilledRow (present conf) conf.dead conf.index serial
killed_row conf serial killed =
    killed_by (present conf) conf.dead conf.index serial (object_row (present conf) serial) refl killed

any_by : {X : Type 0} (p q : X → Bool) (first row : X) (rows : List X) (here there : Bool)
    → p first ≡ here → q first ≡ there
    → (list_any q rows ≡ false → find p rows ≡ Some row → q row ≡ false)
    → (there || list_any q rows) ≡ false → (if here then Some first else find p rows) ≡ Some row
    → q row ≡ false
any_by p q first row rows here true is_here is_there rest none is = absurd (let never : ⊥ = cc in never)
any_by p q first row rows true false is_here is_there rest none is =
    let same : first ≡ row = cc in
    sym (ap q same) ∙ is_there
any_by p q first row rows false false is_here is_there rest none is = rest none is

-- where no item passes a test, what another finds doesn't
pub found_fails : {X : Type 0} (p q : X → Bool) (rows : List X) (row : X) → list_any q rows ≡ false
    → find p rows ≡ Some row → q row ≡ false
found_fails p q [] row none is = absurd (let never : ⊥ = cc in never)
found_fails p q (first ∷ rows) row none is =
    any_by p q first row rows (p first) (q first) refl refl (found_fails p q rows row) none is

-- where none is killed no object is
pub none_killed : (conf : Config) (serial : ℕ) → some_killed conf ≡ false
    → (objects_of conf).killed serial ≡ true → ⊥
none_killed conf serial none killed =
    let is : KilledRow (present conf) conf.dead conf.index serial = killed_row conf serial killed in
    let fails : is_killed conf.dead conf.index is.row ≡ false = found_fails (is_object serial) (is_killed conf.dead conf.index) (present conf).objects is.row none is.found in
    let passes : is_killed conf.dead conf.index is.row ≡ true = sym (ap (λ (one : Option ObjectRow). option_map_or (is_killed conf.dead conf.index) one false) is.found) ∙ killed in
    cc

-- before any event

module _ (boot : State) (index : ℕ → ℕ) (indices : AreIndices boot index) (unretired : IsUnretired boot)
  where
    no_retirement : (serial : ℕ) (object : Option ObjectRow) (seen : List ℕ) → object_row boot serial ≡ object
        → retirement object ≡ Some seen → ⊥
    no_retirement serial None seen is kept = cc
    no_retirement serial (Some row) seen is kept =
        let same : row.serial.0 ≡ serial = eqb-true row.serial.0 serial (found_passes (is_object serial) boot.objects row is) in
        let none : is_some row.retired ≡ false = unretired row (subst (λ (n : ℕ). find (is_object n) boot.objects ≡ Some row) (sym same) is) in
        let some : is_some row.retired ≡ true = ap is_some kept in
        cc

    no_kill : (serial : ℕ) → (objects_of (start boot index)).killed serial ≡ true → ⊥
    no_kill serial killed =
        let is : KilledRow boot (boot_dead boot index) index serial = killed_row (start boot index) serial killed in
        let lives : is_some (object_at boot index (index is.row.serial.0)) ≡ true = stands_there boot index is.row is.is in
        let dead : boot_dead boot index (index is.row.serial.0) ≡ true = is.is_dead in
        cc

    start_cpu : (at : ℕ) → CpuGrace (objects_of (start boot index)) [] at new_cpu 0 None
    start_cpu at = record {
      counted = refl;
      opened = λ call is. absurd (let never : ⊥ = cc in never);
      left = λ call is. absurd (let never : ⊥ = cc in never);
      ended = λ i made is. absurd (let never : ⊥ = cc in never);
      scanned = λ n is. absurd (let never : ⊥ = cc in never);
      acts = λ n i made is. absurd (let never : ⊥ = cc in never);
      kept_below = λ n event seen is. absurd (let never : ⊥ = cc in never);
      kept_scanned = λ n is. absurd (let never : ⊥ = cc in never);
      grants = λ call seen is. absurd (let never : ⊥ = cc in never);
      reads = λ call serial is. absurd (let never : ⊥ = cc in never);
      made_reads = λ i serial made is. absurd (let never : ⊥ = cc in never);
    }

    -- the configuration before any event is graced
    pub start_graced : HasGrace (start boot index)
    start_graced = record {
      each = λ cpu within. start_cpu cpu;
      kept = λ serial seen kept. absurd (no_retirement serial (object_row boot serial) seen refl kept);
      one_killed = λ serial other killed also. absurd (no_kill serial killed);
      held = λ serial killed. absurd (no_kill serial killed);
      revived = λ holder i is. absurd (let never : ⊥ = cc in never);
      seats = λ cpu beyond. refl;
    }

-- the holder's words

-- a change of the holder that leaves the scans
abbrev pub KeepsScans : (Holder → Holder) → Type 0
KeepsScans change = (holder : Holder) → (change holder).scans ≡ holder.scans

pub scans_kept : (change : Holder → Holder) (turn : Option Holder) (cpu : ℕ) → KeepsScans change
    → scan_of (option_map change turn) cpu ≡ scan_of turn cpu
scans_kept change None cpu keeps = refl
scans_kept change (Some holder) cpu keeps = ap (λ (scans : ℕ → Option ℕ). scans cpu) (keeps holder)

pub held_kept : (change : Holder → Holder) (turn : Option Holder) → is_some turn ≡ true
    → is_some (option_map change turn) ≡ true
held_kept change None held = held
held_kept change (Some holder) held = refl

-- a change that takes back no act's entry, and leaves the revived indices
pub record KeepsRevived (before behind : Holder) : Type 0 where
  pub acted : has_acted behind ≡ false → has_acted before ≡ false
  pub revived : behind.revived ≡ before.revived

pub revived_kept : (change : Holder → Holder) (dead : ℕ → Bool) (turn : Option Holder)
    → ((holder : Holder) → KeepsRevived holder (change holder)) → AreRevived turn dead
    → AreRevived (option_map change turn) dead
revived_kept change dead None keeps alive holder i is acted revived = absurd (let never : ⊥ = cc in never)
revived_kept change dead (Some before) keeps alive holder i is acted revived =
    let same : change before ≡ holder = cc in
    let now : has_acted (change before) ≡ false = ap has_acted same ∙ acted in
    let list : holder.revived ≡ before.revived = sym (ap (λ (one : Holder). one.revived) same) ∙ (keeps before).revived in
    alive before i refl ((keeps before).acted now) (sym (ap (λ (one : List ℕ). list_any (is_that_index i) one) list) ∙ revived)

pub words_graced : (conf : Config) (count : ℕ → ℕ) (change : Holder → Holder) → KeepsScans change
    → ((holder : Holder) → KeepsRevived holder (change holder))
    → HasGrace conf → HasGrace (with_words conf count conf.dead (option_map change conf.turn))
words_graced conf count change keeps stays graced =
    turn_graced conf count conf.dead (option_map change conf.turn) (record { killed = λ serial. refl; scans = λ cpu. scans_kept change conf.turn cpu keeps; held = held_kept change conf.turn; revived = revived_kept change conf.dead conf.turn stays graced.revived }) graced

-- references that are owed, and owed no more, keep grace
pub owe_graced : (conf : Config) (object : ℕ) → HasGrace conf → HasGrace (owed conf object)
owe_graced conf object graced =
    words_graced conf (put conf.count object (conf.count object + 1)) (one_more object) (λ holder. refl) (λ holder. record { acted = λ acted. acted; revived = refl }) graced

pub settle_graced : (conf : Config) (object : ℕ) → HasGrace conf → HasGrace (settled conf object)
settle_graced conf object graced =
    words_graced conf (put conf.count object (conf.count object - 1)) (one_less object) (λ holder. refl) (λ holder. record { acted = λ acted. acted; revived = refl }) graced

-- Revive

module _ (conf : Config) (at object amount : ℕ) (may : MayRevive conf at object amount)
    (graced : HasGrace conf) where
  revive_killed : (serial : ℕ) (found : Option ObjectRow) → object_row (present conf) serial ≡ found
      → option_map_or (is_killed (put conf.dead object false) conf.index) found false
      ≡ option_map_or (is_killed conf.dead conf.index) found false
  revive_killed serial None is = refl
  revive_killed serial (Some row) is =
      let same : row.serial.0 ≡ serial = eqb-true row.serial.0 serial (found_passes (is_object serial) (present conf).objects row is) in
      let own : IsRow (present conf) row = subst (λ (n : ℕ). find (is_object n) (present conf).objects ≡ Some row) (sym same) is in
      let apart : (conf.index row.serial.0 == object) ≡ false = apart_by (conf.index row.serial.0) object (index_apart (present conf) conf.index row object own may.uninhabited) in
      ap (λ (one : Bool). if is_some row.retired then false else one) (put_other conf.dead object false (conf.index row.serial.0) apart)

  only_there : (here : Bool) (i : ℕ) → (object == i) ≡ here → (here || false) ≡ true → i ≡ object
  only_there true i is some = sym (eqb-true object i is)
  only_there false i is some = absurd (let never : ⊥ = cc in never)

  revive_revived : AreRevived (option_map (with_revived object amount) conf.turn) (put conf.dead object false)
  revive_revived holder i is acted some =
      let now : Some (with_revived object amount may.holder) ≡ Some holder = sym (ap (option_map (with_revived object amount)) may.has_turn.turn) ∙ is in
      let same : with_revived object amount may.holder ≡ holder = cc in
      let list : list_any (is_that_index i) (may.holder.revived ++ object ∷ []) ≡ true = ap (λ (one : Holder). list_any (is_that_index i) one.revived) same ∙ some in
      let one : list_any (is_that_index i) (object ∷ []) ≡ true = subst (λ (before : List ℕ). list_any (is_that_index i) (before ++ object ∷ []) ≡ true) may.first list in
      subst (λ (n : ℕ). put conf.dead object false n ≡ false) (sym (only_there (object == i) i refl one)) (put_here conf.dead object false)

  -- a new count keeps grace
  pub revive_graced : HasGrace (revived conf object amount)
  revive_graced =
      turn_graced conf (put conf.count object amount) (put conf.dead object false) (option_map (with_revived object amount) conf.turn) (record { killed = λ serial. revive_killed serial (object_row (present conf) serial) refl; scans = λ cpu. scans_kept (with_revived object amount) conf.turn cpu (λ holder. refl); held = held_kept (with_revived object amount) conf.turn; revived = revive_revived }) graced
