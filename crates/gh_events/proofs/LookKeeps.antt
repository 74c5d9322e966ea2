-- A look keeps sound references, where the words are those of the present state: what a look grants
-- lives at the index in its word.
use Rattle.std.proofs.Common.{◌≡◌, ◌+◌, ◌*◌, ◌/◌, ◌%◌, ◌<◌, ◌≤◌, ◌∙◌, ℕ, Bool, true, false, List, [], ◌∷◌, ◌++◌, inl, refl, subst, sym, ap, arith, Option, Some, None, Result, Ok, Err, IsTrue, find, is_some, if◌then◌else◌}
use Rattle.std.specs.Prelude.{bit_and, map, option_map, count_by, nat_le}
use Rattle.std.specs.List.{last_or}
use Rattle.std.proofs.lemmas.Bool.{and_parts, eqb-true}
use Rattle.std.proofs.lemmas.Bool.Decides.{nat_tests}
use Rattle.std.proofs.lemmas.List.{map-append}
use Rattle.std.proofs.lemmas.Nat.{and_le_r, div-mul-add, mod-mul-add}
use Rattle.gh_base.specs.CapWord.{filled_state, indices, object_of, packed, rights_values, settings, state_number}
use Rattle.gh_base.specs.Kind.{kind_number, kind_rights}
use Rattle.gh_base.specs.declared.cap_word.Need.{Need}
use Rattle.gh_base.specs.declared.cap_word.CapWord.{CapWord}
use Rattle.gh_base.specs.declared.kind.Kind.{Kind}
use Rattle.gh_base.specs.declared.kind.Kind.TheVariants.{Partition, Cspace, Space, Extent, Bell, Queue}
use Rattle.gh_base.specs.declared.errno.Errno.{Errno}
use Rattle.gh_base.specs.declared.errno.Errno.TheVariants.{CapRevoked}
use Rattle.gh_base.specs.declared.ids.Serial.{Serial}
use Rattle.gh_base.specs.declared.limits.TheConstants.{OBJECT_INDICES}
use Rattle.gh_invariant.proofs.Counting.{found_all}
use Rattle.gh_invariant.proofs.FactLemmas.{names_living}
use Rattle.gh_invariant.proofs.SlotsFit.{SlotParts, slot_parts}
use Rattle.gh_invariant.specs.Lives.{setting_fits, slot_fits}
use Rattle.gh_invariant.specs.NamesLiving.{NamesLiving}
use Rattle.gh_invariant.specs.Valid.{IsValid}
use Rattle.gh_model.proofs.RunLists.{last_or_snoc}
use Rattle.gh_model.specs.Act.{granted, row_serial}
use Rattle.gh_model.specs.Boot.{is_of_kind}
use Rattle.gh_model.specs.Marks.{Outcome, Wants, Fails, Grants, Seen, cspace_of, on_grant, outcome, word_of}
use Rattle.gh_model.specs.Registers.{needs_of}
use Rattle.gh_model.specs.Rows.{fills, is_object, tells_setting}
use Rattle.gh_model.specs.Word.{grant_reply, is_slot, look_reply, setting, setting_number, slot_reply, word_at}
use Rattle.gh_model.specs.declared.rows.CapabilityRow.{CapabilityRow}
use Rattle.gh_model.specs.declared.rows.ObjectRow.{ObjectRow}
use Rattle.gh_model.specs.declared.rows.SetAtRow.{SetAtRow}
use Rattle.gh_model.specs.declared.state.State.{State}
use Rattle.gh_model.specs.declared.word.Word.{Word}
use Rattle.gh_events.specs.CallEvents.{MayLook, found, loaded, looked, stage_after_look, with_call, with_look}
use Rattle.gh_events.specs.Config.{Config, Current, DeadPin, Pin, is_pin_at, object_at, present}
use Rattle.gh_events.specs.Entries.{row_shown}
use Rattle.gh_events.specs.References.{HasReferences, IsGranted, IsRow, dead_pin, grants_at, pin_at_stage}
use Rattle.gh_events.specs.Words.{HasRoom, ShowsWords}
use Rattle.gh_events.proofs.CallsKeep.{stage_number}
use Rattle.gh_events.proofs.CpuMoves.{Moves, part_sound}
use Rattle.gh_events.proofs.Finding.{found_passes}
use Rattle.gh_events.proofs.Living.{stands_there, lives_there, LivesAt}

-- the index in a word is that of the capability
pub index_shown : (state kind master object rights entry : ℕ) → object < OBJECT_INDICES
    → rights < rights_values → entry < settings
    → object_of (packed state kind master object rights entry) ≡ object
index_shown state kind master object rights entry is_index few below =
    ap (λ (n : ℕ). n / rights_values % indices) (div-mul-add ((((state * 8 + kind) * 2 + master) * indices + object) * rights_values + rights) settings entry below) ∙ (ap (λ (n : ℕ). n % indices) (div-mul-add (((state * 8 + kind) * 2 + master) * indices + object) rights_values rights few) ∙ mod-mul-add ((state * 8 + kind) * 2 + master) indices object is_index)

-- a look that is granted found a valid capability
pub record GrantsRow (word : Word) : Type 0 where
  pub row : CapabilityRow
  pub is : word.row ≡ Some row
  pub valid : row.valid ≡ true

valid_row : (valid : Bool) (row : CapabilityRow) (need : Need) (serial : Serial) → row.valid ≡ valid
    → grant_reply row need ≡ Ok serial → row.valid ≡ true
valid_row true row need serial is grants = is
valid_row false row need serial is grants = let refused : grant_reply row need ≡ Err CapRevoked = rw is refl in absurd (let never : ⊥ = cc in never)

pub grants_by : (found : Option CapabilityRow) (word : Word) (need : Need) (serial : Serial)
    → word.row ≡ found → slot_reply found need ≡ Ok serial → GrantsRow word
grants_by None word need serial is grants = absurd (let never : ⊥ = cc in never)
grants_by (Some row) word need serial is grants =
    record { row = row; is = is; valid = valid_row row.valid row need serial refl grants }

-- a look that is refused fails the call
fails_by : (reply : Result Serial Errno) (others behind : Outcome) (slot : ℕ) (need : Need) (errno : Errno)
    → (others ≡ Wants slot need → behind ≡ Fails errno) → on_grant reply others ≡ Wants slot need
    → on_grant reply behind ≡ Fails errno
fails_by (Err other) others behind slot need errno rest wants = absurd (let never : ⊥ = cc in never)
fails_by (Ok serial) others behind slot need errno rest wants = rest wants

pub fails_last : (needs : List (ℕ × Need)) (words : List Word) (slot : ℕ) (need : Need) (word : Word)
    (errno : Errno) → outcome needs words ≡ Wants slot need → look_reply word need ≡ Err errno
    → outcome needs (words ++ word ∷ []) ≡ Fails errno
fails_last [] words slot need word errno wants refused = absurd (let never : ⊥ = cc in never)
fails_last (first ∷ needs) [] slot need word errno wants refused =
    let same : first.1 ≡ need = cc in
    ap (λ (reply : Result Serial Errno). on_grant reply (outcome needs [])) (ap (look_reply word) same ∙ refused)
fails_last (first ∷ needs) (before ∷ words) slot need word errno wants refused =
    fails_by (look_reply before first.1) (outcome needs words) (outcome needs (words ++ word ∷ [])) slot need errno (λ later. fails_last needs words slot need word errno later refused) wants

grants_stage : (came : Outcome) (errno : Errno) → came ≡ Fails errno
    → grants_at (stage_after_look came) ≡ false
grants_stage came errno is = rw is refl

no_dead_after : (came : Outcome) (seen : List Seen) → pin_at_stage (stage_after_look came) seen ≡ []
no_dead_after (Wants slot need) seen = refl
no_dead_after (Fails errno) seen = refl
no_dead_after Grants seen = refl

-- a look leaves no pin on a dead word
current_stage : Option Current → ℕ
current_stage None = 0
current_stage (Some call) = stage_number call.stage

look_undead : (came : Outcome) → stage_number (stage_after_look came) ≡ 2 → ⊥
look_undead (Wants slot need) is = absurd (omega (arith, is))
look_undead (Fails errno) is = absurd (omega (arith, is))
look_undead Grants is = absurd (omega (arith, is))

-- a look that fails leaves no grant, so one that leaves a grant is granted
pub granted_by : (reply : Result Serial Errno) (needs : List (ℕ × Need)) (words : List Word) (slot : ℕ)
    (need : Need) (word : Word) → look_reply word need ≡ reply
    → outcome needs words ≡ Wants slot need
    → grants_at (stage_after_look (outcome needs (words ++ word ∷ []))) ≡ true → GrantsRow word
granted_by (Ok serial) needs words slot need word is wants grants =
    grants_by word.row word need serial refl is
granted_by (Err errno) needs words slot need word is wants grants =
    let none : grants_at (stage_after_look (outcome needs (words ++ word ∷ []))) ≡ false = grants_stage (outcome needs (words ++ word ∷ [])) errno (fails_last needs words slot need word errno wants is) in
    absurd (let never : ⊥ = cc in never)

-- the row of an object that lives
pub record OwnRow (s : State) (serial : ℕ) : Type 0 where
  pub row : ObjectRow
  pub is : IsRow s row
  pub same : row.serial.0 ≡ serial

pub own_row : (s : State) (serial : ℕ) (kind : Kind) (object : Option ObjectRow)
    → find (is_object serial) s.objects ≡ object → is_of_kind kind object ≡ true → OwnRow s serial
own_row s serial kind None is lives = absurd (let never : ⊥ = cc in never)
own_row s serial kind (Some row) is lives =
    let same : row.serial.0 ≡ serial = eqb-true row.serial.0 serial (found_passes (is_object serial) s.objects row is) in
    record {
      row = row;
      is = subst (λ (n : ℕ). find (is_object n) s.objects ≡ Some row) (sym same) is;
      same = same;
    }

-- two live objects never have one index
abbrev pub AreApart : State → (ℕ → ℕ) → Type 0
AreApart s index = (row other : ObjectRow) → IsRow s row → IsRow s other
    → index row.serial.0 ≡ index other.serial.0 → row.serial.0 ≡ other.serial.0

-- what is found at the index of an object is that object
pub record FoundThere (s : State) (index : ℕ → ℕ) (serial : ℕ) : Type 0 where
  pub row : ObjectRow
  pub lives_there : object_at s index (index serial) ≡ Some row
  pub is_that : row.serial.0 ≡ serial

found_by : (s : State) (index : ℕ → ℕ) (own : ObjectRow) (object : Option ObjectRow) → AreApart s index
    → IsRow s own → object_at s index (index own.serial.0) ≡ object → is_some object ≡ true
    → FoundThere s index own.serial.0
found_by s index own None apart is found some = absurd (let never : ⊥ = cc in never)
found_by s index own (Some row) apart is found some =
    let lives : LivesAt s index (index own.serial.0) row.serial.0 = lives_there s index (index own.serial.0) row found in
    record {
      row = row;
      lives_there = found;
      is_that = sym lives.same ∙ apart lives.row own lives.is is lives.there;
    }

pub found_there : (s : State) (index : ℕ → ℕ) (serial : ℕ) → AreApart s index → OwnRow s serial
    → FoundThere s index serial
found_there s index serial apart own =
    subst (λ (n : ℕ). FoundThere s index n) own.same (found_by s index own.row (object_at s index (index own.row.serial.0)) apart own.is refl (stands_there s index own.row own.is))

-- the word of a number that names a slot is that slot's
pub record OfSlot (s : State) (cspace slot : ℕ) (row : CapabilityRow) : Type 0 where
  pub names : is_slot slot ≡ true
  pub fills : find (fills cspace slot) s.caps ≡ Some row

pub of_slot : (s : State) (cspace slot : ℕ) (row : CapabilityRow) (names : Bool) → is_slot slot ≡ names
    → (if◌then◌else◌ {A = Word} names (record { row = find (fills cspace slot) s.caps; set_at = setting s cspace slot }) (record { row = None; set_at = 0 })).row ≡ Some row
    → OfSlot s cspace slot row
of_slot s cspace slot row true names is = record { names = names; fills = is }
of_slot s cspace slot row false names is = absurd (let never : ⊥ = cc in never)

-- rights and settings of a valid state fit into a word
kind_few : (kind : Kind) → kind_rights kind < rights_values
kind_few Partition = omega arith
kind_few Cspace = omega arith
kind_few Space = omega arith
kind_few Extent = omega arith
kind_few Bell = omega arith
kind_few Queue = omega arith

rights_few : (s : State) → IsValid s → (cspace slot : ℕ) (row : CapabilityRow)
    → find (fills cspace slot) s.caps ≡ Some row → row.rights.0 < rights_values
rights_few s valid cspace slot row is =
    let parts : SlotParts s.next_serial s.objects row = slot_parts s.next_serial s.objects row (found_all (fills cspace slot) (slot_fits s.next_serial s.objects) s.caps row valid.slots.filled is) in
    let same : bit_and row.rights.0 (kind_rights row.kind) ≡ row.rights.0 = eqb-true (bit_and row.rights.0 (kind_rights row.kind)) row.rights.0 parts.rights in
    omega (arith, same, and_le_r row.rights.0 (kind_rights row.kind), kind_few row.kind)

number_within : (s : State) → IsValid s → (cspace slot : ℕ) (row : Option SetAtRow)
    → find (tells_setting cspace slot) s.set_at ≡ row → setting_number row ≤ s.entries
number_within s valid cspace slot None is = omega arith
number_within s valid cspace slot (Some row) is =
    let fits : IsTrue (setting_fits s.entries s.objects row) = found_all (tells_setting cspace slot) (setting_fits s.entries s.objects) s.set_at row valid.slots.set is in
    let last : _ × _ = and_parts _ (nat_le row.number s.entries) fits in
    below last.1
  where
    below : nat_le row.number s.entries ≡ true → row.number ≤ s.entries
    below is = grind (arith, nat_tests)

-- no word's setting is above the last entry
set_by : (s : State) → IsValid s → (cspace slot : ℕ) (names : Bool)
    → (if◌then◌else◌ {A = Word} names (record { row = find (fills cspace slot) s.caps; set_at = setting s cspace slot }) (record { row = None; set_at = 0 })).set_at ≤ s.entries
set_by s valid cspace slot true =
    number_within s valid cspace slot (find (tells_setting cspace slot) s.set_at) refl
set_by s valid cspace slot false = omega arith

pub set_within : (s : State) → IsValid s → (cspace slot : ℕ)
    → (word_at s cspace slot).set_at ≤ s.entries
set_within s valid cspace slot = set_by s valid cspace slot (is_slot slot)

module _ (conf : Config) (at slot : ℕ) (sound : HasReferences conf) (valid : IsValid (present conf))
    (words : ShowsWords conf) (room : HasRoom conf) (may : MayLook conf at slot) where
  abbrev LookedAt : Word
  LookedAt = word_at (present conf) (cspace_of conf.boot at) slot

  -- the index in the word of a slot is that of its object
  loads_index : (row : CapabilityRow) → OfSlot (present conf) (cspace_of conf.boot at) slot row
      → LookedAt.row ≡ Some row → object_of (loaded conf at slot).0 ≡ conf.index row.serial.0
  loads_index row slots is =
      let here : loaded conf at slot ≡ conf.cap (conf.index (cspace_of conf.boot at)) slot = ap (λ (names : Bool). conf.cap (conf.index (cspace_of conf.boot at)) (if names then slot else 0)) slots.names in
      let bits : (loaded conf at slot).0 ≡ row_shown conf.index LookedAt.set_at (Some row) = ap (λ (word : CapWord). word.0) here ∙ (words.filled (cspace_of conf.boot at) slot row is ∙ ap (row_shown conf.index LookedAt.set_at) is) in
      let few : LookedAt.set_at < settings = omega (arith, set_within (present conf) valid (cspace_of conf.boot at) slot, room) in
      ap object_of bits ∙ index_shown (state_number (filled_state row.valid)) (kind_number row.kind) (if row.master then 1 else 0) (conf.index row.serial.0) row.rights.0 LookedAt.set_at (words.within (cspace_of conf.boot at) slot row is) (rights_few (present conf) valid (cspace_of conf.boot at) slot row slots.fills) few

  -- a look that grants is of an object that lives at the index in its word
  look_grants : GrantsRow (word_at (present conf) (cspace_of conf.boot at) slot) → IsGranted conf (found conf at slot may.call)
  look_grants grants =
      let slots : OfSlot (present conf) (cspace_of conf.boot at) slot grants.row = of_slot (present conf) (cspace_of conf.boot at) slot grants.row (is_slot slot) refl grants.is in
      let living : NamesLiving (present conf) grants.row = names_living (present conf) valid (cspace_of conf.boot at) slot grants.row slots.fills grants.valid in
      let own : OwnRow (present conf) grants.row.serial.0 = own_row (present conf) grants.row.serial.0 grants.row.kind (find (is_object grants.row.serial.0) (present conf).objects) refl living.object in
      let there : FoundThere (present conf) conf.index grants.row.serial.0 = found_there (present conf) conf.index grants.row.serial.0 sound.placed.unique own in
      let index_is : object_of (loaded conf at slot).0 ≡ conf.index grants.row.serial.0 = loads_index grants.row slots grants.is in
      let names : grants.row.serial.0 ≡ (granted (word_at (present conf) (cspace_of conf.boot at) slot)).0 = sym (ap (λ (one : Option CapabilityRow). (row_serial one).0) grants.is) in
      record {
        row = there.row;
        lives_there = subst (λ (n : ℕ). object_at (present conf) conf.index n ≡ Some there.row) (sym index_is) there.lives_there;
        is_that = there.is_that ∙ names;
      }

  look_seen : (other : Current) (last : Seen)
      → option_map (λ (call : Current). with_look (found conf at slot call) call) (conf.cpu at).current ≡ Some other
      → grants_at other.stage ≡ true → last_or None other.seen ≡ Some last → IsGranted conf last
  look_seen other last is grants ends =
      let now : Some (with_look (found conf at slot may.call) may.call) ≡ Some other = ap (option_map (λ (call : Current). with_look (found conf at slot call) call)) (sym may.reading.is_current) ∙ is in
      let same : with_look (found conf at slot may.call) may.call ≡ other = cc in
      let looks : last_or None (may.call.seen ++ found conf at slot may.call ∷ []) ≡ Some last = ap (λ (one : Current). last_or None one.seen) same ∙ ends in
      let new : last_or None (may.call.seen ++ found conf at slot may.call ∷ []) ≡ Some (found conf at slot may.call) = last_or_snoc None may.call.seen (found conf at slot may.call) in
      let equal : found conf at slot may.call ≡ last = cc in
      let staged : grants_at (stage_after_look (outcome (needs_of may.call.given.call) (map word_of (may.call.seen ++ found conf at slot may.call ∷ [])))) ≡ true = ap (λ (one : Current). grants_at one.stage) same ∙ grants in
      let split : map word_of (may.call.seen ++ found conf at slot may.call ∷ []) ≡ map word_of may.call.seen ++ word_at (present conf) (cspace_of conf.boot at) slot ∷ [] = map-append word_of may.call.seen (found conf at slot may.call ∷ []) in
      let wanted : grants_at (stage_after_look (outcome (needs_of may.call.given.call) (map word_of may.call.seen ++ word_at (present conf) (cspace_of conf.boot at) slot ∷ []))) ≡ true = subst (λ (list : List Word). grants_at (stage_after_look (outcome (needs_of may.call.given.call) list)) ≡ true) split staged in
      subst (λ (one : Seen). IsGranted conf one) equal (look_grants (granted_by (look_reply (word_at (present conf) (cspace_of conf.boot at) slot) may.need) (needs_of may.call.given.call) (map word_of may.call.seen) slot may.need (word_at (present conf) (cspace_of conf.boot at) slot) refl may.asked wanted))

  look_pins : (i : ℕ) → count_by (is_pin_at i) (dead_pin (conf.cpu at).current)
      ≡ count_by (is_pin_at i) (dead_pin (option_map (λ (call : Current). with_look (found conf at slot call) call) (conf.cpu at).current))
  look_pins i =
      let before : dead_pin (conf.cpu at).current ≡ [] = ap dead_pin may.reading.is_current ∙ rw may.reading.at_stage refl in
      let behind : dead_pin (option_map (λ (call : Current). with_look (found conf at slot call) call) (conf.cpu at).current) ≡ [] = ap (λ (one : Option Current). dead_pin (option_map (λ (call : Current). with_look (found conf at slot call) call) one)) may.reading.is_current ∙ no_dead_after (outcome (needs_of may.call.given.call) (map word_of (may.call.seen ++ found conf at slot may.call ∷ []))) (may.call.seen ++ found conf at slot may.call ∷ []) in
      ap (λ (pins : List Pin). count_by (is_pin_at i) pins) (before ∙ sym behind)

  no_dying : (other : Current)
      → option_map (λ (call : Current). with_look (found conf at slot call) call) (conf.cpu at).current ≡ Some other
      → other.stage ≡ DeadPin → ⊥
  unfolding current_stage
  no_dying other is there =
      let now : Some (with_look (found conf at slot may.call) may.call) ≡ Some other = ap (option_map (λ (call : Current). with_look (found conf at slot call) call)) (sym may.reading.is_current) ∙ is in
      look_undead (outcome (needs_of may.call.given.call) (map word_of (may.call.seen ++ found conf at slot may.call ∷ []))) (ap current_stage now ∙ ap stage_number there)

  look_moves : Moves conf at (with_call (λ call. with_look (found conf at slot call) call) (conf.cpu at)) conf.count
  look_moves = record {
    is_cpu = may.is_cpu;
    moved = λ i. omega (arith, look_pins i);
    homed = λ i. inl refl;
    holding = record {
      pinned = (sound.holds at).pinned;
      granted = λ other last now ends. look_seen other last now.is_current now.grants ends;
      dying = λ other last now ends. absurd (no_dying other now.is_current now.at_stage);
    };
  }

  -- a look keeps sound references
  pub look_keeps : HasReferences (looked conf at slot)
  look_keeps =
      part_sound conf at (with_call (λ call. with_look (found conf at slot call) call) (conf.cpu at)) conf.count conf.counter look_moves sound
