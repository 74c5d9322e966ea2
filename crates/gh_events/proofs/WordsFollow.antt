-- The capability words are those of the state behind an entry, where each word is as before or is
-- the one that the entry sets.
use Rattle.std.proofs.Common.{◌≡◌, ◌<◌, ◌∙◌, ◌⊎◌, inl, inr, ℕ, true, false, List, refl, sym, ap, arith, IsTrue, Option, Some, None, find, is_some}
use Rattle.std.specs.Prelude.{◌==◌, nat_lt}
use Rattle.std.proofs.lemmas.Bool.{and_parts, eqb-true}
use Rattle.std.proofs.lemmas.Bool.Decides.{nat_tests}
use Rattle.gh_base.specs.CapWord.{filled_bits, settings}
use Rattle.gh_base.specs.declared.cap_word.CapWord.{CapWord}
use Rattle.gh_base.specs.declared.kind.Kind.{Kind}
use Rattle.gh_base.specs.declared.kind.Kind.TheVariants as kind
use Rattle.gh_base.specs.declared.limits.TheConstants.{OBJECT_INDICES}
use Rattle.gh_invariant.specs.Lives.{lives, lives_as, slot_fits}
use Rattle.gh_invariant.specs.NamesLiving.{SpacesLive}
use Rattle.gh_invariant.specs.Valid.{IsValid}
use Rattle.gh_invariant.proofs.CapabilityMade.{word_found}
use Rattle.gh_invariant.proofs.Counting.{found_all}
use Rattle.gh_invariant.proofs.FactLemmas.{spaces_live}
use Rattle.gh_invariant.proofs.Living.{lives_made}
use Rattle.gh_invariant.proofs.SlotsFit.{SlotParts, slot_parts}
use Rattle.gh_model.specs.Boot.{is_of_kind}
use Rattle.gh_model.specs.History.{Event, replay}
use Rattle.gh_model.specs.Rows.{cpu_row, fills, is_object}
use Rattle.gh_model.specs.Word.{word_at}
use Rattle.gh_model.specs.declared.rows.CapabilityRow.{CapabilityRow}
use Rattle.gh_model.specs.declared.rows.CpuRow.{CpuRow}
use Rattle.gh_model.specs.declared.rows.ObjectRow.{ObjectRow}
use Rattle.gh_model.specs.declared.state.State.{State}
use Rattle.gh_model.specs.declared.word.Word.{Word}
use Rattle.gh_events.specs.Config.{Config, Holder, present}
use Rattle.gh_events.specs.Entries.{row_shown, shown}
use Rattle.gh_events.specs.Words.{ShowsSlot, ShowsWords}
use Rattle.gh_events.proofs.EntryMoves.{with_log}
use Rattle.gh_events.proofs.Finding.{found_passes}

-- filled slots of a valid state

alive_by : (k : Kind) (found : Option ObjectRow) → is_of_kind k found ≡ true → is_some found ≡ true
alive_by k None is = absurd (let never : ⊥ = cc in never)
alive_by k (Some row) is = refl

-- what lives as a kind lives
pub lives_any : (objects : List ObjectRow) (serial : ℕ) (k : Kind)
    → IsTrue (lives_as objects serial k) → lives objects serial ≡ true
lives_any objects serial k is = alive_by k (find (is_object serial) objects) is

-- the slot is filled with this row
abbrev pub Fills : State → ℕ → ℕ → CapabilityRow → Type 0
Fills s cspace slot row = (word_at s cspace slot).row ≡ Some row

module _ (s : State) (valid : IsValid s) (cspace slot : ℕ) (row : CapabilityRow)
    (is : Fills s cspace slot row) where
  pub filled_parts : SlotParts s.next_serial s.objects row
  filled_parts =
      slot_parts s.next_serial s.objects row (found_all (fills cspace slot) (slot_fits s.next_serial s.objects) s.caps row valid.slots.filled (word_found s cspace slot row is))

  -- the row names its slot's capability space
  pub filled_in : row.cspace.0 ≡ cspace
  filled_in =
      let both = and_parts (row.cspace.0 == cspace) (row.slot == slot) (found_passes (fills cspace slot) s.caps row (word_found s cspace slot row is)) in
      eqb-true row.cspace.0 cspace both.0

  home_lives : lives s.objects row.cspace.0 ≡ true
  home_lives = lives_any s.objects row.cspace.0 kind.Cspace filled_parts.home

  -- which lives
  pub filled_lives : lives s.objects cspace ≡ true
  filled_lives = sym (ap (lives s.objects) filled_in) ∙ home_lives

  -- and was made
  pub filled_made : cspace < s.next_serial
  filled_made =
      omega (arith, sym filled_in, lives_made s.objects s.next_serial valid.objects row.cspace.0 kind.Cspace filled_parts.home)

  made_by : nat_lt row.serial.0 s.next_serial ≡ true → row.serial.0 < s.next_serial
  made_by made = grind (arith, nat_tests)

  -- so was its object
  pub object_made : row.serial.0 < s.next_serial
  object_made = made_by filled_parts.made

-- words

shown_by : (old index : ℕ → ℕ) (number : ℕ) (found : Option CapabilityRow)
    → ((row : CapabilityRow) → found ≡ Some row → index row.serial.0 ≡ old row.serial.0)
    → row_shown old number found ≡ row_shown index number found
shown_by old index number None kept = refl
shown_by old index number (Some row) kept =
    ap (λ (n : ℕ). filled_bits row.valid row.kind row.master n row.rights.0 number) (sym (kept row refl))

-- a word shows the same with indices that its object has too
shown_kept : (old index : ℕ → ℕ) (word : Word)
    → ((row : CapabilityRow) → word.row ≡ Some row → index row.serial.0 ≡ old row.serial.0)
    → shown old word ≡ shown index word
shown_kept old index word kept = shown_by old index word.set_at word.row kept

-- the word at an index is as before, and so are the slots there of what lives
pub record IsLeft (conf : Config) (new : State) (index : ℕ → ℕ) (cap : ℕ → ℕ → CapWord)
    (at slot : ℕ) : Type 0 where
  pub word : cap at slot ≡ conf.cap at slot
  pub same : (cspace : ℕ) → index cspace ≡ at → lives new.objects cspace ≡ true
      → word_at new cspace slot ≡ word_at (present conf) cspace slot

-- the word at an index is that of the only capability space there
pub record IsPut (new : State) (index : ℕ → ℕ) (cap : ℕ → ℕ → CapWord) (at slot : ℕ)
    : Type 0 where
  pub cspace : ℕ
  pub here : index cspace ≡ at
  pub only : (other : ℕ) → lives new.objects other ≡ true → index other ≡ at → other ≡ cspace
  pub shows : (cap at slot).0 ≡ shown index (word_at new cspace slot)
  pub small : (word_at new cspace slot).row ≡ None → (cap at slot).0 < settings

-- what an entry does to slots, words and indices
pub record WordsFollow (conf : Config) (new : State) (index : ℕ → ℕ) (cap : ℕ → ℕ → CapWord)
    : Type 0 where
  pub was_valid : IsValid (present conf)
  pub now_valid : IsValid new
  pub kept : (serial : ℕ) → serial < (present conf).next_serial
      → index serial ≡ conf.index serial
  pub words : (at slot : ℕ) → IsLeft conf new index cap at slot ⊎ IsPut new index cap at slot
  pub stays : (cspace slot : ℕ) (row : CapabilityRow) → Fills (present conf) cspace slot row
      → lives new.objects cspace ≡ true
  pub runs : (cpu : ℕ) (row : CpuRow) → cpu_row new cpu ≡ Some row → row.exited ≡ false
      → cpu_row (present conf) cpu ≡ Some row
  pub within : (cspace slot : ℕ) (row : CapabilityRow) → Fills new cspace slot row
      → index row.serial.0 < OBJECT_INDICES

module _ (conf : Config) (history : List Event) (index : ℕ → ℕ) (cap : ℕ → ℕ → CapWord)
    (follows : WordsFollow conf (replay conf.boot history) index cap) (words : ShowsWords conf) where
  abbrev ShowsNow : ℕ → ℕ → Type 0
  ShowsNow cspace slot =
      (cap (index cspace) slot).0 ≡ shown index (word_at (replay conf.boot history) cspace slot)

  -- a slot that is left shows its word, where it did
  left_shows : (cspace slot : ℕ) → cspace < (present conf).next_serial
      → lives (replay conf.boot history).objects cspace ≡ true
      → IsLeft conf (replay conf.boot history) index cap (index cspace) slot
      → ShowsSlot conf cspace slot → ShowsNow cspace slot
  left_shows cspace slot made alive left shows =
      ap (λ (word : CapWord). word.0) left.word
      ∙ ap (λ (n : ℕ). (conf.cap n slot).0) (follows.kept cspace made)
      ∙ shows
      ∙ shown_kept conf.index index (word_at (present conf) cspace slot) (λ row is. follows.kept row.serial.0 (object_made (present conf) follows.was_valid cspace slot row is))
      ∙ ap (shown index) (sym (left.same cspace refl alive))

  put_shows : (cspace slot : ℕ) → lives (replay conf.boot history).objects cspace ≡ true
      → IsPut (replay conf.boot history) index cap (index cspace) slot → ShowsNow cspace slot
  put_shows cspace slot alive put =
      put.shows ∙ ap (λ (n : ℕ). shown index (word_at (replay conf.boot history) n slot)) (sym (put.only cspace alive refl))

  filled_by : (cspace slot : ℕ) (row : CapabilityRow)
      → Fills (replay conf.boot history) cspace slot row
      → IsLeft conf (replay conf.boot history) index cap (index cspace) slot
      ⊎ IsPut (replay conf.boot history) index cap (index cspace) slot
      → ShowsNow cspace slot
  filled_by cspace slot row is (inl left) =
      let alive : lives (replay conf.boot history).objects cspace ≡ true = filled_lives (replay conf.boot history) follows.now_valid cspace slot row is in
      let was : Fills (present conf) cspace slot row = sym (ap (λ (word : Word). word.row) (left.same cspace refl alive)) ∙ is in
      left_shows cspace slot (filled_made (present conf) follows.was_valid cspace slot row was) alive left (words.filled cspace slot row was)
  filled_by cspace slot row is (inr put) =
      put_shows cspace slot (filled_lives (replay conf.boot history) follows.now_valid cspace slot row is) put

  attached_by : (cpu slot : ℕ) (row : CpuRow)
      → cpu_row (replay conf.boot history) cpu ≡ Some row → row.exited ≡ false
      → IsLeft conf (replay conf.boot history) index cap (index row.cspace.0) slot
      ⊎ IsPut (replay conf.boot history) index cap (index row.cspace.0) slot
      → ShowsNow row.cspace.0 slot
  attached_by cpu slot row is runs (inl left) =
      let was : cpu_row (present conf) cpu ≡ Some row = follows.runs cpu row is runs in
      let before : SpacesLive (present conf) row = spaces_live (present conf) follows.was_valid cpu row was runs in
      let behind : SpacesLive (replay conf.boot history) row = spaces_live (replay conf.boot history) follows.now_valid cpu row is runs in
      left_shows row.cspace.0 slot
      (lives_made (present conf).objects (present conf).next_serial follows.was_valid.objects row.cspace.0 kind.Cspace before.cspace)
      (lives_any (replay conf.boot history).objects row.cspace.0 kind.Cspace behind.cspace) left (words.attached cpu slot row was runs)
  attached_by cpu slot row is runs (inr put) =
      let behind : SpacesLive (replay conf.boot history) row = spaces_live (replay conf.boot history) follows.now_valid cpu row is runs in
      put_shows row.cspace.0 slot (lives_any (replay conf.boot history).objects row.cspace.0 kind.Cspace behind.cspace) put

  abbrev NoneNow : ℕ → ℕ → Type 0
  NoneNow at slot = (cspace : ℕ) → index cspace ≡ at
      → (word_at (replay conf.boot history) cspace slot).row ≡ None

  -- where nothing at an index has the slot filled, nothing had
  none_by : (at slot cspace : ℕ) (found : Option CapabilityRow)
      → (word_at (present conf) cspace slot).row ≡ found → conf.index cspace ≡ at
      → IsLeft conf (replay conf.boot history) index cap at slot → NoneNow at slot
      → (word_at (present conf) cspace slot).row ≡ None
  none_by at slot cspace None is there left none = is
  none_by at slot cspace (Some row) is there left none =
      let here : index cspace ≡ at = follows.kept cspace (filled_made (present conf) follows.was_valid cspace slot row is) ∙ there in
      sym (ap (λ (word : Word). word.row) (left.same cspace here (follows.stays cspace slot row is))) ∙ none cspace here

  empty_by : (at slot : ℕ) → NoneNow at slot
      → IsLeft conf (replay conf.boot history) index cap at slot
      ⊎ IsPut (replay conf.boot history) index cap at slot
      → (cap at slot).0 < settings
  empty_by at slot none (inl left) =
      let was : (conf.cap at slot).0 < settings = words.empty at slot (λ cspace there. none_by at slot cspace (word_at (present conf) cspace slot).row refl there left none) in
      omega (arith, ap (λ (word : CapWord). word.0) left.word, was)
  empty_by at slot none (inr put) = put.small (none put.cspace put.here)

  -- the words are those of the state behind the entry
  pub words_follow : (turn : Option Holder) → ShowsWords (with_log conf history index turn cap)
  words_follow turn = record {
    filled = λ cspace slot row is. filled_by cspace slot row is (follows.words (index cspace) slot);
    attached = λ cpu slot row is runs. attached_by cpu slot row is runs (follows.words (index row.cspace.0) slot);
    empty = λ at slot none. empty_by at slot none (follows.words at slot);
    within = follows.within;
  }
