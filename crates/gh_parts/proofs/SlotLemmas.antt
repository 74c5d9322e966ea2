-- The slots of a capability space in the list of all.
use Rattle.std.proofs.Common.{◌≡◌, ◌∙◌, ℕ, List, [], ◌-◌, Option, Some, None, sym, ap, find, get_or, position}
use Rattle.std.specs.Option.{option_map_or}
use Rattle.std.proofs.lemmas.List.{set-set}
use Rattle.gh_parts.proofs.FoundRows.{placed_found, unplaced_none}
use Rattle.gh_base.specs.declared.cap_word.CapWord.{CapWord}
use Rattle.gh_base.specs.CapWord.{revoked_bits}
use Rattle.gh_cspace.specs.Cspace.{empty_word, revoked_word, with_word, word_at}
use Rattle.gh_parts.specs.Slots.{emptied, granted_by, granted_in, is_home, revoked, set_at_by, set_at_in, words_of}
use Rattle.gh_parts.specs.declared.slots.Slots.{Slots}

-- the slots at the place of a capability space are found
pub found_home : (all : List Slots) (cspace at : ℕ) (d : Slots) → position (is_home cspace) all ≡ Some at
    → find (is_home cspace) all ≡ Some (get_or all at d)
found_home all cspace at d is = placed_found (is_home cspace) all at d is

-- and have its words
pub words_at_home : (all : List Slots) (cspace at : ℕ) (d : Slots) → position (is_home cspace) all ≡ Some at
    → words_of all cspace ≡ (get_or all at d).words
words_at_home all cspace at d is =
    ap (λ (o : Option Slots). option_map_or (λ (slots : Slots). slots.words) o []) (found_home all cspace at d is)

word_of_bits : (word other : CapWord) → word.0 ≡ other.0 → word ≡ other
word_of_bits word other same = ap (λ (bits : ℕ). record { 0 = bits }) same

-- a revoked word that is put over an empty one
pub revoked_over : (slot entry : ℕ) (slots empty : Slots) (word new : CapWord) (words : List CapWord)
    → word ≡ word_at slots.words slot → empty ≡ emptied slot entry slots
    → new.0 ≡ revoked_bits word.0 entry → words ≡ with_word empty.words slot new
    → record empty { words = words } ≡ revoked slot entry slots
revoked_over slot entry slots empty word new words was without bits put =
    let now : new ≡ revoked_word (word_at slots.words slot) entry =
    word_of_bits new _ (bits ∙ ap (λ (w : CapWord). revoked_bits w.0 entry) was) in
    let all : words ≡ with_word slots.words slot (revoked_word (word_at slots.words slot) entry) =
    put ∙ ap (λ (s : Slots). with_word s.words slot new) without
    ∙ set-set slots.words (slot - 1) (empty_word entry) new
    ∙ ap (with_word slots.words slot) now in
    ap (λ (s : Slots). record s { words = words }) without
    ∙ ap (λ (ws : List CapWord). record slots { words = ws }) all

-- the number that set a slot at a place of the list
pub set_at_home : (all : List Slots) (cspace slot at : ℕ) (d : Slots) → position (is_home cspace) all ≡ Some at
    → set_at_in slot (get_or all at d) ≡ set_at_by slot (find (is_home cspace) all)
set_at_home all cspace slot at d is = ap (set_at_by slot) (sym (found_home all cspace at d is))

pub set_at_none : (all : List Slots) (cspace slot : ℕ) → position (is_home cspace) all ≡ None
    → 0 ≡ set_at_by slot (find (is_home cspace) all)
set_at_none all cspace slot none = ap (set_at_by slot) (sym (unplaced_none (is_home cspace) all none))

-- the object of the valid capability at a place of the list
pub granted_home : (all : List Slots) (cspace slot at : ℕ) (d : Slots) → position (is_home cspace) all ≡ Some at
    → granted_in slot (get_or all at d) ≡ granted_by slot (find (is_home cspace) all)
granted_home all cspace slot at d is = ap (granted_by slot) (sym (found_home all cspace at d is))

-- and where there is no such space
pub granted_none : (all : List Slots) (cspace slot : ℕ) → position (is_home cspace) all ≡ None
    → None ≡ granted_by slot (find (is_home cspace) all)
granted_none all cspace slot none = ap (granted_by slot) (sym (unplaced_none (is_home cspace) all none))
