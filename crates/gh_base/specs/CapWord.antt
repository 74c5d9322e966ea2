-- A capability word as its fields, from the top bit down: state 2 bits, kind 3, master mark 1,
-- object index 10, rights 16, number of the entry that set the word 32.
use Rattle.std.specs.Prelude.{◌==◌, ℕ, ◌+◌, ◌*◌, ◌/◌, ◌%◌, Bool}
use Rattle.std.specs.Prelude.{false, Option, Some, None, bit_and, if◌then◌else◌}
use Rattle.gh_base.specs.Kind.{kind_number, kind_numbered}
use Rattle.gh_base.specs.declared.kind.Kind.{Kind}
use Rattle.gh_base.specs.declared.limits.TheConstants.{OBJECT_INDICES}
use Rattle.gh_base.specs.declared.cap_word.CapState.{CapState}
use Rattle.gh_base.specs.declared.cap_word.CapState.TheVariants.{Empty, Valid, Revoked}

-- what a capability word says
pub record CapFields : Type 0 where
  pub state : CapState
  pub kind : Option Kind
  pub master : Bool
  pub object : ℕ
  pub rights : ℕ
  pub set_at : ℕ

-- the number of a state
abbrev pub state_number : CapState → ℕ
state_number Empty = 0
state_number Valid = 1
state_number Revoked = 2

-- the state of a number; 3 is never written and grants nothing
abbrev pub state_numbered : ℕ → CapState
state_numbered n = if n == 0 then Empty else (if n == 1 then Valid else Revoked)

-- how many values each field has, below the state
abbrev pub kinds : ℕ
kinds = 8

-- how many values the master mark has
abbrev pub marks : ℕ
marks = 2

-- how many object indices there are
abbrev pub indices : ℕ
indices = OBJECT_INDICES

-- how many values the rights have, 16 bits of them
abbrev pub rights_values : ℕ
rights_values = 65536

-- how many values the number of the entry that set the word has, 32 bits of it
abbrev pub settings : ℕ
settings = 4294967296

-- six numbers, each in its place
abbrev pub packed : ℕ → ℕ → ℕ → ℕ → ℕ → ℕ → ℕ
packed state kind master object rights entry =
    ((((state * kinds + kind) * marks + master) * indices + object) * rights_values + rights)
    * settings + entry

-- the number of each field of a word, read from its place
abbrev pub state_number_of : ℕ → ℕ
state_number_of w = w / settings / rights_values / indices / marks / kinds

-- the number of a word's kind
abbrev pub kind_number_of : ℕ → ℕ
kind_number_of w = w / settings / rights_values / indices / marks % kinds

-- the number of a word's master mark
abbrev pub master_number_of : ℕ → ℕ
master_number_of w = w / settings / rights_values / indices % marks

-- the object index in a word
abbrev pub object_of : ℕ → ℕ
object_of w = w / settings / rights_values % indices

-- the rights in a word
abbrev pub rights_of : ℕ → ℕ
rights_of w = w / settings % rights_values

-- the number of the entry that set a word
abbrev pub set_at_of : ℕ → ℕ
set_at_of w = w % settings

-- what the numbers of a word say
abbrev pub state_of : ℕ → CapState
state_of w = state_numbered (state_number_of w)

-- the kind in a word, if its number is a kind's
abbrev pub kind_of : ℕ → Option Kind
kind_of w = kind_numbered (kind_number_of w)

-- the word is the master capability
abbrev pub master_of : ℕ → Bool
master_of w = master_number_of w == 1

-- all fields of a word
abbrev pub fields_of : ℕ → CapFields
fields_of w = record {
  state = state_of w;
  kind = kind_of w;
  master = master_of w;
  object = object_of w;
  rights = rights_of w;
  set_at = set_at_of w;
}

-- the fields of an empty slot set by an entry
abbrev pub empty_fields : ℕ → CapFields
empty_fields entry = record {
  state = Empty;
  kind = None;
  master = false;
  object = 0;
  rights = 0;
  set_at = entry;
}

-- the fields of a word made of six numbers
abbrev pub numbered_fields : ℕ → ℕ → ℕ → ℕ → ℕ → ℕ → CapFields
numbered_fields state kind master object rights entry = record {
  state = state_numbered state;
  kind = kind_numbered kind;
  master = master == 1;
  object = object;
  rights = rights;
  set_at = entry;
}

-- a filled slot, valid or revoked
abbrev pub filled_state : Bool → CapState
filled_state valid = if valid then Valid else Revoked

-- the fields of a filled word, which an entry set
abbrev pub filled_fields : Bool → Kind → Bool → ℕ → ℕ → ℕ → CapFields
filled_fields valid kind master object rights entry = record {
  state = filled_state valid;
  kind = Some kind;
  master = master;
  object = object;
  rights = rights;
  set_at = entry;
}

-- the number of a master mark
abbrev pub mark_number : Bool → ℕ
mark_number master = if master then 1 else 0

-- the bits of a filled word, which an entry set
abbrev pub filled_bits : Bool → Kind → Bool → ℕ → ℕ → ℕ → ℕ
filled_bits valid kind master object rights entry =
    packed (state_number (filled_state valid)) (kind_number kind) (mark_number master)
    object rights entry

-- the bits of a word that an entry revoked: state 2 and the entry's number, all else as it was
abbrev pub revoked_bits : ℕ → ℕ → ℕ
revoked_bits w entry =
    packed (state_number Revoked) (kind_number_of w) (master_number_of w)
    (object_of w) (rights_of w) entry

-- the bits of a copy: the rights that the mask leaves, no master mark, the entry's number, all else
-- as it was
abbrev pub masked_bits : ℕ → ℕ → ℕ → ℕ
masked_bits w mask entry =
    packed (state_number_of w) (kind_number_of w) 0 (object_of w) (bit_and (rights_of w) mask) entry

-- the fields of a word that an entry revoked
abbrev pub revoked_fields : ℕ → ℕ → CapFields
revoked_fields w entry = record (fields_of w) { state = Revoked; set_at = entry }

-- the fields of a copy
abbrev pub masked_fields : ℕ → ℕ → ℕ → CapFields
masked_fields w mask entry =
    record (fields_of w) { master = false; rights = bit_and (rights_of w) mask; set_at = entry }
