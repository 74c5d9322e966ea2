-- What a slot holds, and what a look at it answers.
use Rattle.std.specs.Prelude.{◌≡◌, ◌==◌, ◌&&◌, ◌||◌, ◌<◌}
use Rattle.std.specs.Prelude.{ℕ, Bool, true, not, Option, Some, None, Result}
use Rattle.std.specs.Prelude.{Ok, Err, find, bit_and, nat_le, if◌then◌else◌}
use Rattle.gh_base.specs.CapWord.{filled_bits}
use Rattle.gh_base.specs.Kind.{kind_number}
use Rattle.gh_base.specs.declared.cap_word.CapWord.{CapWord}
use Rattle.gh_base.specs.declared.limits.TheConstants.{OBJECT_INDICES}
use Rattle.gh_base.specs.declared.cap_word.Need.{Need}
use Rattle.gh_base.specs.declared.kind.Kind.{Kind}
use Rattle.gh_base.specs.declared.ids.Serial.{Serial}
use Rattle.gh_base.specs.declared.errno.Errno.{Errno}
use Rattle.gh_base.specs.declared.errno.Errno.TheVariants.{CapNull, CapRevoked}
use Rattle.gh_base.specs.declared.errno.Errno.TheVariants.{WrongType, InsufRights}
use Rattle.gh_model.specs.declared.rows.CapabilityRow.{CapabilityRow}
use Rattle.gh_model.specs.declared.rows.SetAtRow.{SetAtRow}
use Rattle.gh_model.specs.declared.state.State.{State}
use Rattle.gh_model.specs.declared.word.Word.{Word}
use Rattle.gh_model.specs.Rows.{fills, tells_setting}

-- the number of the entry that set the slot, 0 where none did
abbrev pub setting_number : Option SetAtRow → ℕ
setting_number None = 0
setting_number (Some row) = row.number

-- the number of the entry that set a slot
abbrev pub setting : State → ℕ → ℕ → ℕ
setting s cspace slot = setting_number (find (tells_setting cspace slot) s.set_at)

-- whether a capability number names a slot
abbrev pub is_slot : ℕ → Bool
is_slot slot = nat_le 1 slot && nat_le slot 127

-- the slot's capability and the entry that set it; a number that names no slot is an empty word
-- that none set
abbrev pub word_at : State → ℕ → ℕ → Word
word_at s cspace slot =
    if is_slot slot
    then record { row = find (fills cspace slot) s.caps; set_at = setting s cspace slot }
    else record { row = None; set_at = 0 }

-- the object is of the kind that is needed, or any will do
abbrev pub kind_fits : Option Kind → Kind → Bool
kind_fits None kind = true
kind_fits (Some needed) kind = kind_number needed == kind_number kind

-- every right that is needed is there
abbrev pub rights_fit : ℕ → ℕ → Bool
rights_fit needed rights = bit_and needed rights == needed

-- what a filled slot answers: it is revoked, of another kind, lacks a right or the master mark, or
-- grants its object
abbrev pub grant_reply : CapabilityRow → Need → Result Serial Errno
grant_reply row need =
    if not row.valid then Err CapRevoked
    else (if not (kind_fits need.kind row.kind) then Err WrongType
    else (if not (rights_fit need.rights.0 row.rights.0) || (need.master && not row.master)
    then Err InsufRights
    else Ok row.serial))

-- what a slot answers; an empty one grants nothing
abbrev pub slot_reply : Option CapabilityRow → Need → Result Serial Errno
slot_reply None need = Err CapNull
slot_reply (Some row) need = grant_reply row need

-- what a word answers to a need
abbrev pub look_reply : Word → Need → Result Serial Errno
look_reply word need = slot_reply word.row need

-- the 64 bits are those of a filled slot with this row and some object index, which rows don't
-- have. An index is below 1,024
pub record ShowsFilled (bits : ℕ) (row : CapabilityRow) (set_at : ℕ) : Type 0 where
  pub object : ℕ
  pub is_index : object < OBJECT_INDICES
  pub bits_are : bits ≡ filled_bits row.valid row.kind row.master object row.rights.0 set_at

-- an empty slot's bits are its setting
abbrev pub ShowsRow : ℕ → Option CapabilityRow → ℕ → Type 0
ShowsRow bits None set_at = bits ≡ set_at
ShowsRow bits (Some row) set_at = ShowsFilled bits row set_at

-- the bits of a capability word show what the word says
abbrev pub Shows : CapWord → Word → Type 0
Shows bits word = ShowsRow bits.0 word.row word.set_at

-- the 64 bits of a word, with object index 0, since rows have serials in place of indices
abbrev pub row_bits : ℕ → Option CapabilityRow → ℕ
row_bits set_at None = set_at
row_bits set_at (Some row) = filled_bits row.valid row.kind row.master 0 row.rights.0 set_at

-- a word as the bits of a capability word
abbrev pub bits_of : Word → CapWord
bits_of word = record { 0 = row_bits word.set_at word.row }
