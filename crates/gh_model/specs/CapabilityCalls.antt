-- What the calls on capabilities come to: their own refusals in order, and their changes.
use Rattle.std.specs.Prelude.{◌==◌, ◌&&◌, ◌||◌, not, ℕ, Bool, true}
use Rattle.std.specs.Prelude.{false, List, [], ◌∷◌, length, Option, Some}
use Rattle.std.specs.Prelude.{None, find, nat_lt, bit_and, if◌then◌else◌}
use Rattle.std.specs.List.{list_any, list_all, range_with_len}
use Rattle.gh_base.specs.declared.errno.Errno.TheVariants.{CapNull, CapRevoked}
use Rattle.gh_base.specs.declared.errno.Errno.TheVariants.{CspaceFull, InsufRights, Retry}
use Rattle.gh_base.specs.declared.ids.Serial.{Serial}
use Rattle.gh_model.specs.declared.change.Decision.{Decision}
use Rattle.gh_model.specs.declared.change.Decision.TheVariants.{Refuse, Unfinished, Make}
use Rattle.gh_model.specs.declared.change.Change.TheVariants.{PutCapability, DropCapability}
use Rattle.gh_model.specs.declared.change.Change.TheVariants.{RevokeCapability}
use Rattle.gh_model.specs.declared.rows.CapabilityRow.{CapabilityRow}
use Rattle.gh_model.specs.declared.rows.TakenSlot.{TakenSlot}
use Rattle.gh_model.specs.declared.state.State.{State}
use Rattle.gh_model.specs.Boot.{cpu_cspace}
use Rattle.gh_model.specs.Decisions.{done, done_with, make_one}
use Rattle.gh_model.specs.Rows.{fills}
use Rattle.gh_model.specs.Word.{word_at}

-- the least free slot of a capability space
abbrev pub is_empty_slot : List CapabilityRow → ℕ → ℕ → Bool
is_empty_slot caps cspace slot = not (list_any (fills cspace slot) caps)

-- the least slot of a space that no row fills, if there is one
abbrev pub least_free : List CapabilityRow → ℕ → Option ℕ
least_free caps cspace = find (is_empty_slot caps cspace) (range_with_len 1 127)

-- the least free slot of a space
abbrev pub free_slot : State → ℕ → Option ℕ
free_slot s cspace = least_free s.caps cspace

-- cap_copy: a capability with the source's rights and the mask, without master mark, in the least
-- free slot. The source is looked up in the caller's capability space
abbrev pub copy_of : CapabilityRow → Serial → ℕ → ℕ → CapabilityRow
copy_of row cspace slot mask = record row {
  cspace = cspace;
  slot = slot;
  rights = record { 0 = bit_and row.rights.0 mask };
  master = false;
}

-- the copy of a row into a slot, which is the reply; CspaceFull where there is none
abbrev pub copied_into : CapabilityRow → Serial → ℕ → Option ℕ → Decision
copied_into row cspace mask None = Refuse CspaceFull
copied_into row cspace mask (Some slot) =
    make_one (PutCapability (copy_of row cspace slot mask)) (done_with slot)

-- the row is a valid capability of the object
abbrev pub is_valid_of : Serial → CapabilityRow → Bool
is_valid_of object row = row.valid && (row.serial.0 == object.0)

-- the copy of a row: Retry where it is no longer a valid capability of the object that was looked
-- up
abbrev pub copied : State → Serial → Serial → ℕ → Option CapabilityRow → Decision
copied s cspace object mask None = Refuse Retry
copied s cspace object mask (Some row) =
    if is_valid_of object row then copied_into row cspace mask (free_slot s cspace.0)
    else Refuse Retry

-- cap_copy: what the source slot has now is copied, with the rights that the mask leaves
abbrev pub cap_copy : State → ℕ → Serial → Serial → ℕ → ℕ → Decision
cap_copy s cpu cspace object source mask =
    copied s cspace object mask (word_at s (cpu_cspace s.cpus cpu) source).row

-- cap_delete: the slot is emptied. It is 50 where it is empty, or is no slot
abbrev pub deleted : Option CapabilityRow → Decision
deleted None = Refuse CapNull
deleted (Some row) = make_one (DropCapability row.cspace row.slot) done

-- cap_delete: the slot is emptied
abbrev pub cap_delete : State → Serial → ℕ → Decision
cap_delete s cspace slot = deleted (word_at s cspace.0 slot).row

-- cap_revoke: the slot is revoked. It is 50 as above, 51 where it is revoked, 53 where it is a
-- master
abbrev pub revoked : Option CapabilityRow → Decision
revoked None = Refuse CapNull
revoked (Some row) =
    if not row.valid then Refuse CapRevoked
    else (if row.master then Refuse InsufRights
    else make_one (RevokeCapability row.cspace row.slot) done)

-- cap_revoke: the slot is revoked
abbrev pub cap_revoke : State → Serial → ℕ → Decision
cap_revoke s cspace slot = revoked (word_at s cspace.0 slot).row

-- caps_revoke: done where no valid capability of the object without master mark is left, and the
-- slots that were taken are of this object alone, rising

-- a valid capability of the object without master mark
abbrev pub is_left : Serial → CapabilityRow → Bool
is_left object row = row.valid && not row.master && (row.serial.0 == object.0)

-- the slot's capability is of the object
abbrev pub names : Serial → Option CapabilityRow → Bool
names object None = false
names object (Some row) = row.serial.0 == object.0

-- the slot that was taken had a capability of the object
abbrev pub is_taken_of : State → Serial → TakenSlot → Bool
is_taken_of s object taken = names object (find (fills taken.cspace.0 taken.slot) s.caps)

-- a slot stands before another: by capability space, and then by number
abbrev pub is_before : TakenSlot → TakenSlot → Bool
is_before a b = nat_lt a.cspace.0 b.cspace.0 || ((a.cspace.0 == b.cspace.0) && nat_lt a.slot b.slot)

-- each slot comes behind the one before, the first of them behind this one
abbrev pub rises_from : TakenSlot → List TakenSlot → Bool
rises_from last [] = true
rises_from last (next ∷ others) = is_before last next && rises_from next others

-- each slot comes behind the one before
abbrev pub rises : List TakenSlot → Bool
rises [] = true
rises (first ∷ others) = rises_from first others

-- no capability of the object is left to revoke, and the slots that were taken are its own, rising
abbrev pub is_finished : State → Serial → Bool
is_finished s object =
    not (list_any (is_left object) s.caps) && list_all (is_taken_of s object) s.taken
    && rises s.taken

-- caps_revoke: once it is finished, the reply has the number of slots that were revoked
abbrev pub caps_revoke : State → Serial → Decision
caps_revoke s object =
    if is_finished s object then Make [] (done_with (length s.taken)) else Unfinished
