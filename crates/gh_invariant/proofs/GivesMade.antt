-- No call gives a reference to an object that lives and has none.
use Rattle.std.proofs.Common.{◌≡◌, ◌+◌, ℕ, Bool, true, false, not, [], ◌∷◌, ◌++◌, length, refl, Option, Some, None, IsTrue, if◌then◌else◌}
use Rattle.std.specs.Prelude.{◌||◌, ◌==◌, nat_lt, nat_le, count_by}
use Rattle.std.specs.List.{list_all, list_any}
use Rattle.std.proofs.lemmas.Bool.{and_parts, and_from}
use Rattle.gh_base.specs.declared.errno.Errno.TheVariants.{AddrInval, AddrOvfl, ArgInval, ArgSize, Busy, CapRevoked, Denied, InsufRights, Nomem, ObjConfig, Retry}
use Rattle.gh_base.specs.declared.ids.Serial.{Serial}
use Rattle.gh_base.specs.declared.kind.Kind.{Kind}
use Rattle.gh_model.specs.CapabilityCalls.{caps_revoke, copied, copied_into, deleted, free_slot, is_finished, is_valid_of, revoked}
use Rattle.gh_model.specs.Boot.{access_fits, is_row_of, overlaps, serial_of}
use Rattle.gh_model.specs.Decisions.{done_with, is_init_stage}
use Rattle.gh_model.specs.MemoryCalls.{are_related, derived, donated, donated_to, holds_run, is_within_span, mapped, meant_count, meant_offset, page_of, unmapped, unmapped_row}
use Rattle.gh_model.specs.ObjectCalls.{activated, created, created_in, lacks_room, quota_given, room_cost, room_given}
use Rattle.gh_model.specs.Units.{free_units}
use Rattle.gh_model.specs.Word.{word_at}
use Rattle.gh_model.specs.declared.change.Decision.TheVariants.{Make, Unfinished}
use Rattle.gh_model.specs.declared.rows.CapabilityRow.{CapabilityRow}
use Rattle.gh_model.specs.declared.rows.ExtentRow.{ExtentRow}
use Rattle.gh_model.specs.declared.rows.MappingRow.{MappingRow}
use Rattle.gh_model.specs.declared.rows.ObjectRow.{ObjectRow}
use Rattle.gh_model.specs.declared.rows.PartitionRow.{PartitionRow}
use Rattle.gh_model.specs.declared.state.State.{State}
use Rattle.gh_invariant.specs.Grants.{GivesToReferred, is_referred}
use Rattle.gh_invariant.proofs.CapabilityMade.{word_found}
use Rattle.gh_invariant.proofs.Referred.{capability_refers, gives_provided, gives_unless, not_made}

-- lists of one and two
one_referred : (s : State) (a : Serial) → IsTrue (is_referred s a) → IsTrue (list_all (is_referred s) (a ∷ []))
one_referred s a first = and_from _ _ first refl

two_referred : (s : State) (a b : Serial) → IsTrue (is_referred s a) → IsTrue (is_referred s b) → IsTrue (list_all (is_referred s) (a ∷ b ∷ []))
two_referred s a b first second = and_from _ _ first (one_referred s b second)

module _ (s : State) where
  -- capabilities

  copied_into_gives : (row : CapabilityRow) (cspace : Serial) (mask : ℕ) (slot : Option ℕ)
      → IsTrue (is_referred s cspace) → IsTrue (is_referred s row.serial) → GivesToReferred s (copied_into row cspace mask slot)
  copied_into_gives row cspace mask None home object = tt
  copied_into_gives row cspace mask (Some slot) home object = named row.valid
    where
      named : (valid : Bool) → IsTrue (list_all (is_referred s) ((cspace ∷ (if valid then row.serial ∷ [] else [])) ++ []))
      named true = two_referred s cspace row.serial home object
      named false = one_referred s cspace home

  pub copied_gives : (cspace object : Serial) (mask caller source : ℕ) (found : Option CapabilityRow)
      → (word_at s caller source).row ≡ found → IsTrue (is_referred s cspace) → GivesToReferred s (copied s cspace object mask found)
  copied_gives cspace object mask caller source None is home = tt
  copied_gives cspace object mask caller source (Some row) is home =
      gives_provided s (is_valid_of object row) Retry (copied_into row cspace mask (free_slot s cspace.0)) (λ valid_of.
      let good : (row.valid ≡ true) × ((row.serial.0 == object.0) ≡ true) = and_parts _ _ valid_of in
      copied_into_gives row cspace mask (free_slot s cspace.0) home
      (capability_refers s caller source row (word_found s caller source row is) good.0))

  pub deleted_gives : (found : Option CapabilityRow) → GivesToReferred s (deleted found)
  deleted_gives None = tt
  deleted_gives (Some row) = refl

  pub revoked_gives : (found : Option CapabilityRow) → GivesToReferred s (revoked found)
  revoked_gives None = tt
  revoked_gives (Some row) =
      gives_unless s (not row.valid) CapRevoked _ (λ good. gives_unless s row.master InsufRights _ (λ plain. refl))

  pub caps_revoke_gives : (object : Serial) → GivesToReferred s (caps_revoke s object)
  caps_revoke_gives object = by_end (is_finished s object) (length s.taken)
    where
      by_end : (finished : Bool) (n : ℕ) → GivesToReferred s (if finished then Make [] (done_with n) else Unfinished)
      by_end true n = refl
      by_end false n = tt

  -- objects

  created_in_gives : (partition cspace : Serial) (k : Kind) (slot : Option ℕ)
      → IsTrue (is_referred s partition) → IsTrue (is_referred s cspace) → GivesToReferred s (created_in s partition cspace k slot)
  created_in_gives partition cspace k None owner home = tt
  created_in_gives partition cspace k (Some slot) owner home =
      gives_unless s (lacks_room s partition k) Nomem _ (λ roomy. named (partition.0 == s.next_serial))
    where
      new : IsTrue (is_referred s (serial_of s.next_serial))
      new = not_made s (serial_of s.next_serial) refl

      named : (own : Bool) → IsTrue (list_all (is_referred s) ((if own then [] else partition ∷ []) ++ cspace ∷ serial_of s.next_serial ∷ []))
      named true = two_referred s cspace (serial_of s.next_serial) home new
      named false = and_from _ _ owner (two_referred s cspace (serial_of s.next_serial) home new)

  pub created_gives : (partition cspace : Serial) (k : Option Kind)
      → IsTrue (is_referred s partition) → IsTrue (is_referred s cspace) → GivesToReferred s (created s partition cspace k)
  created_gives partition cspace None owner home = tt
  created_gives partition cspace (Some k) owner home = created_in_gives partition cspace k (free_slot s cspace.0) owner home

  pub quota_gives : (partition : Serial) (quota : ℕ) (row : Option PartitionRow) → GivesToReferred s (quota_given s partition quota row)
  quota_gives partition quota None = tt
  quota_gives partition quota (Some row) = gives_unless s (nat_lt (free_units s row.parent.0) quota) Nomem _ (λ enough. refl)

  pub room_gives : (queue : Serial) (depth size : ℕ) (row : Option ObjectRow) → GivesToReferred s (room_given s queue depth size row)
  room_gives queue depth size None = tt
  room_gives queue depth size (Some row) =
      gives_unless s (nat_lt (free_units s row.partition.0) (room_cost depth size)) Nomem _ (λ enough. refl)

  pub activated_gives : (object : Serial) (row : Option ObjectRow) → GivesToReferred s (activated object row)
  activated_gives object None = tt
  activated_gives object (Some row) = gives_unless s (is_init_stage row.stage) ObjConfig _ (λ configured. refl)

  -- memory

  pub mapped_gives : (space extent : Serial) (base access flags offset size : ℕ) (row : Option ExtentRow)
      → IsTrue (is_referred s space) → IsTrue (is_referred s extent) → GivesToReferred s (mapped s space extent base access flags offset size row)
  mapped_gives space extent base access flags offset size None home pages = tt
  mapped_gives space extent base access flags offset size (Some row) home pages =
      gives_unless s (nat_lt 4096 (page_of base + meant_count row flags size)) AddrOvfl _ (λ within.
      gives_unless s (nat_lt row.count (meant_offset flags offset + meant_count row flags size)) ArgSize _ (λ spans.
      gives_unless s (not (access_fits access row.access.0)) Denied _ (λ allowed.
      gives_unless s (list_any (overlaps space.0 (page_of base) (meant_count row flags size)) s.mappings) Busy _ (λ apart.
      gives_unless s (nat_le 64 (count_by (is_row_of space.0) s.mappings)) Nomem _ (λ few. two_referred s space extent home pages)))))

  unmapped_row_gives : (row : Option MappingRow) → GivesToReferred s (unmapped_row row)
  unmapped_row_gives None = tt
  unmapped_row_gives (Some row) = refl

  pub unmapped_gives : (space extent : Serial) (base flags offset size : ℕ) (row : Option ExtentRow)
      → GivesToReferred s (unmapped s space extent base flags offset size row)
  unmapped_gives space extent base flags offset size None = tt
  unmapped_gives space extent base flags offset size (Some row) = unmapped_row_gives _

  pub derived_gives : (child parent : Serial) (offset size access : ℕ) (row : Option ExtentRow)
      → IsTrue (is_referred s child) → IsTrue (is_referred s parent) → GivesToReferred s (derived s child parent offset size access row)
  derived_gives child parent offset size access None new old = tt
  derived_gives child parent offset size access (Some row) new old =
      gives_unless s (nat_lt row.count (page_of offset + page_of size)) ArgSize _ (λ spans.
      gives_unless s (not (holds_run s.holders parent (row.first.0 + page_of offset) (page_of size)) || not (access_fits access row.access.0)) Denied _ (λ allowed.
      named (parent.0 == 0)))
    where
      named : (root : Bool) → IsTrue (list_all (is_referred s) ((if root then child ∷ [] else parent ∷ []) ++ []))
      named true = one_referred s child new
      named false = one_referred s parent old

  donated_to_gives : (relation offset count : ℕ) (giver : ExtentRow) (receiver : Option ExtentRow)
      → GivesToReferred s (donated_to s relation offset count giver receiver)
  donated_to_gives relation offset count giver None = tt
  donated_to_gives relation offset count giver (Some receiver) =
      gives_unless s (not (are_related relation giver receiver)) ArgInval _ (λ related.
      gives_unless s (not (is_within_span receiver (giver.first.0 + offset) count)) AddrInval _ (λ within.
      gives_unless s (not (holds_run s.holders giver.serial (giver.first.0 + offset) count)) Denied _ (λ held. refl)))

  pub donated_gives : (relation : ℕ) (receiver : Serial) (offset count : ℕ) (giver : Option ExtentRow)
      → GivesToReferred s (donated s relation receiver offset count giver)
  donated_gives relation receiver offset count None = tt
  donated_gives relation receiver offset count (Some giver) = donated_to_gives relation offset count giver _
