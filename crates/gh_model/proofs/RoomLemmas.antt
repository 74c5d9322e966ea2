-- What changes add to the counts of the state.
use Rattle.std.proofs.Common.{◌≡◌, ◌+◌, ◌<◌, ◌∙◌, ℕ, List, [], ◌∷◌, Some, refl, subst, sym, ap, arith, slice_get, sum_by}
use Rattle.std.specs.List.{remove}
use Rattle.std.proofs.lemmas.List.Sums.{sum_by-cons}
use Rattle.gh_base.specs.declared.limits.TheConstants.{HISTORY_ENTRIES}
use Rattle.gh_model.specs.declared.change.Change.{Change}
use Rattle.gh_model.specs.declared.change.Change.TheVariants.{PutCapability, DropCapability, RevokeCapability, AddObject, SetStage, Retire, Reclaim, GiveQuota, AddExtent, MovePages, PutMapping, DropMapping, SetBell, ConfigureQueue, PutMessage, DropMessage, EmptyQueue, Exit, Ring, SetPages, AddPartition, AddRoot, SetRoom, FillSlot, AddCpu, AddLink}
use Rattle.gh_model.specs.declared.state.State.{State}
use Rattle.gh_model.specs.Changes.{changed, changed_all}
use Rattle.gh_model.specs.Room.{HasRoom, new_rings, new_serials, new_settings}

-- the first of a list and what is left behind it
pub removed_first : {X : Type 0} (xs ys : List X) (x : X) → slice_get xs 0 ≡ Some x → ys ≡ remove xs 0 → xs ≡ x ∷ ys
removed_first [] ys x is left = absurd (let never : ⊥ = cc in never)
removed_first (y ∷ xs) ys x is left = let same : y ≡ x = cc in cc

-- a change makes no entry, adds its serials and rings, and leaves what is taken and parcels
pub record Counts (s new : State) (change : Change) : Type 0 where
  pub entries : new.entries ≡ s.entries
  pub serials : new.next_serial ≡ s.next_serial + new_serials change
  pub rings : new.rings ≡ s.rings + new_rings change
  pub taken : new.taken ≡ s.taken
  pub parcels : new.parcels ≡ s.parcels

pub change_counts : (s : State) (change : Change) → Counts s (changed s change) change
change_counts s (PutCapability row) = record { entries = refl; serials = omega arith; rings = omega arith; taken = refl; parcels = refl }
change_counts s (DropCapability cspace slot) = record { entries = refl; serials = omega arith; rings = omega arith; taken = refl; parcels = refl }
change_counts s (RevokeCapability cspace slot) = record { entries = refl; serials = omega arith; rings = omega arith; taken = refl; parcels = refl }
change_counts s (AddObject row) = record { entries = refl; serials = omega arith; rings = omega arith; taken = refl; parcels = refl }
change_counts s (SetStage object stage) = record { entries = refl; serials = omega arith; rings = omega arith; taken = refl; parcels = refl }
change_counts s (Retire object seen) = record { entries = refl; serials = omega arith; rings = omega arith; taken = refl; parcels = refl }
change_counts s (Reclaim object) = record { entries = refl; serials = omega arith; rings = omega arith; taken = refl; parcels = refl }
change_counts s (GiveQuota partition quota) = record { entries = refl; serials = omega arith; rings = omega arith; taken = refl; parcels = refl }
change_counts s (AddExtent row) = record { entries = refl; serials = omega arith; rings = omega arith; taken = refl; parcels = refl }
change_counts s (MovePages first count holder) = record { entries = refl; serials = omega arith; rings = omega arith; taken = refl; parcels = refl }
change_counts s (PutMapping row) = record { entries = refl; serials = omega arith; rings = omega arith; taken = refl; parcels = refl }
change_counts s (DropMapping row) = record { entries = refl; serials = omega arith; rings = omega arith; taken = refl; parcels = refl }
change_counts s (SetBell row) = record { entries = refl; serials = omega arith; rings = omega arith; taken = refl; parcels = refl }
change_counts s (ConfigureQueue queue depth size cost) = record { entries = refl; serials = omega arith; rings = omega arith; taken = refl; parcels = refl }
change_counts s (PutMessage queue message) = record { entries = refl; serials = omega arith; rings = omega arith; taken = refl; parcels = refl }
change_counts s (DropMessage queue) = record { entries = refl; serials = omega arith; rings = omega arith; taken = refl; parcels = refl }
change_counts s (EmptyQueue queue) = record { entries = refl; serials = omega arith; rings = omega arith; taken = refl; parcels = refl }
change_counts s (Exit cpu) = record { entries = refl; serials = omega arith; rings = omega arith; taken = refl; parcels = refl }
change_counts s Ring = record { entries = refl; serials = omega arith; rings = omega arith; taken = refl; parcels = refl }
change_counts s (SetPages count) = record { entries = refl; serials = omega arith; rings = omega arith; taken = refl; parcels = refl }
change_counts s (AddPartition quota) = record { entries = refl; serials = omega arith; rings = omega arith; taken = refl; parcels = refl }
change_counts s (AddRoot row) = record { entries = refl; serials = omega arith; rings = omega arith; taken = refl; parcels = refl }
change_counts s (SetRoom queue depth size) = record { entries = refl; serials = omega arith; rings = omega arith; taken = refl; parcels = refl }
change_counts s (FillSlot row) = record { entries = refl; serials = omega arith; rings = omega arith; taken = refl; parcels = refl }
change_counts s (AddCpu row) = record { entries = refl; serials = omega arith; rings = omega arith; taken = refl; parcels = refl }
change_counts s (AddLink row) = record { entries = refl; serials = omega arith; rings = omega arith; taken = refl; parcels = refl }

-- room for several changes is room for the first
pub room_first : (s : State) (change : Change) (others : List Change) → HasRoom s (change ∷ others) → HasRoom s (change ∷ [])
room_first s change others room = record {
  entries = omega (arith, sum_by-cons new_settings change others, sum_by-cons new_settings change [], room.entries);
  serials = omega (arith, sum_by-cons new_serials change others, sum_by-cons new_serials change [], room.serials);
  rings = omega (arith, sum_by-cons new_rings change others, sum_by-cons new_rings change [], room.rings);
}

-- and behind it room for the others
pub room_behind : (s : State) (change : Change) (others : List Change) → HasRoom s (change ∷ others) → HasRoom (changed s change) others
room_behind s change others room =
    let counts : Counts s (changed s change) change = change_counts s change in
    record {
      entries = omega (arith, counts.entries, sum_by-cons new_settings change others, room.entries);
      serials = omega (arith, counts.serials, sum_by-cons new_serials change others, room.serials);
      rings = omega (arith, counts.rings, sum_by-cons new_rings change others, room.rings);
    }

-- changes make no entry, and add their serials and rings
pub record CountsAll (s new : State) (changes : List Change) : Type 0 where
  pub entries : new.entries ≡ s.entries
  pub serials : new.next_serial ≡ s.next_serial + sum_by new_serials changes
  pub rings : new.rings ≡ s.rings + sum_by new_rings changes

pub changes_count : (s : State) (changes : List Change) → CountsAll s (changed_all s changes) changes
changes_count s [] = record { entries = refl; serials = omega arith; rings = omega arith }
changes_count s (change ∷ others) =
    let counts : Counts s (changed s change) change = change_counts s change in
    let rest : CountsAll (changed s change) (changed_all (changed s change) others) others = changes_count (changed s change) others in
    record {
      entries = rest.entries ∙ counts.entries;
      serials = omega (arith, rest.serials, counts.serials, sum_by-cons new_serials change others);
      rings = omega (arith, rest.rings, counts.rings, sum_by-cons new_rings change others);
    }

-- behind changes there is room for an entry as before
pub made_entries : (s new : State) (changes : List Change) → new ≡ changed_all s changes → s.entries < HISTORY_ENTRIES → new.entries < HISTORY_ENTRIES
made_entries s new changes is room =
    subst (λ (n : ℕ). n < HISTORY_ENTRIES) (sym (ap (λ (t : State). t.entries) is ∙ (changes_count s changes).entries)) room
