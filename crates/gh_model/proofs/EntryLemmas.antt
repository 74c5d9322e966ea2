-- What the entries that are no acts keep.
use Rattle.std.proofs.Common.{◌≡◌, ◌&&◌, ◌≤◌, ℕ, Bool, true, false, List, [], ◌∷◌, Result, Ok, Err, IfOk, OnErr, find, if◌then◌else◌, subst, sym, arith}
use Rattle.gh_base.specs.declared.ids.NoMemory.{NoMemory}
use Rattle.gh_base.specs.declared.ids.Serial.{Serial}
use Rattle.gh_model.specs.declared.change.Change.{Change}
use Rattle.gh_model.specs.declared.change.Change.TheVariants.{RevokeCapability, Retire, Reclaim}
use Rattle.gh_model.specs.declared.state.State.{State}
use Rattle.gh_model.specs.Act.{counted}
use Rattle.gh_model.specs.Changes.{changed}
use Rattle.gh_model.specs.History.{is_retired, is_unretired, may_part, numbered, parted, reclaimed, retired, took}
use Rattle.gh_model.specs.References.{is_doomed}
use Rattle.gh_model.specs.Room.{new_rings, new_serials}
use Rattle.gh_model.specs.Rows.{fills, object_row}
use Rattle.gh_model.specs.Small.{IsKept}
use Rattle.gh_model.proofs.ActLemmas.{made_kept}
use Rattle.gh_model.proofs.KeptLemmas.{IsModest}

if_kept : (here : Bool) (a b : State) → IsKept a → IsKept b → IsKept (if here then a else b)
if_kept true a b first second = first
if_kept false a b first second = second

numbered_kept : (s : State) → IsKept s → IsKept (numbered s)
numbered_kept s kept = record {
  small = record { used = kept.small.used; given = kept.small.given; pages = kept.small.pages };
  quotas = kept.quotas;
  costs = kept.costs;
  rings = omega (arith, kept.rings);
  serials = omega (arith, kept.serials);
}

took_kept : (s : State) (space : Serial) (slot : ℕ) → IsKept s → IsKept (numbered (took (changed s (RevokeCapability space slot)) space slot))
took_kept s space slot kept = record {
  small = record { used = kept.small.used; given = kept.small.given; pages = kept.small.pages };
  quotas = kept.quotas;
  costs = kept.costs;
  rings = omega (arith, kept.rings);
  serials = omega (arith, kept.serials);
}

-- an entry of one modest change
one_kept : (s : State) (change : Change) → new_serials change ≤ 1 → new_rings change ≤ 1 → IsModest s change → IsKept s → IsKept (counted (changed s change))
one_kept s change serials rings modest kept =
    made_kept s (change ∷ []) (record { serials = omega (arith, serials); rings = omega (arith, rings); modest = (modest, tt) }) kept

-- a part of a revoke keeps what the slow machine keeps
pub parted_kept : (s : State) (space : Serial) (slot : ℕ) → IsKept s → IsKept (parted s space slot)
parted_kept s space slot kept =
    if_kept (may_part (find (fills space.0 slot) s.caps)) (numbered (took (changed s (RevokeCapability space slot)) space slot)) (numbered s)
    (took_kept s space slot kept) (numbered_kept s kept)

-- and so does a retirement
pub retired_kept : (s : State) (serial : Serial) (seen : List ℕ) → IsKept s → IsKept (retired s serial seen)
retired_kept s serial seen kept =
    if_kept (is_doomed s serial.0 && is_unretired (object_row s serial.0)) (counted (changed s (Retire serial seen))) (numbered s)
    (one_kept s (Retire serial seen) (omega arith) (omega arith) tt kept) (numbered_kept s kept)

-- and a reclaim
pub reclaimed_kept : (s : State) (serial : Serial) → IsKept s → IsKept (reclaimed s serial)
reclaimed_kept s serial kept =
    if_kept (is_doomed s serial.0 && is_retired (object_row s serial.0)) (counted (changed s (Reclaim serial))) (numbered s)
    (one_kept s (Reclaim serial) (omega arith) (omega arith) tt kept) (numbered_kept s kept)

-- an entry that is made, or not
pub made_or_same : (s after new : State) (made : Bool) → new ≡ (if made then after else s) → IsKept after → IsKept s → IsKept new
made_or_same s after new made is behind kept = subst (λ (t : State). IsKept t) (sym is) (if_kept made after s behind kept)

-- or that wants memory
pub result_kept : (s after new : State) (result : Result Bool NoMemory) → IfOk result (λ made. new ≡ (if made then after else s)) → OnErr result (new ≡ s) → IsKept after → IsKept s → IsKept new
result_kept s after new (Ok made) is same behind kept = made_or_same s after new made is behind kept
result_kept s after new (Err none) is same behind kept = subst (λ (t : State). IsKept t) (sym same) kept
