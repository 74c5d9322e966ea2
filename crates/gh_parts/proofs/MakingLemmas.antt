-- Of changes in order each can be made in the state that those before it made.
use Rattle.std.proofs.Common.{◌≡◌, ◌+◌, ◌<◌, ◌∙◌, ℕ, zero, suc, true, List, [], ◌∷◌, length, take, Option, Some, None, Result, Ok, Err, refl, sym, ap, subst, arith, fold, inl, inr}
use Rattle.std.specs.Prelude.{All, IfSome, OnErr, is_some, slice_get}
use Rattle.std.proofs.lemmas.Bool.{both_ways}
use Rattle.std.proofs.lemmas.List.Sums.{fold_more, sum_by-cons}
use Rattle.std.proofs.lemmas.Option.{get_or_from_slice_get, slice_get_cases}
use Rattle.gh_invariant.proofs.Counting.{count_append, unfound}
use Rattle.gh_invariant.proofs.ReferencesLaw.{moves}
use Rattle.gh_invariant.proofs.ValidKept.{valid_kept}
use Rattle.gh_invariant.specs.Effects.{gained, gains, is_that}
use Rattle.gh_invariant.specs.Lives.{lives}
use Rattle.gh_invariant.specs.Premises.{MayChange, MayChangeAll}
use Rattle.gh_invariant.specs.Valid.{IsValidTo, IsValidWithin}
use Rattle.gh_model.proofs.RoomLemmas.{Counts, change_counts}
use Rattle.gh_model.specs.Changes.{changed, changed_all}
use Rattle.gh_model.specs.Room.{new_rings, new_serials}
use Rattle.gh_model.specs.Rows.{is_object}
use Rattle.gh_model.specs.declared.change.Change.{Change}
use Rattle.gh_model.specs.declared.state.State.{State}
use Rattle.gh_parts.specs.Making.{HasRoom}
use Rattle.gh_parts.specs.MakingAll.{CanMakeAll, FitsParts, HasRoomFor, IsMakeable, stepped}
use Rattle.gh_parts.specs.Stands.{Stands}
use Rattle.gh_parts.specs.declared.parts.Parts.{Parts}

-- what lives has a serial above 0
positive : (s : State) → IsValidWithin s → (object : ℕ) → lives s.objects object ≡ true → 0 < object
positive s valid zero alive =
    absurd (both_ways (lives s.objects 0) (ap is_some (unfound (is_object 0) s.objects valid.objects.none)) alive)
positive s valid (suc n) alive = omega arith

-- room for several changes is room for the first
pub room_first : (s : State) (change : Change) (changes : List Change) → IsValidWithin s
    → HasRoomFor s (change ∷ changes) → HasRoom s
room_first s change changes valid room = record {
  entries = room.entries;
  serials = omega (arith, room.serials);
  rings = omega (arith, room.rings);
  references = λ object alive. omega (arith, room.references object (positive s valid object alive));
}

-- and behind it room for the others
pub room_behind : (s : State) (change : Change) (changes : List Change) → IsValidWithin s → MayChange s change
    → HasRoomFor s (change ∷ changes) → HasRoomFor (changed s change) changes
room_behind s change changes valid may room =
    let counts : Counts s (changed s change) change = change_counts s change in
    record {
      entries = omega (arith, counts.entries, room.entries);
      serials = omega (arith, counts.serials, sum_by-cons new_serials change changes, room.serials);
      rings = omega (arith, counts.rings, sum_by-cons new_rings change changes, room.rings);
      references = λ object some. omega (
        arith,
        moves (s.entries + 1) s valid object change some may,
        count_append (is_that object) (gains s change) (gained (changed s change) changes),
        room.references object some,
      );
    }

-- a valid state stays so
pub valid_behind : (s : State) (change : Change) → IsValidWithin s → MayChange s change
    → IsValidWithin (changed s change)
valid_behind s change valid may =
    subst (λ (n : ℕ). IsValidTo (n + 1) (changed s change)) (sym (change_counts s change).entries)
    (valid_kept (s.entries + 1) s change (omega arith) valid may)

-- a change that can be made of any parts that stand for the state
pub record IsReady (s : State) (change : Change) : Type 0 where
  pub valid : IsValidWithin s
  pub may : MayChange s change
  pub room : HasRoom s
  pub fits : FitsParts change

ready_at : (changes : List Change) (s : State) (at : ℕ) → IsValidWithin s → MayChangeAll s changes
    → HasRoomFor s changes → All FitsParts changes
    → IfSome (slice_get changes at) (IsReady (changed_all s (take at changes)))
ready_at [] s at valid may room fit = tt
ready_at (change ∷ changes) s zero valid may room fit = record {
  valid = valid;
  may = may.first;
  room = room_first s change changes valid room;
  fits = fit 0 change (omega arith);
}
ready_at (change ∷ changes) s (suc at) valid may room fit =
    ready_at changes (changed s change) at (valid_behind s change valid may.first) may.others
    (room_behind s change changes valid may.first room)
    (λ k other within. fit (suc k) other (omega arith))

with_parts : (parts : Parts) (s : State) (found : Option Change) → Stands parts s
    → IfSome found (IsReady s) → IfSome found (IsMakeable parts s)
with_parts parts s None stands ready = tt
with_parts parts s (Some change) stands ready = record {
  can = record { stands = stands; valid = ready.valid; may = ready.may; room = ready.room };
  fits = ready.fits;
}

-- the next change can be made
pub makeable_at : (before parts : Parts) (s : State) (changes : List Change) (at : ℕ)
    → CanMakeAll before s changes → Stands parts (changed_all s (take at changes))
    → IfSome (slice_get changes at) (IsMakeable parts (changed_all s (take at changes)))
makeable_at before parts s changes at can stands =
    with_parts parts (changed_all s (take at changes)) (slice_get changes at) stands
    (ready_at changes s at can.valid can.may can.room can.fit)

-- one step more of a list is made
stepped_by : {X : Type 0} (step : State → X → State) (s : State) (xs : List X) (at : ℕ) (found : Option X)
    → slice_get xs at ≡ found → at < length xs
    → stepped step (fold step s (take at xs)) found ≡ fold step s (take (at + 1) xs)
stepped_by step s xs at None is within =
    elim (slice_get_cases xs at).1 as (λ _. fold step s (take at xs) ≡ fold step s (take (at + 1) xs)) [
      | inl there ↦ let never : ⊥ = cc in absurd never
      | inr past ↦ absurd (omega (arith, past.0, within))
    ]
stepped_by step s xs at (Some x) is within =
    ap (step (fold step s (take at xs))) (sym (get_or_from_slice_get xs at x x is))
    ∙ sym (fold_more step s xs at x within)

pub step_next : {X : Type 0} (step : State → X → State) (s : State) (xs : List X) (at : ℕ) → at < length xs
    → stepped step (fold step s (take at xs)) (slice_get xs at) ≡ fold step s (take (at + 1) xs)
step_next step s xs at within = stepped_by step s xs at (slice_get xs at) refl within

-- what holds at any rate holds at an error
pub at_err : {T E : Type 0} (result : Result T E) (Q : Type 0) → Q → OnErr result Q
at_err (Ok value) Q holds = tt
at_err (Err error) Q holds = holds
