-- A boot file is a list of lines that can be made of the parts one after the other.
use Rattle.std.proofs.Common.{◌≡◌, ◌+◌, ◌<◌, ◌≤◌, ◌++◌, ◌∷◌, ◌&&◌, [], ℕ, suc, true, List, length, take, drop, Option, Some, None, IsTrue, ◌∙◌, refl, ap, subst, arith, add-one, drop-cons, fold, inl, inr}
use Rattle.std.specs.Prelude.{All, IfSome, nat_le, slice_get}
use Rattle.std.proofs.lemmas.Bool.{and_parts, leb-true}
use Rattle.std.proofs.lemmas.List.Elements.{All-append, All-cons}
use Rattle.std.proofs.lemmas.List.Sums.{sum_by-append}
use Rattle.std.proofs.lemmas.Option.{get_or_from_slice_get, slice_get_cases, slice_get_within}
use Rattle.gh_base.specs.declared.access.Access.{Access}
use Rattle.gh_base.specs.declared.ids.Serial.{Serial}
use Rattle.gh_base.specs.declared.limits.TheConstants.{MACHINE_PAGES, MESSAGE_BYTES, QUEUE_DEPTH}
use Rattle.gh_events.proofs.FewReferences.{boot_cpus, boot_links}
use Rattle.gh_events.proofs.FewRows.{few_references}
use Rattle.gh_events.proofs.LengthBoot.{few_capabilities}
use Rattle.gh_invariant.proofs.BootGains.{boot_refers}
use Rattle.gh_invariant.proofs.BootValid.{boot_makes, boot_may, boot_valid, empty_valid}
use Rattle.gh_invariant.proofs.Counting.{count_append}
use Rattle.gh_invariant.specs.BootChanges.{boot_changes, changes_of_lines}
use Rattle.gh_invariant.specs.Effects.{gained, gains, is_that, times}
use Rattle.gh_invariant.specs.Premises.{MayChangeAll, Together}
use Rattle.gh_invariant.specs.Valid.{IsValid, IsValidWithin}
use Rattle.gh_model.proofs.BootFresh.{boot_fresh}
use Rattle.gh_model.proofs.BootLemmas.{boot_rings}
use Rattle.gh_model.proofs.FittingLemmas.{boot_fitting, empty_fitting, few_objects, few_serials, line_fitting, pages_fitting}
use Rattle.gh_model.proofs.RoomLemmas.{CountsAll, changes_count}
use Rattle.gh_model.specs.Boot.{after_line, boot_fits, boot_state, changes_of_line, empty_state, has_units, is_complete, line_fits, lines_fit, queue_cost}
use Rattle.gh_model.specs.Changes.{changed, changed_all}
use Rattle.gh_model.specs.Fitting.{IsFitting}
use Rattle.gh_model.specs.References.{references}
use Rattle.gh_model.specs.Room.{new_rings, new_serials}
use Rattle.gh_model.specs.declared.boot_line.BootLine.{BootLine}
use Rattle.gh_model.specs.declared.boot_line.BootLine.TheVariants.{Pages, Partition, Cspace, Addrspace, Doorbell, RootExtent, Extent, Msgqueue, Map, Cap, Vm, Rm, Link}
use Rattle.gh_model.specs.declared.change.Change.{Change}
use Rattle.gh_model.specs.declared.state.State.{State}
use Rattle.gh_parts.specs.BootLines.{CanAdd, CanAddAll, ComeNext, FitsNext}
use Rattle.gh_parts.specs.MakingAll.{CanMakeAll, FitsParts, HasRoomFor, stepped}
use Rattle.gh_parts.specs.Stands.{Stands}
use Rattle.gh_parts.specs.declared.parts.Parts.{Parts}
use Rattle.gh_parts.proofs.MakingLemmas.{room_behind, step_next, valid_behind}

-- the pages that a line's parent hands over lie in the line's span
pub held_within : (s : State) (partition parent : Serial) (offset count : ℕ) (access : Access) (held_offset held_count : ℕ)
    → IsTrue (line_fits s (Extent partition parent offset count access held_offset held_count))
    → held_offset + held_count ≤ count
held_within s partition parent offset count access held_offset held_count fits =
    leb-true (held_offset + held_count) count
    (and_parts (has_units s partition.0 1) (nat_le (held_offset + held_count) count)
    (and_parts (has_units s partition.0 1 && nat_le (held_offset + held_count) count) _ fits).0).1

-- the parts can have what a line makes

no_fit : All FitsParts []
no_fit = λ k other within. absurd (omega arith)

one_fit : (change : Change) → FitsParts change → All FitsParts (change ∷ [])
one_fit change fits = All-cons FitsParts change [] fits no_fit

two_fit : (first second : Change) → FitsParts first → FitsParts second → All FitsParts (first ∷ second ∷ [])
two_fit first second fits also = All-cons FitsParts first (second ∷ []) fits (one_fit second also)

three_fit : (first second third : Change) → FitsParts first → FitsParts second → FitsParts third
    → All FitsParts (first ∷ second ∷ third ∷ [])
three_fit first second third fits also last =
    All-cons FitsParts first (second ∷ third ∷ []) fits (two_fit second third also last)

line_fit : (s : State) (line : BootLine) → FitsNext s line → All FitsParts (changes_of_line s line)
line_fit s (Pages count) fits = one_fit _ tt
line_fit s (Partition quota) fits = one_fit _ tt
line_fit s (Cspace partition) fits = one_fit _ tt
line_fit s (Addrspace partition) fits = one_fit _ tt
line_fit s (Doorbell partition) fits = one_fit _ tt
line_fit s (RootExtent partition) fits = two_fit _ _ tt refl
line_fit s (Extent partition parent offset count access held_offset held_count) fits = three_fit _ _ _ tt refl tt
line_fit s (Msgqueue partition depth size) fits =
    let deep : IsTrue (nat_le 1 depth && nat_le depth QUEUE_DEPTH && nat_le 1 size && nat_le size MESSAGE_BYTES) =
    (and_parts (nat_le 1 depth && nat_le depth QUEUE_DEPTH && nat_le 1 size && nat_le size MESSAGE_BYTES)
    (has_units s partition.0 (queue_cost depth size)) fits).0 in
    let wide : IsTrue (nat_le 1 depth && nat_le depth QUEUE_DEPTH && nat_le 1 size) =
    (and_parts (nat_le 1 depth && nat_le depth QUEUE_DEPTH && nat_le 1 size) (nat_le size MESSAGE_BYTES) deep).0 in
    let both : IsTrue (nat_le 1 depth && nat_le depth QUEUE_DEPTH) =
    (and_parts (nat_le 1 depth && nat_le depth QUEUE_DEPTH) (nat_le 1 size) wide).0 in
    two_fit _ _ tt (record {
      some_depth = leb-true 1 depth (and_parts (nat_le 1 depth) (nat_le depth QUEUE_DEPTH) both).0;
      most_depth = leb-true depth QUEUE_DEPTH (and_parts (nat_le 1 depth) (nat_le depth QUEUE_DEPTH) both).1;
      some_size = leb-true 1 size (and_parts (nat_le 1 depth && nat_le depth QUEUE_DEPTH) (nat_le 1 size) wide).1;
      most_size = leb-true size MESSAGE_BYTES
          (and_parts (nat_le 1 depth && nat_le depth QUEUE_DEPTH && nat_le 1 size) (nat_le size MESSAGE_BYTES) deep).1;
    })
line_fit s (Map space extent base offset count access) fits = one_fit _ tt
line_fit s (Cap cspace slot object rights master) fits = one_fit _ tt
line_fit s (Vm cspace space) fits = one_fit _ tt
line_fit s (Rm cspace space partition) fits = two_fit _ _ tt tt
line_fit s (Link vm extent request reply) fits = three_fit _ _ _ tt tt tt

all_fit : (s : State) (lines : List BootLine) → ComeNext s lines → All FitsParts (changes_of_lines s lines)
all_fit s [] next = no_fit
all_fit s (line ∷ lines) next =
    All-append FitsParts (changes_of_line s line) (changes_of_lines (after_line s line) lines)
    (line_fit s line next.first.fits) (all_fit (after_line s line) lines next.others)

-- changes in order are those in front, and then those behind

fit_front : (xs ys : List Change) → All FitsParts (xs ++ ys) → All FitsParts xs
fit_front [] ys fit = no_fit
fit_front (x ∷ xs) ys fit =
    All-cons FitsParts x xs (fit 0 x (omega arith)) (fit_front xs ys (λ k other within. fit (suc k) other (omega arith)))

fit_back : (xs ys : List Change) → All FitsParts (xs ++ ys) → All FitsParts ys
fit_back [] ys fit = fit
fit_back (x ∷ xs) ys fit = fit_back xs ys (λ k other within. fit (suc k) other (omega arith))

may_parts : (s : State) (xs ys : List Change) → MayChangeAll s (xs ++ ys)
    → Together (MayChangeAll s xs) (MayChangeAll (changed_all s xs) ys)
may_parts s [] ys may = record { first = tt; others = may }
may_parts s (x ∷ xs) ys may =
    let rest : Together (MayChangeAll (changed s x) xs) (MayChangeAll (changed_all (changed s x) xs) ys) =
    may_parts (changed s x) xs ys may.others in
    record { first = record { first = may.first; others = rest.first }; others = rest.others }

valid_back : (s : State) (xs : List Change) → IsValidWithin s → MayChangeAll s xs → IsValidWithin (changed_all s xs)
valid_back s [] valid may = valid
valid_back s (x ∷ xs) valid may =
    valid_back (changed s x) xs (valid_behind s x valid may.first) may.others

gained_front : (s : State) (xs ys : List Change) (object : ℕ)
    → times object (gained s xs) ≤ times object (gained s (xs ++ ys))
gained_front s [] ys object = (let none : times object [] ≡ 0 = refl in omega arith)
gained_front s (x ∷ xs) ys object =
    omega (
      arith,
      count_append (is_that object) (gains s x) (gained (changed s x) xs),
      count_append (is_that object) (gains s x) (gained (changed s x) (xs ++ ys)),
      gained_front (changed s x) xs ys object,
    )

room_front : (s : State) (xs ys : List Change) → HasRoomFor s (xs ++ ys) → HasRoomFor s xs
room_front s xs ys room = record {
  entries = room.entries;
  serials = omega (arith, sum_by-append new_serials xs ys, room.serials);
  rings = omega (arith, sum_by-append new_rings xs ys, room.rings);
  references = λ object some. omega (arith, gained_front s xs ys object, room.references object some);
}

room_back : (s : State) (xs ys : List Change) → IsValidWithin s → MayChangeAll s xs
    → HasRoomFor s (xs ++ ys) → HasRoomFor (changed_all s xs) ys
room_back s [] ys valid may room = room
room_back s (x ∷ xs) ys valid may room =
    room_back (changed s x) xs ys (valid_behind s x valid may.first) may.others
    (room_behind s x (xs ++ ys) valid may.first room)

front : (parts : Parts) (s : State) (xs ys : List Change) → CanMakeAll parts s (xs ++ ys) → CanMakeAll parts s xs
front parts s xs ys can = record {
  stands = can.stands;
  valid = can.valid;
  may = (may_parts s xs ys can.may).first;
  room = room_front s xs ys can.room;
  fit = fit_front xs ys can.fit;
}

back : (before parts : Parts) (s : State) (xs ys : List Change) → CanMakeAll before s (xs ++ ys)
    → Stands parts (changed_all s xs) → CanMakeAll parts (changed_all s xs) ys
back before parts s xs ys can stands =
    let may : Together (MayChangeAll s xs) (MayChangeAll (changed_all s xs) ys) = may_parts s xs ys can.may in
    record {
      stands = stands;
      valid = valid_back s xs can.valid may.first;
      may = may.others;
      room = room_back s xs ys can.valid may.first can.room;
      fit = fit_back xs ys can.fit;
    }

-- so a line can be made, and then those behind it

next_line : (parts : Parts) (s : State) (line : BootLine) (lines : List BootLine) → CanAddAll parts s (line ∷ lines)
    → CanAdd parts s line
next_line parts s line lines can = record {
  next = can.next.first;
  can = front parts s (changes_of_line s line) (changes_of_lines (after_line s line) lines) can.can;
}

other_lines : (before parts : Parts) (s : State) (line : BootLine) (lines : List BootLine)
    → CanAddAll before s (line ∷ lines) → Stands parts (after_line s line) → CanAddAll parts (after_line s line) lines
other_lines before parts s line lines can stands = record {
  next = can.next.others;
  can = back before parts s (changes_of_line s line) (changes_of_lines (after_line s line) lines) can.can stands;
}

-- the lines from a place on are the one there and those behind it
from_place : (lines : List BootLine) (at : ℕ) (line : BootLine) → slice_get lines at ≡ Some line
    → drop at lines ≡ line ∷ drop (at + 1) lines
from_place lines at line is =
    let within : at < length lines = slice_get_within lines at line is in
    rw add-one
    (drop-cons lines at line within
    ∙ ap (λ (one : BootLine). one ∷ drop (suc at) lines) (get_or_from_slice_get lines at line line is))

can_by : (parts : Parts) (s : State) (lines : List BootLine) (at : ℕ) (found : Option BootLine)
    → slice_get lines at ≡ found → CanAddAll parts s (drop at lines) → IfSome found (CanAdd parts s)
can_by parts s lines at None is can = tt
can_by parts s lines at (Some line) is can =
    next_line parts s line (drop (at + 1) lines)
    (subst (λ (rest : List BootLine). CanAddAll parts s rest) (from_place lines at line is) can)

pub can_at : (parts : Parts) (s : State) (lines : List BootLine) (at : ℕ) → CanAddAll parts s (drop at lines)
    → IfSome (slice_get lines at) (CanAdd parts s)
can_at parts s lines at can = can_by parts s lines at (slice_get lines at) refl can

slice_get_none : {X : Type 0} (xs : List X) (at : ℕ) → slice_get xs at ≡ None → length xs ≤ at
slice_get_none xs at is =
    elim (slice_get_cases xs at).1 as (λ _. length xs ≤ at) [
      | inl there ↦ let never : ⊥ = cc in absurd never
      | inr past ↦ past.0
    ]

rest_by : (before parts : Parts) (s : State) (lines : List BootLine) (at : ℕ) (found : Option BootLine)
    → slice_get lines at ≡ found → at < length lines → CanAddAll before s (drop at lines)
    → Stands parts (stepped after_line s found) → CanAddAll parts (stepped after_line s found) (drop (at + 1) lines)
rest_by before parts s lines at None is within can stands =
    absurd (omega (arith, slice_get_none lines at is, within))
rest_by before parts s lines at (Some line) is within can stands =
    other_lines before parts s line (drop (at + 1) lines)
    (subst (λ (rest : List BootLine). CanAddAll before s rest) (from_place lines at line is) can) stands

pub rest_at : (before parts : Parts) (s : State) (lines : List BootLine) (at : ℕ) → at < length lines
    → CanAddAll before (fold after_line s (take at lines)) (drop at lines)
    → Stands parts (stepped after_line (fold after_line s (take at lines)) (slice_get lines at))
    → CanAddAll parts (fold after_line s (take (at + 1) lines)) (drop (at + 1) lines)
rest_at before parts s lines at within can stands =
    subst (λ (t : State). CanAddAll parts t (drop (at + 1) lines)) (step_next after_line s lines at within)
    (rest_by before parts (fold after_line s (take at lines)) lines at (slice_get lines at) refl within can stands)

-- the lines of a boot file come one after the other

fits_next : (s : State) (line : BootLine) → IsTrue (line_fits s line) → FitsNext s line
fits_next s (Pages count) fits = tt
fits_next s _ fits = fits

come_next : (s : State) (lines : List BootLine) → IsTrue (lines_fit s lines) → IsFitting s → ComeNext s lines
come_next s [] fit fitting = tt
come_next s (line ∷ lines) fit fitting =
    let parts : (line_fits s line ≡ true) × (lines_fit (after_line s line) lines ≡ true) =
    and_parts (line_fits s line) (lines_fit (after_line s line) lines) fit in
    record {
      first = record { fits = fits_next s line parts.0; fitting = fitting };
      others = come_next (after_line s line) lines parts.1 (line_fitting s line parts.0 fitting);
    }

boot_next : (lines : List BootLine) → IsTrue (boot_fits lines) → ComeNext empty_state lines
boot_next [] fit = absurd (let never : ⊥ = cc in never)
boot_next (Pages count ∷ lines) fit =
    let whole : (nat_le 1 count && nat_le count MACHINE_PAGES && lines_fit (after_line empty_state (Pages count)) lines) ≡ true =
    (and_parts _ (is_complete (fold after_line (after_line empty_state (Pages count)) lines)) fit).0 in
    let parts : ((nat_le 1 count && nat_le count MACHINE_PAGES) ≡ true) × (lines_fit (after_line empty_state (Pages count)) lines ≡ true) =
    and_parts _ _ whole in
    let few : nat_le count MACHINE_PAGES ≡ true = (and_parts (nat_le 1 count) (nat_le count MACHINE_PAGES) parts.0).1 in
    record {
      first = record { fits = tt; fitting = empty_fitting };
      others = come_next (after_line empty_state (Pages count)) lines parts.1
          (pages_fitting count (leb-true count MACHINE_PAGES few));
    }
boot_next (_ ∷ lines) fit = absurd (let never : ⊥ = cc in never)

-- and the counts have room for them
boot_room : (lines : List BootLine) → IsTrue (boot_fits lines) → HasRoomFor empty_state (boot_changes lines)
boot_room lines fit =
    let counts : CountsAll empty_state (changed_all empty_state (boot_changes lines)) (boot_changes lines) =
    changes_count empty_state (boot_changes lines) in
    let made : changed_all empty_state (boot_changes lines) ≡ boot_state lines = boot_makes lines in
    let fitting : IsFitting (boot_state lines) = boot_fitting lines fit in
    let valid : IsValid (boot_state lines) = boot_valid lines fit in
    record {
      entries = omega arith;
      serials = omega (arith, counts.serials, ap (λ (s : State). s.next_serial) made, few_serials (boot_state lines) fitting);
      rings = omega (
        arith,
        counts.rings,
        ap (λ (s : State). s.rings) made,
        boot_rings (boot_state lines) lines refl,
        (boot_fresh lines).none,
      );
      references = λ object some. (let nothing : references empty_state object ≡ 0 = refl in omega (
        arith,
        boot_refers lines object fit some,
        few_references (boot_state lines) valid object,
        few_objects (boot_state lines) fitting,
        few_capabilities (boot_state lines) valid,
        boot_cpus lines fit,
        boot_links lines,
      ));
    }

-- so all of them can be made of nothing
pub boot_can : (parts : Parts) (lines : List BootLine) → IsTrue (boot_fits lines) → Stands parts empty_state
    → CanAddAll parts empty_state lines
boot_can parts lines fit stands =
    let next : ComeNext empty_state lines = boot_next lines fit in
    record {
      next = next;
      can = record {
        stands = stands;
        valid = empty_valid;
        may = boot_may lines fit;
        room = boot_room lines fit;
        fit = all_fit empty_state lines next;
      };
    }
