-- When a grace period has passed, and which CPUs it waits for.
use Rattle.std.proofs.Common.{◌≡◌, ◌↔◌, ◌<◌, ◌≤◌, ℕ, suc, List}
use Rattle.std.proofs.Common.{[], ◌∷◌, length, Option, Some, None, IsTrue, is_some}
use Rattle.std.proofs.Common.{is_none, position, slice_get, get_or, arith, rules}
use Rattle.std.specs.List.{position_or_len}
use Rattle.std.proofs.lemmas.Grind.{common_steps}
use Rattle.std.proofs.lemmas.List.Quantifiers.{position-Some}
use Rattle.std.proofs.lemmas.List.Sums.{prefix_len-le-length}
use Rattle.std.proofs.lemmas.Option.{slice_get-get_or}
use Rattle.gh_base.specs.Counters.{is_odd, HaveLeft}
use Rattle.gh_rcu.specs.Grace.{awaited, still_awaited, started}
use Rattle.gh_rcu.specs.Grace.{all_noted, has_passed, IsStillReading}

-- a CPU isn't waited for exactly where its counter wasn't odd or is greater now
one_has_left : (before after : ℕ) →
    IsTrue (is_none (still_awaited (awaited before) after)) ↔ (IsTrue (is_odd before) → before < after)
one_has_left before after = grind (arith, common_steps)

-- a grace period has passed exactly where every CPU that was in a read section has left it
pub passed_when_all_left : (seen now : List ℕ) → length seen ≡ length now →
    IsTrue (has_passed (all_noted (started seen) now)) ↔ HaveLeft seen now
passed_when_all_left [] [] same = search rules
passed_when_all_left [] (n ∷ now) same = absurd (omega arith)
passed_when_all_left (s ∷ seen) [] same = absurd (omega arith)
passed_when_all_left (s ∷ seen) (n ∷ now) same =
    let rest = passed_when_all_left seen now (omega arith) in
    let one = one_has_left s n in
    grind (arith, common_steps)

-- a counter that is waited for was odd, and isn't passed yet
one_is_reading : (before after counter : ℕ) →
    still_awaited (awaited before) after ≡ Some counter →
    (before ≡ counter) × IsTrue (is_odd counter) × (after ≤ counter)
one_is_reading before after counter waited = grind (arith, common_steps)

-- a CPU that is waited for is still in the section that it was in
pub waited_is_reading : (seen now : List ℕ) (cpu counter : ℕ) →
    slice_get (all_noted (started seen) now) cpu ≡ Some (Some counter) → IsStillReading seen now cpu counter
waited_is_reading [] now cpu counter waited = absurd (cc)
waited_is_reading (s ∷ seen) [] cpu counter waited = absurd (cc)
waited_is_reading (s ∷ seen) (n ∷ now) Prim.Native.Nat.zero counter waited =
    let reading = one_is_reading s n counter (cc) in
    record { before = cc; odd = reading.1; after = reading.2 }
waited_is_reading (s ∷ seen) (n ∷ now) (suc cpu) counter waited =
    let rest = waited_is_reading seen now cpu counter waited in
    record { before = rest.before; odd = rest.odd; after = rest.after }

-- the first that is waited for lies past the end where none is
none_waited : (waiting : List (Option ℕ)) →
    IsTrue (has_passed waiting) ↔ (position_or_len is_some waiting ≡ length waiting)
none_waited [] = search rules
none_waited (None ∷ waiting) = let rest = none_waited waiting in grind (arith, common_steps)
none_waited (Some counter ∷ waiting) = search rules

-- no CPU is waited for where there is no first
pub passed_without_reader : (waiting : List (Option ℕ)) →
    IsTrue (has_passed waiting) ↔ (position is_some waiting ≡ None)
passed_without_reader waiting =
    let none = none_waited waiting in
    let within : position_or_len is_some waiting ≤ length waiting = prefix_len-le-length _ waiting in
    grind (arith, common_steps)

-- the counter at the first CPU that is waited for
pub found_at : (waiting : List (Option ℕ)) (cpu counter : ℕ) →
    position is_some waiting ≡ Some cpu → get_or waiting cpu None ≡ Some counter →
    slice_get waiting cpu ≡ Some (Some counter)
found_at waiting cpu counter first read =
    let within = (position-Some is_some waiting cpu None first).0 in
    rw (slice_get-get_or waiting cpu None within, read)
