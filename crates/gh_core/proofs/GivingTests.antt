-- The test of a call that is given tells its condition.
use Rattle.std.proofs.Common.{◌≡◌, ◌==◌, ◌&&◌, ◌+◌, ◌<◌, ◌≤◌, ℕ, true, length, refl, arith, not, is_some, nat_le, nat_lt}
use Rattle.std.specs.List.{list_any}
use Rattle.std.proofs.lemmas.Bool.Decides.{nat_tests}
use Rattle.gh_base.specs.declared.limits.TheConstants.{CALL_NUMBERS, CPUS}
use Rattle.gh_events.specs.Config.{Config}
use Rattle.gh_events.specs.Start.{MayGive}
use Rattle.gh_model.specs.Legal.{exits}
use Rattle.gh_model.specs.Rows.{cpu_row}
use Rattle.gh_core.specs.Giving.{follows, gives, is_next_number}
use Rattle.gh_core.specs.Tests.{is_between}
use Rattle.gh_core.proofs.CallTests.{between_told, both, equal, is_below, is_equal, joined, none_of, tells_between}
use Rattle.gh_core.proofs.HolderTests.{denied, denies}

at_most : (a b : ℕ) → nat_le a b ≡ true → a ≤ b
at_most a b is = grind (arith, nat_tests)

is_at_most : (a b : ℕ) → a ≤ b → nat_le a b ≡ true
is_at_most a b is = grind (arith, nat_tests)

pub give_told : (conf : Config) (at number : ℕ) → gives conf at number ≡ true → MayGive conf at number
give_told conf at number is =
    let parts = both (nat_lt at CPUS) (is_some (cpu_row conf.boot at) && follows number (conf.cpu at)) is in
    let there = both (is_some (cpu_row conf.boot at)) (follows number (conf.cpu at)) parts.1 in
    let first = both (is_between (conf.cpu at)) _ there.1 in
    let second = both (not (is_some (conf.cpu at).next)) _ first.1 in
    let third = both (not (list_any exits (conf.cpu at).made)) (is_next_number (length (conf.cpu at).made) number) second.1 in
    let last = both (number == length (conf.cpu at).made + 1) (nat_le number CALL_NUMBERS) third.1 in
    record {
      is_cpu = there.0;
      between = between_told (conf.cpu at) first.0;
      none = none_of (conf.cpu at).next second.0;
      runs = denied (list_any exits (conf.cpu at).made) third.0;
      counts = equal number (length (conf.cpu at).made + 1) last.0;
      bounded = at_most number CALL_NUMBERS last.1;
    }

pub tells_give : (conf : Config) (at number : ℕ) → at < CPUS → MayGive conf at number → gives conf at number ≡ true
tells_give conf at number within may = joined _ _ (is_below at CPUS within) (joined _ _ may.is_cpu
    (joined (is_between (conf.cpu at)) _ (tells_between (conf.cpu at) may.between)
    (joined (not (is_some (conf.cpu at).next)) _ (rw may.none refl)
    (joined (not (list_any exits (conf.cpu at).made)) _ (denies (list_any exits (conf.cpu at).made) may.runs)
    (joined (number == length (conf.cpu at).made + 1) (nat_le number CALL_NUMBERS) (is_equal number (length (conf.cpu at).made + 1) may.counts)
    (is_at_most number CALL_NUMBERS may.bounded))))))
