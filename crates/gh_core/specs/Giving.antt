-- Whether a CPU may be given a call, as a test.
use Rattle.std.specs.Prelude.{◌==◌, ◌&&◌, ◌+◌, not, ℕ, Bool, length, is_some, nat_le, nat_lt}
use Rattle.std.specs.List.{list_any}
use Rattle.gh_base.specs.declared.limits.TheConstants.{CALL_NUMBERS, CPUS}
use Rattle.gh_core.specs.Tests.{is_between}
use Rattle.gh_events.specs.Config.{Config, Cpu}
use Rattle.gh_model.specs.Legal.{exits}
use Rattle.gh_model.specs.Rows.{cpu_row}

-- the number is the next one behind so many calls, and a call may have it
abbrev pub is_next_number : ℕ → ℕ → Bool
is_next_number calls number = (number == calls + 1) && nat_le number CALL_NUMBERS

-- the CPU is between calls, has no next call and made no exit call, and the number is next
abbrev pub follows : ℕ → Cpu → Bool
follows number cpu =
    is_between cpu
    && (not (is_some cpu.next)
    && (not (list_any exits cpu.made) && is_next_number (length cpu.made) number))

-- a CPU of the boot that does so may be given the call
abbrev pub gives : Config → ℕ → ℕ → Bool
gives conf at number =
    nat_lt at CPUS && (is_some (cpu_row conf.boot at) && follows number (conf.cpu at))
