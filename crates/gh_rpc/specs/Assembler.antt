-- How the open message lies in an assembler: its numbers beside a buffer of its payload.
use Rattle.std.specs.Prelude.{◌≤◌, ◌<◌, ◌+◌, ◌*◌}
use Rattle.std.specs.Prelude.{ℕ, List, length, Option, None, Some}
use Rattle.std.specs.Option.{ForSome}
use Rattle.gh_base.specs.RpcAssembly.{Progress}
use Rattle.gh_base.specs.declared.fragment.TheConstants.{FRAGMENT_PAYLOAD_BYTES}
use Rattle.gh_base.specs.declared.fragment.TheConstants.{MESSAGE_PAYLOAD_BYTES}
use Rattle.gh_rpc.specs.declared.assembler.Numbers.{Numbers}

-- the message so far with these numbers and this payload
abbrev pub progress_with : Numbers → List ℕ → Progress
progress_with n payload =
    record {
      message = record { id = n.id; sequence = n.sequence; payload = payload };
      lacking = n.lacking;
    }

-- the open message, if there is one; without one the buffer's bytes mean nothing
abbrev pub progress_in : Option Numbers → List ℕ → Option Progress
progress_in None payload = None
progress_in (Some n) payload = Some (progress_with n payload)

-- the buffer has room for all fragments that are lacking
abbrev pub HasRoom : Numbers → List ℕ → Type 0
HasRoom n payload =
    length payload + n.lacking * FRAGMENT_PAYLOAD_BYTES ≤ MESSAGE_PAYLOAD_BYTES

-- a fragment or more is lacking, and has room
pub record IsUnfinished (n : Numbers) (payload : List ℕ) : Type 0 where
  pub wanted : 0 < n.lacking
  pub room : HasRoom n payload

-- what holds of every assembler
abbrev pub IsLaidOut : Option Numbers → List ℕ → Type 0
IsLaidOut numbers payload = ForSome numbers (λ n. IsUnfinished n payload)
