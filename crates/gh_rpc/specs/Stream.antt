-- What a stream of fragments gives, by the messages in it.
use Rattle.std.specs.Prelude.{◌≡◌, ◌<◌, ◌-◌, ℕ, List, [], ◌∷◌}
use Rattle.std.specs.Prelude.{◌++◌, replicate, Option, None, Some, Result, Ok}
use Rattle.gh_base.specs.RpcMessage.{IsBegun, IsMessage}
use Rattle.gh_base.specs.RpcAssembly.{Progress}
use Rattle.gh_base.specs.declared.fragment.Message.{Message}
use Rattle.gh_base.specs.declared.fragment.RpcFault.{RpcFault}

-- the stream ends with this message: its last fragments are the message
pub record EndsWith (m : Message) (stream : List (List ℕ)) : Type 0 where
  pub before : List (List ℕ)
  pub fragments : List (List ℕ)
  pub split : stream ≡ before ++ fragments
  pub message : IsMessage fragments m

-- the stream ends with the first fragments of a message, which lacks others
pub record EndsUnfinished (p : Progress) (stream : List (List ℕ)) : Type 0 where
  pub before : List (List ℕ)
  pub fragments : List (List ℕ)
  pub split : stream ≡ before ++ fragments
  pub wanted : 0 < p.lacking
  pub begun : IsBegun p.lacking fragments p.message

-- the answers to the fragments of a message: nothing yet, and the message to the last
abbrev pub answers_giving : Message → ℕ → List (Result (Option Message) RpcFault)
answers_giving m count = replicate (count - 1) (Ok None) ++ Ok (Some m) ∷ []
