-- Replies without bytes.
use Rattle.std.specs.Prelude.{ℕ, [], ◌∷◌}
use Rattle.gh_base.specs.Errno.{errno_number}
use Rattle.gh_base.specs.declared.errno.Errno.{Errno}
use Rattle.gh_base.specs.declared.frame.Reply.{Reply}

-- four registers and no bytes
abbrev pub register_reply : ℕ → ℕ → ℕ → ℕ → Reply
register_reply x0 x1 x2 x3 = record { x = x0 ∷ x1 ∷ x2 ∷ x3 ∷ []; bytes = [] }

-- the error's number in x0, 0 in the other registers and no bytes
abbrev pub refusal : Errno → Reply
refusal errno = register_reply (errno_number errno) 0 0 0
