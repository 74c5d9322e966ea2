-- What an act is given: a CPU that runs, a call of its shape, and its grants. And when the changes
-- of what it comes to may be made.
use Rattle.std.specs.Prelude.{◌≡◌, ◌&&◌, ◌||◌, not, ⊤, ℕ, Bool, true, false, List, [], ◌∷◌, Option, Some, None, IsTrue, nat_le}
use Rattle.std.specs.List.{list_all}
use Rattle.gh_base.specs.declared.call.Call.{Call}
use Rattle.gh_base.specs.declared.cap_word.Need.{Need}
use Rattle.gh_base.specs.declared.ids.Serial.{Serial}
use Rattle.gh_base.specs.declared.kind.Kind.{Kind}
use Rattle.gh_model.specs.References.{is_doomed}
use Rattle.gh_model.specs.Registers.{first_of, needs_of, shape_refusals}
use Rattle.gh_model.specs.Rows.{cpu_row}
use Rattle.gh_model.specs.declared.change.Decision.{Decision}
use Rattle.gh_model.specs.declared.change.Decision.TheVariants.{Refuse, Unfinished, Make}
use Rattle.gh_model.specs.declared.rows.CpuRow.{CpuRow}
use Rattle.gh_model.specs.declared.rows.ObjectRow.{ObjectRow}
use Rattle.gh_model.specs.declared.state.State.{State}
use Rattle.gh_invariant.specs.Effects.{gained}
use Rattle.gh_invariant.specs.Lives.{lives, lives_as}
use Rattle.gh_invariant.specs.Premises.{MayChangeAll}

-- a granted object is no live one of another kind than the call needs
abbrev pub grant_fits : List ObjectRow → Serial → Option Kind → Bool
grant_fits objects grant None = true
grant_fits objects grant (Some k) = not (lives objects grant.0) || lives_as objects grant.0 k

-- there is one grant for each need
abbrev pub grants_stand : List ObjectRow → List (ℕ × Need) → List Serial → Bool
grants_stand objects [] [] = true
grants_stand objects [] (grant ∷ grants) = false
grants_stand objects (need ∷ needs) [] = false
grants_stand objects (need ∷ needs) (grant ∷ grants) =
    grant_fits objects grant need.1.kind && grants_stand objects needs grants

-- the CPU is there and hasn't exited
abbrev pub is_running : Option CpuRow → Bool
is_running None = false
is_running (Some row) = not row.exited

-- an act that a call may make: its CPU runs, its registers have the call's shape, and it has its
-- grants
pub record MayAct (s : State) (cpu : ℕ) (call : Call) (bytes : ℕ)
    (grants : List Serial) : Type 0 where
  pub running : IsTrue (is_running (cpu_row s cpu))
  pub shape : first_of (shape_refusals call bytes) ≡ None
  pub granted : IsTrue (grants_stand s.objects (needs_of call) grants)

-- the changes that a decision makes, if any, may be made in their order
abbrev pub MayMake : State → Decision → Type 0
MayMake s (Refuse errno) = ⊤
MayMake s Unfinished = ⊤
MayMake s (Make changes reply) = MayChangeAll s changes

-- the object has a reference, or isn't made yet
abbrev pub is_referred : State → Serial → Bool
is_referred s object = not (is_doomed s object.0) || nat_le s.next_serial object.0

-- what the changes of a decision give a reference has one already, or is new: nothing that lives
-- without references comes back
abbrev pub GivesToReferred : State → Decision → Type 0
GivesToReferred s (Refuse errno) = ⊤
GivesToReferred s Unfinished = ⊤
GivesToReferred s (Make changes reply) = IsTrue (list_all (is_referred s) (gained s changes))
