-- Before any event the calls are sound: there are none.
use Rattle.std.proofs.Common.{◌≡◌, ◌∙◌, ℕ, List, [], ◌∷◌, fold, refl}
use Rattle.gh_model.specs.Boot.{after_line, boot_state, empty_state}
use Rattle.gh_model.specs.declared.boot_line.BootLine.{BootLine}
use Rattle.gh_model.specs.declared.boot_line.BootLine.TheVariants.{Pages, Partition, Cspace, Addrspace, Doorbell, RootExtent, Extent, Msgqueue, Map, Cap, Vm, Rm, Link}
use Rattle.gh_model.specs.declared.state.State.{State}
use Rattle.gh_events.specs.Calls.{HasCalls}
use Rattle.gh_events.specs.Start.{start}

-- where no slot is taken in the boot state
pub start_calls : (boot : State) (index : ℕ → ℕ) → boot.taken ≡ [] → HasCalls (start boot index)
start_calls boot index untaken = record {
  calls = λ cpu. record {
    finished = λ i made is. absurd (let never : ⊥ = cc in never);
    numbered = λ i made is. absurd (let never : ⊥ = cc in never);
    current = λ call is. absurd (let never : ⊥ = cc in never);
    next = λ given is. absurd (let never : ⊥ = cc in never);
    idle = λ none. record { next = refl; current = refl; pins = refl; made = refl };
  };
  counters = λ cpu. refl;
  entries = record {
    acting = λ holder is. absurd (let never : ⊥ = cc in never);
    entries = λ n event is. absurd (let never : ⊥ = cc in never);
    parts = λ n event is part. absurd (let never : ⊥ = cc in never);
    untaken = λ closed. untaken;
    unreferenced = λ n event is. absurd (let never : ⊥ = cc in never);
    deaths = λ cpu i made seen is dead last. absurd (let never : ⊥ = cc in never);
  };
}

-- no line of a boot file takes a slot
line_takes : (s : State) (line : BootLine) → (after_line s line).taken ≡ s.taken
line_takes s (Pages count) = refl
line_takes s (Partition quota) = refl
line_takes s (Cspace partition) = refl
line_takes s (Addrspace partition) = refl
line_takes s (Doorbell partition) = refl
line_takes s (RootExtent partition) = refl
line_takes s (Extent partition parent offset count access first pages) = refl
line_takes s (Msgqueue partition depth size) = refl
line_takes s (Map space extent base offset count access) = refl
line_takes s (Cap cspace slot object rights master) = refl
line_takes s (Vm cspace space) = refl
line_takes s (Rm cspace space partition) = refl
line_takes s (Link vm extent request reply) = refl

lines_take : (s : State) (lines : List BootLine) → (fold after_line s lines).taken ≡ s.taken
lines_take s [] = refl
lines_take s (line ∷ lines) = lines_take (after_line s line) lines ∙ line_takes s line

-- so it is of each boot file
pub file_calls : (lines : List BootLine) (index : ℕ → ℕ) → HasCalls (start (boot_state lines) index)
file_calls lines index = start_calls (boot_state lines) index (lines_take empty_state lines)
