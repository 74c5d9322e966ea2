-- Live address spaces, each by its serial, and how they change.
use Rattle.std.specs.Prelude.{◌≡◌, ⊤, ℕ, List, Option, Some, None}
use Rattle.gh_base.specs.declared.ids.Serial.{Serial}
use Rattle.gh_addrspace.specs.Space.{Shows, Space}
use Rattle.gh_model.specs.declared.memory.Span.{Span}

-- a space that lives has changed so, and one that doesn't live doesn't live now
abbrev pub Becomes : (Space → Space → Type 0) → Option Space → Option Space → Type 0
Becomes change None None = ⊤
Becomes change None (Some new) = ⊥
Becomes change (Some old) None = ⊥
Becomes change (Some old) (Some new) = change old new

-- the space with this serial has changed so, and every other is as it was
pub record Changes (old new : ℕ → Option Space) (space : ℕ)
    (change : Space → Space → Type 0) : Type 0 where
  pub changed : Becomes change (old space) (new space)
  pub others : (other : ℕ) → (other ≡ space → ⊥) → new other ≡ old other

-- every space is as it was
abbrev pub Stay : (ℕ → Option Space) → (ℕ → Option Space) → Type 0
Stay old new = (space : ℕ) → new space ≡ old space

-- the space shows who holds the pages now, if the old one showed who held them
abbrev pub KeepsShowing :
    (ℕ → Option Span) → List Serial → List Serial → Space → Space → Type 0
KeepsShowing spans held holds old new = Shows spans held old → Shows spans holds new
