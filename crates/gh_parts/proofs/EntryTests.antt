-- An entry is made exactly where its tests pass.
use Rattle.std.proofs.Common.{◌≡◌, ◌∙◌, Bool, true, false, sym, ap, if◌then◌else◌}
use Rattle.std.specs.Prelude.{◌&&◌}
use Rattle.gh_model.specs.declared.state.State.{State}
use Rattle.gh_parts.specs.Stands.{Stands}
use Rattle.gh_parts.specs.declared.parts.Parts.{Parts}

-- where the first test passes, both do where the second does
pub both_told : (may first second is_first is_second : Bool) → first ≡ is_first → first ≡ true → may ≡ second
    → second ≡ is_second → may ≡ (is_first && is_second)
both_told may first second is_first is_second same passes is also =
    is ∙ also ∙ ap (λ (test : Bool). test && is_second) (sym passes ∙ same)

-- and else not both
pub none_told : (may first is_first is_second : Bool) → first ≡ is_first → first ≡ false → may ≡ false
    → may ≡ (is_first && is_second)
none_told may first is_first is_second same fails is =
    is ∙ ap (λ (test : Bool). test && is_second) (sym fails ∙ same)

-- the parts stand for the rows behind the entry
pub made_told : (parts : Parts) (s after other : State) (may test : Bool) → may ≡ test → may ≡ true
    → Stands parts after → Stands parts (if may then (if test then after else other) else s)
made_told parts s after other true true same is stands = stands
made_told parts s after other true false same is stands = absurd (let never : ⊥ = cc in never)
made_told parts s after other false test same is stands = absurd (let never : ⊥ = cc in never)
