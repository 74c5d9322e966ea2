-- Steps along the lines of a boot file.
use Rattle.std.proofs.Common.{◌≡◌, ◌+◌, ◌≤◌, ◌<◌, ℕ, List, length, drop, get_or, fold, IsTrue, refl, subst, sym, suc, add-one, drop-cons, ◌∙◌, arith}
use Rattle.gh_model.specs.declared.boot_line.BootLine.{BootLine}
use Rattle.gh_model.specs.declared.boot_line.BootLine.TheVariants.{Pages, Partition, Cspace, Addrspace, Doorbell, RootExtent, Extent, Msgqueue, Map, Cap, Vm, Rm, Link}
use Rattle.gh_model.specs.declared.state.State.{State}
use Rattle.gh_model.specs.Boot.{line_fits, lines_fit, after_line, empty_state, boot_state}
use Rattle.gh_model.proofs.Tests.{and-second}
use Rattle.std.specs.Prelude.{[], ◌∷◌}

-- behind a line that fits, the lines that are left fit
pub lines_fit_rest : (s : State) (lines : List BootLine) (i : ℕ) (d : BootLine) → i < length lines → IsTrue (lines_fit s (drop i lines)) → IsTrue (lines_fit (after_line s (get_or lines i d)) (drop (i + 1) lines))
lines_fit_rest s lines i d within fit =
    let here : drop i lines ≡ get_or lines i d ∷ drop (suc i) lines = drop-cons lines i d within in
    rw add-one (and-second (line_fits s (get_or lines i d)) _ (subst (λ (ls : List BootLine). IsTrue (lines_fit s ls)) here fit))

-- the lines that are left make the same of the state behind the next line
pub fold_rest : (s : State) (lines : List BootLine) (i : ℕ) (d : BootLine) → i < length lines → fold after_line (after_line s (get_or lines i d)) (drop (i + 1) lines) ≡ fold after_line s (drop i lines)
fold_rest s lines i d within =
    let here : drop i lines ≡ get_or lines i d ∷ drop (suc i) lines = drop-cons lines i d within in
    rw add-one (rw here refl)

-- no line rings or makes an entry
pub after_line-rings : (s : State) (line : BootLine) → (after_line s line).rings ≡ s.rings
after_line-rings s (Pages count) = refl
after_line-rings s (Partition quota) = refl
after_line-rings s (Cspace partition) = refl
after_line-rings s (Addrspace partition) = refl
after_line-rings s (Doorbell partition) = refl
after_line-rings s (RootExtent partition) = refl
after_line-rings s (Extent partition parent offset count access held_offset held_count) = refl
after_line-rings s (Msgqueue partition depth size) = refl
after_line-rings s (Map space extent base offset count access) = refl
after_line-rings s (Cap cspace slot object rights master) = refl
after_line-rings s (Vm cspace space) = refl
after_line-rings s (Rm cspace space partition) = refl
after_line-rings s (Link vm extent request reply) = refl

pub fold-rings : (s : State) (lines : List BootLine) → (fold after_line s lines).rings ≡ s.rings
fold-rings s [] = refl
fold-rings s (line ∷ lines) = fold-rings (after_line s line) lines ∙ after_line-rings s line

pub boot_rings : (s : State) (lines : List BootLine) → s ≡ boot_state lines → s.rings ≤ s.entries
boot_rings s lines is =
    let none : (boot_state lines).rings ≡ 0 = fold-rings empty_state lines in
    subst (λ (t : State). t.rings ≤ t.entries) (sym is) (omega (arith, none))
