-- The pages so far are held.
use Rattle.std.proofs.Common.{◌≡◌, ℕ, ◌+◌, ◌<◌, true}
use Rattle.gh_model.specs.Memory.{holds_page}
use Rattle.gh_addrspace.proofs.pages.held_pages.Given as goal

abbrev pub invariant-loop-page : goal.invariant-loop-page
invariant-loop-page g l = (k : ℕ) → k < l.page → holds_page (g.H.Holders.holders l.fn.holders) l.fn.extent.0 (l.fn.first + k) ≡ true
