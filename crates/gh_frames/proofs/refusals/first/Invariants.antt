use Rattle.std.proofs.Common.{◌≡◌, drop}
use Rattle.gh_model.specs.Registers.{first_of}
use Rattle.gh_frames.proofs.refusals.first.Given as goal

-- the refusals that are left decide
abbrev pub invariant-loop-holds : goal.invariant-loop-holds
invariant-loop-holds l = first_of (drop l.holds-index l.refusals) ≡ first_of l.refusals
