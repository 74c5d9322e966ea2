-- The shares are as many as before, each as long.
use Rattle.std.proofs.Common.{◌∙◌, subst, sym}
use Rattle.std.proofs.lemmas.List.{take_at}
use Rattle.gh_parts.specs.PageMoves.{Follows}
use Rattle.gh_parts.specs.Shares.{AreShares}
use Rattle.gh_parts.proofs.SharesChanged.{shares_changed}
use Rattle.gh_parts.proofs.shares.Shares.follow_run.Goals as goal

pub invariant_of-self : goal.invariant_of-self
invariant_of-self c =
    subst AreShares
    (sym (take_at c.follow_shares.new.shares _ _ (c.follow_shares.ensures.shares ∙ c.as_mut_slice.ensures.len)))
    (shares_changed (Follows c.args.from.0 c.args.to c.args.first c.args.count) c.as_mut_slice.result.now c.follow_shares.new.shares
    c.follow_shares.ensures (subst AreShares (sym c.as_mut_slice.ensures.value) c.self.invariant))
