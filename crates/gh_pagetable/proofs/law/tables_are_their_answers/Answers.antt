-- Lists of one length with the same item at each place are the same.
use Rattle.std.proofs.Common.{None, sym, ◌∙◌, arith}
use Rattle.std.proofs.lemmas.List.{same_lists, get_or_default}
use Rattle.gh_pagetable.proofs.law.tables_are_their_answers.Goals as goal

pub returns : goal.returns
returns c same =
    let first = c.get-first.ensures.size in
    let second = c.get-second.ensures.size in
    same_lists _ _ (first ∙ sym second) (λ k d within.
    get_or_default _ k d None within
    ∙ same k (omega (arith, first))
    ∙ sym (get_or_default _ k d None (omega (arith, first, second))))
