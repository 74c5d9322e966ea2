-- Each counter is that of its scan.
use Rattle.std.proofs.Common.{List, ℕ, subst, sym}
use Rattle.gh_words.specs.Holding.{ScansAll}
use Rattle.gh_words.specs.Moved.{IsAlone}
use Rattle.gh_words.specs.Shows.{Shows}
use Rattle.gh_words.proofs.HolderShown.{scans_made}
use Rattle.gh_words.proofs.holder.PlainWordsWords.counters.Goals as goal

pub returns-clause-made : goal.returns-clause-made
returns-clause-made c =
    subst (λ (seen : List ℕ). ScansAll IsAlone (Shows c.args.self.now) (Shows c.args.self.now) seen) (sym c.all_of.ensures.same)
    (scans_made c.args.self.now c.all_of.ensures.nine)
