-- It is one event, with a slot or without.
use Rattle.std.proofs.Common.{ℕ, [], Option, subst, sym}
use Rattle.gh_base.specs.declared.cap_word.CapWord.{CapWord}
use Rattle.gh_base.specs.declared.ids.ObjIndex.{ObjIndex}
use Rattle.gh_words.specs.Holding.{committing, entered, entering, setting}
use Rattle.gh_words.specs.Moved.{May}
use Rattle.gh_words.specs.Steady.{MakesAll}
use Rattle.gh_words.proofs.Making.{makes_one, may_first}
use Rattle.gh_words.proofs.turns.make.Goals as goal

pub commit-requires-clause-may : goal.commit-requires-clause-may
commit-requires-clause-may g c =
    subst (λ (set : Option (ObjIndex × ℕ × CapWord)). May (g.W.Words.shows c.args.words.now) (entering c.args.entry.now set)) c.in-None.is
    (may_first (g.W.Words.shows c.args.words.now) (entering c.args.entry.now c.args.set) (λ cpu. []) c.requires.can)

pub set_cap-requires-clause-may : goal.set_cap-requires-clause-may
set_cap-requires-clause-may g c =
    subst (λ (set : Option (ObjIndex × ℕ × CapWord)). May (g.W.Words.shows c.args.words.now) (entering c.args.entry.now set)) c.in-Some.is
    (may_first (g.W.Words.shows c.args.words.now) (entering c.args.entry.now c.args.set) (λ cpu. []) c.requires.can)

pub returns-in-None-clause-made : goal.returns-in-None-clause-made
returns-in-None-clause-made g c =
    subst (λ (set : Option (ObjIndex × ℕ × CapWord)). MakesAll g.W.Words.between (g.W.Words.shows c.args.words.now) (g.W.Words.shows c.commit.new.self) (entered c.args.entry.now set)) (sym c.in-None.is)
    (makes_one g.W.Words.between (g.W.Words.shows c.args.words.now) (g.W.Words.shows c.commit.new.self) (committing c.args.entry.now) c.commit.ensures.made)

pub returns-in-Some-clause-made : goal.returns-in-Some-clause-made
returns-in-Some-clause-made g c =
    subst (λ (set : Option (ObjIndex × ℕ × CapWord)). MakesAll g.W.Words.between (g.W.Words.shows c.args.words.now) (g.W.Words.shows c.set_cap.new.self) (entered c.args.entry.now set)) (sym c.in-Some.is)
    (makes_one g.W.Words.between (g.W.Words.shows c.args.words.now) (g.W.Words.shows c.set_cap.new.self) (setting c.args.entry.now c.in-Some.space c.in-Some.slot c.in-Some.word) c.set_cap.ensures.made)
