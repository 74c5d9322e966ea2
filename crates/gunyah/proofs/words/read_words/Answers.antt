use Rattle.std.proofs.Common.{◌∷◌, ◌∙◌, sym, ap, codes}
use Rattle.gunyah.proofs.WordsLemmas.{step_words}
use Rattle.gunyah.proofs.words.read_words.Goals as goal

pub returns-clause-command : goal.returns-clause-command
returns-clause-command c =
    step_words c.args.words.now c.index-words-1.result c.index-words-2.result (cc) c.index-words-1.is c.index-words-2.is
    ∙ ap (λ files. codes "step" ∷ files) (sym c.in_ok-args.ensures)
