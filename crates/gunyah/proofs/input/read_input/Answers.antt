use Rattle.std.proofs.Common.{◌∷◌, ◌-◌, length, take, drop}
use Rattle.gunyah.proofs.InputLemmas.{reads_texts}
use Rattle.gunyah.proofs.input.read_input.Goals as goal

pub returns-clause-texts : goal.returns-clause-texts
returns-clause-texts c =
    reads_texts (c.as_slice.result.now ∷ c.as_slice-2.result.now ∷ take (length c.args.texts.now - 2) (drop 2 c.args.texts.now)) c.forms.result c.forms.ensures.reads
