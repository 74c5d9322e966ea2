use Rattle.gunyah.proofs.StepLemmas.{load_text}
use Rattle.gunyah.proofs.load.load_file.Goals as goal

pub returns-in-Ok-clause-text : goal.returns-in-Ok-clause-text
returns-in-Ok-clause-text g c =
    load_text _ c.args.name.now c.args.number c.in-Ok.bytes.items c.sized_file.result c.in-Ok.ensures.bytes c.sized_file.ensures.size
