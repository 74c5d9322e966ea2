-- The law is the lemma.
use Rattle.gh_events.proofs.FewReferences.{present_references}
use Rattle.gh_events.proofs.sound.references_are_few.Goals as goal

pub returns : goal.returns
returns c = λ conf serial sound.
    present_references conf sound.valid.valid sound.state sound.references.placed sound.bound.few_cpus
    sound.bound.few_links serial
