-- The law is the lemma.
use Rattle.gh_events.proofs.sound.words_count_references.Goals as goal

pub returns-clause-alive : goal.returns-clause-alive
returns-clause-alive c = λ conf row sound is alive. sound.references.counted.counts row is alive

pub returns-clause-dead : goal.returns-clause-dead
returns-clause-dead c = λ conf at sound within dead. sound.references.counted.dead_counts at within dead
