-- The law is the lemma.
use Rattle.gh_events.proofs.SoundRest.{rest_agrees, rest_idle, rest_legal, rest_numbered}
use Rattle.gh_events.proofs.sound.rest_is_legal.Goals as goal

pub returns-clause-agree : goal.returns-clause-agree
returns-clause-agree c = λ conf sound rest. rest_agrees conf sound rest

pub returns-clause-numbered : goal.returns-clause-numbered
returns-clause-numbered c = λ conf cpu sound rest. rest_numbered conf sound rest cpu

pub returns-clause-idle : goal.returns-clause-idle
returns-clause-idle c = λ conf cpu sound rest none. rest_idle conf sound rest cpu none

pub returns-clause-legal : goal.returns-clause-legal
returns-clause-legal c = λ conf sound rest exits. rest_legal conf sound rest exits
