-- The counters of entries are at most the holder's scans.
use Rattle.std.proofs.Common.{◌∙◌, ap, sym, Option}
use Rattle.gh_events.specs.Config.{Holder}
use Rattle.gh_events.specs.Grace.{scan_of}
use Rattle.gh_words.proofs.law.scans_are_latest.Goals as goal

pub returns : goal.returns
returns c conf seen cpu counter sound has within is =
    (sound.grace.each cpu within).kept_scanned counter
    (ap (λ (turn : Option Holder). scan_of turn cpu) has.turn ∙ sym (has.scans.each cpu within) ∙ is)
