-- The account is opened, and then the partition is entered at the first index of a free place.
use Rattle.gh_parts.proofs.StandsBooted.{booting_found, booting_index, booting_place, booting_stands}
use Rattle.gh_parts.proofs.parts.Parts.add_partition.Goals as goal

pub enter-requires-clause-index : goal.enter-requires-clause-index
enter-requires-clause-index g c =
    booting_index c.args.self.now g.s c.requires.stands c.requires.valid c.args.quota c.requires.may
    c.boot.new.self c.in_ok-boot.ensures.ok c.in-Some.index c.in-Some.ensures

pub enter-requires-clause-place : goal.enter-requires-clause-place
enter-requires-clause-place g c same =
    booting_place c.args.self.now g.s c.requires.stands c.requires.valid c.args.quota c.requires.may
    c.boot.new.self c.in_ok-boot.ensures.ok

pub returns-in-Some-clause-ok : goal.returns-in-Some-clause-ok
returns-in-Some-clause-ok g c =
    booting_stands c.args.self.now g.s c.requires.stands c.requires.valid c.args.quota c.requires.may
    c.boot.new.self c.in_ok-boot.ensures.ok c.in-Some.index c.enter.new.self c.in-Some.ensures
    c.enter.ensures.entered c.enter.ensures.counted

pub returns-in_default-clause-ok : goal.returns-in_default-clause-ok
returns-in_default-clause-ok g c =
    absurd (booting_found c.args.self.now g.s c.requires.stands c.requires.valid c.args.quota c.requires.may
    c.boot.new.self c.in_ok-boot.ensures.ok c.in_default.ensures)
