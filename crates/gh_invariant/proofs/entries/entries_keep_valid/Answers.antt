-- Each entry's change keeps the state valid, and counting the entry ends it.
use Rattle.gh_invariant.proofs.EntriesKept.{parted_valid, reclaimed_valid, retired_valid, unmade_valid}
use Rattle.gh_invariant.proofs.entries.entries_keep_valid.Goals as goal

pub returns-clause-part : goal.returns-clause-part
returns-clause-part c = λ s space slot valid. parted_valid s valid space slot

pub returns-clause-retirement : goal.returns-clause-retirement
returns-clause-retirement c = λ s serial seen valid. retired_valid s valid serial seen

pub returns-clause-reclaim : goal.returns-clause-reclaim
returns-clause-reclaim c = λ s serial valid. reclaimed_valid s valid serial

pub returns-clause-number : goal.returns-clause-number
returns-clause-number c = λ s valid. unmade_valid s valid
