-- The parts before any boot line.
use Rattle.std.specs.Prelude.{[], None, replicate}
use Rattle.gh_base.specs.declared.limits.TheConstants.{OBJECT_INDICES}
use Rattle.gh_objects.specs.Counts.{no_counts}
use Rattle.gh_objects.specs.Headers.{no_headers}
use Rattle.gh_parts.specs.Shares.{no_shares}
use Rattle.gh_parts.specs.declared.journal.Journal.{Journal}
use Rattle.gh_parts.specs.declared.journal.Memory.TheVariants.{Bare}
use Rattle.gh_parts.specs.declared.parts.Parts.{Parts}

-- nothing is recorded
abbrev pub no_journal : Journal
no_journal = record {
  counts = no_counts;
  retirements = replicate OBJECT_INDICES None;
  slots = [];
  accounts = [];
  memory = Bare 0;
  cpus = [];
  links = [];
  taken = [];
  entries = 0;
  next_serial = 1;
  next_handle = 1;
  rings = 0;
}

-- no object lives
abbrev pub no_parts : Parts
no_parts = record { table = no_headers; shares = no_shares; journal = no_journal }
