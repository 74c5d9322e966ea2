-- The rows are those of the boot file and the log.
use Rattle.gh_parts.specs.Past.{past_of, rows_of}
use Rattle.gh_parts.proofs.ledger.Ledger.act.Given as goal

abbrev pub ghost-act : goal.ghost-act
ghost-act a = rows_of (past_of a.self.now.boot a.self.now.log)
