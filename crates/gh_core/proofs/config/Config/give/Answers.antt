-- A CPU of the boot is one of the nine.
use Rattle.std.proofs.Common.{subst, IsTrue}
use Rattle.gh_model.specs.Boot.{boot_fits}
use Rattle.gh_core.specs.declared.config.Running.{Running}
use Rattle.gh_core.proofs.BootTables.{boot_cpus}
use Rattle.gh_core.proofs.config.Config.give.Goals as goal

pub seat-requires-clause-within : goal.seat-requires-clause-within
seat-requires-clause-within c = boot_cpus c.args.self.now.boot (subst (λ (r : Running). IsTrue (boot_fits r.boot)) c.self.view_is c.lines-lines.ensures.fits) c.args.cpu.0 c.requires.is_cpu

pub put_seat-requires-clause-within : goal.put_seat-requires-clause-within
put_seat-requires-clause-within c = boot_cpus c.args.self.now.boot (subst (λ (r : Running). IsTrue (boot_fits r.boot)) c.self.view_is c.lines-lines.ensures.fits) c.args.cpu.0 c.requires.is_cpu
