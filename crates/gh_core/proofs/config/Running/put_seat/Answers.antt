-- The seat that is set is the CPU that is put.
use Rattle.gh_core.proofs.TableLemmas.{seat_stands}
use Rattle.gh_core.proofs.config.Running.put_seat.Goals as goal

pub returns-clause-put : goal.returns-clause-put
returns-clause-put c = seat_stands c.args.self.now c.args.cpu.0 c.args.seat _ c.requires.within c.requires.kept.nine c.set.ensures
