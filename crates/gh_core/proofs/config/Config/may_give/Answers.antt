-- The test tells whether the call may be given.
use Rattle.std.proofs.Common.{◌≡◌, ◌∙◌, ap, subst, sym, true, IsTrue}
use Rattle.gh_model.specs.Boot.{boot_fits}
use Rattle.gh_core.specs.Giving.{gives}
use Rattle.gh_core.specs.Running.{stands_for}
use Rattle.gh_core.specs.declared.config.Running.{Running}
use Rattle.gh_core.proofs.BootTables.{boot_cpus}
use Rattle.gh_core.proofs.GivingTests.{give_told, tells_give}
use Rattle.gh_core.proofs.LogLemmas.{if_ok}
use Rattle.gh_core.proofs.config.Config.may_give.Goals as goal

pub returns-clause-may : goal.returns-clause-may
returns-clause-may c = if_ok c.gives.result c.gives.ensures (λ may is makes.
    give_told (stands_for c.args.self.now) c.args.cpu.0 c.args.number
    (sym (is ∙ ap (λ (r : Running). gives (stands_for r) c.args.cpu.0 c.args.number) c.running-tables.ensures.same) ∙ makes))

pub returns-clause-no : goal.returns-clause-no
returns-clause-no c = if_ok c.gives.result c.gives.ensures (λ may is cannot possible.
    let within = boot_cpus c.args.self.now.boot (subst (λ (r : Running). IsTrue (boot_fits r.boot)) c.running-tables.ensures.same c.lines-lines.ensures.fits) c.args.cpu.0 possible.is_cpu in
    let holds : gives (stands_for c.args.self.now) c.args.cpu.0 c.args.number ≡ true = tells_give (stands_for c.args.self.now) c.args.cpu.0 c.args.number within possible in
    let told : may ≡ gives (stands_for c.args.self.now) c.args.cpu.0 c.args.number = is ∙ ap (λ (r : Running). gives (stands_for r) c.args.cpu.0 c.args.number) c.running-tables.ensures.same in
    let never : ⊥ = cc in never)
