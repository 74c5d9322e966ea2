-- One CPU more.
use Rattle.std.proofs.Common.{◌≡◌, ap, ℕ}
use Rattle.gh_words.specs.Booting.{home_index}
use Rattle.gh_words.proofs.Puts.{filled_more}
use Rattle.gh_words.proofs.boot.homes.Goals as goal

pub loop-cpu-preserved : goal.loop-cpu-preserved
loop-cpu-preserved c =
    let home : c.home_of.result ≡ home_index c.args.boot.now c.loop-cpu.cpu = ap (λ (n : ℕ). record { 0 = n }) c.home_of.ensures in
    filled_more (home_index c.args.boot.now) c.loop-cpu.homes c.set.new.self c.loop-cpu.cpu c.home_of.result c.set.ensures.set c.set.ensures.put home c.loop-cpu.invariant
