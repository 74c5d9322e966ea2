-- The counter is one more.
use Rattle.std.proofs.Common.{arith, ap, ◌∙◌, ◌+◌, ℕ}
use Rattle.gh_words.proofs.CallsMade.{counter_low, counter_read, leave_made}
use Rattle.gh_words.proofs.plain_words.PlainWords.leave.Goals as goal

pub count_on-requires-clause-room : goal.count_on-requires-clause-room
count_on-requires-clause-room c =
    omega (arith, counter_read c.args.self.now c.requires.conf c.args.cpu.0 c.requires.is_shown c.requires.holds.is_cpu, counter_low c.args.self.now c.requires.conf c.args.cpu.0 c.requires.is_shown c.requires.holds)

pub returns-clause-counter : goal.returns-clause-counter
returns-clause-counter c conf shown =
    c.count_on.ensures.counter ∙ ap (λ (n : ℕ). n + 1) (counter_read c.args.self.now conf c.args.cpu.0 shown c.requires.holds.is_cpu)

pub returns-clause-made : goal.returns-clause-made
returns-clause-made c conf shown leaves may =
    leave_made c.args.self.now c.count_on.new.self conf c.args.cpu.0 c.count_on.result shown leaves may c.count_on.ensures.counter c.count_on.ensures.put
