use Rattle.std.proofs.Common.{◌≢◌, length, arith}
use Rattle.std.proofs.lemmas.Bool.Decides.{nat_tests}
use Rattle.gh_callfile.proofs.CallLineLemmas.{no_line_behind}
use Rattle.gh_callfile.proofs.call_line.line_behind.Goals as goal
use Rattle.gh_callfile.proofs.call_line.line_behind.Goals.{in_default-via-then-tail-lt2}
use Rattle.gh_callfile.proofs.call_line.line_behind.Goals.{in_default-via-else-tail-lt2+else-tail-lt3+then-tail-lt4}
use Rattle.gh_callfile.proofs.call_line.line_behind.Goals.{in_default-via-else-tail-lt2+else-tail-lt3+else-tail-lt4+else-tail-lt5}

pub returns-in_default : goal.returns-in_default
returns-in_default c =
    let none : length c.args.tail.now ≢ 0 = grind (arith, nat_tests) in
    elim c.in_default.branch [
      | in_default-via-then-tail-lt2 w ↦
          let two : length c.args.tail.now ≢ 2 = grind (arith, nat_tests) in
          let four : length c.args.tail.now ≢ 4 = grind (arith, nat_tests) in no_line_behind c.args.x c.args.tail.now none two four
      | in_default-via-else-tail-lt2+else-tail-lt3+then-tail-lt4 w ↦
          let two : length c.args.tail.now ≢ 2 = grind (arith, nat_tests) in
          let four : length c.args.tail.now ≢ 4 = grind (arith, nat_tests) in no_line_behind c.args.x c.args.tail.now none two four
      | in_default-via-else-tail-lt2+else-tail-lt3+else-tail-lt4+else-tail-lt5 w ↦
          let two : length c.args.tail.now ≢ 2 = grind (arith, nat_tests) in
          let four : length c.args.tail.now ≢ 4 = grind (arith, nat_tests) in no_line_behind c.args.x c.args.tail.now none two four
    ]
