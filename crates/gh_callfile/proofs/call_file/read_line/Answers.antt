use Rattle.std.proofs.Common.{rules, ◌+◌, ◌-◌}
use Rattle.std.specs.List.{slice_split}
use Rattle.gh_callfile.specs.Grammar.{line_of}
use Rattle.gh_callfile.specs.CallFile.{is_line_feed, read_from, calls_of}
use Rattle.gh_callfile.proofs.CallFileLemmas.{read_step}
use Rattle.gh_callfile.proofs.call_file.read_line.Goals as goal

pub returns-in_err-line-clause-bad : goal.returns-in_err-line-clause-bad
returns-in_err-line-clause-bad c = λ rest.
    let h = c.in_err-line.ensures.bad c.args.lines.now (read_from (c.args.next.number + 1) (c.args.next.room - calls_of (line_of c.args.text.now)) (slice_split is_line_feed rest)) in
    rw (read_step c.args.next.number c.args.next.room c.args.text.now rest) (search rules)
