use Rattle.std.proofs.Common.{◌≡◌, ◌∷◌, [], rules, sym, ◌∙◌, ap}
use Rattle.std.specs.List.{slice_split}
use Rattle.gh_callfile.specs.CallFile.{is_line_feed, Good, read_from, told_reading}
use Rattle.gh_callfile.proofs.CallFileLemmas.{calls_within, read_to_end}
use Rattle.gh_callfile.proofs.call_file.read_calls.Goals as goal

pub returns-in_err-next-clause-bad : goal.returns-in_err-next-clause-bad
returns-in_err-next-clause-bad c =
    let split : slice_split is_line_feed c.loop-line.rest.now ≡ c.in-Some.line.now ∷ slice_split is_line_feed c.in-Some.behind.now = search rules in
    let bad = c.in_err-next.ensures.bad c.in-Some.behind.now in
    rw (← c.loop-line.invariant.rest, split) (search rules)

pub returns-then-is_empty : goal.returns-then-is_empty
returns-then-is_empty c =
    let split : slice_split is_line_feed c.loop-line.rest.now ≡ c.loop-line.rest.now ∷ [] = search rules in
    let whole = read_to_end c.loop-line.lines c.loop-line.next.number c.loop-line.next.room c.loop-line.rest.now split (search rules) in
    let exact : read_from 1 c.args.room (slice_split is_line_feed c.args.text.now) ≡ Good c.into_vec.result.items =
    sym c.loop-line.invariant.rest ∙ whole ∙ ap Good (sym c.into_vec.ensures) in
    record { ok = ap told_reading exact; room = calls_within 1 c.args.room _ _ exact; bad = search rules }
