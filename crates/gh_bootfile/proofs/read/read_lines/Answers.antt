use Rattle.std.proofs.Common.{◌≡◌, ◌+◌, [], length, arith, ap, subst, sym, ◌∙◌}
use Rattle.std.proofs.lemmas.Result.{err_from_is_err_and}
use Rattle.gh_bootfile.specs.BootFile.{Answers, Fails, and_then, at_end, lines_on, with_line}
use Rattle.gh_bootfile.specs.Reading.{line_of}
use Rattle.gh_model.specs.Pieces.{pieces_at}
use Rattle.gh_bootfile.proofs.WalkLaw.{lines_step, lines_end, fails_on, length_with_line}
use Rattle.gh_bootfile.proofs.read.read_lines.Goals as goal

pub returns-in_default : goal.returns-in_default
returns-in_default c =
    let last = rw c.in_default.is at c.split_first.ensures.pieces in
    let same : at_end c.lines.draft.lines c.split_first.result.0.now ≡ lines_on [] (pieces_at 10 c.args.text.now) = sym (lines_end c.lines.draft.lines c.lines.rest.now c.split_first.result.0.now last) ∙ c.lines.invariant.whole in
    subst (λ read. Answers (λ boot. boot) c.end.result read) same c.end.ensures

pub returns-in_err-add_line : goal.returns-in_err-add_line
returns-in_err-add_line c =
    let e = err_from_is_err_and c.from_residual.result c.from_residual.ensures.1 in
    let first = rw c.in-Some.is at c.split_first.ensures.pieces in
    let same = sym (lines_step c.lines.draft.lines c.lines.rest.now c.split_first.result.0.now c.in-Some.after.now first) ∙ c.lines.invariant.whole in
    rw (e.1, e.2) (subst (λ read. Fails c.in_err-add_line.field-0.0 read) same (fails_on c.in_err-add_line.field-0.0 (with_line c.lines.draft.lines (line_of c.split_first.result.0.now)) (λ more. lines_on more (pieces_at 10 c.in-Some.after.now)) c.in_err-add_line.ensures.lines))

pub lines-preserved : goal.lines-preserved
lines-preserved c =
    let first = rw c.in-Some.is at c.split_first.ensures.pieces in
    let step = lines_step c.lines.draft.lines c.lines.rest.now c.split_first.result.0.now c.in-Some.after.now first in
    let one = ap (λ read. and_then read (λ more. lines_on more (pieces_at 10 c.in-Some.after.now))) c.in_ok-add_line.ensures.lines in
    let longer : length c.add_line.new.draft.lines ≡ length c.lines.draft.lines + 1 = length_with_line c.lines.draft.lines c.add_line.new.draft.lines (line_of c.split_first.result.0.now) c.in_ok-add_line.ensures.lines in
    let shorter = rw c.in-Some.is at c.split_first.ensures.shorter in
    record { draft = c.in_ok-add_line.ensures.draft; whole = sym one ∙ sym step ∙ c.lines.invariant.whole; count = omega (arith, longer, c.lines.invariant.count); short = omega (arith, shorter, c.lines.invariant.short) }
