use Rattle.std.proofs.Common.{◌≡◌, true, false, ap, subst, sym, ◌∙◌}
use Rattle.std.specs.Str.{bytes_eq}
use Rattle.std.proofs.lemmas.Bool.{cond-true, cond-false}
use Rattle.gh_bootfile.specs.BootFile.{Answers, told}
use Rattle.gh_bootfile.specs.Grammar.{format_line}
use Rattle.gh_bootfile.proofs.WalkLaw.{file_step, file_end}
use Rattle.gh_bootfile.proofs.read.read.Goals as goal

pub returns-in_default : goal.returns-in_default
returns-in_default c =
    let first = rw c.in_default.is at c.split_first.ensures.pieces in
    ap told (file_end c.args.text.now c.split_first.result.0.now first)

pub returns-then-not-is_format : goal.returns-then-not-is_format
returns-then-not-is_format c =
    let first = rw c.in-Some.is at c.split_first.ensures.pieces in
    let other : bytes_eq c.split_first.result.0.now format_line ≡ false = sym c.if-not-is_format.ensures in
    ap told (file_step c.args.text.now c.split_first.result.0.now c.in-Some.rest.now first ∙ cond-false _ _ _ other)

pub returns : goal.returns
returns c =
    let first = rw c.in-Some.is at c.split_first.ensures.pieces in
    let format : bytes_eq c.split_first.result.0.now format_line ≡ true = sym c.if-not-is_format.ensures in
    let same = sym (file_step c.args.text.now c.split_first.result.0.now c.in-Some.rest.now first ∙ cond-true _ _ _ format) in
    subst (λ read. Answers (λ boot. boot) c.read_lines.result read) same c.read_lines.ensures
