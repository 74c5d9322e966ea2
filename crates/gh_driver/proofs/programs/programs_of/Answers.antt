-- One program more.
use Rattle.std.proofs.Common.{◌++◌, ◌∙◌, [], ◌∷◌, ◌≡◌, ◌+◌, ap, arith, map, sym}
use Rattle.std.specs.List.{range_with_len}
use Rattle.std.proofs.lemmas.List.FromFn.{map-range_with_len_more}
use Rattle.gh_driver.specs.Follows.{first_program}
use Rattle.gh_driver.proofs.programs.programs_of.Goals as goal

pub loop-at-preserved : goal.loop-at-preserved
loop-at-preserved c = record {
  made = c.in_ok-push.ensures.ok
      ∙ ap (λ programs. programs ++ c.in_ok-program_of.field-0 ∷ []) c.loop-at.invariant.made
      ∙ ap (λ program. map (first_program c.args.files.now c.args.rows.now) (range_with_len 0 c.loop-at.at) ++ program ∷ []) c.in_ok-program_of.ensures
      ∙ sym (map-range_with_len_more (first_program c.args.files.now c.args.rows.now) 0 c.loop-at.at c.loop-at.at (let sum : 0 + c.loop-at.at ≡ c.loop-at.at = omega arith in sum));
}
