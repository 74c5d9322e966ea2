-- The mark's looks are those of the call.
use Rattle.std.proofs.Common.{◌≡◌, ◌∙◌, List, [], ◌∷◌, ap, map, refl}
use Rattle.gh_base.specs.declared.cap_word.Look.{Look}
use Rattle.gh_core.specs.Running.{seen_of}
use Rattle.gh_core.specs.declared.current.SeenLook.{SeenLook}
use Rattle.gh_items.specs.Stands.{looks_of, mark_at}
use Rattle.gh_items.proofs.end.mark.Goals as goal
use Rattle.gh_model.specs.Marks.{look_of}

same_looks : (seen : List SeenLook) → looks_of seen ≡ map look_of (map seen_of seen)
same_looks [] = refl
same_looks (one ∷ seen) = ap (λ (looks : List Look). one.look ∷ looks) (same_looks seen)

pub returns : goal.returns
returns c =
    ap (λ (looks : List Look). record (mark_at c.args.cpu.0 c.args.call.now c.args.end c.args.reply) { looks = looks })
    (c.looks.ensures ∙ same_looks c.args.call.now.seen)
