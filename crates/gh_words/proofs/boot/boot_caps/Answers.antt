-- One word more.
use Rattle.std.proofs.Common.{◌≡◌, ◌/◌, ◌%◌, ◌<◌, ◌∙◌, ap, arith, Option}
use Rattle.std.proofs.lemmas.Nat.{div_below}
use Rattle.gh_base.specs.declared.ids.Serial.{Serial}
use Rattle.gh_base.specs.declared.limits.TheConstants.{OBJECT_INDICES}
use Rattle.gh_words.specs.Booting.{placed_word, slot_word, space_at}
use Rattle.gh_words.specs.declared.plain_words.TheConstants.{SLOT_WORDS}
use Rattle.gh_words.proofs.Puts.{filled_more, one_item}
use Rattle.gh_words.proofs.boot.boot_caps.Goals as goal

pub loop-place-preserved : goal.loop-place-preserved
loop-place-preserved c =
    let within : c.loop-place.place / SLOT_WORDS < OBJECT_INDICES = div_below c.loop-place.place SLOT_WORDS OBJECT_INDICES (omega arith) (omega (arith, c.loop-place-test.true)) in
    let same : c.get-space.result ≡ space_at c.args.boot.now (c.loop-place.place / SLOT_WORDS) =
    one_item c.args.spaces.now (c.loop-place.place / SLOT_WORDS) c.get-space.result (space_at c.args.boot.now (c.loop-place.place / SLOT_WORDS)) c.get-space.ensures (c.requires.spaces (c.loop-place.place / SLOT_WORDS) within) in
    filled_more (placed_word c.args.boot.now) c.loop-place.words c.set.new.self c.loop-place.place c.slot_word.result c.set.ensures.set c.set.ensures.put
    (c.slot_word.ensures ∙ ap (λ (space : Option Serial). slot_word c.args.boot.now space (c.loop-place.place % SLOT_WORDS)) same) c.loop-place.invariant
