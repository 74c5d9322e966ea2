-- The word that is found has its object's index, and the call goes on from the look.
use Rattle.std.proofs.Common.{◌∙◌, List, ap, map, max, subst, sym}
use Rattle.gh_base.specs.declared.ids.ObjIndex.{ObjIndex}
use Rattle.gh_events.specs.CallEvents.{looked}
use Rattle.gh_events.specs.Entries.{shown}
use Rattle.gh_core.specs.Running.{seen_of}
use Rattle.gh_core.specs.declared.current.CurrentCall.{CurrentCall}
use Rattle.gh_core.specs.declared.current.SeenLook.{SeenLook}
use Rattle.gh_items.specs.Held.{HeldIn}
use Rattle.gh_items.specs.Stands.{IsNamed, index_in}
use Rattle.gh_items.proofs.LookLemmas.{look_stands, seen_is, word_is, word_named}
use Rattle.gh_items.proofs.look_item.look.Goals as goal
use Rattle.gh_model.specs.Marks.{place_after_looks}
use Rattle.gh_model.specs.Word.{word_at}
use Rattle.gh_model.specs.declared.state.State.{State}

pub cap_word-requires : goal.cap_word-requires
cap_word-requires g c =
    let held = c.requires.0 in
    let sees = c.requires.1.0 in
    subst (λ (places : List ObjIndex). IsNamed places c.word-word.result.row) (sym sees.indices)
    (word_named g.from.progress g.from.conf g.from.at c.args.call.now held.stands held.sound held.within c.requires.1.1.0
    c.args.slot c.args.need c.requires.1.1.1.0 c.args.seat sees.seated c.word-word.result
    (c.word-word.ensures
    ∙ ap (λ (s : State). word_at s c.args.seat.cspace.0 c.args.slot) sees.state
    ∙ word_is g.from.progress g.from.conf g.from.at c.args.call.now held.stands held.sound held.within c.requires.1.1.0
    c.args.slot c.args.need c.requires.1.1.1.0 c.args.seat sees.seated))

pub returns : goal.returns
returns g c =
    let held = c.requires.0 in
    let sees = c.requires.1.0 in
    subst (λ (call : CurrentCall). HeldIn g.from call (looked g.from.conf g.from.at c.args.slot)) (sym c.put_look.ensures)
    (look_stands g.from.progress g.from.conf g.from.at c.args.call.now held.stands held.sound held.within c.requires.1.1.0
    c.args.slot c.args.need c.requires.1.1.1.0 c.args.seat sees.seated _
    (seen_is g.from.progress g.from.conf g.from.at c.args.call.now held.stands held.sound held.within c.requires.1.1.0
    c.args.slot c.args.need c.requires.1.1.1.0 c.args.seat sees.seated c.word-word.result c.cap_word.result c.max-place.result
    (c.word-word.ensures
    ∙ ap (λ (s : State). word_at s c.args.seat.cspace.0 c.args.slot) sees.state
    ∙ word_is g.from.progress g.from.conf g.from.at c.args.call.now held.stands held.sound held.within c.requires.1.1.0
    c.args.slot c.args.need c.requires.1.1.1.0 c.args.seat sees.seated)
    (c.cap_word.ensures ∙ ap (λ (places : List ObjIndex). shown (index_in places) c.word-word.result) sees.indices)
    (c.max-place.ensures
    ∙ ap (max c.word-word.result.set_at)
    (c.last_place.ensures ∙ ap (λ (seen : List SeenLook). place_after_looks c.args.seat.place (map seen_of seen)) c.as_slice.ensures))))
