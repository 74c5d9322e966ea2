-- The word of a slot has what fills it.
use Rattle.std.proofs.Common.{◌∙◌, ap, sym}
use Rattle.gh_invariant.specs.Effects.{losses, object_named}
use Rattle.gh_model.specs.declared.word.Word.{Word}
use Rattle.gh_parts.proofs.FilledWords.{word_row}
use Rattle.gh_parts.proofs.effects.losses.Goals as goal

pub returns-in-DropCapability : goal.returns-in-DropCapability
returns-in-DropCapability g c =
    let row = word_row (g.R.StateReads.rows c.args.rows.now) c.requires c.in-DropCapability.cspace.0 c.in-DropCapability.slot in
    search (c.slot_names.ensures, c.word.ensures, row, c.in-DropCapability.is)

pub returns-in-RevokeCapability : goal.returns-in-RevokeCapability
returns-in-RevokeCapability g c =
    c.object_named.ensures
    ∙ ap (λ (word : Word). object_named word.row) c.word-in-RevokeCapability.ensures
    ∙ ap object_named (word_row (g.R.StateReads.rows c.args.rows.now) c.requires c.in-RevokeCapability.cspace.0 c.in-RevokeCapability.slot)
    ∙ ap (losses (g.R.StateReads.rows c.args.rows.now)) (sym c.in-RevokeCapability.is)
