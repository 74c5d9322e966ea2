-- The row is that of the first number.
use Rattle.std.proofs.Common.{◌∙◌, ap, sym, List, slice_get}
use Rattle.gh_model.specs.declared.rows.ObjectRow.{ObjectRow}
use Rattle.std.specs.List.{position}
use Rattle.gh_words.specs.Booting.{is_number, row_number}
use Rattle.gh_words.proofs.BootLemmas.{found_none, found_some}
use Rattle.gh_words.proofs.boot_index.object_at.Goals as goal

pub returns-in-None : goal.returns-in-None
returns-in-None c =
    sym (found_none (row_number c.args.boot.now) (is_number c.args.at) c.args.boot.now.objects
    (ap (position (is_number c.args.at)) (sym c.requires) ∙ sym c.place_of.ensures ∙ c.in-None.is))

pub returns-in-Some : goal.returns-in-Some
returns-in-Some c =
    c.row_at.ensures ∙ ap (λ (rows : List ObjectRow). slice_get rows c.in-Some.place) c.as_slice.ensures
    ∙ found_some (row_number c.args.boot.now) (is_number c.args.at) c.args.boot.now.objects c.in-Some.place
    (ap (position (is_number c.args.at)) (sym c.requires) ∙ sym c.place_of.ensures ∙ c.in-Some.is)
