-- Each division by a field's weight leaves the fields above it, and each remainder is the field.
use Rattle.std.proofs.lemmas.Nat.{div-mul-add, mod-mul-add}
use Rattle.gh_base.proofs.cap_word.pack.Goals as goal

pub returns-clause-fields : goal.returns-clause-fields
returns-clause-fields c =
    rw (
      div-mul-add _ 4294967296 _ c.requires.set_at_fits,
      mod-mul-add _ 4294967296 _ c.requires.set_at_fits,
      div-mul-add _ 65536 _ c.requires.rights_fits,
      mod-mul-add _ 65536 _ c.requires.rights_fits,
      div-mul-add _ 1024 _ c.requires.object_fits,
      mod-mul-add _ 1024 _ c.requires.object_fits,
      div-mul-add _ 2 _ c.requires.master_fits,
      mod-mul-add _ 2 _ c.requires.master_fits,
      div-mul-add _ 8 _ c.requires.kind_fits,
      mod-mul-add _ 8 _ c.requires.kind_fits,
    )
