-- The lines, what they make and the table of mappings go on together.
use Rattle.std.proofs.Common.{refl}
use Rattle.gh_bootfile.proofs.DraftLemmas.{draft_more}
use Rattle.gh_bootfile.proofs.draft.Draft.add.Goals as goal

pub returns-clause-draft : goal.returns-clause-draft
returns-clause-draft c =
    draft_more c.args.self.now _ c.args.line c.requires.draft c.requires.fits c.mapping-made.result c.in_ok-push.ensures.ok c.in_ok-make.ensures
    (rw (c.mapping-made.ensures, c.as_slice.ensures, c.len-known.ensures) refl)
    (c.in_ok-add_mapping.ensures c.args.self.now.state.mappings c.requires.draft.mapped)
