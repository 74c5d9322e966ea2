-- Each part of the text is read back.
use Rattle.gh_text.proofs.Texts.{texts}
use Rattle.gh_text.proofs.law.text_determines.Goals as goal

pub returns-clause-entries : goal.returns-clause-entries
returns-clause-entries c entries others marks calls s t fit fits same =
    (texts entries others marks calls s t fit fits same).same_entries

pub returns-clause-calls : goal.returns-clause-calls
returns-clause-calls c entries others marks calls s t fit fits same =
    (texts entries others marks calls s t fit fits same).same_calls

pub returns-clause-state : goal.returns-clause-state
returns-clause-state c entries others marks calls s t fit fits same =
    (texts entries others marks calls s t fit fits same).same_state
