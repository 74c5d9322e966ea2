use Rattle.gh_bootfile.proofs.FileLaw.{boot_read}
use Rattle.gh_bootfile.proofs.FitsLaw.{boot_of_fits}
use Rattle.gh_bootfile.proofs.laws.read_file_is_its_text.Goals as goal

pub returns-clause-spelled : goal.returns-clause-spelled
returns-clause-spelled c = λ text lines e. (boot_read text lines e).text_is

pub returns-clause-fields : goal.returns-clause-fields
returns-clause-fields c = λ text lines e. (boot_read text lines e).fields

pub returns-clause-fits : goal.returns-clause-fits
returns-clause-fits c = λ text lines e. boot_of_fits text lines e
