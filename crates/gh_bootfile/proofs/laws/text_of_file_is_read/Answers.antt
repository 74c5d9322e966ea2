use Rattle.gh_bootfile.proofs.FileLaw.{boot_again}
use Rattle.gh_bootfile.proofs.laws.text_of_file_is_read.Goals as goal

pub returns : goal.returns
returns c = boot_again
