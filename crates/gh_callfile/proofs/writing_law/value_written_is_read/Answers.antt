-- Each kind of value by its lemma.
use Rattle.gh_callfile.proofs.RegisterLemmas.{register_again}
use Rattle.gh_callfile.proofs.WritingLemmas.{bytes_again, repeat_again}
use Rattle.gh_callfile.proofs.writing_law.value_written_is_read.Goals as goal

pub returns : goal.returns
returns c = record { registers = register_again; repeats = repeat_again; bytes = bytes_again }
