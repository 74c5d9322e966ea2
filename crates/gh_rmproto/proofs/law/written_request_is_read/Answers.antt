use Rattle.gh_rmproto.proofs.WrittenLemmas.{request_read}
use Rattle.gh_rmproto.proofs.law.written_request_is_read.Goals as goal

pub returns : goal.returns
returns c = request_read
