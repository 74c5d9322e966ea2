-- A history is the front of each longer one.
use Rattle.std.proofs.Common.{◌++◌}
use Rattle.gh_model.proofs.Stays.{calls_stay, front_more}
use Rattle.gh_model.proofs.law.calls_stay_legal.Goals as goal

pub returns : goal.returns
returns c = λ boot history more cpu calls legal. calls_stay history (history ++ more) (front_more history more) boot cpu calls legal
