use Rattle.act_serve.proofs.Answered as due
use Rattle.act_serve.proofs.laws.replies_are_due.Goals as goal

pub returns : goal.returns
returns c = due.replies_are_due
