use Rattle.act_plan_plays.proofs.Common.{◌∙◌, ap, is_none}
use Rattle.act_plan_plays.proofs.Seen.{none_not}
use Rattle.act_plan_plays.proofs.moves.may_submit.Goals as goal

pub returns : goal.returns
returns c = none_not c.submission_refusal.result c.is_none.result c.is_none.ensures ∙ ap (λ o. is_none o) c.submission_refusal.ensures
