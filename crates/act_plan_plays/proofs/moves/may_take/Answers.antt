use Rattle.act_plan_plays.proofs.Common.{◌∙◌, ap, sym, may_take}
use Rattle.act_plan_plays.proofs.moves.may_take.Goals as goal

pub returns-in-Submit : goal.returns-in-Submit
returns-in-Submit c = c.may_submit.ensures ∙ ap (may_take c.args.owner.now) (sym c.in-Submit.is)
