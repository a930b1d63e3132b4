use Rattle.act_plan_plays.proofs.Common.{add_event}
use Rattle.act_plan_plays.proofs.Events.{post_mail, post_none}
use Rattle.act_plan_plays.proofs.played.post.Goals as goal

pub returns-in_ok-bring : goal.returns-in_ok-bring
returns-in_ok-bring g c = λ casts h behind.
    let done = c.in_ok-told.ensures.behind casts h behind in (
      done.0,
      post_mail casts h c.args.event done.1 c.in-Mail.is (c.in_ok-bring.ensures casts (add_event h c.args.event) done.2),
    )

pub returns-in_default : goal.returns-in_default
returns-in_default g c = λ casts h behind.
    let done = c.in_ok-told.ensures.behind casts h behind in (
      done.0,
      post_none casts h c.args.event done.1 c.in_default.not-Mail done.2,
    )
