use Rattle.act_plan_plays.proofs.Moving.{release_asked}
use Rattle.act_plan_plays.proofs.making.release.Goals as goal

pub returns-clause-does : goal.returns-clause-does
returns-clause-does g c = λ casts h behind asked.
    let done = c.in_ok-post.ensures casts h behind in
    record { may = done.0; behind = done.1; asked = release_asked h c.args.c c.args.a c.args.played.now.asked.items asked }
