use Rattle.act_walks.proofs.Common.{subst, parts_of, Hears}
use Rattle.act_walks.proofs.Deaths.{hear_none, hear_moves}
use Rattle.act_walks.proofs.hearing.hear.Goals as goal

pub returns-then-not-may_tell : goal.returns-then-not-may_tell
returns-then-not-may_tell g c = hear_none c.args.end.now c.args.c c.args.a (parts_of g.K.Actor.state c.args.walk.now) (λ casts h before behind.
    subst (λ b. Hears c.args.end.now c.args.c c.args.a h b) c.if-not-may_tell.true (c.may_tell.ensures casts h before behind))

pub returns : goal.returns
returns g c = hear_moves c.args.end.now c.args.c c.args.a (λ casts h before behind. subst (λ b. Hears c.args.end.now c.args.c c.args.a h b)
    c.if-not-may_tell.false (c.may_tell.ensures casts h before behind)) c.in_ok-tell.ensures
