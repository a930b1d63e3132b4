use Rattle.act_code_ends.proofs.Common.{subst, history, calls_of, kept_of, limits_that_name, opened_with, IsThrough}
use Rattle.act_code_ends.proofs.Playing.{through_is, opened_as}
use Rattle.act_code_ends.proofs.certified.is_through.Goals as goal

pub returns : goal.returns
returns g c holds specs events reached named =
    let left = c.has_left-is.ensures in let h = history specs events in let makes = g.M.Codes.makes c.args.codes.now c.args.c in
    let opened = opened_with c.args.c (limits_that_name c.args.c c.args.casts.now) in
    subst (λ o. IsThrough makes g.C.Code.tells o (calls_of c.args.c h) (kept_of c.args.c h)) (opened_as g.K.Actor.state c.args.c c.args.casts.now)
    (through_is makes g.C.Code.tells h c.args.c (left.same holds) c.in_ok-rehearsed.ensures.places (c.in-Some.ensures.reached specs events reached)
    (c.in_ok-rehearsed.ensures.ended (left.ended holds)) (left.answered holds))
