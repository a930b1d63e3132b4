use Rattle.act_code_ends.proofs.Common.{subst, All, IsOk, opening, calls_of, kept_of, history, outcomes, IsReachedBy, world_view, IsThrough, opened_of}
use Rattle.act_code_ends.proofs.certified.certified.Goals as goal

pub returns : goal.returns
returns g c =
    let specs = g.O.Opening.casts c.args.opening.now in let events = c.args.play.events.items in let world = world_view g.K.Actor.state c.in_ok-world.world in
    let reached = subst (λ events. IsReachedBy specs events world) c.deref.ensures.value c.in_ok-world.ensures.reached in
    record {
      accepted = subst (λ events. All IsOk (outcomes (opening specs) events)) c.deref.ensures.value c.in_ok-world.ensures.accepted;
      reached = reached;
      through = λ caller first last named. subst (λ casts. IsThrough (g.M.Codes.makes c.args.codes.now caller) g.C.Code.tells (opened_of caller casts)
          (calls_of caller (history specs events)) (kept_of caller (history specs events))) c.requires.same
          (c.in_ok-all_left.ensures c.if-not-branch.false caller first last specs events reached named);
    }
