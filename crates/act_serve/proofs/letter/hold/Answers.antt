use Rattle.act_serve.proofs.Common.{◌≡◌, [], ◌∷◌, ◌++◌, ap, sym, subst, LiveView, Call, IsFed}
use Rattle.act_serve.proofs.Logs.{fed_arrive}
use Rattle.std.proofs.lemmas.Result.{on_err_weaker}
use Rattle.act_serve.proofs.letter.hold.Goals as goal

pub returns-clause-fed : goal.returns-clause-fed
returns-clause-fed g c =
    let before = c.args.live.now in let after = c.arrive.new.self in let packet = c.args.packet in
    λ callers letters h.
    subst (λ s. IsFed callers (letters ++ Call packet ∷ []) s) (sym c.arrive.ensures.same)
    (fed_arrive packet after.inbox c.arrive.result c.arrive.ensures.lanes c.arrive.ensures.notes c.arrive.ensures.arrival c.arrive.ensures.waiting
    (on_err_weaker {P = after ≡ before} {Q = after.inbox ≡ before.inbox} c.arrive.result (ap (λ (s : LiveView _). s.inbox)) c.arrive.ensures.err) h)
