use Rattle.act_drive.proofs.Common.{rules, ◌≡◌, ◌∙◌, ◌<◌, ℕ, [], ◌∷◌, ◌++◌, ap, sym, length, get_or, is_some, true, get_or_default, take-map, kept_at, Await}
use Rattle.act_drive.proofs.CodeSteps.{answered_more, waited_more, hears_trans, later_trans}
use Rattle.act_drive.proofs.session.Session.wait_all.Goals as goal

pub returns-then-is_err-clause-does_some : goal.returns-then-is_err-clause-does_some
returns-then-is_err-clause-does_some g c =
    let same : (g.Self.Session.seen c.wait.new.self).did ≡ (g.Self.Session.seen c.loop-k.self).did = search rules in (
      c.loop-k.k-index,
      same ∙ c.loop-k.invariant.does ∙ ap (λ l. (g.Self.Session.seen c.args.self.now).did ++ l) (sym (take-map Await c.loop-k.k-index c.args.futures.now)),
    )

pub loop-k-preserved : goal.loop-k-preserved
loop-k-preserved g c =
    let ks = c.args.futures.now in let k = c.k-item.result in let old = g.Self.Session.seen c.args.self.now in let mid = g.Self.Session.seen c.loop-k.self in
    let new = g.Self.Session.seen c.wait.new.self in let long : c.loop-k.k-index < length ks = search rules in
    let here : (d : ℕ) → get_or ks c.loop-k.k-index d ≡ k = λ d. get_or_default ks c.loop-k.k-index d k long ∙ sym c.k-item.is in
    let answered : is_some (kept_at new.kept k) ≡ true = search rules in let does : new.did ≡ mid.did ++ Await k ∷ [] = search rules in
    record {
      answered = answered_more mid.kept new.kept ks k long here c.wait.ensures.on.kept answered c.loop-k.invariant.answered;
      does = waited_more old mid new ks k long here c.loop-k.invariant.does does;
      hears = hears_trans c.loop-k.invariant.hears c.wait.ensures.hears;
      later = later_trans c.loop-k.invariant.later c.wait.ensures.on;
    }
