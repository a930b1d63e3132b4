use Rattle.act_decisions.proofs.Common.{◌==◌, List, [], ◌∷◌, ℕ, sym, subst, rules, tests, map-append, Bor, YieldsList-end, YieldsList-from_slice_split, Make}
use Rattle.act_decisions.proofs.Told.{one_more}
use Rattle.act_decisions.proofs.Exact.{Follows, follows_more, follows_whole}
use Rattle.act_decisions.proofs.parts.second_part.Goals as goal

pub loop-line-preserved : goal.loop-line-preserved
loop-line-preserved c =
    let pushed = c.in_ok-left.ensures.made in
    record {
      made = one_more c.loop-line.yielded c.in-Some.line pushed.0 _ _ pushed.1 pushed.2 c.loop-line.invariant.made;
      exact = subst (λ lines. Follows lines c.args.shown.now c.push_beside.new.text.items c.in_ok-left.left.now)
          (sym (map-append (λ (line : Bor (List ℕ)). line.now) c.loop-line.yielded (c.in-Some.line ∷ [])))
          (follows_more _ c.in-Some.line.now c.push_beside.new.text.items c.in_ok-left.left.now c.loop-line.invariant.exact c.in_ok-left.ensures.exact);
    }

pub returns-clause-told : goal.returns-clause-told
returns-clause-told c =
    subst (λ lines. Make lines c.loop-line.text.items)
    (YieldsList-end (YieldsList-from_slice_split _ (λ b. b == 10) c.args.rest.now (cc) (cc) (cc) (λ x r q k. search (rules, tests))) c.loop-line.yielded _
    c.loop-line.yielded_by _ _ c.in-None.is c.next.ensures.steps).0
    c.loop-line.invariant.made

pub returns-clause-exact : goal.returns-clause-exact
returns-clause-exact c = follows_whole c.args.rest.now (subst (λ lines. Follows lines c.args.shown.now c.loop-line.text.items c.loop-line.left.now)
    (YieldsList-end (YieldsList-from_slice_split _ (λ b. b == 10) c.args.rest.now (cc) (cc) (cc) (λ x r q k. search (rules, tests))) c.loop-line.yielded
    _ c.loop-line.yielded_by _ _ c.in-None.is c.next.ensures.steps).0 c.loop-line.invariant.exact)
