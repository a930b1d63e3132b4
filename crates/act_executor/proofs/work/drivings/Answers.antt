use Rattle.act_executor.proofs.Common.{rules, ◌≡◌, ◌≢◌, suc, ◌++◌, ◌∷◌, List, length, map, zip, get_or, All, AllPairs, ◌⊎◌, inl, inr, ap, sym, ◌∙◌, subst, refl}
use Rattle.act_executor.proofs.Common.{arith, into_iter_items, Endpoint, CallerPasses, Each, CallerSetup, MayDrive, driving_start, setup_start, All-head}
use Rattle.act_executor.proofs.Common.{All-tail, append-nil, append_over, nothing_zips}
use Rattle.act_executor.proofs.Lists.Places.{each_pop}
use Rattle.act_executor.proofs.work.drivings.Goals as goal

pub loop-setup-init : goal.loop-setup-init
loop-setup-init g c =
    let setups = into_iter_items c.into_iter-setup-iterator.result.a in let callers = into_iter_items c.into_iter-setup-iterator.result.b in
    let first : setups ≡ c.args.setups.items = search rules in let second : callers ≡ c.args.callers.items = search rules in
    let start = setup_start c.args.lines.now (g.D.Conducts.of c.args.conducts) in
    let At : List CallerSetup × List (Endpoint CallerPasses) → Type 0 = λ p. Each (MayDrive c.args.lines.now) p.0 p.1 in
    record {
      first_long = search rules;
      second_long = search rules;
      drive = subst At (λ i. (sym first i, sym second i)) c.requires.each;
      differ = subst (λ l. AllPairs (λ (one other : CallerSetup). one.caller ≢ other.caller) l) (sym first) c.requires.differ;
      left = λ k d below. refl;
      ready = search rules;
      starts = ap (λ l. map driving_start l ++ map start (zip setups callers)) c.new-drivings.ensures.items ∙ (λ i. map start (zip (first i) (second i)));
    }

pub add_driving-requires-clause-drives : goal.add_driving-requires-clause-drives
add_driving-requires-clause-drives g c =
    (each_pop (MayDrive c.args.lines.now) _ _ _ _ _ _ c.in-Some.ensures.steps.0.0 c.in-Some.ensures.steps.1.0 c.loop-setup.invariant.drive).0

pub loop-setup-preserved : goal.loop-setup-preserved
loop-setup-preserved g c =
    let inv = c.loop-setup.invariant in let lines = c.args.lines.now in let before = c.loop-setup.drivings.items in
    let setups = into_iter_items c.next.new.self.a in let callers = into_iter_items c.next.new.self.b in
    let first : into_iter_items c.loop-setup.setup-iterator.a ≡ c.in-Some.setup ∷ setups = c.in-Some.ensures.steps.0.0 in
    let second : into_iter_items c.loop-setup.setup-iterator.b ≡ c.in-Some.caller ∷ callers = c.in-Some.ensures.steps.1.0 in
    let of = g.D.Conducts.of in let all = of c.args.conducts in
    let D : CallerSetup → CallerSetup → Type 0 = λ one other. one.caller ≢ other.caller in
    let L : CallerSetup → Type 0 = λ setup. of c.loop-setup.conducts setup.caller ≡ all setup.caller in
    let differ : AllPairs D (c.in-Some.setup ∷ setups) = subst (λ l. AllPairs D l) first inv.differ in
    let left : All L (c.in-Some.setup ∷ setups) = subst (λ l. All L l) first inv.left in
    let mine = c.take-conduct.ensures.taken ∙ All-head L _ _ left in let rest = map (setup_start lines all) (zip setups callers) in
    record {
      first_long = search (rules, first);
      second_long = search (rules, second);
      drive = (each_pop (MayDrive lines) _ _ _ _ _ _ first second inv.drive).1;
      differ = λ i j d lt below. differ (suc i) (suc j) d (omega (arith, lt)) (omega (arith, below));
      left = λ k d below. c.take-conduct.ensures.others (get_or setups k d).caller
          (λ same. differ 0 (suc k) d (omega arith) (omega (arith, below)) (sym same)) ∙ All-tail L _ _ left k d below;
      ready = c.in_ok-add_driving.ensures.ready;
      starts = ap (λ l. l ++ rest) c.in_ok-add_driving.ensures.starts ∙ append_over (map driving_start before) (setup_start lines (λ _. c.take-conduct.result)
          (c.in-Some.setup, c.in-Some.caller)) rest ∙ ap (λ x. map driving_start before ++ setup_start lines (λ _. x) (c.in-Some.setup, c.in-Some.caller) ∷
          rest) mine ∙ (λ i. map driving_start before ++ map (setup_start lines all) (zip (sym first i) (sym second i))) ∙ inv.starts;
    }

pub returns-clause-starts : goal.returns-clause-starts
returns-clause-starts g c =
    let inv = c.loop-setup.invariant in let lines = c.args.lines.now in let setups = into_iter_items c.loop-setup.setup-iterator.a in
    let callers = into_iter_items c.loop-setup.setup-iterator.b in
    let ends : (length setups ≡ 0) ⊎ (length callers ≡ 0) =
    elim c.in-None.ensures.steps [ inl s ↦ inl (sym inv.first_long ∙ s.1.0) | inr s ↦ inr (sym inv.second_long ∙ s.1.0) ] in
    sym (append-nil (map driving_start c.loop-setup.drivings.items)) ∙ ap (λ l. map driving_start c.loop-setup.drivings.items ++ map
    (setup_start lines (g.D.Conducts.of c.args.conducts)) l) (sym (nothing_zips setups callers ends)) ∙ inv.starts
