use Rattle.act_executor.proofs.Common.{rules, arith, ◌≡◌, ℕ, ◌+◌, [], ◌∷◌, ◌++◌, Result, length, vec_len, subst, sym, get_or, vec_items, KillNote, PutterView}
use Rattle.act_executor.proofs.Common.{Asked, Endpoint, each_snoc, IsAsked}
use Rattle.act_executor.proofs.run.StarterStop.stop.Goals as goal

pub loop-endpoint-preserved : goal.loop-endpoint-preserved
loop-endpoint-preserved g c =
    let was = c.loop-endpoint.invariant in let step = c.in-Some.ensures.steps in let pushed = c.push_reserved.ensures in
    let done = vec_len c.loop-endpoint.asked in let controls = c.args.self.controls.now in
    let grown : vec_len c.push_reserved.new.self ≡ done + 1 = search rules in (
      search rules,
      search rules,
      (λ k d below. let h = was.2 (k + 1) d in grind rules),
      λ k t x below.
          let next : c.in-Some.endpoint ≡ get_or (vec_items c.args.self.endpoints) done t = let e = was.2 0 t in grind rules in
          let len : length (vec_items c.loop-endpoint.asked) ≡ done = search rules in
          let P : ℕ → Result (Endpoint (PutterView Asked ℕ)) KillNote → Type 0 = λ i y. IsAsked controls (get_or (vec_items c.args.self.endpoints) i t) y in
          let here : P (length (vec_items c.loop-endpoint.asked)) c.ask.result =
          subst (λ i. IsAsked controls (get_or (vec_items c.args.self.endpoints) i t) c.ask.result) (sym len)
          (subst (λ s. IsAsked controls s c.ask.result) next c.ask.ensures) in
          let all : P k (get_or (vec_items c.loop-endpoint.asked ++ c.ask.result ∷ []) k x) =
          each_snoc P (vec_items c.loop-endpoint.asked) c.ask.result (λ i y b. was.3 i t y (omega arith)) here k x (rw (← pushed.items) (search rules)) in
          rw pushed.items all,
    )
