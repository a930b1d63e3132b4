use Rattle.act_executor.proofs.Common.{rules, ◌≡◌, ◌++◌, ◌∷◌, List, length, map, zip, ◌⊎◌, inl, inr, ap, sym, ◌∙◌, subst, into_iter_items, Endpoint, ExecPasses}
use Rattle.act_executor.proofs.Common.{Cast, Each, MayServe, serving_start, cast_start, append-nil, append_over, nothing_zips}
use Rattle.act_executor.proofs.Lists.Places.{each_pop}
use Rattle.act_executor.proofs.work.servings.Goals as goal

pub loop-cast-init : goal.loop-cast-init
loop-cast-init g c =
    let casts = into_iter_items c.into_iter-cast-iterator.result.a in let execs = into_iter_items c.into_iter-cast-iterator.result.b in
    let first : casts ≡ c.args.casts.items = search rules in let second : execs ≡ c.args.execs.items = search rules in
    let start = cast_start g.K.Actor.state c.args.lines.now.replies.items in
    let At : List (Cast _) × List (Endpoint ExecPasses) → Type 0 = λ p. Each (MayServe c.args.lines.now) p.0 p.1 in
    record {
      first_long = search rules;
      second_long = search rules;
      serve = subst At (λ i. (sym first i, sym second i)) c.requires;
      ready = search rules;
      starts = ap (λ l. map (serving_start g.K.Actor.state) l ++ map start (zip casts execs)) c.new-servings.ensures.items
          ∙ (λ i. map start (zip (first i) (second i)));
    }

pub add_serving-requires-clause-serves : goal.add_serving-requires-clause-serves
add_serving-requires-clause-serves g c =
    (each_pop (MayServe c.args.lines.now) _ _ _ _ _ _ c.in-Some.ensures.steps.0.0 c.in-Some.ensures.steps.1.0 c.loop-cast.invariant.serve).0

pub loop-cast-preserved : goal.loop-cast-preserved
loop-cast-preserved g c =
    let inv = c.loop-cast.invariant in let state = g.K.Actor.state in let replies = c.args.lines.now.replies.items in let before = c.loop-cast.servings.items in
    let casts = into_iter_items c.next.new.self.a in let execs = into_iter_items c.next.new.self.b in
    let first : into_iter_items c.loop-cast.cast-iterator.a ≡ c.in-Some.cast ∷ casts = c.in-Some.ensures.steps.0.0 in
    let second : into_iter_items c.loop-cast.cast-iterator.b ≡ c.in-Some.exec ∷ execs = c.in-Some.ensures.steps.1.0 in
    let rest = map (cast_start state replies) (zip casts execs) in
    record {
      first_long = search (rules, first);
      second_long = search (rules, second);
      serve = (each_pop (MayServe c.args.lines.now) _ _ _ _ _ _ first second inv.serve).1;
      ready = c.in_ok-add_serving.ensures.ready;
      starts = ap (λ l. l ++ rest) c.in_ok-add_serving.ensures.starts ∙
          append_over (map (serving_start state) before) (cast_start state replies (c.in-Some.cast, c.in-Some.exec)) rest ∙
          (λ i. map (serving_start state) before ++ map (cast_start state replies) (zip (sym first i) (sym second i))) ∙ inv.starts;
    }

pub returns-clause-starts : goal.returns-clause-starts
returns-clause-starts g c =
    let inv = c.loop-cast.invariant in let state = g.K.Actor.state in let replies = c.args.lines.now.replies.items in
    let casts = into_iter_items c.loop-cast.cast-iterator.a in let execs = into_iter_items c.loop-cast.cast-iterator.b in
    let ends : (length casts ≡ 0) ⊎ (length execs ≡ 0) =
    elim c.in-None.ensures.steps [ inl s ↦ inl (sym inv.first_long ∙ s.1.0) | inr s ↦ inr (sym inv.second_long ∙ s.1.0) ] in
    sym (append-nil (map (serving_start state) c.loop-cast.servings.items)) ∙
    ap (λ l. map (serving_start state) c.loop-cast.servings.items ++ map (cast_start state replies) l) (sym (nothing_zips casts execs ends)) ∙ inv.starts
