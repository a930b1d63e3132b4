use Rattle.act_executor.proofs.Common.{◌≡◌, ℕ, ◌<◌, List, length, get_or, set, ap, sym, ◌∙◌, subst, arith, All, map, set-get_or, SitsAt, IsToldAt, told_next}
use Rattle.act_executor.proofs.Common.{any_default, same_at, as_long}
use Rattle.act_executor.proofs.joined.audit_all.Goals as goal

-- what holds of all holds of the one that is now at a place
one_now : {X : Type 0} (P : X → Type 0) {all now : List X} (i : ℕ) {x : X} → All P all → now ≡ all → i < length all → x ≡ get_or now i x → P x
one_now P i {x} each same lt at = subst P (sym (at ∙ ap (λ l. get_or l i x) same)) (each i x lt)

pub audit_end-requires-clause-pass : goal.audit_end-requires-clause-pass
audit_end-requires-clause-pass g c =
    let line = g.A.Compares in let inv = c.loop-at.invariant in
    let sits = one_now (SitsAt line.id line.pass_id c.args.lines.now) c.loop-at.at c.requires.sit inv.same_endpoints
    (omega (arith, c.len-at-end.ensures, c.args.endpoints.now.ok)) c.index_mut-endpoint.ensures.value in
    sym (sits.1 c.index-lines-place.result) ∙ ap line.id (sym c.index-lines-place.is)

pub audit_end-requires-clause-end : goal.audit_end-requires-clause-end
audit_end-requires-clause-end g c =
    let line = g.A.Compares in let inv = c.loop-at.invariant in
    let sits = one_now (SitsAt line.id line.pass_id c.args.lines.now) c.loop-at.at c.requires.sit inv.same_endpoints
    (omega (arith, c.len-at-end.ensures, c.args.endpoints.now.ok)) c.index_mut-endpoint.ensures.value in
    same_at line.id line.end_id c.args.lines.now c.loop-at.ends.items _ _ (c.requires.lines ∙ ap (map line.end_id) (sym inv.same)) sits.0 c.index-lines-place.is
    c.index_mut.ensures.value

pub loop-at-preserved : goal.loop-at-preserved
loop-at-preserved g c =
    let line = g.A.Compares in let inv = c.loop-at.invariant in let i = c.loop-at.at in let endpoints = c.args.endpoints.now.items in
    let ends = c.args.ends.now.items in let x = c.index_mut-endpoint.result.now in let end = c.index_mut.result.now in
    let lt : i < length endpoints = omega (arith, c.len-at-end.ensures, c.args.endpoints.now.ok) in
    let old : x ≡ get_or c.loop-at.endpoints.items i x = c.index_mut-endpoint.ensures.value in
    let here : x ≡ get_or endpoints i x = old ∙ ap (λ l. get_or l i x) inv.same_endpoints in
    let sits = one_now (SitsAt line.id line.pass_id c.args.lines.now) i c.requires.sit inv.same_endpoints lt old in
    let below : x.place < length ends = omega (arith, sits.0, as_long line.id line.end_id c.args.lines.now ends c.requires.lines) in
    let there : end ≡ get_or ends x.place end = c.index_mut.ensures.value ∙ ap (λ l. get_or l x.place end) inv.same in
    let told : IsToldAt line.Told ends x = λ d. subst (λ e. line.Told e x.pass) (there ∙ sym (any_default ends x.place end below d)) c.audit_end.ensures.told in
    record {
      same_endpoints = ap (set c.loop-at.endpoints.items i) ((λ k. record { place = x.place; pass = c.audit_end.ensures.same_pass k }) ∙ old) ∙
          set-get_or c.loop-at.endpoints.items i x ∙ inv.same_endpoints;
      same = ap (set c.loop-at.ends.items x.place) (c.audit_end.ensures.same_end ∙ c.index_mut.ensures.value) ∙ set-get_or c.loop-at.ends.items x.place end ∙
          inv.same;
      told = told_next (IsToldAt line.Told ends) endpoints i x inv.told (any_default endpoints i x lt) (subst (IsToldAt line.Told ends) here told);
    }
