-- What a world that played events says of their history, beside what codes left.
use Rattle.act_code_ends.proofs.Common.{◌≡◌, ℕ, zero, suc, ◌<◌, true, map, filter, List, [], ◌∷◌, length, Option, Some, ap, sym, ◌∙◌, subst, arith, is_some}
use Rattle.act_code_ends.proofs.Common.{list_all, map-map, KindState, Cast, actor_spec, limits_that_name, ActorSpec, History, contains, calls_of, kept_of}
use Rattle.act_code_ends.proofs.Common.{kept_at, Answer, OwnerView, opened_with, IsOwnerAt, SessionView, AreSame, HasEnded, IsThrough, opened_of, filter_mapped}

kept_below : (kept : List (Option Answer)) (k : ℕ) {answer : Answer} → kept_at kept k ≡ Some answer → k < length kept
kept_below [] k has = absurd (cc has)
kept_below (x ∷ xs) zero has = omega arith
kept_below (x ∷ xs) (suc k) {answer} has = let below = kept_below xs k has in omega (arith, below)

-- a caller of the world that is left as its code left it
pub through_is : {C : Type 0} (makes : C → Type 0) (tells : C → SessionView → SessionView → Type 0) {opened : OwnerView} (h : History) (c : ℕ)
    {owner other : OwnerView} → AreSame owner other → length owner.kept ≡ length owner.calls → IsOwnerAt h c (Some other) → ((code : C) × makes code × HasEnded
    (tells code) opened owner.calls owner.kept) → list_all is_some other.kept ≡ true → IsThrough makes tells opened (calls_of c h) (kept_of c h)
through_is makes tells h c {owner} same places at ended answered = record {
  code = ended.0;
  made = ended.1;
  ended = record {
    last = ended.2.last;
    told = ended.2.told;
    calls_are = sym at.1.calls ∙ sym same.calls ∙ ended.2.calls_are;
    kept_on = λ k answer has.
        let mine = ended.2.kept_on k answer has in let below = kept_below owner.kept k mine in
        ap (λ kept. kept_at kept k) (sym at.1.kept) ∙ sym (same.answers k (omega (arith, below, places))) ∙ mine;
  };
  answered = subst (λ kept. list_all is_some kept ≡ true) at.1.kept answered;
}

-- ---- how a caller was opened

-- as its casts open it
pub opened_as : {K : Type 0} (state : K → KindState) (c : ℕ) (casts : List (Cast K))
    → opened_with c (limits_that_name c casts) ≡ opened_of c (map (actor_spec state) casts)
opened_as {K} state c casts = sym (
    ap (λ l. opened_with c (map (λ cast. (cast.actor, cast.pending)) l))
    (filter_mapped (λ (cast : ActorSpec). contains c cast.callers) (actor_spec state) casts)
    ∙ ap (λ l. opened_with c l) (map-map (λ (cast : ActorSpec). (cast.actor, cast.pending)) (actor_spec state)
    (filter (λ (cast : Cast K). contains c cast.callers) casts))
    )
