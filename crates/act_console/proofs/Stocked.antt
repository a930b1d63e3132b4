-- Casts that are made of roles, one after the other, with kinds of a stock.
use Rattle.act_console.proofs.Common.{◌≡◌, ℕ, ◌+◌, ◌≤◌, List, [], ◌∷◌, ◌++◌, length, map, Option, Some, IfSome, ap, sym, ◌∙◌, subst, append_assoc, add-one}
use Rattle.act_console.proofs.Common.{arith, append-nil, map-append, KindState, KindName, Role, ActorSpec, actor_spec_of, Cast, actor_spec, Stock, HasOf}
use Rattle.act_console.proofs.Common.{HasEach}

fewer_of : {K : Type 0} {state : K → KindState} {name : KindName} {most count : ℕ} {kinds : List K} → count ≤ most → HasOf state name most kinds →
    HasOf state name count kinds
fewer_of fewer has = let enough = has.enough in record { enough = omega arith; opened = has.opened }

-- what has more has less, too
pub fewer : {K : Type 0} (state : K → KindState) (most count : ℕ) (stock : Stock K) → count ≤ most → HasEach state most stock → HasEach state count stock
fewer state most count stock few has = record {
  counters = fewer_of few has.counters;
  tables = fewer_of few has.tables;
  accounts = fewer_of few has.accounts;
  lists = fewer_of few has.lists;
}

-- one role of those that are left
pub one_of : {K : Type 0} {state : K → KindState} {stock : Stock K} {role : Role} {old : List Role} (rest : List Role) → old ≡ role ∷ rest →
    HasEach state (length old) stock → HasEach state (length rest + 1) stock
one_of {state} {stock} rest is has = subst (λ n. HasEach state n stock) (ap length is ∙ sym (add-one (length rest))) has

-- one cast more
pub one_made : {K : Type 0} (state : K → KindState) (made : List (Cast K)) (cast : Cast K) {role : Role} (old rest : List Role) {whole : List ActorSpec} →
    old ≡ role ∷ rest → actor_spec state cast ≡ actor_spec_of role → map (actor_spec state) made ++ map actor_spec_of old ≡ whole →
    map (actor_spec state) (made ++ cast ∷ []) ++ map actor_spec_of rest ≡ whole
one_made state made cast old rest is same so_far =
    ap (λ front. front ++ map actor_spec_of rest) (map-append (actor_spec state) made (cast ∷ []))
    ∙ append_assoc (map (actor_spec state) made) (actor_spec state cast ∷ []) (map actor_spec_of rest)
    ∙ ap (λ c. map (actor_spec state) made ++ c ∷ map actor_spec_of rest) same
    ∙ ap (λ roles. map (actor_spec state) made ++ map actor_spec_of roles) (sym is)
    ∙ so_far

-- the casts of all roles
pub all_made : {K : Type 0} (state : K → KindState) (made : List (Cast K)) (left : List Role) {whole : List ActorSpec} → left ≡ [] →
    map (actor_spec state) made ++ map actor_spec_of left ≡ whole → map (actor_spec state) made ≡ whole
all_made state made left none so_far =
    sym (append-nil (map (actor_spec state) made)) ∙ ap (λ roles. map (actor_spec state) made ++ map actor_spec_of roles) (sym none) ∙ so_far

-- the cast that was found
pub found_cast : {K : Type 0} (P : Cast K → Type 0) {found : Option (Cast K)} {cast : Cast K} → found ≡ Some cast → IfSome found P → P cast
found_cast P is holds = subst (λ o. IfSome o P) is holds
