-- Lines that are opened, each for one of a list.
use Rattle.act_executor.proofs.Common.{◌≡◌, ℕ, suc, ◌+◌, List, [], ◌∷◌, ◌++◌, All, length, map, refl, ap, sym, ◌∙◌, subst, arith, length-append, length-map}
use Rattle.act_executor.proofs.Common.{map-append, map-map, All-nil, All-cons, TableId, endpoint_at, endpoints_from, AreHands, AreGrown, made_of, AreMade}
use Rattle.act_executor.proofs.Common.{OpenedLines}
use Rattle.act_executor.proofs.OpenLines.Endpoints.{endpoints_push, next_pushed}
use Rattle.act_executor.proofs.OpenLines.Gathered.{dealt_more}

module _ {F X : Type 0} (make : TableId → F → X) where
  made_push : (ids : List TableId) (id : TableId) (given : List F) (one : F) → length ids ≡ length given →
      made_of make (ids ++ id ∷ []) (given ++ one ∷ []) ≡ made_of make ids given ++ make id one ∷ []
  made_push [] id [] one long = refl
  made_push [] id (first ∷ given) one long = absurd (omega (arith, long))
  made_push (other ∷ ids) id [] one long = absurd (omega (arith, long))
  made_push (other ∷ ids) id (first ∷ given) one long = ap (λ l. make other first ∷ l) (made_push ids id given one (omega (arith, long)))

  -- what is read of each is made of the same
  pub made_map : {Z : Type 0} (f : X → Z) (ids : List TableId) (given : List F) → map f (made_of make ids given) ≡ made_of (λ id one. f (make id one)) ids given
  made_map f [] given = refl
  made_map f (id ∷ ids) [] = refl
  made_map f (id ∷ ids) (one ∷ given) = ap (λ l. f (make id one) ∷ l) (made_map f ids given)

  module _ (ids : List TableId) (given : List F) (long : length ids ≡ length given) (xs : List X) (are : xs ≡ made_of make ids given) where
    -- what is read of each is its id
    pub read_ids : (id_of : X → TableId) → ((id : TableId) (one : F) → id_of (make id one) ≡ id) → map id_of xs ≡ ids
    read_ids id_of is = ap (map id_of) are ∙ go ids given long
      where
        go : (ids : List TableId) (given : List F) → length ids ≡ length given → map id_of (made_of make ids given) ≡ ids
        go [] given long = refl
        go (id ∷ ids) [] long = absurd (omega (arith, long))
        go (id ∷ ids) (one ∷ given) long = λ i. is id one i ∷ go ids given (omega (arith, long)) i

    -- what is read of each is that of what it was made for
    pub read_for : {Z : Type 0} (f : X → Z) (g : F → Z) → ((id : TableId) (one : F) → f (make id one) ≡ g one) → map f xs ≡ map g given
    read_for f g same = ap (map f) are ∙ go ids given long
      where
        go : (ids : List TableId) (given : List F) → length ids ≡ length given → map f (made_of make ids given) ≡ map g given
        go [] [] long = refl
        go [] (one ∷ given) long = absurd (omega (arith, long))
        go (id ∷ ids) [] long = absurd (omega (arith, long))
        go (id ∷ ids) (one ∷ given) long = λ i. same id one i ∷ go ids given (omega (arith, long)) i

    pub long_of : length xs ≡ length given
    long_of = ap length are ∙ go ids given long
      where
        go : (ids : List TableId) (given : List F) → length ids ≡ length given → length (made_of make ids given) ≡ length given
        go [] [] long = refl
        go [] (one ∷ given) long = absurd (omega (arith, long))
        go (id ∷ ids) [] long = absurd (omega (arith, long))
        go (id ∷ ids) (one ∷ given) long = ap (λ n. suc n) (go ids given (omega (arith, long)))

    pub read_all : (P : X → Type 0) → ((id : TableId) (one : F) → P (make id one)) → All P xs
    read_all P each = subst (λ l. All P l) (sym are) (go ids given)
      where
        go : (ids : List TableId) (given : List F) → All P (made_of make ids given)
        go [] given = All-nil P
        go (id ∷ ids) [] = All-nil P
        go (id ∷ ids) (one ∷ given) = All-cons P (make id one) (made_of make ids given) (each id one) (go ids given)

-- each line has its id
pub ids_long : {F L E P : Type 0} {id : L → TableId} {line : TableId → F → L} {end : TableId → F → E} {pass : TableId → ℕ → P} {number : P → ℕ}
    {names : F → List ℕ} {given : List F} {numbers : List ℕ} {opened : OpenedLines L E P} → AreMade id line end pass number names given numbers opened →
    length (map id opened.lines.items) ≡ length given
ids_long {id = id} {opened = opened} made = length-map opened.lines.items id ∙ made.long

-- the turn of the loop that opens lines
pub one_made : {F L E P : Type 0} (id : L → TableId) (line : TableId → F → L) (end : TableId → F → E) (pass : TableId → ℕ → P) {number : P → ℕ} (names : F →
    List ℕ) {given : List F} {numbers : List ℕ} {was : OpenedLines L E P} (now : OpenedLines L E P) (one : F) {l : L} {e : E} {passes : List P} (place : ℕ) →
    AreMade id line end pass number names given numbers was → length given ≡ place → l ≡ line (id l) one → e ≡ end (id l) one →
    passes ≡ map (pass (id l)) (names one) → now.lines.items ≡ was.lines.items ++ l ∷ [] → now.ends.items ≡ was.ends.items ++ e ∷ [] → AreGrown number numbers
    (map (endpoint_at place) passes) was.hands.items now.hands.items → AreMade id line end pass number names (given ++ one ∷ []) numbers now
one_made {P = P} id line end pass {number} names {given} {numbers} {was} now one {l} place made at l_is e_is passes_are to_lines to_ends grown =
    let lines = was.lines.items in let ids = map id lines in let long = ids_long made in
    let ids_now : map id now.lines.items ≡ ids ++ id l ∷ [] = next_pushed id lines l to_lines in
    let there : 0 + length ids ≡ place = omega (arith, long, at) in
    let names_long : length (map names given) ≡ length ids = length-map given names ∙ sym long in
    record {
      long = ap length to_lines ∙ length-append lines (l ∷ []) ∙ ap (λ n. n + 1) made.long ∙ sym (length-append given (one ∷ []));
      lines = to_lines ∙ (λ i. made.lines i ++ l_is i ∷ []) ∙ sym (made_push line ids (id l) given one long) ∙
          ap (λ k. made_of line k (given ++ one ∷ [])) (sym ids_now);
      ends = to_ends ∙ (λ i. made.ends i ++ e_is i ∷ []) ∙ sym (made_push end ids (id l) given one long) ∙
          ap (λ k. made_of end k (given ++ one ∷ [])) (sym ids_now);
      hands = subst (λ endpoints. AreHands number numbers endpoints now.hands.items)
          (ap (λ k. endpoints_from pass 0 ids (map names given) ++ map (endpoint_at place) k) passes_are ∙ ap (λ n. endpoints_from pass 0 ids
          (map names given) ++ map (endpoint_at n) (map (pass (id l)) (names one))) (sym there) ∙ ap (λ k. endpoints_from pass 0 ids (map names given) ++ k)
          (map-map (endpoint_at (0 + length ids)) (pass (id l)) (names one)) ∙ sym (endpoints_push pass 0 ids (map names given) (id l) (names one) names_long) ∙
          (λ i. endpoints_from pass 0 (sym ids_now i) (sym (map-append names given (one ∷ [])) i))) (dealt_more number numbers _ _ made.hands grown);
    }
