-- Lists that are put together place by place.
use Rattle.act_executor.proofs.Common.{◌≡◌, ℕ, suc, ◌+◌, List, [], ◌∷◌, ◌++◌, length, length-append, map, ◌⊎◌, inl, inr, ap, sym, ◌∙◌, arith, append_assoc}
use Rattle.act_executor.proofs.Common.{append-nil, range_with_len, map-append, nil_from_length, Endpoint, range_push, slice_get, Some, option_map}
use Rattle.act_executor.proofs.Common.{slice_get-map, range_at}

-- the first of what is left is done
pub one_done : {Y Z : Type 0} (f : Y → Z) (done : List Y) {after : List Y} (y : Y) {left rest whole : List Z} {z : Z} → map f done ++ left ≡ whole →
    after ≡ done ++ y ∷ [] → left ≡ z ∷ rest → f y ≡ z → map f after ++ rest ≡ whole
one_done {Y} {Z} f done y {rest} were pushed stepped same =
    ap (λ l. map f l ++ rest) pushed
    ∙ ap (λ l. l ++ rest) (map-append f done (y ∷ []))
    ∙ append_assoc (map f done) (f y ∷ []) rest
    ∙ ap (λ x. map f done ++ x ∷ rest) same
    ∙ ap (λ l. map f done ++ l) (sym stepped)
    ∙ were

-- all is done where nothing is left
pub all_done : {Z : Type 0} (done : List Z) {left whole : List Z} → left ≡ [] → done ++ left ≡ whole → done ≡ whole
all_done done none were = sym (append-nil done) ∙ ap (λ l. done ++ l) (sym none) ∙ were

-- three lists of one length are used up together
pub used_up : {A B C : Type 0} (xs : List A) (ys : List B) (zs : List C) → length ys ≡ length xs → length zs ≡ length xs →
    ((length xs ≡ 0) ⊎ (length ys ≡ 0)) ⊎ (length zs ≡ 0) → (xs ≡ []) × (ys ≡ []) × (zs ≡ [])
used_up xs ys zs same also ends =
    let none : length xs ≡ 0 = elim ends [ inl one ↦ elim one [ inl e ↦ e | inr e ↦ sym same ∙ e ] | inr e ↦ sym also ∙ e ] in
    (nil_from_length xs none, nil_from_length ys (same ∙ none), nil_from_length zs (also ∙ none))

-- an endpoint is pushed at its place
pub placed : {P : Type 0} (done after : List (Endpoint P)) (endpoint : Endpoint P) → map (λ (s : Endpoint P). s.place) done ≡ range_with_len 0 (length done) →
    after ≡ done ++ endpoint ∷ [] → endpoint.place ≡ length done → map (λ (s : Endpoint P). s.place) after ≡ range_with_len 0 (length after)
placed {P} done after endpoint were pushed at =
    let long : suc (length done) ≡ length (done ++ endpoint ∷ []) = omega (arith, length-append done (endpoint ∷ [])) in
    let here : endpoint.place ≡ 0 + length done = omega arith in
    ap (map (λ (s : Endpoint P). s.place)) pushed
    ∙ map-append (λ (s : Endpoint P). s.place) done (endpoint ∷ [])
    ∙ ap (λ l. l ++ endpoint.place ∷ []) were
    ∙ ap (λ n. range_with_len 0 (length done) ++ n ∷ []) here
    ∙ sym (range_push 0 (length done))
    ∙ ap (range_with_len 0) (long ∙ sym (ap length pushed))

-- an endpoint stands at its place
pub place_is : {P : Type 0} (endpoints : List (Endpoint P)) → map (λ (s : Endpoint P). s.place) endpoints ≡ range_with_len 0 (length endpoints) →
    (i : ℕ) (endpoint : Endpoint P) → slice_get endpoints i ≡ Some endpoint → endpoint.place ≡ i
place_is {P} endpoints places i endpoint at =
    let plus : 0 + i ≡ i = omega arith in
    range_at 0 (length endpoints) i (ap (λ l. slice_get l i) (sym places) ∙ slice_get-map (λ (s : Endpoint P). s.place) endpoints i ∙
    ap (option_map (λ (s : Endpoint P). s.place)) at) ∙ plus
