-- Hands of endpoints by the names of a list.
use Rattle.act_executor.proofs.Common.{◌≡◌, ℕ, ◌<◌, List, ◌++◌, length, map, get_or, ap, sym, ◌∙◌, arith, ◌==◌, get_or-map, length-map, same_lists}
use Rattle.act_executor.proofs.Common.{filter-append, map-map, element, Endpoint, items_of_vec, group_of, AreHands, AreGrown, as_long}
use Rattle.std.proofs.Common.{Vec}
use Rattle.std.specs.declared.alloc.Global.{Global}

module _ {P : Type 0} (number : P → ℕ) (numbers : List ℕ) where
  -- each name has a hand
  pub hands_long : (endpoints : List (Endpoint P)) (hands : List (Vec (Endpoint P) Global)) → AreHands number numbers endpoints hands →
      length hands ≡ length numbers
  hands_long endpoints hands dealt = as_long items_of_vec (λ c. group_of number c endpoints) hands numbers dealt

  -- hands to which more was dealt
  pub dealt_more : (before more : List (Endpoint P)) {was hands : List (Vec (Endpoint P) Global)} → AreHands number numbers before was →
      AreGrown number numbers more was hands → AreHands number numbers (before ++ more) hands
  dealt_more before more {was} {hands} dealt grown =
      let long : length hands ≡ length numbers = grown.long ∙ hands_long before was dealt in
      same_lists (map items_of_vec hands) (map (λ c. group_of number c (before ++ more)) numbers)
      (length-map hands items_of_vec ∙ long ∙ sym (length-map numbers (λ c. group_of number c (before ++ more))))
      (λ i d below. let within : i < length hands = omega (arith, length-map hands items_of_vec) in let there : i < length numbers = omega (arith, long) in
      let short : i < length was = omega (arith, grown.long) in let e = (element hands i within).0 in let c = get_or numbers i 0 in get_or-map items_of_vec
      hands i e d within ∙ grown.each i e there ∙ ap (λ l. l ++ group_of number c more) (sym (get_or-map items_of_vec was i e d short) ∙
      ap (λ l. get_or l i d) dealt ∙ get_or-map (λ c. group_of number c before) numbers i 0 d there) ∙ sym (filter-append
      (λ (endpoint : Endpoint P). number endpoint.pass == c) before more) ∙ sym (get_or-map (λ c. group_of number c (before ++ more)) numbers i 0 d there))

  -- the hands of the names that a list has
  pub dealt_by : {X : Type 0} (name_of : X → ℕ) (xs : List X) → numbers ≡ map name_of xs → (endpoints : List (Endpoint P)) (hands : List
      (Vec (Endpoint P) Global)) → AreHands number numbers endpoints hands → map items_of_vec hands ≡ map (λ x. group_of number (name_of x) endpoints) xs
  dealt_by name_of xs are endpoints hands dealt =
      dealt ∙ ap (map (λ c. group_of number c endpoints)) are ∙ map-map (λ c. group_of number c endpoints) name_of xs

-- what is read of each element by way of another list
pub by_way : {X Y Z : Type 0} (f : X → Y) (g : Y → Z) (xs : List X) {ys : List Y} {zs : List Z} → map f xs ≡ ys → map g ys ≡ zs → map (λ x. g (f x)) xs ≡ zs
by_way f g xs one other = sym (map-map g f xs) ∙ ap (map g) one ∙ other
