-- The rule of a line with stamps, from the rule of items with their stamps.
use Rattle.std.proofs.Common.{◌≡◌, ℕ, ◌==◌, ◌<◌, Bool, true, false, cond, List, [], ◌∷◌, ◌++◌, zip, Option, Some, None, MatchOption, IfSome, Contains, length}
use Rattle.std.proofs.Common.{set, sym, refl, ap, ◌∙◌, subst}
use Rattle.std.proofs.lemmas.List.{map-append, length-map}
use Rattle.crossbeam_queue.specs.Fifo.{Pushes, Pops, Forks, Merges, Learns}
use Rattle.act_rules.specs.Consistent.{IsPrefix}
use Rattle.act_mailbox.specs.declared.line.View.{View}
use Rattle.act_mailbox.specs.Lines.{items_from, items_alone, stamps_alone, putter_of_stamped, taking, after_take, taken_of, putters_of, Lined, LinedByStamps}
use Rattle.act_mailbox.specs.Lines.{Took}
use Rattle.act_mailbox.proofs.Steps.{TookItem, begins}

module _ {T : Type 0} where
  zip_alone : (xs : List (T × ℕ)) → zip (items_alone xs) (stamps_alone xs) ≡ xs
  zip_alone [] = refl
  zip_alone (x ∷ xs) = ap (λ l. x ∷ l) (zip_alone xs)

  items_prefix : (xs ys : List (T × ℕ)) → IsPrefix xs ys → IsPrefix (items_alone xs) (items_alone ys)
  items_prefix xs ys p = (items_alone p.0, sym (map-append (λ (x : T × ℕ). x.0) xs p.0) ∙ ap items_alone p.1)

  cond_alone : (b : Bool) (x : T × ℕ) {is : List T} (xs : List (T × ℕ)) → is ≡ items_alone xs → cond b (x.0 ∷ is) is ≡ items_alone (cond b (x ∷ xs) xs)
  cond_alone true x xs e = ap (λ l. x.0 ∷ l) e
  cond_alone false x xs e = e

module _ {T : Type 0} (putter_of : T → ℕ) where
  -- the items of a putter, with their stamps or without
  from_alone : (c : ℕ) (xs : List (T × ℕ)) → items_from putter_of c (items_alone xs) ≡ items_alone (items_from (putter_of_stamped putter_of) c xs)
  from_alone c [] = refl
  from_alone c (x ∷ xs) = cond_alone (putter_of x.0 == c) x (items_from (putter_of_stamped putter_of) c xs) (from_alone c xs)

  -- what was taken of a putter begins what it put: with the stamps, and so without them, and with them in lists apart
  pub prefix_of_items : (c d : ℕ) (put taken : List (T × ℕ)) (put' taken' : List T) → c ≡ d → items_alone put ≡ put' → items_alone taken ≡ taken' →
      IsPrefix (items_from (putter_of_stamped putter_of) c taken) put → IsPrefix (items_from putter_of d taken') put'
  prefix_of_items c d put taken put' taken' same e f p =
      subst (λ (y : ℕ × List T × List T). IsPrefix (items_from putter_of y.0 y.1) y.2) (λ i. (same i, f i, e i))
      (subst (λ l. IsPrefix l (items_alone put)) (sym (from_alone c taken)) (items_prefix (items_from (putter_of_stamped putter_of) c taken) put p))

  pub prefix_of_zips : (c d : ℕ) (put taken : List (T × ℕ)) (put' taken' : List T) (stamps stamps' : List ℕ) → c ≡ d → items_alone put ≡ put' →
      stamps_alone put ≡ stamps → items_alone taken ≡ taken' → stamps_alone taken ≡ stamps' → IsPrefix (items_from (putter_of_stamped putter_of) c taken) put →
      IsPrefix (items_from (putter_of_stamped putter_of) d (zip taken' stamps')) (zip put' stamps)
  prefix_of_zips c d put taken put' taken' stamps stamps' same e f e' f' p =
      subst (λ (y : ℕ × List (T × ℕ) × List (T × ℕ)). IsPrefix (items_from (putter_of_stamped putter_of) y.0 y.1) y.2)
      (λ i. (same i, (sym (zip_alone taken) ∙ λ j. zip (e' j) (f' j)) i, (sym (zip_alone put) ∙ λ j. zip (e j) (f j)) i)) p

module _ {T N : Type 0} (putter_of : T → ℕ) where
  abbrev Inner : List (T × ℕ) → List (View (T × ℕ) N) → Type 0
  Inner = Lined (putter_of_stamped putter_of)

  abbrev Outer : List T → List (View (T × ℕ) N) → Type 0
  Outer = LinedByStamps putter_of

  pub stamped_begins : Outer [] (taking [] [] [] ∷ [])
  stamped_begins = ([], refl, begins (putter_of_stamped putter_of))

  pub stamped_puts : (n port : ℕ) (v : View (T × ℕ) N) (x : T) (stamp : ℕ) (then : View (T × ℕ) N → Type 0) → Pushes Inner n port v (x, stamp) then →
      Pushes Outer n port v x then
  stamped_puts n port v x stamp then pushes items views room held at =
      let long : length items ≡ length held.0 = ap length (sym held.1) ∙ length-map held.0 (λ (y : T × ℕ). y.0) in
      let r = pushes held.0 views (subst (λ k. k < n) long room) held.2 at in
      (r.0, (held.0 ++ (x, stamp) ∷ [], map-append (λ (y : T × ℕ). y.0) held.0 ((x, stamp) ∷ []) ∙ ap (λ l. l ++ x ∷ []) held.1, r.1), r.2)

  -- a take that keeps the rule of items with their stamps keeps the rule of the line with stamps
  pub stamped_takes : (label : List N) (port : ℕ) (v : View (T × ℕ) N) → Pops Inner port v (TookItem (putter_of_stamped putter_of) label v) →
      Pops Outer port v (Took putter_of label v)
  stamped_takes label port v pops x items views held at = first held.0 held.1 held.2
    where
      first : (stamped : List (T × ℕ)) → items_alone stamped ≡ x ∷ items → Inner stamped views →
          (w : View (T × ℕ) N) × Outer items (set views port w) × Took putter_of label v x w
      first [] e lined = let none : [] ≡ x ∷ items = e in absurd (cc)
      first (p ∷ stamped) e lined =
          let head : p.0 ≡ x = cc in let tail : items_alone stamped ≡ items = cc in let r = pops p stamped views lined at in
          (r.0, (stamped, tail, r.1), subst (λ y. Took putter_of label v y r.0) head ((p.1, r.2.0), r.2.1))

  -- so does a new pass that is made of another
  pub stamped_forks : (port : ℕ) (v left right : View (T × ℕ) N) → Forks Inner port v left right → Forks Outer port v left right
  stamped_forks port v left right forks items views held at = (held.0, held.1, forks held.0 views held.2 at)

  pub stamped_merges : (port : ℕ) (v : View (T × ℕ) N) (other : ℕ) (w both emptied : View (T × ℕ) N) → Merges Inner port v other w both emptied →
      Merges Outer port v other w both emptied
  stamped_merges port v other w both emptied merges items views held at two at' = (held.0, held.1, merges held.0 views held.2 at two at')

  pub stamped_learns : (port : ℕ) (v : View (T × ℕ) N) (fact : Type 0) → Learns Inner port v (λ _. fact) → Learns Outer port v (λ _. fact)
  stamped_learns port v fact learns items views held at = learns held.0 views held.2 at

  -- where something was taken, the pass shows one stamp more
  pub took_stamp : (label label' : List N) (result : Option T) (v w : View (T × ℕ) N) (none : Type 0) (putters : List ℕ) (taken : List (T × ℕ))
      (stamps : List ℕ) → v ≡ taking putters taken label' → stamps_alone (taken_of v) ≡ stamps → MatchOption result none (λ x. Took putter_of label v x w) →
      IfSome result (λ x. (n : ℕ) × (stamps_alone (taken_of w) ≡ stamps ++ n ∷ []))
  took_stamp label label' None v w none putters taken stamps e is took = tt
  took_stamp label label' (Some x) v w none putters taken stamps e is took =
      let n : ℕ = took.0.0 in
      let one : stamps_alone (taken_of w) ≡ stamps_alone (taken ++ (x, n) ∷ []) =
      ap (λ u. stamps_alone (taken_of u)) (took.0.1 ∙ ap (after_take (x, n) label) e) in
      let before : stamps_alone taken ≡ stamps = sym (ap (λ u. stamps_alone (taken_of u)) e) ∙ is in
      (n, one ∙ map-append (λ (y : T × ℕ). y.1) taken ((x, n) ∷ []) ∙ ap (λ l. l ++ n ∷ []) before)

  -- where something was taken, its putter is one that the taker's pass knows
  pub took_known : (label : List N) (result : Option T) (v w : View (T × ℕ) N) (none : Type 0) {putters : List ℕ} → putters_of v ≡ putters →
      MatchOption result none (λ x. Took putter_of label v x w) → IfSome result (λ x. Contains putters (putter_of x))
  took_known label None v w none e took = tt
  took_known label (Some x) v w none e took = subst (λ l. Contains l (putter_of x)) e took.1
