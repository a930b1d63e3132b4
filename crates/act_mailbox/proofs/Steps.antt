-- Each step of a line keeps its rule.
use Rattle.std.proofs.Common.{◌≡◌, ◌≢◌, ◌⊎◌, ℕ, zero, suc, ◌==◌, cond, Some, List, [], ◌∷◌, ◌++◌, length, set, sym, refl, ap, ◌∙◌, subst, ⊎_elim, inl, inr}
use Rattle.std.proofs.Common.{append_assoc, arith, eq-eqb, ne_eqb, All, Contains}
use Rattle.std.proofs.lemmas.List.Elements.{filter-append, Contains-push, Contains-append_left, Contains-append_right, All-nil, All-head, All-tail, All-push}
use Rattle.std.proofs.lemmas.List.Elements.{All-weaker, All-contains}
use mathlib.Core.Option.{some, some-injective, some-ne-none}
use lib.ListN.{get_elem?}
use Rattle.crossbeam_queue.specs.Fifo.{Pushes, Pops, Forks, Merges, Learns}
use Rattle.crossbeam_queue.proofs.Lists.{at_set, at_snoc}
use Rattle.act_rules.specs.Consistent.{IsPrefix}
use Rattle.act_mailbox.specs.declared.line.View.{View}
use Rattle.act_mailbox.specs.declared.line.View.TheVariants.{Puts, Takes, Saw, Spent}
use Rattle.act_mailbox.specs.Lines.{items_from, putting, taking, role, after_deal, after_put, copied, shown, after_take, put_of, label_of, putters_of, Fits}
use Rattle.act_mailbox.specs.Lines.{Lined, Audited}

-- which of its kinds a pass is
module _ {T N : Type 0} where
  abbrev pub IsPutting : ℕ → View T N → Type 0
  IsPutting c (Puts v) = v.number ≡ c
  IsPutting c other = ⊥

  abbrev pub IsTaking : View T N → Type 0
  IsTaking (Takes v) = Unit {0}
  IsTaking other = ⊥

  abbrev pub IsCopy : View T N → Type 0
  IsCopy (Saw xs) = Unit {0}
  IsCopy other = ⊥

  -- a taker's pass with no putter of that number yet
  abbrev pub MayDeal : ℕ → View T N → Type 0
  MayDeal c (Takes v) = Contains v.putters c → ⊥
  MayDeal c other = ⊥

at_new : {A : Type 0} (l : List A) (a b : A) (j : ℕ) → get_elem? (l ++ a ∷ []) j ≡ some b → (get_elem? l j ≡ some b) ⊎ ((j ≡ length l) × (a ≡ b))
at_new [] a b zero e = inr (refl, some-injective a b e)
at_new [] a b (suc j) e = absurd (some-ne-none b (sym e))
at_new (x ∷ xs) a b zero e = inl e
at_new (x ∷ xs) a b (suc j) e = ⊎_elim (λ h. inl h) (λ h. inr (ap suc h.0, h.1)) (at_new xs a b j e)

append_nil : {A : Type 0} (xs : List A) → xs ++ [] ≡ xs
append_nil [] = refl
append_nil (x ∷ xs) = ap (λ l. x ∷ l) (append_nil xs)

-- the endpoints, where the role of putter c is seated at n
abbrev endpoints_at : (ℕ → ℕ) → ℕ → ℕ → ℕ → ℕ
endpoints_at endpoint c n r = cond (r == suc c) n (endpoint r)

old_endpoint : (endpoint : ℕ → ℕ) (c n j r : ℕ) → (r ≡ suc c → ⊥) → j ≡ endpoint r → j ≡ endpoints_at endpoint c n r
old_endpoint endpoint c n j r other e = e ∙ sym (ap (λ b. cond b n (endpoint r)) (ne_eqb r (suc c) other))

new_endpoint : (endpoint : ℕ → ℕ) (c n r : ℕ) → r ≡ suc c → n ≡ endpoints_at endpoint c n r
new_endpoint endpoint c n r e = sym (ap (λ b. cond b n (endpoint r)) (eq-eqb r (suc c) e))

module _ {T : Type 0} (putter_of : T → ℕ) where
  of-append : (c : ℕ) (xs ys : List T) → items_from putter_of c (xs ++ ys) ≡ items_from putter_of c xs ++ items_from putter_of c ys
  of-append c xs ys = filter-append (λ x. putter_of x == c) xs ys

  of-same : (c : ℕ) (x : T) → putter_of x ≡ c → items_from putter_of c (x ∷ []) ≡ x ∷ []
  of-same c x e = ap (λ b. cond b (x ∷ []) []) (eq-eqb (putter_of x) c e)

  of-other : (c : ℕ) (x : T) → putter_of x ≢ c → items_from putter_of c (x ∷ []) ≡ []
  of-other c x n = ap (λ b. cond b (x ∷ []) []) (ne_eqb (putter_of x) c n)

  snoc-same : (c : ℕ) (got items : List T) (x : T) → putter_of x ≡ c →
      items_from putter_of c (got ++ (items ++ x ∷ [])) ≡ items_from putter_of c (got ++ items) ++ x ∷ []
  snoc-same c got items x e = ap (items_from putter_of c) (sym (append_assoc got items (x ∷ []))) ∙ of-append c (got ++ items) (x ∷ []) ∙
      ap (λ l. items_from putter_of c (got ++ items) ++ l) (of-same c x e)

  snoc-other : (c : ℕ) (got items : List T) (x : T) → putter_of x ≢ c →
      items_from putter_of c (got ++ (items ++ x ∷ [])) ≡ items_from putter_of c (got ++ items)
  snoc-other c got items x n = ap (items_from putter_of c) (sym (append_assoc got items (x ∷ []))) ∙ of-append c (got ++ items) (x ∷ []) ∙
      ap (λ l. items_from putter_of c (got ++ items) ++ l) (of-other c x n) ∙ append_nil (items_from putter_of c (got ++ items))

  -- each item's putter has a pass
  abbrev Known : List ℕ → T → Type 0
  Known putters x = Contains putters (putter_of x)

  known_snoc : (putters : List ℕ) (got items : List T) (x : T) → Contains putters (putter_of x) → All (Known putters) (got ++ items) →
      All (Known putters) (got ++ (items ++ x ∷ []))
  known_snoc putters got items x has all =
      subst (λ l. All (Known putters) l) (append_assoc got items (x ∷ [])) (All-push (Known putters) (got ++ items) x all has)

  known_here : (putters : List ℕ) (got items : List T) (x : T) {was : List ℕ} → was ≡ putters → All (Known putters) (got ++ x ∷ items) →
      Contains was (putter_of x)
  known_here putters got items x e all = subst (λ l. Contains l (putter_of x)) (sym e)
      (All-contains (Known putters) (got ++ x ∷ items) x all (Contains-append_right got (x ∷ items) x (0, omega arith, refl)))

  none_of : (putters : List ℕ) (c : ℕ) → (Contains putters c → ⊥) → (xs : List T) → All (Known putters) xs → items_from putter_of c xs ≡ []
  none_of putters c fresh [] all = refl
  none_of putters c fresh (x ∷ xs) all =
      ap (λ b. cond b (x ∷ items_from putter_of c xs) (items_from putter_of c xs)) (ne_eqb (putter_of x) c
      (λ e. fresh (subst (Contains putters) e (All-head (Known putters) x xs all)))) ∙ none_of putters c fresh xs (All-tail (Known putters) x xs all)

  pub longer : (xs got : List T) (x : T) → IsPrefix xs got → IsPrefix xs (got ++ x ∷ [])
  longer xs got x p = (p.0 ++ x ∷ [], sym (append_assoc xs p.0 (x ∷ [])) ∙ ap (λ l. l ++ x ∷ []) p.1)

module _ {T N : Type 0} where
  abbrev Each : (ℕ → View T N → Type 0) → List (View T N) → Type 0
  Each F views = (port : ℕ) (v : View T N) → get_elem? views port ≡ some v → F port v

  all_set : (F : ℕ → View T N → Type 0) (views : List (View T N)) (port : ℕ) (w : View T N) → F port w →
      ((j : ℕ) (u : View T N) → j ≢ port → get_elem? views j ≡ some u → F j u) → Each F (set views port w)
  all_set F views port w mine others j u e = ⊎_elim (λ (x : (j ≡ port) × (w ≡ u)). subst (λ (y : ℕ × View T N). F y.0 y.1) (λ i. (sym x.0 i, x.1 i)) mine)
      (λ (x : (j ≢ port) × (get_elem? views j ≡ some u)). others j u x.0 x.1) (at_set views port j w u e)

  -- two passes have two roles
  apart : (endpoint : ℕ → ℕ) (port j : ℕ) (v u : View T N) (r : ℕ) → role v ≡ Some r → ((q : ℕ) → role v ≡ Some q → port ≡ endpoint q) →
      ((q : ℕ) → role u ≡ Some q → j ≡ endpoint q) → j ≢ port → role u ≡ Some r → ⊥
  apart endpoint port j v u r e mine theirs other e' = other (theirs r e' ∙ sym (mine r e))

module _ {T N : Type 0} (putter_of : T → ℕ) where
  -- where each view but the one at `port` stays
  abbrev Keeps : (ℕ → ℕ) → List ℕ → List T → List T → ℕ → View T N → Type 0
  Keeps endpoint putters got items port v = Fits putter_of putters got items v × ((r : ℕ) → role v ≡ Some r → port ≡ endpoint r)

  pub begins : Lined {T = T} {N = N} putter_of [] (taking [] [] [] ∷ [])
  begins = let first : View T N = taking [] [] [] in (
    (λ _. 0),
    [],
    [],
    All-nil (λ x. Contains [] (putter_of x)),
    all_set (Keeps (λ _. 0) [] [] []) (first ∷ []) 0 first ((refl, refl), λ _ _. refl) (λ j u other e. absurd (other (only first u j e))),
  )
    where
      only : (a u : View T N) (j : ℕ) → get_elem? (a ∷ []) j ≡ some u → j ≡ 0
      only a u zero e = refl
      only a u (suc j) e = absurd (some-ne-none u (sym e))

  -- a putter puts x, and its label becomes `label`
  module _ (x : T) (label : List N) where
    -- others stay
    puts_other : {endpoint : ℕ → ℕ} (putters : List ℕ) (got items : List T) (j : ℕ) (u : View T N) → (role u ≡ Some (suc (putter_of x)) → ⊥) →
        Keeps endpoint putters got items j u → Keeps endpoint putters got (items ++ x ∷ []) j u
    puts_other putters got items j (Puts u) not_mine k =
        ((k.0.0, k.0.1 ∙ sym (snoc-other putter_of u.number got items x (λ e. not_mine (ap (λ c. Some (suc c)) (sym e)))), k.0.2), k.1)
    puts_other putters got items j u not_mine k = (k.0, k.1)

    pub puts : (n port : ℕ) (v : View T N) → IsPutting (putter_of x) v → Pushes (Lined putter_of) n port v x (λ w. w ≡ after_put x label v)
    puts n port (Puts v) mine items views room h at =
        let me = h.4 port (Puts v) at in let w : View T N = putting v.number (v.put ++ x ∷ []) label v.seen in
        let here : role (Puts v) ≡ Some (suc (putter_of x)) = ap (λ c. Some (suc c)) mine in (
          w,
          (
            h.0,
            h.1,
            h.2,
            known_snoc putter_of h.1 h.2 items x (subst (Contains h.1) mine me.0.0) h.3,
            all_set (Keeps h.0 h.1 h.2 (items ++ x ∷ [])) views port w
                ((me.0.0, ap (λ l. l ++ x ∷ []) me.0.1 ∙ sym (snoc-same putter_of v.number h.2 items x (sym mine)), me.0.2), me.1)
                (λ j u other e. let k = h.4 j u e in puts_other h.1 h.2 items j u (apart h.0 port j (Puts v) u (suc (putter_of x)) here me.1 k.1 other) k),
          ),
          refl,
        )
    puts n port v mine items views room h at = absurd mine

  -- the taker took x, whose putter has a pass
  abbrev pub TookItem : List N → View T N → T → View T N → Type 0
  TookItem label v x w = (w ≡ after_take x label v) × Contains (putters_of v) (putter_of x)

  -- the taker takes x, and its label becomes `label`
  module _ (label : List N) where
    takes_other : {endpoint : ℕ → ℕ} (putters : List ℕ) (got items : List T) (x : T) (j : ℕ) (u : View T N) → (role u ≡ Some 0 → ⊥) →
        Keeps endpoint putters got (x ∷ items) j u → Keeps endpoint putters (got ++ x ∷ []) items j u
    takes_other putters got items x j (Puts u) not_mine k =
        ((k.0.0, k.0.1 ∙ ap (items_from putter_of u.number) (sym (append_assoc got (x ∷ []) items)), longer putter_of u.seen got x k.0.2), k.1)
    takes_other putters got items x j (Takes u) not_mine k = absurd (not_mine refl)
    takes_other putters got items x j (Saw xs) not_mine k = (longer putter_of xs got x k.0, k.1)
    takes_other putters got items x j Spent not_mine k = (k.0, k.1)

    -- a take by the taker's pass keeps the rule, and the putter of the item has a pass
    pub takes : (port : ℕ) (v : View T N) → IsTaking v → Pops (Lined putter_of) port v (TookItem label v)
    takes port (Takes v) mine x items views h at =
        let me = h.4 port (Takes v) at in let w : View T N = taking v.putters (v.taken ++ x ∷ []) label in
        let got : List T = h.2 ++ x ∷ [] in (
          w,
          (
            h.0,
            h.1,
            got,
            subst (λ l. All (λ y. Contains h.1 (putter_of y)) l) (sym (append_assoc h.2 (x ∷ []) items)) h.3,
            all_set (Keeps h.0 h.1 got items) views port w ((me.0.0, ap (λ l. l ++ x ∷ []) me.0.1), me.1)
                (λ j u other e. let k = h.4 j u e in takes_other h.1 h.2 items x j u (apart h.0 port j (Takes v) u 0 refl me.1 k.1 other) k),
          ),
          (refl, known_here putter_of h.1 h.2 items x me.0.0 h.3),
        )
    takes port v mine x items views h at = absurd mine

  -- the taker makes the pass of a putter
  module _ (endpoint : ℕ → ℕ) (putters : List ℕ) (got items : List T) (c n : ℕ) (fresh : Contains putters c → ⊥) where
    deals_other : (j : ℕ) (u : View T N) → (role u ≡ Some 0 → ⊥) → Keeps endpoint putters got items j u →
        Keeps (endpoints_at endpoint c n) (putters ++ c ∷ []) got items j u
    deals_other j (Puts u) not_mine k = (
      (Contains-append_left putters (c ∷ []) u.number k.0.0, k.0.1, k.0.2),
      λ r e. old_endpoint endpoint c n j r (λ is. fresh (let same : u.number ≡ c = inside u.number r e is in subst (Contains putters) same k.0.0)) (k.1 r e),
    )
      where
        inside : (f r : ℕ) → Some (suc f) ≡ Some r → r ≡ suc c → f ≡ c
        inside f r e is = let g : suc f ≡ suc c = cc in omega arith
    deals_other j (Takes u) not_mine k = absurd (not_mine refl)
    deals_other j u not_mine k = (k.0, λ r e. absurd (cc))

  pub deals : (port c : ℕ) (v : View T N) → MayDeal c v → Forks (Lined putter_of) port v (after_deal c v) (putting c [] [] [])
  deals port c (Takes v) may items views h at =
      let me = h.4 port (Takes v) at in
      let fresh : Contains h.1 c → ⊥ = λ has. may (subst (λ l. Contains l c) (sym me.0.0) has) in
      let left : View T N = taking (v.putters ++ c ∷ []) v.taken v.label in let right : View T N = putting c [] [] [] in
      let old : List (View T N) = set views port left in let n : ℕ = length old in
      let K : ℕ → View T N → Type 0 = Keeps (endpoints_at h.0 c n) (h.1 ++ c ∷ []) h.2 items in
      let olds : Each K old = all_set K views port left
      ((ap (λ l. l ++ c ∷ []) me.0.0, me.0.1), λ r e. old_endpoint h.0 c n port r (λ is. let z : 0 ≡ suc c = cc in absurd (omega arith)) (me.1 r e))
      (λ j u other e. let k = h.4 j u e in deals_other h.0 h.1 h.2 items c n fresh j u (apart h.0 port j (Takes v) u 0 refl me.1 k.1 other) k) in (
        endpoints_at h.0 c n,
        h.1 ++ c ∷ [],
        h.2,
        All-weaker (λ x. Contains h.1 (putter_of x)) (λ x. Contains (h.1 ++ c ∷ []) (putter_of x))
            (λ x has. Contains-append_left h.1 (c ∷ []) (putter_of x) has) (h.2 ++ items) h.3,
        (λ j u e. ⊎_elim (λ was. olds j u was) (λ (is : (j ≡ n) × (right ≡ u)). subst (λ (y : ℕ × View T N). K y.0 y.1) (λ i. (sym is.0 i, is.1 i)) (
          (Contains-push h.1 c, sym (none_of putter_of h.1 c fresh (h.2 ++ items) h.3), (h.2, refl)),
          λ r e'. new_endpoint h.0 c n r (let z : suc c ≡ r = cc in sym z),
        )) (at_new old right u j e)),
      )
  deals port c v may items views h at = absurd may

  copied_fits : (putters : List ℕ) (got items : List T) (v : View T N) → Fits putter_of putters got items v → Fits putter_of putters got items (copied v)
  copied_fits putters got items (Takes v) f = ([], append_nil v.taken ∙ f.1)
  copied_fits putters got items (Saw xs) f = f
  copied_fits putters got items v f = tt

  copied_role : (v : View T N) (r : ℕ) → role (copied v) ≡ Some r → ⊥
  copied_role (Puts v) r e = cc
  copied_role v r e = cc

  pub copies : (port : ℕ) (v : View T N) → Forks (Lined putter_of) port v v (copied v)
  copies port v items views h at =
      let K : ℕ → View T N → Type 0 = Keeps h.0 h.1 h.2 items in let old : List (View T N) = set views port v in
      let olds : Each K old = all_set K views port v (h.4 port v at) (λ j u other e. h.4 j u e) in (
        h.0,
        h.1,
        h.2,
        h.3,
        (λ j u e. ⊎_elim (λ was. olds j u was)
            (λ is. subst (λ y. K j y) is (copied_fits h.1 h.2 items v (h.4 port v at).0, λ r e'. absurd (copied_role v r e'))) (at_snoc old (copied v) u j e)),
      )

  shown_fits : {endpoint : ℕ → ℕ} (putters : List ℕ) (got items : List T) {port : ℕ} (c : ℕ) (v w : View T N) → IsPutting c v → IsCopy w →
      Keeps endpoint putters got items port v → Fits putter_of putters got items w → Keeps endpoint putters got items port (shown v w)
  shown_fits putters got items c (Puts v) (Saw xs) mine theirs k f = ((k.0.0, k.0.1, f), k.1)
  shown_fits putters got items c (Puts v) (Puts w) mine theirs k f = absurd theirs
  shown_fits putters got items c (Puts v) (Takes w) mine theirs k f = absurd theirs
  shown_fits putters got items c (Puts v) Spent mine theirs k f = absurd theirs
  shown_fits putters got items c v w mine theirs k f = absurd mine

  pub sees : (port : ℕ) (v : View T N) (other : ℕ) (w : View T N) (c : ℕ) → IsPutting c v → IsCopy w → Merges (Lined putter_of) port v other w (shown v w) Spent
  sees port v other w c mine theirs items views h at two at' =
      let K : ℕ → View T N → Type 0 = Keeps h.0 h.1 h.2 items in
      let was : get_elem? views other ≡ some w = ⊎_elim (λ x. absurd (two x.0)) (λ x. x.1) (at_set views port other (shown v w) w at') in
      let now : Each K (set views port (shown v w)) =
      all_set K views port (shown v w) (shown_fits h.1 h.2 items c v w mine theirs (h.4 port v at) (h.4 other w was).0) (λ j u _ e. h.4 j u e) in (
        h.0,
        h.1,
        h.2,
        h.3,
        all_set K (set views port (shown v w)) other Spent (tt, λ r e. absurd (cc)) (λ j u _ e. now j u e),
      )

  pub audits : (port : ℕ) (v : View T N) → Learns (Lined putter_of) port v (λ items. Audited putter_of v)
  audits port (Puts v) items views h at = let me = h.4 port (Puts v) at in (
    items_from putter_of v.number (me.0.2.0 ++ items),
    sym (me.0.1 ∙ ap (λ l. items_from putter_of v.number (l ++ items)) (sym me.0.2.1) ∙
        ap (items_from putter_of v.number) (append_assoc v.seen me.0.2.0 items) ∙ of-append putter_of v.number v.seen (me.0.2.0 ++ items)),
  )
  audits port v items views h at = tt

-- a pass's view by its parts
module _ {T N : Type 0} where
  -- a view with the parts of a putter's pass is that putter's
  pub is_putting : (v : View T N) (c d : ℕ) (put : List T) (label : List N) (seen : List T) → c ≡ d → v ≡ putting c put label seen → IsPutting d v
  is_putting v c d put label seen same e = subst (IsPutting d) (sym e) same

  -- a view with the parts of the taker's pass is the taker's
  pub is_taking : (v : View T N) (putters : List ℕ) (taken : List T) (label : List N) → v ≡ taking putters taken label → IsTaking v
  is_taking v putters taken label e = subst IsTaking (sym e) tt

  pub may_deal : (v : View T N) (putters : List ℕ) (taken : List T) (label : List N) (c : ℕ) → v ≡ taking putters taken label → (Contains putters c → ⊥) →
      MayDeal c v
  may_deal v putters taken label c e new = subst (MayDeal c) (sym e) new

  pub is_copy : (v w : View T N) (putters : List ℕ) (taken : List T) (label : List N) → v ≡ taking putters taken label → w ≡ copied v → IsCopy w
  is_copy v w putters taken label e f = subst IsCopy (sym (f ∙ ap copied e)) tt

  pub shown_is : (v v' w u : View T N) (c : ℕ) (put : List T) (label : List N) (seen : List T) (putters : List ℕ) (taken : List T) (label' : List N) →
      v ≡ putting c put label seen → u ≡ taking putters taken label' → w ≡ copied u → v' ≡ shown v w → v' ≡ putting c (put_of v') (label_of v') taken
  shown_is v v' w u c put label seen putters taken label' e f g h =
      let is : v' ≡ putting c put label taken = h ∙ (λ i. shown (e i) ((g ∙ ap copied f) i)) in
      is ∙ (λ i. putting c (put_of (sym is i)) (label_of (sym is i)) taken)

  -- what an audit tells, of the parts of the two passes
  pub audited_is : (putter_of : T → ℕ) (v v' w u : View T N) (c : ℕ) (put : List T) (label : List N) (seen : List T) (putters : List ℕ) (taken : List T)
      (label' : List N) → v ≡ putting c put label seen → u ≡ taking putters taken label' → w ≡ copied u → v' ≡ shown v w → Audited putter_of v' →
      IsPrefix (items_from putter_of c taken) put
  audited_is putter_of v v' w u c put label seen putters taken label' e f g h audited =
      subst (Audited putter_of) (h ∙ (λ i. shown (e i) ((g ∙ ap copied f) i))) audited
