-- The steps of a search for an order.
use Rattle.act_orders.proofs.Common.{◌≡◌, ◌≢◌, ℕ, ◌+◌, ◌<◌, ◌≤◌, ◌⊎◌, inl, inr, List, [], ◌∷◌, ◌++◌, length, get_or, sym, ap, subst, ◌∙◌, arith, Some}
use Rattle.act_orders.proofs.Common.{slice_get, set, Contains, get_or-set_same, get_or-set_other, length-set, length-append, Contains-append_left}
use Rattle.act_orders.proofs.Common.{Contains-push, Contains-push_cases, slice_get_within, Graph, mark, Needs, MayFollow, Fresh, Standing, slice_get_more}
use Rattle.act_orders.proofs.Lists.{same_or_not, get_pushed, each_after_pushed, each_after_front, fresh_last}

-- no two nodes have one number
abbrev pub Apart : {A : Type 0} → Graph A → Type 0
Apart {A} g = (v w : A) → g.number v ≡ g.number w → v ≡ w

-- a mark that is set is that of one node
pub marked : {A : Type 0} (g : Graph A) (apart : Apart g) (marks : List ℕ) (v w : A) (m : ℕ) → g.number v < length marks →
    ((w ≡ v) × (mark g (set marks (g.number v) m) w ≡ m)) ⊎ ((w ≢ v) × (mark g (set marks (g.number v) m) w ≡ mark g marks w))
marked g apart marks v w m lt =
    elim (same_or_not (g.number w) (g.number v)) [
      | inl e ↦ inl (apart w v e, ap (λ k. get_or (set marks (g.number v) m) k 0) e ∙ get_or-set_same marks (g.number v) m 0 lt)
      | inr d ↦ inr ((λ e. d (ap g.number e)), get_or-set_other marks (g.number v) (g.number w) m 0 d)
    ]

-- a node that wasn't begun goes to the end of the path, whose last node needs it
pub entered : {A : Type 0} (g : Graph A) (apart : Apart g) (done : ℕ) (marks : List ℕ) (path order : List A) (u : A) → Standing g done marks path order →
    1 < done → g.IsNode u → mark g marks u ≡ 0 → ((i : ℕ) (v : A) → slice_get path i ≡ Some v → i + 1 ≡ length path → Needs g v u) →
    Standing g done (set marks (g.number u) 1) (path ++ u ∷ []) order
entered {A} g apart done marks path order u s big node white last =
    let lt : g.number u < length marks = s.room u node in
    record {
      room = λ v n. let h = s.room v n in omega (arith, h, length-set marks (g.number u) 1);
      finished = λ v n e. elim (marked g apart marks u v 1 lt) [ inl h ↦ absurd (omega (arith, h.1, e)) | inr h ↦ s.finished v n (sym h.1 ∙ e) ];
      placed = λ v has. let p = s.placed v has in elim (marked g apart marks u v 1 lt) [
        | inl h ↦ absurd (let e : mark g marks v ≡ mark g marks u = ap (mark g marks) h.0 in omega (arith, p.1, e, white))
        | inr h ↦ (p.0, h.1 ∙ p.1)
      ];
      after = s.after;
      begun = λ v has. elim (marked g apart marks u v 1 lt) [
        | inl h ↦ (subst g.IsNode (sym h.0) node, omega (arith, h.1), omega (arith, h.1))
        | inr h ↦ elim (Contains-push_cases path u v has) [
          | inl in' ↦ let b = s.begun v in' in (b.0, omega (arith, h.1, b.1), omega (arith, h.1, b.2))
          | inr e ↦ absurd (h.0 (sym e))
        ]
      ];
      most = λ v n. elim (marked g apart marks u v 1 lt) [ inl h ↦ omega (arith, h.1, big) | inr h ↦ let b = s.most v n in omega (arith, h.1, b) ];
      once = each_after_pushed Fresh path u s.once (λ has. let b = s.begun u has in omega (arith, b.1, white));
      on_path = λ v n low high. elim (marked g apart marks u v 1 lt) [
        | inl h ↦ subst (Contains (path ++ u ∷ [])) (sym h.0) (Contains-push path u)
        | inr h ↦ Contains-append_left path (u ∷ []) v (s.on_path v n (omega (arith, h.1, low)) (omega (arith, h.1, high)))
      ];
      passed = λ v has k w below at n. elim (marked g apart marks u v 1 lt) [
        | inl h ↦ absurd (omega (arith, h.1, below))
        | inr h ↦ elim (Contains-push_cases path u v has) [
          | inl in' ↦ s.passed v in' k w (omega (arith, h.1, below)) at n
          | inr e ↦ absurd (h.0 (sym e))
        ]
      ];
      chain = λ i v w one next. elim (get_pushed path u i one) [
        | inr h ↦ absurd (let far = slice_get_within (path ++ u ∷ []) (i + 1) w next in omega (arith, h.0, far, length-append path (u ∷ [])))
        | inl h ↦ elim (get_pushed path u (i + 1) next) [
          | inl j ↦ s.chain i v w h.1 j.1
          | inr j ↦ subst (Needs g v) j.1 (last i v h.1 j.0)
        ]
      ];
    }

-- the last node of the path goes past a slot whose cause stands in the order, or that has none
pub passed_by : {A : Type 0} (g : Graph A) (apart : Apart g) (done : ℕ) (marks : List ℕ) (path order : List A) (v : A) (m : ℕ) →
    Standing g done marks path order → Contains path v → mark g marks v ≡ m + 1 → m + 2 < done →
    ((u : A) → slice_get (g.slots v) m ≡ Some (Some u) → g.IsNode u → Contains order u) → Standing g done (set marks (g.number v) (m + 2)) path order
passed_by {A} g apart done marks path order v m s on at_m big here =
    let node = s.begun v on in let lt : g.number v < length marks = s.room v node.0 in
    record {
      room = λ w n. let h = s.room w n in omega (arith, h, length-set marks (g.number v) (m + 2));
      finished = λ w n e. elim (marked g apart marks v w (m + 2) lt) [ inl h ↦ absurd (omega (arith, h.1, e)) | inr h ↦ s.finished w n (sym h.1 ∙ e) ];
      placed = λ w has. let p = s.placed w has in elim (marked g apart marks v w (m + 2) lt) [
        | inl h ↦ absurd (let e : mark g marks w ≡ mark g marks v = ap (mark g marks) h.0 in omega (arith, p.1, e, node.2))
        | inr h ↦ (p.0, h.1 ∙ p.1)
      ];
      after = s.after;
      begun = λ w has. let b = s.begun w has in elim (marked g apart marks v w (m + 2) lt) [
        | inl h ↦ (b.0, omega (arith, h.1), omega (arith, h.1))
        | inr h ↦ (b.0, omega (arith, h.1, b.1), omega (arith, h.1, b.2))
      ];
      most = λ w n. elim (marked g apart marks v w (m + 2) lt) [ inl h ↦ omega (arith, h.1, big) | inr h ↦ let b = s.most w n in omega (arith, h.1, b) ];
      once = s.once;
      on_path = λ w n low high. elim (marked g apart marks v w (m + 2) lt) [
        | inl h ↦ subst (Contains path) (sym h.0) on
        | inr h ↦ s.on_path w n (omega (arith, h.1, low)) (omega (arith, h.1, high))
      ];
      passed = λ w has k u below at n. elim (marked g apart marks v w (m + 2) lt) [
        | inl h ↦ elim (same_or_not k m) [
          | inl e ↦ here u (ap (λ j. slice_get (g.slots v) j) (sym e) ∙ ap (λ x. slice_get (g.slots x) k) (sym h.0) ∙ at) n
          | inr d ↦ let e : mark g marks w ≡ mark g marks v = ap (mark g marks) h.0 in
              s.passed w has k u (omega (arith, h.1, e, at_m, below, d)) at n
        ]
        | inr h ↦ s.passed w has k u (omega (arith, h.1, below)) at n
      ];
      chain = s.chain;
    }

-- the last node of the path, past all its slots, goes to the end of the order
pub finished_by : {A : Type 0} (g : Graph A) (apart : Apart g) (done : ℕ) (marks : List ℕ) (rest order : List A) (v : A) (m : ℕ) → Standing g done marks
    (rest ++ v ∷ []) order → mark g marks v ≡ m + 1 → length (g.slots v) ≤ m → Standing g done (set marks (g.number v) done) rest (order ++ v ∷ [])
finished_by {A} g apart done marks rest order v m s at_m far =
    let on : Contains (rest ++ v ∷ []) v = Contains-push rest v in let node = s.begun v on in let lt : g.number v < length marks = s.room v node.0 in
    record {
      room = λ w n. let h = s.room w n in omega (arith, h, length-set marks (g.number v) done);
      finished = λ w n e. elim (marked g apart marks v w done lt) [
        | inl h ↦ subst (Contains (order ++ v ∷ [])) (sym h.0) (Contains-push order v)
        | inr h ↦ Contains-append_left order (v ∷ []) w (s.finished w n (sym h.1 ∙ e))
      ];
      placed = λ w has. elim (marked g apart marks v w done lt) [
        | inl h ↦ (subst g.IsNode (sym h.0) node.0, h.1)
        | inr h ↦ elim (Contains-push_cases order v w has) [
          | inl in' ↦ let p = s.placed w in' in (p.0, h.1 ∙ p.1)
          | inr e ↦ absurd (h.0 (sym e))
        ]
      ];
      after = each_after_pushed (MayFollow g) order v s.after (record {
        once = λ has. let p = s.placed v has in omega (arith, p.1, node.2);
        causes = λ u needs n. s.passed v on needs.0 u (let k = slice_get_within (g.slots v) needs.0 (Some u) needs.1 in omega (arith, k, far, at_m)) needs.1 n;
      });
      begun = λ w has. let b = s.begun w (Contains-append_left rest (v ∷ []) w has) in elim (marked g apart marks v w done lt) [
        | inl h ↦ absurd (fresh_last rest v s.once (subst (Contains rest) h.0 has))
        | inr h ↦ (b.0, omega (arith, h.1, b.1), omega (arith, h.1, b.2))
      ];
      most = λ w n. elim (marked g apart marks v w done lt) [ inl h ↦ omega (arith, h.1) | inr h ↦ let b = s.most w n in omega (arith, h.1, b) ];
      once = each_after_front Fresh rest (v ∷ []) s.once;
      on_path = λ w n low high. elim (marked g apart marks v w done lt) [
        | inl h ↦ absurd (omega (arith, h.1, high))
        | inr h ↦ elim (Contains-push_cases rest v w (s.on_path w n (omega (arith, h.1, low)) (omega (arith, h.1, high)))) [
          | inl in' ↦ in'
          | inr e ↦ absurd (h.0 (sym e))
        ]
      ];
      passed = λ w has k u below at n. elim (marked g apart marks v w done lt) [
        | inl h ↦ absurd (fresh_last rest v s.once (subst (Contains rest) h.0 has))
        | inr h ↦ Contains-append_left order (v ∷ []) u (s.passed w (Contains-append_left rest (v ∷ []) w has) k u (omega (arith, h.1, below)) at n)
      ];
      chain = λ i w x one next. s.chain i w x (slice_get_more rest (v ∷ []) i one) (slice_get_more rest (v ∷ []) (i + 1) next);
    }

-- nothing is begun
pub unbegun : {A : Type 0} (g : Graph A) (done : ℕ) (marks : List ℕ) → 0 < done → ((v : A) → g.IsNode v → g.number v < length marks) →
    ((v : A) → g.IsNode v → mark g marks v ≡ 0) → Standing g done marks [] []
unbegun g done marks big room white = record {
  room = room;
  finished = λ v n e. absurd (omega (arith, white v n, e, big));
  placed = λ v has. absurd (none has);
  after = λ i v e. absurd (cc);
  begun = λ v has. absurd (none has);
  once = λ i v e. absurd (cc);
  most = λ v n. omega (arith, white v n);
  on_path = λ v n low high. absurd (omega (arith, white v n, low));
  passed = λ v has k u below at n. absurd (none has);
  chain = λ i v w one next. absurd (cc);
}
  where
    none : {A : Type 0} {v : A} → Contains [] v → ⊥
    none has = omega (arith, has.1)
