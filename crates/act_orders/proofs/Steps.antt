-- What a step of the search does to all that it has before it.
use Rattle.act_orders.proofs.Common.{◌≡◌, ℕ, suc, ◌+◌, ◌-◌, ◌<◌, ◌≤◌, inl, inr, List, [], ◌∷◌, ◌++◌, length, get_or, take, refl, sym, ap, subst, ◌∙◌, arith}
use Rattle.act_orders.proofs.Common.{Some, slice_get, set, Contains, sum_by-set, Contains-append_left, same_Some, Graph, mark, Needs, Standing, GoesOn, Steps}
use Rattle.act_orders.proofs.Common.{AtRest, OrdersNodes, left, stands_in}
use Rattle.act_orders.proofs.Lists.{same_or_not}
use Rattle.act_orders.proofs.Standing.{Apart, marked, entered, passed_by, finished_by}

-- a list whose last item is known
pub split_last : {A : Type 0} (xs : List A) (v : A) → slice_get xs (length xs - 1) ≡ Some v → xs ≡ take (length xs - 1) xs ++ v ∷ []
split_last [] v e = absurd (cc)
split_last (x ∷ []) v e = let s : x ≡ v = same_Some x v e in ap (λ y. y ∷ []) s
split_last (x ∷ (y ∷ ys)) v e =
    let n : length (x ∷ (y ∷ ys)) - 1 ≡ suc (length (y ∷ ys) - 1) = omega arith in
    let rest : slice_get (y ∷ ys) (length (y ∷ ys) - 1) ≡ Some v = ap (λ k. slice_get (x ∷ (y ∷ ys)) k) (sym n) ∙ e in
    ap (λ zs. x ∷ zs) (split_last (y ∷ ys) v rest) ∙ ap (λ k. take k (x ∷ (y ∷ ys)) ++ v ∷ []) (sym n)

-- a higher mark leaves less
lower : (done : ℕ) (marks : List ℕ) (i m : ℕ) → i < length marks → get_or marks i 0 < m → m ≤ done → left done (set marks i m) < left done marks
lower done marks i m lt more most = let e = sum_by-set (λ k. done - k) marks i m 0 lt in omega (arith, e, more, most)

-- what was begun stays so
stays : {A : Type 0} (g : Graph A) (apart : Apart g) (marks : List ℕ) (v w : A) (m : ℕ) → g.number v < length marks → 0 < m →
    0 < mark g marks w → 0 < mark g (set marks (g.number v) m) w
stays g apart marks v w m lt more had = elim (marked g apart marks v w m lt) [
  | inl h ↦ omega (arith, h.1, more)
  | inr h ↦ omega (arith, h.1, had)
]

pub enter_step : {A : Type 0} {g : Graph A} {done : ℕ} {marks : List ℕ} {path order : List A} {v u : A} → Apart g → Standing g done marks path order →
    1 < done → g.IsNode u → mark g marks u ≡ 0 → slice_get path (length path - 1) ≡ Some v → Needs g v u →
    Steps g done marks (set marks (g.number u) 1) (path ++ u ∷ []) order order
enter_step {g = g} {done = done} {marks = marks} {path = path} {order = order} {v = v} {u = u} apart s big node white last needs =
    let lt : g.number u < length marks = s.room u node in
    record {
      standing = entered g apart done marks path order u s big node white (λ i w at e. let there : i ≡ length path - 1 = omega (arith, e) in
          let same : Some v ≡ Some w = sym last ∙ ap (λ k. slice_get path k) (sym there) ∙ at in subst (λ x. Needs g x u) (same_Some v w same) needs);
      goes_on = record { grows = λ w has. has; begun = λ w had. stays g apart marks u w 1 lt (omega arith) had };
      less = lower done marks (g.number u) 1 lt (omega (arith, white)) (omega (arith, big));
    }

pub pass_step : {A : Type 0} {g : Graph A} {done : ℕ} {marks : List ℕ} {path order : List A} {v : A} → Apart g → (m : ℕ) → Standing g done marks path order →
    slice_get path (length path - 1) ≡ Some v → mark g marks v ≡ m → m + 1 < done → ((u : A) → slice_get (g.slots v) (m - 1) ≡ Some (Some u) → g.IsNode u →
    Contains order u) → Steps g done marks (set marks (g.number v) (m + 1)) path order order
pass_step {g = g} {done = done} {marks = marks} {path = path} {order = order} {v = v} apart m s last at big here =
    let on : Contains path v = stands_in path (length path - 1) last in let node = s.begun v on in let lt : g.number v < length marks = s.room v node.0 in
    let low : mark g marks v ≡ (m - 1) + 1 = omega (arith, at, node.1) in let e : (m - 1) + 2 ≡ m + 1 = omega (arith, at, node.1) in
    record {
      standing = subst (λ k. Standing g done (set marks (g.number v) k) path order) e
          (passed_by g apart done marks path order v (m - 1) s on low (omega (arith, e, big)) here);
      goes_on = record { grows = λ w has. has; begun = λ w had. stays g apart marks v w (m + 1) lt (omega arith) had };
      less = lower done marks (g.number v) (m + 1) lt (omega (arith, at)) (omega (arith, big));
    }

pub finish_step : {A : Type 0} {g : Graph A} {done : ℕ} {marks : List ℕ} {path order : List A} {v : A} → Apart g → {m : ℕ} → Standing g done marks path order →
    slice_get path (length path - 1) ≡ Some v → mark g marks v ≡ m → length (g.slots v) ≤ m - 1 →
    Steps g done marks (set marks (g.number v) done) (take (length path - 1) path) order (order ++ v ∷ [])
finish_step {g = g} {done = done} {marks = marks} {path = path} {order = order} {v = v} apart {m} s last at far =
    let on : Contains path v = stands_in path (length path - 1) last in let node = s.begun v on in let lt : g.number v < length marks = s.room v node.0 in
    let low : mark g marks v ≡ (m - 1) + 1 = omega (arith, at, node.1) in let split = split_last path v last in
    record {
      standing = finished_by g apart done marks (take (length path - 1) path) order v (m - 1) (subst (λ ws. Standing g done marks ws order) split s) low far;
      goes_on = record {
        grows = λ w has. Contains-append_left order (v ∷ []) w has;
        begun = λ w had. stays g apart marks v w done lt (omega (arith, node.1, node.2)) had;
      };
      less = lower done marks (g.number v) done lt node.2 (omega arith);
    }

-- at rest what was begun stands in the order
pub at_rest : {A : Type 0} (g : Graph A) (done : ℕ) (marks : List ℕ) (order : List A) (v : A) → Standing g done marks [] order →
    g.IsNode v → 0 < mark g marks v → Contains order v
at_rest g done marks order v s node more = elim (same_or_not (mark g marks v) done) [
  | inl e ↦ s.finished v node e
  | inr d ↦ absurd (let on = s.on_path v node more (let m = s.most v node in omega (arith, m, d)) in omega (arith, on.1))
]

-- what is known of the last node that was begun
pub record Last {A : Type 0} (g : Graph A) (done : ℕ) (marks : List ℕ) (path : List A) (v : A) : Type 0 where
  pub node : g.IsNode v
  pub on : Contains path v
  pub room : g.number v < length marks
  pub low : 0 < mark g marks v
  pub high : mark g marks v < done

pub last_of : {A : Type 0} {g : Graph A} {done : ℕ} {marks : List ℕ} {path order : List A} {v : A} →
    Standing g done marks path order → slice_get path (length path - 1) ≡ Some v → Last g done marks path v
last_of {path = path} {v = v} s at =
    let on : Contains path v = stands_in path (length path - 1) at in let b = s.begun v on in
    record { node = b.0; on = on; room = s.room v b.0; low = b.1; high = b.2 }

-- the first node that is begun
pub record Entered {A : Type 0} (g : Graph A) (done : ℕ) (marks later : List ℕ) (path order : List A) (u : A) : Type 0 where
  pub standing : Standing g done later path order
  pub goes_on : GoesOn g marks later order order
  pub begun : 0 < mark g later u

pub enter_root : {A : Type 0} (g : Graph A) (apart : Apart g) (done : ℕ) (marks : List ℕ) (path order : List A) (u : A) → AtRest g done marks path order →
    1 < done → g.IsNode u → mark g marks u ≡ 0 → Entered g done marks (set marks (g.number u) 1) (path ++ u ∷ []) order u
enter_root g apart done marks path order u rest big node white =
    let s = rest.0 in let lt : g.number u < length marks = s.room u node in
    record {
      standing = entered g apart done marks path order u s big node white (λ i w at e.
          absurd (let n : length path ≡ 0 = ap length rest.1 in omega (arith, n, e)));
      goes_on = record { grows = λ w has. has; begun = λ w had. stays g apart marks u w 1 lt (omega arith) had };
      begun = elim (marked g apart marks u u 1 lt) [ inl h ↦ omega (arith, h.1) | inr h ↦ absurd (h.0 refl) ];
    }

pub orders : {A : Type 0} (g : Graph A) (done : ℕ) (marks : List ℕ) (path order : List A) → AtRest g done marks path order →
    ((v : A) → g.IsNode v → Contains order v) → OrdersNodes g order
orders g done marks path order rest all = record { all = all; only = λ v has. (rest.0.placed v has).0; after = rest.0.after }
