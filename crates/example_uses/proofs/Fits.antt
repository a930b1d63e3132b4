-- The casts of a counter, a table, an account and a list fit, and so does one plan that isn't too long: what is left to fail is the run.
use Rattle.example_uses.proofs.Common.{◌≡◌, ◌≢◌, ◌<◌, ℕ, true, false, List, [], ◌∷◌, map, length, get_or, refl, ap, sym, ◌∙◌, subst, arith, All, AllPairs, Vec}
use Rattle.example_uses.proofs.Common.{list_all, list_any, eq-eqb, All-cons, All-nil, AllPairs-cons, KindState, Step, ActorSpec, contains, IsLimit, Cast}
use Rattle.example_uses.proofs.Common.{CallersDiffer, IsFitting, actor_spec, PlansFit, plan_view, IsFault, most_steps, Kinds, PeaceFault, EndsAnActor, Unfit}
use Rattle.example_uses.proofs.Common.{Run, is_peaceful, are_peaceful, cast_for, casts_for, IsPeaceFault, IsServeFault}

-- ---- lists of one and of four

module _ {X : Type 0} where
  all_four : (P : X → Type 0) (w x y z : X) → P w → P x → P y → P z → All P (w ∷ x ∷ y ∷ z ∷ [])
  all_four P w x y z a b c d = All-cons P w (x ∷ y ∷ z ∷ []) a (All-cons P x (y ∷ z ∷ []) b (All-cons P y (z ∷ []) c (All-cons P z [] d (All-nil P))))

  none_differ : (R : X → X → Type 0) → AllPairs R []
  none_differ R i j d lt within = absurd (omega arith)

  one_differs : (R : X → X → Type 0) (x : X) → AllPairs R (x ∷ [])
  one_differs R x = AllPairs-cons R x [] (All-nil (R x)) (none_differ R)

  four_differ : (R : X → X → Type 0) (w x y z : X) → R w x → R w y → R w z → R x y → R x z → R y z → AllPairs R (w ∷ x ∷ y ∷ z ∷ [])
  four_differ R w x y z a b c d e f =
      AllPairs-cons R w (x ∷ y ∷ z ∷ []) (All-cons (R w) x (y ∷ z ∷ []) a (All-cons (R w) y (z ∷ []) b (All-cons (R w) z [] c (All-nil (R w)))))
      (AllPairs-cons R x (y ∷ z ∷ []) (All-cons (R x) y (z ∷ []) d (All-cons (R x) z [] e (All-nil (R x))))
      (AllPairs-cons R y (z ∷ []) (All-cons (R y) z [] f (All-nil (R y))) (one_differs R z)))

-- ---- the casts

-- numbers differ that equal one number and a greater one
apart : (x y m n : ℕ) → x ≡ m → y ≡ n → m < n → x ≢ y
apart x y m n is that less same = absurd (omega (arith, is, that, less, same))

module _ {K : Type 0} (state : K → KindState) (c : ℕ) where
  callers_differ : (n : ℕ) (s : KindState) (cast : Cast K) → actor_spec state cast ≡ cast_for c n s → CallersDiffer cast.callers
  callers_differ n s cast is = subst CallersDiffer (sym (ap (λ (it : ActorSpec). it.callers) is)) (one_differs (λ x y. x ≢ y) c)

  unlimited : (n : ℕ) (s : KindState) (cast : Cast K) → actor_spec state cast ≡ cast_for c n s → IsLimit cast.pending
  unlimited n s cast is = subst IsLimit (sym (ap (λ (it : ActorSpec). it.pending) is)) tt

  four_fit : (s1 s2 s3 s4 : KindState) (one two three four : Cast K) → actor_spec state one ≡ cast_for c 1 s1 → actor_spec state two ≡ cast_for c 2 s2 →
      actor_spec state three ≡ cast_for c 3 s3 → actor_spec state four ≡ cast_for c 4 s4 → IsFitting (one ∷ two ∷ three ∷ four ∷ [])
  four_fit s1 s2 s3 s4 one two three four e1 e2 e3 e4 =
      let actor = λ (it : ActorSpec). it.actor in
      let n1 : one.actor ≡ 1 = ap actor e1 in
      let n2 : two.actor ≡ 2 = ap actor e2 in
      let n3 : three.actor ≡ 3 = ap actor e3 in
      let n4 : four.actor ≡ 4 = ap actor e4 in
      record {
        actors = four_differ (λ (x y : Cast K). x.actor ≢ y.actor) one two three four (apart one.actor two.actor 1 2 n1 n2 (omega arith))
            (apart one.actor three.actor 1 3 n1 n3 (omega arith)) (apart one.actor four.actor 1 4 n1 n4 (omega arith)) (apart two.actor three.actor 2 3 n2 n3
            (omega arith)) (apart two.actor four.actor 2 4 n2 n4 (omega arith)) (apart three.actor four.actor 3 4 n3 n4 (omega arith));
        callers = all_four (λ (cast : Cast K). CallersDiffer cast.callers) one two three four
            (callers_differ 1 s1 one e1) (callers_differ 2 s2 two e2) (callers_differ 3 s3 three e3) (callers_differ 4 s4 four e4);
        limits = all_four (λ (cast : Cast K). IsLimit cast.pending) one two three four
            (unlimited 1 s1 one e1) (unlimited 2 s2 two e2) (unlimited 3 s3 three e3) (unlimited 4 s4 four e4);
      }

  casts_fit : (kinds : Kinds K) (casts : List (Cast K)) → map (actor_spec state) casts ≡ casts_for state c kinds → IsFitting casts
  casts_fit kinds [] same = let lengths = ap length same in absurd (omega (arith, lengths))
  casts_fit kinds (one ∷ []) same = let lengths = ap length same in absurd (omega (arith, lengths))
  casts_fit kinds (one ∷ two ∷ []) same = let lengths = ap length same in absurd (omega (arith, lengths))
  casts_fit kinds (one ∷ two ∷ three ∷ []) same = let lengths = ap length same in absurd (omega (arith, lengths))
  casts_fit kinds (one ∷ two ∷ three ∷ four ∷ []) same =
      let d = actor_spec state one in
      four_fit (state kinds.counter) (state kinds.table) (state kinds.account) (state kinds.list) one two three four
      (ap (λ l. get_or l 0 d) same) (ap (λ l. get_or l 1 d) same)
      (ap (λ l. get_or l 2 d) same) (ap (λ l. get_or l 3 d) same)
  casts_fit kinds (one ∷ two ∷ three ∷ four ∷ five ∷ more) same = let lengths = ap length same in absurd (omega (arith, lengths))

  -- the casts name the caller
  contained : {callers : List ℕ} → callers ≡ c ∷ [] → contains c callers ≡ true
  contained is = rw (is, eq-eqb c c refl) refl

  named : (kinds : Kinds K) (casts : List (Cast K)) → map (actor_spec state) casts ≡ casts_for state c kinds →
      list_any (λ (cast : Cast K). contains c cast.callers) casts ≡ true
  named kinds [] same = let lengths = ap length same in absurd (omega (arith, lengths))
  named kinds (one ∷ more) same =
      let d = actor_spec state one in
      let is : contains c one.callers ≡ true = contained (ap (λ l. (get_or l 0 d).callers) same) in
      rw is refl

  plans_fit : (kinds : Kinds K) (casts : List (Cast K)) (plan : Vec Step) → map (actor_spec state) casts ≡ casts_for state c kinds →
      length plan.items < most_steps → PlansFit casts ((c, plan) ∷ [])
  plans_fit kinds casts plan same short = record {
    differ = one_differs (λ (one other : ℕ × Vec Step). one.0 ≢ other.0) (c, plan);
    named = All-cons (λ (it : ℕ × Vec Step). list_any (λ (cast : Cast K). contains it.0 cast.callers) casts ≡ true) (c, plan) [] (named kinds casts same)
        (All-nil _);
    short = All-cons (λ (it : ℕ × Vec Step). length it.1.items < most_steps) (c, plan) [] short (All-nil _);
  }

  -- ---- the faults

  peaceful_one : (plan : Vec Step) → list_all is_peaceful plan.items ≡ true → are_peaceful ((c, plan) ∷ []) ≡ true
  peaceful_one plan peace = rw peace refl

  pub served : (kinds : Kinds K) (casts : List (Cast K)) (plans : List (ℕ × Vec Step)) (plan : Vec Step) →
      map (actor_spec state) casts ≡ casts_for state c kinds → plans ≡ (c, plan) ∷ [] → list_all is_peaceful plan.items ≡ true →
      length plan.items < most_steps → (fault : PeaceFault) → IsPeaceFault state casts plans fault → IsServeFault (casts_for state c kinds) c plan.items fault
  served kinds casts plans plan same is peace short EndsAnActor wild =
      let calm = ap are_peaceful is ∙ peaceful_one plan peace in
      let no : true ≡ false = sym calm ∙ wild in
      absurd (cc)
  served kinds casts plans plan same is peace short Unfit unfit =
      absurd (unfit.1 (casts_fit kinds casts same) (subst (PlansFit casts) (sym is) (plans_fit kinds casts plan same short)))
  served kinds casts plans plan same is peace short (Run fault) ran = (
    peace,
    short,
    subst (λ l. IsFault (casts_for state c kinds) l fault) (ap (map plan_view) is)
        (subst (λ l. IsFault l (map plan_view plans) fault) same ran.3),
  )
