-- The actors at the opening.
use Rattle.act_world.proofs.Common.{◌≡◌, ◌≢◌, ℕ, zero, suc, ◌<◌, Bool, true, false, List, [], ◌∷◌, length, map, Option, Some, None, All, inl, inr, refl, ap}
use Rattle.act_world.proofs.Common.{sym, ◌∙◌, subst, arith, ◌==◌, ◌||◌, if◌then◌else◌, nat_lt, replicate, slice_get, slice_set, AllByRecursion, list_any}
use Rattle.act_world.proofs.Common.{eq-eqb, ne_eqb, eqb_tells, All-tail, KindState, Packet, ActorSpec, History, opening, cast_of, names, IsOpened, Cast}
use Rattle.act_world.proofs.Common.{ActorsDiffer, CallersDiffer, ActorView, SlotView, Runs, Vacant, IsLive, IsStage, actor_spec}
use Rattle.act_world.proofs.OpenedOwners.{differ_head, differ_tail}

-- a slot that is written, and the others
set_same : {X Y : Type 0} (f : X → Y) (xs : List X) (i : ℕ) (x : X) → i < length xs → slice_get (map f (slice_set xs i x)) i ≡ Some (f x)
set_same f [] i x within = absurd (omega arith)
set_same f (z ∷ xs) zero x within = refl
set_same f (z ∷ xs) (suc i) x within = set_same f xs i x (omega arith)

set_other : {X Y : Type 0} (f : X → Y) (xs : List X) (i b : ℕ) (x : X) → i ≢ b → slice_get (map f (slice_set xs i x)) b ≡ slice_get (map f xs) b
set_other f [] i b x apart = refl
set_other f (z ∷ xs) zero zero x apart = absurd (apart refl)
set_other f (z ∷ xs) zero (suc b) x apart = refl
set_other f (z ∷ xs) (suc i) zero x apart = refl
set_other f (z ∷ xs) (suc i) (suc b) x apart = set_other f xs i b x (λ same. apart (ap suc same))

pub set_map : {X Y : Type 0} (f : X → Y) (xs : List X) {i : ℕ} (b : ℕ) (x : X) → i < length xs →
    slice_get (map f (slice_set xs i x)) b ≡ (if i == b then Some (f x) else slice_get (map f xs) b)
set_map f xs {i} b x within = elim (eqb_tells i b) [
  | inl t ↦ rw t.0 (subst (λ n. slice_get (map f (slice_set xs i x)) n ≡ Some (f x)) t.1 (set_same f xs i x within))
  | inr u ↦ rw u.0 (set_other f xs i b x u.1)
]

-- ---- casts that are still to be opened

-- the cast is its actor's, and can be opened
abbrev pub IsToOpen : {K : Type 0} → (K → KindState) → History → Cast K → Type 0
IsToOpen state h cast = (cast_of cast.actor h ≡ Some (actor_spec state cast)) × CallersDiffer cast.callers

-- each actor is where the history says, but for those of these casts
abbrev pub AreOpened : {K : Type 0} → (K → KindState) → History → List (Cast K) → List SlotView → Type 0
AreOpened state h rest slots = (a : ℕ) → list_any (λ cast. cast.actor == a) rest ≡ false → IsStage h a (slice_get slots a)

behind : {K : Type 0} (state : K → KindState) (cast : Cast K) (casts part : List (Cast K)) → All (λ other. cast.actor ≢ other.actor) part → AllByRecursion
    (IsToOpen state (opening (map (actor_spec state) casts))) part → AllByRecursion (IsToOpen state (opening (map (actor_spec state) (cast ∷ casts)))) part
behind state cast casts [] apart all = tt
behind {K} state cast casts (other ∷ part) apart all = (
  (rw (ne_eqb cast.actor other.actor (apart 0 other (omega arith))) all.0.0, all.0.1),
  behind state cast casts part (All-tail (λ (other : Cast K). cast.actor ≢ other.actor) other part apart) all.1,
)

pub to_open : {K : Type 0} (state : K → KindState) (casts : List (Cast K)) → ActorsDiffer casts → All (λ cast. CallersDiffer cast.callers) casts →
    AllByRecursion (IsToOpen state (opening (map (actor_spec state) casts))) casts
to_open state [] differ callers = tt
to_open {K} state (cast ∷ casts) differ callers = (
  (rw (eq-eqb cast.actor cast.actor refl) refl, callers 0 cast (omega arith)),
  behind state cast casts casts (differ_head cast casts differ)
      (to_open state casts (differ_tail cast casts differ) (All-tail (λ (cast : Cast K). CallersDiffer cast.callers) cast casts callers)),
)

-- ---- no actor is opened yet

no_cast : {K : Type 0} (state : K → KindState) (a : ℕ) (casts : List (Cast K)) → list_any (λ cast. cast.actor == a) casts ≡ false →
    cast_of a (opening (map (actor_spec state) casts)) ≡ None
no_cast state a [] none = refl
no_cast state a (cast ∷ casts) none = elim (eqb_tells cast.actor a) [
  | inl t ↦ absurd (cc (t.0, none))
  | inr f ↦ rw f.0 (no_cast state a casts (rw f.0 at none))
]

vacant_at : (h : History) (a count b : ℕ) → cast_of a h ≡ None → IsStage h a (slice_get (replicate count Vacant) b)
vacant_at h a zero b none = none
vacant_at h a (suc count) zero none = none
vacant_at h a (suc count) (suc b) none = vacant_at h a count b none

pub none_opened : {K : Type 0} (state : K → KindState) (casts : List (Cast K)) {slots : List SlotView} → slots ≡ replicate 9 Vacant →
    AreOpened state (opening (map (actor_spec state) casts)) casts slots
none_opened state casts {slots} vacant a none =
    let h = opening (map (actor_spec state) casts) in
    subst (λ slots. IsStage h a (slice_get slots a)) (sym vacant) (vacant_at h a 9 a (no_cast state a casts none))

-- ---- one actor more

live_opened : {K : Type 0} (state : K → KindState) (actor_specs : List ActorSpec) (cast : Cast K) (live : ActorView) →
    cast_of cast.actor (opening actor_specs) ≡ Some (actor_spec state cast) → live.id ≡ cast.actor → IsOpened cast.callers live.inbox → live.log ≡ [] →
    live.state ≡ state cast.kind → IsLive (opening actor_specs) cast.actor live
live_opened state actor_specs cast live at id inbox log kind = record {
  cast = actor_spec state cast;
  cast_is = at;
  runs = refl;
  id = id;
  log = log;
  state = kind;
  listed = λ c. inbox.listed c ∙ ap (names c) (sym at);
  handed = λ c named. inbox.handed c;
  waits = λ c n named. inbox.waits c n ∙ sym (nothing (nat_lt n 0) None refl);
  notes = λ c n named. rw (inbox.notes c) refl;
}
  where
    nothing : (b : Bool) (o : Option Packet) → o ≡ None → (if b then None else o) ≡ None
    nothing true o none = refl
    nothing false o none = none

pub one_more : {K : Type 0} (state : K → KindState) (actor_specs : List ActorSpec) (cast : Cast K) (rest : List (Cast K)) (live : ActorView)
    (slots new : List SlotView) → AreOpened state (opening actor_specs) (cast ∷ rest) slots → cast_of cast.actor (opening actor_specs) ≡ Some
    (actor_spec state cast) → live.id ≡ cast.actor → IsOpened cast.callers live.inbox → live.log ≡ [] → live.state ≡ state cast.kind →
    ((b : ℕ) → slice_get new b ≡ (if cast.actor == b then Some (Runs live) else slice_get slots b)) → AreOpened state (opening actor_specs) rest new
one_more state actor_specs cast rest live slots new before at id inbox log kind written a none =
    subst (IsStage (opening actor_specs) a) (sym (written a))
    (elim (eqb_tells cast.actor a) [
      | inl t ↦ rw t.0 (subst (λ b. IsLive (opening actor_specs) b live) t.1 (live_opened state actor_specs cast live at id inbox log kind))
      | inr f ↦ rw f.0 (before a (ap (λ b. b || list_any (λ cast. cast.actor == a) rest) f.0 ∙ none))
    ])
