-- From what the tasks were given and left to the casts and the parts.
use Rattle.act_executor.proofs.Common.{◌≡◌, ℕ, zero, suc, List, [], ◌∷◌, length, map, drop, zip, get_or, slice_get, Some, sym, ap, ◌∙◌, subst, arith}
use Rattle.act_executor.proofs.Common.{slice_get_within, get_or_from_slice_get, length-map, KindState, Cast, Each, Endpoint, ExecPasses, Finished, HasServed}
use Rattle.act_executor.proofs.Common.{end_view, CallerPasses, Driven, CallerSetup, Lines, Serving, Driving, Doing, HasConducted, IsServedBy, IsDrivenTo}
use Rattle.act_executor.proofs.Common.{ActorStart, serving_start, cast_start, CallerStart, driving_start, setup_start, AreServed, AreDriven, element}
use Rattle.act_executor.proofs.Common.{length-zip_same}

-- the elements at a place of a list, and of two lists beside each other, that agree
pub starts_at : {X A B Z : Type 0} (f : X → Z) (g : A × B → Z) (xs : List X) (ls : List A) (ms : List B) (j : ℕ) {x : X} {a : A} {b : B} →
    map f xs ≡ map g (zip ls ms) → slice_get xs j ≡ Some x → slice_get ls j ≡ Some a → slice_get ms j ≡ Some b → f x ≡ g (a, b)
starts_at f g [] ls ms j same at_x at_a at_b = cc
starts_at f g (y ∷ xs) [] ms j same at_x at_a at_b = cc
starts_at f g (y ∷ xs) (c ∷ ls) [] j same at_x at_a at_b = cc
starts_at f g (y ∷ xs) (c ∷ ls) (d ∷ ms) zero {x} {a} {b} same at_x at_a at_b =
    let heads : f y ≡ g (c, d) = ap (λ l. get_or l 0 (f y)) same in let is_x : y ≡ x = cc in let is_a : c ≡ a = cc in let is_b : d ≡ b = cc in
    ap f (sym is_x) ∙ heads ∙ (λ i. g (is_a i, is_b i))
starts_at f g (y ∷ xs) (c ∷ ls) (d ∷ ms) (suc j) {x} {a} {b} same at_x at_a at_b = starts_at f g xs ls ms j (ap (drop 1) same) at_x at_a at_b

pub each_at : {T X : Type 0} (D : T → X → Type 0) (ts : List T) (xs : List X) (i : ℕ) (t : T) (x : X) → Each D ts xs → slice_get ts i ≡ Some t →
    slice_get xs i ≡ Some x → D t x
each_at D ts xs i t x each at_t at_x = subst (λ y. D t y) (get_or_from_slice_get xs i x x at_x)
    (subst (λ s. D s (get_or xs i x)) (get_or_from_slice_get ts i t t at_t) (each.1 i t x (slice_get_within ts i t at_t)))

-- the tasks are ls many ls their casts
tasks_long : {X A B Z : Type 0} (f : X → Z) (g : A × B → Z) (xs : List X) (ls : List A) (ms : List B) → map f xs ≡ map g (zip ls ms) → length ms ≡ length ls →
    length xs ≡ length ls
tasks_long f g xs ls ms same long = sym (length-map xs f) ∙ ap length same ∙ length-map (zip ls ms) g ∙ length-zip_same ls ms long

pub all_served : {K G N L : Type 0} (state : K → KindState) (lines : Lines) (casts : List (Cast K)) (execs : List (Endpoint ExecPasses))
    (servings : List (Serving K G N L)) (actors : List (Finished K L)) → length execs ≡ length casts → map (serving_start state) servings ≡ map
    (cast_start state lines.replies.items) (zip casts execs) → Each (IsServedBy state) servings actors → AreServed state lines casts execs actors
all_served state lines casts execs servings actors long starts each = record {
  long = each.0 ∙ tasks_long (serving_start state) (cast_start state lines.replies.items) servings casts execs starts long;
  each = λ j cast exec actor at_cast at_exec at_actor.
      let below = slice_get_within actors j actor at_actor in let serving = element servings j (omega (arith, below, each.0)) in
      let start = starts_at (serving_start state) (cast_start state lines.replies.items) servings casts execs j starts serving.1 at_cast at_exec in
      let P : ActorStart → Type 0 = λ s. HasServed s.state s.id s.replies s.passes (end_view state actor.ended) actor.passes in
      subst P start (each_at (IsServedBy state) servings actors j serving.0 actor each serving.1 at_actor);
}

pub all_driven : {D N : Type 0} (does : D → Doing) (lines : Lines) (conduct_of : ℕ → D) (setups : List CallerSetup) (callers : List (Endpoint CallerPasses))
    (drivings : List (Driving D N)) (driven : List Driven) → length callers ≡ length setups → map driving_start drivings ≡ map (setup_start lines conduct_of)
    (zip setups callers) → Each (IsDrivenTo does) drivings driven → AreDriven lines (λ c. does (conduct_of c)) setups callers driven
all_driven {D = D} does lines conduct_of setups callers drivings driven long starts each = record {
  long = each.0 ∙ tasks_long driving_start (setup_start lines conduct_of) drivings setups callers starts long;
  each = λ i setup caller d at_setup at_caller at_d.
      let below = slice_get_within driven i d at_d in let driving = element drivings i (omega (arith, below, each.0)) in
      let start = starts_at driving_start (setup_start lines conduct_of) drivings setups callers i starts driving.1 at_setup at_caller in
      let P : CallerStart D → Type 0 = λ s. HasConducted driving.0.lines s.owner s.passes (does s.conduct s.plan) d in
      record {
        at = driving.0.lines;
        mails = ap (λ (s : CallerStart D). s.mails) start;
        controls = ap (λ (s : CallerStart D). s.controls) start;
        driven_is = subst P start (each_at (IsDrivenTo does) drivings driven i driving.0 d each driving.1 at_d);
      };
}

-- the first of a pair at a place stands there in the list of firsts
first_at : {X N : Type 0} (ys : List (X × N)) (i : ℕ) (y : X × N) → slice_get ys i ≡ Some y → slice_get (map (λ (p : X × N). p.0) ys) i ≡ Some y.0
first_at [] i y at = cc
first_at (z ∷ ys) zero y at = let is_y : z ≡ y = cc in ap (λ (p : _). Some p.0) is_y
first_at (z ∷ ys) (suc i) y at = first_at ys i y at

-- what holds of each first of the pairs holds of each of the firsts
pub each_first : {T X N : Type 0} (D : T → X → Type 0) (ts : List T) (ys : List (X × N)) → Each (λ t (y : X × N). D t y.0) ts ys →
    Each D ts (map (λ (p : X × N). p.0) ys)
each_first {T = T} {X = X} {N = N} D ts ys each = (
  length-map ys (λ (p : X × N). p.0) ∙ each.0,
  λ i t x below.
      let y = element ys i (omega (arith, below, each.0)) in let here = each.1 i t y.0 below in
      let value : get_or ys i y.0 ≡ y.0 = get_or_from_slice_get ys i y.0 y.0 y.1 in
      subst (λ v. D (get_or ts i t) v) (sym (get_or_from_slice_get (map (λ (p : X × N). p.0) ys) i y.0.0 x (first_at ys i y.0 y.1)))
      (subst (λ (p : X × N). D (get_or ts i t) p.0) value here),
)
