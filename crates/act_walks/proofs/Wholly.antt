-- The whole walk.
use Rattle.act_walks.proofs.Common.{◌≡◌, ℕ, zero, suc, ◌+◌, ◌<◌, ◌≤◌, Bool, true, false, List, [], length, inl, inr, ◌⊎◌, cases_lt, Option, Some, None, refl}
use Rattle.act_walks.proofs.Common.{ap, sym, ◌∙◌, subst, arith, slice_get, slice_get_within, option_and_then, Event, Step, ActorSpec, history}
use Rattle.act_walks.proofs.Common.{IsOk, IsBehind, WorldView, IsReachedBy, Did, WorldRefusal, replicate, All-nil, Vec, leb, leb-true, leb-false, get_or}
use Rattle.act_walks.proofs.Common.{slice_get-get_or, get_or_from_slice_get, Told, RetiredAsTold, ToldCaller, ToldEnd, SetsOut, SomeEnd}
use Rattle.act_walks.proofs.Common.{IsAtRest, Fits, FitsCasts, bound_of, caller_in, steps_in, IsPaced, Starts, AreAllDone, RestsOn}
use Rattle.act_walks.proofs.Common.{Parts, done_in, Stands, ComesThrough, HasDone, HaveDone, GoesFar, DoesAllSteps, Decides}
use Rattle.act_walks.proofs.Paced.{does_all_its_steps, paced_within}
use Rattle.act_walks.proofs.Stuck.{at_rest}
use Rattle.act_walks.proofs.Calls.{bound_is}

-- ---- how many steps a caller did

exactly : (n m : ℕ) → n ≤ m → m ≤ n → n ≡ m
exactly n m one two = omega (arith, one, two)

pub all_done : (end : ToldEnd) (casts : List ActorSpec) (walk : Parts) → Stands end casts walk → HaveDone end walk.done
    → AreAllDone (bound_of end) (done_in walk.done)
all_done end casts walk s have c steps is =
    exactly (done_in walk.done c) (length steps) (paced_within casts (bound_of end) (done_in walk.done) walk.events s.paced c is) (have c steps is)

-- ---- whether callers did all their steps

has_done : (done : List ℕ) (n len number : ℕ) (steps : List Step) (o : Option (List Step)) → o ≡ Some steps → len ≡ length steps → n ≡ done_in done number
    → (leb len n ≡ true → (other : List Step) → o ≡ Some other → length other ≤ done_in done number)
    × (((other : List Step) → o ≡ Some other → length other ≤ done_in done number) → leb len n ≡ true)
has_done done n len number steps o is long count = (
  (λ e other so. let both : Some steps ≡ Some other = sym is ∙ so in let same : steps ≡ other = cc in let below = leb-true len n e in
      let longs : length steps ≡ length other = ap (λ l. length l) same in omega (arith, below, long, longs, count)),
  λ has. true_leb (leb len n) refl (let below = has steps is in omega (arith, below, long, count)),
)
  where
    true_leb : (b : Bool) → leb len n ≡ b → len ≤ n → leb len n ≡ true
    true_leb true e below = e
    true_leb false e below = let above = leb-false len n e in absurd (omega (arith, above, below))

pub has_done_all : (done : List ℕ) {n : ℕ} (len number : ℕ) {steps : Vec Step} (caller : ToldCaller) → caller.steps ≡ Some steps → len ≡ length steps.items →
    n ≡ done_in done number → (leb len n ≡ true → HasDone done number caller) × (HasDone done number caller → leb len n ≡ true)
has_done_all done {n} len number {steps} caller is long count =
    has_done done n len number steps.items (steps_in caller) (ap (λ o. steps_in (record caller { steps = o })) is) long count

-- of the callers so far
abbrev pub HaveDoneTo : ToldEnd → List ℕ → ℕ → Type 0
HaveDoneTo end done n = (c : ℕ) (caller : ToldCaller) → c < n → caller_in end c ≡ Some caller → HasDone done c caller

pub have_done_more : (end : ToldEnd) (done : List ℕ) {n : ℕ} {caller : ToldCaller} → n < length end.callers.items → caller ≡ get_or end.callers.items n caller →
    HasDone done n caller → HaveDoneTo end done n → HaveDoneTo end done (n + 1)
have_done_more end done {n} {caller} within is has before c other below at = go (cases_lt c n)
  where
    go : (c < n) ⊎ (n ≤ c) → HasDone done c other
    go (inl lt) = before c other lt at
    go (inr ge) =
        let same : c ≡ n = omega (arith, below, ge) in
        let there : slice_get end.callers.items n ≡ Some other = ap (slice_get end.callers.items) (sym same) ∙ at in
        let one : caller ≡ other = is ∙ get_or_from_slice_get end.callers.items n other caller there in
        subst (λ m. HasDone done m other) (sym same) (subst (HasDone done n) one has)

pub have_done_all : (end : ToldEnd) (done : List ℕ) {n : ℕ} → length end.callers.items ≤ n → HaveDoneTo end done n → HaveDone end done
have_done_all end done whole to c steps bound = go (caller_in end c) refl bound
  where
    go : (o : Option ToldCaller) → caller_in end c ≡ o → option_and_then steps_in o ≡ Some steps → length steps ≤ done_in done c
    go None at is = cc
    go (Some caller) at is = let within = slice_get_within end.callers.items c caller at in to c caller (omega (arith, within, whole)) at steps is

pub not_done : (end : ToldEnd) (done : List ℕ) {n : ℕ} {caller : ToldCaller} → n < length end.callers.items → caller ≡ get_or end.callers.items n caller
    → HaveDone end done → HasDone done n caller
not_done end done {n} {caller} within is have steps own =
    let at : caller_in end n ≡ Some caller = slice_get-get_or end.callers.items n caller within ∙ ap (λ x. Some x) (sym is) in
    have n steps (bound_is end n at ∙ own)

-- ---- from the opened world on

zeros : (n c : ℕ) → done_in (replicate n 0) c ≡ 0
zeros zero c = refl
zeros (suc n) zero = refl
zeros (suc n) (suc c) = zeros n c

pub no_steps_done : (c : ℕ) → done_in (replicate 17 0) c ≡ 0
no_steps_done c = zeros 17 c

nothing_done : (λ c. 0) ≡ done_in (replicate 17 0)
nothing_done = λ i c. sym (zeros 17 c) i

pub opened : (end : ToldEnd) (casts : List ActorSpec) (world : WorldView) (events : List Event) → events ≡ [] → IsReachedBy casts [] world
    → Stands end casts (record { world = world; events = events; done = replicate 17 0 })
opened end casts world events none reached =
    subst (λ l. Stands end casts (record { world = world; events = l; done = replicate 17 0 })) (sym none) (record {
      behind = record { is = refl; reached = reached; accepted = All-nil (IsOk {T = Did} {E = WorldRefusal}) };
      paced = subst (λ d. IsPaced casts (bound_of end) d []) nothing_done Starts;
    })

-- ---- all of it

-- it isn't over
pub ends_early : {end : ToldEnd} (old : Parts) {mid : Parts} (new : Parts) → SetsOut end old mid → ComesThrough end mid new → (HaveDone end new.done → ⊥)
    → GoesFar end old new false
ends_early old new sets comes not = record {
  stands = λ casts s. comes.goes.stands casts (sets.stands casts s);
  does = λ e. cc;
  decides = λ casts told e s none nothing.
      let stands = sets.stands casts s in let walks = sets.walks casts told e s none nothing in absurd (not (comes.through casts told e stands walks).steps);
}

-- it is over, and actors retired
pub ends_late : {end : ToldEnd} (old : Parts) {mid : Parts} (late : Parts) {world : WorldView} {events : List Event} → SetsOut end old mid →
    ComesThrough end mid late → HaveDone end late.done → RestsOn (Fits end) late.world world late.events events → ((casts : List ActorSpec)
    (bound : ℕ → Option (List Step)) (done : ℕ → ℕ) → AreAllDone bound done → IsPaced casts bound done late.events → IsPaced casts bound done events) →
    ((casts : List ActorSpec) (bound : ℕ → Option (List Step)) (told : Told) → SomeEnd casts bound told → Fits end told → FitsCasts end casts →
    IsBehind casts (history casts late.events) late.world late.events → IsAtRest told (history casts late.events) → RetiredAsTold told (history casts events)) →
    GoesFar end old (record { world = world; events = events; done = late.done }) true
ends_late {end} old late sets comes have rests paced retired = record {
  stands = λ casts s.
      let stands = comes.goes.stands casts (sets.stands casts s) in
      record {
        behind = rests.behind casts stands.behind;
        paced = paced casts (bound_of end) (done_in late.done) (all_done end casts late stands have) stands.paced;
      };
  does = λ _ casts s. all_done end casts late (comes.goes.stands casts (sets.stands casts s)) have;
  decides = λ casts told e s none nothing.
      let first = sets.stands casts s in let walks = sets.walks casts told e s none nothing in let stands = comes.goes.stands casts first in
      let last = comes.goes.walks casts told e first walks in
      let rest = at_rest casts told e.some last.eager (comes.through casts told e first walks) in (
        refl,
        record {
          leaves = (rests.rests casts told e.fits stands.behind rest).leaves;
          retired = retired casts (bound_of end) told e.some e.fits e.cast stands.behind rest;
        },
      );
}

pub does_all : (end : ToldEnd) (old new : Parts) {is_done : Bool} → GoesFar end old new is_done → is_done ≡ true → (casts : List ActorSpec) →
    Stands end casts old → (c : ℕ) (steps : List Step) → bound_of end c ≡ Some steps → DoesAllSteps casts c steps new.events
does_all end old new far e casts s c steps is =
    does_all_its_steps casts (bound_of end) (done_in new.done) new.events c steps (far.stands casts s).paced is (far.does e casts s c steps is)

pub decides : (end : ToldEnd) (old new : Parts) (is_done : Bool) → GoesFar end old new is_done → (casts : List ActorSpec) → Stands end casts old →
    old.events ≡ [] → ((c : ℕ) → done_in old.done c ≡ 0) → Decides end casts new.events is_done
decides end old new is_done far casts s none nothing told some fits cast =
    far.decides casts told (record { some = some; fits = fits; cast = cast }) s none nothing
