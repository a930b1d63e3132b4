-- A caller that is bound to no steps makes its next call.
use Rattle.act_walks.proofs.Common.{◌≡◌, ℕ, Bool, true, false, List, [], length, Option, Some, None, refl, ap, sym, ◌∙◌, subst, ◌==◌, slice_get, is_some}
use Rattle.act_walks.proofs.Common.{eqb-true, option_and_then, option_map, Event, Step, Submission, ActorSpec, History, history, calls_of, refusal_of, IsBehind}
use Rattle.act_walks.proofs.Common.{Vec, option_map_or, slice_get-map, Told, ToldCall, ToldCaller, ToldEnd, Fits, bound_of, caller_in, calls_in, steps_in}
use Rattle.act_walks.proofs.Common.{submission_of_call, step_of, Parts, done_in, Stands, IsEndOf, IsWalking, GoesOn, Moves, NoCall, DoesEvent, Tries}
use Rattle.act_rules.specs.declared.event.Event.TheVariants as event
use Rattle.act_walks.proofs.Eager.{called}
use Rattle.act_walks.proofs.Kills.{kills_event}
use Rattle.act_walks.proofs.Onward.{Nothing, stands_event, walking_to, moves_none, moves_yes}

-- ---- what is said of a caller

-- the calls of a caller that is told
pub calls_are : (end : ToldEnd) (c : ℕ) (caller : ToldCaller) → caller_in end c ≡ Some caller → calls_in end c ≡ caller.calls.items
calls_are end c caller there = ap (λ o. option_map_or (λ (one : ToldCaller). one.calls.items) o []) there

-- and its steps
pub bound_is : (end : ToldEnd) (c : ℕ) {caller : ToldCaller} → caller_in end c ≡ Some caller → bound_of end c ≡ steps_in caller
bound_is end c there = ap (option_and_then steps_in) there

-- the call that is told at a place
pub told_call : {end : ToldEnd} {told : Told} (c n : ℕ) {o : Option ToldCall} → Fits end told → slice_get (calls_in end c) n ≡ o
    → slice_get (told.calls c) n ≡ option_map submission_of_call o
told_call {end} c n fits at =
    ap (λ l. slice_get l n) (sym (fits.calls c)) ∙ slice_get-map submission_of_call (calls_in end c) n
    ∙ ap (option_map submission_of_call) at

-- ---- what isn't done

none_left : (end : ToldEnd) (c n : ℕ) (walk : Parts) → slice_get (calls_in end c) n ≡ None → ((casts : List ActorSpec) (h : History) (before : List Event) →
    IsBehind casts h walk.world before → n ≡ length (calls_of c h)) → Moves end (NoCall end c) walk walk false
none_left end c n walk none count = moves_none end (NoCall end c) walk
    (λ casts told e s w call free next may. let h = history casts walk.events in let is : slice_get (told.calls c) (length (calls_of c h)) ≡ None =
    ap (slice_get (told.calls c)) (sym (count casts h walk.events s.behind)) ∙ told_call c n e.fits none in let bad : Some call ≡ None = sym next ∙ is in cc)

pub no_caller : (end : ToldEnd) (c : ℕ) (walk : Parts) → caller_in end c ≡ None → Moves end (NoCall end c) walk walk false
no_caller end c walk none = moves_none end (NoCall end c) walk
    (λ casts told e s w call free next may. let nothing : slice_get (calls_in end c) (length (calls_of c (history casts walk.events))) ≡ None =
    ap (λ o. slice_get (option_map_or (λ (one : ToldCaller). one.calls.items) o []) (length (calls_of c (history casts walk.events)))) none in
    let bad : Some call ≡ None = sym next ∙ told_call c (length (calls_of c (history casts walk.events))) e.fits nothing in cc)

pub is_bound : (end : ToldEnd) (c : ℕ) (caller : ToldCaller) (walk : Parts) → caller_in end c ≡ Some caller → is_some caller.steps ≡ true
    → Moves end (NoCall end c) walk walk false
is_bound end c caller walk there bound = moves_none end (NoCall end c) walk (λ casts told e s w call free next may.
    none caller.steps bound (sym (bound_is end c there) ∙ free))
  where
    none : (o : Option (Vec Step)) → is_some o ≡ true → option_map (λ (steps : Vec Step). steps.items) o ≡ None → ⊥
    none None some e = cc
    none (Some x) some e = cc

pub no_call : (end : ToldEnd) (c n : ℕ) (caller : ToldCaller) (walk : Parts) → caller_in end c ≡ Some caller → slice_get caller.calls.items n ≡ None
    → ((casts : List ActorSpec) (h : History) (before : List Event) → IsBehind casts h walk.world before → n ≡ length (calls_of c h))
    → Moves end (NoCall end c) walk walk false
no_call end c n caller walk there none count = none_left end c n walk (ap (λ l. slice_get l n) (calls_are end c caller there) ∙ none) count

-- a walk that was left as it was didn't move, if what would move it can't be done of what is told
pub moves_refused : (end : ToldEnd) (none : Nothing) {old new : Parts} → new ≡ old → ((casts : List ActorSpec) (told : Told) → IsEndOf end casts told →
    Stands end casts old → IsWalking end casts told old → none told (done_in old.done) (history casts old.events)) → Moves end none old new false
moves_refused end none {old} same holds = subst (λ x. Moves end none old x false) (sym same) (moves_none end none old holds)

-- ---- what is done

one_call : (end : ToldEnd) (c n : ℕ) (caller : ToldCaller) (call : ToldCall) (old new : Parts) → caller_in end c ≡ Some caller → is_some caller.steps ≡ false →
    slice_get caller.calls.items n ≡ Some call → ((casts : List ActorSpec) (h : History) (before : List Event) → IsBehind casts h old.world before →
    n ≡ length (calls_of c h)) → DoesEvent (event.Submit c call.actor call.method call.args) old new → GoesOn end old new
one_call end c n caller call old new there unbound at count does = record {
  stands = λ casts s. stands_event strange does s;
  walks = λ casts told e s w.
      let h = history casts old.events in let done = does.behind casts h s.behind in
      let next : slice_get (told.calls c) (length (calls_of c h)) ≡ Some (submission_of_call call) =
      ap (slice_get (told.calls c)) (sym (count casts h old.events s.behind))
      ∙ told_call c n e.fits (ap (λ l. slice_get l n) (calls_are end c caller there) ∙ at) in
      walking_to end new (ap done_in (sym does.done)) done.1.is
      (called casts (bound_of end) told e.some (done_in old.done) h w.eager c (submission_of_call call) free next done.0)
      (kills_event (bound_of end) told h submit w.asked);
}
  where
    submit : Event
    submit = event.Submit c call.actor call.method call.args

    free : bound_of end c ≡ None
    free = bound_is end c there ∙ none caller.steps unbound
      where
        none : (o : Option (Vec Step)) → is_some o ≡ false → option_map (λ (steps : Vec Step). steps.items) o ≡ None
        none None e = refl
        none (Some x) e = cc

    strange : (d : ℕ) (steps : List Step) → bound_of end d ≡ Some steps → step_of d submit ≡ None
    strange d steps bound = go (c == d) refl
      where
        go : (b : Bool) → (c == d) ≡ b → step_of d submit ≡ None
        go true e =
            let is : c ≡ d = eqb-true c d e in
            let bad : Some steps ≡ None = sym bound ∙ ap (bound_of end) (sym is) ∙ free in cc
        go false e = rw e refl

pub call_moves : (end : ToldEnd) (c n : ℕ) {caller : ToldCaller} {call : ToldCall} (old new : Parts) (moved : Bool) → caller_in end c ≡ Some caller →
    is_some caller.steps ≡ false → slice_get caller.calls.items n ≡ Some call →
    ((casts : List ActorSpec) (h : History) (before : List Event) → IsBehind casts h old.world before → n ≡ length (calls_of c h)) →
    Tries (event.Submit c call.actor call.method call.args) old new moved → Moves end (NoCall end c) old new moved
call_moves end c n {caller} {call} old new true there unbound at count does =
    moves_yes end (NoCall end c) old new (one_call end c n caller call old new there unbound at count does)
call_moves end c n {caller} {call} old new false there unbound at count not =
    moves_refused end (NoCall end c) not.same (λ casts told e s w other free next may. let h = history casts old.events in
    let is : Some other ≡ Some (submission_of_call call) = sym next ∙ ap (slice_get (told.calls c)) (sym (count casts h old.events s.behind)) ∙
    told_call c n e.fits (ap (λ l. slice_get l n) (calls_are end c caller there) ∙ at) in let same : other ≡ submission_of_call call = cc in
    not.refused casts h s.behind (subst (λ (one : Submission). refusal_of h (event.Submit c one.actor one.method one.args) ≡ None) same may))
