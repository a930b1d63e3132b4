-- Rounds, until nothing can be done: the walk is through.
use Rattle.act_walks.proofs.Common.{◌≡◌, ℕ, Bool, true, false, List, [], ◌∷◌, Option, Some, None, refl, ap, sym, ◌∙◌, subst, ◌==◌, ◌||◌, slice_get, option_map}
use Rattle.act_walks.proofs.Common.{is_some, Event, RunItem, Submission, Step, Submit, Copy, Release, Kill, Await, NoCaller, Handle, ActorSpec, History}
use Rattle.act_walks.proofs.Common.{opening, history, contains, names, cast_of, is_caller, calls_of, copies_of, kept_of, kept_at, next_item, refusal_of}
use Rattle.act_walks.proofs.Common.{after_run, needs-none, copy_refusal, copies_named, MayTake, IsKept, after_all_keeps, run_needs, first_answer, map, eqb-true}
use Rattle.act_walks.proofs.Common.{Retires, ◌≤◌, enumerate_from, named_call, contains_push, either_of, take_needs, Told, IsThrough, IsGoing, ToldEnd}
use Rattle.act_walks.proofs.Common.{FitsCasts, bound_of, Parts, done_in, IsEndOf, IsWalking, GoesOn, Moves, NoMove, ComesThrough, or_parts}
use Rattle.act_rules.proofs.Retired.{submit_needs}
use Rattle.act_rules.specs.declared.event.Event.TheVariants as event
use Rattle.act_told_ends.proofs.Asked.{can_ask}
use Rattle.act_told_ends.proofs.Going.{ask_copies}
use Rattle.act_walks.proofs.Eager.{going_of}
use Rattle.act_walks.proofs.Stuck.{stuck}
use Rattle.act_walks.proofs.Comes.{comes, post_casts}
use Rattle.act_walks.proofs.Deaths.{tell_needs}
use Rattle.act_walks.proofs.Onward.{Nothing, goes_trans}

-- ---- who is named

-- an actor whose kill was asked is named
abbrev AskedAreNamed : History → Type 0
AskedAreNamed h = (a : ℕ) → contains a h.asked ≡ true → (c : ℕ) × (names c (cast_of a h) ≡ true)

copy_copies : (h : History) (c a : ℕ) → refusal_of h (event.Copy c a) ≡ None → is_some (copies_of c a h) ≡ true
copy_copies h c a may = some (copies_of c a h) (needs-none (is_caller c h) NoCaller (option_map Handle (copy_refusal (copies_of c a h))) may).1
  where
    some : (o : Option ℕ) → option_map Handle (copy_refusal o) ≡ None → is_some o ≡ true
    some None e = cc
    some (Some n) e = refl

asked_step : IsKept AskedAreNamed
asked_step h (event.Run b c) named may = go (next_item b c h)
  where
    go : (o : Option RunItem) → AskedAreNamed (after_run b c h o)
    go None = named
    go (Some item) = named
asked_step h (event.AskKill c b) named may = λ a has. either_of (contains a h.asked) (b == a) ((d : ℕ) × (names d (cast_of a h) ≡ true)) (sym (contains_push a b
    h.asked) ∙ has) (named a) (λ same. (c, ap (λ n. names c (cast_of n h)) (sym (eqb-true b a same)) ∙ copies_named c b h (ask_copies h c b may)))
asked_step h other named may = named

asked_named : (casts : List ActorSpec) (events : List Event) → AskedAreNamed (history casts events)
asked_named casts events = after_all_keeps AskedAreNamed asked_step (opening casts) events (λ a has. cc)

-- a caller that may take a step is named
step_named : (h : History) (c : ℕ) (step : Step) → Retires h → MayTake c step h → (a : ℕ) × (names c (cast_of a h) ≡ true)
step_named h c (Submit a method args) retires may = (a, copies_named c a h (submit_needs h c a method args may).0)
step_named h c (Copy a) retires may = (a, copies_named c a h (copy_copies h c a may))
step_named h c (Release a) retires may = (a, copies_named c a h (ask_copies h c a may))
step_named h c (Kill a) retires may = (a, copies_named c a h (ask_copies h c a may))
step_named h c (Await k) retires may = go (calls_of c h) refl
  where
    go : (calls : List Submission) → calls_of c h ≡ calls → (a : ℕ) × (names c (cast_of a h) ≡ true)
    go [] e =
        let none : is_some (kept_at (kept_of c h) k) ≡ false =
        ap (λ l. is_some (kept_at (map (first_answer h c) (enumerate_from 0 l)) k)) e in
        let bad : true ≡ false = sym may ∙ none in cc
    go (call ∷ calls) e = (call.actor, named_call h c 0 retires.named (ap (λ l. slice_get l 0) e))

-- and numbers are within the limits
in_range : {end : ToldEnd} {casts : List ActorSpec} (h : History) (c a : ℕ) → FitsCasts end casts → h.casts ≡ casts → names c (cast_of a h) ≡ true
    → (1 ≤ a) × (a ≤ 8) × (1 ≤ c) × (c ≤ 16)
in_range {casts} h c a fits same named = fits.numbers c a (ap (λ l. names c (cast_of a (record (opening casts) { casts = l }))) (sym same) ∙ named)

-- ---- a walk at which nothing can be done

through : (end : ToldEnd) (casts : List ActorSpec) (told : Told) (walk : Parts) → IsEndOf end casts told → IsWalking end casts told walk
    → NoMove end told (done_in walk.done) (history casts walk.events) → IsThrough (bound_of end) told (done_in walk.done) (history casts walk.events)
through end casts told walk e w none = stuck casts bound told e.some done h w.eager w.asked (λ c call free next may. let range = in_range h c call.actor e.cast
    same (copies_named c call.actor h (submit_needs h c call.actor call.method call.args may).0) in (none.acts c range.2 range.3).0 call free next may) steps
    (λ c a all is next dead. steps c all (Kill a) is next (can_ask casts done h c a all e.cast.actors_differ same going.walk is (e.cast.good c all is) next))
    (λ a item next may. let come = comes casts bound told e.some done h w.eager a item next may in let named : names item.caller (cast_of a h) ≡ true =
    ap (λ l. names item.caller (cast_of a (record h { casts = l }))) (sym (post_casts h item.caller item.future)) ∙ come.named in let range =
    in_range h item.caller a e.cast same named in (none.servings a range.0 range.1).0.0 item next may)
    (λ a item next is may. let range = in_range h item.caller a e.cast same (run_needs h a item.caller may).1 in
    (none.servings a range.0 range.1).0.1 item next is may)
    (λ a dead long may. let named = asked_named casts walk.events a (take_needs h a may).2 in let range = in_range h named.0 a e.cast same named.1 in
    (none.servings a range.0 range.1).1 dead long may)
    (λ c a hears never may. let range = in_range h c a e.cast same (tell_needs h a c may).1 in none.tells a range.0 range.1 c range.2 range.3 hears never may)
  where
    bound : ℕ → Option (List Step)
    bound = bound_of end

    done : ℕ → ℕ
    done = done_in walk.done

    h : History
    h = history casts walk.events

    going : IsGoing casts bound told done h
    going = going_of e.some w.eager.walked

    same : h.casts ≡ casts
    same = going.world.casts

    steps : (c : ℕ) (steps : List Step) (step : Step) → bound c ≡ Some steps → slice_get steps (done c) ≡ Some step → MayTake c step h → ⊥
    steps c all step is next may =
        let named = step_named h c step going.world.retires may in let range = in_range h c named.0 e.cast same named.1 in
        (none.acts c range.2 range.3).1 all step is next may

-- ---- a round, and all of them

-- two things, each of which may have moved
pub moves_two : (end : ToldEnd) {first second : Nothing} (both : Nothing) {p q r : Parts} {one two : Bool} → ((told : Told) (done : ℕ → ℕ) (h : History) →
    first told done h → second told done h → both told done h) → Moves end first p q one → Moves end second q r two → Moves end both p r (one || two)
moves_two end {second} both {p} {q} {r} {one} {two} join f s = record {
  goes = goes_trans f.goes s.goes;
  still = λ none casts told e stands w.
      let b = or_parts one two none in let x = f.still b.0 casts told e stands w in
      let y = s.still b.1 casts told e (f.goes.stands casts stands) (f.goes.walks casts told e stands w) in (
        y.0 ∙ x.0,
        join told (done_in p.done) (history casts p.events) x.1 (subst (λ (z : Parts). second told (done_in z.done) (history casts z.events)) x.0 y.1),
      );
}

pub comes_through : {end : ToldEnd} {start now new : Parts} → GoesOn end start now → Moves end (NoMove end) now new false → ComesThrough end start new
comes_through {end} {start} {now} {new} goes last = record {
  goes = goes_trans goes last.goes;
  through = λ casts told e s w.
      let stands = goes.stands casts s in let walks = goes.walks casts told e s w in let still = last.still refl casts told e stands walks in
      subst (λ (x : Parts). IsThrough (bound_of end) told (done_in x.done) (history casts x.events)) (sym still.0) (through end casts told now e walks still.1);
}
