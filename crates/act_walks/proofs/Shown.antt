-- What a world shows of callers and actors, and what the history says of it.
use Rattle.act_walks.proofs.Common.{◌≡◌, ℕ, Bool, true, false, cond, List, [], ◌∷◌, ◌++◌, length, Option, Some, None, refl, ap, sym, ◌∙◌, subst, ◌==◌, map}
use Rattle.act_walks.proofs.Common.{slice_get, is_some, eqb-true, under-push, append-nil, Event, RunItem, Submission, ActorSpec, History, opening, cast_of}
use Rattle.act_walks.proofs.Common.{is_caller, calls_of, kept_of, runs_of, first_answer, kept_at, next_item, after_run, IsKept, after_all_keeps, run_needs}
use Rattle.act_walks.proofs.Common.{Retires, world_retires, some_cast, WorldView, IsBehind, named_call, named_among, enumerate_from, Bor, option_copied}
use Rattle.act_walks.proofs.Common.{nat_lt, get_or, ltb-false, slice_get_past}
use Rattle.act_rules.specs.declared.event.Event.TheVariants as event
use Rattle.act_world.proofs.Lists.{read_is}

-- a stranger has no calls, and no answers
pub no_calls : (casts : List ActorSpec) (h : History) (c : ℕ) {world : WorldView} {events : List Event} → IsBehind casts h world events → is_caller c h ≡ false
    → calls_of c h ≡ []
no_calls casts h c {events} behind none = go (calls_of c h) refl
  where
    retires : Retires h
    retires = subst Retires (sym behind.is) (world_retires casts events)

    go : (calls : List Submission) → calls_of c h ≡ calls → calls ≡ []
    go [] e = refl
    go (call ∷ calls) e =
        let at : slice_get (calls_of c h) 0 ≡ Some call = ap (λ l. slice_get l 0) e in
        let bad : true ≡ false = sym (named_among c call.actor h.casts (named_call h c 0 retires.named at)) ∙ none in cc

pub no_answer : (casts : List ActorSpec) (h : History) (c k : ℕ) {world : WorldView} (events : List Event) → IsBehind casts h world events →
    is_caller c h ≡ false → false ≡ is_some (kept_at (kept_of c h) k)
no_answer casts h c k {world} events behind none =
    ap (λ l. is_some (kept_at (map (first_answer h c) (enumerate_from 0 l)) k)) (sym (no_calls casts h c behind none))

-- an actor without a cast runs nothing
abbrev RunsAreCast : History → Type 0
RunsAreCast h = (a : ℕ) → cast_of a h ≡ None → runs_of a h ≡ []

run_cast : (h : History) (b c a : ℕ) (o : Option RunItem) → RunsAreCast h → is_some (cast_of b h) ≡ true → cast_of a h ≡ None
    → runs_of a (after_run b c h o) ≡ []
run_cast h b c a None cast some none = cast a none
run_cast h b c a (Some item) cast some none = under-push a b h.ran item ∙ go (b == a) refl
  where
    go : (same : Bool) → (b == a) ≡ same → runs_of a h ++ cond same (item ∷ []) [] ≡ []
    go true e =
        let is : b ≡ a = eqb-true b a e in
        let bad : true ≡ false = sym some ∙ ap (λ x. is_some (cast_of x h)) is ∙ ap (λ s. is_some s) none in cc
    go false e = append-nil (runs_of a h) ∙ cast a none

cast_step : IsKept RunsAreCast
cast_step h (event.Run b c) cast may = λ a none.
    run_cast h b c a (next_item b c h) cast (some_cast c (cast_of b h) (run_needs h b c may).1) (casts (next_item b c h) a none)
  where
    casts : (o : Option RunItem) (a : ℕ) → cast_of a (after_run b c h o) ≡ None → cast_of a h ≡ None
    casts None a e = e
    casts (Some item) a e = e
cast_step h other cast may = cast

pub no_runs : (casts : List ActorSpec) (h : History) (a : ℕ) {world : WorldView} (events : List Event) → IsBehind casts h world events → cast_of a h ≡ None
    → 0 ≡ length (runs_of a h)
no_runs casts h a events behind none =
    ap (λ l. length l) (sym (subst RunsAreCast (sym behind.is) (after_all_keeps RunsAreCast cast_step (opening casts) events (λ a none. refl)) a none))

-- ---- what is read

pub copied_some : {X : Type 0} (o : Option (Bor X)) → is_some o ≡ is_some (option_copied o)
copied_some None = refl
copied_some (Some x) = refl

-- an item that was read before a list's end stands in an equal list at an equal place
pub read_at : {X : Type 0} {read items : List X} {n m : ℕ} {x : X} → read ≡ items → n ≡ m → true ≡ nat_lt n (length read) → x ≡ get_or read n x
    → slice_get items m ≡ Some x
read_at {read} {items} {n} {x} same is within at = subst (λ k. slice_get items k ≡ Some x) is (read_is n same within at)

-- where a list has no such place, an equal list has nothing at an equal place
pub read_none : {X : Type 0} {read items : List X} (n m : ℕ) → read ≡ items → n ≡ m → false ≡ nat_lt n (length read) → slice_get items m ≡ None
read_none {read} {items} n m same is past =
    subst (λ k. slice_get items k ≡ None) is (subst (λ l. slice_get l n ≡ None) same (slice_get_past read n (ltb-false n (length read) (sym past))))
