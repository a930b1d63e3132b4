-- Where a quiescent play ends as an ended one did, its actors can retire.
use Rattle.act_early.proofs.Common.{◌≡◌, ℕ, Bool, true, false, List, [], ◌∷◌, ◌++◌, None, refl, ap, sym, ◌∙◌, subst, ◌==◌, ◌||◌, find, slice_get, is_some}
use Rattle.act_early.proofs.Common.{AllByRecursion, eqb-true, eq-eqb, Step, kept_at, ActorSpec, contains, cast_of, is_dead, is_retired, is_ended, refusal_of}
use Rattle.act_early.proofs.Common.{At, IsPlay, Happens, IsQuiescent, IsEnded, EndsAlike, IsSameEnd, or_left, both_ways, contains_push, or_right}
use Rattle.act_rules.specs.declared.event.Event.TheVariants as event
use Rattle.act_early.proofs.Worlds.{IsWorld, world, either_of, not_dead, retire_needs}
use Rattle.act_early.proofs.Listed.{all_actors, cast_listed}
use Rattle.act_rules.proofs.Elements.{all_listed}

-- the play, with these actors retired
abbrev pub with_retired : At → List ℕ → At
with_retired p retired = record { history = record p.history { retired = retired }; stepped = p.stepped }

-- some of the actors that retired in the late play, and all of these
record HasRetired (specs : List ActorSpec) (plans : ℕ → List Step) (early late : At) (xs before : List ℕ) : Type 0 where
  now : List ℕ
  play : IsPlay specs plans (with_retired early now)
  only : (a : ℕ) → contains a now ≡ true → is_retired a late.history ≡ true
  stay : (a : ℕ) → contains a before ≡ true → contains a now ≡ true
  all : AllByRecursion (λ a. is_retired a late.history ≡ true → contains a now ≡ true) xs

-- one actor more
retire_one : (specs : List ActorSpec) (plans : ℕ → List Step) (early late : At) (x : ℕ) (before : List ℕ) → EndsAlike plans early late.history
    → IsPlay specs plans (with_retired early before) → ((a : ℕ) → contains a before ≡ true → is_retired a late.history ≡ true)
    → HasRetired specs plans early late (x ∷ []) before
retire_one specs plans early late x before ends play only = go (is_retired x late.history) (contains x before) refl refl
  where
    go : (r b : Bool) → is_retired x late.history ≡ r → contains x before ≡ b → HasRetired specs plans early late (x ∷ []) before
    go false b is has = record { now = before; play = play; only = only; stay = λ a e. e; all = ((λ yes. let bad : true ≡ false = sym yes ∙ is in cc), tt) }
    go true true is has = record { now = before; play = play; only = only; stay = λ a e. e; all = ((λ _. has), tt) }
    go true false is has =
        let needed = retire_needs early.history x (ends.retires x is) in
        let alive : is_ended x (with_retired early before).history ≡ false =
        ap (λ d. d || contains x before) (not_dead x early.history needed.1) ∙ has in
        let may : refusal_of (with_retired early before).history (event.Retire x) ≡ None = rw (needed.0, alive, needed.2) refl in
        record {
          now = before ++ x ∷ [];
          play = Happens (with_retired early before) (event.Retire x) play refl may;
          only = λ a e. either_of (contains a before) (x == a) (is_retired a late.history ≡ true) (sym (contains_push a x before) ∙ e) (only a)
              (λ same. subst (λ y. is_retired y late.history ≡ true) (eqb-true x a same) is);
          stay = λ a e. contains_push a x before ∙ or_left (contains a before) (x == a) e;
          all = ((λ _. contains_push x x before ∙ or_right (contains x before) _ (eq-eqb x x refl)), tt);
        }

retire_all : (specs : List ActorSpec) (plans : ℕ → List Step) (early late : At) (xs before : List ℕ) → EndsAlike plans early late.history → IsPlay specs plans
    (with_retired early before) → ((a : ℕ) → contains a before ≡ true → is_retired a late.history ≡ true) → HasRetired specs plans early late xs before
retire_all specs plans early late [] before ends play only = record { now = before; play = play; only = only; stay = λ a e. e; all = tt }
retire_all specs plans early late (x ∷ xs) before ends play only =
    let one = retire_one specs plans early late x before ends play only in
    let rest = retire_all specs plans early late xs one.now ends one.play one.only in
    record {
      now = rest.now;
      play = rest.play;
      only = rest.only;
      stay = λ a e. rest.stay a (one.stay a e);
      all = ((λ yes. rest.stay x (one.all.0 yes)), rest.all);
    }

-- where a quiescent play ends as an ended one did, there is an ended play with just that end, who retired included
pub retired_play : (casts : List ActorSpec) (plans : ℕ → List Step) {early : At} (late : At) → IsPlay casts plans early → IsQuiescent plans early
    → IsPlay casts plans late → IsEnded plans late → EndsAlike plans early late.history
    → (end : At) × IsPlay casts plans end × IsEnded plans end × IsSameEnd end.history late.history
retired_play casts plans {early} late play quiescent goes ended ends =
    let begun : IsPlay casts plans (with_retired early []) = subst (λ xs. IsPlay casts plans (with_retired early xs)) quiescent.live play in
    let done : HasRetired casts plans early late (all_actors casts) [] = retire_all casts plans early late (all_actors casts) [] ends begun (λ a e. cc) in
    let end = with_retired early done.now in let w : IsWorld casts late.history = world casts plans late goes in
    let listed : (a : ℕ) → is_retired a late.history ≡ true → contains a (all_actors casts) ≡ true =
    λ a retired. cast_listed a casts (ap (λ l. is_some (find (λ (cast : ActorSpec). cast.actor == a) l)) (sym w.casts) ∙ w.cast a retired) in
    let same : IsSameEnd end.history late.history =
    record {
      calls = ends.calls;
      kept = ends.kept;
      runs = ends.runs;
      dead = ends.dead;
      retired = λ a. both_ways (contains a done.now) (is_retired a late.history) (done.only a)
          (λ yes. all_listed (λ a. is_retired a late.history ≡ true → contains a done.now ≡ true) (all_actors casts) a done.all (listed a yes) yes);
    } in
    let alike_casts : end.history.casts ≡ late.history.casts = (world casts plans early play).casts ∙ sym w.casts in
    let is_ended_there : IsEnded plans end =
    record {
      done = ends.done;
      over = record {
        answered =
            λ c k call at. ap (λ l. is_some (kept_at l k)) (ends.kept c) ∙ ended.over.answered c k call (ap (λ l. slice_get l k) (sym (ends.calls c)) ∙ at);
        ended = λ a cast.
            let there : is_some (cast_of a late.history) ≡ true =
            ap (λ l. is_some (find (λ (cast : ActorSpec). cast.actor == a) l)) (sym alike_casts) ∙ cast in
            ap (λ x. x || contains a done.now) (ends.dead a)
            ∙ ap (λ x. is_dead a late.history || x) (same.retired a)
            ∙ ended.over.ended a there;
      };
    } in
    (end, done.play, is_ended_there, same)
