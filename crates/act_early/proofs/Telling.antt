-- Each death can be told and collected.
use Rattle.act_early.proofs.Common.{◌≡◌, ℕ, Bool, true, false, List, [], ◌∷◌, length, Some, None, refl, ap, sym, ◌∙◌, subst, Contains, arith, slice_get}
use Rattle.act_early.proofs.Common.{AllByRecursion, Step, ActorSpec, History, names, cast_of, is_caller, is_dead, refusal_of, and_also, slice_get_last, At}
use Rattle.act_early.proofs.Common.{with_event, Happens, Contains-append_left, Contains-append_right, DeathPost, named_among}
use Rattle.act_rules.specs.declared.event.Event.TheVariants as event
use Rattle.act_early.proofs.Quiesces.{Quiesces, quiesces_same, quiesces_trans, quiet_quiesces, death_quiesces, dead_same, cast_same}
use Rattle.act_early.proofs.Listed.{all_callers, all_actors, IsOpen, IsWay, Comes, for_all}

abbrev pub IsTold : At → ℕ → ℕ → Type 0
IsTold p c a = is_dead a p.history ≡ true → names c (cast_of a p.history) ≡ true → Contains p.history.collected (DeathPost c a)

pub told_stays : (specs : List ActorSpec) (plans : ℕ → List Step) (p q : At) → Quiesces specs plans p q → (c a : ℕ) → IsTold p c a → IsTold q c a
told_stays specs plans p q s c a told dead named =
    let before = told (sym (dead_same p q a s) ∙ dead) (ap (λ o. names c o) (sym (cast_same p q a s)) ∙ named) in
    subst (λ posts. Contains posts (DeathPost c a)) s.collected.1 (Contains-append_left p.history.collected s.collected.0 (DeathPost c a) before)

pub quiescence : (specs : List ActorSpec) (plans : ℕ → List Step) → IsWay specs plans (Quiesces specs plans)
quiescence specs plans = record {
  stays = λ p begun. quiesces_same begun.play begun.live;
  joins = λ p q r one two. quiesces_trans one two;
  opens = λ p q s. record { play = s.play; live = s.live };
}

tell_one : (specs : List ActorSpec) (plans : ℕ → List Step) (p : At) → IsOpen specs plans p → (c a : ℕ) → Comes (Quiesces specs plans) (λ q. IsTold q c a) p
tell_one specs plans p begun c a = go (is_dead a h) (names c (cast_of a h)) refl refl
  where
    h : History
    h = p.history

    told : At
    told = with_event (event.Tell a c) p

    place : slice_get told.history.posts (length h.posts) ≡ Some (DeathPost c a)
    place = slice_get_last h.posts (DeathPost c a)

    go : (x y : Bool) → is_dead a h ≡ x → names c (cast_of a h) ≡ y → Comes (Quiesces specs plans) (λ q. IsTold q c a) p
    go false y dead named = (p, quiesces_same begun.play begun.live, λ is _. let bad : true ≡ false = sym is ∙ dead in cc)
    go true false dead named = (p, quiesces_same begun.play begun.live, λ _ is. let bad : true ≡ false = sym is ∙ named in cc)
    go true true dead named =
        let caller : is_caller c h ≡ true = named_among c a h.casts named in
        let may : refusal_of h (event.Tell a c) ≡ None = rw (caller, named, dead) refl in
        let first = quiet_quiesces (event.Tell a c) begun.play begun.live refl refl (Happens p (event.Tell a c) begun.play refl may) in
        let second = death_quiesces specs plans (length h.posts) c a told first.play first.live place in (
          with_event (event.Collect (length h.posts)) told,
          quiesces_trans first second,
          λ _ _. subst (λ posts. Contains posts (DeathPost c a)) (sym (ap (and_also h.collected) place))
              (Contains-append_right h.collected (DeathPost c a ∷ []) (DeathPost c a) (0, omega arith, refl)),
        )

-- all deaths
pub tell_all : (specs : List ActorSpec) (plans : ℕ → List Step) (p : At) → IsOpen specs plans p
    → Comes (Quiesces specs plans) (λ q. AllByRecursion (λ c. AllByRecursion (IsTold q c) (all_actors specs)) (all_callers specs)) p
tell_all specs plans p begun = for_all IsTold (quiescence specs plans) (told_stays specs plans) (tell_one specs plans)
    (all_callers specs) (all_actors specs) p begun
