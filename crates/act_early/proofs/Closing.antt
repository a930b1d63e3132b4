-- Each caller whose plan is done can let its handles go.
use Rattle.act_early.proofs.Common.{◌≡◌, ℕ, zero, suc, ◌+◌, ◌-◌, Bool, true, false, cond, List, Option, Some, None, refl, ap, sym, ◌∙◌, subst, arith, ◌==◌}
use Rattle.act_early.proofs.Common.{◌&&◌, nat_lt, AllByRecursion, eqb-true, eq-eqb, and_from, nat_tests, Step, Release, handle_refusal, ActorSpec, History}
use Rattle.act_early.proofs.Common.{names, cast_of, is_caller, count_pairs, copies_of, refusal_of, add_event, times-push, At, next_step, with_event, Closes}
use Rattle.act_early.proofs.Common.{named_among}
use Rattle.act_rules.specs.declared.event.Event.TheVariants as event
use Rattle.act_early.proofs.Worlds.{world}
use Rattle.act_early.proofs.Quiesces.{Quiesces, quiesces_same, quiesces_trans, quiet_quiesces}
use Rattle.act_early.proofs.Listed.{all_callers, all_actors, IsOpen, IsWay, Comes, for_all}
use Rattle.act_early.proofs.Stepping.{IsStuck, may_before}

-- the caller, if its plan is done and the actor's cast names it, holds no copy of the actor's handle
abbrev pub IsClosed : (ℕ → List Step) → At → ℕ → ℕ → Type 0
IsClosed plans p c a = next_step plans c p ≡ None → names c (cast_of a p.history) ≡ true → copies_of c a p.history ≡ Some 0

-- going on, so that who waits goes on waiting, and what was let go stays so
pub record ClosesOn (specs : List ActorSpec) (plans : ℕ → List Step) (p q : At) : Type 0 where
  pub quiesces : Quiesces specs plans p q
  pub stuck : (c : ℕ) → IsStuck plans c p → IsStuck plans c q
  pub closed : (c a : ℕ) → IsClosed plans p c a → IsClosed plans q c a

pub closing_on : (specs : List ActorSpec) (plans : ℕ → List Step) → IsWay specs plans (ClosesOn specs plans)
closing_on specs plans = record {
  stays = λ p begun. record { quiesces = quiesces_same begun.play begun.live; stuck = λ c s. s; closed = λ c a x. x };
  joins = λ p q r one two. record {
    quiesces = quiesces_trans one.quiesces two.quiesces;
    stuck = λ c s. two.stuck c (one.stuck c s);
    closed = λ c a x. two.closed c a (one.closed c a x);
  };
  opens = λ p q s. record { play = s.quiesces.play; live = s.quiesces.live };
}

-- ---- one release

none_left : (named : Bool) (x y z : ℕ) → cond named (Some (x - y)) None ≡ Some 0 → cond named (Some (x - (y + z))) None ≡ Some 0
none_left false x y z e = cc
none_left true x y z e = let none : x - y ≡ 0 = cc in let less : x - (y + z) ≡ 0 = omega (arith, none) in ap (λ n. Some n) less

one_left : (named : Bool) (x y : ℕ) {z : ℕ} (n : ℕ) → z ≡ 1 → cond named (Some (x - y)) None ≡ Some (suc n) → cond named (Some (x - (y + z))) None ≡ Some n
one_left false x y n one e = cc
one_left true x y {z} n one e = let some : x - y ≡ suc n = cc in let less : x - (y + z) ≡ n = omega (arith, some, one) in ap (λ m. Some m) less

release_on : (specs : List ActorSpec) (plans : ℕ → List Step) (p : At) (c a : ℕ) → IsOpen specs plans p → next_step plans c p ≡ None
    → refusal_of p.history (event.Release c a) ≡ None → ClosesOn specs plans p (with_event (event.Release c a) p)
release_on specs plans p c a begun done may = record {
  quiesces = quiet_quiesces (event.Release c a) begun.play begun.live refl refl (Closes p c a begun.play done may);
  stuck = λ d s. waits d s (c == d) refl;
  closed = λ d b x none named. copies d b (x none named);
}
  where
    h : History
    h = p.history

    waits : (d : ℕ) → IsStuck plans d p → (same : Bool) → (c == d) ≡ same → IsStuck plans d (with_event (event.Release c a) p)
    waits d s false e = record {
      waits = λ later next may. s.waits later next (may_before c d (Release a) later h (world specs plans p begun.play).sound e may);
      needs = λ b next named. s.needs b next named;
    }
    waits d s true e =
        let none : next_step plans d p ≡ None = subst (λ x. next_step plans x p ≡ None) (eqb-true c d e) done in
        record {
          waits = λ later next may. let bad : Some later ≡ None = sym next ∙ none in cc;
          needs = λ b next named. let bad : Some _ ≡ None = sym next ∙ none in cc;
        }

    copies : (d b : ℕ) → copies_of d b h ≡ Some 0 → copies_of d b (add_event h (event.Release c a)) ≡ Some 0
    copies d b e = ap (λ n. cond (names d (cast_of b h)) (Some ((1 + count_pairs d b h.copied) - n)) None) (times-push d b c a h.released)
        ∙ none_left (names d (cast_of b h)) (1 + count_pairs d b h.copied) (count_pairs d b h.released) (cond ((c == d) && (a == b)) 1 0) e

-- ---- all of a caller's handles of an actor

close_out : (specs : List ActorSpec) (plans : ℕ → List Step) (c a n : ℕ) (p : At) → IsOpen specs plans p → next_step plans c p ≡ None
    → names c (cast_of a p.history) ≡ true → copies_of c a p.history ≡ Some n → Comes (ClosesOn specs plans) (λ q. IsClosed plans q c a) p
close_out specs plans c a zero p begun done named copies = (p, (closing_on specs plans).stays p begun, λ _ _. copies)
close_out specs plans c a (suc n) p begun done named copies =
    let h = p.history in let caller : is_caller c h ≡ true = named_among c a h.casts named in let some : nat_lt 0 (suc n) ≡ true = grind (arith, nat_tests) in
    let free : handle_refusal (copies_of c a h) ≡ None = ap handle_refusal copies ∙ rw some refl in
    let may : refusal_of h (event.Release c a) ≡ None = rw (caller, free) refl in
    let q = with_event (event.Release c a) p in let first = release_on specs plans p c a begun done may in
    let both : ((c == c) && (a == a)) ≡ true = and_from (c == c) (a == a) (eq-eqb c c refl) (eq-eqb a a refl) in
    let one : ◌≡◌ {A = ℕ} (cond ((c == c) && (a == a)) 1 0) 1 = ap (λ b. cond {A = ℕ} b 1 0) both in
    let left : copies_of c a q.history ≡ Some n
    = ap (λ m. cond (names c (cast_of a h)) (Some ((1 + count_pairs c a h.copied) - m)) None) (times-push c a c a h.released)
    ∙ one_left (names c (cast_of a h)) (1 + count_pairs c a h.copied) (count_pairs c a h.released) n one copies in
    let rest = close_out specs plans c a n q ((closing_on specs plans).opens p q first) done named left in
    (rest.0, (closing_on specs plans).joins p q rest.0 first rest.1, rest.2)

close_one : (specs : List ActorSpec) (plans : ℕ → List Step) (p : At) → IsOpen specs plans p → (c a : ℕ)
    → Comes (ClosesOn specs plans) (λ q. IsClosed plans q c a) p
close_one specs plans p begun c a = go (next_step plans c p) (names c (cast_of a p.history)) refl refl
  where
    go : (o : Option Step) (x : Bool) → next_step plans c p ≡ o → names c (cast_of a p.history) ≡ x → Comes (ClosesOn specs plans) (λ q. IsClosed plans q c a) p
    go (Some step) x next named = (p, (closing_on specs plans).stays p begun, λ done _. let bad : Some step ≡ None = sym next ∙ done in cc)
    go None false next named = (p, (closing_on specs plans).stays p begun, λ _ is. let bad : true ≡ false = sym is ∙ named in cc)
    go None true next named = close_out specs plans c a ((1 + count_pairs c a p.history.copied) - count_pairs c a p.history.released) p begun next named
        (rw named refl)

pub close_all : (specs : List ActorSpec) (plans : ℕ → List Step) (p : At) → IsOpen specs plans p
    → Comes (ClosesOn specs plans) (λ q. AllByRecursion (λ c. AllByRecursion (IsClosed plans q c) (all_actors specs)) (all_callers specs)) p
close_all specs plans p begun = for_all (IsClosed plans) (closing_on specs plans) (λ p q goes c a x. goes.closed c a x)
    (close_one specs plans) (all_callers specs) (all_actors specs) p begun
