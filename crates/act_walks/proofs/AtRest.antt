-- Actors retire once a walk is through, until all did that are told retired.
use Rattle.act_walks.proofs.Common.{◌≡◌, ℕ, true, false, List, Option, Some, None, inl, inr, ◌⊎◌, refl, sym, ◌∙◌, subst, All, IsOk, ◌==◌, eqb-true, Event, Step}
use Rattle.act_walks.proofs.Common.{WorldRefusal, ActorSpec, History, opening, history, contains, is_retired, refusal_of, add_event, after, after_by, outcomes}
use Rattle.act_walks.proofs.Common.{Did, did, contains_push, either_of, Told, Leaves, MayRetire, LetsGo, Notes, IsToRetire, RetiredAsTold, after_mail}
use Rattle.act_walks.proofs.Common.{after_post, brought_kept, brought_release, SomeEnd, IsAtRest}
use Rattle.act_rules.specs.declared.event.Event.TheVariants as event
use Rattle.act_rules.specs.declared.outcome.Did.TheVariants as did_so
use Rattle.act_told_ends.specs.Retiring.{Retires}
use Rattle.act_told_ends.proofs.Retiring.{retire_on}
use Rattle.act_walks.proofs.Stuck.{has_arrived}

-- it left what is told, and only those retired that may
record IsLeft (told : Told) (h : History) : Type 0 where
  leaves : Leaves told h
  only : (a : ℕ) → is_retired a h ≡ true → told.retired a ≡ true

left_brought : (told : Told) (h : History) (i : ℕ) → IsLeft told h → IsLeft told (after h (event.Deliver i))
left_brought told h i left = go (refusal_of h (event.Deliver i))
  where
    go : (o : Option WorldRefusal) → IsLeft told (after_by h (event.Deliver i) o)
    go None = record {
      leaves = record { calls = left.leaves.calls; kept = left.leaves.kept; runs = left.leaves.runs; dead = left.leaves.dead };
      only = left.only;
    }
    go (Some refusal) = left

left_mail : (told : Told) (h : History) (d : Did) → IsLeft told h → IsLeft told (after_mail d h)
left_mail told h (did_so.Mail i) left = left_brought told h i left
left_mail told h d left = left

pub let_go : (told : Told) (h : History) → IsAtRest told h → (c a : ℕ) → refusal_of h (event.Release c a) ≡ None
    → IsAtRest told (after_post (event.Release c a) h)
let_go told h rest c a may =
    let left = left_mail told (add_event h (event.Release c a)) (did h (event.Release c a)) (record {
      leaves = record { calls = rest.leaves.calls; kept = rest.leaves.kept; runs = rest.leaves.runs; dead = rest.leaves.dead };
      only = rest.only;
    }) in
    record { leaves = left.leaves; brought = brought_release h c a may rest.brought; only = left.only }

pub retired : (told : Told) (h : History) → IsAtRest told h → (a : ℕ) → told.retired a ≡ true → refusal_of h (event.Retire a) ≡ None
    → IsAtRest told (add_event h (event.Retire a))
retired told h rest a is may = record {
  leaves = record { calls = rest.leaves.calls; kept = rest.leaves.kept; runs = rest.leaves.runs; dead = rest.leaves.dead };
  brought = brought_kept h (event.Retire a) may refl rest.brought;
  only = λ b gone. either_of (contains b h.retired) (a == b) (told.retired b ≡ true) (sym (contains_push b a h.retired) ∙ gone) (rest.only b)
      (λ same. subst (λ n. told.retired n ≡ true) (eqb-true a b same) is);
}

pub settled : (casts : List ActorSpec) (bound : ℕ → Option (List Step)) (told : Told) → SomeEnd casts bound told → (walk : List Event) →
    All IsOk (outcomes (opening casts) walk) → IsAtRest told (history casts walk) →
    ((c a : ℕ) → IsToRetire told a (history casts walk) → refusal_of (history casts walk) (event.Release c a) ≡ None → ⊥) →
    ((a : ℕ) → IsToRetire told a (history casts walk) → refusal_of (history casts walk) (event.Retire a) ≡ None → ⊥) → RetiredAsTold told (history casts walk)
settled casts bound told s walk accepted rest goes retires = go (retire_on walk s.1 accepted rest.leaves rest.only)
  where
    h : History
    h = history casts walk

    none : MayRetire told h → ⊥
    none (LetsGo c a is may) = goes c a is may
    none (Notes c a i is yet at may) = let bad : true ≡ false = sym (has_arrived h i rest.brought at may) ∙ yet in cc
    none (Retires a is may) = retires a is may

    go : RetiredAsTold told h ⊎ MayRetire told h → RetiredAsTold told h
    go (inl all) = all
    go (inr thing) = absurd (none thing)
