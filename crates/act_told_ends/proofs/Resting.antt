-- From a walk that is through to the end that is told.
use Rattle.act_told_ends.proofs.Common.{◌≡◌, ℕ, true, false, List, [], Option, Some, None, inl, inr, ◌⊎◌, refl, ap, sym, ◌∙◌, subst, IsOk, All-nil, ◌==◌}
use Rattle.act_told_ends.proofs.Common.{slice_get, is_some, eqb-true, Event, Step, Post, ActorSpec, History, contains, is_retired, refusal_of, history}
use Rattle.act_told_ends.proofs.Common.{contains_push, either_of, step_keeps, Told, Leaves, EndsAsTold, MayGoOn, Calls, Asks, Steps, DoesWithout, Sends}
use Rattle.act_told_ends.proofs.Common.{Delivers, Runs, Collects, TakesKill, Tells, Hears, IsWalked, Begins, GoesOn, Mails, Brings, gone_on, MayRetire, LetsGo}
use Rattle.act_told_ends.proofs.Common.{Notes, Retires, RetiredAsTold, IsResting, Through, Rests, IsEndTold, rested}
use Rattle.act_rules.specs.declared.event.Event.TheVariants as event
use Rattle.act_told_ends.proofs.Retiring.{retire_on}
use Rattle.act_told_ends.proofs.Stepped.{is_one}
use Rattle.act_early.proofs.Accepted.{IsLeft, one_more}

-- a post that stands may be collected
pub collect_may : (h : History) (j : ℕ) {post : Post} → slice_get h.posts j ≡ Some post → refusal_of h (event.Collect j) ≡ None
collect_may h j at = let some : is_some (slice_get h.posts j) ≡ true = ap (λ o. is_some o) at in rw some refl

thing_more : (casts : List ActorSpec) {bound : ℕ → Option (List Step)} {told : Told} {done : ℕ → ℕ} (h : History) (thing : MayGoOn bound told done h)
    → IsLeft casts h → IsLeft casts (gone_on bound told done h thing).1
thing_more casts h (Calls c call free next may) left = one_more casts h (event.Submit c call.actor call.method call.args) left may
thing_more casts h (Asks c a free dead yet may) left = one_more casts h (event.AskKill c a) left may
thing_more casts h (Steps c steps step is next may) left = step_keeps (IsLeft casts) (one_more casts) c step h left may
thing_more casts h (DoesWithout c a steps is next dead) left = left
thing_more casts h (Sends a item next unsent may) left = one_more casts h (event.Send item.caller item.future) left may
thing_more casts h (Delivers a i item next yet at may) left = one_more casts h (event.Deliver i) left may
thing_more casts h (Runs a item next is may) left = one_more casts h (event.Run a item.caller) left may
thing_more casts h (Collects j c a place item at there reply none) left = one_more casts h (event.Collect j) left (collect_may h j at)
thing_more casts h (TakesKill a dead last may) left = one_more casts h (event.TakeKill a) left may
thing_more casts h (Tells c a hears none may) left = one_more casts h (event.Tell a c) left may
thing_more casts h (Hears j c a hears none at) left = one_more casts h (event.Collect j) left (collect_may h j at)

pub walked_left : {casts : List ActorSpec} {bound : ℕ → Option (List Step)} {told : Told} (done : ℕ → ℕ) (h : History) → IsWalked casts bound told done h
    → IsLeft casts h
walked_left done h Begins = record { events = []; accepted = All-nil IsOk; left = refl }
walked_left {casts} {bound} {told} done h (GoesOn before g thing walked) = thing_more casts g thing (walked_left before g walked)
walked_left {casts} {bound} {told} done h (Mails before g c k may walked) = one_more casts g (event.Send c k) (walked_left before g walked) may
walked_left {casts} {bound} {told} done h (Brings before g i may walked) = one_more casts g (event.Deliver i) (walked_left before g walked) may

-- what stays while actors retire
record IsNear (casts : List ActorSpec) (told : Told) (h : History) : Type 0 where
  left : IsLeft casts h
  leaves : Leaves told h
  only : (a : ℕ) → is_retired a h ≡ true → told.retired a ≡ true

rest_more : (casts : List ActorSpec) {told : Told} (h : History) (thing : MayRetire told h) → IsNear casts told h → IsNear casts told (rested told h thing)
rest_more casts h (LetsGo c a is may) near = record {
  left = one_more casts h (event.Release c a) near.left may;
  leaves = record { calls = near.leaves.calls; kept = near.leaves.kept; runs = near.leaves.runs; dead = near.leaves.dead };
  only = near.only;
}
rest_more casts h (Notes c a i is yet at may) near = record {
  left = one_more casts h (event.Deliver i) near.left may;
  leaves = record { calls = near.leaves.calls; kept = near.leaves.kept; runs = near.leaves.runs; dead = near.leaves.dead };
  only = near.only;
}
rest_more casts {told} h (Retires a is may) near = record {
  left = one_more casts h (event.Retire a) near.left may;
  leaves = record { calls = near.leaves.calls; kept = near.leaves.kept; runs = near.leaves.runs; dead = near.leaves.dead };
  only = λ b e. either_of (contains b h.retired) (a == b) (told.retired b ≡ true) (sym (contains_push b a h.retired) ∙ e) (near.only b)
      (λ same. subst (λ n. told.retired n ≡ true) (eqb-true a b same) is.0);
}

near_end : (casts : List ActorSpec) (bound : ℕ → Option (List Step)) (told : Told) (events : List Event) (h : History)
    → EndsAsTold casts bound told events → IsResting casts bound told h → IsNear casts told h
near_end casts bound told events h ends (Through done g walked through) = record {
  left = walked_left done h walked;
  leaves = through.leaves;
  only = λ a e. let bad : true ≡ false = sym e ∙ ap (contains a) (is_one casts bound told events done h ends walked).live in cc;
}
near_end casts bound told events h ends (Rests g thing rest) = rest_more casts g thing (near_end casts bound told events g ends rest)

-- where some events end as is told, a walk at rest is at that end, or may do more for an actor that is told retired
pub at_the_end : {casts : List ActorSpec} {bound : ℕ → Option (List Step)} {told : Told} {events : List Event} {h : History}
    → EndsAsTold casts bound told events → IsResting casts bound told h → IsEndTold told h ⊎ MayRetire told h
at_the_end {casts} {bound} {told} {events} {h} ends rest = subst (λ g. IsEndTold told g ⊎ MayRetire told g) (sym near.left.left) (go near_there)
  where
    near : IsNear casts told h
    near = near_end casts bound told events h ends rest

    leaves : Leaves told (history casts near.left.events)
    leaves = subst (λ g. Leaves told g) near.left.left near.leaves

    near_there : RetiredAsTold told (history casts near.left.events) ⊎ MayRetire told (history casts near.left.events)
    near_there = retire_on near.left.events ends near.left.accepted leaves
        (subst (λ g. (a : ℕ) → is_retired a g ≡ true → told.retired a ≡ true) near.left.left near.only)

    go : RetiredAsTold told (history casts near.left.events) ⊎ MayRetire told (history casts near.left.events)
        → IsEndTold told (history casts near.left.events) ⊎ MayRetire told (history casts near.left.events)
    go (inl retired) = inl (leaves, retired)
    go (inr thing) = inr thing

pub rest_refutes : (casts : List ActorSpec) (bound : ℕ → Option (List Step)) (told : Told) (h : History) → IsResting casts bound told h
    → (IsEndTold told h → ⊥) → (MayRetire told h → ⊥) → (events : List Event) → EndsAsTold casts bound told events → ⊥
rest_refutes casts bound told h rest not_ended stuck events ends = go (at_the_end ends rest)
  where
    go : IsEndTold told h ⊎ MayRetire told h → ⊥
    go (inl end) = not_ended end
    go (inr thing) = stuck thing
