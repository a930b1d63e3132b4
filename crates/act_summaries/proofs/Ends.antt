-- An actor ends once, dead or retired, and only an actor of the casts does.
use Rattle.act_summaries.proofs.Common.{◌≡◌, ℕ, ◌==◌, ◌||◌, Bool, true, false, cond, not, List, [], ◌∷◌, ◌++◌, Some, None, Option, is_some, refl, sym, ap}
use Rattle.act_summaries.proofs.Common.{subst, ◌∙◌, eqb-true, not-true, append-nil, History, ActorSpec, contains, cast_of, runs_of, is_dead}
use Rattle.act_summaries.proofs.Common.{is_retired, is_ended, has_terminated, needs, is_drained, next_item, add_event, after_run, after_all, opening, Event}
use Rattle.act_summaries.proofs.Common.{Run, TakeKill, Retire, RunItem, IsKept, after_all_keeps, or_parts}
use Rattle.act_rules.specs.declared.outcome.HandleRefusal.TheVariants.{NoActor}
use Rattle.act_rules.specs.declared.outcome.WorldRefusal.TheVariants.{Handle, ActorEnded, NoKill, NotDrained}
use Rattle.act_rules.proofs.Ended.{needs-none, run_needs, under-push}
use Rattle.act_rules.proofs.Events.{some_cast}
use Rattle.act_rules.proofs.Ended.{contains_other}

pub record EndOnce (h : History) : Type 0 where
  pub apart : (a : ℕ) → is_dead a h ≡ true → is_retired a h ≡ false
  pub cast : (a : ℕ) → is_ended a h ≡ true → is_some (cast_of a h) ≡ true

-- what holds of the actor that ends now, and of each other one as before
module _ (h : History) (s : EndOnce h) (b : ℕ) (live : is_ended b h ≡ false) (stands : is_some (cast_of b h) ≡ true) where
  unretired : (a : ℕ) → b ≡ a → is_retired a h ≡ false
  unretired a same = (or_parts (is_dead a h) (is_retired a h) (subst (λ x. is_ended x h ≡ false) same live)).1

  undead : (a : ℕ) → b ≡ a → is_dead a h ≡ false
  undead a same = (or_parts (is_dead a h) (is_retired a h) (subst (λ x. is_ended x h ≡ false) same live)).0

  cast_there : (a : ℕ) → b ≡ a → is_some (cast_of a h) ≡ true
  cast_there a same = subst (λ x. is_some (cast_of x h) ≡ true) same stands

  -- another actor is as it was, and this one doesn't end twice
  once_at : (g : History) → ((a : ℕ) → cast_of a g ≡ cast_of a h) → ((a : ℕ) → (b == a) ≡ false →
      (is_dead a g ≡ is_dead a h) × (is_retired a g ≡ is_retired a h)) → ((a : ℕ) → b ≡ a → is_dead a g ≡ true → is_retired a g ≡ false) → EndOnce g
  once_at g casts others own = record {
    apart = λ a dead. apart a (b == a) refl dead;
    cast = λ a ended. ap (λ o. is_some o) (casts a) ∙ there a (b == a) refl ended;
  }
    where
      apart : (a : ℕ) (t : Bool) → (b == a) ≡ t → is_dead a g ≡ true → is_retired a g ≡ false
      apart a true e dead = own a (eqb-true b a e) dead
      apart a false e dead = (others a e).1 ∙ s.apart a (sym (others a e).0 ∙ dead)

      there : (a : ℕ) (t : Bool) → (b == a) ≡ t → is_ended a g ≡ true → is_some (cast_of a h) ≡ true
      there a true e ended = cast_there a (eqb-true b a e)
      there a false e ended = s.cast a (sym (λ i. (others a e).0 i || (others a e).1 i) ∙ ended)

  ran_once : (item : RunItem) → EndOnce (record h { ran = h.ran ++ (b, item) ∷ []; posts = (after_run b 0 h (Some item)).posts })
  ran_once item = once_at (record h { ran = h.ran ++ (b, item) ∷ []; posts = (after_run b 0 h (Some item)).posts }) (λ a. refl)
      (λ a ne. (
        ap (λ items. contains a h.killed || has_terminated items)
            (under-push a b h.ran item ∙ ap (λ t. runs_of a h ++ cond t (item ∷ []) []) ne ∙ append-nil (runs_of a h)),
        refl,
      ))
      (λ a same dead. unretired a same)

  killed_once : EndOnce (add_event h (TakeKill b))
  killed_once = once_at (add_event h (TakeKill b)) (λ a. refl)
      (λ a ne. (ap (λ k. k || has_terminated (runs_of a h)) (contains_other b a h.killed ne), refl)) (λ a same dead. unretired a same)

  retired_once : EndOnce (add_event h (Retire b))
  retired_once = once_at (add_event h (Retire b)) (λ a. refl) (λ a ne. (refl, contains_other b a h.retired ne))
      (λ a same dead. let bad : true ≡ false = sym dead ∙ undead a same in cc)

once_step : IsKept EndOnce
once_step h (Run a c) s accepted = go (next_item a c h)
  where
    go : (o : Option RunItem) → EndOnce (after_run a c h o)
    go None = s
    go (Some item) =
        let fits = run_needs h a c accepted in
        let once = ran_once h s a fits.2 (some_cast c (cast_of a h) fits.1) item in record { apart = once.apart; cast = once.cast }
once_step h (TakeKill a) s accepted =
    let first = needs-none (is_some (cast_of a h)) (Handle NoActor) (needs (not (is_ended a h)) ActorEnded (needs (contains a h.asked) NoKill None)) accepted in
    let second = needs-none (not (is_ended a h)) ActorEnded (needs (contains a h.asked) NoKill None) first.1 in
    killed_once h s a (not-true (is_ended a h) second.0) first.0
once_step h (Retire a) s accepted =
    let first = needs-none (is_some (cast_of a h)) (Handle NoActor) (needs (not (is_ended a h)) ActorEnded (needs (is_drained a h) NotDrained None)) accepted in
    let second = needs-none (not (is_ended a h)) ActorEnded (needs (is_drained a h) NotDrained None) first.1 in
    retired_once h s a (not-true (is_ended a h) second.0) first.0
once_step h other s accepted = record { apart = s.apart; cast = s.cast }

pub ends_once : (casts : List ActorSpec) (events : List Event) → EndOnce (after_all (opening casts) events)
ends_once casts events = after_all_keeps EndOnce once_step (opening casts) events (record { apart = λ a dead. cc; cast = λ a ended. cc })
