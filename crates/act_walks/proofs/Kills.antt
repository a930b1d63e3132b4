-- The kills that were asked stay asked.
use Rattle.act_walks.proofs.Common.{◌≡◌, ℕ, true, List, Option, Some, None, refl, ap, ◌∙◌, ◌||◌, contains, Event, RunItem, Step, Submit, Copy, Release, Kill}
use Rattle.act_walks.proofs.Common.{Await, WorldRefusal, ActorSpec, History, names, refusal_of, next_item, add_event, after, after_by, after_run, sym, ◌==◌}
use Rattle.act_walks.proofs.Common.{find, Did, did, contains_push, Told, after_mail, after_post, after_move, KillsAreAsked}
use Rattle.act_rules.specs.declared.event.Event.TheVariants as event
use Rattle.act_rules.specs.declared.outcome.Did.TheVariants as did_so

-- with the same casts, and no kill less
record IsNoLess (h g : History) : Type 0 where
  casts : g.casts ≡ h.casts
  asked : (a : ℕ) → contains a h.asked ≡ true → contains a g.asked ≡ true

kept : (bound : ℕ → Option (List Step)) (told : Told) (h g : History) → IsNoLess h g → KillsAreAsked bound told h → KillsAreAsked bound told g
kept bound told h g more asked c a free dead named = more.asked a (asked c a free dead
    (ap (λ l. names c (find (λ (cast : ActorSpec). cast.actor == a) l)) (sym more.casts) ∙ named))

no_less : (h : History) (other : Event) → IsNoLess h (add_event h other)
no_less h (event.Run a c) = go (next_item a c h)
  where
    go : (o : Option RunItem) → IsNoLess h (after_run a c h o)
    go None = record { casts = refl; asked = λ b has. has }
    go (Some item) = record { casts = refl; asked = λ b has. has }
no_less h (event.AskKill c a) = record { casts = refl; asked = λ b has. contains_push b a h.asked ∙ ap (λ y. y || (a == b)) has }
no_less h other = record { casts = refl; asked = λ b has. has }

-- where the kills of those told dead are asked, they still are after any event
pub kills_event : (bound : ℕ → Option (List Step)) (told : Told) (h : History) (other : Event) → KillsAreAsked bound told h
    → KillsAreAsked bound told (add_event h other)
kills_event bound told h other asked = kept bound told h (add_event h other) (no_less h other) asked

pub kills_after : (bound : ℕ → Option (List Step)) (told : Told) (h : History) (other : Event) → KillsAreAsked bound told h
    → KillsAreAsked bound told (after h other)
kills_after bound told h other asked = go (refusal_of h other)
  where
    go : (o : Option WorldRefusal) → KillsAreAsked bound told (after_by h other o)
    go None = kills_event bound told h other asked
    go (Some refusal) = asked

kills_mail : (bound : ℕ → Option (List Step)) (told : Told) (h : History) (d : Did) → KillsAreAsked bound told h → KillsAreAsked bound told (after_mail d h)
kills_mail bound told h (did_so.Mail i) asked = kills_after bound told h (event.Deliver i) asked
kills_mail bound told h d asked = asked

pub kills_post : (bound : ℕ → Option (List Step)) (told : Told) (h : History) (other : Event) → KillsAreAsked bound told h
    → KillsAreAsked bound told (after_post other h)
kills_post bound told h other asked = kills_mail bound told (add_event h other) (did h other) (kills_event bound told h other asked)

pub kills_move : (bound : ℕ → Option (List Step)) (told : Told) (h : History) (c : ℕ) (step : Step) → KillsAreAsked bound told h
    → KillsAreAsked bound told (after_move c step h)
kills_move bound told h c (Submit a method args) asked = kills_event bound told h (event.Submit c a method args) asked
kills_move bound told h c (Copy a) asked = kills_event bound told h (event.Copy c a) asked
kills_move bound told h c (Release a) asked = kills_post bound told h (event.Release c a) asked
kills_move bound told h c (Kill a) asked = kills_event bound told h (event.AskKill c a) asked
kills_move bound told h c (Await k) asked = asked
