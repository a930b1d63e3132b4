-- What every play of plans leaves is a world: each of its parts fits the others.
use Rattle.act_early.proofs.Common.{◌≡◌, ℕ, Bool, true, false, List, [], ◌∷◌, ◌++◌, Some, None, refl, sym, ◌∙◌, subst, Option, ◌==◌, ◌||◌, not, is_some}
use Rattle.act_early.proofs.Common.{eqb-true, not-true, RunItem, Handle, ActorEnded, NoKill, NotDrained, NoActor, Step, Submit, Copy, Release}
use Rattle.act_early.proofs.Common.{Kill, Await, has_terminated, needs, ActorSpec, History, opening, contains, runs_of, cast_of, is_dead, is_retired, is_ended}
use Rattle.act_early.proofs.Common.{is_drained, next_item, refusal_of, add_event, after_run, IsKept, added_grows, needs-none, ended_stays, NothingFollows}
use Rattle.act_early.proofs.Common.{nothing_follows_step, IsSound, sound_step, world_sound, Retires, retires_step, world_retires, At, after_step, MayTake}
use Rattle.act_early.proofs.Common.{IsPlay, Opens, Takes, Skips, Closes, Happens, or_parts, Event, or_right, contains_push}
use Rattle.act_rules.specs.declared.event.Event.TheVariants as event

-- ---- what each event keeps holds of every play

-- the event of a caller's step; an await has none of its own
abbrev pub event_of : ℕ → Step → Event
event_of c (Submit a method args) = event.Submit c a method args
event_of c (Copy a) = event.Copy c a
event_of c (Release a) = event.Release c a
event_of c (Kill a) = event.AskKill c a
event_of c (Await k) = event.Deliver k

-- what each accepted event keeps is kept by a step that the caller may take
pub step_keeps : (P : History → Type 0) → IsKept P → (c : ℕ) (step : Step) (h : History) → P h → MayTake c step h → P (after_step c step h)
step_keeps P kept c (Await k) h held may = held
step_keeps P kept c step h held may = kept h (event_of c step) held may

-- what holds of the world as it is opened, and each accepted event keeps, holds after each play of plans
pub play_keeps : (P : History → Type 0) → IsKept P → {casts : List ActorSpec} {plans : ℕ → List Step} (at : At) → P (opening casts) → IsPlay casts plans at
    → P at.history
play_keeps P kept at first Opens = first
play_keeps P kept {casts} {plans} at first (Takes before c step play is may) = step_keeps P kept c step before.history (play_keeps P kept before first play) may
play_keeps P kept {casts} {plans} at first (Skips before c a play is named dead) = play_keeps P kept before first play
play_keeps P kept {casts} {plans} at first (Closes before c a play is may) = kept before.history (event.Release c a) (play_keeps P kept before first play) may
play_keeps P kept {casts} {plans} at first (Happens before other play free may) = kept before.history other (play_keeps P kept before first play) may

-- ---- a retired actor isn't dead

-- what follows of each of two tests holds where one of them passes
pub either_of : (x y : Bool) (P : Type 0) → (x || y) ≡ true → (x ≡ true → P) → (y ≡ true → P) → P
either_of true y P e f g = f refl
either_of false y P e f g = g e

-- no test comes out both ways
pub not_so : {b : Bool} → b ≡ true → b ≡ false → ⊥
not_so yes_is no_is = let e : true ≡ false = sym yes_is ∙ no_is in cc

-- an actor that may take a kill has a cast, hasn't ended, and its kill was asked
pub take_needs : (h : History) (a : ℕ) → refusal_of h (event.TakeKill a) ≡ None
    → (is_some (cast_of a h) ≡ true) × (is_ended a h ≡ false) × (contains a h.asked ≡ true)
take_needs h a e =
    let first = needs-none (is_some (cast_of a h)) (Handle NoActor) (needs (not (is_ended a h)) ActorEnded (needs (contains a h.asked) NoKill None)) e in
    let second = needs-none (not (is_ended a h)) ActorEnded (needs (contains a h.asked) NoKill None) first.1 in
    (first.0, not-true (is_ended a h) second.0, (needs-none (contains a h.asked) NoKill None second.1).0)

-- an actor that may retire has a cast, hasn't ended, and is drained
pub retire_needs : (h : History) (a : ℕ) → refusal_of h (event.Retire a) ≡ None
    → (is_some (cast_of a h) ≡ true) × (is_ended a h ≡ false) × (is_drained a h ≡ true)
retire_needs h a e =
    let first = needs-none (is_some (cast_of a h)) (Handle NoActor) (needs (not (is_ended a h)) ActorEnded (needs (is_drained a h) NotDrained None)) e in
    let second = needs-none (not (is_ended a h)) ActorEnded (needs (is_drained a h) NotDrained None) first.1 in
    (first.0, not-true (is_ended a h) second.0, (needs-none (is_drained a h) NotDrained None second.1).0)

-- an actor that hasn't ended isn't dead
pub not_dead : (a : ℕ) (h : History) → is_ended a h ≡ false → is_dead a h ≡ false
not_dead a h e = (or_parts (is_dead a h) (is_retired a h) e).0

abbrev pub RetiredLive : History → Type 0
RetiredLive h = (a : ℕ) → is_retired a h ≡ true → is_dead a h ≡ false

retired_run : (h : History) (b c : ℕ) → RetiredLive h → refusal_of h (event.Run b c) ≡ None → RetiredLive (add_event h (event.Run b c))
retired_run h b c live accepted a retired = go (next_item b c h) refl retired
  where
    go : (o : Option RunItem) → next_item b c h ≡ o → is_retired a (after_run b c h o) ≡ true → is_dead a (after_run b c h o) ≡ false
    go None e r = live a r
    go (Some item) e r =
        let ended : is_ended a h ≡ true = or_right (is_dead a h) _ r in
        let same = (ended_stays a (runs_of a h) h (event.Run b c) (record { ended = ended; same = refl }) accepted).same in
        let same' : runs_of a (after_run b c h (Some item)) ≡ runs_of a h =
        subst (λ o. runs_of a (after_run b c h o) ≡ runs_of a h) e same in
        subst (λ items. (contains a h.killed || has_terminated items) ≡ false) (sym same') (live a r)

pub retired_live_step : IsKept RetiredLive
retired_live_step h (event.Run b c) live accepted a retired = retired_run h b c live accepted a retired
retired_live_step h (event.TakeKill b) live accepted a retired = go (b == a) refl
  where
    go : (same : Bool) → (b == a) ≡ same → (contains a (h.killed ++ b ∷ []) || has_terminated (runs_of a h)) ≡ false
    go true e =
        let is : b ≡ a = eqb-true b a e in let ended : is_ended a h ≡ true = or_right (is_dead a h) _ retired in
        let lives : is_ended a h ≡ false = subst (λ x. is_ended x h ≡ false) is (take_needs h b accepted).1 in
        let bad : true ≡ false = sym ended ∙ lives in cc
    go false e = let lives = or_parts (contains a h.killed) (has_terminated (runs_of a h)) (live a retired) in
        rw (contains_push a b h.killed, e, lives.0) lives.1
retired_live_step h (event.Retire b) live accepted a retired =
    either_of (contains a h.retired) (b == a) (is_dead a h ≡ false) (sym (contains_push a b h.retired) ∙ retired) (live a)
    (λ e. not_dead a h (subst (λ x. is_ended x h ≡ false) (eqb-true b a e) (retire_needs h b accepted).1))
retired_live_step h other live accepted a retired = live a retired

-- ---- a retired actor has a cast

abbrev pub RetiredCast : History → Type 0
RetiredCast h = (a : ℕ) → is_retired a h ≡ true → is_some (cast_of a h) ≡ true

pub retired_cast_step : IsKept RetiredCast
retired_cast_step h (event.Run b c) cast accepted a retired = go (next_item b c h) retired
  where
    go : (o : Option RunItem) → is_retired a (after_run b c h o) ≡ true → is_some (cast_of a (after_run b c h o)) ≡ true
    go None r = cast a r
    go (Some item) r = cast a r
retired_cast_step h (event.Retire b) cast accepted a retired =
    either_of (contains a h.retired) (b == a) (is_some (cast_of a h) ≡ true) (sym (contains_push a b h.retired) ∙ retired) (cast a)
    (λ e. subst (λ x. is_some (cast_of x h) ≡ true) (eqb-true b a e) (retire_needs h b accepted).0)
retired_cast_step h other cast accepted a retired = cast a retired

-- ---- all of it

pub record IsWorld (specs : List ActorSpec) (h : History) : Type 0 where
  pub sound : IsSound h
  pub retires : Retires h
  pub follows : NothingFollows h
  pub casts : h.casts ≡ specs
  pub live : RetiredLive h
  pub cast : RetiredCast h

-- what holds of a world holds after an event that it takes
pub world_step : (casts : List ActorSpec) → IsKept (IsWorld casts)
world_step casts h other w accepted = record {
  sound = sound_step h other w.sound accepted;
  retires = retires_step h other w.retires accepted;
  follows = nothing_follows_step h other w.follows accepted;
  casts = (added_grows h other).casts ∙ w.casts;
  live = retired_live_step h other w.live accepted;
  cast = retired_cast_step h other w.cast accepted;
}

-- what a play of plans leaves is a world of its casts: sound, and what retired has a cast and isn't dead
pub world : (casts : List ActorSpec) (plans : ℕ → List Step) (at : At) → IsPlay casts plans at → IsWorld casts at.history
world casts plans at play = play_keeps (IsWorld casts) (world_step casts) at (record {
  sound = world_sound casts [];
  retires = world_retires casts [];
  follows = λ a place ends. cc;
  casts = refl;
  live = λ a e. cc;
  cast = λ a e. cc;
}) play
