-- A quiescent play with the same choices keeps each answer that the late play keeps.
use Rattle.act_early.proofs.Common.{◌≡◌, ℕ, ◌≤◌, Bool, true, false, List, length, Option, Some, None, refl, ap, sym, ◌∙◌, subst, ◌==◌, filter_map, same_Some}
use Rattle.act_early.proofs.Common.{slice_get, option_map, option_and_then, find, Err, filter_map-append, slice_get-map, KindState, ActorDied, RunItem}
use Rattle.act_early.proofs.Common.{Submission, Step, Answer, answer_at, has_terminated, kept_at, ActorSpec, History, contains, runs_of, calls_of, kept_of}
use Rattle.act_early.proofs.Common.{opening_of, is_dead, IsPrefix, slice_get_front, answer_at-front, Extends, answers_are, deaths_are, or_left, held_submission}
use Rattle.act_early.proofs.Common.{At, steps_of, is_reply, is_heard, choices_of, IsQuiescent, false_from_ne_true, front_whole, named_call, or_right}
use Rattle.act_early.proofs.Worlds.{IsWorld, either_of, not_so}
use Rattle.act_early.proofs.Counting.{take-prefix}
use Rattle.act_early.proofs.Progress.{Follows, submission_in}
use Rattle.act_early.proofs.Replies.{reply_some, reply_alive, reply_died, death_answers}
use Rattle.act_early.proofs.Earlier.{IsEarlier}

-- the play is a front of the late one, and the early one has made at least the same choices as it
pub record Matches (play early late : History) : Type 0 where
  pub before : IsEarlier play late
  pub choices : (a : ℕ) → IsPrefix (choices_of a early) (choices_of a late)
  pub reach : (a : ℕ) → length (runs_of a play) ≤ length (runs_of a early)
  pub killed : (a : ℕ) → contains a play.killed ≡ true → contains a early.killed ≡ true
  pub ended : (a : ℕ) → is_dead a play ≡ true → length (runs_of a early) ≤ length (runs_of a play)

-- in the early play each caller is at least as far, and each actor ran at least the same
pub record IsAhead (play early : At) : Type 0 where
  pub steps : (c : ℕ) → steps_of c play ≤ steps_of c early
  pub runs : (a : ℕ) → IsPrefix (runs_of a play.history) (runs_of a early.history)

-- ---- what follows of being ahead

-- what a function gives of a prefix is a prefix of what it gives of the whole list
pub IsPrefix-filter_map : {A B : Type 0} (f : A → Option B) (xs ys : List A) → IsPrefix xs ys → IsPrefix (filter_map f xs) (filter_map f ys)
IsPrefix-filter_map f xs ys p = (filter_map f p.0, sym (filter_map-append f xs p.0) ∙ ap (filter_map f) p.1)

-- where a caller follows its plan in two plays, its calls in the one where it isn't further are a prefix of the other's
pub calls_ahead : {plans : ℕ → List Step} (c : ℕ) {play early : At} → Follows plans c play → Follows plans c early → steps_of c play ≤ steps_of c early
    → IsPrefix (calls_of c play.history) (calls_of c early.history)
calls_ahead {plans} c {play} {early} f g le =
    rw (f.calls, g.calls) (IsPrefix-filter_map submission_in _ _ (take-prefix (plans c) (steps_of c play) (steps_of c early) le))

-- where its actor died in the play, the early one has the same run list
pub dead_runs : (a : ℕ) (play early late : At) → Matches play.history early.history late.history → IsAhead play early → is_dead a play.history ≡ true
    → runs_of a play.history ≡ runs_of a early.history
dead_runs a play early late m ahead dead = front_whole (runs_of a play.history) (runs_of a early.history) (ahead.runs a) (m.ended a dead)

pub dead_ahead : (a : ℕ) (play early late : At) → Matches play.history early.history late.history → IsAhead play early → is_dead a play.history ≡ true
    → is_dead a early.history ≡ true
dead_ahead a play early late m ahead dead =
    either_of (contains a play.history.killed) (has_terminated (runs_of a play.history)) (is_dead a early.history ≡ true) dead
    (λ killed. or_left (contains a early.history.killed) (has_terminated (runs_of a early.history)) (m.killed a killed))
    (λ ended. or_right (contains a early.history.killed) _ (ap has_terminated (sym (dead_runs a play early late m ahead dead)) ∙ ended))

-- ---- what was heard

-- the choice at the place of a run is the run's caller, and whether its reply was kept
pub choice_at : (h : History) (a place : ℕ) {item : RunItem} → slice_get (runs_of a h) place ≡ Some item
    → slice_get (choices_of a h) place ≡ Some (item.caller, is_heard h item)
choice_at h a place at = slice_get-map (λ (i : RunItem). (i.caller, is_heard h i)) (runs_of a h) place
    ∙ ap (option_map (λ (i : RunItem). (i.caller, is_heard h i))) at

-- what stands at one place of both was run for one caller, and heard in both or in none
pub same_choice : (early late : History) (a place : ℕ) {item other : RunItem} → IsPrefix (choices_of a early) (choices_of a late) → slice_get (runs_of a early)
    place ≡ Some item → slice_get (runs_of a late) place ≡ Some other → (item.caller ≡ other.caller) × (is_heard early item ≡ is_heard late other)
same_choice early late a place {item} {other} front at there =
    let first : slice_get (choices_of a late) place ≡ Some (item.caller, is_heard early item) =
    slice_get_front (choices_of a early) (choices_of a late) place front (choice_at early a place at) in
    let both : ◌≡◌ {A = Option (ℕ × Bool)} (Some (item.caller, is_heard early item)) (Some (other.caller, is_heard late other)) =
    sym first ∙ choice_at late a place there in
    let same : ◌≡◌ {A = ℕ × Bool} (item.caller, is_heard early item) (other.caller, is_heard late other) = cc in
    (ap (λ (p : ℕ × Bool). p.0) same, ap (λ (p : ℕ × Bool). p.1) same)

-- the call is that of the item
heard_is : (h : History) (c k : ℕ) (item : RunItem) → item.caller ≡ c → item.future ≡ k → is_heard h item ≡ is_reply (kept_at (kept_of c h) k)
heard_is h c k item caller future = rw (caller, future) refl

-- ---- the answers

-- what the early play needs to have quiescent
pub record AreWorlds (specs : List ActorSpec) (plans : ℕ → List Step) (p e l : At) : Type 0 where
  pub play : IsWorld specs p.history
  pub early : IsWorld specs e.history
  pub late : IsWorld specs l.history
  pub moves : (c : ℕ) → Follows plans c p
  pub goes : (c : ℕ) → Follows plans c e
  pub quiescent : IsQuiescent plans e

-- a reply that the play keeps
reply_ahead : {specs : List ActorSpec} {plans : ℕ → List Step} (play early late : At) (c k : ℕ) (answer : Answer) → AreWorlds specs plans play early late
    → Matches play.history early.history late.history → IsAhead play early
    → kept_at (kept_of c play.history) k ≡ Some answer → is_reply (Some answer) ≡ true → kept_at (kept_of c early.history) k ≡ Some answer
reply_ahead play early late c k answer w m ahead e reply =
    let from = answers_are c k w.play.sound e (reply_alive answer reply) in let a = from.actor in let place = from.place in
    let here : slice_get (runs_of a early.history) place ≡ Some from.item =
    slice_get_front (runs_of a play.history) (runs_of a early.history) place (ahead.runs a) from.at in
    let there : slice_get (runs_of a late.history) place ≡ Some from.item =
    slice_get_front (runs_of a play.history) (runs_of a late.history) place (m.before.runs a) from.at in
    let late_heard : is_heard late.history from.item ≡ true =
    heard_is late.history c k from.item from.caller from.future ∙ ap is_reply (m.before.kept c k answer e) ∙ reply in
    let early_heard : is_heard early.history from.item ≡ true =
    (same_choice early.history late.history a place (m.choices a) here there).1 ∙ late_heard in
    let has : is_reply (kept_at (kept_of c early.history) k) ≡ true = sym (heard_is early.history c k from.item from.caller from.future) ∙ early_heard in
    let some = reply_some (kept_at (kept_of c early.history) k) has in
    let alive : is_reply (Some some.0) ≡ true = sym (ap is_reply some.1) ∙ has in
    let own = answers_are c k w.early.sound some.1 (reply_alive some.0 alive) in
    let one = own.only a place from.item here from.caller from.future in
    let gives : option_and_then (λ state. answer_at state (runs_of a early.history) place) (opening_of a early.history) ≡ Some some.0
    = subst (λ p. option_and_then (λ state. answer_at state (runs_of a early.history) p) (opening_of a early.history) ≡ Some some.0)
    (sym one.1)
    (subst (λ b. option_and_then (λ state. answer_at state (runs_of b early.history) own.place) (opening_of b early.history)
    ≡ Some some.0) (sym one.0) own.answered) in
    some.1 ∙ sym gives ∙ same_answer a place from.item from.at ∙ from.answered
  where
    opened_alike : (a : ℕ) → opening_of a early.history ≡ opening_of a play.history
    opened_alike a = ap (λ casts. option_map (λ (cast : ActorSpec). cast.opening) (find (λ (cast : ActorSpec). cast.actor == a) casts))
        (w.early.casts ∙ sym w.play.casts)

    same_answer : (a place : ℕ) (item : RunItem) → slice_get (runs_of a play.history) place ≡ Some item
        → option_and_then (λ state. answer_at state (runs_of a early.history) place) (opening_of a early.history)
        ≡ option_and_then (λ state. answer_at state (runs_of a play.history) place) (opening_of a play.history)
    same_answer a place item at = rw (opened_alike a) (go (opening_of a play.history))
      where
        go : (o : Option KindState) → option_and_then (λ state. answer_at state (runs_of a early.history) place) o
            ≡ option_and_then (λ state. answer_at state (runs_of a play.history) place) o
        go None = refl
        go (Some state) = answer_at-front state (runs_of a play.history) (runs_of a early.history) place (ahead.runs a) at

-- a death that the play keeps
death_ahead : {specs : List ActorSpec} (plans : ℕ → List Step) (play early late : At) (c k : ℕ) → AreWorlds specs plans play early late
    → Matches play.history early.history late.history → IsAhead play early
    → kept_at (kept_of c play.history) k ≡ Some (Err ActorDied) → kept_at (kept_of c early.history) k ≡ Some (Err ActorDied)
death_ahead plans play early late c k w m ahead e =
    let from = deaths_are c k w.play.sound e in let b = from.call.actor in
    let there : slice_get (calls_of c early.history) k ≡ Some from.call =
    slice_get_front (calls_of c play.history) (calls_of c early.history) k
    (calls_ahead c (w.moves c) (w.goes c) (ahead.steps c)) from.at in
    let some = death_answers early.history c k there
    (w.quiescent.told c b (dead_ahead b play early late m ahead from.dead) (named_call early.history c k w.early.retires.named there)) in
    -- no reply was heard of it in the late play, so none in the early one
    let none : is_reply (Some some.0) ≡ true → ⊥ = λ alive.
    let own = answers_are c k w.early.sound some.1 (reply_alive some.0 alive) in
    let held = held_submission early.history own.actor k own.place w.early.sound.order own.at own.caller own.future in
    let actor : own.actor ≡ b = sym held.2 ∙ ap (λ (s : Submission). s.actor) (same_Some held.0 from.call (sym held.1 ∙ there)) in
    let at : slice_get (runs_of b early.history) own.place ≡ Some own.item =
    subst (λ x. slice_get (runs_of x early.history) own.place ≡ Some own.item) actor own.at in
    let ran : slice_get (runs_of b play.history) own.place ≡ Some own.item =
    ap (λ items. slice_get items own.place) (dead_runs b play early late m ahead from.dead) ∙ at in
    let later : slice_get (runs_of b late.history) own.place ≡ Some own.item =
    slice_get_front (runs_of b play.history) (runs_of b late.history) own.place (m.before.runs b) ran in
    let heard : is_heard early.history own.item ≡ true = heard_is early.history c k own.item own.caller own.future ∙ ap is_reply some.1 ∙ alive in
    let yes : is_heard late.history own.item ≡ true =
    sym (same_choice early.history late.history b own.place (m.choices b) at later).1 ∙ heard in
    not_so yes
    (heard_is late.history c k own.item own.caller own.future ∙ ap is_reply (m.before.kept c k (Err ActorDied) e)) in
    some.1 ∙ ap (λ x. Some x) (reply_died some.0 (false_from_ne_true (is_reply (Some some.0)) none))

-- where the play matches the early and the late one, and the early one is ahead, this keeps each answer of the play
pub kept_ahead : {specs : List ActorSpec} {plans : ℕ → List Step} {play early late : At} (c : ℕ) → AreWorlds specs plans play early late →
    Matches play.history early.history late.history → IsAhead play early → Extends (kept_of c play.history) (kept_of c early.history)
kept_ahead {specs} {plans} {play} {early} {late} c w m ahead k answer e = go (is_reply (Some answer)) refl
  where
    go : (x : Bool) → is_reply (Some answer) ≡ x → kept_at (kept_of c early.history) k ≡ Some answer
    go true alive = reply_ahead play early late c k answer w m ahead e alive
    go false died =
        let is : answer ≡ Err ActorDied = reply_died answer died in
        subst (λ x. kept_at (kept_of c early.history) k ≡ Some x) (sym is)
        (death_ahead plans play early late c k w m ahead (e ∙ ap (λ x. Some x) is))
