-- A post that is collected.
use Rattle.act_order_plays.proofs.Common.{◌≡◌, ℕ, ◌<◌, ◌==◌, ◌&&◌, true, cond, List, [], ◌∷◌, ◌++◌, length, Some, None, Err, slice_get, refl, sym, ap, subst}
use Rattle.act_order_plays.proofs.Common.{◌∙◌, arith, filter_map, option_and_then, AllByRecursion, eq-eqb, and_from, slice_get_within, ActorDied, OwnAt}
use Rattle.act_order_plays.proofs.Common.{Collect, Post, Answer, answer_at, answers_from, History, runs_of, is_item_of, answer_of, add_event, and_also, element}
use Rattle.act_order_plays.proofs.Common.{All_more, length-answers_from, sound_step, Happening, Submitted, Told, call_of, kept_for, answers, future_of}
use Rattle.act_order_plays.proofs.Common.{collect_unrefused, ReplyPost, DeathPost, IsIn}
use Rattle.act_order_plays.proofs.Fronts.{rans_of}
use Rattle.act_order_plays.proofs.Causes.{Good}
use Rattle.act_order_plays.proofs.Answering.{item_of_call}
use Rattle.act_order_plays.proofs.Stands.{Shape, IsRight, runs_are}
use Rattle.act_order_plays.proofs.Keeping.{answers_to, kept_is, first_some, opening_is}

collected_is : (h : History) (j : ℕ) {post : Post} → slice_get h.posts j ≡ Some post → (add_event h (Collect j)).collected ≡ h.collected ++ post ∷ []
collected_is h j at = ap (λ o. and_also h.collected o) at

-- once a right post is collected, the lists of a history still agree with what happened
pub shape_collect : (told : Told) (before : List Happening) (h : History) (j : ℕ) (post : Post) → Shape told before h → slice_get h.posts j ≡ Some post →
    IsRight told before post → Shape told before (add_event h (Collect j))
shape_collect told before h j post shape at right = record {
  casts = shape.casts;
  copied = shape.copied;
  released = shape.released;
  retired = shape.retired;
  submitted = shape.submitted;
  ran = shape.ran;
  collected = subst (λ posts. AllByRecursion (IsRight told before) posts) (sym (collected_is h j at))
      (All_more (IsRight told before) h.collected post shape.collected right);
  killed = shape.killed;
  sound = sound_step h (Collect j) shape.sound (collect_unrefused h j at);
}

-- once a post that answers a call is collected, the call has an answer
pub collect_answers : (told : Told) (before : List Happening) (h : History) (j n : ℕ) (post : Post) {answer : Answer} → Good told before →
    Shape told before (add_event h (Collect j)) → IsIn before (Submitted n) → slice_get h.posts j ≡ Some post →
    answers_to told n (add_event h (Collect j)) post ≡ Some answer → (first : Answer) × (kept_for told n (add_event h (Collect j)) ≡ Some first)
collect_answers told before h j n post {answer} good shape has at gives =
    let g = add_event h (Collect j) in
    let some = first_some (answers_to told n g) h.collected post answer gives in (
      some.0,
      kept_is told g n good shape has ∙ ap (λ posts. slice_get (filter_map (answers_to told n g) posts) 0) (collected_is h j at) ∙ some.1,
    )

-- the reply of a call that ran answers it
pub reply_answers : (told : Told) (before : List Happening) (h : History) (n place : ℕ) → Shape told before h → (call_of told n).actor < length told.actors →
    slice_get (rans_of told before (call_of told n).actor) place ≡ Some n →
    (answer : Answer) × (answers_to told n h (ReplyPost (call_of told n).caller (call_of told n).actor place) ≡ Some answer)
reply_answers told before h n place shape actor at =
    let c = (call_of told n).caller in let a = (call_of told n).actor in
    let item = item_of_call told (runs_of a h) (rans_of told before a) place n (runs_are a shape) at in
    let short = slice_get_within (runs_of a h) place item.0 item.1 in let long = length-answers_from (OwnAt answers) (runs_of a h) in
    let one = element (answers_from (OwnAt answers) (runs_of a h)) place (omega arith) in
    let opened = opening_is told h a shape actor in
    let gives : answer_of a place h ≡ Some one.0 =
    ap (λ o. option_and_then (λ state. answer_at state (runs_of a h) place) o) opened ∙ one.1 in
    let mine : is_item_of c (future_of told n) (slice_get (runs_of a h) place) ≡ true =
    ap (λ o. is_item_of c (future_of told n) o) item.1
    ∙ and_from (item.0.caller == c) (item.0.future == future_of told n) (eq-eqb item.0.caller c item.2.caller)
    (eq-eqb item.0.future (future_of told n) item.2.future) in
    let both : ((c == c) && is_item_of c (future_of told n) (slice_get (runs_of a h) place)) ≡ true = and_from (c == c) _ (eq-eqb c c refl) mine in
    (one.0, ap (λ b. cond b (answer_of a place h) None) both ∙ gives)

-- a death at its actor does, too
pub death_answers : (told : Told) (h : History) (n : ℕ) → answers_to told n h (DeathPost (call_of told n).caller (call_of told n).actor) ≡ Some (Err ActorDied)
death_answers told h n =
    let both : (((call_of told n).caller == (call_of told n).caller) && ((call_of told n).actor == (call_of told n).actor)) ≡ true =
    and_from _ _ (eq-eqb (call_of told n).caller (call_of told n).caller refl) (eq-eqb (call_of told n).actor (call_of told n).actor refl) in
    rw both refl
