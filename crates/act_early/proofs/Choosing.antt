-- Each choice of a quiescent play leads on to a quiescent play.
use Rattle.act_early.proofs.Common.{◌≡◌, ℕ, ◌<◌, Bool, true, false, cond, List, [], ◌∷◌, ◌++◌, length, Option, Some, None, refl, ap, sym, ◌∙◌, subst, arith}
use Rattle.act_early.proofs.Common.{◌==◌, ◌&&◌, find, filter_map, slice_get, option_map, option_and_then, is_some, cons_option, eqb-true, eq-eqb, and_parts}
use Rattle.act_early.proofs.Common.{and_from, slice_get_within, KindState, RunItem, Submission, Step, Answer, answers_from, answer_at, kept_at, ActorSpec}
use Rattle.act_early.proofs.Common.{History, contains, under, cast_of, runs_of, calls_of, kept_of, is_item_of, answer_of, answer_in, first_answer}
use Rattle.act_early.proofs.Common.{next_item, refusal_of, and_also, slice_get_front, slice_get_last, element, Grows, added_grows, runs_grow, calls_grow}
use Rattle.act_early.proofs.Common.{run_needs, run_stands, length-answers_from, answer_alive, one_place, At, with_event, Happens, IsPlay, is_reply, choices_of}
use Rattle.act_early.proofs.Common.{HasRunMore, HasTakenMore, ReplyPost, contains_push, some_cast}
use Rattle.act_rules.specs.declared.event.Event.TheVariants as event
use Rattle.act_early.proofs.Worlds.{world}
use Rattle.act_early.proofs.Replies.{reply_died}
use Rattle.act_early.proofs.Choices.{first_more, kept_first, heard_quiet, heard_more, choices_same}
use Rattle.act_early.proofs.Listed.{IsOpen}
use Rattle.act_early.proofs.Running.{more_choices, IsRun, item_caller, run_is, run_call, run_runs, unheard, lost_more}

-- ---- its reply

-- the reply of the run is collected
record IsReplied (a c : ℕ) (h g k : History) (item : RunItem) : Type 0 where
  run : IsRun a c h g item
  grows : Grows g k
  ran : k.ran ≡ g.ran
  collected : k.collected ≡ g.collected ++ ReplyPost c a (length (runs_of a h)) ∷ []
  casts : k.casts ≡ g.casts
  -- the actor has a cast
  known : is_some (cast_of a g) ≡ true

stands_at : (a c : ℕ) (h g : History) {item : RunItem} → IsRun a c h g item → slice_get (runs_of a g) (length (runs_of a h)) ≡ Some item
stands_at a c h g {item} r = ap (λ l. slice_get (under a l) (length (runs_of a h))) r.ran ∙ run_stands a h.ran item

-- the reply answers no older item
other_reply : (a b c place : ℕ) (h g k : History) (item other : RunItem) → IsReplied a c h g k item → slice_get (runs_of b h) place ≡ Some other → (d : ℕ)
    → is_reply (answer_in k other.caller other.future d (ReplyPost c a (length (runs_of a h)))) ≡ false
other_reply a b c place h g k item other r at d = go ((c == other.caller) && is_item_of other.caller other.future (slice_get (runs_of a k) n)) refl
  where
    n : ℕ
    n = length (runs_of a h)

    there : slice_get (runs_of a k) n ≡ Some item
    there = ap (λ l. slice_get (under a l) n) r.ran ∙ stands_at a c h g r.run

    later : slice_get (runs_of b g) place ≡ Some other
    later = slice_get_front (runs_of b h) (runs_of b g) place (runs_grow b r.run.grows) at

    go : (x : Bool) → ((c == other.caller) && is_item_of other.caller other.future (slice_get (runs_of a k) n)) ≡ x
        → is_reply (cond x (answer_of a n k) None) ≡ false
    go false e = refl
    go true e =
        let parts = and_parts (c == other.caller) (is_item_of other.caller other.future (slice_get (runs_of a k) n)) e in
        let both = and_parts (item.caller == other.caller) (item.future == other.future) (ap (is_item_of other.caller other.future) (sym there) ∙ parts.1) in
        let one = one_place g b place a n r.run.after.order later refl refl (stands_at a c h g r.run)
        (eqb-true item.caller other.caller both.0) (eqb-true item.future other.future both.1) in
        let lt : place < length (runs_of b h) = slice_get_within (runs_of b h) place other at in
        let lt' : n < n = subst (λ x. n < length (runs_of x h)) (sym one.0) (subst (λ m. m < length (runs_of b h)) (sym one.1) lt) in
        absurd (omega (arith, lt'))

-- it answers the new one
answered_by : (a c : ℕ) (h g k : History) (item : RunItem) → IsReplied a c h g k item
    → (answer : Answer) × (answer_of a (length (runs_of a h)) k ≡ Some answer) × (is_reply (Some answer) ≡ true)
answered_by a c h g k item r = go (cast_of a k) refl (ap (λ l. is_some (find (λ (cast : ActorSpec). cast.actor == a) l)) r.casts ∙ r.known)
  where
    n : ℕ
    n = length (runs_of a h)

    there : slice_get (runs_of a k) n ≡ Some item
    there = ap (λ l. slice_get (under a l) n) r.ran ∙ stands_at a c h g r.run

    alive : (state : KindState) {answer : Answer} → answer_at state (runs_of a k) n ≡ Some answer → (x : Bool) → is_reply (Some answer) ≡ x
        → is_reply (Some answer) ≡ true
    alive state at true e = e
    alive state {answer} at false e = absurd (answer_alive state (runs_of a k) n at (reply_died answer e))

    go : (o : Option ActorSpec) → cast_of a k ≡ o → is_some o ≡ true → (answer : Answer) × (answer_of a n k ≡ Some answer) × (is_reply (Some answer) ≡ true)
    go None e some = cc
    go (Some cast) e some =
        let lt : n < length (runs_of a k) = slice_get_within (runs_of a k) n item there in
        let long : length (answers_from cast.opening (runs_of a k)) ≡ length (runs_of a k) = length-answers_from cast.opening (runs_of a k) in
        let found = element (answers_from cast.opening (runs_of a k)) n (omega (arith, lt, long)) in (
          found.0,
          ap (λ o. option_and_then (λ state. answer_at state (runs_of a k) n) (option_map (λ (cast : ActorSpec). cast.opening) o)) e ∙ found.1,
          alive cast.opening found.1 (is_reply (Some found.0)) refl,
        )

first_none : (xs : List Answer) (o : Option Answer) → slice_get xs 0 ≡ None → slice_get (xs ++ cons_option o []) 0 ≡ o
first_none [] None e = refl
first_none [] (Some answer) e = refl
first_none (x ∷ xs) o e = cc

-- a reply that is kept
heard_more_choices : (a b c : ℕ) (h g k : History) (item : RunItem) → IsReplied a c h g k item
    → choices_of b k ≡ choices_of b h ++ cond (a == b) ((c, true) ∷ []) []
heard_more_choices a b c h g k item r =
    let n = length (runs_of a h) in let caller : item.caller ≡ c = item_caller a c h r.run.next in
    let answer : (answer : Answer) × (answer_of a n k ≡ Some answer) × (is_reply (Some answer) ≡ true) = answered_by a c h g k item r in
    let call : (call : Submission) × (slice_get (calls_of c h) item.future ≡ Some call) = run_call a c h g item r.run in
    let before : slice_get (calls_of c g) item.future ≡ Some call.0 =
    slice_get_front (calls_of c h) (calls_of c g) item.future (calls_grow c r.run.grows) call.1 in
    let after : slice_get (calls_of c k) item.future ≡ Some call.0 =
    slice_get_front (calls_of c g) (calls_of c k) item.future (calls_grow c r.grows) before in
    let there : slice_get (runs_of a k) n ≡ Some item = ap (λ l. slice_get (under a l) n) r.ran ∙ stands_at a c h g r.run in
    let mine : ((c == c) && is_item_of c item.future (slice_get (runs_of a k) n)) ≡ true =
    and_from (c == c) (is_item_of c item.future (slice_get (runs_of a k) n)) (eq-eqb c c refl)
    (ap (is_item_of c item.future) there ∙ and_from (item.caller == c) (item.future == item.future) (eq-eqb item.caller c caller)
    (eq-eqb item.future item.future refl)) in
    let gives : answer_in k c item.future call.0.actor (ReplyPost c a n) ≡ Some answer.0 = ap (λ x. cond x (answer_of a n k) None) mine ∙ answer.1 in
    let none : first_answer g c (item.future, call.0) ≡ None = sym (kept_first g c item.future before) ∙ unheard a c h g item r.run in
    let new : kept_at (kept_of c k) item.future ≡ Some answer.0 =
    kept_first k c item.future after ∙ first_more g k c (item.future, call.0) (ReplyPost c a n) r.grows r.run.after.posts r.collected
    ∙ ap (λ o. slice_get (filter_map (answer_in g c item.future call.0.actor) g.collected ++ cons_option o []) 0) gives
    ∙ first_none (filter_map (answer_in g c item.future call.0.actor) g.collected) (Some answer.0) none in
    more_choices h k a b c item true (ap (λ l. under b l) r.ran ∙ run_runs a b c h g item r.run)
    (λ place other at. let later = slice_get_front (runs_of b h) (runs_of b g) place (runs_grow b r.run.grows) at in
    heard_more g b place other (ReplyPost c a n) r.grows r.run.after r.collected later (other_reply a b c place h g k item other r at) ∙
    heard_quiet h b place r.run.grows r.run.sound r.run.collected at)
    caller
    (ap (λ d. is_reply (kept_at (kept_of d k) item.future)) caller ∙ ap is_reply new ∙ answer.2)

-- ---- the plays

pub lost_play : (specs : List ActorSpec) (plans : ℕ → List Step) (a c : ℕ) (p : At) (item : RunItem) → IsOpen specs plans p → refusal_of p.history
    (event.Run a c) ≡ None → next_item a c p.history ≡ Some item → (q : At) × IsOpen specs plans q × HasRunMore a c false p.history q.history
lost_play specs plans a c p item begun may e =
    let q = with_event (event.Run a c) p in
    let r = run_is a c p begun.play may e in (
      q,
      record { play = Happens p (event.Run a c) begun.play refl may; live = r.retired ∙ begun.live },
      ((λ b. lost_more a b c p.history q.history item r), λ b. ap (contains b) r.killed),
    )

-- what a run adds to the choices whose reply is collected at once
pub run_more : (casts : List ActorSpec) (plans : ℕ → List Step) (a c : ℕ) (p : At) (item : RunItem) → IsPlay casts plans p →
    refusal_of p.history (event.Run a c) ≡ None → next_item a c p.history ≡ Some item →
    HasRunMore a c true p.history (with_event (event.Collect (length p.history.posts)) (with_event (event.Run a c) p)).history
run_more casts plans a c p item play may e =
    let h = p.history in let g = (with_event (event.Run a c) p).history in let r : IsRun a c h g item = run_is a c p play may e in
    let k = (with_event (event.Collect (length h.posts)) (with_event (event.Run a c) p)).history in
    let place : slice_get g.posts (length h.posts) ≡ Some (ReplyPost c a (length (runs_of a h))) =
    ap (λ l. slice_get l (length h.posts)) r.posts ∙ slice_get_last h.posts (ReplyPost c a (length (runs_of a h))) in
    let replied : IsReplied a c h g k item =
    record {
      run = r;
      grows = added_grows g (event.Collect (length h.posts));
      ran = refl;
      collected = ap (and_also g.collected) place;
      casts = refl;
      known = ap (λ l. is_some (find (λ (cast : ActorSpec). cast.actor == a) l)) r.casts ∙ some_cast c (cast_of a h) (run_needs h a c may).1;
    } in
    ((λ b. heard_more_choices a b c h g k item replied), λ b. ap (contains b) r.killed)

pub heard_play : (specs : List ActorSpec) (plans : ℕ → List Step) (a c : ℕ) (p : At) (item : RunItem) → IsOpen specs plans p → refusal_of p.history
    (event.Run a c) ≡ None → next_item a c p.history ≡ Some item → (q : At) × IsOpen specs plans q × HasRunMore a c true p.history q.history
heard_play specs plans a c p item begun may e =
    let h = p.history in let q = with_event (event.Run a c) p in let r = run_is a c p begun.play may e in let j = length h.posts in
    let post = ReplyPost c a (length (runs_of a h)) in
    let place : slice_get q.history.posts j ≡ Some post =
    ap (λ l. slice_get l j) r.posts ∙ slice_get_last h.posts post in
    let there : refusal_of q.history (event.Collect j) ≡ None = let some : is_some (slice_get q.history.posts j) ≡ true =
    ap (λ o. is_some o) place in rw some refl in (
      with_event (event.Collect j) q,
      record { play = Happens q (event.Collect j) (Happens p (event.Run a c) begun.play refl may) refl there; live = r.retired ∙ begun.live },
      run_more specs plans a c p item begun.play may e,
    )

pub kill_play : (specs : List ActorSpec) (plans : ℕ → List Step) (a : ℕ) (p : At) → IsOpen specs plans p → refusal_of p.history (event.TakeKill a) ≡ None
    → (q : At) × IsOpen specs plans q × HasTakenMore a p.history q.history
kill_play specs plans a p begun may =
    let h = p.history in let q = with_event (event.TakeKill a) p in
    let sound = (world specs plans p begun.play).sound in (
      q,
      record { play = Happens p (event.TakeKill a) begun.play refl may; live = begun.live },
      (
        (λ b. choices_same h q.history b refl (λ place item at. heard_quiet h b place (added_grows h (event.TakeKill a)) sound refl at)),
        λ b. contains_push b a h.killed,
      ),
    )
