-- The answers that the data takes for those left open may stand for these.
use Rattle.act_decisions.proofs.Common.{◌≡◌, ℕ, ◌<◌, ◌≤◌, ◌==◌, ◌&&◌, Bool, true, false, cond, List, [], length, map, Option, Some, None, inl, inr, ◌⊎◌, refl}
use Rattle.act_decisions.proofs.Common.{ap, sym, ◌∙◌, subst, arith, slice_get, is_some, slice_get_within, RunItem, Submission, Step, Answer, Err, Ok}
use Rattle.act_decisions.proofs.Common.{ActorDied, kept_at, ActorSpec, History, opening, calls_of, runs_of, kept_of, opening_of, cast_of, is_dead, is_reply}
use Rattle.act_decisions.proofs.Common.{option_map, option_and_then, answer_at, settle, Contains, IsSound, find, map-slice_get, length-answers_from, consistent}
use Rattle.act_decisions.proofs.Common.{deaths_are, All_at, answer_of, answers_from, reply_died, Arg, Good, Bad, slice_get-map, told_of, with_calls}
use Rattle.act_decisions.proofs.Common.{IsReplyForDeath, MayStandForKept, Left, ToldCall, ToldCaller, ToldEnd, caller_in, calls_in, is_dead_in}
use Rattle.act_decisions.proofs.Common.{HasCalls, AllFitSteps, IsCallIn, RunsArePlaced, StandsThere, IsDecided, AllDecided, NoValueIsLost, TookFailure}
use Rattle.act_decisions.proofs.Common.{answer_told, IsLeftBy, place_in, element}
use Rattle.act_rules.specs.Consistent.{IsAsSubmitted}
use Rattle.act_rules.specs.Submissions.{settled_future}
use Rattle.act_types.specs.declared.call.Arg.TheVariants.{Plain, Fut}
use Rattle.act_types.specs.declared.call.Value.{Value}
use Rattle.act_walks.specs.declared.told.Left.TheVariants as left
use Rattle.act_decisions.proofs.LeftBy.{own_caller}
use Rattle.act_decisions.proofs.SaidRuns.{item_of_said, said_of_item, said_answer}
use Rattle.act_decisions.proofs.SaidCalls.{data_calls, ran_item}
use Rattle.act_decisions.proofs.Chosen.{wants_reply, is_death, reply_there, chosen, chosen_all, chosen_length, chosen_at, chosen_past}
use Rattle.std.proofs.lemmas.Bool.{not-true}

-- ---- lists

-- the failure of a future came of the future
settled_bad : (kept : List (Option Answer)) (k : ℕ) (arg : Arg) → settle kept arg ≡ Bad k → arg ≡ Fut k
settled_bad kept k (Plain value) e = cc
settled_bad kept k (Fut j) e = go (kept_at kept j) refl
  where
    go : (o : Option Answer) → kept_at kept j ≡ o → Fut j ≡ Fut k
    go None is = let same : Bad j ≡ Bad k = ap (λ o. settled_future j o) (sym is) ∙ e in cc
    go (Some (Ok value)) is = let bad : Good value ≡ Bad k = ap (λ o. settled_future j o) (sym is) ∙ e in cc
    go (Some (Err fault)) is = let same : Bad j ≡ Bad k = ap (λ o. settled_future j o) (sym is) ∙ e in cc

-- so there was none where the answer is a value
no_failure : (kept : List (Option Answer)) (args : List Arg) (k : ℕ) (value : Value) → kept_at kept k ≡ Some (Ok value)
    → Contains (map (settle kept) args) (Bad k) → ⊥
no_failure kept args k value is has =
    let at = place_in (map (settle kept) args) (Bad k) has in let arg = map-slice_get (settle kept) args at.0 at.1 in
    let future : arg.0 ≡ Fut k = settled_bad kept k arg.0 arg.2 in
    let bad : Good value ≡ Bad k = sym (ap (settled_future k) is) ∙ sym (ap (settle kept) future) ∙ arg.2 in cc

died : (o : Option Answer) → is_death o ≡ true → o ≡ Some (Err ActorDied)
died None e = cc
died (Some answer) e = ap (λ a. Some a) (reply_died answer (not-true (is_reply (Some answer)) e))

pub both_true : (x y : Bool) → (x && y) ≡ true → (x ≡ true) × (y ≡ true)
both_true true true e = (refl, refl)
both_true true false e = cc
both_true false y e = cc

pub is_wanted : (l : Left) → wants_reply l ≡ true → l ≡ left.Reply
is_wanted left.Reply e = refl
is_wanted l e = cc

-- ---- what may stand for what is kept

module _ (end : ToldEnd) (steps : List (ℕ × Step × ℕ)) (casts : List ActorSpec) (h : History) (fits : IsLeftBy end h) (lines : AllFitSteps end steps)
    (placed : RunsArePlaced end) (decided : AllDecided casts end) (numbered : (c : ℕ) → (1 ≤ c) × (c ≤ 16) ⊎ (calls_of c h ≡ []))
    (has : (c : ℕ) → 1 ≤ c → c ≤ 16 → HasCalls c steps h) (sound : IsSound h) (same : h.casts ≡ casts) where
  abbrev pub data_kept : ℕ → List (Option Answer)
  data_kept c = chosen_all h (calls_in end c) (kept_of c h)

  pub decides : (c k : ℕ) (call : ToldCall) → IsCallIn end c k call → (caller : ToldCaller) × (caller_in end c ≡ Some caller) ×
      (slice_get caller.calls.items k ≡ Some call) × StandsThere end c k call × IsDecided casts end c k caller call
  decides c k call at = let own = own_caller end c k call at in let is = decided c k own.0 call own.1 own.2 in (own.0, own.1, own.2, is.0, is.1)

  -- a call whose answer is a value was taken as a failure by none that ran
  pub not_failed : (c k : ℕ) (value : Value) → kept_at (kept_of c h) k ≡ Some (Ok value) → TookFailure end c k → ⊥
  not_failed c k value is taken =
      let item = item_of_said end h fits taken.actor taken.place taken.run taken.at in
      let of : item.0.caller ≡ c = item.2.caller ∙ taken.caller in
      let sub : IsAsSubmitted (λ c. calls_of c h) (λ c. kept_of c h) item.0 =
      All_at (IsAsSubmitted (λ c. calls_of c h) (λ c. kept_of c h)) (runs_of taken.actor h) taken.place
      ((consistent h sound).as_submitted taken.actor) item.1 in
      no_failure (kept_of item.0.caller h) sub.call.args k value (ap (λ d. kept_at (kept_of d h) k) of ∙ is)
      (subst (λ l. Contains l (Bad k)) (sym item.2.args ∙ sub.args) taken.took)

  pub opening_same : (a : ℕ) → opening_of a (opening casts) ≡ opening_of a h
  opening_same a = ap (λ l. option_map (λ (cast : ActorSpec). cast.opening) (find (λ (cast : ActorSpec). cast.actor == a) l)) (sym same)

  -- a call that ran gave an answer
  pub gave : (a p : ℕ) (item : RunItem) → slice_get (runs_of a h) p ≡ Some item → is_some (cast_of a h) ≡ true → (answer : Answer)
      × (answer_of a p h ≡ Some answer)
  gave a p item ran cast = go (cast_of a h) refl cast
    where
      go : (o : Option ActorSpec) → cast_of a h ≡ o → is_some o ≡ true → (answer : Answer) × (answer_of a p h ≡ Some answer)
      go None e some = cc
      go (Some one) e some =
          let state : opening_of a h ≡ Some one.opening = ap (option_map (λ (cast : ActorSpec). cast.opening)) e in
          let long : length (answers_from one.opening (runs_of a h)) ≡ length (runs_of a h) = length-answers_from one.opening (runs_of a h) in
          let within : p < length (runs_of a h) = slice_get_within (runs_of a h) p item ran in
          let inside : p < length (answers_from one.opening (runs_of a h)) = omega (arith, long, within) in
          let at = element (answers_from one.opening (runs_of a h)) p inside in
          (at.0, ap (option_and_then (λ state. answer_at state (runs_of a h) p)) state ∙ at.1)

  -- what is told of it is what the actor answered
  pub told_is : (a p : ℕ) → answer_told casts end a p ≡ answer_of a p h
  told_is a p = said_answer end h fits casts a p ∙ ap (option_and_then (λ state. answer_at state (runs_of a h) p)) (opening_same a)

  -- a death that is left open of a call that ran: its reply stands for it
  reply_for : NoValueIsLost casts end → (c k : ℕ) (call : ToldCall) → IsCallIn end c k call → kept_at (kept_of c h) k ≡ Some (Err ActorDied) →
      call.is_open ≡ true → call.left ≡ left.Reply → chosen h call (kept_at (kept_of c h) k) ≡ reply_there h (kept_at (kept_of c h) k) call.place →
      IsReplyForDeath casts (with_calls (data_calls end) (told_of h)) data_kept c k
  reply_for lost c k call at dead opened reply chosen_is = go call.place refl
    where
      is : (caller : ToldCaller) × (caller_in end c ≡ Some caller) × (slice_get caller.calls.items k ≡ Some call)
          × StandsThere end c k call × IsDecided casts end c k caller call
      is = decides c k call at

      kept_is : kept_at (data_kept c) k ≡ reply_there h (kept_at (kept_of c h) k) call.place
      kept_is = chosen_at h (calls_in end c) (kept_of c h) k at ∙ chosen_is

      dead_actor : is_dead_in end call.actor ≡ true
      dead_actor =
          let to = deaths_are c k sound dead in
          let one : slice_get (map (λ (x : ToldCall). x.actor) (calls_in end c)) k ≡ Some call.actor =
          slice_get-map (λ (x : ToldCall). x.actor) (calls_in end c) k ∙ ap (option_map (λ (x : ToldCall). x.actor)) at in
          let two : slice_get (map (λ (x : Submission). x.actor) (calls_of c h)) k ≡ Some to.call.actor =
          slice_get-map (λ (x : Submission). x.actor) (calls_of c h) k ∙ ap (option_map (λ (x : Submission). x.actor)) to.at in
          let both : Some call.actor ≡ Some to.call.actor = sym one ∙ ap (λ l. slice_get l k) (fits.calls c) ∙ two in
          let actor : call.actor ≡ to.call.actor = cc in fits.dead call.actor ∙ ap (λ a. is_dead a h) actor ∙ to.dead

      go : (o : Option (ℕ × ℕ)) → call.place ≡ o → IsReplyForDeath casts (with_calls (data_calls end) (told_of h)) data_kept c k
      go None none = let some = is.4.reply opened reply in let bad : true ≡ false = sym some ∙ ap (λ o. is_some o) none in cc
      go (Some (a, p)) some =
          let stands = is.3 a p some in let ran = ran_item end h a p c k call fits is.3 some in
          let answer = gave a p ran.0 ran.1 (fits.cast a p stands.0 stands.1) in (
            dead,
            answer.0,
            kept_is ∙ ap (reply_there h (kept_at (kept_of c h) k)) some ∙ answer.1,
            record {
              actor = a;
              place = p;
              item = ran.0;
              at = ran.1;
              caller = ap (λ (r : ℕ × ℕ). r.0) ran.2;
              future = ap (λ (r : ℕ × ℕ). r.1) ran.2;
              is = ap (option_and_then (λ state. answer_at state (runs_of a h) p)) (opening_same a) ∙ answer.1;
              unused = λ value is_value b q item there of bad.
                  let run = said_of_item end h fits b q there in let mine : run.0.caller ≡ c = sym run.2.caller ∙ of in
                  let took = place_in run.0.args (Bad k) (subst (λ l. Contains l (Bad k)) run.2.args bad) in
                  lost b q run.0 run.1 took.0 (Bad k) took.1 k a p call refl
                  (subst (λ d. IsCallIn end d k call) (sym mine) at) (opened, reply, dead_actor) some
                  (value, told_is a p ∙ answer.1 ∙ ap (λ x. Some x) is_value);
            },
          )

  -- the answers that the data takes may stand for the kept ones, where no run took a call with a value for a failure
  pub kept_may_stand : NoValueIsLost casts end → MayStandForKept casts (with_calls (data_calls end) (told_of h)) data_kept
  kept_may_stand lost c = (chosen_length h (calls_in end c) (kept_of c h), λ k. go k (slice_get (calls_in end c) k) refl)
    where
      go : (k : ℕ) (o : Option ToldCall) → slice_get (calls_in end c) k ≡ o
          → (kept_at (data_kept c) k ≡ kept_at (kept_of c h) k) ⊎ IsReplyForDeath casts (with_calls (data_calls end) (told_of h)) data_kept c k
      go k None none = inl (chosen_past h (calls_in end c) (kept_of c h) k none)
      go k (Some call) at = by (is_death (kept_at (kept_of c h) k) && call.is_open && wants_reply call.left) refl
        where
          by : (b : Bool) → (is_death (kept_at (kept_of c h) k) && call.is_open && wants_reply call.left) ≡ b
              → (kept_at (data_kept c) k ≡ kept_at (kept_of c h) k) ⊎ IsReplyForDeath casts (with_calls (data_calls end) (told_of h)) data_kept c k
          by false e = inl (chosen_at h (calls_in end c) (kept_of c h) k at
              ∙ ap (λ b. cond b (reply_there h (kept_at (kept_of c h) k) call.place) (kept_at (kept_of c h) k)) e)
          by true e =
              let one = both_true (is_death (kept_at (kept_of c h) k) && call.is_open) (wants_reply call.left) e in
              let two = both_true (is_death (kept_at (kept_of c h) k)) call.is_open one.0 in
              inr (reply_for lost c k call at (died (kept_at (kept_of c h) k) two.0) two.1 (is_wanted call.left one.1)
              (ap (λ b. cond b (reply_there h (kept_at (kept_of c h) k) call.place) (kept_at (kept_of c h) k)) e))
