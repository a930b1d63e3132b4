-- What the data says fits what is told once answers were chosen for those left open.
use Rattle.act_decisions.proofs.Common.{◌≡◌, ◌≢◌, ℕ, ◌≤◌, ◌&&◌, Bool, true, false, cond, List, [], Option, Some, None, ◌⊎◌, refl, ap, sym, ◌∙◌, subst}
use Rattle.act_decisions.proofs.Common.{slice_get, is_some, not, RunItem, Submission, Step, Answer, Err, Ok, ActorDied, kept_at, ActorSpec, History, calls_of}
use Rattle.act_decisions.proofs.Common.{runs_of, kept_of, opening_of, is_reply, option_map, option_and_then, answer_at, IsSound, kept_at_is, kept_by}
use Rattle.act_decisions.proofs.Common.{answers_are, answer_of, reply_alive, reply_some, slice_get-map, option_map_or, told_of, with_calls, with_kept, Left}
use Rattle.act_decisions.proofs.Common.{ToldCall, ToldCaller, ToldEnd, caller_in, calls_in, FitsLeft, left_of, Fits, HasCalls, AllFitSteps, IsCallIn}
use Rattle.act_decisions.proofs.Common.{IsPlacedAt, RunsArePlaced, StandsThere, IsDecided, AllDecided, GaveValue, TookFailure, IsLeftBy}
use Rattle.act_early.proofs.Common.{KindState}
use Rattle.act_rules.proofs.KindFaults.{answer_alive}
use Rattle.act_told_ends.proofs.Posted.{is_alive}
use Rattle.act_walks.specs.declared.told.Left.TheVariants as left
use Rattle.act_decisions.proofs.SaidCalls.{data_calls, ran_item}
use Rattle.act_decisions.proofs.SaidRuns.{said_of_item, said_runs}
use Rattle.act_decisions.proofs.Chosen.{wants_reply, is_death, reply_there, chosen_at, chosen_past}
use Rattle.act_decisions.proofs.SaidAnswers.{data_kept, decides, gave, not_failed, told_is}
use Rattle.std.proofs.lemmas.Bool.{and_right}

-- ---- answers

no_death : (o : Option Answer) → is_some o ≡ true → is_death o ≡ false → is_reply o ≡ true
no_death None some e = cc
no_death (Some answer) some e = go (is_reply (Some answer)) refl e
  where
    go : (b : Bool) → is_reply (Some answer) ≡ b → not b ≡ false → is_reply (Some answer) ≡ true
    go true is e = is
    go false is e = cc

module _ (end : ToldEnd) (steps : List (ℕ × Step × ℕ)) (casts : List ActorSpec) (h : History) (fits : IsLeftBy end h) (lines : AllFitSteps end steps)
    (placed : RunsArePlaced end) (decided : AllDecided casts end) (numbered : (c : ℕ) → (1 ≤ c) × (c ≤ 16) ⊎ (calls_of c h ≡ []))
    (has : (c : ℕ) → 1 ≤ c → c ≤ 16 → HasCalls c steps h) (sound : IsSound h) (same : h.casts ≡ casts) where
  abbrev kept_here : ℕ → List (Option Answer)
  kept_here = data_kept end steps casts h fits lines placed decided numbered has sound same

  -- nothing is kept of a call that wasn't made
  past : (c k : ℕ) → slice_get (calls_in end c) k ≡ None → kept_at (kept_of c h) k ≡ None
  past c k none = kept_at_is h c k ∙ ap (kept_by h c k) (none_too (calls_of c h) k
      (sym (slice_get-map (λ (x : Submission). x.actor) (calls_of c h) k) ∙ ap (λ l. slice_get l k) (sym (fits.calls c))
      ∙ slice_get-map (λ (x : ToldCall). x.actor) (calls_in end c) k ∙ ap (option_map (λ (x : ToldCall). x.actor)) none))
    where
      none_too : (xs : List Submission) (k : ℕ) → option_map (λ (x : Submission). x.actor) (slice_get xs k) ≡ None → slice_get xs k ≡ None
      none_too xs k e = go (slice_get xs k) refl e
        where
          go : (o : Option Submission) → slice_get xs k ≡ o → option_map (λ (x : Submission). x.actor) o ≡ None → slice_get xs k ≡ None
          go None is e = is
          go (Some x) is e = cc

  kept_same : (c k : ℕ) (call : ToldCall) → IsCallIn end c k call → (is_death (kept_at (kept_of c h) k) && call.is_open && wants_reply call.left) ≡ false
      → kept_at (kept_here c) k ≡ kept_at (kept_of c h) k
  kept_same c k call at e = chosen_at h (calls_in end c) (kept_of c h) k at
      ∙ ap (λ b. cond b (reply_there h (kept_at (kept_of c h) k) call.place) (kept_at (kept_of c h) k)) e

  -- a call that ran is told to have run there
  put_there : (c k a p : ℕ) {item : RunItem} → slice_get (runs_of a h) p ≡ Some item → item.caller ≡ c → item.future ≡ k → IsPlacedAt end a p c k
  put_there c k a p {item} ran of future =
      let run = said_of_item end h fits a p ran in let put = placed a p run.0 run.1 in
      (put.0, (λ i. slice_get (calls_in end ((sym of ∙ run.2.caller) i)) ((sym future ∙ run.2.future) i)) ∙ put.1, put.2)

  -- nor does one that gave a value there, and whose failure was taken
  must_have_died : (c k a p : ℕ) (call : ToldCall) → IsCallIn end c k call → call.place ≡ Some (a, p) → GaveValue casts end a p → TookFailure end c k
      → is_reply (kept_at (kept_of c h) k) ≡ false
  must_have_died c k a p call at place gave_value taken = go (is_reply (kept_at (kept_of c h) k)) refl
    where
      go : (b : Bool) → is_reply (kept_at (kept_of c h) k) ≡ b → is_reply (kept_at (kept_of c h) k) ≡ false
      go false e = e
      go true e =
          let some = reply_some (kept_at (kept_of c h) k) e in
          let ran = answers_are c k sound some.1 (reply_alive some.0 (ap is_reply (sym some.1) ∙ e)) in
          let put = put_there c k ran.actor ran.place ran.at ran.caller ran.future in
          let one : Some put.0 ≡ Some call = sym put.1 ∙ at in let same_call : put.0 ≡ call = cc in
          let both : ◌≡◌ {A = Option (ℕ × ℕ)} (Some (ran.actor, ran.place)) (Some (a, p)) = sym put.2 ∙ ap (λ (x : ToldCall). x.place) same_call ∙ place in
          let there : ◌≡◌ {A = ℕ × ℕ} (ran.actor, ran.place) (a, p) = cc in
          let answered : answer_of a p h ≡ Some some.0 = (λ i. answer_of ((sym there i).0) ((sym there i).1) h) ∙ ran.answered in
          let value_is : Some some.0 ≡ Some (Ok gave_value.0) =
          sym answered ∙ sym (told_is end steps casts h fits lines placed decided numbered has sound same a p) ∙ gave_value.1 in
          absurd (not_failed end steps casts h fits lines placed decided numbered has sound same c k gave_value.0 (some.1 ∙ value_is) taken)

  -- a call that isn't told to have run keeps no reply
  not_replied : (c k : ℕ) (call : ToldCall) → IsCallIn end c k call → call.place ≡ None → is_reply (kept_at (kept_of c h) k) ≡ false
  not_replied c k call at none = go (is_reply (kept_at (kept_of c h) k)) refl
    where
      go : (b : Bool) → is_reply (kept_at (kept_of c h) k) ≡ b → is_reply (kept_at (kept_of c h) k) ≡ false
      go false e = e
      go true e =
          let some = reply_some (kept_at (kept_of c h) k) e in
          let ran = answers_are c k sound some.1 (reply_alive some.0 (ap is_reply (sym some.1) ∙ e)) in
          let put = put_there c k ran.actor ran.place ran.at ran.caller ran.future in
          let one : Some put.0 ≡ Some call = sym put.1 ∙ at in let same_call : put.0 ≡ call = cc in
          let bad : Some (ran.actor, ran.place) ≡ None = sym put.2 ∙ ap (λ (x : ToldCall). x.place) same_call ∙ none in cc

  -- a reply that is left open
  open_reply : (c k : ℕ) (call : ToldCall) → IsCallIn end c k call → call.is_open ≡ true → call.left ≡ left.Reply → is_some (kept_at (kept_of c h) k) ≡ true
      → is_reply (kept_at (kept_here c) k) ≡ true
  open_reply c k call at opened reply some = by (is_death (kept_at (kept_of c h) k)) refl
    where
      is : (caller : ToldCaller) × (caller_in end c ≡ Some caller) × (slice_get caller.calls.items k ≡ Some call)
          × StandsThere end c k call × IsDecided casts end c k caller call
      is = decides end steps casts h fits lines placed decided numbered has sound same c k call at

      is_chosen : (b : Bool) → is_death (kept_at (kept_of c h) k) ≡ b → (is_death (kept_at (kept_of c h) k) && call.is_open && wants_reply call.left) ≡ b
      is_chosen b e = (λ i. (e i && opened i) && wants_reply (reply i)) ∙ tail b
        where
          tail : (b : Bool) → ((b && true) && true) ≡ b
          tail true = refl
          tail false = refl

      by : (b : Bool) → is_death (kept_at (kept_of c h) k) ≡ b → is_reply (kept_at (kept_here c) k) ≡ true
      by false e = ap is_reply (kept_same c k call at (is_chosen false e)) ∙ no_death (kept_at (kept_of c h) k) some e
      by true e = go call.place refl
        where
          kept_is : kept_at (kept_here c) k ≡ reply_there h (kept_at (kept_of c h) k) call.place
          kept_is = chosen_at h (calls_in end c) (kept_of c h) k at
              ∙ ap (λ b. cond b (reply_there h (kept_at (kept_of c h) k) call.place) (kept_at (kept_of c h) k)) (is_chosen true e)

          go : (o : Option (ℕ × ℕ)) → call.place ≡ o → is_reply (kept_at (kept_here c) k) ≡ true
          go None none = let there = is.4.reply opened reply in let bad : true ≡ false = sym there ∙ ap (λ o. is_some o) none in cc
          go (Some (a, p)) there =
              let stands = is.3 a p there in let ran = ran_item end h a p c k call fits is.3 there in
              let answer = gave end steps casts h fits lines placed decided numbered has sound same a p ran.0 ran.1 (fits.cast a p stands.0 stands.1) in
              ap is_reply (kept_is ∙ ap (reply_there h (kept_at (kept_of c h) k)) there ∙ answer.1) ∙ is_alive answer.0 (alive (opening_of a h) answer.1)
            where
              alive : (o : Option KindState) → {answer : Answer} → option_and_then (λ state. answer_at state (runs_of a h) p) o ≡ Some answer
                  → answer ≢ Err ActorDied
              alive None e = cc
              alive (Some state) {answer} e = answer_alive state (runs_of a h) p e

  fits_left : (c k : ℕ) (call : ToldCall) → IsCallIn end c k call → FitsLeft call.left (kept_at (kept_here c) k)
  fits_left c k call at = by call.is_open refl
    where
      is : (caller : ToldCaller) × (caller_in end c ≡ Some caller) × (slice_get caller.calls.items k ≡ Some call)
          × StandsThere end c k call × IsDecided casts end c k caller call
      is = decides end steps casts h fits lines placed decided numbered has sound same c k call at

      by : (b : Bool) → call.is_open ≡ b → FitsLeft call.left (kept_at (kept_here c) k)
      by false e = subst (FitsLeft call.left) (sym (kept_same c k call at
          (ap (λ b. b && wants_reply call.left) (and_right (is_death (kept_at (kept_of c h) k)) _ e)))) ((fits.left c k call at).0 e)
      by true e = sort call.left refl
        where
          some : is_some (kept_at (kept_of c h) k) ≡ true
          some = (fits.left c k call at).1 e

          is_dead_one : call.left ≡ left.Death → (o : Option (ℕ × ℕ)) → call.place ≡ o → is_reply (kept_at (kept_of c h) k) ≡ false
          is_dead_one l None none = not_replied c k call at none
          is_dead_one l (Some (a, p)) there = let why = is.4.death a p e l there in must_have_died c k a p call at there why.0 why.1

          sort : (l : Left) → call.left ≡ l → FitsLeft call.left (kept_at (kept_here c) k)
          sort left.Open l = absurd (is.4.left e l)
          sort left.Reply l = subst (λ l. FitsLeft l (kept_at (kept_here c) k)) (sym l) (open_reply c k call at e l some)
          sort left.Death l =
              let kept = kept_same c k call at (and_right (is_death (kept_at (kept_of c h) k) && call.is_open) _ (ap wants_reply l)) in
              subst (λ l. FitsLeft l (kept_at (kept_here c) k)) (sym l)
              (ap (λ o. is_some o) kept ∙ some, ap is_reply kept ∙ is_dead_one l call.place refl)

  pub fits_told : Fits end (with_kept kept_here (with_calls (data_calls end) (told_of h)))
  fits_told = record {
    calls = λ c. refl;
    left = λ c k. go c k (slice_get (calls_in end c) k) refl;
    runs = said_runs end h fits;
    dead = fits.dead;
    retired = fits.retired;
  }
    where
      go : (c k : ℕ) (o : Option ToldCall) → slice_get (calls_in end c) k ≡ o → FitsLeft (left_of end c k) (kept_at (kept_here c) k)
      go c k None none = subst (λ l. FitsLeft l (kept_at (kept_here c) k)) (sym (ap (λ o. option_map_or (λ (x : ToldCall). x.left) o left.Open) none))
          (chosen_past h (calls_in end c) (kept_of c h) k none ∙ past c k none)
      go c k (Some call) at = subst (λ l. FitsLeft l (kept_at (kept_here c) k))
          (sym (ap (λ o. option_map_or (λ (x : ToldCall). x.left) o left.Open) at)) (fits_left c k call at)
