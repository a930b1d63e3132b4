-- What each caller of a run left, at its place.
use Rattle.act_executor.proofs.Common.{◌≡◌, ℕ, ◌<◌, false, List, length, map, get_or, slice_get, Some, sym, ap, ◌∙◌, subst, All, Contains}
use Rattle.act_executor.proofs.Common.{get_or_from_slice_get, planned, map-slice_get, actors_in, opened_under, Letter, Asked, PutterView, TakerView, MailView}
use Rattle.act_executor.proofs.Common.{caller_of, ControlView, asker_of, RepliesView, Endpoint, Finished, CallerPasses, Driven, HasPosted, HasAsked}
use Rattle.act_executor.proofs.Common.{IsFreshEndpoint, IsKillEndpoint, bare_post, bare_ask, CallerSetup, Lines, IsCaller, IsDriven, LettersAudited}
use Rattle.act_executor.proofs.Common.{KillsAudited, SitsAtMail, SitsAtControl, HasEndpoints, LetterTold, KillTold, Doing, IsDrivenAt, IsTold, KindState}
use Rattle.act_executor.proofs.Common.{at_other, all_at, IsIn, in_from_contains, contains_from_in, all_in, all_by_places}
use Rattle.act_executor.proofs.OpenLines.Owners.{own_actors}
use Rattle.act_executor.proofs.OpenLines.Actors.{served_view}

abbrev LetterEndpoint : Type 0
LetterEndpoint = Endpoint (PutterView Letter Unit)

abbrev KillEndpoint : Type 0
KillEndpoint = Endpoint (PutterView Asked ℕ)

module _ (lines : Lines) (does : Doing) (setup : CallerSetup) (caller : Endpoint CallerPasses) (d : Driven) (is : IsCaller lines setup caller)
    (driven : IsDrivenAt lines does setup caller d) where
  pub caller_is : d.owner.id ≡ setup.caller
  caller_is = driven.driven_is.driven_is.id

  pub same_replies_line : d.passes.collects.line ≡ caller.pass.collects.line
  same_replies_line = ap (λ (t : TakerView _ _). t.line) driven.driven_is.driven_is.stay.collects

  -- the caller did its steps
  pub is_driven : {actors : List ℕ} → setup.actors.items ≡ actors → d.starved ≡ false →
      IsDriven lines.mails.items lines.controls.items actors driven.driven_is.steps d
  is_driven {actors} known fed =
      let has = driven.driven_is.driven_is in let steps = driven.driven_is.steps in let done = has.done fed in
      let own : actors_in (opened_under setup.limits.items setup.caller setup.actors.items).handles ≡ actors =
      own_actors setup.limits.items setup.caller setup.actors.items ∙ known in
      record {
        letters = subst (λ l. All (HasPosted l d.owner) d.passes.letters.items) driven.mails has.letters;
        hears = has.hears;
        calls = done.calls ∙ (λ i. planned (own i) steps);
        answered = done.answered;
        kills = subst (λ l. All (HasAsked l steps d.passes.collects.taken) d.passes.kills.items) driven.controls done.kills;
      }

  abbrev own_line : RepliesView
  own_line = record { line = caller.pass.collects.line; caller = setup.caller }

  letter_endpoints : All (IsFreshEndpoint lines.mails.items setup.caller) caller.pass.letters.items
  letter_endpoints = (is own_line).letters

  kill_endpoints : All (IsKillEndpoint lines.controls.items) caller.pass.kills.items
  kill_endpoints = (is own_line).kills.0

  -- the passes are of the lines at their places
  pub has_endpoints : HasEndpoints lines d
  has_endpoints = record {
    letters = all_by_places (SitsAtMail lines.mails.items) d.passes.letters.items (λ k endpoint at. let old =
        at_other bare_post bare_post caller.pass.letters.items d.passes.letters.items (sym driven.driven_is.driven_is.stay.letters) k at in let was =
        all_at (IsFreshEndpoint lines.mails.items setup.caller) caller.pass.letters.items k letter_endpoints old.1 in let place : old.0.place ≡ endpoint.place =
        ap (λ (s : LetterEndpoint). s.place) old.2 in let line : old.0.pass.line ≡ endpoint.pass.line = ap (λ (s : LetterEndpoint). s.pass.line) old.2 in
        (subst (λ p. p < length lines.mails.items) place was.below, λ m. ap (λ p. (get_or lines.mails.items p m).line) (sym place) ∙ was.line m ∙ line));
    kills = all_by_places (SitsAtControl lines.controls.items) d.passes.kills.items
        (λ k endpoint at. let old = at_other bare_ask bare_ask caller.pass.kills.items d.passes.kills.items (sym driven.driven_is.driven_is.stay.kills) k at in
        let was = all_at (IsKillEndpoint lines.controls.items) caller.pass.kills.items k kill_endpoints old.1 in let place : old.0.place ≡ endpoint.place =
        ap (λ (s : KillEndpoint). s.place) old.2 in let line : old.0.pass.line ≡ endpoint.pass.line = ap (λ (s : KillEndpoint). s.pass.line) old.2 in
        (subst (λ p. p < length lines.controls.items) place was.below, λ m. ap (λ p. (get_or lines.controls.items p m).line) (sym place) ∙ was.line m ∙ line));
  }

  module _ {K L : Type 0} (state : K → KindState) (j a : ℕ) (actors : List (Finished K L)) (last : Finished K L)
      (at_last : slice_get actors j ≡ Some last) where
    -- the caller's letters were audited
    pub letters_audited : Contains (map (λ (s : LetterEndpoint). s.place) caller.pass.letters.items) j → ((m : MailView) → (get_or lines.mails.items j
        m).actor ≡ a) → All (LetterTold actors) d.passes.letters.items → LettersAudited lines.mails.items a setup.caller d (served_view state last)
    letters_audited has of_actor told =
        let in_map = in_from_contains (map (λ (s : LetterEndpoint). s.place) caller.pass.letters.items) j has in
        let old = map-slice_get (λ (s : LetterEndpoint). s.place) caller.pass.letters.items in_map.place in_map.at in
        let new = at_other bare_post bare_post d.passes.letters.items caller.pass.letters.items driven.driven_is.driven_is.stay.letters in_map.place old.1 in
        let was = all_at (IsFreshEndpoint lines.mails.items setup.caller) caller.pass.letters.items in_map.place letter_endpoints old.1 in
        let endpoint = new.0 in
        let place : endpoint.place ≡ j = ap (λ (s : LetterEndpoint). s.place) new.2 ∙ old.2 in
        let number : endpoint.pass.number ≡ setup.caller = ap (λ (s : LetterEndpoint). s.pass.number) new.2 ∙ was.number in
        let there : IsIn d.passes.letters.items endpoint = record { place = in_map.place; at = new.1 } in
        let pass = endpoint.pass in let heard = all_in (LetterTold actors) told there in
        let here : get_or actors endpoint.place last ≡ last = ap (λ p. get_or actors p last) place ∙ get_or_from_slice_get actors j last last at_last in
        let At : ℕ × Finished K L → Type 0 = λ p. IsTold caller_of p.0 pass.put pass.stamps p.1.passes.letters.taken p.1.passes.letters.stamps in
        let told_last : At (setup.caller, last) = subst At (λ k. (number k, here k)) (heard last) in
        record {
          endpoint = endpoint;
          sits = contains_from_in there;
          line = λ m. ap (λ p. (get_or lines.mails.items p m).actor) place ∙ of_actor m;
          front = told_last.front;
          stamped = told_last.stamped;
        }

    -- and its kills
    pub kills_audited : Contains {X = ℕ × ℕ} (map (λ (s : KillEndpoint). (s.place, s.pass.number)) caller.pass.kills.items) (j, setup.caller) →
        ((k : ControlView) → (get_or lines.controls.items j k).actor ≡ a) → All (KillTold actors) d.passes.kills.items →
        KillsAudited lines.controls.items a setup.caller d (served_view state last)
    kills_audited has of_actor told =
        let key : KillEndpoint → ℕ × ℕ = λ s. (s.place, s.pass.number) in
        let in_map = in_from_contains (map key caller.pass.kills.items) (j, setup.caller) has in
        let old = map-slice_get key caller.pass.kills.items in_map.place in_map.at in
        let new = at_other bare_ask bare_ask d.passes.kills.items caller.pass.kills.items driven.driven_is.driven_is.stay.kills in_map.place old.1 in
        let endpoint = new.0 in
        let place : endpoint.place ≡ j = ap (λ (s : KillEndpoint). s.place) new.2 ∙ ap (λ (p : ℕ × ℕ). p.0) old.2 in
        let number : endpoint.pass.number ≡ setup.caller = ap (λ (s : KillEndpoint). s.pass.number) new.2 ∙ ap (λ (p : ℕ × ℕ). p.1) old.2 in
        let there : IsIn d.passes.kills.items endpoint = record { place = in_map.place; at = new.1 } in
        let pass = endpoint.pass in let heard = all_in (KillTold actors) told there in
        let here : get_or actors endpoint.place last ≡ last = ap (λ p. get_or actors p last) place ∙ get_or_from_slice_get actors j last last at_last in
        let At : ℕ × Finished K L → Type 0 = λ p. IsTold asker_of p.0 pass.put pass.stamps p.1.passes.kills.taken p.1.passes.kills.stamps in
        let told_last : At (setup.caller, last) = subst At (λ k. (number k, here k)) (heard last) in
        record {
          endpoint = endpoint;
          sits = contains_from_in there;
          line = λ k. ap (λ p. (get_or lines.controls.items p k).actor) place ∙ of_actor k;
          front = told_last.front;
          stamped = told_last.stamped;
        }
