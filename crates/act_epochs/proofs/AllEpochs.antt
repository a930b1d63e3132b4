-- What holds over all epochs, from what each leaves.
use Rattle.act_epochs.proofs.Common.{◌≡◌, ◌≢◌, ℕ, ◌+◌, ◌≤◌, true, List, [], ◌∷◌, ◌++◌, length, Option, Some, None, refl, ap, sym, ◌∙◌, subst, arith, All}
use Rattle.act_epochs.proofs.Common.{AllPairs, get_or, map, flat_map, slice_get, option_map, option_and_then, enumerate_from, flat_map-append, All-nil}
use Rattle.act_epochs.proofs.Common.{All-append, All-weaker, All-map, KindState, OwnAt, RunItem, Answer, items_of, state_after, answer_at, calls_to, IsPrefix}
use Rattle.act_epochs.proofs.Common.{IsAnswerOfRun, ActorSpec, opening, opening_of, whole_front, SessionView, cast_at, end_of, log_of_end, calls_in, log_in}
use Rattle.act_epochs.proofs.Common.{killed_in, place_behind, Epoch, IsEpoch, casts_left, AreEpochs, casts_after, runs, submitted_in, ran_in, IsInState}
use Rattle.act_epochs.proofs.Common.{IsAnswerOfAllRuns, IsOver, AreConsistent, CastKeeps}
use Rattle.act_types.specs.Own.{Ask, StepOf, behaves}
use Rattle.act_rules.specs.OwnRuns.{IsKept, Left}
use Rattle.act_rules.proofs.OwnRuns.{holds_in_each_run}
use Rattle.act_executor.proofs.Lists.Cuts.{pairs_append}
use Rattle.act_executor.proofs.PlaysOfPlans.Heard.{front_after}
use Rattle.act_own.specs.Kept.{OpensAt}
use Rattle.act_epochs.proofs.Lists.{front_before, state_after-append, answer_between}
use Rattle.act_epochs.proofs.OneEpoch.{submitted_as, ran_as, no_end, no_calls, left_is, none_left, killed_leaves_none, other_is_left, ran_front, ran_whole}
use Rattle.act_epochs.proofs.OneEpoch.{left_state, calls_differ}
use Rattle.act_lists.proofs.Lists.{slice_get_more}

-- the calls of a later epoch have a later number
numbered_from : {C : Type 0} (a c n : ℕ) (epochs : List (Epoch C)) → All (λ (p : ℕ × ℕ). n ≤ p.0) (flat_map (submitted_in a c) (enumerate_from n epochs))
numbered_from a c n [] = All-nil (λ p. n ≤ p.0)
numbered_from {C} a c n (epoch ∷ epochs) =
    let calls = calls_to a (calls_in epoch.owners c) in let At : ℕ × ℕ → Type 0 = λ p. n ≤ p.0 in
    All-append At (map (submitted_as n) calls) (flat_map (submitted_in a c) (enumerate_from (n + 1) epochs))
    (All-map At (submitted_as n) calls (λ k d below. omega arith))
    (All-weaker (λ (p : ℕ × ℕ). n + 1 ≤ p.0) At (λ p more. omega (arith, more)) (flat_map (submitted_in a c) (enumerate_from (n + 1) epochs))
    (numbered_from a c (n + 1) epochs))

-- no call stands twice
pub once_from : {C : Type 0} (a c n : ℕ) (epochs : List (Epoch C)) → AllPairs (λ one other. one ≢ other) (flat_map (submitted_in a c) (enumerate_from n epochs))
once_from a c n [] = λ i j d lt below. absurd (omega arith)
once_from {C} a c n (epoch ∷ epochs) =
    let calls = calls_to a (calls_in epoch.owners c) in
    let later = flat_map (submitted_in a c) (enumerate_from (n + 1) epochs) in
    pairs_append (λ one other. one ≢ other) (map (submitted_as n) calls) later
    (calls_differ n a (calls_in epoch.owners c))
    (once_from a c (n + 1) epochs)
    (All-map (λ one. All (λ other. one ≢ other) later) (submitted_as n) calls (λ i x inside.
    All-weaker (λ (p : ℕ × ℕ). n + 1 ≤ p.0) (λ p. submitted_as n (get_or calls i x) ≢ p)
    (λ p more same. let number : n ≡ p.0 = ap (λ (q : ℕ × ℕ). q.0) same in omega (arith, more)) later (numbered_from a c (n + 1) epochs)))

-- a cast in the state after some runs, and then after more
next_state : (first next left : ActorSpec) (log more : List RunItem) → next ≡ record first { opening = state_after first.opening log }
    → left ≡ record next { opening = state_after next.opening more } → left ≡ record first { opening = state_after first.opening (log ++ more) }
next_state first next left log more one two =
    two
    ∙ ap (λ (cast : ActorSpec). record cast { opening = state_after cast.opening more }) one
    ∙ ap (λ state. record first { opening = state }) (sym (state_after-append first.opening log more))

module _ {C : Type 0} (tells : C → SessionView → SessionView → Type 0) where
  -- ---- an actor without a cast

  record IsGone (casts : List ActorSpec) (epochs : List (Epoch C)) (a : ℕ) : Type 0 where
    pub runs_none : runs a epochs ≡ []
    pub asked_none : (c n : ℕ) → flat_map (submitted_in a c) (enumerate_from n epochs) ≡ []
    pub cast_none : cast_at a (casts_after casts epochs) ≡ None

  gone_here : {casts : List ActorSpec} {epoch : Epoch C} → epoch.casts ≡ casts → (is : IsEpoch tells epoch) (a : ℕ) → cast_at a casts ≡ None
      → end_of a epoch.ends ≡ None
  gone_here same is a none = no_end is.joined.joined a (ap (cast_at a) same ∙ none)

  unasked_here : {casts : List ActorSpec} {epoch : Epoch C} → epoch.casts ≡ casts → (is : IsEpoch tells epoch) (a c : ℕ) → cast_at a casts ≡ None
      → calls_to a (calls_in epoch.owners c) ≡ []
  unasked_here same is a c none = no_calls is.joined.joined a c (ap (cast_at a) same ∙ none)

  gone_next : {epoch : Epoch C} (is : IsEpoch tells epoch) (a : ℕ) → end_of a epoch.ends ≡ None → cast_at a (casts_left epoch) ≡ None
  gone_next is a none = none_left is.joined.joined a none

  gone : (casts : List ActorSpec) (epochs : List (Epoch C)) → AreEpochs tells casts epochs → (a : ℕ) → cast_at a casts ≡ None → IsGone casts epochs a
  gone casts [] are a none = record { runs_none = refl; asked_none = λ c n. refl; cast_none = none }
  gone casts (epoch ∷ epochs) are a none =
      let end = gone_here are.0 are.1 a none in
      let rest = gone (casts_left epoch) epochs are.2 a (gone_next are.1 a end) in
      record {
        runs_none = ap (λ o. log_of_end o ++ runs a epochs) end ∙ rest.runs_none;
        asked_none = λ c n. ap (λ calls. map (submitted_as n) calls ++ flat_map (submitted_in a c) (enumerate_from (n + 1) epochs))
            (unasked_here are.0 are.1 a c none) ∙ rest.asked_none c (n + 1);
        cast_none = rest.cast_none;
      }

  gone_ran : (casts : List ActorSpec) (epochs : List (Epoch C)) → AreEpochs tells casts epochs → (a c n : ℕ) → cast_at a casts ≡ None
      → flat_map (ran_in a c) (enumerate_from n epochs) ≡ []
  gone_ran casts [] are a c n none = refl
  gone_ran casts (epoch ∷ epochs) are a c n none =
      let end = gone_here are.0 are.1 a none in
      ap (λ o. map (ran_as n) (items_of c (log_of_end o)) ++ flat_map (ran_in a c) (enumerate_from (n + 1) epochs)) end
      ∙ gone_ran (casts_left epoch) epochs are.2 a c (n + 1) (gone_next are.1 a end)

  -- ---- calls in order

  in_order_from : (casts : List ActorSpec) (epochs : List (Epoch C)) → AreEpochs tells casts epochs → (a c n : ℕ)
      → IsPrefix (flat_map (ran_in a c) (enumerate_from n epochs)) (flat_map (submitted_in a c) (enumerate_from n epochs))
  in_order_from casts [] are a c n = whole_front []
  in_order_from casts (epoch ∷ epochs) are a c n = go (cast_at a (casts_left epoch)) refl (in_order_from (casts_left epoch) epochs are.2 a c (n + 1))
    where
      go : (o : Option ActorSpec) → cast_at a (casts_left epoch) ≡ o → IsPrefix (flat_map (ran_in a c) (enumerate_from (n + 1) epochs)) (flat_map (submitted_in
          a c) (enumerate_from (n + 1) epochs)) → IsPrefix (map (ran_as n) (items_of c (log_in epoch.ends a)) ++ flat_map (ran_in a c) (enumerate_from
          (n + 1) epochs)) (map (submitted_as n) (calls_to a (calls_in epoch.owners c)) ++ flat_map (submitted_in a c) (enumerate_from (n + 1) epochs))
      go None none more =
          let ran_here = map (ran_as n) (items_of c (log_in epoch.ends a)) in
          let sent_here = map (submitted_as n) (calls_to a (calls_in epoch.owners c)) in
          let later = flat_map (submitted_in a c) (enumerate_from (n + 1) epochs) in
          subst (λ l. IsPrefix (ran_here ++ l) (sent_here ++ later)) (sym (gone_ran (casts_left epoch) epochs are.2 a c (n + 1) none))
          (front_before ran_here sent_here later (ran_front are.1.joined.joined n a c))
      go (Some left) some more =
          let sent_here = map (submitted_as n) (calls_to a (calls_in epoch.owners c)) in
          let ran_later = flat_map (ran_in a c) (enumerate_from (n + 1) epochs) in
          let later = flat_map (submitted_in a c) (enumerate_from (n + 1) epochs) in
          let is = left_is are.1.joined.joined a some in
          subst (λ l. IsPrefix (l ++ ran_later) (sent_here ++ later)) (sym (ran_whole are.1.joined.joined n a c is))
          (front_after sent_here ran_later later more)

  -- an actor that has a cast left had one after each epoch
  still : (casts : List ActorSpec) (epochs : List (Epoch C)) → AreEpochs tells casts epochs → (a : ℕ) (left : ActorSpec)
      → cast_at a (casts_after casts epochs) ≡ Some left → (cast : ActorSpec) × (cast_at a casts ≡ Some cast)
  still casts epochs are a left e = go (cast_at a casts) refl
    where
      go : (o : Option ActorSpec) → cast_at a casts ≡ o → (cast : ActorSpec) × (cast_at a casts ≡ Some cast)
      go None none = let bad : None ≡ Some left = sym (gone casts epochs are a none).cast_none ∙ e in cc
      go (Some cast) some = (cast, some)

  whole_from : (casts : List ActorSpec) (epochs : List (Epoch C)) → AreEpochs tells casts epochs → (a c n : ℕ) {left : ActorSpec} →
      cast_at a (casts_after casts epochs) ≡ Some left → flat_map (ran_in a c) (enumerate_from n epochs) ≡ flat_map (submitted_in a c) (enumerate_from n epochs)
  whole_from casts [] are a c n e = refl
  whole_from casts (epoch ∷ epochs) are a c n {left} e =
      let one = still (casts_left epoch) epochs are.2 a left e in let is = left_is are.1.joined.joined a one.1 in
      ap (λ l. l ++ flat_map (ran_in a c) (enumerate_from (n + 1) epochs)) (ran_whole are.1.joined.joined n a c is)
      ∙ ap (λ l. map (submitted_as n) (calls_to a (calls_in epoch.owners c)) ++ l)
      (whole_from (casts_left epoch) epochs are.2 a c (n + 1) e)

  -- ---- states

  pub in_state : (casts : List ActorSpec) (epochs : List (Epoch C)) → AreEpochs tells casts epochs → (a : ℕ) (left : ActorSpec)
      → cast_at a (casts_after casts epochs) ≡ Some left → IsInState casts epochs a left
  in_state casts [] are a left e = record { first = left; at = e; is = refl }
  in_state casts (epoch ∷ epochs) are a left e =
      let rest = in_state (casts_left epoch) epochs are.2 a left e in
      let one = left_state are.1.joined.joined a (left_is are.1.joined.joined a rest.at) in
      record {
        first = one.0;
        at = ap (cast_at a) (sym are.0) ∙ one.1;
        is = next_state one.0 rest.first left (log_in epoch.ends a) (runs a epochs) one.2 rest.is;
      }

  -- ---- one of the epochs

  record IsOne (casts : List ActorSpec) (before after : List (Epoch C)) (epoch : Epoch C) : Type 0 where
    pub first : AreEpochs tells casts before
    pub here : epoch.casts ≡ casts_after casts before
    pub is : IsEpoch tells epoch
    pub rest : AreEpochs tells (casts_left epoch) after
    pub whole : casts_after casts (before ++ epoch ∷ after) ≡ casts_after (casts_left epoch) after

  is_one : (casts : List ActorSpec) (before after : List (Epoch C)) (epoch : Epoch C) → AreEpochs tells casts (before ++ epoch ∷ after)
      → IsOne casts before after epoch
  is_one casts [] after epoch are = record { first = tt; here = are.0; is = are.1; rest = are.2; whole = refl }
  is_one casts (one ∷ before) after epoch are =
      let rest = is_one (casts_left one) before after epoch are.2 in
      record { first = (are.0, are.1, rest.first); here = rest.here; is = rest.is; rest = rest.rest; whole = rest.whole }

  ended_in : {casts : List ActorSpec} {before : List (Epoch C)} (after : List (Epoch C)) (epoch : Epoch C) → IsOne casts before after epoch → (a : ℕ)
      → killed_in epoch.ends a ≡ true → IsOver a after (casts_after casts (before ++ epoch ∷ after))
  ended_in after epoch one a killed =
      let none = killed_leaves_none one.is.joined.joined a killed in let is = gone (casts_left epoch) after one.rest a none in
      record { ran = is.runs_none; asked = λ c. is.asked_none c 0; cast = ap (cast_at a) one.whole ∙ is.cast_none }

  -- ---- answers

  -- the state in which an epoch opens an actor is that after all its runs before
  opens : (casts : List ActorSpec) (before : List (Epoch C)) → AreEpochs tells casts before → (a : ℕ) → (cast : ActorSpec) → cast_at a (casts_after casts
      before) ≡ Some cast → (first : KindState) × (opening_of a (opening casts) ≡ Some first) × (cast.opening ≡ state_after first (runs a before))
  opens casts before are a cast at =
      let is = in_state casts before are a cast at in
      (is.first.opening, ap (option_map (λ (one : ActorSpec). one.opening)) is.at, ap (λ (one : ActorSpec). one.opening) is.is)

  answer_in : (casts : List ActorSpec) (before after : List (Epoch C)) (epoch : Epoch C) → IsOne casts before after epoch → (c k : ℕ) (answer : Answer)
      → IsAnswerOfRun (λ a. opening_of a (opening epoch.casts)) (log_in epoch.ends) c k answer → IsAnswerOfAllRuns casts before epoch after c k answer
  answer_in casts before after epoch one c k answer of = go (cast_at of.actor epoch.casts) refl of.answered
    where
      go : (o : Option ActorSpec) → cast_at of.actor epoch.casts ≡ o → option_and_then (λ state. answer_at state (log_in epoch.ends of.actor) of.place)
          (option_map (λ (cast : ActorSpec). cast.opening) o) ≡ Some answer → IsAnswerOfAllRuns casts before epoch after c k answer
      go None none e = cc
      go (Some cast) some e =
          let past = runs of.actor before in let log = log_in epoch.ends of.actor in let later = runs of.actor after in
          let start = opens casts before one.first of.actor cast (sym (ap (cast_at of.actor) one.here) ∙ some) in
          let same : runs of.actor (before ++ epoch ∷ after) ≡ past ++ (log ++ later) =
          flat_map-append (λ (e : Epoch C). log_in e.ends of.actor) before (epoch ∷ after) in
          record {
            actor = of.actor;
            place = of.place;
            item = of.item;
            here = of.at;
            at = ap (λ l. slice_get l (length past + of.place)) same ∙ place_behind past (log ++ later) of.place ∙ slice_get_more log later of.place of.at;
            caller = of.caller;
            future = of.future;
            answered =
                ap (option_and_then (λ state. answer_at state (runs of.actor (before ++ epoch ∷ after)) (length past + of.place))) start.1
                ∙ ap (λ l. answer_at start.0 l (length past + of.place)) same
                ∙ answer_between start.0 past log later of.place of.item of.at
                ∙ ap (λ state. answer_at state log of.place) (sym start.2)
                ∙ e;
          }

  -- ---- all of it

  pub are_consistent : (casts : List ActorSpec) (epochs : List (Epoch C)) → AreEpochs tells casts epochs → AreConsistent casts epochs
  are_consistent casts epochs are = record {
    in_order = λ a c. in_order_from casts epochs are a c 0;
    once = λ a c. once_from a c 0 epochs;
    whole = λ a c left e. whole_from casts epochs are a c 0 e;
    states = in_state casts epochs are;
    each = λ before after epoch parts.
        let one = is_one casts before after epoch (subst (AreEpochs tells casts) parts are) in
        let joined = one.is.joined.joined in
        record {
          so_far = λ a c cast at. whole_from casts before one.first a c 0 (ap (cast_at a) (sym one.here) ∙ at);
          opened = λ a cast at. in_state casts before one.first a cast (ap (cast_at a) (sym one.here) ∙ at);
          as_submitted = joined.consistent.as_submitted;
          ended = λ a killed. ended_in after epoch one a killed;
          goes_on = λ a end at alive. other_is_left joined a end at alive;
          answered = joined.answered;
          answers = λ c k answer kept lives. answer_in casts before after epoch one c k answer (joined.consistent.answers c k answer kept lives);
          deaths = joined.consistent.deaths;
          never_ran = joined.ran;
        };
  }

  -- ---- a kind of one's own

  pub over_epochs_keeps : {S : Type 0} (step : StepOf S) (written : S → List ℕ) (holds : List (Ask × Answer) → S → Type 0) → IsKept step holds →
      (casts : List ActorSpec) (epochs : List (Epoch C)) → AreEpochs tells casts epochs → (a : ℕ) (start : S) → OpensAt step written casts a start →
      holds [] start → CastKeeps step written holds (OwnAt (behaves step written start)) (runs a epochs) (cast_at a (casts_after casts epochs))
  over_epochs_keeps {S} step written holds kept casts epochs are a start opens_at at_first = go (cast_at a (casts_after casts epochs)) refl
    where
      go : (o : Option ActorSpec) → cast_at a (casts_after casts epochs) ≡ o
          → CastKeeps step written holds (OwnAt (behaves step written start)) (runs a epochs) o
      go None e = holds_in_each_run step written holds kept start at_first (runs a epochs)
      go (Some left) e =
          let is = opens casts epochs are a left e in
          let some : Some is.0 ≡ Some (OwnAt (behaves step written start)) = sym is.1 ∙ opens_at in
          let same : is.0 ≡ OwnAt (behaves step written start) = cc in
          let one : Left step written holds (OwnAt (behaves step written start)) (runs a epochs) =
          holds_in_each_run step written holds kept start at_first (runs a epochs) in
          record { state = one.state; is = is.2 ∙ ap (λ state. state_after state (runs a epochs)) same ∙ one.left; kept = one.kept }
