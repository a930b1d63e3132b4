-- What a caller's thread did by its plan, the caller does by its plan in the play.
use Rattle.act_executor.proofs.Common.{◌≡◌, ℕ, ◌==◌, Bool, true, false, cond, List, [], ◌∷◌, ◌++◌, Option, Some, None, inl, inr, refl, ap, sym, ◌∙◌, subst, All}
use Rattle.act_executor.proofs.Common.{append_assoc, append-nil, filter_map, is_some, AllByRecursion, AllZip, cons_option, All-from_recursion}
use Rattle.act_executor.proofs.Common.{recursion_from_All, filter_map-append, Answered, Death, Event, Step, history, ActorSpec, History, kept_at, OwnerView}
use Rattle.act_executor.proofs.Common.{is_known_dead, Copied, Released, Submitted, Noticed, Site, Action, Caller, Actor, action_at, actions_of, opened_of}
use Rattle.act_executor.proofs.Common.{owner_by, IsEventOf, CallTaken, NoteTaken, KillAsked, after_actions, KeepsAnswers, EachFront, step_of, DoesStepIn}
use Rattle.act_executor.proofs.Common.{DoesPlanIn, DoesPlan, death_listed, CallRun, DeathTold, KillTaken, Retirement, Sent, SubmitStep, CopyStep, ReleaseStep}
use Rattle.act_executor.proofs.Common.{KillStep, AwaitStep, IsMeanwhileStep, deed_is}
use Rattle.act_executor.specs.PlanPlays.{IsMeanwhile}
use Rattle.act_causes.proofs.Made.{owner_then}

-- ---- cuts of what a filter keeps

record IsCutIn {A B : Type 0} (f : A → Option B) (xs : List A) (ys zs : List B) : Type 0 where
  first : List A
  later : List A
  whole : xs ≡ first ++ later
  first_is : filter_map f first ≡ ys
  later_is : filter_map f later ≡ zs

record IsCutBy {A B : Type 0} (f : A → Option B) (xs : List A) (ys : List B) (y : B) (zs : List B) : Type 0 where
  first : List A
  one : A
  later : List A
  whole : xs ≡ first ++ one ∷ later
  first_is : filter_map f first ≡ ys
  one_is : f one ≡ Some y
  later_is : filter_map f later ≡ zs

module _ {A B : Type 0} (f : A → Option B) where
  more_in : {o : Option B} (x : A) (xs : List A) {ys : List B} (zs : List B) → f x ≡ o → IsCutIn f xs ys zs → IsCutIn f (x ∷ xs) (cons_option o ys) zs
  more_in {o} x xs zs is cut = record {
    first = x ∷ cut.first;
    later = cut.later;
    whole = ap (λ l. x ∷ l) cut.whole;
    first_is = ap (λ p. cons_option p (filter_map f cut.first)) is ∙ ap (cons_option o) cut.first_is;
    later_is = cut.later_is;
  }

  more_by : {o : Option B} (x : A) {xs : List A} {ys : List B} (y : B) {zs : List B} → f x ≡ o → IsCutBy f xs ys y zs →
      IsCutBy f (x ∷ xs) (cons_option o ys) y zs
  more_by {o} x y is cut = record {
    first = x ∷ cut.first;
    one = cut.one;
    later = cut.later;
    whole = ap (λ l. x ∷ l) cut.whole;
    first_is = ap (λ p. cons_option p (filter_map f cut.first)) is ∙ ap (cons_option o) cut.first_is;
    one_is = cut.one_is;
    later_is = cut.later_is;
  }

  cut_in : (xs : List A) (ys zs : List B) → filter_map f xs ≡ ys ++ zs → IsCutIn f xs ys zs
  cut_in xs [] zs e = record { first = []; later = xs; whole = refl; first_is = refl; later_is = e }
  cut_in [] (y ∷ ys) zs e = let bad : [] ≡ y ∷ (ys ++ zs) = e in cc
  cut_in (x ∷ xs) (y ∷ ys) zs e = go (f x) refl e (cut_in xs (y ∷ ys) zs) (cut_in xs ys zs)
    where
      go : (o : Option B) → f x ≡ o → cons_option o (filter_map f xs) ≡ y ∷ (ys ++ zs)
          → (filter_map f xs ≡ y ∷ (ys ++ zs) → IsCutIn f xs (y ∷ ys) zs) → (filter_map f xs ≡ ys ++ zs → IsCutIn f xs ys zs) → IsCutIn f (x ∷ xs) (y ∷ ys) zs
      go None is e same less = more_in x xs zs is (same e)
      go (Some b) is e same less =
          let head : b ≡ y = cc in let tail : filter_map f xs ≡ ys ++ zs = cc in
          subst (λ z. IsCutIn f (x ∷ xs) (z ∷ ys) zs) head (more_in x xs zs is (less tail))

  cut_by : (xs : List A) (ys : List B) (y : B) (zs : List B) → filter_map f xs ≡ ys ++ y ∷ zs → IsCutBy f xs ys y zs
  cut_by [] [] y zs e = let bad : [] ≡ y ∷ zs = e in cc
  cut_by [] (z ∷ ys) y zs e = let bad : [] ≡ z ∷ (ys ++ y ∷ zs) = e in cc
  cut_by (x ∷ xs) [] y zs e = go (f x) refl e (cut_by xs [] y zs)
    where
      go : (o : Option B) → f x ≡ o → cons_option o (filter_map f xs) ≡ y ∷ zs → (filter_map f xs ≡ y ∷ zs → IsCutBy f xs [] y zs) → IsCutBy f (x ∷ xs) [] y zs
      go None is e same = more_by x y is (same e)
      go (Some b) is e same =
          let head : b ≡ y = cc in let tail : filter_map f xs ≡ zs = cc in
          record { first = []; one = x; later = xs; whole = refl; first_is = refl; one_is = is ∙ ap (λ z. Some z) head; later_is = tail }
  cut_by (x ∷ xs) (w ∷ ys) y zs e = go (f x) refl e (cut_by xs (w ∷ ys) y zs) (cut_by xs ys y zs)
    where
      go : (o : Option B) → f x ≡ o → cons_option o (filter_map f xs) ≡ w ∷ (ys ++ y ∷ zs) → (filter_map f xs ≡ w ∷ (ys ++ y ∷ zs) →
          IsCutBy f xs (w ∷ ys) y zs) → (filter_map f xs ≡ ys ++ y ∷ zs → IsCutBy f xs ys y zs) → IsCutBy f (x ∷ xs) (w ∷ ys) y zs
      go None is e same less = more_by x y is (same e)
      go (Some b) is e same less =
          let head : b ≡ w = cc in let tail : filter_map f xs ≡ ys ++ y ∷ zs = cc in
          subst (λ z. IsCutBy f (x ∷ xs) (z ∷ ys) y zs) head (more_by x y is (less tail))

-- ---- while the caller only sends and collects

-- whether the caller only sends or collects
abbrev IsQuiet : Option Action → Type 0
IsQuiet None = Unit {0}
IsQuiet (Some step) = IsMeanwhileStep step

-- a step that is neither is no deed of the caller's
not_quiet : (b : Bool) (step : Action) (planned : Step) → (IsMeanwhileStep step → ⊥) → IsQuiet (cond b (Some step) None) → cond b (Some planned) None ≡ None
not_quiet true step planned never quiet = absurd (never quiet)
not_quiet false step planned never quiet = refl

quiet_event : (c : ℕ) (h : History) (deed : Site × Action) (event : Event) → IsEventOf h deed event → IsQuiet (action_at (Caller c) deed) →
    step_of c event ≡ None
quiet_event c h (Caller d, Copied a) event is quiet = ap (step_of c) is ∙ not_quiet (d == c) (Copied a) (CopyStep a) (λ no. no) quiet
quiet_event c h (Caller d, Released a) event is quiet = ap (step_of c) is ∙ not_quiet (d == c) (Released a) (ReleaseStep a) (λ no. no) quiet
quiet_event c h (Caller d, Submitted a method args) event is quiet =
    ap (step_of c) is ∙ not_quiet (d == c) (Submitted a method args) (SubmitStep a method args) (λ no. no) quiet
quiet_event c h (Caller d, KillAsked a) event is quiet = ap (step_of c) is ∙ not_quiet (d == c) (KillAsked a) (KillStep a) (λ no. no) quiet
quiet_event c h (Caller d, Noticed (Answered reply)) event is quiet = ap (step_of c) is.1
quiet_event c h (Caller d, Noticed (Death a)) event is quiet = ap (step_of c) is.1
quiet_event c h (Actor a, CallTaken packet) event is quiet = ap (step_of c) is.1
quiet_event c h (Actor a, NoteTaken note) event is quiet = ap (step_of c) is.1
quiet_event c h (Caller d, Sent k) event is quiet = ap (step_of c) is
quiet_event c h (Actor a, CallRun item) event is quiet = ap (step_of c) is
quiet_event c h (Actor a, KillTaken asker note) event is quiet = ap (step_of c) is
quiet_event c h (Actor a, DeathTold d) event is quiet = ap (step_of c) is
quiet_event c h (Actor a, Retirement) event is quiet = ap (step_of c) is
quiet_event c h deed event is quiet = absurd is

-- ---- cuts of the deeds and their events

record IsCutAt (casts : List ActorSpec) (h : History) (before : List (Site × Action)) (first : List Event) (deeds later : List (Site × Action))
    (events : List Event) : Type 0 where
  done : List Event
  rest : List Event
  whole : events ≡ done ++ rest
  steps : AllZip (IsEventOf h) deeds done
  rest_steps : AllZip (IsEventOf h) later rest
  fronts : EachFront casts (before ++ deeds) (first ++ done) later rest

cut_at : (casts : List ActorSpec) (h : History) (before : List (Site × Action)) (first : List Event) (deeds later : List (Site × Action)) (events : List Event)
    → AllZip (IsEventOf h) (deeds ++ later) events → EachFront casts before first (deeds ++ later) events → IsCutAt casts h before first deeds later events
cut_at casts h before first [] later events steps fronts = record {
  done = [];
  rest = events;
  whole = refl;
  steps = tt;
  rest_steps = steps;
  fronts = subst (λ l. EachFront casts l (first ++ []) later events) (sym (append-nil before))
      (subst (λ l. EachFront casts before l later events) (sym (append-nil first)) fronts);
}
cut_at casts h before first (deed ∷ deeds) later [] steps fronts = absurd steps
cut_at casts h before first (deed ∷ deeds) later (event ∷ events) steps fronts =
    let cut = cut_at casts h (before ++ deed ∷ []) (first ++ event ∷ []) deeds later events steps.1 fronts.1 in
    record {
      done = event ∷ cut.done;
      rest = cut.rest;
      whole = ap (λ l. event ∷ l) cut.whole;
      steps = (steps.0, cut.steps);
      rest_steps = cut.rest_steps;
      fronts = subst (λ l. EachFront casts l (first ++ event ∷ cut.done) later cut.rest) (append_assoc before (deed ∷ []) deeds)
          (subst (λ l. EachFront casts ((before ++ deed ∷ []) ++ deeds) l later cut.rest) (append_assoc first (event ∷ []) cut.done) cut.fronts);
    }

keeps_here : (casts : List ActorSpec) (before : List (Site × Action)) (first : List Event) (deeds : List (Site × Action)) (events : List Event) →
    EachFront casts before first deeds events → KeepsAnswers casts before first
keeps_here casts before first [] [] fronts = fronts
keeps_here casts before first [] (event ∷ events) fronts = absurd fronts
keeps_here casts before first (deed ∷ deeds) [] fronts = absurd fronts
keeps_here casts before first (deed ∷ deeds) (event ∷ events) fronts = fronts.0

quiet_all : (c : ℕ) (h : History) (deeds : List (Site × Action)) (events : List Event) → AllZip (IsEventOf h) deeds events
    → AllByRecursion IsMeanwhileStep (actions_of (Caller c) deeds) → AllByRecursion (λ event. step_of c event ≡ None) events
quiet_all c h [] [] steps quiet = tt
quiet_all c h [] (event ∷ events) steps quiet = absurd steps
quiet_all c h (deed ∷ deeds) [] steps quiet = absurd steps
quiet_all c h (deed ∷ deeds) (event ∷ events) steps quiet = go (action_at (Caller c) deed) refl quiet (quiet_all c h deeds events steps.1)
  where
    go : (o : Option Action) → action_at (Caller c) deed ≡ o → AllByRecursion IsMeanwhileStep (cons_option o (actions_of (Caller c) deeds))
        → (AllByRecursion IsMeanwhileStep (actions_of (Caller c) deeds) → AllByRecursion (λ event. step_of c event ≡ None) events)
        → AllByRecursion (λ event. step_of c event ≡ None) (event ∷ events)
    go None is quiet rest = (quiet_event c h deed event steps.0 (subst IsQuiet (sym is) tt), rest quiet)
    go (Some step) is quiet rest = (quiet_event c h deed event steps.0 (subst IsQuiet (sym is) quiet.0), rest quiet.1)

meanwhile : (c : ℕ) (h : History) (deeds : List (Site × Action)) (events : List Event) (steps : List Action) → AllZip (IsEventOf h) deeds events
    → actions_of (Caller c) deeds ≡ steps → All IsMeanwhileStep steps → IsMeanwhile c events
meanwhile c h deeds events steps zip is quiet = All-from_recursion (λ event. step_of c event ≡ None) events
    (quiet_all c h deeds events zip (subst (AllByRecursion IsMeanwhileStep) (sym is) (recursion_from_All IsMeanwhileStep steps quiet)))

-- ---- the plan

module _ (casts : List ActorSpec) (c : ℕ) (h : History) where
  -- where the play stands: after these deeds, which are these events, the caller has these steps before it
  pub record Stands (owner : OwnerView) (before : List (Site × Action)) (first : List Event) (steps : List Action) (events : List Event) : Type 0 where
    pub deeds : List (Site × Action)
    pub owner_is : owner_by casts c before ≡ owner
    pub own : actions_of (Caller c) deeds ≡ steps
    pub zip : AllZip (IsEventOf h) deeds events
    pub fronts : EachFront casts before first deeds events

  -- after some steps by which it only sent and collected
  record Spares (owner : OwnerView) (first : List Event) (skipped later : List Action) (events : List Event) : Type 0 where
    deeds : List (Site × Action)
    done : List Event
    rest : List Event
    whole : events ≡ done ++ rest
    quiet : IsMeanwhile c done
    known : KeepsAnswers casts deeds (first ++ done)
    owner_is : owner_by casts c deeds ≡ after_actions owner skipped
    next : Stands (after_actions owner skipped) deeds ((first ++ done) ++ []) later rest

  -- and after a step more
  record Acts (owner : OwnerView) (first : List Event) (skipped : List Action) (step : Action) (later : List Action) (events : List Event) : Type 0 where
    deeds : List (Site × Action)
    done : List Event
    one : Event
    rest : List Event
    whole : events ≡ done ++ one ∷ rest
    quiet : IsMeanwhile c done
    is : IsEventOf h (Caller c, step) one
    next : Stands (after_actions owner (skipped ++ step ∷ [])) deeds ((first ++ done) ++ one ∷ []) later rest

  spares : (owner : OwnerView) (before : List (Site × Action)) (first : List Event) (skipped later : List Action) (events : List Event) →
      Stands owner before first (skipped ++ later) events → All IsMeanwhileStep skipped → Spares owner first skipped later events
  spares owner before first skipped later events stands quiet =
      let by = cut_in (action_at (Caller c)) stands.deeds skipped later stands.own in
      let cut = cut_at casts h before first by.first by.later events (subst (λ l. AllZip (IsEventOf h) l events) by.whole stands.zip)
      (subst (λ l. EachFront casts before first l events) by.whole stands.fronts) in
      let owner_is : owner_by casts c (before ++ by.first) ≡ after_actions owner skipped =
      owner_then casts c before by.first ∙ ap (λ o. after_actions o (actions_of (Caller c) by.first)) stands.owner_is
      ∙ ap (after_actions owner) by.first_is in
      record {
        deeds = before ++ by.first;
        done = cut.done;
        rest = cut.rest;
        whole = cut.whole;
        quiet = meanwhile c h by.first cut.done skipped cut.steps by.first_is quiet;
        known = keeps_here casts (before ++ by.first) (first ++ cut.done) by.later cut.rest cut.fronts;
        owner_is = owner_is;
        next = record {
          deeds = by.later;
          owner_is = owner_is;
          own = by.later_is;
          zip = cut.rest_steps;
          fronts = subst (λ l. EachFront casts (before ++ by.first) l by.later cut.rest) (sym (append-nil (first ++ cut.done))) cut.fronts;
        };
      }

  acts : (owner : OwnerView) (before : List (Site × Action)) (first : List Event) (skipped : List Action) (step : Action) (later : List Action) (events : List
      Event) → Stands owner before first ((skipped ++ step ∷ []) ++ later) events → All IsMeanwhileStep skipped → Acts owner first skipped step later events
  acts owner before first skipped step later events stands quiet = go cut.rest refl
    where
      by : IsCutBy (action_at (Caller c)) stands.deeds skipped step later
      by = cut_by (action_at (Caller c)) stands.deeds skipped step later (stands.own ∙ append_assoc skipped (step ∷ []) later)

      cut : IsCutAt casts h before first by.first (by.one ∷ by.later) events
      cut = cut_at casts h before first by.first (by.one ∷ by.later) events (subst (λ l. AllZip (IsEventOf h) l events) by.whole stands.zip)
          (subst (λ l. EachFront casts before first l events) by.whole stands.fronts)

      steps_are : actions_of (Caller c) (by.first ++ by.one ∷ []) ≡ skipped ++ step ∷ []
      steps_are = filter_map-append (action_at (Caller c)) by.first (by.one ∷ []) ∙ ap (λ l. l ++ cons_option (action_at (Caller c) by.one) []) by.first_is ∙
          ap (λ o. skipped ++ cons_option o []) by.one_is

      owner_is : owner_by casts c ((before ++ by.first) ++ by.one ∷ []) ≡ after_actions owner (skipped ++ step ∷ [])
      owner_is = ap (owner_by casts c) (append_assoc before by.first (by.one ∷ [])) ∙ owner_then casts c before (by.first ++ by.one ∷ []) ∙
          ap (λ o. after_actions o (actions_of (Caller c) (by.first ++ by.one ∷ []))) stands.owner_is ∙ ap (after_actions owner) steps_are

      go : (rest : List Event) → cut.rest ≡ rest → Acts owner first skipped step later events
      go [] is = absurd (subst (AllZip (IsEventOf h) (by.one ∷ by.later)) is cut.rest_steps)
      go (event ∷ rest) is =
          let zip : AllZip (IsEventOf h) (by.one ∷ by.later) (event ∷ rest) = subst (AllZip (IsEventOf h) (by.one ∷ by.later)) is cut.rest_steps in
          let fronts : EachFront casts (before ++ by.first) (first ++ cut.done) (by.one ∷ by.later) (event ∷ rest) =
          subst (EachFront casts (before ++ by.first) (first ++ cut.done) (by.one ∷ by.later)) is cut.fronts in
          record {
            deeds = (before ++ by.first) ++ by.one ∷ [];
            done = cut.done;
            one = event;
            rest = rest;
            whole = cut.whole ∙ ap (λ l. cut.done ++ l) is;
            quiet = meanwhile c h by.first cut.done skipped cut.steps by.first_is quiet;
            is = subst (λ deed. IsEventOf h deed event) (deed_is (Caller c) by.one step by.one_is) zip.0;
            next = record { deeds = by.later; owner_is = owner_is; own = by.later_is; zip = zip.1; fronts = fronts.1 };
          }

  -- where the steps are cut so
  cut_so : {owner : OwnerView} {before : List (Site × Action)} {first : List Event} {steps done skipped : List Action} (later : List Action)
      {events : List Event} → Stands owner before first steps events → steps ≡ done ++ later → done ≡ skipped →
      Stands owner before first (skipped ++ later) events
  cut_so {owner} {before} {first} later {events} stands whole is = subst (λ l. Stands owner before first l events) (whole ∙ ap (λ l. l ++ later) is) stands

  -- the later steps, from where they stand
  abbrev GoesOn : List Step → OwnerView → List Action → Type 0
  GoesOn plan owner later = (deeds : List (Site × Action)) (first rest : List Event) → Stands owner deeds first later rest → DoesPlanIn casts c plan first rest

  -- a step is done
  acted : (step : Step) (plan : List Step) (owner : OwnerView) (before : List (Site × Action)) (first : List Event) (skipped : List Action) (own : Action)
      (later : List Action) (events : List Event) → ((done : List Event) (event : Event) → IsEventOf h (Caller c, own) event →
      DoesStepIn casts c step done (event ∷ [])) → Stands owner before first ((skipped ++ own ∷ []) ++ later) events → All IsMeanwhileStep skipped →
      GoesOn plan (after_actions owner (skipped ++ own ∷ [])) later → DoesPlanIn casts c (step ∷ plan) first events
  acted step plan owner before first skipped own later events does stands quiet more =
      let a = acts owner before first skipped own later events stands quiet in (
        a.done,
        a.one ∷ [],
        a.rest,
        a.whole ∙ sym (append_assoc a.done (a.one ∷ []) a.rest),
        a.quiet,
        does (first ++ a.done) a.one a.is,
        more a.deeds ((first ++ a.done) ++ a.one ∷ []) a.rest a.next,
      )

  -- nothing is done for a step
  spared : (step : Step) (plan : List Step) (owner : OwnerView) {before : List (Site × Action)} (first : List Event) (skipped later : List Action)
      {events : List Event} → ((deeds : List (Site × Action)) (done : List Event) → KeepsAnswers casts deeds done →
      owner_by casts c deeds ≡ after_actions owner skipped → DoesStepIn casts c step done []) → Stands owner before first (skipped ++ later) events →
      All IsMeanwhileStep skipped → GoesOn plan (after_actions owner skipped) later → DoesPlanIn casts c (step ∷ plan) first events
  spared step plan owner {before} first skipped later {events} does stands quiet more =
      let s = spares owner before first skipped later events stands quiet in (
        s.done,
        [],
        s.rest,
        s.whole ∙ sym (append_assoc s.done [] s.rest),
        s.quiet,
        does s.deeds (first ++ s.done) s.known s.owner_is,
        more s.deeds ((first ++ s.done) ++ []) s.rest s.next,
      )

  pub does_plan : (plan : List Step) (owner : OwnerView) (before : List (Site × Action)) (first : List Event) (steps : List Action) (events : List Event) →
      Stands owner before first steps events → DoesPlan owner plan steps → DoesPlanIn casts c plan first events
  does_plan [] owner before first steps events stands does = meanwhile c h stands.deeds events steps stands.zip stands.own does
  does_plan (SubmitStep a method args ∷ plan) owner before first steps events stands (skipped, done, later, quiet, does, whole, more) =
      acted (SubmitStep a method args) plan owner before first skipped (Submitted a method args) later events
      (λ first event is. ap (λ e. e ∷ []) is) (cut_so later stands whole does) quiet
      (λ deeds first rest stands. does_plan plan _ deeds first later rest stands (subst (λ l. DoesPlan (after_actions owner l) plan later) does more))
  does_plan (CopyStep a ∷ plan) owner before first steps events stands (skipped, done, later, quiet, does, whole, more) =
      acted (CopyStep a) plan owner before first skipped (Copied a) later events
      (λ first event is. ap (λ e. e ∷ []) is) (cut_so later stands whole does) quiet
      (λ deeds first rest stands. does_plan plan _ deeds first later rest stands (subst (λ l. DoesPlan (after_actions owner l) plan later) does more))
  does_plan (ReleaseStep a ∷ plan) owner before first steps events stands (skipped, done, later, quiet, does, whole, more) =
      acted (ReleaseStep a) plan owner before first skipped (Released a) later events
      (λ first event is. ap (λ e. e ∷ []) is) (cut_so later stands whole does) quiet
      (λ deeds first rest stands. does_plan plan _ deeds first later rest stands (subst (λ l. DoesPlan (after_actions owner l) plan later) does more))
  does_plan (KillStep a ∷ plan) owner before first steps events stands (skipped, done, later, quiet, does, whole, more) = elim does [
    | inl unasked ↦ spared (KillStep a) plan owner first skipped later
        (λ deeds first known is. inr (refl, death_listed c a (history casts first).collected (known.deaths c a (ap (λ o. is_known_dead o a) is ∙ unasked.1))))
        (cut_so later stands whole unasked.0) quiet
        (λ deeds first rest stands. does_plan plan _ deeds first later rest stands (subst (λ l. DoesPlan (after_actions owner l) plan later) unasked.0 more))
    | inr asked ↦ acted (KillStep a) plan owner before first skipped (KillAsked a) later events
        (λ first event is. inl (ap (λ e. e ∷ []) is)) (cut_so later stands whole asked) quiet
        (λ deeds first rest stands. does_plan plan _ deeds first later rest stands (subst (λ l. DoesPlan (after_actions owner l) plan later) asked more))
  ]
  does_plan (AwaitStep k ∷ plan) owner before first steps events stands (skipped, done, later, quiet, does, whole, more) =
      spared (AwaitStep k) plan owner first skipped later
      (λ deeds first known is. (refl, ap (λ l. is_some (kept_at l k)) (known.kept c ∙ ap (λ (o : OwnerView). o.kept) is) ∙ does.1))
      (cut_so later stands whole does.0) quiet
      (λ deeds first rest stands. does_plan plan _ deeds first later rest stands (subst (λ l. DoesPlan (after_actions owner l) plan later) does.0 more))

-- a caller whose deeds in the list are the steps by which its thread did a plan does the plan in the play
pub plan_in_play : (casts : List ActorSpec) (c : ℕ) (h : History) (deeds : List (Site × Action)) (events : List Event) {steps : List Action} (plan : List Step)
    → AllZip (IsEventOf h) deeds events → EachFront casts [] [] deeds events → actions_of (Caller c) deeds ≡ steps → DoesPlan (opened_of c casts) plan steps
    → DoesPlanIn casts c plan [] events
plan_in_play casts c h deeds events {steps} plan zip fronts own does =
    does_plan casts c h plan (opened_of c casts) [] [] steps events (record { deeds = deeds; owner_is = refl; own = own; zip = zip; fronts = fronts }) does
