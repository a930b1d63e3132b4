-- That what a run leaves fits the casts and plans that it was given.
use Rattle.act_executor.proofs.Common.{◌≡◌, ℕ, ◌+◌, ◌∷◌, ◌++◌, true, false, List, [], length, map, get_or, slice_get, Some, sym, ap, ◌∙◌, subst, refl, arith}
use Rattle.act_executor.proofs.Common.{All, AllPairs, Contains, ◌≢◌, option_map, range_with_len, list_any, Vec, map-map, length-map, All-map}
use Rattle.act_executor.proofs.Common.{length-range_with_len, slice_get_within, slice_get-map, get_or_from_slice_get, KindState, Step, IsPrefix, ActorSpec}
use Rattle.act_executor.proofs.Common.{contains, actors_naming, MAX_ACTORS, MAX_CALLERS, one_to, map-slice_get, element, AllPairs-map, list_any-map, OwnerView}
use Rattle.act_executor.proofs.Common.{opened_under, Cast, IsFitting, actor_spec, Asked, items_from, PutterView, MailView, ControlView, asker_of, starter}
use Rattle.act_executor.proofs.Common.{RepliesView, Endpoint, Finished, EndView, end_view, end_id, caller_at, IsActorTraced, Driven, HasDonePlan, CallerSetup}
use Rattle.act_executor.proofs.Common.{Prepared, SessionView, by_rising_actor, limits_naming, callers_of_casts, actors_of_casts, cast_at, plan_of, setups_view}
use Rattle.act_executor.proofs.Common.{plans_are, actors_are, limits_are, actors_view, each_cast_view, pairs_of_map, IsJoined, is_starved, ServedView, IsServed}
use Rattle.act_executor.proofs.Common.{IsDriven, AreAudited, AreCasts, AreJoined, code_of, opened_of, IsDrivenBy, AreJoinedBy, IsJoinedBy, IsPlayedBy, IsPlayed}
use Rattle.act_executor.proofs.Common.{IsPlayedAsPlanned, SpecsFit, Joined, KillTold, CallerTold, NoticeTold, ActorLeft, left_of, IsUnusedStarter, Doing}
use Rattle.act_executor.proofs.Common.{does_code, CodesFit, HasRun, HasRunPlans, IsPrepared, plan_view, as_long, at_other, all_at, all_by_places, range_at}
use Rattle.act_executor.proofs.PlaysOfThreads.HaveTraces.{HaveTraces, traced_moved}
use Rattle.act_executor.proofs.EndsOfRuns.Ends.{joined as joined_is}
use Rattle.act_executor.proofs.EndsOfRuns.ByCode.{steps as steps_by, are_joined as joined_by, are_traced as traced_by, is_joined_by as joined_by_is}
use Rattle.act_executor.proofs.OpenLines.SpecsFit.{specs_fit}
use Rattle.act_executor.proofs.PlaysOfPlans.PlanPlayed.{never_ran, as_planned}
use Rattle.act_executor.proofs.OpenLines.Settled.{seen_through}
use Rattle.act_executor.proofs.OpenLines.Actors.{served_view, is_served, notices_audited, same_id}
use Rattle.act_executor.proofs.OpenLines.Callers.{caller_is, is_driven, letters_audited, kills_audited}
use Rattle.act_executor.proofs.OpenLines.Prepared.{maps_agree, ActorAt, actor_at, CallerAt, caller_at as caller_there}

front_none : {X : Type 0} (xs : List X) → IsPrefix xs [] → xs ≡ []
front_none [] front = refl
front_none (x ∷ xs) front = let none : length (x ∷ xs ++ front.0) ≡ 0 = ap length front.1 in absurd (omega (arith, none))

abbrev KillEndpoint : Type 0
KillEndpoint = Endpoint (PutterView Asked ℕ)

module _ {K L : Type 0} (state : K → KindState) (does : ℕ → Doing) (casts : List (Cast K)) (plans : List (ℕ × Vec Step)) (joined : Joined K L)
    (fit : IsFitting casts) (ran : HasRun state does casts plans joined) where
  abbrev prepared : Prepared K
  prepared = ran.prepared

  abbrev is : IsPrepared state casts plans prepared
  is = ran.is

  abbrev run : HasRunPlans state does prepared joined
  run = ran.run

  abbrev seen : List ActorSpec
  seen = map (actor_spec state) casts

  abbrev lines : Rattle.act_executor.specs.declared.open.Lines.Lines
  lines = run.opened.lines

  abbrev now : List (Cast K)
  now = prepared.casts.items

  abbrev setups : List CallerSetup
  setups = prepared.setups.items

  abbrev actors : List (Finished K L)
  actors = run.ends.actors.items

  abbrev last : List (Finished K L)
  last = joined.actors.items

  abbrev callers : List Driven
  callers = run.ends.callers.items

  abbrev at_actor : (j : ℕ) (a : Finished K L) → slice_get actors j ≡ Some a → ActorAt state now setups run.opened run.opening actors run.served j a
  at_actor j a at = actor_at state now setups run.opened run.opening actors run.served j a at

  abbrev at_caller : (i : ℕ) (d : Driven) → slice_get callers i ≡ Some d → CallerAt state now setups run.opened run.opening does callers run.driven i d
  at_caller i d at = caller_there state now setups run.opened run.opening does callers run.driven i d at

  -- the actor before the comparison
  before : (j : ℕ) (f : Finished K L) → slice_get last j ≡ Some f → (a : Finished K L) × (slice_get actors j ≡ Some a) × (left_of f ≡ left_of a)
  before j f at = let o = at_other left_of left_of actors last (sym run.compared.same) j at in (o.0, o.1, sym o.2)

  casts_are : AreCasts seen
  casts_are = record {
    differ = AllPairs-map (λ (one other : ActorSpec). one.actor ≢ other.actor) (actor_spec state) casts fit.actors;
    actors = All-map (λ (cast : ActorSpec). Contains (one_to MAX_ACTORS) cast.actor) (actor_spec state) casts (λ k d lt. (is.numbers k d lt).actor);
    callers = All-map (λ (cast : ActorSpec). All (λ c. Contains (one_to MAX_CALLERS) c) cast.callers) (actor_spec state) casts
        (λ k d lt. (is.numbers k d lt).callers);
  }

  owners_are : map (λ (d : Driven). d.owner.id) callers ≡ callers_of_casts seen
  owners_are = maps_agree (λ (d : Driven). d.owner.id) (λ (setup : CallerSetup). setup.caller) callers setups run.driven.long
      (λ i d setup at there. let one = at_caller i d at in let both : Some one.setup ≡ Some setup = sym one.at_setup ∙ there in let same : one.setup ≡ setup =
      cc in caller_is lines (does one.setup.caller) one.setup one.caller d one.is (run.driven.each i one.setup one.caller d one.at_setup one.at_caller at) ∙
      ap (λ (p : CallerSetup). p.caller) same)
      ∙ setups_view state casts plans setups is.setups_are

  actors_are_now : map (λ (a : Finished K L). end_id (end_view state a.ended)) actors ≡ map (λ (cast : Cast K). cast.actor) now
  actors_are_now = maps_agree (λ (a : Finished K L). end_id (end_view state a.ended)) (λ (cast : Cast K). cast.actor) actors now run.served.long
      (λ j a cast at there. let one = at_actor j a at in let both : Some one.cast ≡ Some cast = sym one.at_cast ∙ there in let same : one.cast ≡ cast = cc in
      (run.served.each j one.cast one.exec a one.at_cast one.at_exec at).id ∙ ap (λ (c : Cast K). c.actor) same)

  ends_are : map (λ (s : ServedView). end_id s.end) (map (served_view state) last) ≡ actors_of_casts seen
  ends_are = map-map (λ (s : ServedView). end_id s.end) (served_view state) last ∙ seen_through (λ (l : ActorLeft K L). end_id (end_view state l.ended)) last
      actors run.compared.same ∙ actors_are_now ∙ ap (map (λ (cast : Cast K). cast.actor)) is.rising ∙ actors_view state casts

  -- the cast of an actor is the one that was given for it
  cast_is : (j : ℕ) (cast : Cast K) → slice_get now j ≡ Some cast → cast_at cast.actor seen ≡ Some (actor_spec state cast)
  cast_is j cast at = all_at (λ (c : Cast K). cast_at c.actor seen ≡ Some (actor_spec state c)) (by_rising_actor casts) j (each_cast_view state casts)
      (ap (λ l. slice_get l j) (sym is.rising) ∙ at)

  -- an actor at its end: the thread's, and what was compared
  record End (j : ℕ) (s : ServedView) : Type 0 where
    f : Finished K L
    s_is : s ≡ served_view state f
    at_f : slice_get last j ≡ Some f
    a : Finished K L
    at_a : slice_get actors j ≡ Some a
    same : left_of f ≡ left_of a
    there : ActorAt state now setups run.opened run.opening actors run.served j a

  end_at : (j : ℕ) (s : ServedView) → slice_get (map (served_view state) last) j ≡ Some s → End j s
  end_at j s at =
      let m = map-slice_get (served_view state) last j at in let b = before j m.0 m.1 in
      record { f = m.0; s_is = sym m.2; at_f = m.1; a = b.0; at_a = b.1; same = b.2; there = at_actor j b.0 b.1 }

  -- its name, and its cast
  named : (j : ℕ) (s : ServedView) → (e : End j s) → end_id s.end ≡ e.there.cast.actor
  named j s e = ap (λ (x : ServedView). end_id x.end) e.s_is ∙ same_id state lines e.there.cast e.there.exec e.a e.there.is
      (run.served.each j e.there.cast e.there.exec e.a e.there.at_cast e.there.at_exec e.at_a) e.f e.same

  own_cast : (j : ℕ) (s : ServedView) (cast : ActorSpec) → (e : End j s) → cast_at (end_id s.end) seen ≡ Some cast → actor_spec state e.there.cast ≡ cast
  own_cast j s cast e at =
      let both : Some (actor_spec state e.there.cast) ≡ Some cast =
      sym (cast_is j e.there.cast e.there.at_cast) ∙ ap (λ n. cast_at n seen) (sym (named j s e)) ∙ at in
      cc

  all_served : All (λ (s : ServedView). (cast : ActorSpec) → cast_at (end_id s.end) seen ≡ Some cast → IsServed lines.replies.items cast s)
      (map (served_view state) last)
  all_served = all_by_places (λ (s : ServedView). (cast : ActorSpec) → cast_at (end_id s.end) seen ≡ Some cast → IsServed lines.replies.items cast s)
      (map (served_view state) last) (λ j s at cast of. let e = end_at j s at in let is = is_served state lines e.there.cast e.there.exec e.a e.there.is
      (run.served.each j e.there.cast e.there.exec e.a e.there.at_cast e.there.at_exec e.at_a) e.f e.same in subst (λ x. IsServed lines.replies.items cast x)
      (sym e.s_is) (subst (λ c. IsServed lines.replies.items c (served_view state e.f)) (own_cast j s cast e of) is))

  -- a caller did some steps to the end, and they are what was to be done
  pub record Did (d : Driven) : Type 0 where
    pub steps : List Step
    pub did : IsDriven lines.mails.items lines.controls.items (actors_naming d.owner.id seen) steps d
    pub does_so : does d.owner.id (plan_of d.owner.id (map plan_view plans)) steps (opened_of d.owner.id seen) d.owner
    pub traced : HasDonePlan lines.controls.items (opened_of d.owner.id seen) d.owner steps d.passes

  did_at : (i : ℕ) (d : Driven) → slice_get callers i ≡ Some d → Did d
  did_at i d at =
      let one = at_caller i d at in
      let drove = run.driven.each i one.setup one.caller d one.at_setup one.at_caller at in
      let id : d.owner.id ≡ one.setup.caller = caller_is lines (does one.setup.caller) one.setup one.caller d one.is drove in
      let known = all_at (λ (setup : CallerSetup). setup.actors.items ≡ actors_naming setup.caller seen) setups i
      (actors_are state casts plans setups is.setups_are) one.at_setup in
      let limited = all_at (λ (setup : CallerSetup). setup.limits.items ≡ limits_naming setup.caller seen) setups i
      (limits_are state casts plans setups is.setups_are) one.at_setup in
      let planned = all_at (λ (setup : CallerSetup). setup.plan.items ≡ plan_of setup.caller (map plan_view plans)) setups i
      (plans_are state casts plans setups is.setups_are) one.at_setup in
      let fed = all_at (λ (c : Driven). c.starved ≡ false) callers i run.compared.fed_callers at in
      let actors : one.setup.actors.items ≡ actors_naming d.owner.id seen = known ∙ ap (λ n. actors_naming n seen) (sym id) in
      let limits : one.setup.limits.items ≡ limits_naming d.owner.id seen = limited ∙ ap (λ n. limits_naming n seen) (sym id) in
      let plan : one.setup.plan.items ≡ plan_of d.owner.id (map plan_view plans) = planned ∙ ap (λ n. plan_of n (map plan_view plans)) (sym id) in
      let steps = drove.driven_is.steps in let traced = drove.driven_is.driven_is.traced fed in
      let At : ℕ × List Step × OwnerView → Type 0 = λ x. does x.0 x.1 steps x.2 d.owner in
      let Traced : List ControlView × OwnerView → Type 0 = λ x. HasDonePlan x.0 x.1 d.owner steps d.passes in
      record {
        steps = steps;
        did = is_driven lines (does one.setup.caller) one.setup one.caller d one.is drove actors fed;
        does_so = subst At (λ k. (sym id k, plan k, opened_under (limits k) (sym id k) (actors k))) (drove.driven_is.does_so fed);
        traced = subst Traced (λ k. (drove.controls k, opened_under (limits k) (sym id k) (actors k))) traced;
      }

  -- each thread did its steps in order and in time
  have_traces : (steps : List (ℕ × List Step)) → All (λ (d : Driven). HasDonePlan lines.controls.items (opened_of d.owner.id seen) d.owner
      (plan_of d.owner.id steps) d.passes) callers → HaveTraces lines.controls.items lines.replies.items seen steps callers (map (served_view state) last)
  have_traces steps traced = record {
    actors = all_by_places (λ (s : ServedView). IsActorTraced (end_id s.end) lines.replies.items s.end s.passes) (map (served_view state) last)
        (λ j s at. let e = end_at j s at in let served = run.served.each j e.there.cast e.there.exec e.a e.there.at_cast e.there.at_exec e.at_a in let name =
        same_id state lines e.there.cast e.there.exec e.a e.there.is served e.f e.same in let same = sym e.same in let ended : end_view state e.a.ended ≡
        end_view state e.f.ended = ap (λ (l : ActorLeft K L). end_view state l.ended) same in subst (λ (x : ServedView). IsActorTraced
        (end_id x.end) lines.replies.items x.end x.passes) (sym e.s_is) (traced_moved e.a.passes e.f.passes (ap (λ (l : ActorLeft K L). l.letters) same)
        (ap (λ (l : ActorLeft K L). l.kills) same) (ap (λ (l : ActorLeft K L). l.notices) same) lines.replies.items (sym name) ended served.traced));
    callers = traced;
  }

  -- each caller keeps the limits of the casts
  limits : All (λ (d : Driven). d.owner.limits ≡ limits_naming d.owner.id seen) callers
  limits = all_by_places (λ (d : Driven). d.owner.limits ≡ limits_naming d.owner.id seen) callers (λ i d at. let one = at_caller i d at in let drove =
      run.driven.each i one.setup one.caller d one.at_setup one.at_caller at in let known = all_at (λ (setup : CallerSetup). setup.limits.items ≡
      limits_naming setup.caller seen) setups i (limits_are state casts plans setups is.setups_are) one.at_setup in drove.driven_is.driven_is.limits ∙ known ∙
      ap (λ n. limits_naming n seen) (sym (caller_is lines (does one.setup.caller) one.setup one.caller d one.is drove)))

  -- ---- the audits

  mail_of : (j : ℕ) (cast : Cast K) → slice_get now j ≡ Some cast → (m : MailView) → (get_or lines.mails.items j m).actor ≡ cast.actor
  mail_of j cast at m =
      let o = at_other (λ (x : MailView). x.actor) (λ (c : Cast K). c.actor) lines.mails.items now run.opening.lines.mails j at in
      ap (λ (x : MailView). x.actor) (get_or_from_slice_get lines.mails.items j o.0 m o.1) ∙ o.2

  control_of : (j : ℕ) (cast : Cast K) → slice_get now j ≡ Some cast → (k : ControlView) → (get_or lines.controls.items j k).actor ≡ cast.actor
  control_of j cast at k =
      let o = at_other (λ (x : ControlView). x.actor) (λ (c : Cast K). c.actor) lines.controls.items now run.opening.lines.controls j at in
      ap (λ (x : ControlView). x.actor) (get_or_from_slice_get lines.controls.items j o.0 k o.1) ∙ o.2

  line_of : (i : ℕ) (setup : CallerSetup) → slice_get setups i ≡ Some setup → caller_at lines.replies.items i ≡ setup.caller
  line_of i setup at =
      let o = at_other (λ (x : RepliesView). x.caller) (λ (p : CallerSetup). p.caller) lines.replies.items setups run.opening.lines.replies i at in
      let here : slice_get (map (λ (x : RepliesView). x.caller) lines.replies.items) i ≡ Some o.0.caller =
      slice_get-map (λ (x : RepliesView). x.caller) lines.replies.items i ∙ ap (option_map (λ (x : RepliesView). x.caller)) o.1 in
      get_or_from_slice_get (map (λ (x : RepliesView). x.caller) lines.replies.items) i o.0.caller 0 here ∙ o.2

  audited : (i j : ℕ) (d : Driven) (s : ServedView) (cast : ActorSpec) → slice_get callers i ≡ Some d → slice_get (map (served_view state) last) j ≡ Some s →
      cast_at (end_id s.end) seen ≡ Some cast → contains d.owner.id cast.callers ≡ true →
      AreAudited lines.mails.items lines.controls.items lines.replies.items (end_id s.end) d.owner.id d s
  audited i j d s cast at_d at_s of names =
      let e = end_at j s at_s in let one = at_caller i d at_d in
      let drove = run.driven.each i one.setup one.caller d one.at_setup one.at_caller at_d in
      let served = run.served.each j e.there.cast e.there.exec e.a e.there.at_cast e.there.at_exec e.at_a in
      let id : d.owner.id ≡ one.setup.caller = caller_is lines (does one.setup.caller) one.setup one.caller d one.is drove in
      let name : end_id s.end ≡ e.there.cast.actor = named j s e in
      let listed : contains one.setup.caller e.there.cast.callers ≡ true =
      ap (λ n. contains n e.there.cast.callers) (sym id) ∙ ap (λ (c : ActorSpec). contains d.owner.id c.callers) (own_cast j s cast e of) ∙ names in
      let pair = run.opening.paired i j e.there.cast one.setup e.there.exec one.caller e.there.at_cast one.at_setup e.there.at_exec one.at_caller listed in
      let told = all_at (CallerTold last) callers i run.compared.callers at_d in
      let notices = all_at (λ (x : Finished K L). All (NoticeTold callers) x.passes.notices.items) actors j run.compared.notices e.at_a in
      let both : AreAudited lines.mails.items lines.controls.items lines.replies.items e.there.cast.actor one.setup.caller d (served_view state e.f) = record {
        letters = letters_audited lines (does one.setup.caller) one.setup one.caller d one.is drove state j e.there.cast.actor last e.f e.at_f pair.letters
            (mail_of j e.there.cast e.there.at_cast) told.letters;
        kills = kills_audited lines (does one.setup.caller) one.setup one.caller d one.is drove state j e.there.cast.actor last e.f e.at_f pair.kills
            (control_of j e.there.cast e.there.at_cast) told.kills;
        notices = notices_audited state lines e.there.cast e.there.exec e.a e.there.is served i callers d e.f e.same pair.notices
            (line_of i one.setup one.at_setup) at_d notices;
      } in
      let At : ℕ × ℕ × ServedView → Type 0 = λ x. AreAudited lines.mails.items lines.controls.items lines.replies.items x.0 x.1 d x.2 in
      subst At (λ k. (sym name k, sym id k, sym e.s_is k)) both

  -- ---- the starter

  unasked : All (λ (s : ServedView). items_from asker_of starter s.passes.kills.taken ≡ []) (map (served_view state) last)
  unasked = all_by_places (λ (s : ServedView). items_from asker_of starter s.passes.kills.taken ≡ []) (map (served_view state) last) (λ j s at.
      let e = end_at j s at in let endpoints = run.ends.starters.items in let places = run.starters.places in let controls = lines.controls.items in
      let long : length endpoints ≡ length controls =
      sym (length-map endpoints (λ (x : KillEndpoint). x.place)) ∙ ap length places ∙ length-range_with_len 0 (length controls) in
      let lines_long = as_long (λ (x : ControlView). x.actor) (λ (c : Cast K). c.actor) controls now run.opening.lines.controls in
      let below = slice_get_within now j e.there.cast e.there.at_cast in
      let one = element endpoints j (omega (arith, long, lines_long, below)) in
      let endpoint = one.0 in
      let in_range : slice_get (range_with_len 0 (length controls)) j ≡ Some endpoint.place = ap (λ l. slice_get l j) (sym places) ∙
      slice_get-map (λ (x : KillEndpoint). x.place) endpoints j ∙ ap (option_map (λ (x : KillEndpoint). x.place)) one.1 in
      let plus : 0 + j ≡ j = omega arith in
      let place : endpoint.place ≡ j = range_at 0 (length controls) j in_range ∙ plus in
      let unused = (all_at (IsUnusedStarter controls) endpoints j run.starters.unused one.1).new (record { line = endpoint.pass.line; actor = 0 }) in
      let told = (all_at (KillTold last) endpoints j run.compared.starters one.1 e.f).front in
      let At : ℕ × ℕ × List Asked → Type 0 = λ x. IsPrefix (items_from asker_of x.0 (get_or last x.1 e.f).passes.kills.taken) x.2 in
      let front : IsPrefix (items_from asker_of starter (get_or last j e.f).passes.kills.taken) [] =
      subst At (λ k. (ap (λ (p : PutterView Asked ℕ). p.number) unused k, place k, ap (λ (p : PutterView Asked ℕ). p.put) unused k)) told in
      ap (λ (x : ServedView). items_from asker_of starter x.passes.kills.taken) e.s_is ∙
      ap (λ (x : Finished K L). items_from asker_of starter x.passes.kills.taken) (sym (get_or_from_slice_get last j e.f e.f e.at_f)) ∙ front_none _ front)

  fed : All (λ (s : ServedView). is_starved s.end ≡ false) (map (served_view state) last)
  fed = all_by_places (λ (s : ServedView). is_starved s.end ≡ false) (map (served_view state) last) (λ j s at. let e = end_at j s at in let no_want =
      all_at (λ (x : Finished K L). is_starved (end_view state x.ended) ≡ false) actors j run.compared.fed e.at_a in
      ap (λ (x : ServedView). is_starved x.end) e.s_is ∙ ap (λ (l : ActorLeft K L). is_starved (end_view state l.ended)) e.same ∙ no_want)

  -- no two of them are one caller
  differ : AllPairs (λ (one other : Driven). one.owner.id ≢ other.owner.id) callers
  differ =
      let ids : map (λ (d : Driven). d.owner.id) callers ≡ map (λ (setup : CallerSetup). setup.caller) setups =
      owners_are ∙ sym (setups_view state casts plans setups is.setups_are) in
      let apart : AllPairs (λ one other. one ≢ other) (map (λ (setup : CallerSetup). setup.caller) setups) =
      AllPairs-map (λ one other. one ≢ other) (λ (setup : CallerSetup). setup.caller) setups run.matched.setups_differ in
      pairs_of_map (λ (d : Driven). d.owner.id) callers (subst (AllPairs (λ one other. one ≢ other)) (sym ids) apart)

  abbrev ends : List EndView
  ends = map (λ (f : Finished K L). end_view state f.ended) last

  -- what is said of the owners and ends that the threads left holds of those that are joined
  as_joined : (P : List OwnerView → List EndView → Type 0) →
      P (map (λ (d : Driven). d.owner) callers) (map (λ (s : ServedView). s.end) (map (served_view state) last)) → P joined.owners.items ends
  as_joined P is =
      let At : List OwnerView × List EndView → Type 0 = λ p. P p.0 p.1 in
      subst At (λ k. (sym run.compared.owners k, map-map (λ (s : ServedView). s.end) (served_view state) last k)) is

  fitting : SpecsFit seen
  fitting = specs_fit state casts fit is.numbers

  -- where each did its plan
  module _ (by_plan : (c : ℕ) (plan steps : List Step) (before later : OwnerView) → does c plan steps before later → steps ≡ plan) where
    all_driven : All
        (λ (d : Driven). IsDriven lines.mails.items lines.controls.items (actors_naming d.owner.id seen) (plan_of d.owner.id (map plan_view plans)) d) callers
    all_driven = all_by_places
        (λ (d : Driven). IsDriven lines.mails.items lines.controls.items (actors_naming d.owner.id seen) (plan_of d.owner.id (map plan_view plans)) d) callers
        (λ i d at. let one = did_at i d at in subst (λ plan. IsDriven lines.mails.items lines.controls.items (actors_naming d.owner.id seen) plan d)
        (by_plan d.owner.id (plan_of d.owner.id (map plan_view plans)) one.steps (opened_of d.owner.id seen) d.owner one.does_so) one.did)

    are_joined : AreJoined lines.mails.items lines.controls.items lines.replies.items seen (map plan_view plans) callers (map (served_view state) last)
    are_joined = record {
      casts_are = casts_are;
      callers = owners_are;
      actors = ends_are;
      all_served = all_served;
      all_driven = all_driven;
      limits = limits;
      audited = audited;
      starter = unasked;
      fed = fed;
    }

    have : HaveTraces lines.controls.items lines.replies.items seen (map plan_view plans) callers (map (served_view state) last)
    have = have_traces (map plan_view plans) (all_by_places
        (λ (d : Driven). HasDonePlan lines.controls.items (opened_of d.owner.id seen) d.owner (plan_of d.owner.id (map plan_view plans)) d.passes) callers
        (λ i d at. let one = did_at i d at in subst (λ plan. HasDonePlan lines.controls.items (opened_of d.owner.id seen) d.owner plan d.passes)
        (by_plan d.owner.id (plan_of d.owner.id (map plan_view plans)) one.steps (opened_of d.owner.id seen) d.owner one.does_so) one.traced))

    pub is_joined : IsJoined seen (map plan_view plans) joined.owners.items ends
    is_joined = as_joined (λ owners ends. IsJoined seen (map plan_view plans) owners ends) (joined_is are_joined (never_ran are_joined have fitting))

    pub is_played_as_planned : IsPlayedAsPlanned seen (map plan_view plans) joined.owners.items ends
    is_played_as_planned = as_joined (λ owners ends. IsPlayedAsPlanned seen (map plan_view plans) owners ends) (as_planned are_joined have fitting)

    pub is_played : IsPlayed seen joined.owners.items ends
    is_played = let planned = is_played_as_planned in (planned.0, planned.1.play)

  -- where some did what their code decided
  module _ {C : Type 0} (tells : C → SessionView → SessionView → Type 0) (codes : List (ℕ × C)) (fits : CodesFit casts plans codes)
      (by_code : (c : ℕ) (plan steps : List Step) (before later : OwnerView) → does c plan steps before later →
      does_code tells (code_of c codes) plan steps before later) where
    -- its trace tells the steps
    abbrev Traced : Driven → List Step → Type 0
    Traced d steps = HasDonePlan lines.controls.items (opened_of d.owner.id seen) d.owner steps d.passes

    abbrev DrivenBy : Driven → Type 0
    DrivenBy d = IsDrivenBy tells lines.mails.items lines.controls.items seen (map plan_view plans) codes d

    driven_by : All (λ d. (by : DrivenBy d) × Traced d by.steps) callers
    driven_by = all_by_places (λ d. (by : DrivenBy d) × Traced d by.steps) callers (λ i d at.
        let one = did_at i d at in let plan = plan_of d.owner.id (map plan_view plans) in let before = opened_of d.owner.id seen in
        let so = by_code d.owner.id plan one.steps before d.owner one.does_so in (
          record {
            steps = one.steps;
            did = one.did;
            planned = λ none. subst (λ o. does_code tells o plan one.steps before d.owner) none so;
            told = λ code some. subst (λ o. does_code tells o plan one.steps before d.owner) some so;
          },
          one.traced,
        ))

    codes_named : All (λ (given : ℕ × C). list_any (λ (cast : ActorSpec). contains given.0 cast.callers) seen ≡ true) codes
    codes_named k d below = list_any-map (λ (cast : ActorSpec). contains (get_or codes k d).0 cast.callers) (actor_spec state) casts ∙ fits.named k d below

    are_joined_by : AreJoinedBy tells lines.mails.items lines.controls.items lines.replies.items seen (map plan_view plans) codes callers
        (map (served_view state) last)
    are_joined_by = record {
      casts_are = casts_are;
      callers = owners_are;
      differ = differ;
      actors = ends_are;
      all_served = all_served;
      all_driven = λ k d below. (driven_by k d below).0;
      limits = limits;
      audited = audited;
      starter = unasked;
      fed = fed;
      codes_differ = fits.differ;
      codes_named = codes_named;
    }

    abbrev steps : List (ℕ × List Step)
    steps = steps_by tells lines.mails.items lines.controls.items lines.replies.items seen (map plan_view plans) codes callers
        (map (served_view state) last) are_joined_by Traced driven_by

    joined_steps : AreJoined lines.mails.items lines.controls.items lines.replies.items seen steps callers (map (served_view state) last)
    joined_steps = joined_by tells lines.mails.items lines.controls.items lines.replies.items seen (map plan_view plans) codes callers
        (map (served_view state) last) are_joined_by Traced driven_by

    have_steps : HaveTraces lines.controls.items lines.replies.items seen steps callers (map (served_view state) last)
    have_steps = have_traces steps (traced_by tells lines.mails.items lines.controls.items lines.replies.items seen (map plan_view plans) codes callers
        (map (served_view state) last) are_joined_by Traced driven_by)

    pub is_played_by : IsPlayedBy tells seen (map plan_view plans) codes joined.owners.items ends
    is_played_by = as_joined (λ owners ends. IsPlayedBy tells seen (map plan_view plans) codes owners ends) (
      joined_by_is tells lines.mails.items lines.controls.items lines.replies.items seen (map plan_view plans) codes callers
          (map (served_view state) last) are_joined_by Traced driven_by (never_ran joined_steps have_steps fitting),
      as_planned joined_steps have_steps fitting,
    )

    pub is_joined_by : IsJoinedBy tells seen (map plan_view plans) codes joined.owners.items ends
    is_joined_by = is_played_by.0

    pub is_played_of_steps : IsPlayed seen joined.owners.items ends
    is_played_of_steps = let planned = is_played_by.1 in (planned.0, planned.1.play)
