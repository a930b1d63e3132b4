-- What each actor of a run left, at its place.
use Rattle.act_executor.proofs.Common.{◌≡◌, ℕ, ◌<◌, List, [], ◌∷◌, ◌++◌, length, map, get_or, slice_get, Some, sym, ap, ◌∙◌, subst, All, Contains}
use Rattle.act_executor.proofs.Common.{get_or_from_slice_get, KindState, NothingFollowsAnEnd, ActorSpec, contains, map-slice_get, Cast, actor_spec}
use Rattle.act_executor.proofs.Common.{Letter, TakerView, ControlExecView, starter, RepliesView, ReplyExecView, notice_actor, Endpoint, ExecPasses, Finished}
use Rattle.act_executor.proofs.Common.{end_view, end_id, end_log, IsLogOf, replies_to, deaths, caller_at, endpoint_callers, KillsTaken, HasDrained, IfRetired}
use Rattle.act_executor.proofs.Common.{HasServed, without_given, IsAtItsEndpoint, Driven, Lines, IsExec, ServedView, IsServed, IsTold, NoticesAudited}
use Rattle.act_executor.proofs.Common.{SitsAtReplies, NoticeTold, ActorLeft, left_of, at_other, all_at, IsIn, in_from_contains, contains_from_in, all_in}
use Rattle.act_executor.proofs.Common.{all_by_places}
use Rattle.act_serve.proofs.Serving.{callers_stay}

-- an actor's end with its passes
abbrev pub served_view : {K L : Type 0} → (K → KindState) → Finished K L → ServedView
served_view state finished = record { end = end_view state finished.ended; passes = finished.passes }

-- ---- what shows of an actor without the place of its list

pub record IsLeft {K L : Type 0} (state : K → KindState) (replies : List RepliesView) (cast : ActorSpec) (l : ActorLeft K L) : Type 0 where
  pub callers : List ℕ
  pub same_callers : (c : ℕ) → contains c callers ≡ contains c cast.callers
  pub endpoints : endpoint_callers replies l.notices ≡ callers
  pub log : IsLogOf cast.actor callers l.letters.taken (end_log (end_view state l.ended))
  pub last : NothingFollowsAnEnd (end_log (end_view state l.ended))
  pub given : All (λ (endpoint : Endpoint ReplyExecView). endpoint.pass.given ≡ replies_to cast.opening cast.actor (end_log (end_view state l.ended))
      (caller_at replies endpoint.place) ++ deaths cast.actor (end_view state l.ended)) l.notices
  pub kills_are : KillsTaken l.kills (end_view state l.ended)
  pub askers : l.kills.askers ≡ starter ∷ cast.callers
  pub drained : IfRetired (end_view state l.ended) (HasDrained cast.opening callers l.letters.taken)

module _ {K L : Type 0} (state : K → KindState) (lines : Lines) (cast : Cast K) (exec : Endpoint ExecPasses) (actor : Finished K L)
    (is : IsExec lines cast exec)
    (served : HasServed (state cast.kind) cast.actor lines.replies.items exec.pass (end_view state actor.ended) actor.passes) where
  left_is : IsLeft state lines.replies.items (actor_spec state cast) (left_of actor)
  left_is = record {
    callers = endpoint_callers lines.replies.items exec.pass.notices.items;
    same_callers = is.callers;
    endpoints = callers_stay lines.replies.items exec.pass.notices.items actor.passes.notices.items served.stay.endpoints;
    log = served.log;
    last = served.last;
    given = served.given;
    kills_are = served.kills;
    askers = ap (λ (k : ControlExecView). k.askers) served.stay.kills ∙ is.askers;
    drained = served.drained;
  }

  -- the same of the actor after the comparison of its lines
  pub is_served : (last : Finished K L) → left_of last ≡ left_of actor → IsServed lines.replies.items (actor_spec state cast) (served_view state last)
  is_served last same =
      let l = subst (IsLeft state lines.replies.items (actor_spec state cast)) (sym same) left_is in
      record {
        callers = l.callers;
        same_callers = l.same_callers;
        endpoints = l.endpoints;
        log = l.log;
        last = l.last;
        given = l.given;
        kills = l.kills_are;
        askers = l.askers;
        drained = l.drained;
      }

  -- the endpoint that was there before, at the same place, of the same line
  old_endpoint : (k : ℕ) (endpoint : Endpoint ReplyExecView) → slice_get actor.passes.notices.items k ≡ Some endpoint →
      (old : Endpoint ReplyExecView) × (slice_get exec.pass.notices.items k ≡ Some old) × (without_given old ≡ without_given endpoint)
  old_endpoint k endpoint at = at_other without_given without_given exec.pass.notices.items actor.passes.notices.items (sym served.stay.endpoints) k at

  endpoints_at : All (IsAtItsEndpoint lines.replies.items cast.actor []) exec.pass.notices.items
  endpoints_at = (is.fit (record { line = exec.pass.letters.line; actor = cast.actor }) (record { line = exec.pass.kills.line; actor = cast.actor })).endpoints

  pub sits : All (SitsAtReplies lines.replies.items) actor.passes.notices.items
  sits = all_by_places (SitsAtReplies lines.replies.items) actor.passes.notices.items (λ k endpoint at. let old = old_endpoint k endpoint at in let was =
      all_at (IsAtItsEndpoint lines.replies.items cast.actor []) exec.pass.notices.items k endpoints_at old.1 in let place : old.0.place ≡ endpoint.place =
      ap (λ (s : Endpoint ReplyExecView). s.place) old.2 in let line : old.0.pass.line ≡ endpoint.pass.line =
      ap (λ (s : Endpoint ReplyExecView). s.pass.line) old.2 in
      (subst (λ p. p < length lines.replies.items) place was.below, λ r. ap (λ p. (get_or lines.replies.items p r).line) (sym place) ∙ was.line r ∙ line))

  -- the endpoint at a place where there was one
  pub new_endpoint : (i : ℕ) → Contains (map (λ (s : Endpoint ReplyExecView). s.place) exec.pass.notices.items) i →
      (endpoint : Endpoint ReplyExecView) × IsIn actor.passes.notices.items endpoint × (endpoint.place ≡ i) × (endpoint.pass.actor ≡ cast.actor)
  new_endpoint i has =
      let in_map = in_from_contains (map (λ (s : Endpoint ReplyExecView). s.place) exec.pass.notices.items) i has in
      let old = map-slice_get (λ (s : Endpoint ReplyExecView). s.place) exec.pass.notices.items in_map.place in_map.at in
      let new = at_other without_given without_given actor.passes.notices.items exec.pass.notices.items served.stay.endpoints in_map.place old.1 in
      let was = all_at (IsAtItsEndpoint lines.replies.items cast.actor []) exec.pass.notices.items in_map.place endpoints_at old.1 in (
        new.0,
        record { place = in_map.place; at = new.1 },
        ap (λ (s : Endpoint ReplyExecView). s.place) new.2 ∙ old.2,
        ap (λ (s : Endpoint ReplyExecView). s.pass.actor) new.2 ∙ was.actor_is,
      )

  -- the caller's notices were audited
  pub notices_audited : (i : ℕ) {c : ℕ} (callers : List Driven) (d : Driven) (last : Finished K L) → left_of last ≡ left_of actor →
      Contains (map (λ (s : Endpoint ReplyExecView). s.place) exec.pass.notices.items) i → caller_at lines.replies.items i ≡ c → slice_get callers i ≡ Some d →
      All (NoticeTold callers) actor.passes.notices.items → NoticesAudited lines.replies.items cast.actor c d (served_view state last)
  notices_audited i callers d last same has named at told =
      let endpoint = new_endpoint i has in
      let there : IsIn last.passes.notices.items endpoint.0 = subst (λ l. IsIn l endpoint.0) (sym (ap (λ (l : ActorLeft K L). l.notices) same)) endpoint.1 in
      let pass = endpoint.0.pass in let heard = all_in (NoticeTold callers) told endpoint.1 in
      let here : get_or callers endpoint.0.place d ≡ d = ap (λ p. get_or callers p d) endpoint.2 ∙ get_or_from_slice_get callers i d d at in
      let At : ℕ × Driven → Type 0 = λ p. IsTold notice_actor p.0 pass.given pass.stamps p.1.passes.collects.taken p.1.passes.collects.stamps in
      let told_last : At (cast.actor, d) = subst At (λ k. (endpoint.3 k, here k)) (heard d) in
      record {
        endpoint = endpoint.0;
        sits = contains_from_in there;
        line = ap (caller_at lines.replies.items) endpoint.2 ∙ named;
        front = told_last.front;
        stamped = told_last.stamped;
      }

  pub same_id : (last : Finished K L) → left_of last ≡ left_of actor → end_id (end_view state last.ended) ≡ cast.actor
  same_id last same = ap (λ (l : ActorLeft K L). end_id (end_view state l.ended)) same ∙ served.id

  pub same_letters_line : actor.passes.letters.line ≡ exec.pass.letters.line
  same_letters_line = ap (λ (t : TakerView Letter Unit). t.line) served.stay.letters

  pub same_kills_line : actor.passes.kills.line ≡ exec.pass.kills.line
  same_kills_line = ap (λ (t : ControlExecView). t.line) served.stay.kills
