-- A caller that collects a notice.
use Rattle.act_causes.proofs.Common.{◌≡◌, ℕ, ◌<◌, ◌≤◌, true, false, cond, List, length, Some, None, All, refl, ap, sym, ◌∙◌, subst, arith, Contains, slice_get}
use Rattle.act_causes.proofs.Common.{slice_set, option_map, option_and_then, unwrap_or, is_some, slice_get-get_or, Notice, Answered, Death, Reply, Collect}
use Rattle.act_causes.proofs.Common.{Post, RunItem, NoReply, answer_at, needs, ActorSpec, History, runs_of, answer_of, did, refusal_of, outcome_by, add_event}
use Rattle.act_causes.proofs.Common.{copies_in, Noticed, MailedNotice, told_collected, reply_as, reply_at, posted_notice, collect_follows, get_set-same, Site}
use Rattle.act_causes.proofs.Common.{Action, IsNamed, IsReplyGiven, owner_by, IsEventOf, Actor, Caller, DeathTold, ReplyPost, DeathPost, OwnerView, knows_dead}
use Rattle.act_causes.proofs.Common.{collect_result, after_collect, with_death, KnowsDeath}
use Rattle.act_causes.proofs.Made.{marks_are, by_caller, actors_stay}
use Rattle.act_causes.proofs.Marks.{HasPost}
use Rattle.act_causes.proofs.Keeping.{Keeps, GoesOn, go_on, cast_is}
use Rattle.act_causes.proofs.Changing.{actor_small, holder_named, caller_at, owners_after}
use Rattle.act_world.proofs.Collecting.{told_to}

-- a reply by its parts
reply_is : (c : ℕ) (reply : Reply) (item : RunItem) → reply.caller ≡ c → item.future ≡ reply.future →
    reply_as c reply.actor reply.place item reply.answer ≡ reply
reply_is c reply item caller future =
    ap (λ x. record { actor = reply.actor; caller = x; future = item.future; place = reply.place; answer = reply.answer }) (sym caller)
    ∙ ap (λ x. record { actor = reply.actor; caller = reply.caller; future = x; place = reply.place; answer = reply.answer }) future

module _ (casts : List ActorSpec) (deeds : List (Site × Action)) (h : History) (c : ℕ) (keeps : Keeps casts deeds h) (named : IsNamed casts c) where
  abbrev owner : OwnerView
  owner = owner_by casts c deeds

  -- a post that there is, and what it tells
  collects : (j : ℕ) (post : Post) (notice : Notice) → IsEventOf h (Caller c, Noticed notice) (Collect j) → slice_get h.posts j ≡ Some post →
      posted_notice h post ≡ Some (record { caller = c; notice = notice }) →
      KnowsDeath notice (owner_by casts c deeds) (after_collect (owner_by casts c deeds) notice) → GoesOn casts deeds h (Caller c, Noticed notice)
  collects j post notice is at tells known =
      let here = caller_at casts deeds h c keeps named in let told : MailedNotice = record { caller = c; notice = notice } in
      let there : slice_get keeps.world.network.replies j ≡ Some told =
      keeps.reached.refines.replies j ∙ ap (λ o. option_and_then (posted_notice h) o) at ∙ tells in
      let new = after_collect owner notice in
      let free : refusal_of h (Collect j) ≡ None = ap (λ o. needs (is_some o) NoReply None) at in
      let follows = collect_follows keeps.world.network keeps.world.slots j keeps.lawful keeps.reached.refines there here.place owner new
      (told_collected c (collect_result owner notice))
      (record { place_is = here.at; owner_is = here.is }) refl refl known in
      go_on casts deeds h (Caller c, Noticed notice) (Collect j) (did h (Collect j))
      (record { network = record keeps.world.network { owners = slice_set keeps.world.network.owners here.place new }; slots = keeps.world.slots }) keeps is
      named
      (ap (λ r. outcome_by h (Collect j) r) (sym free), follows.1)
      (owners_after casts deeds h c keeps named (Noticed notice) new refl) keeps.reached.inboxes keeps.reached.room
      (actors_stay (add_event h (Collect j)) (by_caller c (Noticed notice)) refl refl refl keeps.actors) tt

  pub heard_death : (a : ℕ) → All (λ cast. cast.actor ≤ 8) casts → Contains deeds (Actor a, DeathTold c) → GoesOn casts deeds h (Caller c, Noticed (Death a))
  heard_death a small told =
      let post = keeps.left (Actor a, DeathTold c) told in collects post.0 (DeathPost c a) (Death a) (post.0, refl, post.1) post.1 refl (λ listed. known listed)
    where
      known : is_some (copies_in a (owner_by casts c deeds).handles) ≡ true → knows_dead (after_collect (owner_by casts c deeds) (Death a)) a ≡ true
      known listed =
          let most : a ≤ 8 = actor_small casts c a small (holder_named casts deeds h c a keeps named listed) in
          let marks : length owner.dead ≡ 9 = marks_are casts c deeds in let within : a < length owner.dead = omega arith in
          ap (λ b. knows_dead (cond b (with_death owner a) owner) a) listed
          ∙ ap (λ o. unwrap_or o false) (get_set-same owner.dead a true (slice_get-get_or owner.dead a false within))

  pub heard_reply : (reply : Reply) → IsReplyGiven casts deeds c reply → GoesOn casts deeds h (Caller c, Noticed (Answered reply))
  heard_reply reply r =
      let ran : slice_get (runs_of reply.actor h) reply.place ≡ Some r.item =
      ap (λ items. slice_get items reply.place) (keeps.actors.runs reply.actor) ∙ r.ran in
      let has : HasPost h (ReplyPost c reply.actor reply.place) =
      subst (λ x. HasPost h (ReplyPost x reply.actor reply.place)) r.for_caller (keeps.replied reply.actor reply.place r.item ran) in
      let answered : answer_of reply.actor reply.place h ≡ Some reply.answer =
      ap (λ o. option_and_then (λ state. answer_at state (runs_of reply.actor h) reply.place) (option_map (λ (cast : ActorSpec). cast.opening) o))
      (cast_is casts h reply.actor keeps.casts_are ∙ r.at)
      ∙ ap (λ items. answer_at r.cast.opening items reply.place) (keeps.actors.runs reply.actor)
      ∙ r.answered in
      collects has.0 (ReplyPost c reply.actor reply.place) (Answered reply) (has.0, refl, has.1) has.1
      (ap (λ o. option_map (told_to c) (reply_at h c reply.actor reply.place o)) ran ∙ ap (λ o. option_map (told_to c) (option_map
      (reply_as c reply.actor reply.place r.item) o)) answered ∙ ap (λ told. Some (told_to c told)) (reply_is c reply r.item r.caller r.future)) tt
