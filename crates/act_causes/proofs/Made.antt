-- What one deed more makes of each caller and of each actor.
use Rattle.act_causes.proofs.Common.{◌≡◌, ◌≢◌, ℕ, Bool, true, false, cond, List, ◌∷◌, ◌++◌, length, Some, None, refl, ap, sym, ◌∙◌, subst, ◌==◌, is_some}
use Rattle.act_causes.proofs.Common.{cons_option, list_any, or-false, append-nil, length-set, filter_map-append, list_any-append, Answered, Death, Reply}
use Rattle.act_causes.proofs.Common.{RunItem, ActorSpec, History, contains, runs_of, under, is_dead, is_ended, has_terminated, kept_at, copies_in, First, Late}
use Rattle.act_causes.proofs.Common.{Stray, OwnerView, packet_at, is_sent, with_death, after_reply_that, is_of_call, Action, Noticed, after_action}
use Rattle.act_causes.proofs.Common.{after_actions, is_known_at, step, places_all, packet_stays_all, after_all-append, sent_stays_all, under-push, ran_on, Site}
use Rattle.act_causes.proofs.Common.{owner_by, Actor, Caller, action_at, actions_of, left_by, opened_of, KillAsked, CallRun, KillTaken, Retirement, call_run}
use Rattle.act_causes.proofs.Common.{has_died_in, has_ended_in, is_kill_taken, is_retirement, log_of, KillNote, [], ◌||◌}
use Rattle.act_causes.proofs.Sites.{action_here, action_elsewhere}

-- ---- a caller

-- what later deeds make of a caller
pub owner_then : (casts : List ActorSpec) (c : ℕ) (deeds later : List (Site × Action)) →
    owner_by casts c (deeds ++ later) ≡ after_actions (owner_by casts c deeds) (actions_of (Caller c) later)
owner_then casts c deeds later =
    ap (left_by casts c) (filter_map-append (action_at (Caller c)) deeds later)
    ∙ after_all-append (opened_of c casts) (actions_of (Caller c) deeds) (actions_of (Caller c) later)

pub owner_changed : (casts : List ActorSpec) (c : ℕ) (deeds : List (Site × Action)) (action : Action) →
    owner_by casts c (deeds ++ (Caller c, action) ∷ []) ≡ after_action (owner_by casts c deeds) action
owner_changed casts c deeds action =
    owner_then casts c deeds ((Caller c, action) ∷ [])
    ∙ ap (λ o. after_actions (owner_by casts c deeds) (cons_option o [])) (action_here (Caller c) action)

-- a deed of somebody else's
pub owner_same : (casts : List ActorSpec) (d : ℕ) (deeds : List (Site × Action)) (deed : Site × Action) → action_at (Caller d) deed ≡ None →
    owner_by casts d (deeds ++ deed ∷ []) ≡ owner_by casts d deeds
owner_same casts d deeds deed none =
    owner_then casts d deeds (deed ∷ [])
    ∙ ap (λ o. after_actions (owner_by casts d deeds) (cons_option o [])) none

pub owner_other : (casts : List ActorSpec) (c d : ℕ) (deeds : List (Site × Action)) (action : Action) → c ≢ d →
    owner_by casts d (deeds ++ (Caller c, action) ∷ []) ≡ owner_by casts d deeds
owner_other casts c d deeds action apart = owner_same casts d deeds (Caller c, action) (action_elsewhere (Caller d) (Caller c) action (λ same. apart cc))

-- a kill that is asked actions no caller
pub owner_asked : (casts : List ActorSpec) (c d a : ℕ) (deeds : List (Site × Action)) →
    owner_by casts d (deeds ++ (Caller c, KillAsked a) ∷ []) ≡ owner_by casts d deeds
owner_asked casts c d a deeds = owner_then casts d deeds ((Caller c, KillAsked a) ∷ []) ∙ go (c == d)
  where
    go : (b : Bool) → after_actions (owner_by casts d deeds) (cons_option (cond b (Some (KillAsked a)) None) []) ≡ owner_by casts d deeds
    go true = refl
    go false = refl

pub places : (casts : List ActorSpec) (c : ℕ) (deeds : List (Site × Action)) → length (owner_by casts c deeds).kept ≡ length (owner_by casts c deeds).calls
places casts c deeds = places_all (opened_of c casts) (actions_of (Caller c) deeds) refl

-- a call whose arguments have their answers stays so, and its packet stays
pub known_on : (casts : List ActorSpec) (c k : ℕ) (deeds later : List (Site × Action)) → is_known_at (owner_by casts c deeds) k ≡ true
    → (is_known_at (owner_by casts c (deeds ++ later)) k ≡ true) × (packet_at (owner_by casts c (deeds ++ later)) k ≡ packet_at (owner_by casts c deeds) k)
known_on casts c k deeds later known =
    subst (λ owner. (is_known_at owner k ≡ true) × (packet_at owner k ≡ packet_at (owner_by casts c deeds) k)) (sym (owner_then casts c deeds later))
    (packet_stays_all (owner_by casts c deeds) (actions_of (Caller c) later) k (places casts c deeds) known)

pub sent_on : (casts : List ActorSpec) (c k : ℕ) (deeds later : List (Site × Action)) → is_sent (owner_by casts c deeds) k ≡ true →
    is_sent (owner_by casts c (deeds ++ later)) k ≡ true
sent_on casts c k deeds later sent =
    subst (λ owner. is_sent owner k ≡ true) (sym (owner_then casts c deeds later))
    (sent_stays_all (owner_by casts c deeds) (actions_of (Caller c) later) k sent)

id_all : (owner : OwnerView) (actions : List Action) → length owner.kept ≡ length owner.calls → (after_actions owner actions).id ≡ owner.id
id_all owner [] places = refl
id_all owner (action ∷ actions) places = let one = step owner action places in id_all (after_action owner action) actions one.places ∙ one.id

pub owner_id : (casts : List ActorSpec) (c : ℕ) (deeds : List (Site × Action)) → (owner_by casts c deeds).id ≡ c
owner_id casts c deeds = id_all (opened_of c casts) (actions_of (Caller c) deeds) refl

-- a caller has a mark for the death of each actor
reply_marks : (owner : OwnerView) (reply : Reply) (mine known : Bool) →
    (after_reply_that (cond mine (cond known (Late reply.future) (First reply.future)) Stray) owner reply).dead ≡ owner.dead
reply_marks owner reply false known = refl
reply_marks owner reply true true = refl
reply_marks owner reply true false = refl

death_marks : (owner : OwnerView) (a : ℕ) (listed : Bool) → length (cond listed (with_death owner a) owner).dead ≡ length owner.dead
death_marks owner a false = refl
death_marks owner a true = length-set owner.dead a true

marks_after : (owner : OwnerView) (action : Action) → length (after_action owner action).dead ≡ length owner.dead
marks_after owner (Noticed (Answered reply)) = ap (λ l. length l) (reply_marks owner reply (is_of_call owner reply) (is_some (kept_at owner.kept reply.future)))
marks_after owner (Noticed (Death a)) = death_marks owner a (is_some (copies_in a owner.handles))
marks_after owner action = refl

marks_all : (owner : OwnerView) (actions : List Action) → length (after_actions owner actions).dead ≡ length owner.dead
marks_all owner [] = refl
marks_all owner (action ∷ actions) = marks_all (after_action owner action) actions ∙ marks_after owner action

pub marks_are : (casts : List ActorSpec) (c : ℕ) (deeds : List (Site × Action)) → length (owner_by casts c deeds).dead ≡ 9
marks_are casts c deeds = marks_all (opened_of c casts) (actions_of (Caller c) deeds)

-- ---- an actor

-- what each actor ran, and who took a kill or retired, as the history tells
pub record AreActorsOf (deeds : List (Site × Action)) (h : History) : Type 0 where
  pub runs : (a : ℕ) → runs_of a h ≡ log_of (actions_of (Actor a) deeds)
  pub killed : (a : ℕ) → contains a h.killed ≡ list_any is_kill_taken (actions_of (Actor a) deeds)
  pub retired : (a : ℕ) → contains a h.retired ≡ list_any is_retirement (actions_of (Actor a) deeds)

-- whether an actor is dead is the same by its steps and by a history that tells what actors did in them
pub dead_is : {deeds : List (Site × Action)} {h : History} (a : ℕ) → AreActorsOf deeds h → is_dead a h ≡ has_died_in (actions_of (Actor a) deeds)
dead_is {deeds} {h} a are =
    ap (λ b. b || has_terminated (runs_of a h)) (are.killed a)
    ∙ ap (λ items. list_any is_kill_taken (actions_of (Actor a) deeds) || has_terminated items) (are.runs a)

pub ended_is : (deeds : List (Site × Action)) (h : History) (a : ℕ) → AreActorsOf deeds h → is_ended a h ≡ has_ended_in (actions_of (Actor a) deeds)
ended_is deeds h a are =
    ap (λ b. b || contains a h.retired) (dead_is a are)
    ∙ ap (λ b. has_died_in (actions_of (Actor a) deeds) || b) (are.retired a)

-- what the actor ran, and whether some step of its is so, with one deed more
runs_then : (a : ℕ) (deeds : List (Site × Action)) (deed : Site × Action) →
    log_of (actions_of (Actor a) (deeds ++ deed ∷ [])) ≡ log_of (actions_of (Actor a) deeds) ++ log_of (actions_of (Actor a) (deed ∷ []))
runs_then a deeds deed =
    ap log_of (filter_map-append (action_at (Actor a)) deeds (deed ∷ []))
    ∙ filter_map-append call_run (actions_of (Actor a) deeds) (actions_of (Actor a) (deed ∷ []))

any_then : (p : Action → Bool) (a : ℕ) (deeds : List (Site × Action)) (deed : Site × Action) →
    list_any p (actions_of (Actor a) (deeds ++ deed ∷ [])) ≡ (list_any p (actions_of (Actor a) deeds) || list_any p (actions_of (Actor a) (deed ∷ [])))
any_then p a deeds deed =
    ap (list_any p) (filter_map-append (action_at (Actor a)) deeds (deed ∷ []))
    ∙ list_any-append p (actions_of (Actor a) deeds) (actions_of (Actor a) (deed ∷ []))

-- nothing runs in the deed; and no step in it is so
abbrev RunsNone : Site × Action → Type 0
RunsNone deed = (a : ℕ) → log_of (actions_of (Actor a) (deed ∷ [])) ≡ []

abbrev HasNone : (Action → Bool) → Site × Action → Type 0
HasNone p deed = (a : ℕ) → list_any p (actions_of (Actor a) (deed ∷ [])) ≡ false

runs_none : (a : ℕ) (step : Action) → call_run step ≡ None → RunsNone (Actor a, step)
runs_none a step none b = go (a == b)
  where
    go : (x : Bool) → log_of (cons_option (cond x (Some step) None) []) ≡ []
    go true = ap (λ o. cons_option o []) none
    go false = refl

has_none : (p : Action → Bool) (a : ℕ) (step : Action) → p step ≡ false → HasNone p (Actor a, step)
has_none p a step none b = go (a == b)
  where
    go : (x : Bool) → list_any p (cons_option (cond x (Some step) None) []) ≡ false
    go true = ap (λ y. y || false) none
    go false = refl

log_same : (a : ℕ) (deeds : List (Site × Action)) (deed : Site × Action) → RunsNone deed →
    log_of (actions_of (Actor a) (deeds ++ deed ∷ [])) ≡ log_of (actions_of (Actor a) deeds)
log_same a deeds deed none =
    runs_then a deeds deed
    ∙ ap (λ items. log_of (actions_of (Actor a) deeds) ++ items) (none a)
    ∙ append-nil (log_of (actions_of (Actor a) deeds))

mark_same : (p : Action → Bool) (a : ℕ) (deeds : List (Site × Action)) (deed : Site × Action) → HasNone p deed →
    list_any p (actions_of (Actor a) (deeds ++ deed ∷ [])) ≡ list_any p (actions_of (Actor a) deeds)
mark_same p a deeds deed none =
    any_then p a deeds deed
    ∙ ap (λ b. list_any p (actions_of (Actor a) deeds) || b) (none a)
    ∙ or-false (list_any p (actions_of (Actor a) deeds))

-- a deed of no actor's, or one after which it goes on as before
pub record IsNoEnd (deed : Site × Action) : Type 0 where
  pub no_run : RunsNone deed
  pub no_kill : HasNone is_kill_taken deed
  pub no_end : HasNone is_retirement deed

-- a deed of a caller ends no actor
pub by_caller : (c : ℕ) (step : Action) → IsNoEnd (Caller c, step)
by_caller c step = record { no_run = λ a. refl; no_kill = λ a. refl; no_end = λ a. refl }

-- nor does one of an actor that runs no call, takes no kill and doesn't retire
pub by_actor : (a : ℕ) (step : Action) → call_run step ≡ None → is_kill_taken step ≡ false → is_retirement step ≡ false → IsNoEnd (Actor a, step)
by_actor a step run kill end =
    record { no_run = runs_none a step run; no_kill = has_none is_kill_taken a step kill; no_end = has_none is_retirement a step end }

-- where a deed and the history add no run, taken kill or retirement, the history still tells what the actors did
pub actors_stay : {deeds : List (Site × Action)} {deed : Site × Action} {h : History} (g : History) → IsNoEnd deed → g.ran ≡ h.ran → g.killed ≡ h.killed →
    g.retired ≡ h.retired → AreActorsOf deeds h → AreActorsOf (deeds ++ deed ∷ []) g
actors_stay {deeds} {deed} g none ran killed retired are = record {
  runs = λ a. ap (under a) ran ∙ are.runs a ∙ sym (log_same a deeds deed none.no_run);
  killed = λ a. ap (contains a) killed ∙ are.killed a ∙ sym (mark_same is_kill_taken a deeds deed none.no_kill);
  retired = λ a. ap (contains a) retired ∙ are.retired a ∙ sym (mark_same is_retirement a deeds deed none.no_end);
}

-- one number more, as a step more of its actor tells it
counted : (b a : ℕ) (ns : List ℕ) (p : Action → Bool) (deeds : List (Site × Action)) (step : Action) → p step ≡ true →
    contains b ns ≡ list_any p (actions_of (Actor b) deeds) → contains b (ns ++ a ∷ []) ≡ list_any p (actions_of (Actor b) (deeds ++ (Actor a, step) ∷ []))
counted b a ns p deeds step is same =
    list_any-append (λ n. n == b) ns (a ∷ [])
    ∙ ap (λ x. x || ((a == b) || false)) same
    ∙ ap (λ x. list_any p (actions_of (Actor b) deeds) || x) (one (a == b))
    ∙ sym (any_then p b deeds (Actor a, step))
  where
    one : (x : Bool) → (x || false) ≡ list_any p (cons_option (cond x (Some step) None) [])
    one true = ap (λ y. y || false) (sym is)
    one false = refl

pub actors_killed : (deeds : List (Site × Action)) (a asker : ℕ) (note : KillNote) (h : History) → AreActorsOf deeds h →
    AreActorsOf (deeds ++ (Actor a, KillTaken asker note) ∷ []) (record h { killed = h.killed ++ a ∷ [] })
actors_killed deeds a asker note h are = record {
  runs = λ b. are.runs b ∙ sym (log_same b deeds (Actor a, KillTaken asker note) (runs_none a (KillTaken asker note) refl));
  killed = λ b. counted b a h.killed is_kill_taken deeds (KillTaken asker note) refl (are.killed b);
  retired = λ b. are.retired b ∙ sym (mark_same is_retirement b deeds (Actor a, KillTaken asker note) (has_none is_retirement a (KillTaken asker note) refl));
}

pub actors_retired : (deeds : List (Site × Action)) (a : ℕ) (h : History) → AreActorsOf deeds h →
    AreActorsOf (deeds ++ (Actor a, Retirement) ∷ []) (record h { retired = h.retired ++ a ∷ [] })
actors_retired deeds a h are = record {
  runs = λ b. are.runs b ∙ sym (log_same b deeds (Actor a, Retirement) (runs_none a Retirement refl));
  killed = λ b. are.killed b ∙ sym (mark_same is_kill_taken b deeds (Actor a, Retirement) (has_none is_kill_taken a Retirement refl));
  retired = λ b. counted b a h.retired is_retirement deeds Retirement refl (are.retired b);
}

-- a call more ran
pub actors_ran : (deeds : List (Site × Action)) (a c : ℕ) (item : RunItem) (h : History) → AreActorsOf deeds h →
    AreActorsOf (deeds ++ (Actor a, CallRun item) ∷ []) (ran_on h a c item)
actors_ran deeds a c item h are = record {
  runs = λ b. under-push b a h.ran item ∙ ap (λ items. items ++ cond (a == b) (item ∷ []) []) (are.runs b) ∙
      ap (λ items. log_of (actions_of (Actor b) deeds) ++ items) (chosen (a == b)) ∙ sym (runs_then b deeds (Actor a, CallRun item));
  killed = λ b. are.killed b ∙ sym (mark_same is_kill_taken b deeds (Actor a, CallRun item) (has_none is_kill_taken a (CallRun item) refl));
  retired = λ b. are.retired b ∙ sym (mark_same is_retirement b deeds (Actor a, CallRun item) (has_none is_retirement a (CallRun item) refl));
}
  where
    chosen : (x : Bool) → cond x (item ∷ []) [] ≡ log_of (cons_option (cond x (Some (CallRun item)) None) [])
    chosen true = refl
    chosen false = refl
