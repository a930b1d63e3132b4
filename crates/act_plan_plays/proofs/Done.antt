-- Nothing is left of a caller that is no choice.
use Rattle.act_plan_plays.proofs.Common.{◌≡◌, ℕ, zero, suc, Bool, true, false, cond, List, [], ◌∷◌, length, Option, Some, None, refl, ap, sym, ◌∙◌, subst}
use Rattle.act_plan_plays.proofs.Common.{arith, ◌==◌, ◌&&◌, ◌||◌, not, nat_lt, map, filter, find, slice_get, is_some, list_all, range_with_len, nat_tests}
use Rattle.act_plan_plays.proofs.Common.{slice_get_within, Step, copies_held, kept_at, is_known, ActorSpec, History, contains, names, cast_of, actors_naming}
use Rattle.act_plan_plays.proofs.Common.{copies_of, has_letter, call_letter, was_sent, copies_in, OwnerView, is_known_call, is_sent, is_ready, first_ready}
use Rattle.act_plan_plays.proofs.Common.{is_known_dead, Refines, death_listed, IsHere, At, next_step, world, Parts, Stands, held, may_take, shows_dead}
use Rattle.act_plan_plays.proofs.Common.{is_left_out, HasNoStep, IsDone, some_cast}
use Rattle.act_plan_plays.proofs.Loops.{none_passes, in_range}
use Rattle.act_plan_plays.proofs.Seen.{live_shown, refuses}

-- ---- who is listed

-- an actor whose cast names the caller stands among those that do
pub named_listed : (c a : ℕ) (casts : List ActorSpec) → names c (find (λ (cast : ActorSpec). cast.actor == a) casts) ≡ true
    → contains a (actors_naming c casts) ≡ true
named_listed c a [] e = cc
named_listed c a (cast ∷ casts) e = go (cast.actor == a) refl (contains c cast.callers) refl (named_listed c a casts) e
  where
    Rest : Type 0
    Rest = names c (find (λ (cast : ActorSpec). cast.actor == a) casts) ≡ true → contains a (actors_naming c casts) ≡ true

    listed : Bool → List ℕ
    listed b = map (λ (one : ActorSpec). one.actor)
        (cond b (cast ∷ filter (λ (one : ActorSpec). contains c one.callers) casts) (filter (λ (one : ActorSpec). contains c one.callers) casts))

    go : (x : Bool) → (cast.actor == a) ≡ x → (b : Bool) → contains c cast.callers ≡ b → Rest →
        names c (cond x (Some cast) (find (λ (cast : ActorSpec). cast.actor == a) casts)) ≡ true → contains a (listed (contains c cast.callers)) ≡ true
    go true is b named rest e = ap (λ x. contains a (listed x)) e ∙ ap (λ x. x || contains a (actors_naming c casts)) is
    go false is true named rest e = ap (λ x. contains a (listed x)) named ∙ ap (λ x. x || contains a (actors_naming c casts)) is ∙ rest e
    go false is false named rest e = ap (λ x. contains a (listed x)) named ∙ rest e

-- ---- the parts

held_none : (o : Option ℕ) → is_some o ≡ true → nat_lt 0 (copies_held o) ≡ false → o ≡ Some 0
held_none None some none = cc
held_none (Some zero) some none = refl
held_none (Some (suc n)) some none = let more : nat_lt 0 (suc n) ≡ true = grind (arith, nat_tests) in let bad : true ≡ false = sym more ∙ none in cc

-- whom a cast names has copies
pub names_copies : (c a : ℕ) (h : History) → names c (cast_of a h) ≡ true → is_some (copies_of c a h) ≡ true
names_copies c a h e = rw e refl

-- what is known and has no answer was sent, unless it may be
not_ready : (known sent answered : Bool) → (known && not sent && not answered) ≡ false → known ≡ true → answered ≡ false → sent ≡ true
not_ready true true answered e known none = refl
not_ready true false true e known none = cc
not_ready true false false e known none = cc
not_ready false sent answered e known none = cc

untold : (dead known : Bool) → (dead && not known) ≡ false → dead ≡ true → known ≡ true
untold true true e is = refl
untold true false e is = cc
untold false known e is = cc

no_and : (x y : Bool) → (x && y) ≡ false → y ≡ true → x ≡ false
no_and true true e is = cc
no_and false y e is = refl
no_and true false e is = cc

true_or_false : (b : Bool) (P : Type 0) → (b ≡ true → P) → (b ≡ false → P) → P
true_or_false true P one other = one refl
true_or_false false P one other = other refl

pub done_of : (casts : List ActorSpec) (plans : ℕ → List Step) (at : At) {parts : Parts} (c : ℕ) {owner : OwnerView} {actors : List ℕ} {next : Option Step} →
    Stands casts plans at parts → Refines at.history parts.world → IsHere at.history c owner → next_step plans c at ≡ next → actors ≡ actors_naming c casts →
    HasNoStep parts.world owner actors next → first_ready owner ≡ None → find (λ a. shows_dead parts.world a && not (is_known_dead owner a)) actors ≡ None →
    IsDone plans c at
done_of casts plans at {parts} c {owner} {actors} {next} stands refines here next_is actors_is idle unready told = record {
  waits = λ step is may. refuses h c owner step here (idle_step (sym next_is ∙ is)).0 may;
  needs = λ a is named.
      let copies : is_some (copies_in a owner.handles) ≡ true = ap (λ o. is_some o) (here.is.copies a) ∙ names_copies c a h named in
      live_shown h a refines stands.live (some_cast c (cast_of a h) named)
      (no_and (shows_dead parts.world a) (is_some (copies_in a owner.handles)) (idle_step (sym next_is ∙ is)).1 copies);
  closed = λ a is named.
      let none = none_passes (λ a. nat_lt 0 (held owner a)) actors a (idle_last (sym next_is ∙ is)) (listed a named) in
      held_none (copies_of c a h) (names_copies c a h named) (ap (λ o. nat_lt 0 (copies_held o)) (sym (here.is.copies a)) ∙ none);
  sent = λ k call is none known live.
      let there : slice_get owner.calls k ≡ Some call = ap (λ l. slice_get l k) here.is.calls ∙ is in
      let within = slice_get_within owner.calls k call there in
      let passed = none_passes (is_ready owner) (range_with_len 0 (length owner.calls)) k unready (in_range (length owner.calls) k within) in
      let all : is_known_call owner (slice_get owner.calls k) ≡ true =
      ap (is_known_call owner) there ∙ ap (λ kept. list_all (is_known kept) call.args) here.is.kept ∙ known in
      let unanswered : is_some (kept_at owner.kept k) ≡ false = ap (λ kept. is_some (kept_at kept k)) here.is.kept
      ∙ ap (λ o. is_some o) none in
      let marked = not_ready (is_known_call owner (slice_get owner.calls k)) (is_sent owner k) (is_some (kept_at owner.kept k)) passed all unanswered in
      let mailed : has_letter (call_letter c k call h) h.mail ≡ true = ap (λ o. was_sent c k o h) (sym is) ∙ sym (here.is.sent k)
      ∙ marked in
      stands.brought (call_letter c k call h) mailed live;
  told = λ a dead named.
      let tells = none_passes (λ a. shows_dead parts.world a && not (is_known_dead owner a)) actors a told (listed a named) in
      let shown : shows_dead parts.world a ≡ true = true_or_false (shows_dead parts.world a) (shows_dead parts.world a ≡ true) (λ e. e)
      (λ e. let bad : true ≡ false = sym dead ∙ live_shown h a refines stands.live (some_cast c (cast_of a h) named) e in cc) in
      death_listed c a h.collected (sym (here.is.deaths a) ∙ untold (shows_dead parts.world a) (is_known_dead owner a) tells shown);
}
  where
    h : History
    h = at.history

    same_casts : h.casts ≡ casts
    same_casts = (world casts plans at stands.play).casts

    listed : (a : ℕ) → names c (cast_of a h) ≡ true → contains a actors ≡ true
    listed a named = ap (contains a) actors_is
        ∙ named_listed c a casts (ap (λ l. names c (find (λ (cast : ActorSpec). cast.actor == a) l)) (sym same_casts) ∙ named)

    idle_step : {step : Step} → next ≡ Some step → (may_take owner step ≡ false) × (is_left_out parts.world owner step ≡ false)
    idle_step is = subst (λ o. HasNoStep parts.world owner actors o) is idle

    idle_last : next ≡ None → find (λ a. nat_lt 0 (held owner a)) actors ≡ None
    idle_last is = subst (λ o. HasNoStep parts.world owner actors o) is idle
