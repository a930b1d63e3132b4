-- That calls of a joined run stand as their actors do.
use Rattle.act_told.proofs.Common.{◌≡◌, ℕ, ◌+◌, ◌<◌, ◌≤◌, inl, inr, ◌==◌, Bool, true, false, if◌then◌else◌, List, [], length, map, slice_get, Option, Some}
use Rattle.act_told.proofs.Common.{None, option_map, Ok, Err, IsTrue, refl, ap, sym, subst, ◌∙◌, arith, Contains, list_any, enumerate_from, eq-eqb, eqb-true}
use Rattle.act_told.proofs.Common.{cases_lt, get_or_past, length-map, slice_get_within, slice_get-map, get_or_from_slice_get, MAX_ACTORS, MAX_CALLERS}
use Rattle.act_told.proofs.Common.{ActorDied, ActorSpec, contains, Answer, items_of, RunItem, Submission, Step, kept_at, calls_to, element, map-slice_get}
use Rattle.act_told.proofs.Common.{OwnerView, is_death, is_death-only, EndView, Killed, Retired, end_id, end_log, IfRetired, IsJoined, RanAll, owner_of, end_of}
use Rattle.act_told.proofs.Common.{calls_in, kept_in, calls_of_owner, kept_of_owner, is_killed, is_killed_end, Call, Failed, Died, Run, call_of, actor_of}
use Rattle.act_told.proofs.Common.{calls_run, actor_place, start_of, outcome_of, calls_told, runs_told, actor_told, end_told, told_by, StandsAsItsActor}
use Rattle.act_orders.specs.declared.told.Actor.{Actor as ActorTold}
use Rattle.act_orders.specs.declared.told.End.TheVariants as told
use Rattle.act_rules.proofs.AsSubmitted.{goes_to}
use Rattle.act_told.proofs.Counting.{passed, call_among, stands}
use Rattle.act_told.proofs.Standing.{Apart, apart, first_is, some_first, begins, call_is, IsCallOf, run_at, calls_ahead, runs_ahead, place_is, place_tells}
use Rattle.act_told.proofs.Turning.{told_is}

-- ---- outcomes and ends

died_by : (answer : Answer) (b : Bool) → is_death answer ≡ b → (if b then Died else Failed) ≡ Died → answer ≡ Err ActorDied
died_by answer true is e = is_death-only answer is
died_by answer false is e = absurd (cc)

died_is : (kept : Option Answer) → outcome_of kept ≡ Died → kept ≡ Some (Err ActorDied)
died_is None e = absurd (cc)
died_is (Some (Ok value)) e = absurd (cc)
died_is (Some (Err fault)) e = ap (λ x. Some x) (died_by (Err fault) (is_death (Err fault)) refl e)

dead_is : (end : EndView) → is_killed end ≡ true → end_told end ≡ told.Dead
dead_is (Killed dead) e = refl
dead_is end e = absurd (cc)

killed_there : (found : Option EndView) → IsTrue (is_killed_end found) → (end : EndView) × (found ≡ Some end) × (is_killed end ≡ true)
killed_there None e = absurd (cc)
killed_there (Some end) e = (end, refl, e)

-- what a retired actor ran, where the end is told so
if_retired : (casts : List ActorSpec) (owners : List OwnerView) (end : EndView) → end_told end ≡ told.Retired → IfRetired end (RanAll casts owners) → (c : ℕ) →
    map (λ item. item.future) (items_of c (end_log end)) ≡ map (λ call. call.0) (calls_to (end_id end) (calls_in owners c))
if_retired casts owners (Retired retired) e ran c = ran.calls c
if_retired casts owners end e ran c = absurd (cc)

-- ---- callers and actors that are there

owner_is : (owners : List OwnerView) (m : ℕ) (owner : OwnerView) → Apart (λ (one : OwnerView). one.id) owners → slice_get owners m ≡ Some owner →
    owner_of owner.id owners ≡ Some owner
owner_is owners m owner callers at =
    let t = λ (one : OwnerView). one.id == owner.id in let found = some_first t owners m at (eq-eqb owner.id owner.id refl) in
    let first = first_is t owners found.1 in
    let place : first.place ≡ m = callers.one first.place m found.0 owner first.at at (eqb-true found.0.id owner.id first.passes) in
    let both : Some found.0 ≡ Some owner = sym first.at ∙ ap (slice_get owners) place ∙ at in found.1 ∙ both

actor_is : (owners : List OwnerView) (ends : List EndView) (x : ℕ) (end : EndView) → slice_get ends x ≡ Some end →
    actor_of (told_by owners ends) x ≡ actor_told owners end
actor_is owners ends x end at =
    get_or_from_slice_get (map (actor_told owners) ends) x (actor_told owners end) (record { callers = []; end = told.Live })
    (slice_get-map (actor_told owners) ends x ∙ ap (option_map (actor_told owners)) at)

-- past the last actor nobody has retired
not_past : (owners : List OwnerView) (ends : List EndView) (x : ℕ) → length ends ≤ x → (actor_of (told_by owners ends) x).end ≡ told.Retired → ⊥
not_past owners ends x past e =
    let none : actor_of (told_by owners ends) x ≡ record { callers = []; end = told.Live } =
    get_or_past (map (actor_told owners) ends) x (record { callers = []; end = told.Live })
    (let size = length-map ends (actor_told owners) in omega (arith, size, past)) in
    let live : told.Live ≡ told.Retired = sym (ap (λ (a : ActorTold). a.end) none) ∙ e in absurd (cc)

-- ---- the two facts

died_right : {casts : List ActorSpec} {plans : List (ℕ × List Step)} (owners : List OwnerView) (ends : List EndView) →
    IsJoined casts plans owners ends → Apart (λ (owner : OwnerView). owner.id) owners → Apart end_id ends → (n : ℕ) (call : Call) →
    (c : IsCallOf ends 0 owners n call) → call.outcome ≡ Died → (actor_of (told_by owners ends) call.actor).end ≡ told.Dead
died_right owners ends j callers actors n call c died =
    let owner : owner_of c.owner.id owners ≡ Some c.owner = owner_is owners c.place c.owner callers c.at in
    let kept : kept_at (kept_in owners c.owner.id) c.number ≡ Some (Err ActorDied) =
    ap (λ o. kept_at (kept_of_owner o) c.number) owner ∙ died_is (kept_at c.owner.kept c.number) (sym c.outcome ∙ died) in
    let dead = j.consistent.deaths c.owner.id c.number kept in
    let both : Some dead.call ≡ Some c.call = sym dead.at ∙ ap (λ o. slice_get (calls_of_owner o) c.number) owner ∙ c.has in
    let same : dead.call ≡ c.call = cc in let there = killed_there (end_of dead.call.actor ends) dead.dead in
    let first = first_is (λ one. end_id one == dead.call.actor) ends there.1 in
    let id : end_id there.0 ≡ dead.call.actor = eqb-true (end_id there.0) dead.call.actor first.passes in
    let place : call.actor ≡ first.place =
    c.actor ∙ ap (λ (s : Submission). actor_place ends s.actor) (sym same) ∙ ap (actor_place ends) (sym id)
    ∙ place_is ends first.place there.0 actors first.at in
    ap (λ x. (actor_of (told_by owners ends) x).end) place
    ∙ ap (λ (a : ActorTold). a.end) (actor_is owners ends first.place there.0 first.at) ∙ dead_is there.0 there.2

retired_right : (casts : List ActorSpec) {plans : List (ℕ × List Step)} (owners : List OwnerView) (ends : List EndView) → IsJoined casts plans owners ends →
    Apart (λ (owner : OwnerView). owner.id) owners → Apart end_id ends → (n : ℕ) (call : Call) → (c : IsCallOf ends 0 owners n call) → (end : EndView) →
    slice_get ends call.actor ≡ Some end → end_told end ≡ told.Retired → Contains (calls_run (told_by owners ends)) n
retired_right casts owners ends j callers actors n call c end at retired =
    let id : c.call.actor ≡ end_id end = place_tells ends c.call.actor end at (sym c.actor) in
    let owner : owner_of c.owner.id owners ≡ Some c.owner = owner_is owners c.place c.owner callers c.at in
    let calls : calls_in owners c.owner.id ≡ c.owner.calls = ap calls_of_owner owner in
    let ran = subst (λ e. IfRetired e (RanAll casts owners)) (get_or_from_slice_get ends call.actor end end at)
    (j.retired call.actor end (slice_get_within ends call.actor end at)) in
    let all = if_retired casts owners end retired ran c.owner.id in
    let r = passed (goes_to (end_id end)) c.number (enumerate_from 0 c.owner.calls) in
    let future : slice_get (map (λ (item : RunItem). item.future) (items_of c.owner.id (end_log end))) r ≡ Some c.number =
    ap (λ ks. slice_get ks r)
    (all ∙ ap (λ calls. map (λ (x : ℕ × Submission). x.0) (calls_to (end_id end) calls)) calls)
    ∙ call_among c.owner.calls c.number c.call c.has id in
    let item = map-slice_get (λ (item : RunItem). item.future) (items_of c.owner.id (end_log end)) r future in
    let s = stands (λ (one : RunItem). one.caller == c.owner.id) (end_log end) r item.0 item.1 in
    let ran_at = run_at owners 0 ends call.actor s.place end item.0 at s.at in
    let b = begins owners 0 c.owner.id c.owner owner in
    let place : b.place ≡ c.place = callers.one b.place c.place c.owner c.owner b.at c.at refl in
    let ahead : calls_ahead b.place owners ≡ calls_ahead c.place owners = ap (λ k. calls_ahead k owners) place in
    let start : start_of 0 item.0.caller owners ≡ start_of 0 c.owner.id owners =
    ap (λ x. start_of 0 x owners) (eqb-true item.0.caller c.owner.id s.passes) in
    let here : start_of 0 item.0.caller owners + item.0.future ≡ n =
    let h = c.stands in let g = b.start in let f = item.2 in omega (arith, h, g, f, ahead, start) in
    let i = runs_ahead call.actor ends + s.place in
    let run : slice_get (calls_run (told_by owners ends)) i ≡ Some n =
    slice_get-map (λ (x : Run). x.call) (runs_told owners 0 ends) i ∙ ap (option_map (λ (x : Run). x.call)) ran_at ∙ ap (λ x. Some x) here in
    (i, slice_get_within (calls_run (told_by owners ends)) i n run, get_or_from_slice_get (calls_run (told_by owners ends)) i n n run)

pub ends_right : (casts : List ActorSpec) (plans : List (ℕ × List Step)) (owners : List OwnerView) (ends : List EndView) → IsJoined casts plans owners ends →
    (n : ℕ) → n < length (told_by owners ends).calls → StandsAsItsActor (told_by owners ends) n
ends_right casts plans owners ends j n lt =
    let callers = apart (λ (owner : OwnerView). owner.id) owners (λ c. list_any (λ (cast : ActorSpec). contains c cast.callers) casts) MAX_CALLERS j.callers in
    let actors = apart end_id ends (λ a. list_any (λ (cast : ActorSpec). cast.actor == a) casts) MAX_ACTORS j.actors in
    let one = element (calls_told ends 0 owners) n lt in let c = call_is ends 0 owners n one.1 in
    let is : call_of (told_by owners ends) n ≡ one.0 = told_is owners ends n one.1 in
    record {
      died = λ died. ap (λ (x : Call). (actor_of (told_by owners ends) x.actor).end) is
          ∙ died_right owners ends j callers actors n one.0 c (sym (ap (λ (x : Call). x.outcome) is) ∙ died);
      retired = λ retired.
          let end : (actor_of (told_by owners ends) one.0.actor).end ≡ told.Retired =
          sym (ap (λ (x : Call). (actor_of (told_by owners ends) x.actor).end) is) ∙ retired in
          elim (cases_lt one.0.actor (length ends)) [
            | inl within ↦
                let there = element ends one.0.actor within in
                retired_right casts owners ends j callers actors n one.0 c there.0 there.1
                (sym (ap (λ (a : ActorTold). a.end) (actor_is owners ends one.0.actor there.0 there.1)) ∙ end)
            | inr past ↦ absurd (not_past owners ends one.0.actor past end)
          ];
    }
