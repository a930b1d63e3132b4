-- That run lists of a joined run are in turn.
use Rattle.act_told.proofs.Common.{◌≡◌, ℕ, ◌+◌, ◌<◌, ◌==◌, List, [], length, map, take, slice_get, Option, Some, None, option_map, refl, ap, sym, subst, ◌∙◌}
use Rattle.act_told.proofs.Common.{arith, Contains, list_any, eq-eqb, eqb-true, slice_get_within, slice_get-map, get_or_from_slice_get, MAX_ACTORS, MAX_CALLERS}
use Rattle.act_told.proofs.Common.{ActorSpec, contains, IsPrefix, IsAsSubmitted, items_of, Submission, Step, All_at, element, numbered, numbers, map-slice_get}
use Rattle.act_told.proofs.Common.{OwnerView, EndView, end_id, end_log, IsJoined, owner_of, calls_in, kept_in, log_in, calls_of_owner, log_of_end, Call, Run}
use Rattle.act_told.proofs.Common.{Open, call_of, calls_run, SameWay, IsNext, actor_place, start_of, call_told, calls_told, runs_told, told_by, found_before}
use Rattle.act_told.proofs.Common.{has_before}
use Rattle.act_told.proofs.Counting.{ran_call, one_place, ran_before}
use Rattle.act_told.proofs.Standing.{Apart, apart, first_is, some_first, Begins, begins, call_at, call_is, run_at, run_is, IsRunOf, calls_ahead, runs_ahead}
use Rattle.act_told.proofs.Standing.{place_is, place_tells}

-- the log of an actor that is there
pub log_is : (ends : List EndView) (x : ℕ) (end : EndView) → Apart end_id ends → slice_get ends x ≡ Some end → log_in ends (end_id end) ≡ end_log end
log_is ends x end apart at =
    let t = λ (one : EndView). end_id one == end_id end in
    let found = some_first t ends x at (eq-eqb (end_id end) (end_id end) refl) in
    let first = first_is t ends found.1 in
    let place : first.place ≡ x = apart.one first.place x found.0 end first.at at (eqb-true (end_id found.0) (end_id end) first.passes) in
    let both : Some found.0 ≡ Some end = sym first.at ∙ ap (slice_get ends) place ∙ at in ap log_of_end (found.1 ∙ both)

owner_there : (found : Option OwnerView) (k : ℕ) {call : Submission} → slice_get (calls_of_owner found) k ≡ Some call →
    (owner : OwnerView) × (found ≡ Some owner)
owner_there None k at = absurd (cc)
owner_there (Some owner) k at = (owner, refl)

-- a run with its caller, whose calls the log has in order
record Ran (owners : List OwnerView) (ends : List EndView) (i : ℕ) (run : Run) : Type 0 where
  is : IsRunOf owners 0 ends i run
  owner : OwnerView
  caller : Begins owners 0 is.item.caller owner
  order : IsPrefix (map numbered (items_of is.item.caller (end_log is.end))) (numbers (end_id is.end) owner.calls)

ran : (casts : List ActorSpec) (plans : List (ℕ × List Step)) (owners : List OwnerView) (ends : List EndView) → IsJoined casts plans owners ends →
    Apart end_id ends → (i : ℕ) (run : Run) → slice_get (runs_told owners 0 ends) i ≡ Some run → Ran owners ends i run
ran casts plans owners ends j apart i run at =
    let is = run_is owners 0 ends i run at in let c = is.item.caller in
    let log : log_in ends (end_id is.end) ≡ end_log is.end = log_is ends is.place is.end apart is.at in
    let submitted = All_at (IsAsSubmitted (calls_in owners) (kept_in owners)) (log_in ends (end_id is.end)) is.number
    (j.consistent.as_submitted (end_id is.end)) (ap (λ items. slice_get items is.number) log ∙ is.has) in
    let owner = owner_there (owner_of c owners) is.item.future submitted.at in
    let calls : calls_in owners c ≡ owner.0.calls = ap calls_of_owner owner.1 in
    record {
      is = is;
      owner = owner.0;
      caller = begins owners 0 c owner.0 owner.1;
      order = subst (λ calls. IsPrefix (map numbered (items_of c (end_log is.end))) (numbers (end_id is.end) calls)) calls (subst (λ items. IsPrefix
          (map numbered (items_of c items)) (numbers (end_id is.end) (calls_in owners c))) log (j.consistent.in_order (end_id is.end) c));
    }

-- what a call is told as
pub told_is : (owners : List OwnerView) (ends : List EndView) (n : ℕ) {call : Call} → slice_get (calls_told ends 0 owners) n ≡ Some call →
    call_of (told_by owners ends) n ≡ call
told_is owners ends n {call} at =
    get_or_from_slice_get (calls_told ends 0 owners) n call (record { caller = 0; actor = 0; waits = []; takes = []; outcome = Open }) at

-- the call of a run, as it is told
record CallOf (owners : List OwnerView) (ends : List EndView) (i : ℕ) (run : Run) (r : Ran owners ends i run) : Type 0 where
  call : Submission
  to : call.actor ≡ end_id r.is.end
  stands : run.call ≡ calls_ahead r.caller.place owners + r.is.item.future
  told : slice_get (calls_told ends 0 owners) run.call ≡ Some (call_told ends r.owner (0 + calls_ahead r.caller.place owners) r.is.item.future call)

call_of_run : (owners : List OwnerView) (ends : List EndView) (i : ℕ) (run : Run) (r : Ran owners ends i run) → CallOf owners ends i run r
call_of_run owners ends i run r =
    let it = ran_call (end_log r.is.end) r.owner.calls (end_id r.is.end) r.is.number r.order r.is.has in
    let stands : run.call ≡ calls_ahead r.caller.place owners + r.is.item.future = let h = r.caller.start in let g = r.is.call in omega (arith, h, g) in
    record {
      call = it.call;
      to = it.actor;
      stands = stands;
      told = ap (slice_get (calls_told ends 0 owners)) stands ∙ call_at ends 0 owners r.caller.place r.is.item.future r.owner it.call r.caller.at it.at;
    }

-- ---- the three facts

here_is : (owners : List OwnerView) (ends : List EndView) (i : ℕ) (run : Run) (r : Ran owners ends i run) → Apart end_id ends →
    (call_of (told_by owners ends) run.call).actor ≡ run.actor
here_is owners ends i run r actors =
    let it = call_of_run owners ends i run r in
    let told = call_told ends r.owner (0 + calls_ahead r.caller.place owners) r.is.item.future it.call in
    let place : actor_place ends (end_id r.is.end) ≡ r.is.place = place_is ends r.is.place r.is.end actors r.is.at in
    let actor : run.actor ≡ r.is.place = let h = r.is.actor in omega (arith, h) in
    ap (λ (call : Call). call.actor) (told_is owners ends run.call it.told) ∙ ap (actor_place ends) it.to ∙ place ∙ sym actor

once_is : (owners : List OwnerView) (ends : List EndView) (i m : ℕ) (run other : Run) (r : Ran owners ends i run) (s : Ran owners ends m other) →
    Apart (λ (owner : OwnerView). owner.id) owners → Apart end_id ends → other.call ≡ run.call → i ≡ m
once_is owners ends i m run other r s callers actors same =
    let it = call_of_run owners ends i run r in let its = call_of_run owners ends m other s in
    let one = call_told ends r.owner (0 + calls_ahead r.caller.place owners) r.is.item.future it.call in
    let two = call_told ends s.owner (0 + calls_ahead s.caller.place owners) s.is.item.future its.call in
    let found : Some two ≡ Some one = sym its.told ∙ ap (slice_get (calls_told ends 0 owners)) same ∙ it.told in
    let call : two ≡ one = cc in let ids : s.owner.id ≡ r.owner.id = ap (λ (c : Call). c.caller) call in
    let place : s.caller.place ≡ r.caller.place = callers.one s.caller.place r.caller.place s.owner r.owner s.caller.at r.caller.at ids in
    let ahead : calls_ahead s.caller.place owners ≡ calls_ahead r.caller.place owners = ap (λ k. calls_ahead k owners) place in
    let future : s.is.item.future ≡ r.is.item.future = let h = it.stands in let g = its.stands in omega (arith, h, g, same, ahead) in
    let caller : s.is.item.caller ≡ r.is.item.caller = sym s.caller.id ∙ ids ∙ r.caller.id in
    let actor : s.is.place ≡ r.is.place =
    sym (place_is ends s.is.place s.is.end actors s.is.at) ∙ ap (actor_place ends) (sym its.to) ∙ ap (λ (c : Call). c.actor) call
    ∙ ap (actor_place ends) it.to ∙ place_is ends r.is.place r.is.end actors r.is.at in
    let both : Some s.is.end ≡ Some r.is.end = sym s.is.at ∙ ap (slice_get ends) actor ∙ r.is.at in
    let end : s.is.end ≡ r.is.end = cc in
    let has : slice_get (end_log r.is.end) s.is.number ≡ Some s.is.item =
    subst (λ e. slice_get (end_log e) s.is.number ≡ Some s.is.item) end s.is.has in
    let number : r.is.number ≡ s.is.number =
    one_place (end_log r.is.end) r.owner.calls (end_id r.is.end) r.is.number s.is.number r.is.item s.is.item r.order r.is.has has caller future in
    let runs : runs_ahead s.is.place ends ≡ runs_ahead r.is.place ends = ap (λ k. runs_ahead k ends) actor in
    let h = r.is.stands in let g = s.is.stands in omega (arith, h, g, runs, number)

turn_is : (owners : List OwnerView) (ends : List EndView) (i : ℕ) (run : Run) (r : Ran owners ends i run) → Apart (λ (owner : OwnerView). owner.id) owners →
    Apart end_id ends → (n : ℕ) → n < run.call → SameWay (told_by owners ends) n run.call → Contains (take i (calls_run (told_by owners ends))) n
turn_is owners ends i run r callers actors n lt way =
    let it = call_of_run owners ends i run r in
    let mine = call_told ends r.owner (0 + calls_ahead r.caller.place owners) r.is.item.future it.call in
    let this : call_of (told_by owners ends) run.call ≡ mine = told_is owners ends run.call it.told in
    let within : n < length (calls_told ends 0 owners) = let h = slice_get_within (calls_told ends 0 owners) run.call mine it.told in omega (arith, h, lt) in
    let one = element (calls_told ends 0 owners) n within in let c = call_is ends 0 owners n one.1 in
    let that : call_of (told_by owners ends) n ≡ one.0 = told_is owners ends n one.1 in
    let ids : c.owner.id ≡ r.owner.id = sym c.caller ∙ sym (ap (λ (x : Call). x.caller) that) ∙ way.0 ∙ ap (λ (x : Call). x.caller) this in
    let place : c.place ≡ r.caller.place = callers.one c.place r.caller.place c.owner r.owner c.at r.caller.at ids in
    let both : Some c.owner ≡ Some r.owner = sym c.at ∙ ap (slice_get owners) place ∙ r.caller.at in
    let owner : c.owner ≡ r.owner = cc in
    let has : slice_get r.owner.calls c.number ≡ Some c.call = subst (λ (o : OwnerView). slice_get o.calls c.number ≡ Some c.call) owner c.has in
    let ahead : calls_ahead c.place owners ≡ calls_ahead r.caller.place owners = ap (λ k. calls_ahead k owners) place in
    let earlier : c.number < r.is.item.future = let h = c.stands in let g = it.stands in omega (arith, h, g, lt, ahead) in
    let actor : actor_place ends c.call.actor ≡ r.is.place =
    sym c.actor ∙ sym (ap (λ (x : Call). x.actor) that) ∙ way.1 ∙ ap (λ (x : Call). x.actor) this ∙ ap (actor_place ends) it.to
    ∙ place_is ends r.is.place r.is.end actors r.is.at in
    let b = ran_before (end_log r.is.end) r.owner.calls r.is.number c.number r.is.item c.call r.order r.is.has earlier has
    (place_tells ends c.call.actor r.is.end r.is.at actor) in
    let at = run_at owners 0 ends r.is.place b.place r.is.end b.item r.is.at b.at in
    let start : start_of 0 b.item.caller owners ≡ calls_ahead r.caller.place owners =
    ap (λ x. start_of 0 x owners) b.caller ∙ (let h = r.caller.start in omega (arith, h)) in
    let call : start_of 0 b.item.caller owners + b.item.future ≡ n = let h = c.stands in let g = b.future in omega (arith, h, g, start, ahead) in
    has_before i (calls_run (told_by owners ends)) (runs_ahead r.is.place ends + b.place)
    (slice_get-map (λ (x : Run). x.call) (runs_told owners 0 ends) (runs_ahead r.is.place ends + b.place)
    ∙ ap (option_map (λ (x : Run). x.call)) at ∙ ap (λ x. Some x) call)
    (let h = r.is.stands in let g = b.earlier in omega (arith, h, g))

pub in_turn : (casts : List ActorSpec) (plans : List (ℕ × List Step)) (owners : List OwnerView) (ends : List EndView) → IsJoined casts plans owners ends →
    (i : ℕ) (run : Run) → slice_get (told_by owners ends).runs i ≡ Some run → IsNext (told_by owners ends) (take i (calls_run (told_by owners ends))) run
in_turn casts plans owners ends j i run at =
    let callers = apart (λ (owner : OwnerView). owner.id) owners (λ c. list_any (λ (cast : ActorSpec). contains c cast.callers) casts) MAX_CALLERS j.callers in
    let actors = apart end_id ends (λ a. list_any (λ (cast : ActorSpec). cast.actor == a) casts) MAX_ACTORS j.actors in
    let r = ran casts plans owners ends j actors i run at in
    record {
      here = here_is owners ends i run r actors;
      once = λ has.
          let among = found_before i (calls_run (told_by owners ends)) run.call has in
          let other = map-slice_get (λ (x : Run). x.call) (runs_told owners 0 ends) among.0 among.2 in
          let s = ran casts plans owners ends j actors among.0 other.0 other.1 in
          let same = once_is owners ends i among.0 run other.0 r s callers actors other.2 in
          let lt = among.1 in absurd (omega (arith, same, lt));
      in_turn = turn_is owners ends i run r callers actors;
    }
