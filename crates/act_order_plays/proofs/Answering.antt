-- What the actors of the play answer.
use Rattle.act_order_plays.proofs.Common.{◌≡◌, ◌≢◌, ℕ, zero, suc, ◌-◌, false, List, [], ◌∷◌, length, map, Option, Some, None, Ok, Err, slice_get, refl, sym, ap}
use Rattle.act_order_plays.proofs.Common.{subst, ◌∙◌, Result, Value, Fault, BadArgs, Dependency, ActorDied, Method, Get, Put, KindState, OwnAt, Ask, Behaviour}
use Rattle.act_order_plays.proofs.Common.{after_ask, RunItem, told_reply, Answer, values_of, step_of_reply, step_of_call, call_reply, after_item, answer_at}
use Rattle.act_order_plays.proofs.Common.{ends_actor, has_terminated, Outcome, Failed, Died, Open, Told, call_of, answer_to, answers, future_of, item_key}
use Rattle.act_order_plays.proofs.Common.{run_key, Nothing}
use Rattle.act_orders.specs.declared.told.Outcome.TheVariants.{Answered}

-- the method of a call that ends so
abbrev pub method_of : Outcome → Method
method_of Failed = Put
method_of outcome = Get

-- whether its answer is taken
abbrev pub IsTaken : Outcome → Type 0
IsTaken Died = ⊥
IsTaken Open = ⊥
IsTaken outcome = Unit {0}

-- what is kept of an answer that is told so
abbrev pub Suits : Outcome → Option Answer → Type 0
Suits Answered kept = kept ≡ Some (Ok Nothing)
Suits Failed kept = (fault : Fault) × (kept ≡ Some (Err fault)) × (fault ≢ ActorDied)
Suits Died kept = kept ≡ Some (Err ActorDied)
Suits Open kept = Unit {0}

-- the item is the run of this call
pub record IsItem (told : Told) (n : ℕ) (item : RunItem) : Type 0 where
  pub caller : item.caller ≡ (call_of told n).caller
  pub future : item.future ≡ future_of told n
  pub method : item.method ≡ method_of (call_of told n).outcome
  pub good : (call_of told n).outcome ≡ Answered → (values : List Value) × (values_of item.args ≡ Ok values)

-- a run list, by the calls
abbrev pub AreItems : Told → List RunItem → List ℕ → Type 0
AreItems told [] [] = Unit {0}
AreItems told [] (n ∷ ns) = ⊥
AreItems told (item ∷ items) [] = ⊥
AreItems told (item ∷ items) (n ∷ ns) = IsItem told n item × AreItems told items ns

-- the keys of a run list's items are those of what is told of its runs
pub item_keys : (told : Told) (items : List RunItem) (ns : List ℕ) → AreItems told items ns → map item_key items ≡ map (run_key told) ns
item_keys told [] [] are = refl
item_keys told (item ∷ items) (n ∷ ns) are = let rest = item_keys told items ns are.1 in let one = are.0.caller in let two = are.0.future in cc
item_keys told items ns are = absurd are

-- where a run list is of these calls, the item of a call stands at the call's place
pub item_of_call : (told : Told) (items : List RunItem) (ns : List ℕ) (place n : ℕ) → AreItems told items ns → slice_get ns place ≡ Some n →
    (item : RunItem) × (slice_get items place ≡ Some item) × IsItem told n item
item_of_call told items [] place n are at = absurd (cc)
item_of_call told [] (m ∷ ns) place n are at = absurd are
item_of_call told (item ∷ items) (m ∷ ns) zero n are at = let same : m ≡ n = cc in (item, refl, subst (λ k. IsItem told k item) same are.0)
item_of_call told (item ∷ items) (m ∷ ns) (suc place) n are at = item_of_call told items ns place n are.1 at

pub call_of_item : (told : Told) (items : List RunItem) (ns : List ℕ) (place : ℕ) (item : RunItem) → AreItems told items ns →
    slice_get items place ≡ Some item → (n : ℕ) × (slice_get ns place ≡ Some n) × IsItem told n item
call_of_item told [] ns place item are at = absurd (cc)
call_of_item told (first ∷ items) [] place item are at = absurd are
call_of_item told (first ∷ items) (m ∷ ns) zero item are at = let same : first ≡ item = cc in (m, refl, subst (λ i. IsItem told m i) same are.0)
call_of_item told (first ∷ items) (m ∷ ns) (suc place) item are at = call_of_item told items ns place item are.1 at

-- ---- the state of an actor

pub record IsOurs (state : KindState) : Type 0 where
  pub behaviour : Behaviour
  pub is : state ≡ OwnAt behaviour
  pub tells : (asks : List Ask) (ask : Ask) → behaviour.told asks ask ≡ answer_to ask.method

pub opening_ours : IsOurs (OwnAt answers)
opening_ours = record { behaviour = answers; is = refl; tells = λ asks ask. refl }

asked_ours : (ask : Ask) (behaviour : Behaviour) → ((asks : List Ask) (ask : Ask) → behaviour.told asks ask ≡ answer_to ask.method) →
    IsOurs (OwnAt (after_ask ask behaviour))
asked_ours ask behaviour tells = record { behaviour = after_ask ask behaviour; is = refl; tells = λ asks other. tells (ask ∷ asks) other }

-- an answer that goes with what is told
abbrev FitsOutcome : Outcome → Answer → Type 0
FitsOutcome outcome answer = IsTaken outcome → Suits outcome (Some answer)

record Went (outcome : Outcome) (after : KindState × Answer) : Type 0 where
  ours : IsOurs after.0
  answer : FitsOutcome outcome after.1

told_went : (outcome : Outcome) (state : KindState) (behaviour : Behaviour) (values : List Value) → state ≡ OwnAt behaviour → ((asks : List Ask) (ask : Ask) →
    behaviour.told asks ask ≡ answer_to ask.method) → Went outcome (step_of_reply state (call_reply state (method_of outcome) values))
told_went Answered state behaviour values is tells =
    let ask : Ask = record { method = Get; args = values } in
    let reply : call_reply state Get values ≡ Ok (OwnAt (after_ask ask behaviour), Nothing) =
    ap (λ s. call_reply s Get values) is ∙ ap (told_reply (OwnAt (after_ask ask behaviour))) (tells [] ask) in
    rw reply (record { ours = asked_ours ask behaviour tells; answer = λ taken. refl })
told_went Failed state behaviour values is tells =
    let ask : Ask = record { method = Put; args = values } in
    let reply : call_reply state Put values ≡ Err BadArgs =
    ap (λ s. call_reply s Put values) is ∙ ap (told_reply (OwnAt (after_ask ask behaviour))) (tells [] ask) in
    rw reply (record { ours = record { behaviour = behaviour; is = is; tells = tells }; answer = λ taken. (BadArgs, refl, λ e. absurd (cc)) })
told_went outcome state behaviour values is tells =
    let ask : Ask = record { method = Get; args = values } in
    let reply : call_reply state Get values ≡ Ok (OwnAt (after_ask ask behaviour), Nothing) =
    ap (λ s. call_reply s Get values) is ∙ ap (told_reply (OwnAt (after_ask ask behaviour))) (tells [] ask) in
    rw reply (record { ours = asked_ours ask behaviour tells; answer = λ taken. absurd taken })

-- a call whose argument failed fails
not_asked : (outcome : Outcome) {state : KindState} (k : ℕ) → IsOurs state → (outcome ≡ Answered → ⊥) → Went outcome (state, Err (Dependency k))
not_asked Answered k ours differs = absurd (differs refl)
not_asked Failed k ours differs = record { ours = ours; answer = λ taken. (Dependency k, refl, λ e. absurd (cc)) }
not_asked outcome k ours differs = record { ours = ours; answer = λ taken. absurd taken }

item_went : (told : Told) (n : ℕ) (state : KindState) (item : RunItem) → IsOurs state → IsItem told n item →
    Went (call_of told n).outcome (after_item state item)
item_went told n state item ours is = go (values_of item.args) refl
  where
    go : (r : Result (List Value) ℕ) → values_of item.args ≡ r → Went (call_of told n).outcome (step_of_call state item r)
    go (Ok values) e = subst (λ m. Went (call_of told n).outcome (step_of_reply state (call_reply state m values))) (sym is.method)
        (told_went (call_of told n).outcome state ours.behaviour values ours.is ours.tells)
    go (Err k) e = not_asked (call_of told n).outcome k ours (λ answered. let g = is.good answered in let bad : Err k ≡ Ok g.0 = sym e ∙ g.1 in cc)

-- what the actor answered at a place goes with what is told
pub answer_fits : (told : Told) (state : KindState) (items : List RunItem) (ns : List ℕ) (place n : ℕ) {answer : Answer} → IsOurs state →
    AreItems told items ns → slice_get ns place ≡ Some n → answer_at state items place ≡ Some answer → IsTaken (call_of told n).outcome →
    Suits (call_of told n).outcome (Some answer)
answer_fits told state items [] place n ours are at e = absurd (cc)
answer_fits told state [] (m ∷ ns) place n ours are at e = absurd are
answer_fits told state (item ∷ items) (m ∷ ns) zero n {answer} ours are at e =
    let same : m ≡ n = cc in let gives : (after_item state item).1 ≡ answer = cc in
    subst (λ k. IsTaken (call_of told k).outcome → Suits (call_of told k).outcome (Some answer)) same
    (subst (λ x. IsTaken (call_of told m).outcome → Suits (call_of told m).outcome (Some x)) gives (item_went told m state item ours are.0).answer)
answer_fits told state (item ∷ items) (m ∷ ns) (suc place) n {answer} ours are at e =
    answer_fits told (after_item state item).0 items ns place n (item_went told m state item ours are.0).ours are.1 at e

-- ---- no item ends its actor

not_end : (outcome : Outcome) (item : RunItem) → item.method ≡ method_of outcome → ends_actor (Some item) ≡ false
not_end Answered item e = rw e refl
not_end outcome item e = rw e refl

-- where a run list is of calls that are told, its last item doesn't end the actor
pub none_terminated : (told : Told) (items : List RunItem) (ns : List ℕ) → AreItems told items ns → has_terminated items ≡ false
none_terminated told items ns are = go (slice_get items (length items - 1)) refl
  where
    go : (o : Option RunItem) → slice_get items (length items - 1) ≡ o → ends_actor o ≡ false
    go None e = refl
    go (Some item) e = let r = call_of_item told items ns (length items - 1) item are e in not_end (call_of told r.0).outcome item r.2.method
