-- A history in order is a play.
use Rattle.act_order_plays.proofs.Common.{◌≡◌, ◌≢◌, ℕ, zero, suc, ◌<◌, ◌≤◌, List, ◌++◌, length, take, refl, sym, subst, arith, Contains, Event, History}
use Rattle.act_order_plays.proofs.Common.{opening, history, after_all-append, End, Live, Dead, Retired, Happening, Submitted, Ran, Answered, Open, Told}
use Rattle.act_order_plays.proofs.Common.{call_of, Happened, IsInOrderBy, IsWhole, Fits, LeavesTold, IsPlayOf, casts_of, get_taken, place_in, stands_in}
use Rattle.act_order_plays.proofs.Common.{in_from_contains}
use Rattle.act_order_plays.proofs.Premises.{Premises, premises}
use Rattle.act_order_plays.proofs.Stands.{Leads, leads_now, leads_then}
use Rattle.act_order_plays.proofs.Playing.{all_reached, waited_more}
use Rattle.act_order_plays.proofs.Ends.{end_of, Stage, first_stage, lives_on, dies_now, all_end}
use Rattle.act_order_plays.proofs.Releasing.{retires_now}

-- one actor more ends
next_stage : (told : Told) (fits : Premises told) (j : ℕ) (h : History) → j < length told.actors → Stage told j h → Leads (Stage told (suc j)) h
next_stage told fits j h lt stage = go (end_of told j) refl
  where
    go : (e : End) → end_of told j ≡ e → Leads (Stage told (suc j)) h
    go Live e = leads_now (Stage told (suc j)) h (lives_on told j h stage e)
    go Dead e = dies_now told fits j h lt stage e
    go Retired e = retires_now told j lt e h stage

stages : (told : Told) (fits : Premises told) (j : ℕ) (h : History) → j ≤ length told.actors → Stage told 0 h → Leads (Stage told j) h
stages told fits zero h le stage = leads_now (Stage told 0) h stage
stages told fits (suc j) h le stage =
    leads_then (Stage told j) (Stage told (suc j)) h (stages told fits j h (omega arith) stage) (λ g now. next_stage told fits j g le now)

-- an answer that a call took which ran is among what happened
taken_told : (told : Told) (order : List Happening) → IsInOrderBy told order → (n m : ℕ) → Happened told (Ran n) → Contains (call_of told n).takes m →
    (call_of told m).outcome ≢ Open
taken_told told order by n m ran takes =
    let at = place_in order (Ran n) (by.causes.all (Ran n) ran) in
    let early = place_in (take at.0 order) (Answered m) ((by.causes.after at.0 (Ran n) at.1).causes (Answered m) takes) in
    (by.causes.only (Answered m) (stands_in order early.0 (get_taken at.0 order early.0 early.1).1)).1

-- a whole history within the limits that is in order has events that are a play of it
pub play_of : (told : Told) (order : List Happening) → IsWhole told → Fits told → IsInOrderBy told order → (events : List Event) × IsPlayOf told events
play_of told order whole fits by =
    let given = premises told whole fits by in let all = all_reached told order given by in let h = history (casts_of told) all.events in
    let ends : Leads (LeavesTold told) h = leads_then (Stage told (length told.actors)) (LeavesTold told) h
    (stages told given (length told.actors) h (omega arith) (first_stage told order h by all.good all.stands))
    (λ g stage. leads_now (LeavesTold told) g (all_end told g stage)) in (
      all.events ++ ends.0,
      record {
        leaves = subst (LeavesTold told) (sym (after_all-append (opening (casts_of told)) all.events ends.0)) ends.1;
        waits = λ n m lt waits. waited_more ends.0 n m (all.waits n m (in_from_contains order (Submitted n) (by.causes.all (Submitted n) lt)) waits);
        last_waits = λ m waits. (by.waits m waits).1;
        taken = λ n m ran takes. taken_told told order by n m ran takes;
      },
    )
