-- What shows that a history isn't in order contradicts that it is.
use Rattle.act_orders.proofs.Common.{◌≡◌, ℕ, zero, suc, ◌+◌, ◌-◌, ◌<◌, ◌≤◌, List, length, sym, ap, ◌∙◌, arith, Some, slice_get, option_map, slice_get_within}
use Rattle.act_orders.proofs.Common.{slice_get-map, Fault, Strays, Again, Skips, NoRole, Alive, LeftOut, Spoiled, Lacks, NoAnswer, Circle, Happening, Outcome}
use Rattle.act_orders.proofs.Common.{Run, Told, call_of, calls_run, IsOrder, IsInOrderBy, IsCircle, IsFault, HasFailed, place_in, stands_in, element}
use Rattle.act_orders.specs.declared.told.Outcome.TheVariants as out
use Rattle.act_orders.proofs.Lists.{found_before, has_before}

-- the call of the run at a place
pub call_at : (told : Told) (i : ℕ) (run : Run) → slice_get told.runs i ≡ Some run → slice_get (calls_run told) i ≡ Some run.call
call_at told i run at = slice_get-map (λ r. r.call) told.runs i ∙ ap (λ o. option_map (λ r. r.call) o) at

-- going along what must come after the next, one goes back in the order
falls : {told : Told} {order circle : List Happening} (first : Happening) (p : ℕ) → IsOrder told order → IsCircle told circle →
    slice_get circle 0 ≡ Some first → slice_get order p ≡ Some first → (i : ℕ) (happening : Happening) → slice_get circle i ≡ Some happening →
    (k : ℕ) × (k + i ≤ p) × (slice_get order k ≡ Some happening)
falls first p is round begins at zero h here = let same : Some first ≡ Some h = sym begins ∙ here in (p, omega arith, at ∙ same)
falls {told} {order} {circle} first p is round begins at (suc i) h here =
    let lt : i < length circle = let w = slice_get_within circle (suc i) h here in omega (arith, w) in
    let one = element circle i lt in let before = falls first p is round begins at i one.0 one.1 in let e : suc i ≡ i + 1 = omega arith in
    let cause = round.waits i one.0 h one.1 (ap (λ k. slice_get circle k) (sym e) ∙ here) in
    let after = found_before before.0 order h ((is.after before.0 one.0 before.2).causes h cause) in (after.0, omega (arith, after.1, before.1), after.2)

circle_breaks : (told : Told) (order circle : List Happening) → IsOrder told order → IsCircle told circle → ⊥
circle_breaks told order circle is round =
    let f = round.first in
    let in' = is.all f (round.happened f (stands_in circle 0 round.begins)) in
    let place = place_in order f in' in
    let last = falls f place.0 is round round.begins place.1 (length circle - 1) f round.ends in
    let lt : last.0 < place.0 = omega (arith, last.1, round.more) in (is.after place.0 f place.1).once (has_before place.0 order last.0 last.2 lt)

-- a history that has a fault is in order by no order
pub fault_breaks : {told : Told} (fault : Fault) {order : List Happening} → IsFault told fault → IsInOrderBy told order → ⊥
fault_breaks (Strays i) f o = f.2 (o.runs i f.0 f.1).here
fault_breaks {told} (Again i j) f o = (o.runs i f.2 f.4).once (has_before i (calls_run told) j (call_at told j f.1 f.3 ∙ ap Some f.5) f.0)
fault_breaks (Skips i n) f o = f.4 ((o.runs i f.0 f.1).in_turn n f.2 f.3)
fault_breaks (NoRole n) f o = f.1 (o.ends n f.0).role
fault_breaks (Alive n) f o = f.2 ((o.ends n f.0).died f.1)
fault_breaks (LeftOut n) f o = f.2 ((o.ends n f.0).retired f.1)
fault_breaks {told} (Spoiled n k) f o = failed (call_of told k).outcome f.3 ((o.ends n f.0).taken f.1 k f.2)
  where
    failed : (outcome : Outcome) → HasFailed outcome → outcome ≡ out.Answered → ⊥
    failed out.Failed has is = absurd (cc)
    failed out.Died has is = absurd (cc)
    failed outcome has is = has
fault_breaks (Lacks one other) {order} f o =
    let place = place_in order one (o.causes.all one f.0) in
    let before = found_before place.0 order other ((o.causes.after place.0 one place.1).causes other f.1) in
    f.2 (o.causes.only other (stands_in order before.0 before.2))
fault_breaks (NoAnswer k) f o = f.1 (o.waits k f.0)
fault_breaks {told} (Circle circle) {order} f o = circle_breaks told order circle o.causes f
