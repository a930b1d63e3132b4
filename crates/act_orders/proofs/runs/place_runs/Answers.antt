use Rattle.act_orders.proofs.Common.{◌≡◌, ◌+◌, ◌<◌, ap, sym, subst, arith, Some, length, take, set, slice_get_within, Run, HasPlaces, run_of}
use Rattle.act_orders.proofs.Running.{places_more, noted}
use Rattle.act_orders.proofs.runs.place_runs.Goals as goal

pub loop-place-preserved : goal.loop-place-preserved
loop-place-preserved c =
    let told = c.args.told.now in let i = c.loop-place.place in let places = c.loop-place.places.items in
    let inv = c.loop-place.invariant in let within : i < length told.runs = omega arith in
    let call : c.run-call.result.call ≡ (run_of told i).call = ap (λ (x : Run). x.call) c.run-call.ensures in
    let more = noted told i c.loop-place.faults c.note.new.faults c.fault_of_run.result c.in_ok-note.ensures.ok
    c.fault_of_run.ensures inv.faults inv.turn within in
    record {
      places = subst (λ k. HasPlaces told (take (i + 1) told.runs) (set places k (Some i))) (sym call)
          (places_more told places i within inv.places (c.requires.whole.runs i within));
      faults = more.all;
      more = omega (arith, more.more, inv.more);
      turn = more.turn;
    }

pub returns-clause-runs : goal.returns-clause-runs
returns-clause-runs c none i run at = c.loop-place.invariant.turn none i run (let w = slice_get_within c.args.told.now.runs i run at in omega arith) at
