use Rattle.act_console.proofs.Common.{◌<◌, ◌≤◌, ◌++◌, length, string_bytes, ap, ◌∙◌, arith, future_line, owner_line}
use Rattle.act_console.proofs.Placed.{goes_on_found, is_done}
use Rattle.act_console.proofs.report.push_futures.Goals as goal

pub loop-number-preserved : goal.loop-number-preserved
loop-number-preserved c =
    let owner = c.args.owner.now in let within : c.loop-number.number < length owner.calls = omega arith in
    goes_on_found (future_line owner.id owner.kept) (string_bytes c.loop-number.text) _ owner.calls within (c.in_ok-push_future.ensures
    ∙ ap (λ k. string_bytes c.loop-number.text ++ owner_line owner k) c.new.ensures) c.loop-number.invariant

pub returns : goal.returns
returns c =
    let owner = c.args.owner.now in let all : length owner.calls ≤ c.loop-number.number = omega arith in
    is_done (future_line owner.id owner.kept) (string_bytes c.loop-number.text) _ owner.calls c.loop-number.number all c.loop-number.invariant
