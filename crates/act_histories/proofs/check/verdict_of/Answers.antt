use Rattle.act_histories.proofs.Common.{◌≡◌, ◌++◌, ◌∙◌, sym, true, IfOk-weaker, Threads, told_part}
use Rattle.std.proofs.lemmas.List.{take-append-drop}
use Rattle.act_summaries.proofs.Spelled.{spelled_good}
use Rattle.act_histories.proofs.Verdicts.{of_parts}
use Rattle.act_histories.proofs.check.verdict_of.Goals as goal

pub returns-then-bytes-gt-MAX_SCRIPT_BYTES : goal.returns-then-bytes-gt-MAX_SCRIPT_BYTES
returns-then-bytes-gt-MAX_SCRIPT_BYTES g c = c.in_ok-mistake_of.ensures.of_bytes c.args.bytes.now

pub verdict_of_script-requires-clause-sayable : goal.verdict_of_script-requires-clause-sayable
verdict_of_script-requires-clause-sayable g c = (spelled_good Threads c.split_at.result.0.now c.in-Ok.ensures.spelled).roles

pub returns-in-Ok : goal.returns-in-Ok
returns-in-Ok g c =
    let bytes = c.args.bytes.now in let front = c.split_at.result.0.now in let rest = c.split_at.result.1.now in let at = c.cut_of-at.result.at in
    let parts : bytes ≡ front ++ rest = sym (take-append-drop at bytes) ∙ (λ i. sym c.split_at.ensures.front i ++ sym c.split_at.ensures.back i) in
    let told : rest ≡ told_part true bytes = c.split_at.ensures.back ∙ c.cut_of-at.ensures.told in
    IfOk-weaker c.verdict_of_script.result _ _
    (λ verdict is. of_parts front rest verdict parts told c.in-Ok.ensures.spelled is)
    c.verdict_of_script.ensures

pub returns : goal.returns
returns g c = c.in_ok-mistake_of-in-Err-Line.ensures.of_bytes c.args.bytes.now
