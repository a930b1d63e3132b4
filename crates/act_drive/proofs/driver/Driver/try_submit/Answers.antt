use Rattle.act_drive.proofs.Common.{◌≡◌, ◌≢◌, ◌∙◌, ap, unwrap_or, NoMemory, session_view, call_refusal}
use Rattle.act_drive.proofs.Drivers.{stays_trans}
use Rattle.act_drive.proofs.CodeSteps.{refusal_in_room, accepted_before, refused_same, handed_on, does_submit, submits_waited, on_err}
use Rattle.act_drive.proofs.driver.Driver.try_submit.Goals as goal

pub returns-in_err-k-clause-refusal : goal.returns-in_err-k-clause-refusal
returns-in_err-k-clause-refusal g c =
    let old = c.args.self.now in let mid = c.wait_if_full.new.self in
    let told : c.in_err-k.field-0.0 ≡ unwrap_or (call_refusal (session_view old.owner) c.args.a c.args.args) NoMemory =
    c.in_err-k.ensures.refusal ∙ ap (λ o. unwrap_or o NoMemory)
    (refusal_in_room old mid c.args.a c.args.args c.in_ok-wait_if_full.ensures.only_waits.waits c.in_ok-wait_if_full.ensures.room) in
    handed_on c.from_residual-in_err-k.result c.in_err-k.field-0.0
    (λ r. r ≡ unwrap_or (call_refusal (session_view old.owner) c.args.a c.args.args) NoMemory) c.from_residual-in_err-k.ensures.1 told

pub returns-in_err-k-clause-refused : goal.returns-in_err-k-clause-refused
returns-in_err-k-clause-refused g c =
    let old = c.args.self.now in let mid = c.wait_if_full.new.self in
    let told : c.in_err-k.field-0.0 ≡ unwrap_or (call_refusal (session_view old.owner) c.args.a c.args.args) NoMemory =
    c.in_err-k.ensures.refusal ∙ ap (λ o. unwrap_or o NoMemory)
    (refusal_in_room old mid c.args.a c.args.args c.in_ok-wait_if_full.ensures.only_waits.waits c.in_ok-wait_if_full.ensures.room) in
    handed_on c.from_residual-in_err-k.result c.in_err-k.field-0.0 (λ r. r ≢ NoMemory → c.enter.new.self ≡ old) c.from_residual-in_err-k.ensures.1
    (refused_same told c.in_err-k.ensures.err c.in_ok-wait_if_full.ensures.same)

pub returns-clause-stays : goal.returns-clause-stays
returns-clause-stays g c = stays_trans c.in_ok-wait_if_full.ensures.only_waits.waits.stay c.in_ok-k.ensures.stays

pub returns-clause-does : goal.returns-clause-does
returns-clause-does g c =
    let waits = c.in_ok-wait_if_full.ensures.only_waits.waits in
    does_submit c.args.lines.now c.enter.new.self c.args.a c.args.method c.args.args waits c.in_ok-k.ensures.ok c.in_ok-k.ensures.passes
    (accepted_before c.args.a c.args.args waits c.in_ok-k.ensures.accepted)

pub returns-clause-submits : goal.returns-clause-submits
returns-clause-submits g c =
    submits_waited c.enter.new.self c.args.a c.args.method c.args.args c.in_ok-wait_if_full.ensures.only_waits.waits c.in_ok-k.ensures.ok

pub returns-clause-traced : goal.returns-clause-traced
returns-clause-traced g c start done is = c.in_ok-k.ensures.traced c.args.lines.now start done (c.in_ok-wait_if_full.ensures.only_waits.traced start done is)

pub returns-in_err-wait_if_full-clause-calling : goal.returns-in_err-wait_if_full-clause-calling
returns-in_err-wait_if_full-clause-calling g c = c.in_err-wait_if_full.ensures.only_waits.calling

pub returns-in_err-wait_if_full-clause-stays : goal.returns-in_err-wait_if_full-clause-stays
returns-in_err-wait_if_full-clause-stays g c = c.in_err-wait_if_full.ensures.only_waits.waits.stay

pub returns-in_err-wait_if_full-clause-waits : goal.returns-in_err-wait_if_full-clause-waits
returns-in_err-wait_if_full-clause-waits g c = on_err c.from_residual.result c.in_err-wait_if_full.ensures.only_waits.waits

pub returns-in_err-wait_if_full-clause-on_refusal : goal.returns-in_err-wait_if_full-clause-on_refusal
returns-in_err-wait_if_full-clause-on_refusal g c = on_err c.from_residual.result c.in_err-wait_if_full.ensures.only_waits.traced

pub returns-in_err-k-clause-calling : goal.returns-in_err-k-clause-calling
returns-in_err-k-clause-calling g c = c.in_err-k.ensures.calling c.args.lines.now c.in_ok-wait_if_full.ensures.only_waits.calling

pub returns-in_err-k-clause-stays : goal.returns-in_err-k-clause-stays
returns-in_err-k-clause-stays g c = stays_trans c.in_ok-wait_if_full.ensures.only_waits.waits.stay c.in_err-k.ensures.stays

pub returns-clause-calling : goal.returns-clause-calling
returns-clause-calling g c = c.in_ok-k.ensures.calling c.args.lines.now c.in_ok-wait_if_full.ensures.only_waits.calling
