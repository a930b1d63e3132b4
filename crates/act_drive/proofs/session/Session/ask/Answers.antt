use Rattle.act_drive.proofs.Common.{◌≡◌, ◌≢◌, ◌∙◌, ap, refl, sym, inl, inr, unwrap_or, NoMemory, call_refusal}
use Rattle.act_drive.proofs.CodeSteps.{submits_hears, handed_on, on_err, later_trans}
use Rattle.act_drive.proofs.session.Session.ask.Goals as goal

pub returns-in_err-k-clause-refusal : goal.returns-in_err-k-clause-refusal
returns-in_err-k-clause-refusal g c =
    handed_on c.from_residual.result c.in_err-k.field-0.0 (λ r. r ≡ unwrap_or
    (call_refusal (g.Self.Session.seen c.args.self.now) c.args.actor c.args.args) NoMemory) c.from_residual.ensures.1 c.in_err-k.ensures.refusal

pub returns-in_err-k-clause-refused : goal.returns-in_err-k-clause-refused
returns-in_err-k-clause-refused g c =
    handed_on c.from_residual.result c.in_err-k.field-0.0
    (λ r. r ≢ NoMemory → g.Self.Session.seen c.submit.new.self ≡ g.Self.Session.seen c.args.self.now) c.from_residual.ensures.1 c.in_err-k.ensures.refused

pub returns-in_err-k-clause-either : goal.returns-in_err-k-clause-either
returns-in_err-k-clause-either g c = on_err c.from_residual.result (inl (c.in_err-k.ensures.hears, c.in_err-k.ensures.does_nothing))

pub returns-in_err-k-clause-on : goal.returns-in_err-k-clause-on
returns-in_err-k-clause-on g c = c.in_err-k.ensures.on

pub returns-in-Ok-clause-submits : goal.returns-in-Ok-clause-submits
returns-in-Ok-clause-submits g c = submits_hears _ _ _ _ c.in_ok-k.ensures.submits c.wait.ensures.hears

pub returns-in-Ok-clause-on : goal.returns-in-Ok-clause-on
returns-in-Ok-clause-on g c = later_trans c.in_ok-k.ensures.on c.wait.ensures.on

pub returns-in-Err-clause-refusal : goal.returns-in-Err-clause-refusal
returns-in-Err-clause-refusal g c = ap (λ r. unwrap_or r NoMemory) (sym c.in_ok-k.ensures.accepted)

pub returns-in-Err-clause-refused : goal.returns-in-Err-clause-refused
returns-in-Err-clause-refused g c other = absurd (other refl)

pub returns-in-Err-clause-either : goal.returns-in-Err-clause-either
returns-in-Err-clause-either g c =
    inr (submits_hears _ _ _ _ c.in_ok-k.ensures.submits c.in-Err.ensures.hears, c.in-Err.ensures.does_nothing ∙ c.in_ok-k.ensures.does)

pub returns-in-Err-clause-on : goal.returns-in-Err-clause-on
returns-in-Err-clause-on g c = later_trans c.in_ok-k.ensures.on c.in-Err.ensures.on
