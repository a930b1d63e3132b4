use Rattle.act_world.proofs.Common.{refl, sym, ◌∙◌}
use Rattle.act_world.proofs.Changes.{on_none}
use Rattle.act_world.proofs.OneCaller.{no_caller}
use Rattle.act_world.proofs.Stepping.{refused_there}
use Rattle.act_world.proofs.Submitting.{submit_refused_follows, submit_unrefused}
use Rattle.act_world.proofs.network.Network.submission_refusal.Goals as goal

pub returns-in_default-clause-refused : goal.returns-in_default-clause-refused
returns-in_default-clause-refused c = λ method. no_caller _ _ _ _ (λ h. refl) c.self.view_is c.deref.ensures.value c.in_default.ensures

pub returns-in_err-refusal-clause-accepted : goal.returns-in_err-refusal-clause-accepted
returns-in_err-refusal-clause-accepted c =
    rw (← c.self.view_is)
    (on_none c.from_residual.result (λ method slots casts before refines. submit_unrefused _ slots c.args.c c.args.a method c.args.args.now refines
    (sym (rw c.deref.ensures.value at c.in-Some.ensures)) c.index.ensures (sym c.in_err-refusal.was ∙ c.submission_refusal.ensures)))

pub returns-clause-refused : goal.returns-clause-refused
returns-clause-refused c = rw (← c.self.view_is) (λ method. refused_there _ _ _ _ refl refl
    (λ slots casts before refines. submit_refused_follows _ slots c.args.c c.args.a method c.args.args.now
    refines (sym (rw c.deref.ensures.value at c.in-Some.ensures)) c.index.ensures (sym c.in_ok-refusal.was ∙ c.submission_refusal.ensures)))
