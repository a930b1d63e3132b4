use Rattle.act_executor.proofs.Common.{ℕ, ◌==◌, not, true≢false, ap, sym, ◌∙◌, list_any, list_all-from_AllPass, AllPass-from_list_all, Vec, Step, not-true}
use Rattle.act_executor.proofs.fitting.codes_fit.Goals as goal
use Rattle.act_executor.proofs.fitting.codes_fit.Goals.{then-callers_differ, else-callers_differ}

pub returns-then-are_named : goal.returns-then-are_named
returns-then-are_named g c = (
  λ apart. elim c.if-callers_differ.branch [
    | then-callers_differ w ↦
        let passes = AllPass-from_list_all (λ (code : ℕ × g.row.C.Denot). not (list_any (λ (plan : ℕ × Vec Step). plan.0 == code.0) c.args.plans.now))
        c.args.codes.now (sym c.are_apart.ensures ∙ apart) in
        record {
          differ = c.callers_differ.ensures.0 w.if-callers_differ.true;
          named = AllPass-from_list_all _ c.args.codes.now (sym w.are_named.ensures ∙ sym w.value-is ∙ c.if-are_named.true);
          apart = λ k d below. not-true _ (passes k d below);
        }
    | else-callers_differ w ↦ absurd (true≢false (sym c.if-are_named.true ∙ w.value-is ∙ w.if-callers_differ.false))
  ],
  λ fits. c.are_apart.ensures ∙ list_all-from_AllPass _ c.args.codes.now (λ k d below. ap not (fits.apart k d below)),
)

pub returns-else-are_named : goal.returns-else-are_named
returns-else-are_named g c = (
  λ same. absurd (true≢false (sym same ∙ c.if-are_named.false)),
  λ fits. absurd (elim c.if-callers_differ.branch [
    | then-callers_differ w ↦ true≢false
        (sym (list_all-from_AllPass _ c.args.codes.now fits.named) ∙ sym w.are_named.ensures ∙ sym w.value-is ∙ c.if-are_named.false)
    | else-callers_differ w ↦ true≢false (sym (c.callers_differ.ensures.1 fits.differ) ∙ w.if-callers_differ.false)
  ]),
)
