use Rattle.tests_of_threads.proofs.Common.{rules, ◌≡◌, [], ◌∷◌, sym, subst}
use Rattle.act_plans.specs.Setups.{AreMatched}
use Rattle.act_executor.proofs.OpenLines.Matched.{IsCast, IsPart, are_matched}
use Rattle.tests_of_threads.proofs.opened_lines.matched.Goals as goal

pub returns : goal.returns
returns c =
    let one : IsCast 5 2 7 c.in_ok-one.one = record { actor = search rules; callers = search rules } in
    let two : IsCast 3 7 1 c.in_ok-two.two = record { actor = search rules; callers = search rules } in
    let both : IsPart 7 (5 ∷ 3 ∷ []) c.setup-both.result = record { caller = search rules; actors_are = search rules } in
    let last : IsPart 1 (3 ∷ []) c.setup-last.result = record { caller = search rules; actors_are = search rules } in
    let first : IsPart 2 (5 ∷ []) c.setup-first.result = record { caller = search rules; actors_are = search rules } in
    let casts : c.in_ok-casts.casts.items ≡ c.in_ok-one.one ∷ c.in_ok-two.two ∷ [] = search rules in
    let setups : c.in_ok-setups.setups.items ≡ c.setup-both.result ∷ c.setup-last.result ∷ c.setup-first.result ∷ [] = search rules in
    subst (λ l. AreMatched l c.in_ok-setups.setups.items) (sym casts)
    (subst (λ l. AreMatched (c.in_ok-one.one ∷ c.in_ok-two.two ∷ []) l) (sym setups)
    (are_matched c.in_ok-one.one c.in_ok-two.two one two c.setup-both.result c.setup-last.result c.setup-first.result both last first))
