use Rattle.std.proofs.Common.{◌≡◌, ℕ, ◌+◌, [], ◌∷◌, ◌++◌, map, take, string_bytes, option_to_list, Option, Some, None, ap, sym, ◌∙◌, append-nil}
use Rattle.act_explore.specs.Paths.{runs_in, letter_of, run_at}
use Rattle.act_explore.proofs.Paths.{runs_step, letters_more}
use Rattle.act_explore.proofs.key.push_runs.Goals as goal
use Rattle.act_explore.proofs.key.push_runs.Goals.{in-Some+in_ok-push_caller, in_default}
use Rattle.act_executor.proofs.OpenLines.Faults.{none_left}

pub loop-choice-preserved : goal.loop-choice-preserved
loop-choice-preserved c =
    let path = c.args.path.now in let actor = c.args.actor in let old = string_bytes c.args.key.now in
    let runs = runs_in actor (take c.loop-choice.choice-index path) in
    let step = runs_step actor path c.loop-choice-test.true c.choice-item.is in
    let more : (o : Option ℕ) → run_at actor c.choice-item.result ≡ o → (old ++ map letter_of runs) ++ map letter_of (option_to_list o) ≡ old ++ map letter_of
    (runs_in actor (take (c.loop-choice.choice-index + 1) path)) =
    λ o is. letters_more old runs o ∙ ap (λ l. old ++ map letter_of l) (ap (λ p. runs ++ option_to_list p) (sym is) ∙ sym step) in
    elim c.match-run_at.branch [
      | in-Some+in_ok-push_caller w ↦
          ap string_bytes w.key-is ∙ w.in_ok-push_caller.ensures ∙ ap (λ l. l ++ letter_of w.in-Some.caller ∷ []) c.loop-choice.invariant
          ∙ more (Some w.in-Some.caller) (sym w.in-Some.ensures)
      | in_default w ↦
          ap string_bytes w.key-is ∙ c.loop-choice.invariant ∙ sym (append-nil (old ++ map letter_of runs))
          ∙ more None (sym c.run_at.ensures ∙ none_left c.run_at.result w.in_default.not-Some)
    ]
