use Rattle.act_written.proofs.Common.{◌≡◌, ◌++◌, ap, sym, ◌∙◌, arith, string_bytes, append-nil, Run, run_of, of_each, run_line_of}
use Rattle.act_written.proofs.Each.{each_next, mine, none_passed, none_left, passed_one, is_past}
use Rattle.act_written.proofs.text.push_runs.Goals as goal

pub loop-at-init : goal.loop-at-init
loop-at-init c =
    let told = c.args.told.now in
    record {
      at = c.requires.at;
      text = sym (append-nil (string_bytes c.args.text.now)) ∙
          ap (λ t. string_bytes c.args.text.now ++ t) (sym (none_passed told c.args.names.now c.args.actor c.requires.past));
      before = λ j lt. let h = c.requires.past.before j lt in omega (arith, h);
      after = c.requires.past.after;
    }

pub loop-at-preserved : goal.loop-at-preserved
loop-at-preserved c =
    let told = c.args.told.now in let i = c.loop-at.at.place in let inv = c.loop-at.invariant in
    let here : (run_of told i).actor ≡ c.args.actor = sym (ap (λ (run : Run). run.actor) c.run.ensures) ∙ c.if-run-actor.true in
    let next = c.next_run-at.ensures.place in
    record {
      at = c.next_run-at.ensures.at;
      text = each_next (run_line_of told c.args.names.now c.args.actor) i (string_bytes c.args.text.now) inv.text (c.in_ok-push_run.ensures
          ∙ ap (λ t. string_bytes c.loop-at.text ++ t) (sym (mine told c.args.names.now c.args.actor i here)))
          ∙ ap (λ k. string_bytes c.args.text.now ++ of_each (run_line_of told c.args.names.now c.args.actor) k) (sym next);
      before = λ j lt. passed_one told i inv.before here j (omega (arith, lt, next));
      after = λ j le. inv.after j (omega (arith, le, next));
    }

pub returns-else-run-actor-clause-lines : goal.returns-else-run-actor-clause-lines
returns-else-run-actor-clause-lines c =
    let told = c.args.told.now in let i = c.loop-at.at.place in let inv = c.loop-at.invariant in
    let past = is_past told c.args.actor i c.requires.whole.run_actors
    (λ lt same. c.if-run-actor.false (ap (λ (run : Run). run.actor) c.run.ensures ∙ same)) inv.before inv.after in
    inv.text ∙ ap (λ t. string_bytes c.args.text.now ++ t) (sym (none_left told c.args.names.now c.args.actor i inv.at.within past))
