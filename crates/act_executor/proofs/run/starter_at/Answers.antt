use Rattle.act_executor.proofs.Common.{rules, ◌≡◌, [], ℕ, refl, sym, ◌∙◌, into_iter_items, nil_from_length, Asked, PutterView, Endpoint, AreStarters}
use Rattle.act_executor.proofs.Lists.Pairs.{one_done, all_done, placed}
use Rattle.act_executor.proofs.OpenLines.Prepared.{starters_sit}
use Rattle.act_executor.proofs.OpenLines.Starters.{are_starters}
use Rattle.act_executor.proofs.run.starter_at.Goals as goal

pub loop-pass-preserved : goal.loop-pass-preserved
loop-pass-preserved c =
    let inv = c.loop-pass.invariant in let first = c.in-Some.ensures.steps.0 in
    record {
      places =
          placed c.loop-pass.endpoints.items c.push.new.self.items _ inv.places c.in_ok-push.ensures.items (c.len-place.ensures ∙ c.loop-pass.endpoints.ok.0);
      passes = one_done (λ (s : Endpoint (PutterView Asked ℕ)). s.pass) c.loop-pass.endpoints.items _ inv.passes c.in_ok-push.ensures.items first refl;
      long = search (rules, first);
    }

pub returns : goal.returns
returns c =
    let inv = c.loop-pass.invariant in let endpoints = c.loop-pass.endpoints.items in
    let none : into_iter_items c.loop-pass.pass-iterator ≡ [] = nil_from_length _ (sym inv.long ∙ c.in-None.ensures.steps.0) in
    let are : AreStarters c.args.controls.now endpoints = are_starters c.args.controls.now endpoints inv.places (all_done _ none inv.passes ∙ c.requires) in
    record { controls = search rules; starters = are; ready = record { sit = starters_sit are; empty = search rules; room = search rules } }
