use Rattle.act_executor.proofs.Common.{rules, length, map, inl, inr, refl, ap, sym, ◌∙◌, arith, into_iter_items, Endpoint, ExecPasses, items_of_vec}
use Rattle.act_executor.proofs.Lists.Pairs.{one_done, all_done, used_up, placed}
use Rattle.act_executor.proofs.open.exec_passes.Goals as goal

pub loop-letters-preserved : goal.loop-letters-preserved
loop-letters-preserved c =
    let inv = c.loop-letters.invariant in let first = c.in-Some.ensures.steps.0.0.0 in let second = c.in-Some.ensures.steps.0.1.0 in
    let third = c.in-Some.ensures.steps.1.0 in
    record {
      places =
          placed c.loop-letters.execs.items c.push.new.self.items _ inv.places c.in_ok-push.ensures.items (c.len-place.ensures ∙ c.loop-letters.execs.ok.0);
      letters = one_done (λ (exec : Endpoint ExecPasses). exec.pass.letters) c.loop-letters.execs.items _ inv.letters c.in_ok-push.ensures.items first refl;
      kills = one_done (λ (exec : Endpoint ExecPasses). exec.pass.kills) c.loop-letters.execs.items _ inv.kills c.in_ok-push.ensures.items second refl;
      notices = one_done (λ (exec : Endpoint ExecPasses). exec.pass.notices.items) c.loop-letters.execs.items _ inv.notices c.in_ok-push.ensures.items
          (ap (map items_of_vec) third) refl;
      letters_long = search (rules, first);
      kills_long = search (rules, second);
      notices_long = search (rules, third);
      first = omega (arith, inv.first, ap length first, ap length second);
      last = omega (arith, inv.last, ap length first, ap length third);
    }

pub returns : goal.returns
returns c =
    let inv = c.loop-letters.invariant in let left = c.loop-letters.letters-iterator in
    let none = used_up (into_iter_items left.a.a) (into_iter_items left.a.b) (into_iter_items left.b) inv.first inv.last (elim c.in-None.ensures.steps [
      | inl s ↦ elim s.1 [ inl t ↦ inl (inl (sym inv.letters_long ∙ t.1.0)) | inr t ↦ inl (inr (sym inv.kills_long ∙ t.1.0)) ]
      | inr s ↦ inr (sym inv.notices_long ∙ s.1.0)
    ]) in
    record {
      places = inv.places;
      letters = all_done _ none.0 inv.letters;
      kills = all_done _ none.1 inv.kills;
      notices = all_done _ (ap (map items_of_vec) none.2) inv.notices;
    }
