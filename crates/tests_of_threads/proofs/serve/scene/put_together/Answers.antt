use Rattle.tests_of_threads.proofs.Common.{rules, ◌≡◌, ◌≢◌, ℕ, ◌<◌, List, [], ◌∷◌, ◌++◌, length, map, All, AllPairs, refl, ap, sym, ◌∙◌, subst, arith}
use Rattle.tests_of_threads.proofs.Common.{slice_index_or, All-nil, RepliesView, ReplyExecView, IsNoDeath, new_exec}
use Rattle.act_rules.proofs.Lists.{All-two}
use Rattle.act_mailbox.specs.declared.thread.Endpoint.{Endpoint}
use Rattle.act_plans.proofs.Matching.{numbers_differ}
use Rattle.act_serve.specs.Served.{caller_at}
use Rattle.act_serve.specs.Turns.{IsAtItsEndpoint}
use Rattle.tests_of_threads.proofs.serve.scene.put_together.Goals as goal

-- a new pass of actor 1 is at its endpoint
new_at : (replies : List RepliesView) (r : RepliesView) (p : ReplyExecView) (place : ℕ) → place < length replies →
    ((d : RepliesView) → slice_index_or replies place d ≡ r) → p ≡ new_exec r.line 1 → IsAtItsEndpoint replies 1 [] (record { place = place; pass = p })
new_at replies r p place below at fresh = record {
  below = below;
  line = λ d. ap (λ (x : RepliesView). x.line) (at d) ∙ sym (ap (λ (x : ReplyExecView). x.line) fresh);
  actor_is = ap (λ (x : ReplyExecView). x.actor) fresh;
  grown = ([], ap (λ (x : ReplyExecView). x.seen ++ []) fresh);
  alive = subst (All IsNoDeath) (sym (ap (λ (x : ReplyExecView). x.given) fresh)) (All-nil IsNoDeath);
}

pub returns-clause-fit : goal.returns-clause-fit
returns-clause-fit c =
    let r = c.requires in let one = c.args.one.0 in let two = c.args.two.0 in let p = c.args.one.1 in let q = c.args.two.1 in
    let replies : List RepliesView = one ∷ two ∷ [] in
    let items : c.push_reserved-2.new.self.items ≡ record { place = 0; pass = p } ∷ record { place = 1; pass = q } ∷ [] = search rules in
    let callers : map (λ (e : Endpoint ReplyExecView). caller_at replies e.place) c.push_reserved-2.new.self.items ≡ 1 ∷ 2 ∷ [] =
    ap (map (λ (e : Endpoint ReplyExecView). caller_at replies e.place)) items ∙ (λ i. r.callers.0 i ∷ r.callers.1 i ∷ []) in
    record {
      mail_is = ap (λ (t : _). t.line) r.letters;
      control_is = r.kills.0;
      actor_is = r.kills.1;
      looked = omega arith;
      endpoints = rw items (All-two (IsAtItsEndpoint replies 1 []) (record { place = 0; pass = p }) (record { place = 1; pass = q })
          (new_at replies one p 0 (omega arith) (λ d. refl) r.gives.0) (new_at replies two q 1 (omega arith) (λ d. refl) r.gives.1));
      differ = subst (AllPairs (λ one other. one ≢ other)) (sym callers) (numbers_differ 2);
    }
