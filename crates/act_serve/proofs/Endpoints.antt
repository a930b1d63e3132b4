-- Endpoints while an actor goes on.
use Rattle.act_serve.proofs.Common.{◌≡◌, ℕ, List, [], ◌∷◌, ◌++◌, ap, sym, ◌∙◌, append-nil, subst, All, All-push, RunItem, Notice, IsPrefix, front_trans}
use Rattle.act_serve.proofs.Common.{RepliesView, ReplyExecView, IsNoDeath, Endpoint, IsAtItsEndpoint}

-- an endpoint while the actor goes on
pub endpoint_on : {lines : List RepliesView} {a : ℕ} (b : ℕ) (log more : List RunItem) {endpoint : Endpoint ReplyExecView} → b ≡ a → IsPrefix log more →
    IsAtItsEndpoint lines a log endpoint → IsAtItsEndpoint lines b more endpoint
endpoint_on b log more {endpoint} same front s = record {
  below = s.below;
  line = s.line;
  actor_is = s.actor_is ∙ sym same;
  grown = front_trans endpoint.pass.seen log more s.grown front;
  alive = s.alive;
}

-- an endpoint after a reply was given
pub endpoint_given : {lines : List RepliesView} (a b : ℕ) (log more : List RunItem) (place : ℕ) (old new : ReplyExecView) (notice : Notice) (stamps : List ℕ) →
    b ≡ a → IsNoDeath notice → IsAtItsEndpoint lines a log (record { place = place; pass = old }) →
    new ≡ record old { given = old.given ++ notice ∷ []; stamps = stamps; seen = more } → IsAtItsEndpoint lines b more (record { place = place; pass = new })
endpoint_given a b log more place old new notice stamps same reply s is = record {
  below = s.below;
  line = λ d. s.line d ∙ sym (ap (λ (p : ReplyExecView). p.line) is);
  actor_is = ap (λ (p : ReplyExecView). p.actor) is ∙ s.actor_is ∙ sym same;
  grown = ([], append-nil new.seen ∙ ap (λ (p : ReplyExecView). p.seen) is);
  alive = subst (λ l. All IsNoDeath l) (sym (ap (λ (p : ReplyExecView). p.given) is)) (All-push IsNoDeath old.given notice s.alive reply);
}
