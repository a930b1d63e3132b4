-- One endpoint, as it is opened.
use Rattle.act_serve.proofs.Common.{arith, ◌≡◌, ℕ, zero, suc, ◌<◌, [], ◌∷◌, get_or, refl, sym, subst, RepliesView, ReplyExecView, new_exec, Endpoint}
use Rattle.act_serve.proofs.Common.{IsAtItsEndpoint}

opened_endpoint : (line : RepliesView) → IsAtItsEndpoint (line ∷ []) 1 [] (record { place = 0; pass = new_exec line.line 1 })
opened_endpoint line = record { below = omega arith; line = λ d. refl; actor_is = refl; grown = ([], refl); alive = λ k d below. absurd (omega arith) }

at_one : (line : RepliesView) (pass : ReplyExecView) → pass ≡ new_exec line.line 1 → (k : ℕ) (d : Endpoint ReplyExecView) → k < 1 →
    IsAtItsEndpoint (line ∷ []) 1 [] (get_or (record { place = 0; pass = pass } ∷ []) k d)
at_one line pass is zero d below = subst (λ p. IsAtItsEndpoint (line ∷ []) 1 [] (record { place = 0; pass = p })) (sym is) (opened_endpoint line)
at_one line pass is (suc k) d below = absurd (omega arith)
