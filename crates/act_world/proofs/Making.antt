-- The packet that a caller makes of a call whose letter stands.
use Rattle.act_world.proofs.Common.{◌≡◌, ℕ, true, List, Some, None, refl, ap, ◌∙◌, Option, find, map, slice_get, option_map, option_and_then, eq-eqb, Packet}
use Rattle.act_world.proofs.Common.{Submission, Answer, calls_to, number_of, settle, History, cast_of, names, is_caller, calls_of, kept_of, IsCallTo}
use Rattle.act_world.proofs.Common.{calls_to-at, calls_to-number, OwnerView, packet_at, is_owner, packet_in, IsOwnerOf, IsOwnerAt, call_key, packet_as}
use Rattle.act_world.proofs.Lawful.{named_caller}
use Rattle.act_world.proofs.Numbered.{one_number}

abbrev made : ℕ → ℕ → ℕ → ℕ → List (Option Answer) → Submission → Packet
made c a n k kept call = record { caller = c; actor = a; number = n; future = k; method = call.method; args = map (settle kept) call.args }

abbrev made_at : ℕ → List Submission → List (Option Answer) → ℕ → Option Submission → Option Packet
made_at id calls kept k found = option_map (λ (call : Submission). made id call.actor (number_of call.actor k calls) k kept call) found

made_by : (h : History) (c a n : ℕ) (call : ℕ × Submission) (owner : OwnerView) → IsOwnerOf h c owner → slice_get (calls_to a (calls_of c h)) n ≡ Some call →
    packet_at owner call.0 ≡ Some (packet_as h c a n call)
made_by h c a n call owner is at =
    ap (λ id. made_at id owner.calls owner.kept call.0 (slice_get owner.calls call.0)) is.id
    ∙ ap (λ calls. made_at c calls owner.kept call.0 (slice_get calls call.0)) is.calls
    ∙ ap (λ kept. made_at c (calls_of c h) kept call.0 (slice_get (calls_of c h) call.0)) is.kept
    ∙ ap (λ found. made_at c (calls_of c h) (kept_of c h) call.0 found) there.at
    ∙ ap (λ b. Some (made c b (number_of b call.0 (calls_of c h)) call.0 (kept_of c h) call.1)) there.actor
    ∙ ap (λ m. Some (made c a m call.0 (kept_of c h) call.1)) number
  where
    there : IsCallTo a (calls_of c h) call
    there = calls_to-at a (calls_of c h) n at

    number : number_of a call.0 (calls_of c h) ≡ n
    number = one_number a (calls_of c h) (number_of a call.0 (calls_of c h)) n call
        (calls_to-number a (calls_of c h) call.0 there.at (eq-eqb call.1.actor a there.actor)) at refl

-- the caller makes the packet that the history tells
pub made_there : (h : History) (owners : List OwnerView) (c a n : ℕ) (call : ℕ × Submission) → ((d : ℕ) → IsOwnerAt h d (find (is_owner d) owners)) →
    names c (cast_of a h) ≡ true → slice_get (calls_to a (calls_of c h)) n ≡ Some call → packet_in owners (call_key c a n call) ≡ Some (packet_as h c a n call)
made_there h owners c a n call all named at = go (find (is_owner c) owners) (all c)
  where
    go : (found : Option OwnerView) → IsOwnerAt h c found → option_and_then (λ owner. packet_at owner call.0) found ≡ Some (packet_as h c a n call)
    go None is = let caller : is_caller c h ≡ true = named_caller c a h named in cc
    go (Some owner) is = made_by h c a n call owner is.1 at
