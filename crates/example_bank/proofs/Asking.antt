-- A teller at work.
use Rattle.std.proofs.Common.{◌≡◌, ℕ, ◌<◌, ◌≤◌, List, [], ◌∷◌, ◌++◌, length, map, is_some, true, ap, sym, ◌∙◌, subst, arith, inl, inr, eq-or-lt_of_le}
use Rattle.std.proofs.Common.{length-append}
use Rattle.std.specs.Prelude.{slice_index, All}
use Rattle.std.proofs.lemmas.List.{map-append, length-map}
use Rattle.std.proofs.Math.ListN.{get_or-append}
use Rattle.std.proofs.Math.Seq.{get_or-append_seam}
use Rattle.actors.specs.Arg.{Arg}
use Rattle.actors.specs.Arg.TheVariants.{Plain}
use Rattle.actors.specs.Method.{Method}
use Rattle.actors.specs.Method.TheVariants.{Own}
use Rattle.actors.specs.Submission.{Submission}
use Rattle.actors.specs.Callers.{kept_at}
use Rattle.actors.specs.Codes.{SessionView, Submits, OnlyHears}
use Rattle.example_bank.specs.declared.request.Request.{Request}
use Rattle.example_bank.specs.Tellers.{call_word, call_values, request_call, HasAsked}

-- it submitted these requests, and has their futures, which are numbered from 0
pub record Asking (done : List Request) (seen : SessionView) (futures : List ℕ) : Type 0 where
  pub calls : seen.calls ≡ map request_call done
  pub count : length futures ≡ length done
  pub numbered : (k : ℕ) → k < length futures → slice_index futures k ≡ k

calls_more : (done : List Request) (request : Request) {calls : List Submission} → calls ≡ map request_call done
    → calls ++ request_call request ∷ [] ≡ map request_call (done ++ request ∷ [])
calls_more done request e = ap (λ l. l ++ request_call request ∷ []) e ∙ sym (map-append request_call done (request ∷ []))

at_most : (futures : List ℕ) (n k : ℕ) → k < length (futures ++ n ∷ []) → k ≤ length futures
at_most futures n k below = omega (arith, below, length-append futures (n ∷ []))

numbered_more : (futures : List ℕ) (n : ℕ) → n ≡ length futures → ((k : ℕ) → k < length futures → slice_index futures k ≡ k)
    → (k : ℕ) → k < length (futures ++ n ∷ []) → slice_index (futures ++ n ∷ []) k ≡ k
numbered_more futures n e numbered k below = elim (eq-or-lt_of_le (at_most futures n k below)) [
  | inl last ↦ ap (λ m. slice_index (futures ++ n ∷ []) m) last ∙ get_or-append_seam futures n [] 0 ∙ e ∙ sym last
  | inr less ↦ get_or-append futures (n ∷ []) 0 k less ∙ numbered k less
]

-- one request more
pub asks_more : {done : List Request} (request : Request) {old : SessionView} (new : SessionView) {futures : List ℕ} (k : ℕ) {method : Method} {args : List Arg}
    → Asking done old futures → method ≡ Own (call_word request.call) → args ≡ map Plain (call_values request.call) → k ≡ length old.calls
    → Submits (record { actor = request.branch; method = method; args = args }) old new
    → Asking (done ++ request ∷ []) new (futures ++ k ∷ [])
asks_more {done} request {old} new {futures} k {method} {args} asking word values future submits =
    let call : record { actor = request.branch; method = method; args = args } ≡ request_call request =
    ap (λ m. record { actor = request.branch; method = m; args = args }) word
    ∙ ap (λ l. record { actor = request.branch; method = Own (call_word request.call); args = l }) values in
    let count : length old.calls ≡ length futures = ap length asking.calls ∙ length-map done request_call ∙ sym asking.count in
    record {
      calls = submits.calls ∙ ap (λ c. old.calls ++ c ∷ []) call ∙ calls_more done request asking.calls;
      count = omega (arith, asking.count, length-append futures (k ∷ []), length-append done (request ∷ []));
      numbered = numbered_more futures k (future ∙ count) asking.numbered;
    }

-- all were asked, and all futures have an answer
pub asked : (requests : List Request) (seen last : SessionView) (futures : List ℕ) → Asking requests seen futures → OnlyHears seen last
    → All (λ k. is_some (kept_at last.kept k) ≡ true) futures → HasAsked requests last
asked requests seen last futures asking hears all = record {
  calls = hears.calls ∙ asking.calls;
  answered = λ k below.
      let within : k < length futures = omega (arith, below, asking.count) in
      subst (λ n. is_some (kept_at last.kept n) ≡ true) (asking.numbered k within) (all k 0 within);
}
