-- What all accounts of a run hold together.
use Rattle.example_callers.proofs.Common.{◌≡◌, ◌≢◌, ℕ, ◌+◌, ◌==◌, true, false, List, map, slice_get, get_or, Option, Some, None, is_some, pos, refl, ap, sym}
use Rattle.example_callers.proofs.Common.{◌∙◌, subst, arith, All, AllPairs, eqb-true, eq-eqb, option_map, IsTrue, sum_by, list_any, enumerate_from}
use Rattle.example_callers.proofs.Common.{slice_get-map, slice_get-get_or, slice_get_within, AllPairs-filter, Method, Settled, AccountAt, Answer, Step}
use Rattle.example_callers.proofs.Common.{Submission, kept_at, one_to, OwnerView, IsAnswerOfRun, IsCallToDead, ActorSpec, contains, opening, opening_of}
use Rattle.example_callers.proofs.Common.{EndView, Retired, end_id, IsJoined, end_of, calls_in, kept_in, calls_of_owner, log_in, log_of_end, killed_in}
use Rattle.example_callers.proofs.Common.{is_killed_end, pairs_of_map, numbers_differ, all_in, found_is, finds, is_contained, one_of, paid_in_by, paid_out_by}
use Rattle.example_callers.proofs.Common.{funds_of, put_by_all, taken_by_all, IsBalanced, held_last, held_first, IsAccount, KeepsTheSum, all_by_places}
use Rattle.example_callers.proofs.Books.{by_calls, call_moved, enumerated_at, to_actor}
use Rattle.example_callers.proofs.Left.{own, ran_all, balanced}
use Rattle.example_callers.proofs.Sums.{sum_by_same, sum_by_map, sum_by_both, sum_by_turned, by_keys}

in_ids : (ends : List EndView) (a : ℕ) (end : EndView) → end_of a ends ≡ Some end → contains a (map end_id ends) ≡ true
in_ids ends a end is =
    let found = found_is (λ one. end_id one == a) ends is in
    is_contained a (map end_id ends) (record {
      place = found.inside.place;
      at = slice_get-map end_id ends found.inside.place ∙ ap (option_map end_id) found.inside.at ∙ ap (λ n. Some n) (eqb-true (end_id end) a found.passes);
    })

module _ (casts : List ActorSpec) (plans : List (ℕ × List Step)) (owners : List OwnerView) (ends : List EndView) (h : IsJoined casts plans owners ends)
    (accounts : All (IsAccount casts) ends) where
  ids_differ : AllPairs (λ one other. one ≢ other) (map end_id ends)
  ids_differ = subst (λ l. AllPairs (λ one other. one ≢ other) l) (sym h.actors)
      (AllPairs-filter (λ one other. one ≢ other) (λ a. list_any (λ (cast : ActorSpec). cast.actor == a) casts) (one_to 8) (numbers_differ 8))

  own_end : (k : ℕ) (end : EndView) → slice_get ends k ≡ Some end → end_of (end_id end) ends ≡ Some end
  own_end k end at =
      let some = finds (λ one. end_id one == end_id end) ends k end at (eq-eqb (end_id end) (end_id end) refl) in
      let found = found_is (λ one. end_id one == end_id end) ends some.is in
      let same : some.one ≡ end = one_of end_id ends found.inside.place k (pairs_of_map end_id ends ids_differ) found.inside.at at
      (eqb-true (end_id some.one) (end_id end) found.passes) in
      some.is ∙ ap (λ one. Some one) same

  is_account : (a : ℕ) (end : EndView) → end_of a ends ≡ Some end → IsAccount casts end
  is_account a end is = all_in (IsAccount casts) accounts (found_is (λ one. end_id one == a) ends is).inside

  none_killed : (a : ℕ) → killed_in ends a ≡ false
  none_killed a = go (end_of a ends) refl
    where
      go : (o : Option EndView) → end_of a ends ≡ o → is_killed_end o ≡ false
      go None is = refl
      go (Some end) is = ap (λ one. is_killed_end (Some one)) (is_account a end is).is

  -- one account
  even : (k : ℕ) (end : EndView) → slice_get ends k ≡ Some end →
      held_last end + taken_by_all (end_id end) owners ≡ held_first casts end + put_by_all (end_id end) owners
  even k end at =
      let account : IsAccount casts end = is_account (end_id end) end (own_end k end at) in
      let so : IsBalanced (end_id end) account.n owners account.retired.state =
      balanced casts plans owners ends h (end_id end) account.n account.retired account.opens (own_end k end at ∙ ap (λ one. Some one) account.is) in
      let last : held_last end ≡ so.balance = ap held_last account.is ∙ ap (λ s. funds_of (Some s)) so.left in
      let first : held_first casts end ≡ account.n = ap funds_of account.opens in
      omega (arith, last, first, so.kept)

  -- each call went to one of the actors
  reached : (c k : ℕ) (call : Submission) → slice_get (calls_in owners c) k ≡ Some call → contains call.actor (map end_id ends) ≡ true
  reached c k call at = go (kept_at (kept_in owners c) k) refl (h.answered c k (slice_get_within (calls_in owners c) k call at))
    where
      by_run : {answer : Answer} → IsAnswerOfRun (λ a. opening_of a (opening casts)) (log_in ends) c k answer → contains call.actor (map end_id ends) ≡ true
      by_run run = ended (end_of run.actor ends) refl
        where
          ended : (o : Option EndView) → end_of run.actor ends ≡ o → contains call.actor (map end_id ends) ≡ true
          ended None is =
              let none : slice_get (log_in ends run.actor) run.place ≡ None = ap (λ o. slice_get (log_of_end o) run.place) is in
              let some : slice_get (log_in ends run.actor) run.place ≡ Some run.item = run.at in
              cc
          ended (Some end) is =
              let found = found_is (λ one. end_id one == run.actor) ends is in
              let name : end_id end ≡ run.actor = eqb-true (end_id end) run.actor found.passes in
              let account : IsAccount casts end = is_account run.actor end is in
              let opens : opening_of run.actor (opening casts) ≡ Some (AccountAt (pos account.n)) =
              subst (λ a. opening_of a (opening casts) ≡ Some (AccountAt (pos account.n))) name account.opens in
              let retired : end_of run.actor ends ≡ Some (Retired account.retired) = is ∙ ap (λ one. Some one) account.is in
              let call_at : slice_get (calls_in owners run.item.caller) run.item.future ≡ Some call =
              ap (λ d. slice_get (calls_in owners d) run.item.future) run.caller ∙ ap (slice_get (calls_in owners c)) run.future ∙ at in
              let to : call.actor ≡ run.actor =
              to_actor paid_in_by (λ a. opening_of a (opening casts)) (calls_in owners) (log_in ends) (kept_in owners)
              (killed_in ends) h.consistent h.answered run.actor (none_killed run.actor)
              (ran_all casts plans owners ends h run.actor account.n account.retired opens retired) run.place run.at call_at in
              ap (λ a. contains a (map end_id ends)) to ∙ in_ids ends run.actor end is

      go : (o : Option Answer) → kept_at (kept_in owners c) k ≡ o → is_some o ≡ true → contains call.actor (map end_id ends) ≡ true
      go None is some = cc
      go (Some answer) is some =
          by_run (h.consistent.answers c k answer is (λ died.
          let dead : IsCallToDead (calls_in owners) (killed_in ends) c k = h.consistent.deaths c k (is ∙ ap (λ x. Some x) died) in
          let no : IsTrue false = subst (λ b. IsTrue b) (none_killed dead.call.actor) dead.dead in
          cc))

  -- a caller's calls, by the actors
  by_actors : (amount : Option Answer → Method → List Settled → ℕ) (k : ℕ) {owner : OwnerView} → slice_get owners k ≡ Some owner
      → sum_by (λ end. by_calls amount (end_id end) owner.calls owner.kept) ends ≡ sum_by (call_moved amount owner.kept) (enumerate_from 0 owner.calls)
  by_actors amount k {owner} at =
      sym (sum_by_map (λ a. by_calls amount a owner.calls owner.kept) end_id ends)
      ∙ by_keys (λ (call : ℕ × Submission). call.1.actor) (call_moved amount owner.kept) (map end_id ends) (enumerate_from 0 owner.calls) ids_differ
      (all_by_places (λ (call : ℕ × Submission). contains call.1.actor (map end_id ends) ≡ true) (enumerate_from 0 owner.calls)
      (λ j call there. reached owner.id call.0 call.1 (subst (λ calls. slice_get calls call.0 ≡ Some call.1)
      (sym (ap calls_of_owner (own casts plans owners ends h k owner at))) (enumerated_at owner.calls j call there))))

  all_moved : (amount : Option Answer → Method → List Settled → ℕ) → sum_by (λ end. sum_by (λ owner. by_calls amount (end_id end) owner.calls owner.kept)
      owners) ends ≡ sum_by (λ owner. sum_by (call_moved amount owner.kept) (enumerate_from 0 owner.calls)) owners
  all_moved amount =
      sum_by_turned (λ end (owner : OwnerView). by_calls amount (end_id end) owner.calls owner.kept) ends owners
      ∙ sum_by_same (λ (owner : OwnerView). sum_by (λ end. by_calls amount (end_id end) owner.calls owner.kept) ends)
      (λ (owner : OwnerView). sum_by (call_moved amount owner.kept) (enumerate_from 0 owner.calls)) owners
      (λ k d below. by_actors amount k (slice_get-get_or owners k d below))

  all_even : sum_by (λ end. held_last end + taken_by_all (end_id end) owners) ends ≡ sum_by (λ end. held_first casts end + put_by_all (end_id end) owners) ends
  all_even = sum_by_same (λ end. held_last end + taken_by_all (end_id end) owners) (λ end. held_first casts end + put_by_all (end_id end) owners) ends
      (λ k d below. even k (get_or ends k d) (slice_get-get_or ends k d below))

pub keeps_the_sum : {casts : List ActorSpec} (plans : List (ℕ × List Step)) {owners : List OwnerView} {ends : List EndView} → IsJoined casts plans owners ends →
    KeepsTheSum casts owners ends
keeps_the_sum {casts} plans {owners} {ends} h accounts =
    let all = all_even casts plans owners ends h accounts in
    let left = sum_by_both held_last (λ end. taken_by_all (end_id end) owners) ends in
    let right = sum_by_both (held_first casts) (λ end. put_by_all (end_id end) owners) ends in
    let taken = all_moved casts plans owners ends h accounts paid_out_by in
    let put = all_moved casts plans owners ends h accounts paid_in_by in
    omega (arith, all, left, right, taken, put)
