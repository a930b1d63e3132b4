-- Accounts and transfers as a run leaves them.
use Rattle.example_callers.proofs.Common.{◌≡◌, ◌≢◌, ℕ, ◌+◌, ◌==◌, true, false, List, [], map, slice_get, Option, Some, None, is_some, pos, refl, ap, sym, ◌∙◌}
use Rattle.example_callers.proofs.Common.{subst, arith, AllPairs, eqb-true, eq-eqb, inl, inr, ℤ, option_map, sum_by, list_any, slice_get-map, slice_get-get_or}
use Rattle.example_callers.proofs.Common.{AllPairs-filter, AccountAt, Answer, Method, Settled, Step, RunItem, Submission, items_of, state_after, RetiredView}
use Rattle.example_callers.proofs.Common.{calls_to, kept_at, one_to, OwnerView, ActorSpec, contains, opening, opening_of, EndView, Retired, IfRetired, end_id}
use Rattle.example_callers.proofs.Common.{IsJoined, RanAll, owner_of, end_of, calls_in, kept_in, calls_of_owner, kept_of_owner, log_in, log_of_end, killed_in}
use Rattle.example_callers.proofs.Common.{is_killed_end, SessionView, IsLater, HasTold, pairs_of_map, numbers_differ, all_in, found_is, finds, is_contained}
use Rattle.example_callers.proofs.Common.{one_of, Transfer, is_amount, is_enough, HasTransferEnded, transfer_tells, paid_in_by, paid_out_by, put_in, taken_in}
use Rattle.example_callers.proofs.Common.{HoldsWhatWasPutIn, HasTransferred, put_by_all, taken_by_all, IsBalanced, AreBalanced}
use Rattle.example_callers.proofs.Balances.{holds_what_was_put_in}
use Rattle.example_callers.proofs.Books.{by_calls, log_is_callers}
use Rattle.example_callers.proofs.Calls.{kept_same}
use Rattle.example_callers.proofs.Sums.{sum_by_same, sum_by_map}

-- ---- transfers

enough_there : (n : ℤ) (o : Option Answer) → is_enough n o ≡ true → is_some o ≡ true
enough_there n None enough = cc
enough_there n (Some answer) enough = refl

number_there : (o : Option Answer) → is_amount o ≡ true → is_some o ≡ true
number_there None number = cc
number_there (Some answer) number = refl

-- how a transfer ended stays so
ended_on : (t : Transfer) (last : SessionView) {later : SessionView} → later.calls ≡ last.calls → IsLater last later → HasTransferEnded t last →
    HasTransferEnded t later
ended_on t last {later} calls on (inl stopped) =
    let same = kept_same 0 on stopped.asked in
    inl (record { calls = calls ∙ stopped.calls; asked = ap is_some same ∙ stopped.asked; short = ap (is_enough t.amount) same ∙ stopped.short })
ended_on t last {later} calls on (inr (inl refused)) =
    let first = kept_same 0 on (enough_there t.amount (kept_at last.kept 0) refused.enough) in
    let second = kept_same 1 on refused.asked in
    inr (inl (record {
      calls = calls ∙ refused.calls;
      enough = ap (is_enough t.amount) first ∙ refused.enough;
      asked = ap is_some second ∙ refused.asked;
      refused = ap is_amount second ∙ refused.refused;
    }))
ended_on t last {later} calls on (inr (inr moved)) =
    let first = kept_same 0 on (enough_there t.amount (kept_at last.kept 0) moved.enough) in
    let second = kept_same 1 on (number_there (kept_at last.kept 1) moved.granted) in
    inr (inr (record { calls = calls ∙ moved.calls; enough = ap (is_enough t.amount) first ∙ moved.enough; granted = ap is_amount second ∙ moved.granted }))

pub transferred : {casts : List ActorSpec} {steps : List (ℕ × List Step)} {owners : List OwnerView} (given : ℕ × Transfer) →
    HasTold transfer_tells casts steps owners given → HasTransferred owners given
transferred given told = record {
  owner = told.owner;
  left = told.left;
  ended = ended_on given.1 told.told.last told.told.calls told.told.on (told.told.told refl);
}

-- ---- owners by their numbers

module _ (casts : List ActorSpec) (plans : List (ℕ × List Step)) (owners : List OwnerView) (ends : List EndView) (h : IsJoined casts plans owners ends) where
  ids_differ : AllPairs (λ one other. one ≢ other) (map (λ (owner : OwnerView). owner.id) owners)
  ids_differ = subst (λ l. AllPairs (λ one other. one ≢ other) l) (sym h.callers)
      (AllPairs-filter (λ one other. one ≢ other) (λ c. list_any (λ (cast : ActorSpec). contains c cast.callers) casts) (one_to 16) (numbers_differ 16))

  strangers : (c : ℕ) → contains c (map (λ (owner : OwnerView). owner.id) owners) ≡ false → calls_in owners c ≡ []
  strangers c none = go (owner_of c owners) refl
    where
      go : (o : Option OwnerView) → owner_of c owners ≡ o → calls_of_owner o ≡ []
      go None is = refl
      go (Some owner) is =
          let found = found_is (λ (one : OwnerView). one.id == c) owners is in
          let at : slice_get (map (λ (one : OwnerView). one.id) owners) found.inside.place ≡ Some c =
          slice_get-map (λ (one : OwnerView). one.id) owners found.inside.place ∙ ap (option_map (λ (one : OwnerView). one.id)) found.inside.at ∙
          ap (λ n. Some n) (eqb-true owner.id c found.passes) in
          let has : contains c (map (λ (one : OwnerView). one.id) owners) ≡ true =
          is_contained c (map (λ (one : OwnerView). one.id) owners) (record { place = found.inside.place; at = at }) in
          cc

  pub own : (k : ℕ) (owner : OwnerView) → slice_get owners k ≡ Some owner → owner_of owner.id owners ≡ Some owner
  own k owner at =
      let some = finds (λ (one : OwnerView). one.id == owner.id) owners k owner at (eq-eqb owner.id owner.id refl) in
      let found = found_is (λ (one : OwnerView). one.id == owner.id) owners some.is in
      let same : some.one ≡ owner = one_of (λ (one : OwnerView). one.id) owners found.inside.place k
      (pairs_of_map (λ (one : OwnerView). one.id) owners ids_differ) found.inside.at at (eqb-true some.one.id owner.id found.passes) in
      some.is ∙ ap (λ one. Some one) same

  -- ---- an account that retired

  module _ (a n : ℕ) (retired : RetiredView) (opens : opening_of a (opening casts) ≡ Some (AccountAt (pos n)))
      (is : end_of a ends ≡ Some (Retired retired)) where
    log : log_in ends a ≡ retired.log
    log = ap log_of_end is

    ran : RanAll casts owners retired
    ran =
        let found = found_is (λ end. end_id end == a) ends is in
        all_in (λ end. IfRetired end (RanAll casts owners)) h.retired found.inside

    name : retired.id ≡ a
    name = let found = found_is (λ end. end_id end == a) ends is in eqb-true retired.id a found.passes

    opened : ran.cast.opening ≡ AccountAt (pos n)
    opened =
        let at : opening_of a (opening casts) ≡ Some ran.cast.opening =
        ap (λ b. opening_of b (opening casts)) (sym name) ∙ ap (option_map (λ (cast : ActorSpec). cast.opening)) ran.at in
        let both : Some ran.cast.opening ≡ Some (AccountAt (pos n)) = sym at ∙ opens in
        cc

    pub ran_all : (c : ℕ) → map (λ item. item.future) (items_of c (log_in ends a)) ≡ map (λ call. call.0) (calls_to a (calls_in owners c))
    ran_all c =
        ap (λ items. map (λ (item : RunItem). item.future) (items_of c items)) log
        ∙ ran.calls c
        ∙ ap (λ b. map (λ (call : ℕ × Submission). call.0) (calls_to b (calls_in owners c))) name

    -- what moved by the account's log is what moved by the callers' calls
    moved : (amount : Option Answer → Method → List Settled → ℕ) → sum_by (λ c. by_calls amount a (calls_in owners c) (kept_in owners c))
        (map (λ owner. owner.id) owners) ≡ sum_by (λ owner. by_calls amount a owner.calls owner.kept) owners
    moved amount =
        sum_by_map (λ c. by_calls amount a (calls_in owners c) (kept_in owners c)) (λ (owner : OwnerView). owner.id) owners
        ∙ sum_by_same (λ (owner : OwnerView). by_calls amount a (calls_in owners owner.id) (kept_in owners owner.id))
        (λ (owner : OwnerView). by_calls amount a owner.calls owner.kept) owners
        (λ k d below. each k (slice_get-get_or owners k d below))
      where
        each : (k : ℕ) {owner : OwnerView} → slice_get owners k ≡ Some owner →
            by_calls amount a (calls_in owners owner.id) (kept_in owners owner.id) ≡ by_calls amount a owner.calls owner.kept
        each k {owner} at = ap (λ o. by_calls amount a (calls_of_owner o) (kept_of_owner o)) (own k owner at)

    pub balanced : IsBalanced a n owners retired.state
    balanced =
        let law : HoldsWhatWasPutIn n retired.log = holds_what_was_put_in n retired.log in
        let alive : killed_in ends a ≡ false = ap is_killed_end is in
        let put : put_in (AccountAt (pos n)) (log_in ends a) ≡ put_by_all a owners =
        log_is_callers paid_in_by (λ b. opening_of b (opening casts)) (calls_in owners) (log_in ends) (kept_in owners)
        (killed_in ends) h.consistent h.answered a alive ran_all opens (map (λ (owner : OwnerView). owner.id) owners) ids_differ strangers
        ∙ moved paid_in_by in
        let taken : taken_in (AccountAt (pos n)) (log_in ends a) ≡ taken_by_all a owners =
        log_is_callers paid_out_by (λ b. opening_of b (opening casts)) (calls_in owners) (log_in ends) (kept_in owners)
        (killed_in ends) h.consistent h.answered a alive ran_all opens (map (λ (owner : OwnerView). owner.id) owners) ids_differ strangers
        ∙ moved paid_out_by in
        let kept : law.balance + taken_in (AccountAt (pos n)) (log_in ends a) ≡ n + put_in (AccountAt (pos n)) (log_in ends a) =
        subst (λ items. law.balance + taken_in (AccountAt (pos n)) items ≡ n + put_in (AccountAt (pos n)) items) (sym log) law.kept in
        record {
          balance = law.balance;
          left = ran.state ∙ ap (λ s. state_after s retired.log) opened ∙ law.left;
          kept = omega (arith, put, taken, kept);
        }

-- each account that retired in a joined run holds what it opened with and what callers put in, less what they took out
pub are_balanced : {casts : List ActorSpec} {plans : List (ℕ × List Step)} {owners : List OwnerView} {ends : List EndView} → IsJoined casts plans owners ends →
    AreBalanced casts owners ends
are_balanced {casts} {plans} {owners} {ends} h a n retired opens is = balanced casts plans owners ends h a n retired opens is
