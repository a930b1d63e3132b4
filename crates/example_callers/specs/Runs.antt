-- What a run leaves of its transfers, and of its accounts.
use Rattle.std.specs.Prelude.{◌≡◌, ℕ, ◌+◌, List, Some, pos, All}
use Rattle.std.specs.List.{sum_by}
use Rattle.actors.specs.Kinds.{KindState, AccountAt}
use Rattle.actors.specs.Rules.{ActorSpec, opening, opening_of}
use Rattle.actors.specs.Callers.{OwnerView}
use Rattle.actors.specs.Actors.{RetiredView}
use Rattle.actors.specs.Threads.{EndView, Retired, end_id, owner_of, end_of}
use Rattle.actors.specs.Codes.{session_view}
use Rattle.example_callers.specs.declared.transfer.Transfer.{Transfer}
use Rattle.example_callers.specs.Transfer.{HasTransferEnded}
use Rattle.example_callers.specs.Accounts.{paid_in_of, paid_out_of, all_put, all_taken, funds_of}

-- an owner is left of the caller that made a transfer, and what it submitted and keeps is how the transfer ended
pub record HasTransferred (owners : List OwnerView) (given : ℕ × Transfer) : Type 0 where
  pub owner : OwnerView
  pub left : owner_of given.0 owners ≡ Some owner
  pub ended : HasTransferEnded given.1 (session_view owner)

-- what the callers' granted calls put into an actor, and what they took out of it
abbrev pub put_by_all : ℕ → List OwnerView → ℕ
put_by_all a owners = sum_by (λ owner. paid_in_of a owner.calls owner.kept) owners

abbrev pub taken_by_all : ℕ → List OwnerView → ℕ
taken_by_all a owners = sum_by (λ owner. paid_out_of a owner.calls owner.kept) owners

-- an account is left, and what it holds, with what the callers took out, is what it opened with, with what they put in
pub record IsBalanced (a n : ℕ) (owners : List OwnerView) (state : KindState) : Type 0 where
  pub balance : ℕ
  pub left : state ≡ AccountAt (pos balance)
  pub kept : balance + taken_by_all a owners ≡ n + put_by_all a owners

-- so is each account that retired
abbrev pub AreBalanced : List ActorSpec → List OwnerView → List EndView → Type 0
AreBalanced casts owners ends = (a n : ℕ) (retired : RetiredView) →
    opening_of a (opening casts) ≡ Some (AccountAt (pos n)) →
    end_of a ends ≡ Some (Retired retired) → IsBalanced a n owners retired.state

-- what an actor holds at its end, if it retired, and what its cast opened it with
abbrev pub held_last : EndView → ℕ
held_last (Retired retired) = funds_of (Some retired.state)
held_last end = 0

abbrev pub held_first : List ActorSpec → EndView → ℕ
held_first casts end = funds_of (opening_of (end_id end) (opening casts))

-- an actor that opened as an account, and retired
pub record IsAccount (casts : List ActorSpec) (end : EndView) : Type 0 where
  pub retired : RetiredView
  pub is : end ≡ Retired retired
  pub n : ℕ
  pub opens : opening_of (end_id end) (opening casts) ≡ Some (AccountAt (pos n))

-- where all actors are accounts that retired: what they hold, and what all took out, is what they held, and what all
-- put in
abbrev pub KeepsTheSum : List ActorSpec → List OwnerView → List EndView → Type 0
KeepsTheSum casts owners ends = All (IsAccount casts) ends →
    sum_by held_last ends + sum_by (λ owner. all_taken owner.calls owner.kept) owners
    ≡ sum_by (held_first casts) ends + sum_by (λ owner. all_put owner.calls owner.kept) owners
