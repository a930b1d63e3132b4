-- What a resolver keeps beside its calls: counts, the calls that wait for each future, and the calls that are ready.
use Rattle.std.specs.Prelude.{◌≡◌, ℕ, ◌+◌, ◌-◌, ◌≤◌, ◌==◌, ◌&&◌, Bool, true, false, not, if◌then◌else◌, List, [], length, map, slice_get, slice_set}
use Rattle.std.specs.Prelude.{slice_index_or, count_by}
use Rattle.std.specs.Option.{option_map_or}
use Rattle.act_resolver.specs.Resolver.{Entered, is_answered}
use Rattle.act_resolver.specs.Waiters.{waiters_of}

-- a call, and how many places among its arguments wait for an answer
pub record Row : Type 0 where
  pub call : Entered
  pub missing : ℕ

-- the calls alone
abbrev pub calls_of : List Row → List Entered
calls_of rows = map (λ row. row.call) rows

-- how many places of call k wait for an answer
abbrev pub missing_at : List Row → ℕ → ℕ
missing_at rows k = option_map_or (λ row. row.missing) (slice_get rows k) 0

-- the rows after one place of call k was told
abbrev pub with_one_less : List Row → ℕ → List Row
with_one_less rows k = option_map_or (λ row. slice_set rows k (record row { missing = row.missing - 1 }))
    (slice_get rows k) rows

-- the futures among the arguments of call k
abbrev pub futures_at : List Entered → ℕ → List ℕ
futures_at calls k = option_map_or (λ call. call.futures) (slice_get calls k) []

-- how many of these futures have no answer, each counted as often as it is named
abbrev pub missing_of : List Entered → List ℕ → ℕ
missing_of calls futures = count_by (λ future. not (is_answered calls future)) futures

-- how often k is among these numbers
abbrev pub count_number : ℕ → List ℕ → ℕ
count_number k numbers = count_by (λ number. number == k) numbers

-- how many places of call k wait for a future: none once it was answered
abbrev pub places_for : List Entered → ℕ → ℕ → ℕ
places_for calls future k = if is_answered calls future then 0 else count_number future (futures_at calls k)

-- whether call k was entered, none of its places waits, and it was neither sent nor answered
abbrev pub is_free : List Row → ℕ → Bool
is_free rows k = option_map_or (λ row. (row.missing == 0) && not row.call.sent && not row.call.answered)
    (slice_get rows k) false

-- the count of each call is the number of its places that wait for an answer
abbrev pub AreCounted : List Row → Type 0
AreCounted rows = (k : ℕ) → missing_at rows k ≡ missing_of (calls_of rows) (futures_at (calls_of rows) k)

-- a call stands among those that wait for a future as often as its places wait for it
abbrev pub AreWaiting : List Entered → List (List ℕ) → Type 0
AreWaiting calls lists = (future k : ℕ) → count_number k (waiters_of lists future) ≡ places_for calls future k

-- the set has the free calls
abbrev pub AreFree : List Row → List Bool → Type 0
AreFree rows ready = (k : ℕ) → slice_index_or ready k false ≡ is_free rows k

-- what a resolver keeps is as its calls are
pub record IsResolver (rows : List Row) (lists : List (List ℕ)) (ready : List Bool) : Type 0 where
  pub size_lists : length lists ≡ length rows
  pub size_ready : length rows ≤ length ready
  pub counted : AreCounted rows
  pub waits : AreWaiting (calls_of rows) lists
  pub free : AreFree rows ready

-- while the answer of future k is being told: each call that waits for it is yet to be counted down, and all else is as
-- it should be
pub record IsTelling (k : ℕ) (rows : List Row) (lists : List (List ℕ)) (ready : List Bool) : Type 0 where
  pub size_lists : length lists ≡ length rows
  pub size_ready : length rows ≤ length ready
  pub counted : (call : ℕ) → missing_at rows call
      ≡ missing_of (calls_of rows) (futures_at (calls_of rows) call) + count_number call (waiters_of lists k)
  pub waits : (future call : ℕ) → (future ≡ k → ⊥) →
      count_number call (waiters_of lists future) ≡ places_for (calls_of rows) future call
  pub answered : is_answered (calls_of rows) k ≡ true
  pub free : AreFree rows ready
