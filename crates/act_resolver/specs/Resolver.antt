-- The calls of one caller, and which of them may be sent next.
use Rattle.std.specs.Prelude.{ℕ, Bool, true, false, ◌&&◌, not, Option, List, length, find, slice_get, slice_set}
use Rattle.std.specs.List.{list_all, range_with_len}
use Rattle.std.specs.Option.{option_map_or}

-- a call: the futures among its arguments, whether it was answered, and whether it was sent
pub record Entered : Type 0 where
  pub futures : List ℕ
  pub answered : Bool
  pub sent : Bool

-- the calls in the order of entering, and for how many more there is room
pub record ResolverView : Type 0 where
  pub calls : List Entered
  pub spare : ℕ

-- a call as it enters
abbrev pub new_call : List ℕ → Entered
new_call futures = record { futures = futures; answered = false; sent = false }

-- whether call k was entered and answered
abbrev pub is_answered : List Entered → ℕ → Bool
is_answered calls k = option_map_or (λ call. call.answered) (slice_get calls k) false

-- whether call k was entered and sent
abbrev pub is_marked_sent : List Entered → ℕ → Bool
is_marked_sent calls k = option_map_or (λ call. call.sent) (slice_get calls k) false

-- whether call k was entered and all the futures among its arguments were answered
abbrev pub is_told : List Entered → ℕ → Bool
is_told calls k = option_map_or (λ call. list_all (is_answered calls) call.futures) (slice_get calls k) false

-- whether call k may be sent: it is known, and neither sent nor itself answered
abbrev pub is_next_ready : List Entered → ℕ → Bool
is_next_ready calls k = is_told calls k && not (is_marked_sent calls k) && not (is_answered calls k)

-- the first call, counted from 0, that is ready
abbrev pub least_ready : List Entered → Option ℕ
least_ready calls = find (is_next_ready calls) (range_with_len 0 (length calls))

-- the calls after a change of call k
abbrev pub changed_at : List Entered → ℕ → (Entered → Entered) → List Entered
changed_at calls k change = option_map_or (λ call. slice_set calls k (change call)) (slice_get calls k) calls

-- the calls after the answer to call k
abbrev pub with_told : List Entered → ℕ → List Entered
with_told calls k = changed_at calls k (λ call. record call { answered = true })

-- the calls after call k was sent
abbrev pub with_mark : List Entered → ℕ → List Entered
with_mark calls k = changed_at calls k (λ call. record call { sent = true })
