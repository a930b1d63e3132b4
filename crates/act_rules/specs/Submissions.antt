-- What one caller submits, and when a submission, a handle call or a sending is refused.
use Rattle.std.specs.Prelude.{ℕ, ◌≤◌, ◌==◌, Bool, true, not, ◌||◌, if◌then◌else◌, nat_lt, nat_le, List, length, filter, take, slice_get, Option, Some, None}
use Rattle.std.specs.Prelude.{option_and_then, is_some, Ok}
use Rattle.std.specs.List.{list_all, enumerate_from}
use Rattle.act_types.specs.declared.limits.TheConstants.{MAX_ARGS, MAX_CALLS, MAX_COPIES}
use Rattle.act_types.specs.declared.call.Arg.{Arg}
use Rattle.act_types.specs.declared.call.Arg.TheVariants.{Plain, Fut}
use Rattle.act_types.specs.declared.call.Settled.{Settled}
use Rattle.act_types.specs.declared.call.Settled.TheVariants.{Good, Bad}
use Rattle.act_rules.specs.declared.outcome.HandleRefusal.{HandleRefusal}
use Rattle.act_rules.specs.declared.outcome.HandleRefusal.TheVariants.{NoActor, NoHandle, TooManyCopies}
use Rattle.act_rules.specs.declared.outcome.SubmitRefusal.{SubmitRefusal}
use Rattle.act_rules.specs.declared.outcome.SubmitRefusal.TheVariants.{NoActor as NoSuchActor, NoHandle as NoCopy, TooManyArgs, BadFuture, TooManyCalls}
use Rattle.act_rules.specs.declared.outcome.SubmitRefusal.TheVariants.{PendingLimit}
use Rattle.act_rules.specs.declared.outcome.SendRefusal.{SendRefusal}
use Rattle.act_rules.specs.declared.outcome.SendRefusal.TheVariants.{NoFuture, NotReady, Answered}
use Rattle.act_rules.specs.declared.history.Submission.{Submission}
use Rattle.act_rules.specs.RunList.{Answer}

-- the refusal where the condition fails, and else what comes next
abbrev pub needs : {R : Type 0} → Bool → R → Option R → Option R
needs condition refusal next = if condition then next else Some refusal

-- the caller's calls to an actor, each with its future; a call's number is its place here
abbrev pub calls_to : ℕ → List Submission → List (ℕ × Submission)
calls_to a calls = filter (λ call. call.1.actor == a) (enumerate_from 0 calls)

-- the number of a call: how many of the caller's earlier calls went to the same actor
abbrev pub number_of : ℕ → ℕ → List Submission → ℕ
number_of a k calls = length (filter (λ call. call.actor == a) (take k calls))

-- the answer that is kept for a future, if one is
abbrev pub kept_at : List (Option Answer) → ℕ → Option Answer
kept_at kept k = option_and_then (λ answer. answer) (slice_get kept k)

-- an argument by the answers that are kept: a future's value, or that it failed
abbrev pub settled_future : ℕ → Option Answer → Settled
settled_future j (Some (Ok value)) = Good value
settled_future j answer = Bad j

abbrev pub settle : List (Option Answer) → Arg → Settled
settle kept (Plain value) = Good value
settle kept (Fut j) = settled_future j (kept_at kept j)

-- whether the argument's answer is kept
abbrev pub is_known : List (Option Answer) → Arg → Bool
is_known kept (Plain value) = true
is_known kept (Fut j) = is_some (kept_at kept j)

-- whether the argument is a value or one of the caller's first count futures
abbrev pub is_earlier : ℕ → Arg → Bool
is_earlier count (Plain value) = true
is_earlier count (Fut j) = nat_lt j count

-- the copies that a caller holds of a handle, where its actor's cast names the caller
abbrev pub copies_held : Option ℕ → ℕ
copies_held None = 0
copies_held (Some copies) = copies

-- a release or the asking of a kill
abbrev pub handle_refusal : Option ℕ → Option HandleRefusal
handle_refusal copies =
    needs (is_some copies) NoActor (
    needs (nat_lt 0 (copies_held copies)) NoHandle None)

-- a copy of a handle
abbrev pub copy_refusal : Option ℕ → Option HandleRefusal
copy_refusal copies =
    needs (is_some copies) NoActor (
    needs (nat_lt 0 (copies_held copies)) NoHandle (
    needs (nat_lt (copies_held copies) MAX_COPIES) TooManyCopies None))

-- a submission, after count others
abbrev pub submit_refusal : Option ℕ → ℕ → List Arg → Option SubmitRefusal
submit_refusal copies count args =
    needs (is_some copies) NoSuchActor (
    needs (nat_lt 0 (copies_held copies)) NoCopy (
    needs (nat_le (length args) MAX_ARGS) TooManyArgs (
    needs (list_all (is_earlier count) args) BadFuture (
    needs (nat_lt count MAX_CALLS) TooManyCalls None))))

-- one call more to an actor, while so many have no answer: refused where the actor's limit is reached
abbrev pub limit_refusal : Option ℕ → ℕ → Option SubmitRefusal
limit_refusal None pending = None
limit_refusal (Some limit) pending = needs (nat_lt pending limit) PendingLimit None

-- no limit, or one from 1 to 65,536
abbrev pub IsLimit : Option ℕ → Type 0
IsLimit None = Unit {0}
IsLimit (Some limit) = (1 ≤ limit) × (limit ≤ MAX_CALLS)

-- the sending of call k, which was sent before or wasn't
abbrev pub send_refusal : List (Option Answer) → ℕ → Bool → Option Submission → Option SendRefusal
send_refusal kept k sent None = Some NoFuture
send_refusal kept k sent (Some call) =
    needs (list_all (is_known kept) call.args) NotReady (
    needs (sent || not (is_some (kept_at kept k))) Answered None)
