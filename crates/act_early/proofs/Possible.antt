-- What the late play may choose, a quiescent play with the same choices so far may choose.
use Rattle.act_early.proofs.Common.{◌≡◌, ℕ, ◌≤◌, true, false, List, length, Some, None, refl, ap, sym, ◌∙◌, subst, ◌==◌, find, map, slice_get, is_some}
use Rattle.act_early.proofs.Common.{list_all, list_any, Settled, RunItem, Submission, Step, is_kill_of, calls_to, number_of, kept_at, is_known}
use Rattle.act_early.proofs.Common.{settle, ActorSpec, contains, names, is_caller, cast_of, runs_of, calls_of, kept_of, is_dead, is_retired, is_ended}
use Rattle.act_early.proofs.Common.{has_letter, ran_count, next_item, refusal_of, call_letter, items_of, IsPrefix, or_from, slice_get_front, calls_to_grow}
use Rattle.act_early.proofs.Common.{run_needs, Extends, arguments_stay, calls_to-at, At, steps_of, IsPlay, IsQuiescent, IsSound, CallLetter, any_front}
use Rattle.act_rules.specs.declared.event.Event.TheVariants as event
use Rattle.act_early.proofs.Worlds.{take_needs, either_of, not_so, not_dead}
use Rattle.act_early.proofs.Counting.{done_steps, take-prefix}
use Rattle.act_early.proofs.Asking.{asks_all, asked_by}
use Rattle.act_early.proofs.Items.{IsReady}
use Rattle.act_early.proofs.Unanswered.{number_is, next_unanswered}

-- ---- a run

-- what the early play has, where the late one comes to a choice of the actor
pub record IsReached (a : ℕ) (play early : At) : Type 0 where
  pub runs : runs_of a early.history ≡ runs_of a play.history
  pub dead : is_dead a early.history ≡ is_dead a play.history
  pub steps : (c : ℕ) → steps_of c play ≤ steps_of c early
  pub calls : (c : ℕ) → IsPrefix (calls_of c play.history) (calls_of c early.history)
  pub kept : (c : ℕ) → Extends (kept_of c play.history) (kept_of c early.history)
  pub casts : early.history.casts ≡ play.history.casts

pub lives : (plans : ℕ → List Step) (a : ℕ) (play early : At) → IsReached a play early → IsQuiescent plans early → is_ended a play.history ≡ false
    → is_ended a early.history ≡ false
lives plans a play early r quiescent live =
    or_from (is_dead a early.history) (is_retired a early.history) (r.dead ∙ not_dead a play.history live) (ap (contains a) quiescent.live)

same_cast : (a : ℕ) {play early : At} → IsReached a play early → cast_of a early.history ≡ cast_of a play.history
same_cast a r = ap (λ l. find (λ (cast : ActorSpec). cast.actor == a) l) r.casts

-- a run that isn't refused in the play isn't refused in a quiescent play that has reached it at the actor
pub may_run : (plans : ℕ → List Step) (a c : ℕ) (play early : At) → IsReached a play early → IsQuiescent plans early
    → refusal_of play.history (event.Run a c) ≡ None → refusal_of early.history (event.Run a c) ≡ None
may_run plans a c play early r quiescent e =
    let needed = run_needs play.history a c e in
    let caller : is_caller c early.history ≡ true =
    ap (λ l. list_any (λ (cast : ActorSpec). contains c cast.callers) l) r.casts ∙ needed.0 in
    let named : names c (cast_of a early.history) ≡ true = ap (λ o. names c o) (same_cast a r) ∙ needed.1 in
    rw (caller, named, lives plans a play early r quiescent needed.2) refl

-- what a living actor is ready to run in the play is next in a sound quiescent play that has reached it there
pub runs_alike : (plans : ℕ → List Step) (a c : ℕ) {item : RunItem} {play early : At} → IsSound early.history → IsReached a play early
    → IsQuiescent plans early → is_ended a play.history ≡ false → IsReady a c play.history item → next_item a c early.history ≡ Some item
runs_alike plans a c {play} {early} sound r quiescent live is =
    let g = early.history in let n = ran_count c a play.history in let call : ℕ × Submission = is.next.call in
    let with_args : List Settled → RunItem = λ args. record { caller = c; number = n; future = call.0; method = call.1.method; args = args } in
    let same_count : ran_count c a g ≡ n = ap (λ items. length (items_of c items)) r.runs in
    let at : slice_get (calls_to a (calls_of c g)) n ≡ Some call =
    slice_get_front (calls_to a (calls_of c play.history)) (calls_to a (calls_of c g)) n
    (calls_to_grow a (calls_of c play.history) (calls_of c g) (r.calls c)) is.next.at in
    let stands : (slice_get (calls_of c g) call.0 ≡ Some call.1) × (call.1.actor ≡ a) = let s = calls_to-at a (calls_of c g) n at in (s.at, s.actor) in
    let settled_args : (list_all (is_known (kept_of c g)) call.1.args ≡ true)
    × (map (settle (kept_of c g)) call.1.args ≡ map (settle (kept_of c play.history)) call.1.args) =
    arguments_stay (kept_of c play.history) (kept_of c g) (r.kept c) call.1.args is.known in
    let unanswered : kept_at (kept_of c g) call.0 ≡ None =
    next_unanswered g a c sound (ap (λ m. slice_get (calls_to a (calls_of c g)) m) same_count ∙ at) (lives plans a play early r quiescent live) in
    let letter : call_letter c call.0 call.1 g ≡ CallLetter c a n =
    ap (λ b. CallLetter c b (number_of b call.0 (calls_of c g))) stands.1 ∙ ap (CallLetter c a) (number_is a n (calls_of c g) at) in
    let arrived : has_letter (CallLetter c a n) g.arrived ≡ true =
    subst (λ l. has_letter l g.arrived ≡ true) letter
    (quiescent.sent c call.0 call.1 stands.0 unanswered settled_args.0
    (subst (λ b. is_ended b g ≡ false) (sym stands.1) (lives plans a play early r quiescent live))) in
    rw (same_count, arrived, at) (ap (λ i. Some i) (ap with_args (settled_args.1)) ∙ ap (λ i. Some i) is.next.is)

-- ---- a kill

-- an actor whose kill isn't refused in the play isn't refused it in a quiescent play that has reached it there
pub may_kill : (specs : List ActorSpec) (plans : ℕ → List Step) (a : ℕ) {play early : At} → IsPlay specs plans play → IsPlay specs plans early →
    IsReached a play early → IsQuiescent plans early → refusal_of play.history (event.TakeKill a) ≡ None → refusal_of early.history (event.TakeKill a) ≡ None
may_kill specs plans a {play} {early} is goes r quiescent e =
    let needed = take_needs play.history a e in
    let cast : is_some (cast_of a early.history) ≡ true = ap (λ o. is_some o) (same_cast a r) ∙ needed.0 in
    let live = lives plans a play early r quiescent needed.1 in let by = asked_by specs plans a play is needed.2 in
    let front : IsPrefix (done_steps plans by.0 play) (done_steps plans by.0 early) =
    take-prefix (plans by.0) (steps_of by.0 play) (steps_of by.0 early) (r.steps by.0) in
    let there = asks_all a early goes by.0 (any_front (is_kill_of a) (done_steps plans by.0 play) (done_steps plans by.0 early) front by.1) in
    let asked = either_of (contains a early.history.asked) (is_dead a early.history) (contains a early.history.asked ≡ true) there (λ e. e)
    (λ dead. absurd (not_so dead (not_dead a early.history live))) in
    rw (cast, live, asked) refl
