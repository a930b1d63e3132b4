-- The names of specifications and of the crates below that most proofs here cite, passed on from one place.
pub use Rattle.actors.proofs.Lemmas.{All_at, all_by_places, all_in, filter-slice_get, finds, found_is, is_contained, map-slice_get, numbers_differ, one_of}
pub use Rattle.actors.proofs.Lemmas.{pairs_of_map, run_keeps, slice_get-enumerate_from, slice_get-filter}
pub use Rattle.actors.specs.Actors.{RetiredView, actor_spec, after_item, answer_at, answers_from, items_of, state_after, step_of_call, values_of, with_value}
pub use Rattle.actors.specs.Arg.{Arg}
pub use Rattle.actors.specs.Arg.TheVariants.{Plain}
pub use Rattle.actors.specs.Callers.{OwnerView, calls_to, kept_at, one_to, settle}
pub use Rattle.actors.specs.Codes.{HasTold, IsLater, SessionView, Submits, session_view}
pub use Rattle.actors.specs.Fault.{Fault}
pub use Rattle.actors.specs.Fault.TheVariants.{BadAmount, BadArgs, Dependency, Insufficient, NoMethod, Overflow}
pub use Rattle.actors.specs.Kinds.{AccountAt, Answer, KindState, is_in_range, need, step_of_reply}
pub use Rattle.actors.specs.Method.{Method}
pub use Rattle.actors.specs.Method.TheVariants.{Add, Balance, Deposit, Own, Push, Withdraw}
pub use Rattle.actors.specs.Rules.{ActorSpec, Consistent, IsAnswerOfRun, IsAsSubmitted, IsCallToDead, contains, opening, opening_of}
pub use Rattle.actors.specs.RunItem.{RunItem}
pub use Rattle.actors.specs.Settled.{Settled}
pub use Rattle.actors.specs.Settled.TheVariants.{Bad, Good}
pub use Rattle.actors.specs.Step.{Step}
pub use Rattle.actors.specs.Submission.{Submission}
pub use Rattle.actors.specs.Threads.{EndView, IfRetired, IsJoined, RanAll, Retired, calls_in, calls_of_owner, end_id, end_of, end_view, is_killed_end, kept_in}
pub use Rattle.actors.specs.Threads.{kept_of_owner, killed_in, log_in, log_of_end, owner_of}
pub use Rattle.actors.specs.Value.{Value}
pub use Rattle.actors.specs.Value.TheVariants.{Int}
pub use Rattle.example_callers.specs.Accounts.{HoldsWhatWasPutIn, funds_of, paid_in_by, paid_out_by, put_in, taken_in}
pub use Rattle.example_callers.specs.Buyer.{HasPaid, buyer_tells, calls_by, payment}
pub use Rattle.example_callers.specs.Buyers.{HasLeft}
pub use Rattle.example_callers.specs.Impatient.{pop_call}
pub use Rattle.example_callers.specs.Retry.{HasFailed, HasTried, is_lacking, withdraw_try}
pub use Rattle.example_callers.specs.Runs.{AreBalanced, HasTransferred, IsAccount, IsBalanced, KeepsTheSum, held_first, held_last, put_by_all, taken_by_all}
pub use Rattle.example_callers.specs.Transfer.{HasTransferEnded, balance_call, is_amount, is_enough, transfer_tells, withdraw_call}
pub use Rattle.example_callers.specs.Worker.{HasDoneJobs, dequeue_call, is_job}
pub use Rattle.example_callers.specs.declared.buyer.Buyer.{Buyer}
pub use Rattle.example_callers.specs.declared.retry.Retry.{Retry}
pub use Rattle.example_callers.specs.declared.transfer.Transfer.{Transfer}
pub use Rattle.example_callers.specs.declared.worker.Worker.{Worker}
pub use Rattle.example_kinds.proofs.Orders.{order_is_kept}
pub use Rattle.example_kinds.specs.Queue.{IsInOrder, queue_step, queue_text}
pub use Rattle.std.proofs.Common.{All, AllPairs, Bool, Err, IsTrue, List, None, Ok, Option, Result, Some, [], ap, arith, codes, cond, eq-eqb, eq-or-lt_of_le}
pub use Rattle.std.proofs.Common.{eqb-true, false, filter, get_or, inl, inr, int_lt, is_some, length, map, nat_le, ne_eqb, negsuc, option_and_then}
pub use Rattle.std.proofs.Common.{option_copied, option_map, pos, refl, replicate, rules, slice_get, subst, suc, sym, true, zero, zip, ℕ, ℤ, ◌++◌, ◌+ℤ◌, ◌+◌}
pub use Rattle.std.proofs.Common.{◌-ℤ◌, ◌-◌, ◌<◌, ◌==◌, ◌||◌, ◌∙◌, ◌∷◌, ◌≡◌, ◌≢◌, ◌≤◌, ◌⊎◌}
pub use Rattle.std.proofs.lemmas.Bool.{leb-true}
pub use Rattle.std.proofs.lemmas.Grind.{replicate_next}
pub use Rattle.std.proofs.lemmas.List.{length-replicate}
pub use Rattle.std.proofs.lemmas.List.Elements.{All-filter, All-head, All-tail, filter_passes}
pub use Rattle.std.proofs.lemmas.List.Kept.{AllPairs-filter}
pub use Rattle.std.proofs.lemmas.List.Sums.{sum_by-cons}
pub use Rattle.std.proofs.lemmas.Option.{slice_get-get_or, slice_get-map, slice_get_within}
pub use Rattle.std.specs.List.{enumerate_from, list_any, sum_by}
