-- The names of specifications and of the crates below that most proofs here cite, passed on from one place.
pub use Rattle.act_handles.proofs.Lookups.{given-opened, given-with_copy, given-with_number, given-with_number-other, given-without_copy, given_of_all-opened}
pub use Rattle.act_handles.specs.Handles.{change_handle, copies_in, given_in, given_of_all, new_handle, number_answer, or_else, with_copy, with_number}
pub use Rattle.act_handles.specs.Handles.{without_copy}
pub use Rattle.act_handles.specs.declared.handles.Handle.{Handle}
pub use Rattle.act_lists.proofs.Lists.{slice_get_last}
pub use Rattle.act_owner.specs.Life.{AreAccepted, Hears, IsAccepted, IsToldBy, after_action, after_actions, is_known_at, notices_in}
pub use Rattle.act_owner.specs.Owner.{IsOwner, KnowsAnswers, OwnerView, after_reply_that, answer_after_death, answer_of_new_call, answered_row, answers_of}
pub use Rattle.act_owner.specs.Owner.{call_at, call_waits_for, collected_reply, entered_call, first_ready, futures_of_args, is_death, is_known_call}
pub use Rattle.act_owner.specs.Owner.{is_known_dead, is_of_call, is_sent, is_to, numbered_call, opened_under, owner_limit, packet_at, packet_for, pending}
pub use Rattle.act_owner.specs.Owner.{refusal_to_submit, submission_of, with_death, with_sent, with_submission}
pub use Rattle.act_owner.specs.declared.owner.Call.{Call}
pub use Rattle.act_owner.specs.declared.owner.Collected.{Collected}
pub use Rattle.act_owner.specs.declared.owner.Collected.TheVariants.{Died, First, Late, Stray}
pub use Rattle.act_replies.proofs.Deaths.{count-after_keep, death-after_keep, death-none, waiting_row}
pub use Rattle.act_replies.specs.Table.{after_keep, row_waits_for, row_with_answer, rows_after_death, unanswered_row, waits_at}
pub use Rattle.act_replies.specs.declared.table.Row.{Row}
pub use Rattle.act_resolver.specs.Resolver.{Entered, changed_at, is_answered, is_marked_sent, is_next_ready, is_told, least_ready, new_call, with_told}
pub use Rattle.act_rules.proofs.Events.{calls_to-length}
pub use Rattle.act_rules.proofs.Lists.{option_or-none_second}
pub use Rattle.act_rules.specs.Actions.{Action, Copied, Noticed, Sent, Submitted}
pub use Rattle.act_rules.specs.RunList.{Answer}
pub use Rattle.act_rules.specs.Submissions.{calls_to, copies_held, is_known, kept_at, limit_refusal, needs, number_of, settle, settled_future, submit_refusal}
pub use Rattle.act_rules.specs.declared.history.Submission.{Submission}
pub use Rattle.act_rules.specs.declared.outcome.HandleRefusal.{HandleRefusal}
pub use Rattle.act_rules.specs.declared.outcome.HandleRefusal.TheVariants.{NoActor, NoHandle, TooManyCalls}
pub use Rattle.act_rules.specs.declared.outcome.SubmitRefusal.{SubmitRefusal}
pub use Rattle.act_rules.specs.declared.outcome.SubmitRefusal.TheVariants.{PendingLimit}
pub use Rattle.act_types.specs.declared.call.Arg.{Arg}
pub use Rattle.act_types.specs.declared.call.Arg.TheVariants.{Fut, Plain}
pub use Rattle.act_types.specs.declared.call.Fault.TheVariants.{ActorDied}
pub use Rattle.act_types.specs.declared.call.Method.{Method}
pub use Rattle.act_types.specs.declared.call.Notice.{Notice}
pub use Rattle.act_types.specs.declared.call.Notice.TheVariants.{Answered, Death}
pub use Rattle.act_types.specs.declared.call.Packet.{Packet}
pub use Rattle.act_types.specs.declared.call.Reply.{Reply}
pub use Rattle.act_types.specs.declared.call.Settled.{Settled}
pub use Rattle.std.proofs.Common.{All, AllPairs, Bool, Contains, Err, List, None, Ok, OnErr, OnOk, Option, Result, Some, [], ap, append-nil, append_assoc}
pub use Rattle.std.proofs.Common.{arith, cond, count_by, drop, false, filter, find, get_or, if◌then◌else◌, inl, inr, is_some, length, map, nat_eq, nat_lt, not}
pub use Rattle.std.proofs.Common.{option_copied, option_map, refl, replicate, rules, slice_get, slice_index_or, slice_set, subst, suc, sym, take, true}
pub use Rattle.std.proofs.Common.{unwrap_or, zero, zip, ℕ, ◌&&◌, ◌++◌, ◌+◌, ◌-◌, ◌<◌, ◌==◌, ◌||◌, ◌∙◌, ◌∷◌, ◌≡◌, ◌≢◌, ◌≤◌, ◌⊎◌}
pub use Rattle.std.proofs.lemmas.Bool.{and_parts, eqb-true, lt-ltb, ltb-true, ne_eqb, not-true}
pub use Rattle.std.proofs.lemmas.Bool.Decides.{eqb_tells, leb_tells}
pub use Rattle.std.proofs.lemmas.List.{get_or-map, length-append, length-map, length-set, map-append, map-set, take-append-le, take_all}
pub use Rattle.std.proofs.lemmas.List.Elements.{Contains-append_left, Contains-push, filter-append}
pub use Rattle.std.proofs.lemmas.List.Sums.{sum_by-cons}
pub use Rattle.std.proofs.lemmas.Option.{slice_get-map, slice_get_past, unwrap_or-slice_get}
pub use Rattle.std.specs.List.{list_all, list_any, range_with_len}
pub use Rattle.std.specs.Option.{option_map_or}
