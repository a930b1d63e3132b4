-- The names of specifications and of the crates below that most proofs here cite, passed on from one place.
pub use Rattle.act_early.proofs.Common.{ActorEnded, ActorSpec, All, All_at, Answer, At, Await, Bool, Contains, Contains-append_left, Copy, Err, Event, Grows}
pub use Rattle.act_early.proofs.Common.{Handle, History, IsKept, IsOk, IsPrefix, IsSound, IsSoundPost, Kill, Letter, List, MayTake, NoActor, NoCaller, None}
pub use Rattle.act_early.proofs.Common.{NotDead, Ok, Option, Outcome, Post, Release, Retires, RunItem, Sending, Some, Step, Submission, Submit, WorldRefusal}
pub use Rattle.act_early.proofs.Common.{[], add_event, added_grows, after, after_all_keeps, after_by, after_run, and_also, ap, append-nil, append_assoc, arith}
pub use Rattle.act_early.proofs.Common.{call_letter, calls_of, calls_to, calls_to-at, calls_to_grow, cases_lt, cast_of, cond, contains, copy_refusal}
pub use Rattle.act_early.proofs.Common.{deliver_refusal, eq-eqb, eqb-true, false, filter, find, first_answer, has_letter, has_terminated, history}
pub use Rattle.act_early.proofs.Common.{if◌then◌else◌, inl, inr, is_caller, is_dead, is_ended, is_none, is_reply, is_retired, is_some, items_of, kept_at}
pub use Rattle.act_early.proofs.Common.{kept_extends, kept_of, length, letter_actor, map, map-slice_get, names, needs, needs-none, next_item, not, not-true}
pub use Rattle.act_early.proofs.Common.{nothing_follows_step, number_of, numbered, numbers, opening, option_and_then, option_map, outcome_by, outcome_of}
pub use Rattle.act_early.proofs.Common.{outcomes, ran_count, refl, refusal_of, run_needs, runs_grow, runs_of, send_refusal, slice_get, slice_get-enumerate_from}
pub use Rattle.act_early.proofs.Common.{slice_get-filter, slice_get_front, slice_get_last, slice_get_within, subst, suc, sym, take, take-append_seam, true}
pub use Rattle.act_early.proofs.Common.{under, under-push, was_sent, world_retires, world_sound, zero, ℕ, ◌++◌, ◌+◌, ◌-◌, ◌<◌, ◌==◌, ◌||◌, ◌∙◌, ◌∷◌, ◌≡◌, ◌≤◌}
pub use Rattle.act_early.proofs.Common.{ran_on, run_stands, ◌⊎◌}
pub use Rattle.act_early.proofs.Unanswered.{next_unanswered, number_is}
pub use Rattle.act_early.proofs.Worlds.{IsWorld, either_of, take_needs, world}
pub use Rattle.act_executor.specs.PlanPlays.{DoesPlanIn, DoesStepIn, step_of}
pub use Rattle.act_lists.proofs.Lists.{place_in, stands_in}
pub use Rattle.act_plan_plays.proofs.Brought.{brought_kept, brought_release, brought_send}
pub use Rattle.act_plan_plays.proofs.Common.{Arg, Died, Ended, IsBehind, IsOwnerOf, IsReachedBy, IsStage, OnOk, OwnerView, Refines, SlotView, Vacant, Vec}
pub use Rattle.act_plan_plays.proofs.Common.{WorldView, copies_in, did_run, enumerate_from, get_or, get_or_from_slice_get, get_set-other, get_set-same}
pub use Rattle.act_plan_plays.proofs.Common.{is_dead_slot, is_death_to, is_known_dead, is_ok, leb, leb-false, leb-true, length-map, list_any, named_among}
pub use Rattle.act_plan_plays.proofs.Common.{not_dead, option_map_or, replicate, shows_dead, shows_next, slice_set, stage_of_slot, world_view, ◌≢◌}
pub use Rattle.act_plan_plays.proofs.Events.{done_of, post_mail, post_none}
pub use Rattle.act_plan_plays.specs.Parts.{IsBrought, after_mail, after_move, after_post}
pub use Rattle.act_rules.proofs.Ended.{NothingFollows, contains_push}
pub use Rattle.act_rules.proofs.Events.{some_cast}
pub use Rattle.act_rules.proofs.Letters.{calls_to-number, has_last, has_letter-at}
pub use Rattle.act_rules.proofs.Lists.{front_whole, option_map-none}
pub use Rattle.act_rules.proofs.RanAll.{copies_named, named_call}
pub use Rattle.act_rules.specs.History.{copies_of}
pub use Rattle.act_rules.specs.Rules.{did}
pub use Rattle.act_rules.specs.declared.event.Event.TheVariants.{Deliver, Retire}
pub use Rattle.act_rules.specs.declared.history.Post.TheVariants.{Death as DeathPost, Reply as ReplyPost}
pub use Rattle.act_rules.specs.declared.outcome.Did.{Did}
pub use Rattle.act_told_ends.proofs.Bridge.{IsLate, late_play}
pub use Rattle.act_told_ends.proofs.Lists.{push_at}
pub use Rattle.act_told_ends.proofs.Resting.{collect_may, walked_left}
pub use Rattle.act_told_ends.proofs.Stepped.{goes_on, going}
pub use Rattle.act_told_ends.proofs.Walked.{IsGoing, hear_more, quiet_kept}
pub use Rattle.act_told_ends.specs.Retiring.{IsToRetire, LetsGo, MayRetire, Notes, RetiredAsTold, last_note}
pub use Rattle.act_told_ends.specs.Told.{Leaves, Told}
pub use Rattle.act_told_ends.specs.Walked.{Begins, Brings, IsWalked, Mails, one_step_more}
pub use Rattle.act_told_ends.specs.Walks.{Asks, Calls, Collects, Delivers, DoesWithout, IsNextRun, IsThrough, MayGoOn, MayHear, Runs, Sends, TakesKill, Tells}
pub use Rattle.act_walks.specs.Asking.{AreAsked, AsksFrom, IsAsking, SetsOut}
pub use Rattle.act_walks.specs.Eager.{DeathsAreHeard, IsAtRest, IsEager, KillsAreAsked, RepliesAreKept, SomeEnd}
pub use Rattle.act_walks.specs.Fits.{Fits, FitsCasts, FitsLeft, actor_in, bound_of, call_of_item, call_of_run, caller_in, callers_of, calls_in, is_dead_in}
pub use Rattle.act_walks.specs.Fits.{left_of, rans_in, runs_in, steps_in, submission_of_call}
pub use Rattle.act_walks.specs.Paced.{AreAllDone, Closes, DoesAllItsSteps, IsPaced, Others, Starts, Steps}
pub use Rattle.act_walks.specs.Rested.{AreSettled, CannotHappen, HoldNone, IsSettled, IsToldRetired, OnlyRests, RestsOn, SaysRetired, is_restful}
pub use Rattle.act_walks.specs.Walking.{AllLetHear, ComesThrough, Does, DoesEvent, DoesPost, DoesStep, GoesOn, Hears, HearsNow, IsEndOf, IsRefused, IsWalking}
pub use Rattle.act_walks.specs.Walking.{Moves, NeedsMore, NoAct, NoActs, NoCall, NoKill, NoMove, NoRuns, NoServing, NoServings, NoStep, NoTell, NoTells}
pub use Rattle.act_walks.specs.Walking.{NoTellsOf, Parts, RunsNext, Stands, Tries, TriesPost, TriesStep, answer_lets, bring, done_in, lets_hear, parts_of}
pub use Rattle.act_walks.specs.Whole.{Decides, DoesAllSteps, GoesFar, HasDone, HaveDone}
pub use Rattle.act_walks.specs.declared.told.Left.{Left}
pub use Rattle.act_walks.specs.declared.told.Left.TheVariants.{Death, Open, Reply}
pub use Rattle.act_walks.specs.declared.told.ToldActor.{ToldActor}
pub use Rattle.act_walks.specs.declared.told.ToldCall.{ToldCall}
pub use Rattle.act_walks.specs.declared.told.ToldCaller.{ToldCaller}
pub use Rattle.act_walks.specs.declared.told.ToldEnd.{ToldEnd}
pub use Rattle.std.proofs.Common.{Bor, OnErr, Result, nat_lt, option_copied}
pub use Rattle.std.proofs.lemmas.Bool.{ltb-false, or_cases, or_parts, or_right}
pub use Rattle.std.proofs.lemmas.List.{map-append, take_all, take_more}
pub use Rattle.std.proofs.lemmas.List.Elements.{All-append, All-cons, All-head, All-nil, All-tail}
pub use Rattle.std.proofs.lemmas.Option.{slice_get-get_or, slice_get-map, slice_get_past}
pub use Rattle.std.specs.Prelude.{IfOk}
