-- The names of specifications and of the crates below that most proofs here cite, passed on from one place.
pub use Rattle.act_actor.specs.Casts.{actor_spec}
pub use Rattle.act_actor.specs.declared.cast.Cast.{Cast}
pub use Rattle.act_early.proofs.Ending.{enough}
pub use Rattle.act_rules.proofs.Callers.{is_named, named_among}
pub use Rattle.act_early.proofs.Worlds.{world}
pub use Rattle.act_early.specs.Early.{EndsAlike, HasRunMore, IsQuiescent, IsWholeSearch, is_heard}
pub use Rattle.act_early.specs.Plays.{At, IsPlay}
pub use Rattle.act_rules.proofs.Elements.{IsIn, all_in, any_is, contains_from_in, contains_is, in_filter, in_from_contains}
pub use Rattle.act_executor.specs.Joined.{IsJoined, calls_in, calls_of_owner, kept_in, kept_of_owner}
pub use Rattle.act_executor.specs.Plays.{IsOwnerIn}
pub use Rattle.act_executor.specs.Runs.{plan_view}
pub use Rattle.act_explore.specs.Ends.{EachEndHas, EachRunHas, HasPassed, IsDone, LeadsToEnd}
pub use Rattle.act_explore.specs.Found.{IsFound, IsFoundBy}
pub use Rattle.act_explore.specs.Paths.{HasMade, HasNumber, is_take, key_of, letter_of, part_of, run_at, runs_in, takes_in}
pub use Rattle.act_explore.specs.Plans.{AreSuited}
pub use Rattle.act_explore.specs.Searches.{Grows, HasAdded, HasPut, HasSearched, HasSearchedAll, IsKnown, IsLookedAt, IsOpened, IsPlayAt, IsSeen, Left, Waits}
pub use Rattle.act_explore.specs.Searches.{left_of, with_path}
pub use Rattle.act_explore.specs.declared.exploring.Found.{Found}
pub use Rattle.act_owner.specs.Owner.{OwnerView}
pub use Rattle.act_plan_plays.specs.Play.{HasChosen, HoldPlans, StandsAt, play_view}
pub use Rattle.act_plan_plays.specs.declared.choice.Choice.{Choice}
pub use Rattle.act_plan_plays.specs.declared.choice.Choice.TheVariants.{Run, Take}
pub use Rattle.act_plans.proofs.ActorSpecs.{actors_are, bad_view, plans_are, setups_view}
pub use Rattle.act_plans.proofs.Numbers.{in_one_to, one_more}
pub use Rattle.act_plans.specs.Prepared.{bad_of_setup, callers_named_by, setup_of, setup_view}
pub use Rattle.act_plans.specs.Runs.{callers_of_casts, first_bad_plan, plan_of}
pub use Rattle.act_plans.specs.Setups.{PlansFit}
pub use Rattle.act_plans.specs.declared.rising.CallerSetup.{CallerSetup}
pub use Rattle.act_rules.proofs.Lists.{list_any-map}
pub use Rattle.act_rules.proofs.RanAll.{named_call}
pub use Rattle.act_rules.specs.History.{ActorSpec, History, calls_of, contains, kept_of, next_item, opening, runs_of}
pub use Rattle.act_rules.specs.Laws.{history}
pub use Rattle.act_rules.specs.Report.{one_to}
pub use Rattle.act_rules.specs.Rules.{outcomes, refusal_of}
pub use Rattle.act_rules.specs.Submissions.{kept_at}
pub use Rattle.act_rules.specs.declared.event.Event.{Event}
pub use Rattle.act_rules.specs.declared.history.RunItem.{RunItem}
pub use Rattle.act_rules.specs.declared.history.Submission.{Submission}
pub use Rattle.act_rules.specs.declared.script.Step.{Step}
pub use Rattle.act_serve.specs.Served.{EndView}
pub use Rattle.act_thread_ends.proofs.Ends.{seen_end}
pub use Rattle.act_thread_ends.proofs.Fitting.{of_a_run}
pub use Rattle.act_thread_ends.proofs.Left.{owner_left}
pub use Rattle.act_thread_ends.proofs.Plans.{no_plan}
pub use Rattle.act_thread_ends.specs.ThreadEnds.{AreOfARun, EndsAsThreads}
pub use Rattle.act_types.specs.KindState.{KindState}
pub use Rattle.act_types.specs.declared.limits.TheConstants.{MAX_CALLERS}
pub use Rattle.act_world.specs.IsReachedBy.{IsReachedBy}
pub use Rattle.act_world.specs.View.{WorldOf, world_view}
pub use Rattle.act_world.specs.declared.slot.Slot.{Slot}
pub use Rattle.std.proofs.Common.{All, BTreeSet, Bool, Contains, Global, IsOk, List, None, Option, Some, String, [], ap, append-nil, append_assoc, arith}
pub use Rattle.std.proofs.Common.{bytes_eq, cond, eq-eqb, eqb-true, false, filter_map, flat_map, get_or, if◌then◌else◌, inl, inr, is_some, length, map, nat_cmp}
pub use Rattle.std.proofs.Common.{ne_eqb, option_to_list, refl, slice_get, string_bytes, subst, suc, sym, take, true, zero, ℕ, ◌++◌, ◌+◌, ◌<◌, ◌==◌, ◌||◌, ◌∙◌}
pub use Rattle.std.proofs.Common.{◌∷◌, ◌≡◌, ◌≤◌, ◌⊎◌}
pub use Rattle.std.proofs.lemmas.Bool.{cases_lt}
pub use Rattle.std.proofs.lemmas.Grind.{flat_map-append}
pub use Rattle.std.proofs.lemmas.List.{map-append, map_push, take_all, take_more}
pub use Rattle.std.proofs.lemmas.List.Elements.{All-cons, All-contains, All-head, All-more, All-nil, All-push, All-tail, All-weaker, Contains-append_left}
pub use Rattle.std.proofs.lemmas.List.Elements.{Contains-append_right, Contains-push, Contains-push_cases, filter_map-append}
pub use Rattle.std.proofs.lemmas.List.Folds.{list_any-append}
pub use Rattle.std.proofs.lemmas.Map.Text.{btree_set_updates_text}
pub use Rattle.std.proofs.lemmas.Option.{slice_get_within}
pub use Rattle.std.proofs.lemmas.Slice.Eq.{bytes_eq-Decides}
pub use Rattle.std.specs.BTreeMap.{is_at}
pub use Rattle.std.specs.BTreeSet.{contains_text}
pub use Rattle.std.specs.Cmp.Lexicographic.{slice_cmp}
pub use Rattle.std.specs.Global.{Vec}
pub use Rattle.std.specs.List.{list_any}
