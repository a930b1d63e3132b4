-- Casts, and one actor.

-- actors to be, and the test of them
pub use Rattle.act_actor.specs.Cast.{IsFitting, CallersDiffer, ActorsDiffer}
pub use Rattle.act_actor.specs.Casts.{actor_spec, actors_that_name, limits_that_name}
-- a cast by its parts, and a number as an argument
pub use Rattle.act_short.specs.Short.{one_cast, number_arg}
-- what contracts see of an actor that runs, was killed, or ended by itself
pub use Rattle.act_actor.specs.View.{LiveView, LeftView, ActorView, DeadView, RetiredView}
pub use Rattle.act_actor.specs.StateViews.{live_view, retired_view}
-- what arrives
pub use Rattle.act_actor.specs.Actor.{arrival_at, call_arrival_at, note_arrival_at}
pub use Rattle.act_inbox.specs.Inbox.{IsOpened, IsTakenIn, HoldsNone, held_at, held_after, waiting_packet, waiting_after}
pub use Rattle.act_inbox.specs.Inbox.{note_of, note_after}
-- what runs next, what is left of it, and when it may retire
pub use Rattle.act_actor.specs.Actor.{next_call, item_of, reply_of_run, with_packet, HasRunCall, HasRunFrom, RunsAtOnce}
pub use Rattle.act_actor.specs.Actor.{MayRetire}
-- run lists: the state and the answer after one item, and after all
pub use Rattle.act_rules.specs.RunList.{after_item, answer_at, answers_from, state_after, values_of, with_value}
pub use Rattle.act_rules.specs.RunList.{step_of_call, items_of, is_end, ends_actor, has_terminated}
