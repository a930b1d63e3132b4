-- The limits, which are constants of the code.

-- how many callers, actors, calls and copies there may be
pub use Rattle.act_types.specs.declared.limits.TheConstants.{MAX_CALLERS, MAX_ACTORS, MAX_CALLS, MAX_COPIES}
-- how much a call or a state may hold
pub use Rattle.act_types.specs.declared.limits.TheConstants.{MAX_ARGS, MAX_TEXT_BYTES, MAX_NAME_BYTES}
pub use Rattle.act_types.specs.declared.limits.TheConstants.{MAX_KEYS, MAX_ITEMS}
-- how long a script and its lines may be
pub use Rattle.act_types.specs.declared.limits.TheConstants.{MAX_SCRIPT_BYTES, MAX_LINE_BYTES}
-- in threads: how long a plan may be, and how many kills of an actor code may ask
pub use Rattle.act_plans.specs.Setups.{most_steps}
pub use Rattle.act_drive.specs.declared.session.TheConstants.{MAX_KILLS}
