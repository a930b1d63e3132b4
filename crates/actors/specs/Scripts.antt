-- Scripts.

-- what bytes spell, and their first fault
pub use Rattle.act_rules.specs.Grammar.{spelled, Script as Spelled}
pub use Rattle.act_scripts.specs.Spelled.{spelled_script, mode_of, count_of, GivesScript, FailsAt}
-- roles as casts, and the test of them
pub use Rattle.act_rules.specs.Scripts.{actor_spec_of}
pub use Rattle.act_scripts.specs.Roles.{AreFitting}
