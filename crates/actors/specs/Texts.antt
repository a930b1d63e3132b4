-- How things are written, and which texts are good.

-- which texts are a value, and which are a name of a method or a fault
pub use Rattle.act_types.specs.GoodText.{is_good_text}
pub use Rattle.act_types.specs.Names.{is_name, is_taken}
-- names, methods, values, answers and states
pub use Rattle.act_types.specs.Texts.{caller_text, actor_text, method_text, value_text, fault_text, answer_text}
pub use Rattle.act_types.specs.Texts.{state_text, with_spaces, one_line, shown_byte}
pub use Rattle.act_rules.specs.Report.{future_text}
-- what is told of an event, and what is wrong with a script
pub use Rattle.act_rules.specs.Report.{did_text, outcome_text, arrival_text}
pub use Rattle.act_rules.specs.Report.{refusal_text, submit_text, sending_text, handle_text, wrong_text}
