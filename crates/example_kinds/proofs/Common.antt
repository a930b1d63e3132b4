-- The names of specifications and of the crates below that most proofs here cite, passed on from one place.
pub use Rattle.actors.proofs.Lemmas.{holds_in_each_run, run_keeps, slot_keeps, told_any}
pub use Rattle.actors.specs.Actors.{actor_spec, state_after}
pub use Rattle.actors.specs.Fault.{Fault}
pub use Rattle.actors.specs.Fault.TheVariants.{BadAmount, NoMethod, Own}
pub use Rattle.actors.specs.Kinds.{Answer, Ask, IsKept, KindState, Left, alone, count_value, kind_answer, next_state, on_call, reply_of, step_answer}
pub use Rattle.actors.specs.Kinds.{step_of_reply, told_in, told_reply}
pub use Rattle.actors.specs.Texts.{method_text, value_text, with_spaces}
pub use Rattle.actors.specs.Threads.{end_view, log_in, plan_view}
pub use Rattle.actors.specs.Value.{Value}
pub use Rattle.actors.specs.Value.TheVariants.{Int}
pub use Rattle.example_kinds.specs.Bank.{HoldsItsMoney, amount_in, amount_out, and_funds, asked_next, bank_at, bank_call, bank_does, bank_need, bank_step}
pub use Rattle.example_kinds.specs.Bank.{bank_text, empty_bank, funds_held, has_account, paid_in, paid_out, with_deposit, with_withdrawal}
pub use Rattle.std.proofs.Common.{Bool, List, [], ap, arith, cond, decimal, false, filter, flat_map, get_or, length, map, nat_le, nat_lt, pos, refl, replicate}
pub use Rattle.std.proofs.Common.{set, string_bytes, subst, suc, sym, take, true, ℕ, ℤ, ◌&&◌, ◌++◌, ◌+◌, ◌-ℤ◌, ◌-◌, ◌<◌, ◌^◌, ◌∙◌, ◌∷◌, ◌≡◌, ◌≤◌}
pub use Rattle.std.proofs.lemmas.List.{append-nil, append_assoc, length-set}
pub use Rattle.std.proofs.lemmas.List.Sums.{sum_by-append, sum_by-set}
pub use Rattle.std.specs.List.{list_any, sum}
pub use Rattle.std.specs.Prelude.{Err, Ok, Result, bytes_eq, codes, if◌then◌else◌, int_lt, is_ok, option_map, unsigned_abs, ◌||◌}
