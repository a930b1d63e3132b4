use Rattle.std.proofs.Common.{refl}
use Rattle.std.specs.Fmt.{digits}
use Rattle.act_rows.proofs.rows.worked_kinds.Goals as goal

pub returns : goal.returns
unfolding digits
returns _ = record {
  counter_adds = refl;
  counter_overflows_below = refl;
  counter_has_no_push = refl;
  counter_get_takes_nothing = refl;
  counter_adds_numbers_only = refl;
  table_put_keeps_the_place = refl;
  table_del_keeps_the_order = refl;
  table_full_refuses_a_new_key = refl;
  table_full_takes_a_present_key = refl;
  table_refuses_a_long_key = refl;
  table_refuses_unit = refl;
  account_withdraws_all = refl;
  account_insufficient = refl;
  account_deposits_above_zero = refl;
  account_overflows = refl;
  account_withdraws_above_zero = refl;
  list_pops_nothing = refl;
  list_at_past_the_end = refl;
  list_pushes_last = refl;
  list_pops_last = refl;
  counter_has_no_terminate = refl;
  table_has_no_terminate = refl;
  account_has_no_terminate = refl;
  list_has_no_terminate = refl;
}
