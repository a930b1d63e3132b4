use Rattle.act_order_plays.proofs.Common.{world_sound, casts_of}
use Rattle.act_order_plays.proofs.Fitting.{play_fits}
use Rattle.act_order_plays.proofs.InOrder.{in_order}
use Rattle.act_order_plays.proofs.Plays.{play_of}
use Rattle.act_order_plays.proofs.laws.orders_are_plays.Goals as goal

pub returns : goal.returns
returns _ told whole = (
  (λ ordered. play_of told ordered.0.0 whole ordered.1 ordered.0.1),
  (λ played. (
    in_order told played.0 whole played.1,
    play_fits told (casts_of told) played.0 whole (world_sound (casts_of told) played.0) played.1.leaves,
  )),
)
