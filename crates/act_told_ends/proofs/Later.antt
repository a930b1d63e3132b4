-- What stays while a play goes on: also calls, and what was collected.
use Rattle.act_told_ends.proofs.Common.{◌≡◌, ℕ, Event, Step, Await, History, calls_of, refusal_of, add_event, IsPrefix, None, added_grows, calls_grow}
use Rattle.act_told_ends.proofs.Common.{whole_front, front_trans, IsSound, MayTake, after_step, IsEarlier, earlier_same, earlier_trans, earlier_event, event_of}

pub record IsLater (h g : History) : Type 0 where
  pub early : IsEarlier h g
  pub calls : (c : ℕ) → IsPrefix (calls_of c h) (calls_of c g)
  pub collected : IsPrefix h.collected g.collected

-- a history counts as later than itself
pub later_same : (h : History) → IsLater h h
later_same h = record { early = earlier_same h; calls = λ c. whole_front (calls_of c h); collected = whole_front h.collected }

-- if a second history is later than a first, and a third than the second, the third is later than the first
pub later_trans : {f g h : History} → IsLater f g → IsLater g h → IsLater f h
later_trans {f} {g} {h} one two = record {
  early = earlier_trans one.early two.early;
  calls = λ c. front_trans (calls_of c f) (calls_of c g) (calls_of c h) (one.calls c) (two.calls c);
  collected = front_trans f.collected g.collected h.collected one.collected two.collected;
}

-- what an accepted event makes of a sound history is later than it
pub later_event : {h : History} (other : Event) → IsSound h → refusal_of h other ≡ None → IsLater h (add_event h other)
later_event {h} other sound may =
    let grows = added_grows h other in record { early = earlier_event other sound may; calls = λ c. calls_grow c grows; collected = grows.collected }

pub later_step : (c : ℕ) (step : Step) (h : History) → IsSound h → MayTake c step h → IsLater h (after_step c step h)
later_step c (Await k) h sound may = later_same h
later_step c step h sound may = later_event (event_of c step) sound may
