-- A world that was handed on.
use Rattle.act_explore.proofs.Common.{◌≡◌, List, sym, subst, KindState, Event, ActorSpec, Slot, WorldOf, world_view, IsReachedBy}

pub moved : {K : Type 0} (state : K → KindState) (casts : List ActorSpec) (events later : List Event) (world handed : WorldOf (Slot K)) → handed ≡ world →
    later ≡ events → IsReachedBy casts events (world_view state world) → IsReachedBy casts later (world_view state handed)
moved {K = K} state casts events later world handed same as_long reached =
    subst (λ l. IsReachedBy casts l (world_view state handed)) (sym as_long)
    (subst (λ w. IsReachedBy casts events (world_view state w)) (sym same) reached)
