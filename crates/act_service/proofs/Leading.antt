-- An epoch, made of a run, and the casts that it leaves.
use Rattle.act_service.proofs.Common.{◌≡◌, ℕ, ◌==◌, List, [], ◌∷◌, ◌++◌, map, Option, Some, None, refl, sym, ap, ◌∙◌, subst, find, filter_map, option_map}
use Rattle.act_service.proofs.Common.{cons_option, KindState, ActorSpec, find-map, Cast, actor_spec, Step, Finished, EndView, Retired, end_view, SessionView}
use Rattle.act_service.proofs.Common.{Joined, IsJoinedBy, IsPlayedBy, IsPlayed, Epoch, IsEpoch, cast_of_end, casts_left, are_more, left_more, Shape, shape_of}
use Rattle.act_service.proofs.Common.{opened_in, cast_left_by, Known, Given, CarriesOver, BecomesKnown, LeadsOn}

-- ---- what shapes leave is what casts leave

module _ {K : Type 0} (state : K → KindState) (casts : List (Cast K)) where
  fused : (opening : KindState) (o : Option (Cast K)) → option_map (opened_in opening) (option_map shape_of o) ≡ option_map
      (λ (cast : ActorSpec). record cast { opening = opening }) (option_map (actor_spec state) o)
  fused opening None = refl
  fused opening (Some cast) = refl

  pub by_shape : (end : EndView) → cast_left_by (map shape_of casts) end ≡ cast_of_end (map (actor_spec state) casts) end
  by_shape (Retired retired) =
      ap (option_map (opened_in retired.state)) (find-map (λ (shape : Shape). shape.actor == retired.id) shape_of casts)
      ∙ fused retired.state (find (λ (cast : Cast K). cast.actor == retired.id) casts)
      ∙ sym (ap (option_map (λ (cast : ActorSpec). record cast { opening = retired.state }))
      (find-map (λ (cast : ActorSpec). cast.actor == retired.id) (actor_spec state) casts))
  by_shape end = refl

  pub by_shapes : (ends : List EndView) → filter_map (cast_left_by (map shape_of casts)) ends ≡ filter_map (cast_of_end (map (actor_spec state) casts)) ends
  by_shapes [] = refl
  by_shapes (end ∷ ends) = (λ i. cons_option (by_shape end i) (by_shapes ends i))

-- ---- epochs

-- what carries over leads on
pub carried : {C : Type 0} (tells : C → SessionView → SessionView → Type 0) (before later : Known C) (here : List ActorSpec) → CarriesOver before later here
    → LeadsOn tells before later here here
carried tells before later here carries casts led = record {
  epochs = led.epochs;
  follow = led.follow;
  after = led.after;
  known = carries casts led.epochs led.after led.known;
}

-- ---- an epoch, made of a run

module _ {C K L : Type 0} (tells : C → SessionView → SessionView → Type 0) (state : K → KindState) (casts : List (Cast K)) (codes : List (ℕ × C))
    (joined : Joined K L) where
  abbrev pub ends : List EndView
  ends = map (λ (actor : Finished K L). end_view state actor.ended) joined.actors.items

  abbrev pub here : List ActorSpec
  here = map (actor_spec state) casts

  abbrev pub epoch : Epoch C
  epoch = record { casts = here; codes = codes; owners = joined.owners.items; ends = ends }

  pub is_epoch : {plans : List (ℕ × List Step)} → plans ≡ [] → IsJoinedBy tells here plans codes joined.owners.items ends →
      IsPlayed here joined.owners.items ends → IsPlayedBy tells here plans codes joined.owners.items ends → IsEpoch tells epoch
  is_epoch none run play planned = record {
    joined = subst (λ l. IsJoinedBy tells here l codes joined.owners.items ends) none run;
    played = play;
    planned = subst (λ l. IsPlayedBy tells here l codes joined.owners.items ends) none planned;
  }

  -- epochs that led to its casts lead on to those that it leaves
  pub leads : (gave : Given C) (later : Known C) → IsEpoch tells epoch → BecomesKnown tells state gave later joined
      → LeadsOn tells (gave (Some codes)) later here (casts_left epoch)
  leads gave later is becomes first led = record {
    epochs = led.epochs ++ epoch ∷ [];
    follow = are_more tells first led.epochs epoch led.follow led.after is;
    after = sym (left_more first led.epochs epoch);
    known = becomes first led.epochs epoch (record { before = led.follow; casts_are = led.after; is = is; owners = refl; ends = refl }) led.known;
  }

  -- which are those that its shapes leave
  pub left_is : {shapes : List Shape} (left : List (Cast K)) → shapes ≡ map shape_of casts → map (actor_spec state) left ≡ filter_map (cast_left_by shapes) ends
      → map (actor_spec state) left ≡ casts_left epoch
  left_is left are is = is ∙ ap (λ l. filter_map (cast_left_by l) ends) are ∙ by_shapes state casts ends
