-- The casts of roles that fit can be opened.
use Rattle.act_console.proofs.Common.{◌≡◌, ◌≢◌, ◌<◌, List, length, map, get_or, sym, subst, arith, get_or-map, length-map, KindState, Role, ActorSpec, IsLimit}
use Rattle.act_console.proofs.Common.{actor_spec_of, Cast, CallersDiffer, IsFitting, actor_spec, AreFitting}

-- casts with the actor specifications of roles that fit can be opened
pub casts_fit : {K : Type 0} (state : K → KindState) (casts : List (Cast K)) (roles : List Role) → map (actor_spec state) casts ≡ map actor_spec_of roles →
    AreFitting (map actor_spec_of roles) → IsFitting casts
casts_fit state casts roles same fit =
    let fits : AreFitting (map (actor_spec state) casts) = subst AreFitting (sym same) fit in
    record {
      actors = λ i j d before within.
          let inside : j < length (map (actor_spec state) casts) = subst (λ n. j < n) (sym (length-map casts (actor_spec state))) within in
          subst (λ (cast : ActorSpec). cast.actor ≢ (get_or casts j d).actor) (get_or-map (actor_spec state) casts i d (actor_spec state d) (omega arith))
          (subst (λ (cast : ActorSpec). (get_or (map (actor_spec state) casts) i (actor_spec state d)).actor ≢ cast.actor)
          (get_or-map (actor_spec state) casts j d (actor_spec state d) within) (fits.actors i j (actor_spec state d) before inside));
      callers = λ k d within.
          let inside : k < length (map (actor_spec state) casts) = subst (λ n. k < n) (sym (length-map casts (actor_spec state))) within in
          subst (λ (cast : ActorSpec). CallersDiffer cast.callers) (get_or-map (actor_spec state) casts k d (actor_spec state d) within)
          (fits.callers k (actor_spec state d) inside);
      limits = λ k d within.
          let inside : k < length (map (actor_spec state) casts) = subst (λ n. k < n) (sym (length-map casts (actor_spec state))) within in
          subst (λ (cast : ActorSpec). IsLimit cast.pending) (get_or-map (actor_spec state) casts k d (actor_spec state d) within)
          (fits.limits k (actor_spec state d) inside);
    }
