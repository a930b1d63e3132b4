-- The world before any deed.
use Rattle.act_causes.proofs.Common.{◌≡◌, ◌≢◌, ℕ, ◌<◌, ◌≤◌, Bool, true, false, cond, List, ◌∷◌, length, map, filter, Option, Some, None, All, AllPairs, inl}
use Rattle.act_causes.proofs.Common.{inr, refl, ap, sym, ◌∙◌, subst, arith, ◌==◌, find, slice_get, replicate, nat_lt, list_any, range_with_len, eqb-true}
use Rattle.act_causes.proofs.Common.{eqb_tells, leb_tells, All-contains, list_any-append, get_or-map-range_with_len, length-map-range_with_len}
use Rattle.act_causes.proofs.Common.{slice_get-get_or, slice_get_past, map-map, KindState, Packet, ActorSpec, opening, contains, cast_of, names, find-tells}
use Rattle.act_causes.proofs.Common.{AllPairs-map, InboxView, lane_at_first, IsOpened, no_notes, opened, opened_is_inbox, OwnerView, opened_under, opened_with}
use Rattle.act_causes.proofs.Common.{Cast, ActorView, cast_at, limits_naming, is_owner, SlotView, Runs, Vacant, WorldView, IsLive, IsStage, IsOwnerAt, Refines}
use Rattle.act_causes.proofs.Common.{world_lawful, owners_opened, nothing_asked, IsNamed, owner_by, SpecsFit, [], ◌||◌}
use Rattle.act_actor.specs.Casts.{actor_spec, actor_limit, callers_named, limits_that_name as limits_of_casts}
use Rattle.act_causes.proofs.Keeping.{HasInbox, HasLeft, Keeps}
use Rattle.act_causes.proofs.Marks.{replied_opening, noted_opening}

-- ---- the callers

-- a cast of a kind that is its own state
abbrev cast_from : ActorSpec → Cast KindState
cast_from cast = record { actor = cast.actor; callers = cast.callers; kind = cast.opening; pending = cast.pending }

casts_same : (casts : List ActorSpec) → map (actor_spec (λ state. state)) (map cast_from casts) ≡ casts
casts_same [] = refl
casts_same (cast ∷ casts) = ap (λ l. cast ∷ l) (casts_same casts)

limits_same : (c : ℕ) (casts : List ActorSpec) → limits_of_casts c (map cast_from casts) ≡ limits_naming c casts
limits_same c [] = refl
limits_same c (cast ∷ casts) = go (contains c cast.callers) (filter (λ (one : Cast KindState). contains c one.callers) (map cast_from casts))
    (filter (λ (one : ActorSpec). contains c one.callers) casts) (limits_same c casts)
  where
    go : (b : Bool) (rest : List (Cast KindState)) (behind : List ActorSpec) →
        map (λ one. actor_limit one) rest ≡ map (λ (one : ActorSpec). (one.actor, one.pending)) behind →
        map (λ one. actor_limit one) (cond b (cast_from cast ∷ rest) rest) ≡ map (λ (one : ActorSpec). (one.actor, one.pending)) (cond b (cast ∷ behind) behind)
    go true rest behind same = ap (λ l. (cast.actor, cast.pending) ∷ l) same
    go false rest behind same = same

-- the caller as it is opened with its limits
opened_same : (c : ℕ) (casts : List ActorSpec) → opened_with c (limits_of_casts c (map cast_from casts)) ≡ owner_by casts c []
opened_same c casts =
    ap (λ limits. opened_with c limits) (limits_same c casts)
    ∙ ap (λ actors. opened_under (limits_naming c casts) c actors)
    (map-map (λ (limit : ℕ × Option ℕ). limit.0) (λ (one : ActorSpec). (one.actor, one.pending)) (filter (λ (one : ActorSpec). contains c one.callers) casts))

-- one of each of these callers
abbrev owners_of : List ActorSpec → List ℕ → List OwnerView
owners_of casts callers = map (λ c. opened_with c (limits_of_casts c (map cast_from casts))) callers

found_among : (casts : List ActorSpec) (callers : List ℕ) (d : ℕ) →
    find (is_owner d) (owners_of casts callers) ≡ cond (contains d callers) (Some (opened_with d (limits_of_casts d (map cast_from casts)))) None
found_among casts [] d = refl
found_among casts (c ∷ callers) d = elim (eqb_tells c d) [
  | inl t ↦ rw t.0 (ap (λ x. Some (opened_with x (limits_of_casts x (map cast_from casts)))) t.1)
  | inr f ↦ rw f.0 (found_among casts callers d)
]

named_among : (c : ℕ) (casts : List ActorSpec) → contains c (callers_named (map cast_from casts)) ≡ list_any (λ cast. contains c cast.callers) casts
named_among c [] = refl
named_among c (cast ∷ casts) =
    list_any-append (λ m. m == c) cast.callers (callers_named (map cast_from casts)) ∙ ap (λ b. contains c cast.callers || b) (named_among c casts)

abbrev all_owners : List ActorSpec → List OwnerView
all_owners casts = owners_of casts (callers_named (map cast_from casts))

owner_opened : (casts : List ActorSpec) (c : ℕ) → IsNamed casts c → find (is_owner c) (all_owners casts) ≡ Some (owner_by casts c [])
owner_opened casts c named =
    found_among casts (callers_named (map cast_from casts)) c
    ∙ ap (λ b. cond b (Some (opened_with c (limits_of_casts c (map cast_from casts)))) None) (named_among c casts ∙ named)
    ∙ ap (λ o. Some o) (opened_same c casts)

owners_stand : (casts : List ActorSpec) → AllPairs (λ one other. one.actor ≢ other.actor) casts → (c : ℕ) →
    IsOwnerAt (opening casts) c (find (is_owner c) (all_owners casts))
owners_stand casts differ c =
    subst (λ l. IsOwnerAt (opening l) c (find (is_owner c) (all_owners casts))) (casts_same casts)
    (owners_opened (λ state. state) (map cast_from casts) (all_owners casts) (AllPairs-map
    (λ (one other : Cast KindState). one.actor ≢ other.actor) cast_from casts differ) (found_among casts (callers_named (map cast_from casts))) c)

-- ---- the actors

abbrev inbox_at_first : List ℕ → InboxView
inbox_at_first callers = record { lanes = map lane_at_first callers; held = []; notes = no_notes 17 }

abbrev live_at_first : ActorSpec → ActorView
live_at_first cast = record { id = cast.actor; inbox = inbox_at_first cast.callers; log = []; state = cast.opening }

abbrev slot_of : Option ActorSpec → SlotView
slot_of None = Vacant
slot_of (Some cast) = Runs (live_at_first cast)

live_opened : (casts : List ActorSpec) (a : ℕ) (cast : ActorSpec) → cast_of a (opening casts) ≡ Some cast → cast.actor ≡ a →
    IsLive (opening casts) a (live_at_first cast)
live_opened casts a cast at to =
    let inbox : IsOpened cast.callers (inbox_at_first cast.callers) = opened cast.callers (inbox_at_first cast.callers) refl refl refl in
    record {
      cast = cast;
      cast_is = at;
      runs = refl;
      id = to;
      log = refl;
      state = refl;
      listed = λ c. inbox.listed c ∙ ap (names c) (sym at);
      handed = λ c named. inbox.handed c;
      waits = λ c n named. inbox.waits c n ∙ sym (nothing (nat_lt n 0));
      notes = λ c n named. rw (inbox.notes c) refl;
    }
  where
    nothing : (b : Bool) → cond {A = Option Packet} b None None ≡ None
    nothing true = refl
    nothing false = refl

abbrev all_slots : List ActorSpec → List SlotView
all_slots casts = map (λ a. slot_of (cast_at a casts)) (range_with_len 0 9)

slot_at : (casts : List ActorSpec) (a : ℕ) → a < 9 → slice_get (all_slots casts) a ≡ Some (slot_of (cast_at a casts))
slot_at casts a below =
    let long : length (all_slots casts) ≡ 9 = length-map-range_with_len (λ a. slot_of (cast_at a casts)) 0 9 in
    let within : a < length (all_slots casts) = omega arith in
    slice_get-get_or (all_slots casts) a Vacant within
    ∙ ap (λ s. Some s) (get_or-map-range_with_len (λ a. slot_of (cast_at a casts)) 0 9 a a Vacant below (omega arith))

no_slot : (casts : List ActorSpec) (a : ℕ) → 9 ≤ a → slice_get (all_slots casts) a ≡ None
no_slot casts a past =
    let long : length (all_slots casts) ≡ 9 = length-map-range_with_len (λ a. slot_of (cast_at a casts)) 0 9 in slice_get_past (all_slots casts) a (omega arith)

slots_stand : (casts : List ActorSpec) → All (λ cast. cast.actor ≤ 8) casts → (a : ℕ) → IsStage (opening casts) a (slice_get (all_slots casts) a)
slots_stand casts small a = go (cast_at a casts) refl
  where
    go : (o : Option ActorSpec) → cast_at a casts ≡ o → IsStage (opening casts) a (slice_get (all_slots casts) a)
    go None none = elim (leb_tells 9 a) [
      | inl t ↦ subst (IsStage (opening casts) a) (sym (no_slot casts a t.1)) none
      | inr f ↦ let past = f.1 in subst (IsStage (opening casts) a) (sym (slot_at casts a (omega arith) ∙ ap (λ o. Some (slot_of o)) none)) none
    ]
    go (Some cast) at =
        let told = find-tells (λ (cast : ActorSpec). cast.actor ≤ 8) (λ (cast : ActorSpec). cast.actor == a) casts small at in
        let to : cast.actor ≡ a = eqb-true cast.actor a told.1 in let most : cast.actor ≤ 8 = told.0 in
        subst (IsStage (opening casts) a) (sym (slot_at casts a (omega arith) ∙ ap (λ o. Some (slot_of o)) at)) (live_opened casts a cast at to)

-- what of a cast makes its actor's inbox as any is
pub record IsOpenable (cast : ActorSpec) : Type 0 where
  pub differ : AllPairs (λ one other. one ≢ other) cast.callers
  pub numbers : All (λ c. (1 ≤ c) × (c ≤ 16)) cast.callers

inboxes_stand : (casts : List ActorSpec) → SpecsFit casts → (a : ℕ) → HasInbox (slice_get (all_slots casts) a)
inboxes_stand casts fitting a = elim (leb_tells 9 a) [
  | inl t ↦ subst HasInbox (sym (no_slot casts a t.1)) tt
  | inr f ↦ let past = f.1 in subst HasInbox (sym (slot_at casts a (omega arith))) (go (cast_at a casts) refl)
]
  where
    all : All IsOpenable casts
    all i d within = record { differ = fitting.callers_differ i d within; numbers = fitting.callers i d within }

    go : (o : Option ActorSpec) → cast_at a casts ≡ o → HasInbox (Some (slot_of o))
    go None none = tt
    go (Some cast) at =
        let told = find-tells IsOpenable (λ (cast : ActorSpec). cast.actor == a) casts all at in
        opened_is_inbox cast.callers (inbox_at_first cast.callers) refl refl refl told.0.differ told.0.numbers

-- ---- the world

abbrev first_world : List ActorSpec → WorldView
first_world casts = record { network = record { owners = all_owners casts; mail = []; replies = []; asked = replicate 9 false }; slots = all_slots casts }

first_ties : (casts : List ActorSpec) → SpecsFit casts → Refines (opening casts) (first_world casts)
first_ties casts fitting = record {
  owners = owners_stand casts fitting.actors_differ;
  actors = slots_stand casts fitting.actors;
  mail = λ i. refl;
  mail_count = refl;
  replies = λ j. refl;
  reply_count = refl;
  asked = nothing_asked;
}

pub keeps_opening : (casts : List ActorSpec) → SpecsFit casts → Keeps casts [] (opening casts)
keeps_opening casts fitting = record {
  lawful = world_lawful casts [];
  replied = replied_opening casts;
  noted = noted_opening casts;
  casts_are = refl;
  world = first_world casts;
  reached = record { refines = first_ties casts fitting; owners = owner_opened casts; inboxes = inboxes_stand casts fitting; room = omega arith };
  actors = record { runs = λ a. refl; killed = λ a. refl; retired = λ a. refl };
  strangers = λ c stranger. refl;
  left = λ deed has. All-contains (λ one. HasLeft casts [] (opening casts) one) [] deed (λ i d within. absurd (omega arith)) has;
}
