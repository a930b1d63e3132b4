-- An actor that ends by itself.
use Rattle.act_world.proofs.Common.{◌≡◌, ℕ, ◌<◌, Bool, true, false, List, [], ◌∷◌, ◌++◌, length, map, get_or, Some, None, refl, ap, sym, ◌∙◌, subst, Option, Ok}
use Rattle.act_world.proofs.Common.{Err, not, slice_get, slice_set, is_some, eqb-true, eq-eqb, ne_eqb, or_parts, map-set}
use Rattle.act_world.proofs.Common.{Retire, Retired, NoActor, WorldRefusal, Handle, ActorEnded, NotDrained, history, needs, History, cast_of}
use Rattle.act_world.proofs.Common.{callers_in, names, ran_count, is_ended, is_dead, is_retired, is_done, is_drained, Outcome, refusal_of, outcome_of, after}
use Rattle.act_world.proofs.Common.{Grows, added_grows, handed_of, note_of, IsDrained, ActorView, RetiredView, MayRetire, NetworkView, SlotView, Runs, Died}
use Rattle.act_world.proofs.Common.{Ended, Vacant, WorldView, with_slots, IsRetiredIn, is_note_of, IsLive, IsRetired, IsStage, Refines, FollowsRules}
use Rattle.act_world.proofs.Common.{all_from_each, contains_other}
use Rattle.act_world.proofs.Lawful.{IsLawful, world_lawful}
use Rattle.act_world.proofs.Frames.{same_caller, owners_stay, still_lives, stage_stays}
use Rattle.act_world.proofs.Changes.{accepted_follows, refused_in_slot, stages_change, slot_within}
use Rattle.act_world.proofs.Killing.{contains-last}
use Rattle.act_rules.proofs.RanAll.{list_all-contains}

-- ---- drained, as the actor and as the history tells

drained_there : (h : History) (a : ℕ) (live : ActorView) → IsLive h a live → IsDrained live.inbox → is_drained a h ≡ true
drained_there h a live is drained = all_from_each (λ c. is_done c a h) (callers_in (cast_of a h)) (λ c named. sym (is.notes c (ran_count c a h) named) ∙
    ap (is_note_of (ran_count c a h)) (drained c (is.listed c ∙ named)) ∙ eq-eqb (handed_of live.inbox c) (ran_count c a h) (is.handed c named))

drained_here : (h : History) (a : ℕ) (live : ActorView) → IsLive h a live → is_drained a h ≡ true → IsDrained live.inbox
drained_here h a live is drained c listed = go (note_of live.inbox c) refl
  where
    named : names c (cast_of a h) ≡ true
    named = sym (is.listed c) ∙ listed

    told : is_note_of (ran_count c a h) (note_of live.inbox c) ≡ true
    told = is.notes c (ran_count c a h) named ∙ list_all-contains (λ d. is_done d a h) (callers_in (cast_of a h)) c drained named

    go : (o : Option ℕ) → note_of live.inbox c ≡ o → note_of live.inbox c ≡ Some (handed_of live.inbox c)
    go None e = let bad : false ≡ true = sym (ap (is_note_of (ran_count c a h)) e) ∙ told in cc
    go (Some m) e =
        let same : m ≡ ran_count c a h = eqb-true m (ran_count c a h) (sym (ap (is_note_of (ran_count c a h)) e) ∙ told) in
        e ∙ ap (λ n. Some n) (same ∙ sym (is.handed c named))

-- ---- what refuses it

abbrev refusal_by : Bool → Bool → Bool → Option WorldRefusal
refusal_by known ended drained = needs known (Handle NoActor) (needs (not ended) ActorEnded (needs drained NotDrained None))

retire_refusal : (h : History) (a : ℕ) {known : Bool} (ended drained : Bool) → is_some (cast_of a h) ≡ known → is_ended a h ≡ ended → is_drained a h ≡ drained →
    refusal_of h (Retire a) ≡ refusal_by known ended drained
retire_refusal h a {known} ended drained e f g =
    ap (λ b. refusal_by b (is_ended a h) (is_drained a h)) e
    ∙ ap (λ b. refusal_by known b (is_drained a h)) f
    ∙ ap (λ b. refusal_by known ended b) g

-- ---- the history with one actor more that retired

abbrev without : History → ℕ → History
without h a = record h { retired = h.retired ++ a ∷ [] }

live_retired : (h : History) (a : ℕ) (live : ActorView) {retired : RetiredView} → IsLive h a live →
    retired ≡ record { id = live.id; log = live.log; state = live.state } → IsRetired (without h a) a retired
live_retired h a live is same = record {
  cast = is.cast;
  cast_is = is.cast_is;
  lived = (or_parts (is_dead a h) (is_retired a h) is.runs).0;
  ended = contains-last a h.retired;
  id = ap (λ (r : RetiredView). r.id) same ∙ is.id;
  log = ap (λ (r : RetiredView). r.log) same ∙ is.log;
  state = ap (λ (r : RetiredView). r.state) same ∙ is.state;
}

retired_ties : (h : History) (a : ℕ) (old : WorldView) (slot new : SlotView) → IsLawful h → Refines h old → slice_get old.slots a ≡ Some slot →
    IsStage (without h a) a (Some new) → Refines (without h a) (record { network = old.network; slots = slice_set old.slots a new })
retired_ties h a old slot new lawful refines at is = record {
  owners = owners_stay h (without h a) old.network.owners refl (λ c. same_caller c h lawful grows refl refl refl refl refl) refines.owners;
  actors = stages_change h (without h a) old.slots a new refines.actors at is
      (λ b stage apart was. stage_stays h (without h a) b stage lawful grows refl refl refl (contains_other a b h.retired (ne_eqb a b apart)) was);
  mail = refines.mail;
  mail_count = refines.mail_count;
  replies = refines.replies;
  reply_count = refines.reply_count;
  asked = refines.asked;
}
  where
    grows : Grows h (without h a)
    grows = added_grows h (Retire a)

-- ---- the event

pub retire_follows : (h : History) {old : WorldView} (a : ℕ) {slot : SlotView} (new : SlotView) (told : Outcome) → IsLawful h → Refines h old →
    slice_get old.slots a ≡ Some slot → IsRetiredIn slot new told →
    (told ≡ outcome_of h (Retire a)) × Refines (after h (Retire a)) (record { network = old.network; slots = slice_set old.slots a new })
retire_follows h {old} a {slot} new told lawful refines at went = go slot new told at (subst (IsStage h a) at (refines.actors a)) went
  where
    undrained : (b : Bool) → is_drained a h ≡ b → (is_drained a h ≡ true → ⊥) → b ≡ false
    undrained true e never = absurd (never e)
    undrained false e never = refl

    by_drained : (live : ActorView) (retired : RetiredView) → slice_get old.slots a ≡ Some (Runs live) → IsLive h a live → MayRetire live.log live.inbox →
        retired ≡ record { id = live.id; log = live.log; state = live.state } →
        (Ok Retired ≡ outcome_of h (Retire a)) × Refines (after h (Retire a)) (record { network = old.network; slots = slice_set old.slots a (Ended retired) })
    by_drained live retired at is may same =
        accepted_follows h (Retire a) Retired
        (retire_refusal h a false true (ap is_some is.cast_is) is.runs (drained_there h a live is may.drained)) refl
        (retired_ties h a old (Runs live) (Ended retired) lawful refines at (live_retired h a live is same))

    by_undrained : (live : ActorView) (new : SlotView) (told : Outcome) → slice_get old.slots a ≡ Some (Runs live) → IsLive h a live →
        (MayRetire live.log live.inbox → ⊥) → new ≡ Runs live → told ≡ Err NotDrained →
        (told ≡ outcome_of h (Retire a)) × Refines (after h (Retire a)) (record { network = old.network; slots = slice_set old.slots a new })
    by_undrained live new told at is never same told_is =
        let left : is_drained a h ≡ false =
        undrained (is_drained a h) refl (λ e. never (record { lives = still_lives h a is; drained = drained_here h a live is e })) in
        refused_in_slot (Retire a) NotDrained a new at same told_is (retire_refusal h a false false (ap is_some is.cast_is) is.runs left) refines

    go : (slot new : SlotView) (told : Outcome) → slice_get old.slots a ≡ Some slot → IsStage h a (Some slot) → IsRetiredIn slot new told
        → (told ≡ outcome_of h (Retire a)) × Refines (after h (Retire a)) (record { network = old.network; slots = slice_set old.slots a new })
    go (Runs live) (Ended retired) (Ok Retired) at is went = by_drained live retired at is went.0 went.1
    go (Runs live) next told at is went = by_undrained live next told at is went.0 went.1 went.2
    go Vacant next told at is went = refused_in_slot (Retire a) (Handle NoActor) a next at went.0 went.1
        (retire_refusal h a (is_ended a h) (is_drained a h) (ap is_some is) refl refl) refines
    go (Died dead) next told at is went = refused_in_slot (Retire a) ActorEnded a next at went.0 went.1
        (retire_refusal h a true (is_drained a h) (ap is_some is.cast_is) (rw is.died refl) refl) refines
    go (Ended retired) next told at is went = refused_in_slot (Retire a) ActorEnded a next at went.0 went.1
        (retire_refusal h a true (is_drained a h) (ap is_some is.cast_is) (rw (is.lived, is.ended) refl) refl) refines

-- the same of what is seen of slots
pub retire_view : {S : Type 0} (f : S → SlotView) (network : NetworkView) (slots : List S) (a : ℕ) {p : ℕ} {x : S} (y : S) (told : Outcome) → p ≡ a →
    p < length slots → x ≡ get_or slots p x → IsRetiredIn (f (get_or slots p x)) (f y) told →
    FollowsRules (Retire a) (with_slots (map f slots) network) (with_slots (map f (slice_set slots p y)) network) told
retire_view {S = S} f network slots a {p} {x} y told place within is went = subst (λ b. FollowsRules (Retire b) (with_slots (map f slots) network)
    (with_slots (map f (slice_set slots p y)) network) told) place (λ casts before refines. let h = history casts before in let follows = retire_follows h p
    (f y) told (world_lawful casts before) refines (slot_within f slots within is) (subst (λ s. IsRetiredIn (f s) (f y) told) (sym is) went) in
    (follows.0, subst (λ seen. Refines (after h (Retire p)) (record { network = network; slots = seen })) (sym (map-set f slots p y)) follows.1))
