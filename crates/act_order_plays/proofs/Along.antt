-- A history on the way to another: it grows, and what ran at an actor that has ended stays.
use Rattle.act_order_plays.proofs.Common.{◌≡◌, ℕ, ◌+◌, ◌≤◌, ◌⊎◌, inl, inr, true, List, [], ◌∷◌, ◌++◌, length, Some, refl, sym, ap, subst, ◌∙◌, arith}
use Rattle.act_order_plays.proofs.Common.{length-append, Event, Answer, kept_at, IsPrefix, ActorSpec, History, opening, calls_of, runs_of, kept_of, is_ended}
use Rattle.act_order_plays.proofs.Common.{after_all, history, whole_front, front_trans, Grows, added_grows, calls_grow, after_all_keeps, after_all-append}
use Rattle.act_order_plays.proofs.Common.{HasEnded, ended_stays, kept_stays, IsSound, world_sound}

-- a history grows into itself
pub grows_not : (h : History) → Grows h h
grows_not h = record {
  casts = refl;
  submitted = whole_front h.submitted;
  released = whole_front h.released;
  mail = whole_front h.mail;
  arrived = whole_front h.arrived;
  ran = whole_front h.ran;
  posts = whole_front h.posts;
  collected = whole_front h.collected;
  killed = whole_front h.killed;
}

grows_on : (h g k : History) → Grows h g → Grows g k → Grows h k
grows_on h g k one two = record {
  casts = two.casts ∙ one.casts;
  submitted = front_trans h.submitted g.submitted k.submitted one.submitted two.submitted;
  released = front_trans h.released g.released k.released one.released two.released;
  mail = front_trans h.mail g.mail k.mail one.mail two.mail;
  arrived = front_trans h.arrived g.arrived k.arrived one.arrived two.arrived;
  ran = front_trans h.ran g.ran k.ran one.ran two.ran;
  posts = front_trans h.posts g.posts k.posts one.posts two.posts;
  collected = front_trans h.collected g.collected k.collected one.collected two.collected;
  killed = front_trans h.killed g.killed k.killed one.killed two.killed;
}

pub record Within (h g : History) : Type 0 where
  pub sound : IsSound h
  pub grows : Grows h g
  pub ended : (a : ℕ) → is_ended a h ≡ true → runs_of a g ≡ runs_of a h

-- a sound history is on the way to the one after any further events
pub within_all : {h : History} (events : List Event) → IsSound h → Within h (after_all h events)
within_all {h} events sound = record {
  sound = sound;
  grows = after_all_keeps (Grows h) (λ g event grows accepted. grows_on h g _ grows (added_grows g event)) h events (grows_not h);
  ended = λ a is. (after_all_keeps (HasEnded a (runs_of a h)) (ended_stays a (runs_of a h)) h events (record { ended = is; same = refl })).same;
}

-- the history after the first events is on the way to that after all
pub within_at : (casts : List ActorSpec) (first later : List Event) {events : List Event} → first ++ later ≡ events →
    Within (history casts first) (history casts events)
within_at casts first later joined =
    subst (λ all. Within (history casts first) (history casts all)) joined
    (subst (Within (history casts first)) (sym (after_all-append (opening casts) first later)) (within_all later (world_sound casts first)))

-- ---- two ways to part the events

-- these are among the first, or the first with the next event are among them
pub parted : {A : Type 0} (first : List A) (event : A) (later ones rest : List A) → first ++ event ∷ later ≡ ones ++ rest →
    (IsPrefix ones first) ⊎ (IsPrefix (first ++ event ∷ []) ones)
parted first event later [] rest e = inl (first, refl)
parted [] event later (x ∷ ones) rest e = let same : event ≡ x = cc in inr (ones, ap (λ y. y ∷ ones) same)
parted {A = A} (y ∷ first) event later (x ∷ ones) rest e =
    let same : y ≡ x = cc in
    elim (parted first event later ones rest (cc)) [
      | inl p ↦ inl (p.0, ap (λ z. z ∷ (ones ++ p.0)) (sym same) ∙ ap (λ l. y ∷ l) p.1)
      | inr p ↦ inr (p.0, ap (λ l. y ∷ l) p.1 ∙ ap (λ z. z ∷ ones) same)
    ]

-- ---- what stays

-- an answer that a caller keeps in a history on the way to another is kept in that one, too
pub kept_along : (h g : History) (c k : ℕ) {answer : Answer} → Within h g → kept_at (kept_of c h) k ≡ Some answer → kept_at (kept_of c g) k ≡ Some answer
kept_along h g c k {answer} way kept = kept_stays h c k way.grows way.sound.posts kept

-- where a history grows into another, each caller has at least as many calls in that one
pub calls_along : {h g : History} (c : ℕ) → Grows h g → length (calls_of c h) ≤ length (calls_of c g)
calls_along {h} {g} c grows =
    let front = calls_grow c grows in
    let long : length (calls_of c h) + length front.0 ≡ length (calls_of c g) =
    sym (length-append (calls_of c h) front.0) ∙ ap (λ l. length l) front.1 in
    omega arith
