-- What stands after one more happening.
use Rattle.act_order_plays.proofs.Common.{◌≡◌, ℕ, inl, inr, List, [], ◌∷◌, ◌++◌, map, Some, Err, slice_get, sym, ap, subst, ◌∙◌, AllByRecursion, append-nil}
use Rattle.act_order_plays.proofs.Common.{ActorDied, Post, History, All_weaker, slice_get_more, Happening, Ran, Answered, Died, Told, call_of, kept_for}
use Rattle.act_order_plays.proofs.Common.{ReplyPost, DeathPost}
use Rattle.act_order_plays.proofs.Lists.{has_pushed, has_more}
use Rattle.act_order_plays.proofs.Fronts.{submits, rans, rans_of}
use Rattle.act_order_plays.proofs.Causes.{submits_more, rans_more, rans_of_more}
use Rattle.act_order_plays.proofs.Answering.{Suits, IsTaken}
use Rattle.act_order_plays.proofs.Stands.{Agree, pair_of, IsDeath, IsRight, Shape, Keeps}

-- a death at an actor that was told is told after one more happening, too
pub death_more : {told : Told} {before : List Happening} (x : Happening) (a : ℕ) → IsDeath told before a → IsDeath told (before ++ x ∷ []) a
death_more {before} x a death = record { call = death.call; has = has_more before (x ∷ []) death.has; died = death.died; actor = death.actor }

pub right_more : (told : Told) (before : List Happening) (x : Happening) (post : Post) → IsRight told before post → IsRight told (before ++ x ∷ []) post
right_more told before x (ReplyPost c a place) right = (
  right.0,
  subst (λ ns. slice_get ns place ≡ Some right.0) (sym (rans_of_more told before x a))
      (slice_get_more (rans_of told before a) (rans_of told (x ∷ []) a) place right.1),
  right.2,
)
right_more told before x (DeathPost c a) right = death_more x a right

-- posts that are right after what happened are so after one more happening, too
pub rights_more : (told : Told) (before : List Happening) (x : Happening) (posts : List Post) → AllByRecursion (IsRight told before) posts →
    AllByRecursion (IsRight told (before ++ x ∷ [])) posts
rights_more told before x posts rights = All_weaker (IsRight told before) (IsRight told (before ++ x ∷ [])) posts (right_more told before x) rights

-- kept answers that fit what happened fit one more happening, where they fit the run or the death that it is
pub keeps_more : {told : Told} {before : List Happening} (x : Happening) {h : History} → Keeps told before h →
    ((n : ℕ) → x ≡ Ran n → IsTaken (call_of told n).outcome → Suits (call_of told n).outcome (kept_for told n h)) →
    ((n : ℕ) → x ≡ Answered n → (call_of told n).outcome ≡ Died → kept_for told n h ≡ Some (Err ActorDied)) → Keeps told (before ++ x ∷ []) h
keeps_more {before} x keeps one two = record {
  answers = λ n has taken. elim (has_pushed before x has) [ inl old ↦ keeps.answers n old taken | inr e ↦ one n e taken ];
  deaths = λ n has died. elim (has_pushed before x has) [ inl old ↦ keeps.deaths n old died | inr e ↦ two n e died ];
}

-- an answer adds no call and no run
pub shape_answered : (told : Told) {before : List Happening} (n : ℕ) (h : History) → Shape told before h → Shape told (before ++ Answered n ∷ []) h
shape_answered told {before} n h shape = record {
  casts = shape.casts;
  copied = shape.copied;
  released = shape.released;
  retired = shape.retired;
  submitted = shape.submitted ∙ ap (map (pair_of told)) (sym (submits_more before (Answered n) ∙ append-nil (submits before)));
  ran = subst (λ ns. Agree told h.ran ns) (sym (rans_more before (Answered n) ∙ append-nil (rans before))) shape.ran;
  collected = rights_more told before (Answered n) h.collected shape.collected;
  killed = λ a is. death_more (Answered n) a (shape.killed a is);
  sound = shape.sound;
}
