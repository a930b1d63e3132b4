-- An answer: a death is told and collected, and any other was collected with its run.
use Rattle.act_order_plays.proofs.Common.{◌≡◌, ◌≢◌, ℕ, ◌<◌, ◌⊎◌, inl, inr, Bool, true, false, List, [], ◌∷◌, ◌++◌, length, Some, None, Err, slice_get, refl}
use Rattle.act_order_plays.proofs.Common.{sym, ap, subst, ◌∙◌, is_some, ActorDied, Collect, AskKill, TakeKill, Tell, has_terminated, History, contains, cast_of}
use Rattle.act_order_plays.proofs.Common.{is_caller, copies_of, runs_of, is_dead, is_ended, refusal_of, add_event, slice_get_last, added_grows, sound_step}
use Rattle.act_order_plays.proofs.Common.{Happening, Submitted, Answered, Outcome, Told, call_of, actor_of, RunsInTurn, kept_for, telling_unrefused, DeathPost}
use Rattle.act_order_plays.proofs.Common.{collect_unrefused, IsIn, is_contained, contains_or}
use Rattle.act_orders.specs.declared.told.Outcome.TheVariants as out
use Rattle.act_order_plays.proofs.Premises.{Premises}
use Rattle.act_order_plays.proofs.Lists.{has_last, has_more}
use Rattle.act_order_plays.proofs.Fronts.{rans_of}
use Rattle.act_order_plays.proofs.Causes.{IsNext, Good, good_more}
use Rattle.act_order_plays.proofs.Casts.{cast_of_is, names_is, is_caller_is}
use Rattle.act_order_plays.proofs.Answering.{IsTaken, none_terminated}
use Rattle.act_order_plays.proofs.Stands.{Leads, leads_now, leads_by, leads_then, IsDeath, Shape, Keeps, Stands, shape_stays, keeps_stays, runs_are}
use Rattle.act_order_plays.proofs.Keeping.{kept_gives}
use Rattle.act_order_plays.proofs.More.{keeps_more, shape_answered}
use Rattle.act_order_plays.proofs.Submitting.{one_copy}
use Rattle.act_order_plays.proofs.Collecting.{shape_collect, collect_answers, death_answers}

-- ---- a kill

pub ask_fine : (h : History) (c a : ℕ) → is_caller c h ≡ true → copies_of c a h ≡ Some 1 → refusal_of h (AskKill c a) ≡ None
ask_fine h c a caller copy = rw (caller, copy) refl

-- an actor takes the kill that was asked last
pub take_fine : (h : History) (a : ℕ) → is_some (cast_of a h) ≡ true → is_ended a h ≡ false → contains a h.asked ≡ true → refusal_of h (TakeKill a) ≡ None
take_fine h a cast lives asked = rw (cast, lives, asked) refl

died_or_not : (o : Outcome) → (o ≡ out.Died) ⊎ (o ≢ out.Died)
died_or_not out.Died = inl refl
died_or_not o = inr (λ e. cc)

module _ (told : Told) (fits : Premises told) (turn : RunsInTurn told) (before : List Happening) (n : ℕ) (good : Good told before)
    (next : IsNext told before (Answered n)) (role : IsIn (actor_of told (call_of told n).actor).callers (call_of told n).caller)
    (actor : (call_of told n).actor < length told.actors) where
  abbrev c : ℕ
  c = (call_of told n).caller

  abbrev a : ℕ
  a = (call_of told n).actor

  abbrev later : List Happening
  later = before ++ Answered n ∷ []

  good_later : Good told later
  good_later = good_more fits turn good next

  -- the actor is dead
  record Killed (h : History) : Type 0 where
    shape : Shape told later h
    keeps : Keeps told before h
    dead : is_dead a h ≡ true

  module _ (died : (call_of told n).outcome ≡ out.Died) where
    death : IsDeath told later a
    death = record { call = n; has = has_last before (Answered n); died = died; actor = refl }

    kill : (h : History) → Shape told later h → Keeps told before h → contains a h.killed ≡ false → Leads Killed h
    kill h shape keeps unkilled =
        let fine = ask_fine h c a (is_caller_is told h shape.casts actor role)
        (one_copy h c a (names_is told h c a shape.casts actor role) shape.copied shape.released) in
        let h1 = add_event h (AskKill c a) in
        let shape1 : Shape told later h1 = shape_stays h
        (record { casts = refl; copied = refl; released = refl; retired = refl; submitted = refl; ran = refl; collected = refl; killed = refl })
        (sound_step h (AskKill c a) shape.sound fine) shape in
        let lasting : has_terminated (runs_of a h1) ≡ false = none_terminated told (runs_of a h1) (rans_of told later a) (runs_are a shape1) in
        let lives : is_ended a h1 ≡ false = rw (unkilled, lasting, shape.retired) refl in
        let cast : is_some (cast_of a h1) ≡ true = ap is_some (cast_of_is told h1 shape1.casts actor) in
        let asked : contains a h1.asked ≡ true = is_contained a h1.asked (has_last h.asked a) in
        let fine1 = take_fine h1 a cast lives asked in let h2 = add_event h1 (TakeKill a) in
        let dead : contains a h2.killed ≡ true = is_contained a h2.killed (has_last h.killed a) in
        leads_by Killed h (AskKill c a) fine (leads_by Killed h1 (TakeKill a) fine1 (leads_now Killed h2 (record {
          shape = record {
            casts = shape.casts;
            copied = shape.copied;
            released = shape.released;
            retired = shape.retired;
            submitted = shape.submitted;
            ran = shape.ran;
            collected = shape.collected;
            killed = λ b is. elim (contains_or h.killed b a is) [ inl old ↦ shape.killed b old | inr e ↦ subst (IsDeath told later) e death ];
            sound = sound_step h1 (TakeKill a) shape1.sound fine1;
          };
          keeps = keeps_stays (added_grows h1 (TakeKill a)) shape1.sound.posts (keeps_stays (added_grows h (AskKill c a)) shape.sound.posts keeps);
          dead = rw dead refl;
        })))

    killed : (h : History) → Shape told later h → Keeps told before h → Leads Killed h
    killed h shape keeps = go (contains a h.killed) refl
      where
        go : (b : Bool) → contains a h.killed ≡ b → Leads Killed h
        go true e = leads_now Killed h (record { shape = shape; keeps = keeps; dead = rw e refl })
        go false e = kill h shape keeps e

    told_death : (h : History) → Killed h → Leads (Stands told later) h
    told_death h k =
        let shape = k.shape in
        let fine = telling_unrefused h a c (is_caller_is told h shape.casts actor role) (names_is told h c a shape.casts actor role) k.dead in
        let h1 = add_event h (Tell a c) in
        let shape1 : Shape told later h1 = shape_stays h
        (record { casts = refl; copied = refl; released = refl; retired = refl; submitted = refl; ran = refl; collected = refl; killed = refl })
        (sound_step h (Tell a c) shape.sound fine) shape in
        let keeps1 : Keeps told before h1 = keeps_stays (added_grows h (Tell a c)) shape.sound.posts k.keeps in
        let j = length h.posts in let post = DeathPost c a in
        let at : slice_get h1.posts j ≡ Some post = slice_get_last h.posts post in
        let g = add_event h1 (Collect j) in
        let after : Shape told later g = shape_collect told later h1 j post shape1 at death in
        let has : IsIn later (Submitted n) = has_more before (Answered n ∷ []) (next.causes (Submitted n) refl) in
        let first = collect_answers told later h1 j n post good_later after has at (death_answers told g n) in
        let mine : kept_for told n g ≡ Some (Err ActorDied) = elim (kept_gives g n good_later after has actor first.1) [
          | inl r ↦ absurd (subst IsTaken died r.1)
          | inr d ↦ first.1 ∙ ap (λ answer. Some answer) d.1
        ] in
        leads_by (Stands told later) h (Tell a c) fine
        (leads_by (Stands told later) h1 (Collect j) (collect_unrefused h1 j at) (leads_now (Stands told later) g (record {
          shape = after;
          keeps = keeps_more (Answered n) (keeps_stays (added_grows h1 (Collect j)) shape1.sound.posts keeps1)
              (λ m e. absurd (cc)) (λ m e d. let same : n ≡ m = cc in subst (λ i. kept_for told i g ≡ Some (Err ActorDied)) same mine);
        })))

  pub answered : (h : History) → Stands told before h → Leads (Stands told later) h
  answered h stands = elim (died_or_not (call_of told n).outcome) [
    | inl died ↦ leads_then Killed (Stands told later) h (killed died h (shape_answered told n h stands.shape) stands.keeps) (told_death died)
    | inr lives ↦ leads_now (Stands told later) h (record {
      shape = shape_answered told n h stands.shape;
      keeps = keeps_more (Answered n) stands.keeps (λ m e. absurd (cc))
          (λ m e died. let same : n ≡ m = cc in absurd (lives (subst (λ i. (call_of told i).outcome ≡ out.Died) (sym same) died)));
    })
  ]
