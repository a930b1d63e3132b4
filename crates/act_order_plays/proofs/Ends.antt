-- How actors end: those below a number have ended as it is told.
use Rattle.act_order_plays.proofs.Common.{◌≡◌, ◌≢◌, ℕ, suc, ◌<◌, ◌≤◌, inl, inr, Bool, true, false, List, [], ◌∷◌, length, Some, refl, sym, ap, subst, ◌∙◌}
use Rattle.act_order_plays.proofs.Common.{arith, is_some, false_from_ne_true, AskKill, TakeKill, has_terminated, History, contains, cast_of, runs_of}
use Rattle.act_order_plays.proofs.Common.{count_pairs, copies_of, is_dead, is_retired, is_ended, add_event, element, contains_more, End, Live, Dead, Retired}
use Rattle.act_order_plays.proofs.Common.{Happening, Told, actor_of, IsInOrderBy, EndsAs, LeavesTold, IsIn, is_contained, contains_or}
use Rattle.act_order_plays.proofs.Premises.{Premises}
use Rattle.act_order_plays.proofs.Lists.{has_last, cases_le}
use Rattle.act_order_plays.proofs.Causes.{Good}
use Rattle.act_order_plays.proofs.Casts.{cast_of_is, names_is, is_caller_is}
use Rattle.act_order_plays.proofs.Stands.{Leads, leads_now, leads_by, Stands}
use Rattle.act_order_plays.proofs.Dying.{ask_fine, take_fine}
use Rattle.act_order_plays.proofs.Leaving.{Left, left, left_stays}

-- how an actor stands at the end, as it is told
abbrev pub end_of : Told → ℕ → End
end_of told a = (actor_of told a).end

-- only dead actors were killed and only those that retired did; below the number all of them
pub record Ends (told : Told) (j : ℕ) (h : History) : Type 0 where
  pub killed : (a : ℕ) → contains a h.killed ≡ true → end_of told a ≡ Dead
  pub retired : (a : ℕ) → contains a h.retired ≡ true → (end_of told a ≡ Retired) × (a < j)
  pub dead : (a : ℕ) → a < j → end_of told a ≡ Dead → contains a h.killed ≡ true
  pub gone : (a : ℕ) → a < j → end_of told a ≡ Retired → contains a h.retired ≡ true

-- from the number on, no handle was released
abbrev pub Held : ℕ → History → Type 0
Held j h = (c a : ℕ) → j ≤ a → count_pairs c a h.released ≡ 0

pub record Stage (told : Told) (j : ℕ) (h : History) : Type 0 where
  pub left : Left told h
  pub ends : Ends told j h
  pub held : Held j h

pub up_to : (P : ℕ → Type 0) (j : ℕ) → ((a : ℕ) → a < j → P a) → P j → (a : ℕ) → a < suc j → P a
up_to P j below here a lt = elim (cases_le j a) [
  | inl le ↦ let same : j ≡ a = omega arith in subst P same here
  | inr less ↦ below a less
]

-- ---- before any ends

pub first_stage : (told : Told) (order : List Happening) (h : History) → IsInOrderBy told order → Good told order → Stands told order h → Stage told 0 h
first_stage told order h by good stands = record {
  left = left told order by good h stands;
  ends = record {
    killed = λ a is. let death = stands.shape.killed a is in
        subst (λ b. end_of told b ≡ Dead) death.actor ((by.ends death.call (good.happened _ death.has).0).died death.died);
    retired = λ a is. absurd (let none : contains a [] ≡ true = subst (λ all. contains a all ≡ true) stands.shape.retired is in cc);
    dead = λ a lt. absurd (omega arith);
    gone = λ a lt. absurd (omega arith);
  };
  held = λ c a le. rw stands.shape.released refl;
}

-- ---- an actor that hasn't ended

pub not_killed : {told : Told} {j : ℕ} (a : ℕ) (h : History) → Ends told j h → end_of told a ≢ Dead → contains a h.killed ≡ false
not_killed a h ends lives = false_from_ne_true (contains a h.killed) (λ is. lives (ends.killed a is))

pub not_retired : {told : Told} (j : ℕ) (h : History) → Ends told j h → contains j h.retired ≡ false
not_retired j h ends = false_from_ne_true (contains j h.retired) (λ is. let r = ends.retired j is in absurd (omega (arith, r.1)))

pub on : (told : Told) (j : ℕ) (h : History) → Left told h → Ends told j h → contains j h.killed ≡ false → is_ended j h ≡ false
on told j h left ends unkilled = rw (unkilled, left.lasting j, not_retired j h ends) refl

-- ---- one that lives

pub lives_on : (told : Told) (j : ℕ) (h : History) → Stage told j h → end_of told j ≡ Live → Stage told (suc j) h
lives_on told j h stage lives = record {
  left = stage.left;
  ends = record {
    killed = stage.ends.killed;
    retired = λ a is. let r = stage.ends.retired a is in (r.0, omega (arith, r.1));
    dead = up_to (λ a. end_of told a ≡ Dead → contains a h.killed ≡ true) j stage.ends.dead (λ e. let bad : Live ≡ Dead = sym lives ∙ e in absurd (cc));
    gone = up_to (λ a. end_of told a ≡ Retired → contains a h.retired ≡ true) j stage.ends.gone (λ e. let bad : Live ≡ Retired = sym lives ∙ e in absurd (cc));
  };
  held = λ c a le. stage.held c a (omega arith);
}

-- ---- one that is dead

already_dead : (told : Told) (j : ℕ) (h : History) → Stage told j h → end_of told j ≡ Dead → contains j h.killed ≡ true → Stage told (suc j) h
already_dead told j h stage dies killed = record {
  left = stage.left;
  ends = record {
    killed = stage.ends.killed;
    retired = λ a is. let r = stage.ends.retired a is in (r.0, omega (arith, r.1));
    dead = up_to (λ a. end_of told a ≡ Dead → contains a h.killed ≡ true) j stage.ends.dead (λ e. killed);
    gone = up_to (λ a. end_of told a ≡ Retired → contains a h.retired ≡ true) j stage.ends.gone (λ e. let bad : Dead ≡ Retired = sym dies ∙ e in absurd (cc));
  };
  held = λ c a le. stage.held c a (omega arith);
}

kill_now : (told : Told) (fits : Premises told) (j : ℕ) (h : History) → j < length told.actors → Stage told j h → end_of told j ≡ Dead →
    contains j h.killed ≡ false → Leads (Stage told (suc j)) h
kill_now told fits j h lt stage dies unkilled =
    let one = element (actor_of told j).callers 0 (fits.roles j lt) in let c = one.0 in
    let role : IsIn (actor_of told j).callers c = record { place = 0; at = one.1 } in
    let named = names_is told h c j stage.left.casts lt role in let zero_released = stage.held c j (omega arith) in
    let copy : copies_of c j h ≡ Some 1 = rw (named, stage.left.copied, zero_released) refl in
    let fine = ask_fine h c j (is_caller_is told h stage.left.casts lt role) copy in
    let h1 = add_event h (AskKill c j) in
    let left1 : Left told h1 = left_stays h h1 (record { casts = refl; submitted = refl; ran = refl; collected = refl }) refl stage.left in
    let lasting : has_terminated (runs_of j h1) ≡ false = left1.lasting j in
    let lives : is_ended j h1 ≡ false = rw (unkilled, lasting, not_retired j h stage.ends) refl in
    let cast : is_some (cast_of j h1) ≡ true = ap is_some (cast_of_is told h1 left1.casts lt) in
    let fine1 = take_fine h1 j cast lives (is_contained j h1.asked (has_last h.asked j)) in
    let h2 = add_event h1 (TakeKill j) in
    let more : (a : ℕ) → contains a h.killed ≡ true → contains a h2.killed ≡ true =
    λ a is. contains_more a h.killed (j ∷ []) is in
    leads_by (Stage told (suc j)) h (AskKill c j) fine (leads_by (Stage told (suc j)) h1 (TakeKill j) fine1 (leads_now (Stage told (suc j)) h2 (record {
      left = left_stays h1 h2 (record { casts = refl; submitted = refl; ran = refl; collected = refl }) refl left1;
      ends = record {
        killed = λ a is. elim (contains_or h.killed a j is) [ inl old ↦ stage.ends.killed a old | inr e ↦ subst (λ b. end_of told b ≡ Dead) e dies ];
        retired = λ a is. let r = stage.ends.retired a is in (r.0, omega (arith, r.1));
        dead = up_to (λ a. end_of told a ≡ Dead → contains a h2.killed ≡ true) j (λ a less e. more a (stage.ends.dead a less e))
            (λ e. is_contained j h2.killed (has_last h.killed j));
        gone = up_to (λ a. end_of told a ≡ Retired → contains a h.retired ≡ true) j stage.ends.gone
            (λ e. let bad : Dead ≡ Retired = sym dies ∙ e in absurd (cc));
      };
      held = λ d a le. stage.held d a (omega arith);
    })))

pub dies_now : (told : Told) (fits : Premises told) (j : ℕ) (h : History) → j < length told.actors → Stage told j h → end_of told j ≡ Dead →
    Leads (Stage told (suc j)) h
dies_now told fits j h lt stage dies = go (contains j h.killed) refl
  where
    go : (b : Bool) → contains j h.killed ≡ b → Leads (Stage told (suc j)) h
    go true e = leads_now (Stage told (suc j)) h (already_dead told j h stage dies e)
    go false e = kill_now told fits j h lt stage dies e

-- ---- all of them

pub all_end : (told : Told) (h : History) → Stage told (length told.actors) h → LeavesTold told h
all_end told h stage = record { calls = stage.left.calls; runs = stage.left.runs; answers = stage.left.answers; ends = λ a lt. go a lt (end_of told a) refl }
  where
    go : (a : ℕ) → a < length told.actors → (e : End) → end_of told a ≡ e → EndsAs e (is_dead a h) (is_retired a h)
    go a lt Live e =
        let one = not_killed a h stage.ends (λ d. let bad : Live ≡ Dead = sym e ∙ d in cc) in
        let two : contains a h.retired ≡ false =
        false_from_ne_true (contains a h.retired) (λ is. let bad : Live ≡ Retired = sym e ∙ (stage.ends.retired a is).0 in cc) in
        (rw (one, stage.left.lasting a) refl, two)
    go a lt Dead e =
        let killed = stage.ends.dead a lt e in
        let two : contains a h.retired ≡ false =
        false_from_ne_true (contains a h.retired) (λ is. let bad : Dead ≡ Retired = sym e ∙ (stage.ends.retired a is).0 in cc) in
        (rw killed refl, two)
    go a lt Retired e =
        let one = not_killed a h stage.ends (λ d. let bad : Retired ≡ Dead = sym e ∙ d in cc) in (rw (one, stage.left.lasting a) refl, stage.ends.gone a lt e)
