-- Events that are played one after the other, each told as it happens.
use Rattle.act_console.proofs.Common.{◌≡◌, ℕ, ◌+◌, List, [], ◌∷◌, ◌++◌, length, refl, ap, sym, ◌∙◌, subst, append_assoc, arith, length-append, append-nil}
use Rattle.act_console.proofs.Common.{Event, ActorSpec, opening, history, numbered_lines, outcome_line, outcome_lines, Outcome, after_all, outcome_of, outcomes}
use Rattle.act_console.proofs.Common.{after_all-append, outcomes-append, WorldView, IsReachedBy, HasRoom, IsGrown, HasPlayed, AreTold}

-- the lines of one member more
placed-push : {X : Type 0} (line : ℕ → X → List ℕ) (n : ℕ) (xs : List X) (x : X) →
    numbered_lines line n (xs ++ x ∷ []) ≡ numbered_lines line n xs ++ line (n + length xs) x
placed-push line n [] x = append-nil (line n x) ∙ ap (λ m. line m x) (omega arith)
placed-push line n (y ∷ xs) x =
    ap (λ back. line n y ++ back) (placed-push line (n + 1) xs x ∙ ap (λ m. numbered_lines line (n + 1) xs ++ line m x) (omega arith))
    ∙ sym (append_assoc (line n y) (numbered_lines line (n + 1) xs) (line (n + length (y ∷ xs)) x))

-- some events were played, what is told of them is written, and the others are left
pub record Playing (events left : List Event) (old now : WorldView) (before text : List ℕ) (place : ℕ) : Type 0 where
  pub done : List Event
  pub told : List Outcome
  pub parts : done ++ left ≡ events
  pub played : HasPlayed done old now [] told
  pub written : text ≡ before ++ outcome_lines told
  pub count : length told ≡ place
  pub total : place + length left ≡ length events
  pub room : HasRoom (length left) now.network

pub begins : (events left : List Event) (world : WorldView) (text : List ℕ) → left ≡ events → HasRoom (length events) world.network →
    Playing events left world world text text 0
begins events left world text is room = let long : length left ≡ length events = ap length is in record {
  done = [];
  told = [];
  parts = is;
  played = λ casts before reached. (subst (λ l. IsReachedBy casts l world) (sym (append-nil before)) reached, refl);
  written = sym (append-nil text);
  count = refl;
  total = omega arith;
  room = subst (λ l. HasRoom (length l) world.network) (sym is) room;
}

pub goes_on : (events left rest : List Event) (event : Event) (outcome : Outcome) (old now new : WorldView) (before text longer : List ℕ) (place : ℕ) →
    left ≡ event ∷ rest → ((casts : List ActorSpec) (events : List Event) → IsReachedBy casts events now → outcome ≡ outcome_of (history casts events) event) →
    ((casts : List ActorSpec) (events : List Event) → IsReachedBy casts events now → IsReachedBy casts (events ++ event ∷ []) new) →
    IsGrown now.network new.network → longer ≡ text ++ outcome_line place outcome → Playing events left old now before text place →
    Playing events rest old new before longer (place + 1)
goes_on events left rest event outcome old now new before text longer place is told_is stands_is grown more so_far =
    let room : HasRoom (length (event ∷ rest)) now.network = subst (λ l. HasRoom (length l) now.network) is so_far.room in
    let total : place + length (event ∷ rest) ≡ length events = ap (λ l. place + length l) (sym is) ∙ so_far.total in
    let done = so_far.done in let told = so_far.told in let many = so_far.count in
    let here : place ≡ 0 + length told = omega arith in record {
      done = done ++ event ∷ [];
      told = told ++ outcome ∷ [];
      parts = append_assoc done (event ∷ []) rest ∙ ap (λ l. done ++ l) (sym is) ∙ so_far.parts;
      played = λ casts first reached.
          let played = so_far.played casts first reached in let h = history casts first in
          let joined : history casts (first ++ done) ≡ after_all h done = after_all-append (opening casts) first done in (
            subst (λ l. IsReachedBy casts l new) (append_assoc first done (event ∷ [])) (stands_is casts (first ++ done) played.0),
            ap (λ l. l ++ outcome ∷ []) played.1 ∙ ap (λ o. outcomes h done ++ o ∷ [])
                (told_is casts (first ++ done) played.0 ∙ ap (λ g. outcome_of g event) joined) ∙ sym (outcomes-append h done (event ∷ [])),
          );
      written =
          more
          ∙ ap (λ l. l ++ outcome_line place outcome) so_far.written
          ∙ append_assoc before (outcome_lines told) (outcome_line place outcome)
          ∙ ap (λ n. before ++ (outcome_lines told ++ outcome_line n outcome)) here
          ∙ ap (λ l. before ++ l) (sym (placed-push outcome_line 0 told outcome));
      count = let count = so_far.count in let longer : length (told ++ outcome ∷ []) ≡ length told + 1 = length-append told (outcome ∷ []) in omega arith;
      total = omega arith;
      room = omega arith;
    }

-- no event is left
pub ends : (events left : List Event) (old now : WorldView) (before text : List ℕ) (place : ℕ) → left ≡ [] → Playing events left old now before text place →
    AreTold events old now before text
ends events left old now before text place none so_far =
    let all : so_far.done ≡ events = sym (append-nil so_far.done) ∙ ap (λ l. so_far.done ++ l) (sym none) ∙ so_far.parts in
    record { told = so_far.told; played = subst (λ l. HasPlayed l old now [] so_far.told) all so_far.played; written = so_far.written }
