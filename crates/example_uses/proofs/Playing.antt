-- Events that are played in two parts.
use Rattle.example_uses.proofs.Common.{◌≡◌, ℕ, ◌+◌, ◌-◌, List, ◌++◌, length, take, drop, ap, sym, ◌∙◌, subst, append_assoc, length-drop, arith}
use Rattle.example_uses.proofs.Common.{take-append-drop, take_all, take-add, Event, opening, history, Outcome, after_all, outcomes, after_all-append}
use Rattle.example_uses.proofs.Common.{outcomes-append, WorldView, IsReachedBy, HasPlayed}

-- some events, and then others
played_both : (xs ys : List Event) (old mid new : WorldView) (told told_mid told_new : List Outcome) → HasPlayed xs old mid told told_mid →
    HasPlayed ys mid new told_mid told_new → HasPlayed (xs ++ ys) old new told told_new
played_both xs ys old mid new told told_mid told_new first then casts before reached =
    let one = first casts before reached in
    let two = then casts (before ++ xs) one.0 in
    let h = history casts before in
    let joined : history casts (before ++ xs) ≡ after_all h xs = after_all-append (opening casts) before xs in (
      subst (λ l. IsReachedBy casts l new) (append_assoc before xs ys) two.0,
      two.1
          ∙ ap (λ l. l ++ outcomes (history casts (before ++ xs)) ys) one.1
          ∙ append_assoc told (outcomes h xs) (outcomes (history casts (before ++ xs)) ys)
          ∙ ap (λ g. told ++ (outcomes h xs ++ outcomes g ys)) joined
          ∙ ap (λ l. told ++ l) (sym (outcomes-append h xs ys)),
    )

-- what lies from a place on, as a slice has it
abbrev rest : ℕ → List Event → List Event
rest place events = take (length events - place) (drop place events)

rest_is : (events : List Event) (place : ℕ) → rest place events ≡ drop place events
rest_is events place = take_all (length events - place) (drop place events) (omega (arith, length-drop place events))

-- a front, and then a prefix of the rest
pub played_on : (events : List Event) (place more : ℕ) (old mid new : WorldView) (told told_mid told_new : List Outcome) → HasPlayed (take place events) old mid
    told told_mid → HasPlayed (take more (rest place events)) mid new told_mid told_new → HasPlayed (take (place + more) events) old new told told_new
played_on events place more old mid new told told_mid told_new first then =
    subst (λ l. HasPlayed l old new told told_new) (ap (λ l. take place events ++ take more l) (rest_is events place) ∙ sym (take-add place more events))
    (played_both (take place events) (take more (rest place events)) old mid new told told_mid told_new first then)

-- a front, and then the rest
pub played_out : (events : List Event) (place : ℕ) (old mid new : WorldView) (told told_mid told_new : List Outcome)
    → HasPlayed (take place events) old mid told told_mid → HasPlayed (rest place events) mid new told_mid told_new → HasPlayed events old new told told_new
played_out events place old mid new told told_mid told_new first then =
    subst (λ l. HasPlayed l old new told told_new) (ap (λ l. take place events ++ l) (rest_is events place) ∙ take-append-drop place events)
    (played_both (take place events) (rest place events) old mid new told told_mid told_new first then)
