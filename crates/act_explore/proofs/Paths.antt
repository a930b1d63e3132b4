-- One choice more on a path, and in the history that it made.
use Rattle.act_explore.proofs.Common.{◌≡◌, ℕ, ◌+◌, ◌<◌, ◌==◌, ◌||◌, Bool, true, false, List, [], ◌∷◌, ◌++◌, map, take, length, get_or, option_to_list}
use Rattle.act_explore.proofs.Common.{if◌then◌else◌, Option, Some, None, refl, sym, ap, ◌∙◌, append-nil, append_assoc, filter_map, map-append}
use Rattle.act_explore.proofs.Common.{take_more, filter_map-append, RunItem, History, contains, runs_of, is_heard, Choice, Run, Take}
use Rattle.act_explore.proofs.Common.{HasChosen, run_at, is_take, runs_in, takes_in, HasMade, letter_of}
use Rattle.act_explore.proofs.Keys.{AreSame}
use Rattle.act_plan_plays.proofs.Common.{map_none}
use Rattle.act_plan_plays.proofs.Opened.{contained_none}
use Rattle.act_rules.proofs.Lists.{any_push}
use Rattle.std.proofs.Math.Bool.{or-false}

abbrev heard : ℕ → ℕ × Bool
heard c = (c, true)

single : (a : ℕ) (choice : Choice) → runs_in a (choice ∷ []) ≡ option_to_list (run_at a choice)
single a (Take b) = refl
single a (Run b c) = go (b == a)
  where
    go : (t : Bool) → filter_map (λ o. o) ((if t then Some c else None) ∷ []) ≡ option_to_list (if t then Some c else None)
    go true = refl
    go false = refl

-- one choice more on a path
pub runs_more : (a : ℕ) (path : List Choice) (choice : Choice) → runs_in a (path ++ choice ∷ []) ≡ runs_in a path ++ option_to_list (run_at a choice)
runs_more a path choice = filter_map-append (run_at a) path (choice ∷ []) ∙ ap (λ l. runs_in a path ++ l) (single a choice)

pub takes_more : (a : ℕ) (path : List Choice) (choice : Choice) → takes_in a (path ++ choice ∷ []) ≡ (takes_in a path || is_take a choice)
takes_more a path choice = any_push (is_take a) path choice

one_more : (t : Bool) (c : ℕ) → map heard (option_to_list (if t then Some c else None)) ≡ (if t then (c, true) ∷ [] else [])
one_more true c = refl
one_more false c = refl

-- the history made one choice more
pub made_more : (path : List Choice) (choice : Choice) {h : History} (g : History) → HasMade path h → HasChosen choice h g → HasMade (path ++ choice ∷ []) g
made_more path (Run a c) g made chosen = record {
  choices = λ b. chosen.0 b ∙ ap (λ l. l ++ (if a == b then (c, true) ∷ [] else [])) (made.choices b) ∙ ap (λ l. map heard (runs_in b path) ++ l)
      (sym (one_more (a == b) c)) ∙ sym (ap (map heard) (runs_more b path (Run a c)) ∙ map-append heard (runs_in b path) (option_to_list (run_at b (Run a c))));
  killed = λ b. chosen.1 b ∙ made.killed b ∙ sym (takes_more b path (Run a c) ∙ or-false (takes_in b path));
}
made_more path (Take a) g made chosen = record {
  choices = λ b. chosen.0 b ∙ made.choices b ∙ sym (ap (map heard) (runs_more b path (Take a) ∙ append-nil (runs_in b path)));
  killed = λ b. chosen.1 b ∙ ap (λ t. t || (a == b)) (made.killed b) ∙ sym (takes_more b path (Take a));
}

-- and whoever made one choice more has chosen it
pub chosen_more : (path : List Choice) (choice : Choice) {h g : History} → HasMade path h → HasMade (path ++ choice ∷ []) g → HasChosen choice h g
chosen_more path (Run a c) made more = (
  λ b. more.choices b ∙ ap (map heard) (runs_more b path (Run a c)) ∙ map-append heard (runs_in b path) (option_to_list (run_at b (Run a c))) ∙
      ap (λ l. map heard (runs_in b path) ++ l) (one_more (a == b) c) ∙ ap (λ l. l ++ (if a == b then (c, true) ∷ [] else [])) (sym (made.choices b)),
  λ b. more.killed b ∙ takes_more b path (Run a c) ∙ or-false (takes_in b path) ∙ sym (made.killed b),
)
chosen_more path (Take a) made more = (
  λ b. more.choices b ∙ ap (map heard) (runs_more b path (Take a) ∙ append-nil (runs_in b path)) ∙ sym (made.choices b),
  λ b. more.killed b ∙ takes_more b path (Take a) ∙ ap (λ t. t || (a == b)) (sym (made.killed b)),
)

-- whoever made the choices of a path made those of each path that is the same
pub made_same : {p : List Choice} (q : List Choice) {h : History} → ((a : ℕ) → AreSame p q a) → HasMade p h → HasMade q h
made_same q same made = record { choices = λ a. made.choices a ∙ ap (map heard) (same a).runs; killed = λ a. made.killed a ∙ (same a).takes }

-- no choice was made
pub none_ran : (h : History) (a : ℕ) → HasMade [] h → runs_of a h ≡ []
none_ran h a made = map_none (λ (i : RunItem). (i.caller, is_heard h i)) (runs_of a h) (made.choices a)

pub none_killed : {h : History} → HasMade [] h → h.killed ≡ []
none_killed {h} made = contained_none h.killed made.killed

pub made_none : (h : History) → ((a : ℕ) → runs_of a h ≡ []) → h.killed ≡ [] → HasMade [] h
made_none h runs killed = record { choices = λ a. ap (map (λ (i : RunItem). (i.caller, is_heard h i))) (runs a); killed = λ a. ap (contains a) killed }

-- one choice more, at a step of a loop
pub runs_step : (a : ℕ) (path : List Choice) {i : ℕ} {choice : Choice} → i < length path → choice ≡ get_or path i choice →
    runs_in a (take (i + 1) path) ≡ runs_in a (take i path) ++ option_to_list (run_at a choice)
runs_step a path {i} {choice} within is =
    ap (runs_in a) (take_more path i choice within ∙ ap (λ x. take i path ++ x ∷ []) (sym is)) ∙ runs_more a (take i path) choice

pub letters_more : (old runs : List ℕ) (o : Option ℕ) → (old ++ map letter_of runs) ++ map letter_of (option_to_list o) ≡ old ++ map letter_of
    (runs ++ option_to_list o)
letters_more old runs o = append_assoc old (map letter_of runs) (map letter_of (option_to_list o))
    ∙ ap (λ l. old ++ l) (sym (map-append letter_of runs (option_to_list o)))
