-- Paths of choices, and the keys that tell them apart.
use Rattle.std.specs.Prelude.{◌≡◌, ℕ, ◌+◌, ◌==◌, Bool, true, false, List, [], ◌∷◌, ◌++◌, map, filter_map, Option, Some, None, if◌then◌else◌, Contains}
use Rattle.std.specs.List.{list_any, flat_map}
use Rattle.act_types.specs.declared.limits.TheConstants.{MAX_ACTORS}
use Rattle.act_rules.specs.History.{History, contains}
use Rattle.act_rules.specs.Report.{one_to}
use Rattle.act_early.specs.Early.{choices_of}
use Rattle.act_plan_plays.specs.declared.choice.Choice.{Choice}
use Rattle.act_plan_plays.specs.declared.choice.Choice.TheVariants.{Run, Take}

-- whose call the choice has the actor run
abbrev pub run_at : ℕ → Choice → Option ℕ
run_at a (Run b c) = if b == a then Some c else None
run_at a (Take b) = None

-- whether by the choice the actor takes a kill
abbrev pub is_take : ℕ → Choice → Bool
is_take a (Run b c) = false
is_take a (Take b) = b == a

-- whose calls the actor runs on the path, in order
abbrev pub runs_in : ℕ → List Choice → List ℕ
runs_in a path = filter_map (run_at a) path

-- whether the actor takes a kill on the path
abbrev pub takes_in : ℕ → List Choice → Bool
takes_in a path = list_any (is_take a) path

-- the choices of the path were made, each run with its reply kept, and no other
pub record HasMade (path : List Choice) (h : History) : Type 0 where
  pub choices : (a : ℕ) → choices_of a h ≡ map (λ c. (c, true)) (runs_in a path)
  pub killed : (a : ℕ) → contains a h.killed ≡ takes_in a path

-- ---- keys

-- a caller's letter: 'a' for the first
abbrev pub letter_of : ℕ → ℕ
letter_of c = 96 + c

-- an actor's part of a key: '!' for a kill that it takes, else '.', the letters of the callers, and the end of a line
abbrev pub part_of : List Choice → ℕ → List ℕ
part_of path a = (if takes_in a path then 33 else 46) ∷ map letter_of (runs_in a path) ++ 10 ∷ []

-- the key of a path: the parts of all actors
unfoldable pub key_of : List Choice → List ℕ
key_of path = flat_map (part_of path) (one_to MAX_ACTORS)

-- the choice is one of an actor
abbrev pub HasNumber : Choice → Type 0
HasNumber (Run a c) = Contains (one_to MAX_ACTORS) a
HasNumber (Take a) = Contains (one_to MAX_ACTORS) a
