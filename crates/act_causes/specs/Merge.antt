-- What all threads of a run did, in one order by their stamps.
use Rattle.std.specs.Prelude.{ℕ, ◌≡◌, ◌≤◌, List, [], ◌∷◌, ◌++◌, All, AllPairs}
use Rattle.act_rules.specs.Actions.{Site, Caller, Actor, Action, action_at}
use Rattle.act_mailbox.specs.Traces.{found_in}

-- the threads of a run: what each caller and each actor did in order, each action with its stamp
abbrev pub Threads : Type 0
Threads = Site → List (ℕ × Action)

abbrev pub site_number : Site → ℕ
site_number (Caller c) = c
site_number (Actor a) = a

-- no caller and no actor of a number from n on did anything
abbrev pub AreBelow : ℕ → Threads → Type 0
AreBelow n threads = (site : Site) → n ≤ site_number site → threads site ≡ []

-- in no thread a stamp is below an earlier one
abbrev pub NeverFall : Threads → Type 0
NeverFall threads = (site : Site) → AllPairs (λ one other. one.0 ≤ other.0) (threads site)

-- these are the first actions of the trace, and among them all that have a stamp below m
pub record IsFrontBelow {S : Type 0} (m : ℕ) (trace front : List (ℕ × S)) : Type 0 where
  pub later : List (ℕ × S)
  pub cut : trace ≡ front ++ later
  pub from : All (λ step. m ≤ step.0) later

-- the list has each action of each thread once, ordered by stamp
pub record IsMergeOf (threads : Threads) (merged : List (ℕ × (Site × Action))) : Type 0 where
  -- of each caller and of each actor it has what its thread did, in that order, and nothing else
  pub of : (site : Site) → found_in (action_at site) merged ≡ threads site
  -- no stamp is below an earlier one
  pub rising : AllPairs (λ one other. one.0 ≤ other.0) merged
  -- and before each of its deeds stands, of each thread, all that may have brought it about
  pub fronts : (before later : List (ℕ × (Site × Action))) (m : ℕ) (deed : Site × Action) →
      merged ≡ before ++ (m, deed) ∷ later →
      (site : Site) → IsFrontBelow m (threads site) (found_in (action_at site) before)

-- what any threads did can be merged so
abbrev pub MergesKeepCauses : Type 0
MergesKeepCauses = (n : ℕ) (threads : Threads) → AreBelow n threads → NeverFall threads →
    (merged : List (ℕ × (Site × Action))) × IsMergeOf threads merged
