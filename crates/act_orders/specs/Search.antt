-- A search for an order: what is done stands in it, each after its causes; what is begun stands on a path.
use Rattle.std.specs.Prelude.{◌≡◌, ℕ, ◌+◌, ◌<◌, ◌≤◌, List, [], length, take, Option, Some, slice_get, slice_index, Contains, ◌-◌, sum_by}

-- each item with those before it
abbrev pub EachAfter : {A : Type 0} → (List A → A → Type 0) → List A → Type 0
EachAfter {A} P xs = (i : ℕ) (v : A) → slice_get xs i ≡ Some v → P (take i xs) v

-- a graph: its nodes, their numbers, and the slots of each, in which its causes stand
pub record Graph (A : Type 0) : Type 1 where
  pub number : A → ℕ
  pub slots : A → List (Option A)
  pub IsNode : A → Type 0

abbrev pub mark : {A : Type 0} → Graph A → List ℕ → A → ℕ
mark g marks v = slice_index marks (g.number v)

-- the second has the first among its causes
abbrev pub Needs : {A : Type 0} → Graph A → A → A → Type 0
Needs g v u = (k : ℕ) × (slice_get (g.slots v) k ≡ Some (Some u))

-- it may come after these
pub record MayFollow {A : Type 0} (g : Graph A) (before : List A) (v : A) : Type 0 where
  pub once : Contains before v → ⊥
  pub causes : (u : A) → Needs g v u → g.IsNode u → Contains before u

-- it isn't among these
abbrev pub Fresh : {A : Type 0} → List A → A → Type 0
Fresh before v = Contains before v → ⊥

pub record Standing {A : Type 0} (g : Graph A) (done : ℕ) (marks : List ℕ) (path order : List A) : Type 0 where
  pub room : (v : A) → g.IsNode v → g.number v < length marks
  pub finished : (v : A) → g.IsNode v → mark g marks v ≡ done → Contains order v
  pub placed : (v : A) → Contains order v → g.IsNode v × (mark g marks v ≡ done)
  pub after : EachAfter (MayFollow g) order
  pub begun : (v : A) → Contains path v → g.IsNode v × (0 < mark g marks v) × (mark g marks v < done)
  pub once : EachAfter Fresh path
  pub most : (v : A) → g.IsNode v → mark g marks v ≤ done
  pub on_path : (v : A) → g.IsNode v → 0 < mark g marks v → mark g marks v < done → Contains path v
  pub passed : (v : A) → Contains path v → (k : ℕ) (u : A) → k + 1 < mark g marks v →
      slice_get (g.slots v) k ≡ Some (Some u) → g.IsNode u → Contains order u
  pub chain : (i : ℕ) (v w : A) → slice_get path i ≡ Some v → slice_get path (i + 1) ≡ Some w → Needs g v w

-- what a search has before it
abbrev pub left : ℕ → List ℕ → ℕ
left done marks = sum_by (λ m. done - m) marks

-- it went on: what stands in the order stays there, and what was begun stays so
pub record GoesOn {A : Type 0} (g : Graph A) (marks later : List ℕ) (order longer : List A) : Type 0 where
  pub grows : (v : A) → Contains order v → Contains longer v
  pub begun : (v : A) → 0 < mark g marks v → 0 < mark g later v

-- nothing is begun that isn't done
abbrev pub AtRest : {A : Type 0} → Graph A → ℕ → List ℕ → List A → List A → Type 0
AtRest g done marks path order = Standing g done marks path order × (path ≡ [])

-- an order of all nodes, each once and after its causes
pub record OrdersNodes {A : Type 0} (g : Graph A) (order : List A) : Type 0 where
  pub all : (v : A) → g.IsNode v → Contains order v
  pub only : (v : A) → Contains order v → g.IsNode v
  pub after : EachAfter (MayFollow g) order

-- what one step does
pub record Steps {A : Type 0} (g : Graph A) (done : ℕ) (marks later : List ℕ) (after order longer : List A) : Type 0 where
  pub standing : Standing g done later after longer
  pub goes_on : GoesOn g marks later order longer
  pub less : left done later < left done marks
