-- The rule of a line: a queue with many putters and one taker. Each item has a stamp, a number that only proofs speak
-- of: its putter picks it, and the taker learns with which stamp the item was put.
use Rattle.std.specs.Prelude.{◌≡◌, ℕ, suc, ◌==◌, List, [], ◌∷◌, ◌++◌, Option, Some, None, filter, map, All, Contains}
use mathlib.Core.Option.{some}
use lib.ListN.{get_elem?}
use Rattle.act_rules.specs.Consistent.{IsPrefix}
use Rattle.act_mailbox.specs.declared.line.View.{View}
use Rattle.act_mailbox.specs.declared.line.View.TheVariants.{Puts, Takes, Saw, Spent}

-- the items of putter c, in order
abbrev pub items_from : {T : Type 0} → (T → ℕ) → ℕ → List T → List T
items_from putter_of c xs = filter (λ x. putter_of x == c) xs

-- the items, and their stamps, of items with stamps
abbrev pub items_alone : {T : Type 0} → List (T × ℕ) → List T
items_alone xs = map (λ x. x.0) xs

abbrev pub stamps_alone : {T : Type 0} → List (T × ℕ) → List ℕ
stamps_alone xs = map (λ x. x.1) xs

-- who put an item with a stamp
abbrev pub putter_of_stamped : {T : Type 0} → (T → ℕ) → T × ℕ → ℕ
putter_of_stamped putter_of x = putter_of x.0

module _ {T N : Type 0} where
  -- what a putter's pass knows
  abbrev pub putting : ℕ → List T → List N → List T → View T N
  putting c put label seen = Puts (record { number = c; put = put; label = label; seen = seen })

  -- what the taker's pass knows
  abbrev pub taking : List ℕ → List T → List N → View T N
  taking putters taken label = Takes (record { putters = putters; taken = taken; label = label })

  -- who a pass acts for: the taker, or one putter
  abbrev pub role : View T N → Option ℕ
  role (Puts v) = Some (suc v.number)
  role (Takes v) = Some 0
  role other = None

  -- the taker made the pass of putter c
  abbrev pub after_deal : ℕ → View T N → View T N
  after_deal c (Takes v) = taking (v.putters ++ c ∷ []) v.taken v.label
  after_deal c other = other

  -- a putter put x
  abbrev pub after_put : T → List N → View T N → View T N
  after_put x label (Puts v) = putting v.number (v.put ++ x ∷ []) label v.seen
  after_put x label other = other

  -- the taker took x
  abbrev pub after_take : T → List N → View T N → View T N
  after_take x label (Takes v) = taking v.putters (v.taken ++ x ∷ []) label
  after_take x label other = other

  -- what a copy of the taker's pass knows
  abbrev pub copied : View T N → View T N
  copied (Takes v) = Saw v.taken
  copied (Saw xs) = Saw xs
  copied other = Spent

  -- a putter takes in what a copy knows
  abbrev pub shown : View T N → View T N → View T N
  shown (Puts v) (Saw xs) = putting v.number v.put v.label xs
  shown v w = v

module _ {T N : Type 0} where
  -- the parts of what a pass knows, or nothing where it has no such part
  abbrev pub put_of : View T N → List T
  put_of (Puts v) = v.put
  put_of other = []

  abbrev pub label_of : View T N → List N
  label_of (Puts v) = v.label
  label_of (Takes v) = v.label
  label_of other = []

  abbrev pub taken_of : View T N → List T
  taken_of (Takes v) = v.taken
  taken_of other = []

  abbrev pub putters_of : View T N → List ℕ
  putters_of (Takes v) = v.putters
  putters_of other = []

module _ {T N : Type 0} (putter_of : T → ℕ) where
  -- what a pass knows, where `got` was taken so far and the queue holds `items`
  abbrev pub Fits : List ℕ → List T → List T → View T N → Type 0
  Fits putters got items (Puts v) = Contains putters v.number × (v.put ≡ items_from putter_of v.number (got ++ items))
      × IsPrefix v.seen got
  Fits putters got items (Takes v) = (v.putters ≡ putters) × (v.taken ≡ got)
  Fits putters got items (Saw xs) = IsPrefix xs got
  Fits putters got items Spent = Unit {0}

  -- a putter or the taker has one pass; what was taken of a putter, and then what the queue holds of it, is what it
  -- put; each item's putter has a pass
  abbrev pub Lined : List T → List (View T N) → Type 0
  Lined items views = (endpoint : ℕ → ℕ) × (putters : List ℕ) × (got : List T)
      × All (λ x. Contains putters (putter_of x)) (got ++ items)
      × ((port : ℕ) (v : View T N) → get_elem? views port ≡ some v →
      Fits putters got items v × ((r : ℕ) → role v ≡ Some r → port ≡ endpoint r))

  -- what an audit tells of a putter
  abbrev pub Audited : View T N → Type 0
  Audited (Puts v) = IsPrefix (items_from putter_of v.number v.seen) v.put
  Audited other = Unit {0}

module _ {T N : Type 0} (putter_of : T → ℕ) where
  -- each item of the queue has a stamp, and the line is in order by items with their stamps
  abbrev pub LinedByStamps : List T → List (View (T × ℕ) N) → Type 0
  LinedByStamps items views = (stamped : List (T × ℕ)) × (items_alone stamped ≡ items)
      × Lined (putter_of_stamped putter_of) stamped views

  -- what a take tells: with which stamp the item was put, and that its putter has a pass
  abbrev pub Took : List N → View (T × ℕ) N → T → View (T × ℕ) N → Type 0
  Took label v x w = ((stamp : ℕ) × (w ≡ after_take (x, stamp) label v)) × Contains (putters_of v) (putter_of x)
