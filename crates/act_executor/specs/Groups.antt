-- Passes on the lines of a list, by whose they are.
use Rattle.std.specs.Prelude.{◌≡◌, ℕ, ◌+◌, ◌<◌, ◌==◌, List, [], ◌∷◌, ◌++◌, Vec, length, map, filter, slice_index_or}
use Rattle.std.specs.declared.alloc.Global.{Global}
use Rattle.atomic_table.specs.Seated.{TableId}
use Rattle.act_mailbox.specs.declared.thread.Endpoint.{Endpoint}

-- the items of a vector
abbrev pub items_of_vec : {X : Type 0} → Vec X Global → List X
items_of_vec list = list.items

module _ {P : Type 0} where
  -- a pass at a place
  abbrev pub endpoint_at : ℕ → P → Endpoint P
  endpoint_at place pass = record { place = place; pass = pass }

  -- the endpoints of the passes with a number, in order
  abbrev pub group_of : (P → ℕ) → ℕ → List (Endpoint P) → List (Endpoint P)
  group_of number c endpoints = filter (λ endpoint. number endpoint.pass == c) endpoints

  -- a new pass for each name on each line, where the first line stands at a place
  abbrev pub endpoints_from : (TableId → ℕ → P) → ℕ → List TableId → List (List ℕ) → List (Endpoint P)
  endpoints_from new place [] names = []
  endpoints_from new place (line ∷ lines) [] = []
  endpoints_from new place (line ∷ lines) (here ∷ names) = map (λ c. endpoint_at place (new line c)) here
      ++ endpoints_from new (place + 1) lines names

  -- the hand of each number has the endpoints that are its own among these
  abbrev pub AreHands : (P → ℕ) → List ℕ → List (Endpoint P) → List (Vec (Endpoint P) Global) → Type 0
  AreHands number numbers endpoints hands = map items_of_vec hands ≡ map (λ c. group_of number c endpoints) numbers

  -- the hand of each number grew by those that are its own
  pub record AreGrown (number : P → ℕ) (numbers : List ℕ) (endpoints : List (Endpoint P))
      (was hands : List (Vec (Endpoint P) Global)) : Type 0 where
    pub long : length hands ≡ length was
    pub each : (i : ℕ) (d : Vec (Endpoint P) Global) → i < length numbers →
        items_of_vec (slice_index_or hands i d)
        ≡ items_of_vec (slice_index_or was i d) ++ group_of number (slice_index_or numbers i 0) endpoints
