-- How the futures that wait for an answer are linked, those of each actor in their order.
use Rattle.std.specs.Prelude.{◌≡◌, ◌≢◌, ℕ, ◌<◌, ◌≤◌, ◌==◌, Bool, false, List, map, length, get_or, slice_set, count_by, Option, Some, None}
use Rattle.act_types.specs.declared.limits.TheConstants.{MAX_ACTORS}
use Rattle.act_replies.specs.declared.table.Link.{Link}

-- the actor that each future waits for, none where it waits no more, and for how many more futures there is room
pub record WaitingView : Type 0 where
  pub actors : List (Option ℕ)
  pub spare : ℕ

-- what stands at place k of a list, and none past its end
abbrev pub found_at : List (Option ℕ) → ℕ → Option ℕ
found_at places k = get_or places k None

-- the list with this at place k, where there is one
abbrev pub with_found : List (Option ℕ) → Option ℕ → Option ℕ → List (Option ℕ)
with_found places None found = places
with_found places (Some k) found = slice_set places k found

-- the greatest future below n that waits for the actor
abbrev pub IsLastBelow : List (Option ℕ) → ℕ → ℕ → Option ℕ → Type 0
IsLastBelow actors a n None = (j : ℕ) → j < n → found_at actors j ≢ Some a
IsLastBelow actors a n (Some k) = (k < n) × (found_at actors k ≡ Some a)
    × ((j : ℕ) → k < j → j < n → found_at actors j ≢ Some a)

-- the least future above k that waits for the actor
abbrev pub IsFirstAbove : List (Option ℕ) → ℕ → ℕ → Option ℕ → Type 0
IsFirstAbove actors a k None = (j : ℕ) → k < j → found_at actors j ≢ Some a
IsFirstAbove actors a k (Some f) = (k < f) × (found_at actors f ≡ Some a)
    × ((j : ℕ) → k < j → j < f → found_at actors j ≢ Some a)

-- each future that waits is linked to the nearest ones of its actor, and the last of each actor is known
pub record IsChained (actors before after last : List (Option ℕ)) : Type 0 where
  pub ends : (a : ℕ) → a ≤ MAX_ACTORS → IsLastBelow actors a (length actors) (found_at last a)
  pub befores : (k a : ℕ) → found_at actors k ≡ Some a → IsLastBelow actors a k (found_at before k)
  pub afters : (k a : ℕ) → found_at actors k ≡ Some a → IsFirstAbove actors a k (found_at after k)

-- the actors that the futures wait for, and what stands before and after each
abbrev pub linked_actors : List Link → List (Option ℕ)
linked_actors links = map (λ link. link.actor) links

abbrev pub before_of : List Link → List (Option ℕ)
before_of links = map (λ link. link.before) links

abbrev pub after_of : List Link → List (Option ℕ)
after_of links = map (λ link. link.after) links

-- the same of the links themselves
abbrev pub IsLinked : List Link → List (Option ℕ) → Type 0
IsLinked links last = IsChained (linked_actors links) (before_of links) (after_of links) last

-- whether what a future waits for is this actor
abbrev pub is_for : ℕ → Option ℕ → Bool
is_for a None = false
is_for a (Some n) = n == a

-- of each actor it is counted how many futures wait for it
abbrev pub IsCounted : List (Option ℕ) → List ℕ → Type 0
IsCounted actors counts = (a : ℕ) → a ≤ MAX_ACTORS → get_or counts a 0 ≡ count_by (is_for a) actors
