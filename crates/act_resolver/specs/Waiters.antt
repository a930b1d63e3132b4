-- Which calls wait for which answer.
use Rattle.std.specs.Prelude.{ℕ, ◌+◌, ◌<◌, Option, Some, None, List, [], ◌∷◌, ◌++◌, map, length, slice_index_or, All, IfSome}
use Rattle.act_resolver.specs.declared.resolver.Place.{Place}

-- for each future the calls that wait for it, the latest first, and for how many more futures and places there is room
pub record WaitersView : Type 0 where
  pub lists : List (List ℕ)
  pub future_room : ℕ
  pub place_room : ℕ

-- the calls that wait for future k
abbrev pub waiters_of : List (List ℕ) → ℕ → List ℕ
waiters_of lists k = slice_index_or lists k []

-- the calls along the chain from a place, where these are the chains from each place
abbrev pub chain_from : List (List ℕ) → Option ℕ → List ℕ
chain_from chains None = []
chain_from chains (Some place) = slice_index_or chains place []

-- the chains from each place, after those from earlier places
abbrev pub chains_after : List (List ℕ) → List Place → List (List ℕ)
chains_after chains [] = chains
chains_after chains (place ∷ places) = chains_after (chains ++ (place.call ∷ chain_from chains place.next) ∷ []) places

-- the chain of each future
abbrev pub chains_of : List (Option ℕ) → List Place → List (List ℕ)
chains_of firsts places = map (chain_from (chains_after [] places)) firsts

-- each link leads to an earlier place, where so many stand before these
abbrev pub AreLinked : ℕ → List Place → Type 0
AreLinked before places = (i : ℕ) (d : Place) → i < length places →
    IfSome (slice_index_or places i d).next (λ next. next < before + i)

-- each chain begins at a place
abbrev pub AreWaiters : List (Option ℕ) → List Place → Type 0
AreWaiters firsts places = All (λ first. IfSome first (λ place. place < length places)) firsts × AreLinked 0 places
