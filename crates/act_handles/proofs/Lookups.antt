-- What is found after a handle is changed, and at the opening, for the crates above.
use Rattle.act_handles.proofs.Common.{◌≡◌, ◌≢◌, ℕ, ◌+◌, ◌-◌, ◌==◌, List, [], ◌∷◌, map, Some, None, true, false, is_some, if◌then◌else◌, refl, sym, ◌∙◌, ap}
use Rattle.act_handles.proofs.Common.{eq-eqb, inl, inr, find, list_any, ne_eqb, eqb_tells, Handle, is_of, copies_in, given_in, given_of_all, change_handle}
use Rattle.act_handles.proofs.Common.{new_handle, with_copy, with_number, without_copy}
use Rattle.std.specs.Option.{option_map, option_map_or, unwrap_or}

-- the changed handle itself
pub find-changed-same : (a : ℕ) (change : Handle → Handle) → ((handle : Handle) → (change handle).actor ≡ handle.actor) → (handles : List Handle) →
    find (is_of a) (change_handle a change handles) ≡ option_map change (find (is_of a) handles)
find-changed-same a change keeps [] = refl
find-changed-same a change keeps (handle ∷ handles) =
    elim (eqb_tells handle.actor a) [
      | inl t ↦ rw (t.0, eq-eqb (change handle).actor a (keeps handle ∙ t.1)) refl
      | inr f ↦ rw (f.0, f.0) (find-changed-same a change keeps handles)
    ]

-- all others
pub find-changed-other : (a b : ℕ) (change : Handle → Handle) → a ≢ b → ((handle : Handle) → (change handle).actor ≡ handle.actor) → (handles : List Handle) →
    find (is_of b) (change_handle a change handles) ≡ find (is_of b) handles
find-changed-other a b change apart keeps [] = refl
find-changed-other a b change apart keeps (handle ∷ handles) =
    elim (eqb_tells handle.actor a) [
      | inl t ↦ rw (t.0, differs (change handle) (keeps handle ∙ t.1), differs handle t.1) (find-changed-other a b change apart keeps handles)
      | inr f ↦ rw f.0 (ap (λ rest. if is_of b handle then Some handle else rest) (find-changed-other a b change apart keeps handles))
    ]
  where
    differs : (handle : Handle) → handle.actor ≡ a → is_of b handle ≡ false
    differs handle here = ne_eqb handle.actor b (λ same. apart (sym here ∙ same))

-- the copies that are held afterwards
pub copies-with_copy : (a : ℕ) (handles : List Handle) → copies_in a (with_copy a handles) ≡ option_map (λ copies. copies + 1) (copies_in a handles)
copies-with_copy a handles =
    rw (find-changed-same a (λ (handle : Handle). record handle { copies = handle.copies + 1 }) (λ _. refl) handles)
    (elim (find (is_of a) handles) as
    (λ found. option_map (λ (handle : Handle). handle.copies) (option_map (λ (handle : Handle). record handle { copies = handle.copies + 1 }) found) ≡
    option_map (λ copies. copies + 1) (option_map (λ (handle : Handle). handle.copies) found)) [ None ↦ refl | Some handle ↦ refl ])

-- a release takes one of the copies that are held, where there is one
pub copies-without_copy : (a : ℕ) (handles : List Handle) → copies_in a (without_copy a handles) ≡ option_map (λ copies. copies - 1) (copies_in a handles)
copies-without_copy a handles =
    rw (find-changed-same a (λ (handle : Handle). record handle { copies = handle.copies - 1 }) (λ _. refl) handles)
    (elim (find (is_of a) handles) as
    (λ found. option_map (λ (handle : Handle). handle.copies) (option_map (λ (handle : Handle). record handle { copies = handle.copies - 1 }) found) ≡
    option_map (λ copies. copies - 1) (option_map (λ (handle : Handle). handle.copies) found)) [ None ↦ refl | Some handle ↦ refl ])

-- a copy of one actor's handle leaves the copies of every other actor's
pub copies-with_copy-other : (a b : ℕ) (handles : List Handle) → a ≢ b → copies_in b (with_copy a handles) ≡ copies_in b handles
copies-with_copy-other a b handles apart =
    ap (option_map (λ (handle : Handle). handle.copies))
    (find-changed-other a b (λ (handle : Handle). record handle { copies = handle.copies + 1 }) apart (λ _. refl) handles)

-- a release of one actor's handle leaves the copies of every other actor's
pub copies-without_copy-other : (a b : ℕ) (handles : List Handle) → a ≢ b → copies_in b (without_copy a handles) ≡ copies_in b handles
copies-without_copy-other a b handles apart =
    ap (option_map (λ (handle : Handle). handle.copies))
    (find-changed-other a b (λ (handle : Handle). record handle { copies = handle.copies - 1 }) apart (λ _. refl) handles)

-- what is read of a handle and isn't changed stays
read_same : {X : Type 0} (a b : ℕ) (change : Handle → Handle) (read : Handle → X) → ((handle : Handle) → (change handle).actor ≡ handle.actor) →
    ((handle : Handle) → read (change handle) ≡ read handle) → (handles : List Handle) →
    option_map read (find (is_of b) (change_handle a change handles)) ≡ option_map read (find (is_of b) handles)
read_same a b change read keeps same [] = refl
read_same a b change read keeps same (handle ∷ handles) =
    let actor : is_of b (change handle) ≡ is_of b handle = ap (λ n. n == b) (keeps handle) in
    elim (eqb_tells handle.actor a) [
      | inl t ↦ elim (eqb_tells handle.actor b) [
        | inl u ↦ rw (t.0, actor, u.0) (ap Some (same handle))
        | inr v ↦ rw (t.0, actor, v.0) (read_same a b change read keeps same handles)
      ]
      | inr f ↦ elim (eqb_tells handle.actor b) [
        | inl u ↦ rw (f.0, u.0) refl
        | inr v ↦ rw (f.0, v.0) (read_same a b change read keeps same handles)
      ]
    ]

-- a number that is given to a call leaves all copies
pub copies-with_number : (a b : ℕ) (handles : List Handle) → copies_in b (with_number a handles) ≡ copies_in b handles
copies-with_number a b handles =
    read_same a b (λ (handle : Handle). record handle { given = handle.given + 1 }) (λ handle. handle.copies) (λ _. refl) (λ _. refl) handles

given_by_option : (a : ℕ) (handles : List Handle) → given_in a handles ≡ unwrap_or (option_map (λ (handle : Handle). handle.given) (find (is_of a) handles)) 0
given_by_option a handles = elim (find (is_of a) handles) as (λ found. option_map_or (λ (handle : Handle). handle.given) found 0 ≡ unwrap_or
    (option_map (λ (handle : Handle). handle.given) found) 0) [ None ↦ refl | Some handle ↦ refl ]

-- the numbers that were given afterwards
pub given-with_copy : (a b : ℕ) (handles : List Handle) → given_in b (with_copy a handles) ≡ given_in b handles
given-with_copy a b handles =
    given_by_option b (with_copy a handles)
    ∙ ap (λ given. unwrap_or given 0)
    (read_same a b (λ (handle : Handle). record handle { copies = handle.copies + 1 }) (λ handle. handle.given) (λ _. refl) (λ _. refl) handles)
    ∙ sym (given_by_option b handles)

-- a release leaves how many numbers were given
pub given-without_copy : (a b : ℕ) (handles : List Handle) → given_in b (without_copy a handles) ≡ given_in b handles
given-without_copy a b handles =
    given_by_option b (without_copy a handles)
    ∙ ap (λ given. unwrap_or given 0)
    (read_same a b (λ (handle : Handle). record handle { copies = handle.copies - 1 }) (λ handle. handle.given) (λ _. refl) (λ _. refl) handles)
    ∙ sym (given_by_option b handles)

-- where the actor is in the list, a number that is given to its call makes one more
pub given-with_number : (a : ℕ) (handles : List Handle) → is_some (copies_in a handles) ≡ true → given_in a (with_number a handles) ≡ given_in a handles + 1
given-with_number a handles listed =
    rw (find-changed-same a (λ (handle : Handle). record handle { given = handle.given + 1 }) (λ _. refl) handles)
    (elim (find (is_of a) handles) as (λ found. is_some (option_map (λ (handle : Handle). handle.copies) found) ≡ true →
    option_map_or (λ (handle : Handle). handle.given) (option_map (λ (handle : Handle). record handle { given = handle.given + 1 }) found) 0 ≡ option_map_or
    (λ (handle : Handle). handle.given) found 0 + 1) [ None ↦ λ none. cc | Some handle ↦ λ some. refl ] listed)

-- every other actor has as many as before
pub given-with_number-other : (a b : ℕ) (handles : List Handle) → a ≢ b → given_in b (with_number a handles) ≡ given_in b handles
given-with_number-other a b handles apart =
    ap (λ found. option_map_or (λ (handle : Handle). handle.given) found 0)
    (find-changed-other a b (λ (handle : Handle). record handle { given = handle.given + 1 }) apart (λ _. refl) handles)

-- at the opening
pub copies-opened : (a : ℕ) (actors : List ℕ) → copies_in a (map new_handle actors) ≡ (if list_any (λ actor. actor == a) actors then Some 1 else None)
copies-opened a [] = refl
copies-opened a (actor ∷ actors) =
    elim (eqb_tells actor a) [
      | inl t ↦ rw t.0 refl
      | inr f ↦ rw f.0 (copies-opened a actors)
    ]

-- at the opening no numbers were given to calls of any actor
pub given-opened : (a : ℕ) (actors : List ℕ) → given_in a (map new_handle actors) ≡ 0
given-opened a [] = refl
given-opened a (actor ∷ actors) =
    elim (eqb_tells actor a) [
      | inl t ↦ rw t.0 refl
      | inr f ↦ rw f.0 (given-opened a actors)
    ]

-- at the opening no numbers were given in all
pub given_of_all-opened : (actors : List ℕ) → given_of_all (map new_handle actors) ≡ 0
given_of_all-opened [] = refl
given_of_all-opened (actor ∷ actors) = given_of_all-opened actors
