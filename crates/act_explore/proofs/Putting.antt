-- Paths that are put where they wait.
use Rattle.act_explore.proofs.Common.{◌≡◌, ◌⊎◌, ℕ, ◌+◌, ◌<◌, Bool, true, false, cond, List, [], ◌∷◌, ◌++◌, length, take, get_or, refl, sym, ap, ◌∙◌, subst, inl}
use Rattle.act_explore.proofs.Common.{inr, All, Contains, bytes_eq, bytes_eq-Decides, All-nil, All-more, All-weaker, Contains-push, Contains-append_left}
use Rattle.act_explore.proofs.Common.{Choice, HasNumber, key_of, Left, IsKnown, Waits, IsOpened, Grows, HasPut, HasAdded}

-- a path whose key is new
module _ (path : List Choice) (old new : Left) (numbers : All HasNumber path) (waiting : new.waiting ≡ old.waiting ++ path ∷ [])
    (known : (key : List ℕ) → new.known key ≡ cond (bytes_eq (key_of path) key) true (old.known key)) where
  cond_true : (b : Bool) → cond b true true ≡ true
  cond_true true = refl
  cond_true false = refl

  here : Waits new (key_of path)
  here = record { path = path; numbers = numbers; keyed = refl; waits = subst (λ l. Contains l path) (sym waiting) (Contains-push old.waiting path) }

  fresh : (key : List ℕ) → new.known key ≡ true → (old.known key ≡ true) ⊎ Waits new key
  fresh key is = go (bytes_eq (key_of path) key) refl
    where
      go : (b : Bool) → bytes_eq (key_of path) key ≡ b → (old.known key ≡ true) ⊎ Waits new key
      go true e = inr (subst (Waits new) ((bytes_eq-Decides (key_of path) key).0 e) here)
      go false e = inl (ap (λ b. cond b true (old.known key)) (sym e) ∙ sym (known key) ∙ is)

  pub put_new : HasPut path old new
  put_new = record {
    grows = record {
      known = λ key was. known key ∙ ap (cond (bytes_eq (key_of path) key) true) was ∙ cond_true (bytes_eq (key_of path) key);
      waiting = λ one was. subst (λ l. Contains l one) (sym waiting) (Contains-append_left old.waiting (path ∷ []) one was);
      fresh = fresh;
    };
    put = record {
      numbers = numbers;
      known = known (key_of path) ∙ ap (λ b. cond b true (old.known (key_of path))) ((bytes_eq-Decides (key_of path) (key_of path)).1 refl);
    };
  }

-- the first path
pub put_first : (old new : Left) → HasPut [] old new → ((key : List ℕ) → old.known key ≡ false) → IsOpened new
put_first old new put none = record { first = put.put.known; waits = λ key is. go key (put.grows.fresh key is) }
  where
    go : (key : List ℕ) → (old.known key ≡ true) ⊎ Waits new key → Waits new key
    go key (inl was) = let never = none key in cc
    go key (inr waits) = waits

-- ---- one path after another

still_waits : (mid new : Left) (key : List ℕ) → Grows mid new → Waits mid key → Waits new key
still_waits mid new key grows is = record { path = is.path; numbers = is.numbers; keyed = is.keyed; waits = grows.waiting is.path is.waits }

grows_on : (old mid new : Left) → Grows old mid → Grows mid new → Grows old new
grows_on old mid new one two = record {
  known = λ key was. two.known key (one.known key was);
  waiting = λ path was. two.waiting path (one.waiting path was);
  fresh = λ key is. go key (two.fresh key is);
}
  where
    before : (key : List ℕ) → (old.known key ≡ true) ⊎ Waits mid key → (old.known key ≡ true) ⊎ Waits new key
    before key (inl was) = inl was
    before key (inr waits) = inr (still_waits mid new key two waits)

    go : (key : List ℕ) → (mid.known key ≡ true) ⊎ Waits new key → (old.known key ≡ true) ⊎ Waits new key
    go key (inl was) = before key (one.fresh key was)
    go key (inr waits) = inr waits

pub added_none : (path : List Choice) (left : Left) → HasAdded path [] left left
added_none path left = record {
  grows = record { known = λ key was. was; waiting = λ one was. was; fresh = λ key is. inl is };
  added = All-nil (λ choice. IsKnown left (path ++ choice ∷ []));
}

pub added_more : {path : List Choice} (choices : List Choice) {i : ℕ} {choice : Choice} {old : Left} (mid new : Left) → i < length choices → choice ≡
    get_or choices i choice → HasAdded path (take i choices) old mid → HasPut (path ++ choice ∷ []) mid new → HasAdded path (take (i + 1) choices) old new
added_more {path} choices {i} {choice} {old} mid new within is added put = record {
  grows = grows_on old mid new added.grows put.grows;
  added = All-more (λ one. IsKnown new (path ++ one ∷ [])) choices i choice within (All-weaker (λ one. IsKnown mid (path ++ one ∷ []))
      (λ one. IsKnown new (path ++ one ∷ [])) (λ one known. record { numbers = known.numbers; known = put.grows.known (key_of (path ++ one ∷ [])) known.known })
      (take i choices) added.added) (subst (λ one. IsKnown new (path ++ one ∷ [])) is put.put);
}
