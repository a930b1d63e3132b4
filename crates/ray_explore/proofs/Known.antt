-- Which ends are known, once one more was told.
use Rattle.ray_explore.proofs.Common.{◌≡◌, ℕ, Bool, true, false, cond, List, [], ◌∷◌, ◌++◌, bytes_eq, Option, refl, ap, sym, ◌∙◌, subst}
use Rattle.ray_explore.proofs.Common.{Contains, BTreeSet, contains_text, Global, String, TellsEnd, TellsNew, TellsEnds, HasToldSome, HasToldMore}
use Rattle.std.specs.Cmp.Lexicographic.{bytes_decides}
use Rattle.std.proofs.lemmas.List.Elements.{Contains-append_left, Contains-push}
use Rattle.ray_explore.proofs.Written.{one_end_more}

-- the set has these lines, and what it had
abbrev pub Adds : List ℕ → BTreeSet (String Global) → BTreeSet (String Global) → Type 0
Adds lines old new = (other : List ℕ) → contains_text new other ≡ cond (bytes_eq lines other) true (contains_text old other)

pub known_now : (lines same : List ℕ) (old new : BTreeSet (String Global)) → Adds lines old new → lines ≡ same → contains_text new same ≡ true
known_now lines same old new adds is = adds same ∙ ap (λ (b : Bool). cond b true (contains_text old same)) ((bytes_decides lines same).1 is)

pub known_still : (lines other : List ℕ) (old new : BTreeSet (String Global)) → Adds lines old new → contains_text old other ≡ true
    → contains_text new other ≡ true
known_still lines other old new adds was = adds other ∙ go (bytes_eq lines other) (contains_text old other) was
  where
    go : (b had : Bool) → had ≡ true → cond b true had ≡ true
    go true had e = refl
    go false had e = e

-- what is known was known, or is this
known_of : (told : List (List ℕ)) (lines other : List ℕ) (old new : BTreeSet (String Global)) → Adds lines old new → Contains told lines
    → (contains_text old other ≡ true → Contains told other) → contains_text new other ≡ true → Contains told other
known_of told lines other old new adds this earlier is = go (bytes_eq lines other) refl (sym (adds other) ∙ is)
  where
    go : (b : Bool) → bytes_eq lines other ≡ b → cond b true (contains_text old other) ≡ true → Contains told other
    go true same e = subst (Contains told) ((bytes_decides lines other).0 same) this
    go false differs e = earlier e

-- an end that is new was written
pub told_new : (script lines : List ℕ) (is_new : Bool) (old new : BTreeSet (String Global)) (before after : Option (List ℕ)) → Adds lines old new →
    is_new ≡ true → TellsNew script lines is_new before after → HasToldMore script old new before after
told_new script lines is_new old new before after adds fresh wrote first (told, has) =
    let written : TellsEnd script lines before after = subst (λ (b : Bool). TellsNew script lines b before after) fresh wrote in (
      told ++ lines ∷ [],
      record {
        tells = one_end_more script told lines first before after has.tells written;
        known = λ other is. known_of (told ++ lines ∷ []) lines other old new adds (Contains-push told lines)
            (λ was. Contains-append_left told (lines ∷ []) other (has.known other was)) is;
      },
    )

-- one that was told before was not
pub told_before : (script lines : List ℕ) (is_new : Bool) (old new : BTreeSet (String Global)) (before after : Option (List ℕ)) → Adds lines old new →
    is_new ≡ false → contains_text old lines ≡ true → TellsNew script lines is_new before after → HasToldMore script old new before after
told_before script lines is_new old new before after adds stale known wrote first (told, has) =
    let same : after ≡ before = subst (λ (b : Bool). TellsNew script lines b before after) stale wrote in (
      told,
      record {
        tells = subst (TellsEnds script told first) (sym same) has.tells;
        known = λ other is. known_of told lines other old new adds (has.known lines known) (λ was. has.known other was) is;
      },
    )

-- the same of a script that is seen otherwise
pub told_there : (script seen : List ℕ) (old new : BTreeSet (String Global)) (first before after : Option (List ℕ)) → seen ≡ script →
    HasToldMore seen old new before after → HasToldSome script old first before → HasToldSome script new first after
told_there script seen old new first before after same more some =
    subst (λ (s : List ℕ). HasToldSome s new first after) same (more first (subst (λ (s : List ℕ). HasToldSome s old first before) (sym same) some))
