-- What copies and releases of handles do to the copies that are held, and that they are as a plan's steps say.
use Rattle.act_handles.proofs.Common.{◌≡◌, ◌≢◌, ℕ, ◌+◌, ◌-◌, ◌==◌, Bool, true, false, if◌then◌else◌, nat_lt, List, [], ◌∷◌, ◌++◌, length, filter, Option, Some}
use Rattle.act_handles.proofs.Common.{None, refl, sym, ◌∙◌, ap, subst, arith, rules, append-nil, length-append, inl, inr, option_map, list_any, ne_eqb}
use Rattle.act_handles.proofs.Common.{eqb_tells, Handle, copies_in, with_copy, without_copy}
use Rattle.std.proofs.lemmas.List.Elements.{filter-append}
use Rattle.act_rules.specs.declared.script.Step.TheVariants.{Copy, Release}
use Rattle.act_rules.specs.Plans.{Progress, holds, occurrences, do_step}
use Rattle.act_rules.specs.Submissions.{copies_held, copy_refusal}
use Rattle.act_rules.proofs.Ended.{needs-none}
use Rattle.act_handles.proofs.Lookups.{copies-with_copy, copies-with_copy-other, copies-without_copy, copies-without_copy-other}

pub positive : (n : ℕ) → nat_lt 0 n ≡ true → n ≢ 0
positive n is none = absurd (cc (sym is ∙ ap (nat_lt 0) none))

pub copy_holds : (copies : Option ℕ) → copy_refusal copies ≡ None → copies_held copies ≢ 0
copy_holds copies is = positive (copies_held copies) (needs-none _ _ _ (needs-none _ _ _ is).1).0

-- a release leaves one copy less
pub held_less : (copies : Option ℕ) → copies_held (option_map (λ n. n - 1) copies) ≡ copies_held copies - 1
held_less None = refl
held_less (Some n) = refl

occurs_more : (a : ℕ) (xs : List ℕ) → occurrences a (xs ++ a ∷ []) ≡ occurrences a xs + 1
occurs_more a xs =
    ap (λ l. length l) (filter-append (λ b. b == a) xs (a ∷ []))
    ∙ length-append (filter (λ b. b == a) xs) (filter (λ b. b == a) (a ∷ []))
    ∙ ap (λ t. occurrences a xs + length (if t then a ∷ [] else [])) (let same : (a == a) ≡ true = search rules in same)

occurs_other : (a b : ℕ) (xs : List ℕ) → a ≢ b → occurrences b (xs ++ a ∷ []) ≡ occurrences b xs
occurs_other a b xs apart =
    ap (λ l. length l) (filter-append (λ c. c == b) xs (a ∷ []) ∙ ap (λ t. filter (λ c. c == b) xs ++ (if t then a ∷ [] else [])) (ne_eqb a b apart) ∙
    append-nil (filter (λ c. c == b) xs))

copy_count : (listed : Bool) (c r : ℕ) {c2 : ℕ} → c2 ≡ c + 1 → copies_held (if listed then Some ((1 + c) - r) else None) ≢ 0 →
    option_map (λ n. n + 1) (if listed then Some ((1 + c) - r) else None) ≡ (if listed then Some ((1 + c2) - r) else None)
copy_count true c r more some = ap Some (omega (arith, more, some))
copy_count false c r more some = refl

release_count : (listed : Bool) (c r : ℕ) {r2 : ℕ} → r2 ≡ r + 1 →
    option_map (λ n. n - 1) (if listed then Some ((1 + c) - r) else None) ≡ (if listed then Some ((1 + c) - r2) else None)
release_count true c r more = ap Some (omega (arith, more))
release_count false c r more = refl

-- where the copies are as a plan's steps say, they are so after a copy that nothing refuses
pub copy_copies : (handles : List Handle) (a b : ℕ) (actors : List ℕ) (p : Progress) → ((c : ℕ) → copies_in c handles ≡ holds c actors p) →
    copy_refusal (holds a actors p) ≡ None → copies_in b (with_copy a handles) ≡ holds b actors (do_step p (Copy a))
copy_copies handles a b actors p same fine =
    elim (eqb_tells a b) [
      | inl t ↦ subst (λ n. copies_in n (with_copy a handles) ≡ holds n actors (do_step p (Copy a))) t.1
          (copies-with_copy a handles ∙ ap (option_map (λ n. n + 1)) (same a) ∙ copy_count (list_any (λ c. c == a) actors) (occurrences a p.copied)
          (occurrences a p.released) (occurs_more a p.copied) (copy_holds (holds a actors p) fine))
      | inr f ↦ copies-with_copy-other a b handles f.1 ∙ same b ∙
          ap (λ n. if list_any (λ c. c == b) actors then Some ((1 + n) - occurrences b p.released) else None) (sym (occurs_other a b p.copied f.1))
    ]

-- where the copies are as a plan's steps say, they are so after a release
pub release_copies : (handles : List Handle) (a b : ℕ) (actors : List ℕ) (p : Progress) → ((c : ℕ) → copies_in c handles ≡ holds c actors p) →
    copies_in b (without_copy a handles) ≡ holds b actors (do_step p (Release a))
release_copies handles a b actors p same =
    elim (eqb_tells a b) [
      | inl t ↦ subst (λ n. copies_in n (without_copy a handles) ≡ holds n actors (do_step p (Release a))) t.1 (copies-without_copy a handles ∙ ap (option_map
          (λ n. n - 1)) (same a) ∙ release_count (list_any (λ c. c == a) actors) (occurrences a p.copied) (occurrences a p.released) (occurs_more a p.released))
      | inr f ↦ copies-without_copy-other a b handles f.1 ∙ same b ∙
          ap (λ n. if list_any (λ c. c == b) actors then Some ((1 + occurrences b p.copied) - n) else None) (sym (occurs_other a b p.released f.1))
    ]
