-- Arguments that are known stay as they are settled.
use Rattle.act_rules.proofs.Common.{◌≡◌, ℕ, true, List, [], ◌∷◌, Some, None, refl, Option, map, is_some, list_all, and_parts, and_from, Arg, Plain, Fut, Answer}
use Rattle.act_rules.proofs.Common.{kept_at, is_known, settle, settled_future}

-- the second table keeps what the first does
abbrev pub Extends : List (Option Answer) → List (Option Answer) → Type 0
Extends before after = (j : ℕ) (answer : Answer) → kept_at before j ≡ Some answer → kept_at after j ≡ Some answer

argument_stays : (before after : List (Option Answer)) → Extends before after → (arg : Arg) → is_known before arg ≡ true →
    (is_known after arg ≡ true) × (settle after arg ≡ settle before arg)
argument_stays before after more (Plain value) known = (refl, refl)
argument_stays before after more (Fut j) known = go (kept_at before j) refl known
  where
    go : (o : Option Answer) → kept_at before j ≡ o → is_some o ≡ true →
        (is_some (kept_at after j) ≡ true) × (settled_future j (kept_at after j) ≡ settled_future j (kept_at before j))
    go None e h = cc
    go (Some answer) e h = let there : kept_at after j ≡ Some answer = more j answer e in (rw there refl, rw (there, e) refl)

-- where more answers are kept, arguments that were known are known, and settle as they did
pub arguments_stay : (before after : List (Option Answer)) → Extends before after → (args : List Arg) → list_all (is_known before) args ≡ true →
    (list_all (is_known after) args ≡ true) × (map (settle after) args ≡ map (settle before) args)
arguments_stay before after more [] known = (refl, refl)
arguments_stay before after more (arg ∷ args) known =
    let parts = and_parts (is_known before arg) (list_all (is_known before) args) known in
    let first = argument_stays before after more arg parts.0 in let rest = arguments_stay before after more args parts.1 in
    (and_from (is_known after arg) (list_all (is_known after) args) first.0 rest.0, rw (first.1, rest.1) refl)
