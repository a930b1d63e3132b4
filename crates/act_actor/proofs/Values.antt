-- What a scan over settled arguments finds.
use Rattle.act_actor.proofs.Common.{◌≡◌, ℕ, suc, ◌<◌, List, [], ◌∷◌, ◌++◌, Ok, Err, length, get_or, take, drop, map, refl, ap, sym, ◌∙◌, arith, take_all, Good}
use Rattle.act_actor.proofs.Common.{Bad, values_of}
use Rattle.std.proofs.Math.Seq.{split_at}
use Rattle.act_types.specs.declared.call.Value.{Value}
use Rattle.act_types.specs.declared.call.Settled.{Settled}

-- good arguments have their values
pub values_of-good : (values : List Value) → values_of (map Good values) ≡ Ok values
values_of-good [] = refl
values_of-good (value ∷ values) = rw (values_of-good values) refl

-- after good ones, a failed one decides
pub values_of-bad : (values : List Value) (future : ℕ) (rest : List Settled) → values_of (map Good values ++ Bad future ∷ rest) ≡ Err future
values_of-bad [] future rest = refl
values_of-bad (value ∷ values) future rest = rw (values_of-bad values future rest) refl

-- the same by a place
pub values_of-bad_at : (args : List Settled) (place : ℕ) (values : List Value) (future : ℕ) (d : Settled)
    → place < length args → take place args ≡ map Good values → get_or args place d ≡ Bad future → values_of args ≡ Err future
values_of-bad_at args place values future d within good bad =
    ap values_of (split_at args place d within ∙ ap (λ front. front ++ get_or args place d ∷ drop (suc place) args) good ∙
    ap (λ last. map Good values ++ last ∷ drop (suc place) args) bad)
    ∙ values_of-bad values future (drop (suc place) args)

-- the same at the end
pub values_of-all : (args : List Settled) (values : List Value) (place : ℕ) → length args ≡ place → take place args ≡ map Good values →
    values_of args ≡ Ok values
values_of-all args values place end good = ap values_of (sym (take_all place args (omega arith)) ∙ good) ∙ values_of-good values

pub ruleset scanned = (values_of-bad_at, values_of-all)
