-- One more notice, given under the conditions of giving.
use Rattle.std.proofs.Common.{◌≡◌, ℕ, List, [], ◌∷◌, ◌++◌, Some, Result, Ok, Err, OnOk, OnErr, slice_get, sym, refl, subst, arith, All}
use Rattle.std.proofs.lemmas.Grind.{common_steps}
use Rattle.std.proofs.lemmas.List.Elements.{All-push, All-weaker}
use Rattle.act_rules.specs.Consistent.{IsPrefix}
use Rattle.act_rules.specs.declared.history.RunItem.{RunItem}
use Rattle.act_types.specs.declared.call.Notice.{Notice}
use Rattle.act_types.specs.declared.call.Notice.TheVariants.{Answered, Death}
use Rattle.act_mailbox.specs.Passes.{PutterView}
use Rattle.act_mailbox.specs.Notices.{notice_actor, IsNoDeath, NamesPlace, IsGiven}
use Rattle.act_rules.proofs.Common.{slice_get_more}

init_is : (xs ys : List Notice) (x y : Notice) → xs ++ x ∷ [] ≡ ys ++ y ∷ [] → xs ≡ ys
init_is [] [] x y e = refl
init_is [] (b ∷ ys) x y e = grind (arith, common_steps)
init_is (a ∷ xs) [] x y e = grind (arith, common_steps)
init_is (a ∷ xs) (b ∷ ys) x y e = grind (arith, init_is xs ys x y)

-- a place of a log is the same place of a longer one
place_stays : (seen log : List RunItem) (notice : Notice) → IsPrefix seen log → NamesPlace seen notice → NamesPlace log notice
place_stays seen log (Answered reply) p h = (h.0, subst (λ l. slice_get l reply.place ≡ Some h.0) p.1 (slice_get_more seen p.0 reply.place h.1), h.2, h.3)
place_stays seen log (Death actor) p h = tt

given_more : (actor : ℕ) (seen log : List RunItem) (given : List Notice) (notice : Notice) → IsGiven actor seen given → notice_actor notice ≡ actor →
    IsPrefix seen log → NamesPlace log notice → All IsNoDeath given → IsGiven actor log (given ++ notice ∷ [])
given_more actor seen log given notice is names grown place alive = record {
  names = All-push (λ n. notice_actor n ≡ actor) given notice is.names names;
  places = All-push (NamesPlace log) given notice (All-weaker (NamesPlace seen) (NamesPlace log) (λ n h. place_stays seen log n grown h) given is.places) place;
  alive = λ before last e. subst (λ l. All IsNoDeath l) (init_is given before notice last e) alive;
}

-- the same of a pass, by what an attempt to give answers
pub pass_given_more : (actor : ℕ) (old new : PutterView Notice RunItem) (log : List RunItem) (stamps : List ℕ) (notice : Notice)
    (result : Result (Unit {0}) Notice) → OnOk result (new ≡ record old { put = old.put ++ notice ∷ []; stamps = stamps; label = log }) →
    OnErr result (new ≡ old) → (old.number ≡ actor) × IsGiven actor old.label old.put → notice_actor notice ≡ actor → IsPrefix old.label log →
    NamesPlace log notice → All IsNoDeath old.put → (new.number ≡ actor) × IsGiven actor new.label new.put
pass_given_more actor old new log stamps notice (Ok x) ok err is names grown place alive = subst (λ (v : PutterView Notice RunItem). (v.number ≡ actor) ×
    IsGiven actor v.label v.put) (sym ok) (is.0, given_more actor old.label log old.put notice is.1 names grown place alive)
pass_given_more actor old new log stamps notice (Err x) ok err is names grown place alive =
    subst (λ (v : PutterView Notice RunItem). (v.number ≡ actor) × IsGiven actor v.label v.put) (sym err) is
