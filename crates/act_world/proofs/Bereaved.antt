-- A caller that collects a death.
use Rattle.act_world.proofs.Common.{◌≡◌, ℕ, Bool, true, false, cond, List, [], ◌∷◌, ◌++◌, map, Some, None, inl, inr, refl, ap, sym, ◌∙◌, subst, Ok, Err, Option}
use Rattle.act_world.proofs.Common.{◌==◌, ◌&&◌, zip, count_by, slice_get, slice_set, option_map, unwrap_or, is_some, list_any, enumerate_from, or-true}
use Rattle.act_world.proofs.Common.{or-false, eq-eqb, eqb_tells, length-map, list_any-append, slice_get-map, ActorDied, Death, Submission, Answer, History}
use Rattle.act_world.proofs.Common.{calls_of, kept_of, answer_in, first_answer, was_sent, All_at, length-zip_same, eq_turned, or_else, kept_of-collected}
use Rattle.act_world.proofs.Common.{copies_in, NetworkView, told_collected, SlotView, IsOwnerOf, is_death_to, Refines, DeathPost, DidDie, OwnerView}
use Rattle.act_world.proofs.Common.{collect_result, with_death, call_waits_for, answer_after_death, get_set-other}
use Rattle.act_owner.specs.Owner.{is_known_dead as knows_dead}
use Rattle.act_world.proofs.Lawful.{IsLawful, IsNamedPost}
use Rattle.act_world.proofs.Pending.{unanswered_is}
use Rattle.act_world.proofs.Seeing.{is_named}
use Rattle.act_world.proofs.Sending.{seen_owner}
use Rattle.act_world.proofs.Lists.{zip_at}
use Rattle.act_world.proofs.Tables.{table_is, kept_there}
use Rattle.act_world.proofs.Heard.{heard, heard_ties, heard_grows, finish, Collects}
use Rattle.act_rules.proofs.Kept.{kept_size}

-- ---- a death

-- what a death answers of one call
one_death : (h : History) (c a j : ℕ) (x : Submission) (o : Option Answer) → answer_after_death a (x, o) ≡ or_else o (answer_in h c j x.actor (DeathPost c a))
one_death h c a j x (Some answer) = go (x.actor == a)
  where
    go : (b : Bool) → cond (b && false) (Some (Err ActorDied)) (Some answer) ≡ Some answer
    go true = refl
    go false = refl
one_death h c a j x None = let mine : (c == c) ≡ true = eq-eqb c c refl in rw (mine, eq_turned a x.actor) (go (x.actor == a))
  where
    go : (b : Bool) → cond (b && true) (Some (Err ActorDied)) None ≡ or_else None (cond b (Some (Err ActorDied)) None)
    go true = refl
    go false = refl

death_table : (h : History) (c a : ℕ) {owner : OwnerView} → IsOwnerOf h c owner →
    map (answer_after_death a) (zip owner.calls owner.kept) ≡ kept_of c (heard h (DeathPost c a))
death_table h c a is = rw (is.calls, is.kept) (table ∙ sym (kept_of-collected h c (DeathPost c a)))
  where
    after : ℕ × Submission → Option Answer
    after call = or_else (first_answer h c call) (answer_in h c call.0 call.1.actor (DeathPost c a))

    table : map (answer_after_death a) (zip (calls_of c h) (kept_of c h)) ≡ map
        (λ (call : ℕ × Submission). or_else (first_answer h c call) (answer_in h c call.0 call.1.actor (DeathPost c a))) (enumerate_from 0 (calls_of c h))
    table = table_is (map (answer_after_death a) (zip (calls_of c h) (kept_of c h))) (calls_of c h)
        (λ (call : ℕ × Submission). or_else (first_answer h c call) (answer_in h c call.0 call.1.actor (DeathPost c a)))
        (length-map (zip (calls_of c h) (kept_of c h)) (answer_after_death a) ∙ length-zip_same (calls_of c h) (kept_of c h) (kept_size c h))
        (λ j x e. slice_get-map (answer_after_death a) (zip (calls_of c h) (kept_of c h)) j ∙ ap (λ o. option_map (answer_after_death a) o)
        (zip_at (calls_of c h) (kept_of c h) j x e (kept_there h c j x e)) ∙ ap (λ o. Some o) (one_death h c a j x (first_answer h c (j, x))))

-- who knows of which death
death_known : (h : History) (c a b : ℕ) (owner : OwnerView) → IsOwnerOf h c owner → knows_dead (with_death owner a) a ≡ true →
    knows_dead (with_death owner a) b ≡ list_any (is_death_to c b) (h.collected ++ DeathPost c a ∷ [])
death_known h c a b owner is known = elim (eqb_tells a b) [
  | inl t ↦ subst (λ x. knows_dead (with_death owner a) x ≡ list_any (is_death_to c x) (h.collected ++ DeathPost c a ∷ [])) t.1 (known ∙ sym itself)
  | inr f ↦ ap (λ o. unwrap_or o false) (get_set-other owner.dead a b true f.1) ∙ is.deaths b ∙ sym (other f.0)
]
  where
    mine : (c == c) ≡ true
    mine = eq-eqb c c refl

    itself : list_any (is_death_to c a) (h.collected ++ DeathPost c a ∷ []) ≡ true
    itself = let same : (a == a) ≡ true = eq-eqb a a refl in
        list_any-append (is_death_to c a) h.collected (DeathPost c a ∷ []) ∙ rw (mine, same) (or-true (list_any (is_death_to c a) h.collected))

    other : (a == b) ≡ false → list_any (is_death_to c b) (h.collected ++ DeathPost c a ∷ []) ≡ list_any (is_death_to c b) h.collected
    other apart = list_any-append (is_death_to c b) h.collected (DeathPost c a ∷ []) ∙ rw (mine, apart) (or-false (list_any (is_death_to c b) h.collected))

bereaved : (h : History) (c a : ℕ) (owner : OwnerView) → IsOwnerOf h c owner → knows_dead (with_death owner a) a ≡ true →
    IsOwnerOf (heard h (DeathPost c a)) c (with_death owner a)
bereaved h c a owner is known = record {
  id = is.id;
  copies = is.copies;
  limits = is.limits;
  given = is.given;
  calls = is.calls;
  marks = is.marks;
  sent = λ k. is.sent k ∙ same_sent k (slice_get (calls_of c h) k);
  kept = death_table h c a is;
  deaths = λ b. death_known h c a b owner is known;
}
  where
    same_sent : (k : ℕ) (call : Option Submission) → was_sent c k call h ≡ was_sent c k call (heard h (DeathPost c a))
    same_sent k None = refl
    same_sent k (Some call) = refl

-- ---- what is asked of each notice

pub death_collects : (h : History) (network : NetworkView) (slots : List SlotView) (j c a : ℕ) → IsLawful h →
    Refines h (record { network = network; slots = slots }) → slice_get h.posts j ≡ Some (DeathPost c a) →
    Collects h network slots j (record { caller = c; notice = Death a })
death_collects h network slots j c a lawful refines at place owner new told sees told_is new_is known =
    finish h j (DeathPost c a) told (record { network = record network { owners = slice_set network.owners place new }; slots = slots }) at
    (told_is ∙ told_death ∙ ap (λ n. Ok (DidDie n)) (unanswered_is h c a owner is))
    (heard_ties h slots (DeathPost c a) new lawful (heard_grows h j at) refines sees
    (subst (IsOwnerOf (heard h (DeathPost c a)) c) (sym there) (bereaved h c a owner is (subst (λ o. knows_dead o a ≡ true) there (known listed)))))
  where
    is : IsOwnerOf h c owner
    is = (seen_owner h slots c refines sees).1

    listed : is_some (copies_in a owner.handles) ≡ true
    listed = is_named h c a owner is ∙ All_at (IsNamedPost h) h.posts j lawful.named.posts at

    there : new ≡ with_death owner a
    there = new_is ∙ rw listed refl

    told_death : told_collected c (collect_result owner (Death a)) ≡ Ok (DidDie (count_by (call_waits_for a) (zip owner.calls owner.kept)))
    told_death = rw listed refl
