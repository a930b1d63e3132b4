-- Who did an action.
use Rattle.act_causes.proofs.Common.{◌≡◌, ◌≢◌, true, false, cond, List, ◌∷◌, ◌⊎◌, Option, Some, None, inl, inr, refl, ap, ◌∙◌, eq-eqb, eqb_tells, sym, zero}
use Rattle.act_causes.proofs.Common.{suc, arith, cons_option, Contains, contains_tail, Site, Caller, Actor, Action, is_site, action_at, actions_of, []}

pub same_site : (site : Site) → is_site site site ≡ true
same_site (Caller c) = eq-eqb c c refl
same_site (Actor a) = eq-eqb a a refl

pub site_tells : (one other : Site) → ((is_site one other ≡ true) × (one ≡ other)) ⊎ ((is_site one other ≡ false) × (one ≢ other))
site_tells (Caller c) (Caller d) = elim (eqb_tells c d) [ inl t ↦ inl (t.0, ap Caller t.1) | inr f ↦ inr (f.0, λ same. f.1 cc) ]
site_tells (Actor a) (Actor b) = elim (eqb_tells a b) [ inl t ↦ inl (t.0, ap Actor t.1) | inr f ↦ inr (f.0, λ same. f.1 cc) ]
site_tells (Caller c) (Actor b) = inr (refl, λ same. cc)
site_tells (Actor a) (Caller d) = inr (refl, λ same. cc)

-- the action of a deed at its own site
pub action_here : (site : Site) (action : Action) → action_at site (site, action) ≡ Some action
action_here site action = ap (λ b. cond b (Some action) None) (same_site site)

-- no other site has it
pub action_elsewhere : (site other : Site) (action : Action) → other ≢ site → action_at site (other, action) ≡ None
action_elsewhere site other action apart = elim (site_tells other site) [
  | inl t ↦ absurd (apart t.1)
  | inr f ↦ ap (λ b. cond b (Some action) None) f.0
]

pub deed_is : (site : Site) (deed : Site × Action) (action : Action) → action_at site deed ≡ Some action → deed ≡ (site, action)
deed_is site (other, one) action e = elim (site_tells other site) [
  | inl t ↦
      let same : Some one ≡ Some action = ap (λ b. cond b (Some one) None) (sym t.0) ∙ e in
      let is : one ≡ action = cc in ap (λ s. (s, one)) t.1 ∙ ap (λ x. (site, x)) is
  | inr f ↦ let none : None ≡ Some action = ap (λ b. cond b (Some one) None) (sym f.0) ∙ e in cc
]

-- what somebody did stands among the deeds
pub deed_of : (site : Site) (deeds : List (Site × Action)) (action : Action) → Contains (actions_of site deeds) action → Contains deeds (site, action)
deed_of site [] action has = absurd (let below = has.1 in omega arith)
deed_of site (deed ∷ deeds) action has = go (action_at site deed) refl (deed_of site deeds action) has
  where
    go : (o : Option Action) → action_at site deed ≡ o → (Contains (actions_of site deeds) action → Contains deeds (site, action)) →
        Contains (cons_option o (actions_of site deeds)) action → Contains (deed ∷ deeds) (site, action)
    go None e rest has = contains_tail deed (site, action) deeds (rest has)
    go (Some x) e rest (zero, below, is) = (zero, omega arith, deed_is site deed action (e ∙ ap (λ y. Some y) is))
    go (Some x) e rest (suc i, below, is) = contains_tail deed (site, action) deeds (rest (i, omega arith, is))
