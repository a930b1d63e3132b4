-- Handles that are let go.
use Rattle.act_drive.proofs.Common.{◌≡◌, ℕ, ◌+◌, ◌-◌, ◌<◌, ◌≤◌, List, length, Option, Some, None, is_some, get_or, refl, sym, ◌∙◌, ap, subst, arith, All, take}
use Rattle.act_drive.proofs.Common.{inl, inr, option_map, take_more, eqb_tells, All-push, All-weaker, copies_held, copies_in, without_copy, Handle}
use Rattle.act_drive.proofs.Common.{copies-without_copy, copies-without_copy-other, OwnerView, with_handles, MailView, Driver, CallerPasses, Waits}
use Rattle.act_drive.proofs.Common.{OnlyReleases}
use Rattle.act_drive.proofs.Drivers.{stays_same, stays_trans}
use Rattle.act_handles.proofs.Copies.{held_less}

-- a caller that only lets handles go, and then again, does only that in all
pub winds_trans : (one two three : Driver) → OnlyReleases one two → OnlyReleases two three → OnlyReleases one three
winds_trans one two three a b = record {
  stay = stays_trans a.stay b.stay;
  calls = b.calls ∙ a.calls;
  kills = b.kills ∙ a.kills;
  heard = λ notice has. b.heard notice (a.heard notice has);
  handles = λ n. ((b.handles n).0 ∙ (a.handles n).0, omega (arith, (b.handles n).1, (a.handles n).1));
}

-- handles that stay
same_handles : {one two : List Handle} (a : ℕ) → two ≡ one →
    (is_some (copies_in a two) ≡ is_some (copies_in a one)) × (copies_held (copies_in a two) ≤ copies_held (copies_in a one))
same_handles {one} {two} a same =
    let held : copies_held (copies_in a two) ≡ copies_held (copies_in a one) = ap (λ h. copies_held (copies_in a h)) same in
    (ap (λ h. is_some (copies_in a h)) same, omega (arith, held))

less_copies : (copies : Option ℕ) →
    (is_some (option_map (λ n. n - 1) copies) ≡ is_some copies) × (copies_held (option_map (λ n. n - 1) copies) ≤ copies_held copies)
less_copies None = (refl, omega arith)
less_copies (Some n) = (refl, omega arith)

less_handles : (handles : List Handle) (a b : ℕ) → (is_some (copies_in b (without_copy a handles)) ≡ is_some (copies_in b handles)) ×
    (copies_held (copies_in b (without_copy a handles)) ≤ copies_held (copies_in b handles))
less_handles handles a b =
    elim (eqb_tells a b) [
      | inl t ↦ subst (λ n. (is_some (copies_in n (without_copy a handles)) ≡ is_some (copies_in n handles)) × (copies_held
          (copies_in n (without_copy a handles)) ≤ copies_held (copies_in n handles))) t.1 (subst (λ o. (is_some o ≡ is_some (copies_in a handles)) ×
          (copies_held o ≤ copies_held (copies_in a handles))) (sym (copies-without_copy a handles)) (less_copies (copies_in a handles)))
      | inr f ↦
          let same : copies_in b (without_copy a handles) ≡ copies_in b handles = copies-without_copy-other a b handles f.1 in
          let held : copies_held (copies_in b (without_copy a handles)) ≡ copies_held (copies_in b handles) = ap copies_held same in
          (ap (λ o. is_some o) same, omega (arith, held))
    ]

pub released_winds : {old between : Driver} (new : Driver) (a : ℕ) → Waits old between →
    new.owner ≡ with_handles between.owner (without_copy a between.owner.handles) → new.passes ≡ between.passes → OnlyReleases old new
released_winds {old} {between} new a waits is passes = record {
  stay = stays_trans waits.stay
      (stays_same between new (ap (λ (o : OwnerView). o.id) is) (ap (λ (o : OwnerView). o.kept) is) (ap (λ (o : OwnerView). o.limits) is) passes);
  calls = ap (λ (o : OwnerView). o.calls) is ∙ waits.calls;
  kills = ap (λ (p : CallerPasses). p.kills.items) passes ∙ waits.kills;
  heard = λ notice has. rw passes (waits.heard notice has);
  handles = λ b.
      let less = less_handles between.owner.handles a b in let now = same_handles b waits.handles in rw is (less.0 ∙ now.0, omega (arith, less.1, now.1));
}

-- one copy less
pub one_gone : (handles : List Handle) (a : ℕ) → copies_held (copies_in a (without_copy a handles)) ≡ copies_held (copies_in a handles) - 1
one_gone handles a = ap copies_held (copies-without_copy a handles) ∙ held_less (copies_in a handles)

-- no copy is left of one actor more
pub none_more : (mails : List MailView) {i : ℕ} (a : ℕ) {old new : Driver} → i < length mails → ((d : MailView) → (get_or mails i d).actor ≡ a) →
    OnlyReleases old new → copies_held (copies_in a new.owner.handles) ≡ 0 → All (λ mail. copies_held (copies_in mail.actor old.owner.handles) ≡ 0)
    (take i mails) → All (λ mail. copies_held (copies_in mail.actor new.owner.handles) ≡ 0) (take (i + 1) mails)
none_more mails {i} a {old} {new} long here only_releases none before k d below =
    let P : MailView → Type 0 = λ mail. copies_held (copies_in mail.actor new.owner.handles) ≡ 0 in
    let was : All P (take i mails) = All-weaker (λ mail. copies_held (copies_in mail.actor old.owner.handles) ≡ 0) P
    (λ mail is. let less = (only_releases.handles mail.actor).1 in omega (arith, less, is)) (take i mails) before in
    subst (λ l. All P l) (sym (take_more mails i d long))
    (All-push P (take i mails) (get_or mails i d) was (ap (λ n. copies_held (copies_in n new.owner.handles)) (here d) ∙ none)) k d below
