-- What stays while notices are taken.
use Rattle.act_code_ends.proofs.Common.{◌≡◌, ℕ, List, length, is_some, refl, ◌∙◌, ap, subst, kept_at, Step, Arg, Method, Notice, copies_in, copies-with_number}
use Rattle.act_code_ends.proofs.Common.{OwnerView, after_collect, with_submission, Noticed, Submitted, step, KeptOn, SessionView, session_view, IsLater}
use Rattle.act_code_ends.proofs.Common.{Submits, hears_trans, later_trans, notice_keeps, OnlyTakes}

-- what is seen of a caller, by the kills that it asked and the steps that it did
abbrev pub seen_of : OwnerView → List ℕ → List Step → SessionView
seen_of owner kills did = record (session_view owner) { kills = kills; did = did }

pub places_heard : (owner : OwnerView) (notice : Notice) → length owner.kept ≡ length owner.calls
    → length (after_collect owner notice).kept ≡ length (after_collect owner notice).calls
places_heard owner notice places = (step owner (Noticed notice) places).places

pub takes_more : (old mid new : SessionView) → OnlyTakes old mid → OnlyTakes mid new → OnlyTakes old new
takes_more old mid new before after = record { hears = hears_trans before.hears after.hears; on = later_trans before.on after.on; did = after.did ∙ before.did }

kept_stays : (owner : OwnerView) (notice : Notice) → length owner.kept ≡ length owner.calls → KeptOn owner.kept (after_collect owner notice).kept
kept_stays owner notice places k answer has = (step owner (Noticed notice) places).kept k (ap is_some has) ∙ has

-- a notice more
pub takes_one : (owner : OwnerView) (notice : Notice) (kills : List ℕ) (did : List Step) → length owner.kept ≡ length owner.calls
    → OnlyTakes (seen_of owner kills did) (seen_of (after_collect owner notice) kills did)
takes_one owner notice kills did places =
    let keeps = notice_keeps owner notice in
    record {
      hears = record { calls = keeps.1; handles = keeps.2; kills = refl };
      on = record { limits = keeps.3; kept = kept_stays owner notice places };
      did = refl;
    }

-- ---- a call more

-- the caller as it was seen, with a call more and other steps
pub submits_seen : {old : SessionView} (mid : SessionView) (owner : OwnerView) (a : ℕ) (method : Method) (args : List Arg) (kills : List ℕ)
    (did steps : List Step) → seen_of owner kills did ≡ old → mid ≡ seen_of (with_submission owner a method args) kills did →
    Submits (record { actor = a; method = method; args = args }) old (record mid { did = steps })
submits_seen mid owner a method args kills did steps is same =
    subst (λ s. Submits (record { actor = a; method = method; args = args }) s (record mid { did = steps })) is (record {
      calls = ap (λ (s : SessionView). s.calls) same;
      copies = λ b. ap (λ (s : SessionView). copies_in b s.handles) same ∙ copies-with_number a b owner.handles;
      kills = ap (λ (s : SessionView). s.kills) same;
    })

pub later_seen : {old : SessionView} (mid : SessionView) (owner : OwnerView) (a : ℕ) (method : Method) (args : List Arg) (kills : List ℕ)
    (did steps : List Step) → length owner.kept ≡ length owner.calls → seen_of owner kills did ≡ old →
    mid ≡ seen_of (with_submission owner a method args) kills did → IsLater old (record mid { did = steps })
later_seen mid owner a method args kills did steps places is same =
    subst (λ s. IsLater s (record mid { did = steps })) is (record {
      limits = ap (λ (s : SessionView). s.limits) same;
      kept = λ k answer has. ap (λ (s : SessionView). kept_at s.kept k) same ∙ (step owner (Submitted a method args) places).kept k (ap is_some has) ∙ has;
    })
