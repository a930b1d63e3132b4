-- A run that meets all premises and ends by a kill: the call was posted and never taken.
use Rattle.act_executor.proofs.Common.{◌≡◌, ℕ, zero, suc, ◌<◌, true, false, List, [], ◌∷◌, ◌++◌, Some, inl, refl, subst, arith, is_some, Err, Contains, pos}
use Rattle.act_executor.proofs.Common.{Global, All-nil, TableId, CounterAt, ActorDied, Notice, Death, RunItem, Step, Answer, kept_at, ActorSpec, contains}
use Rattle.act_executor.proofs.Common.{actors_naming, OwnerView, is_death, is_known_dead, IsToldBy, asker_of, starter, ReplyExecView, Asked, Letter, Call}
use Rattle.act_executor.proofs.Common.{Endpoint, packet_of_item, Killed, end_id, replies_to, deaths, caller_at, Driven, HasPosted, HasAsked, IsSent, AreTwo}
use Rattle.act_executor.proofs.Common.{limits_naming, cast_at, plan_of, is_starved, ServedView, IsServed, IsDriven, AreAudited, AreJoined, Ptr, items_put}
use Rattle.act_executor.proofs.Common.{all_one}
use Rattle.act_types.specs.declared.call.Method.TheVariants as method
use Rattle.act_rules.specs.declared.script.Step.TheVariants as step
use Rattle.act_executor.proofs.EndsOfRuns.Example.{one_at, only, casts, casts_are, mails, controls, replies, letter_endpoint, kill_endpoint}
use Rattle.act_executor.proofs.EndsOfRuns.Example.{notice_endpoint, call, item}
use Rattle.act_executor.proofs.Lists.Cuts.{pairs_one}

abbrev letters : List Letter
letters = Call (packet_of_item 1 item) ∷ []

abbrev notices : List Notice
notices = Death 1 ∷ []

abbrev kills : List Asked
kills = record { asker = 1; note = record { caller = 1; actor = 1 } } ∷ []

abbrev owner : OwnerView
owner = record {
  id = 1;
  handles = record { actor = 1; copies = 1; given = 1 } ∷ [];
  calls = call ∷ [];
  sent = true ∷ [];
  kept = Some (Err ActorDied) ∷ [];
  dead = false ∷ true ∷ [];
  limits = (1, Some 2) ∷ [];
}

abbrev plan : List Step
plan = step.Submit 1 method.Get [] ∷ step.Kill 1 ∷ []

abbrev plans : List (ℕ × List Step)
plans = (1, plan) ∷ []

module _ (mail control reply : TableId) (ptr : Ptr) (alloc : Global) where
  abbrev d : Driven
  d = record {
    owner = owner;
    starved = false;
    passes = record {
      letters = only ptr alloc (letter_endpoint mail letters);
      kills = only ptr alloc (kill_endpoint control kills);
      collects = record { line = reply; putters = 1 ∷ []; taken = notices; stamps = []; label = [] };
    };
  }

  abbrev s : ServedView
  s = record {
    end = Killed (record { id = 1; log = [] });
    passes = record {
      letters = record { line = mail; putters = 1 ∷ []; taken = []; stamps = []; label = [] };
      kills = record { line = control; actor = 1; askers = starter ∷ 1 ∷ []; taken = kills; stamps = []; lengths = 0 ∷ []; looked = 1 };
      notices = only ptr alloc (notice_endpoint reply [] notices);
    };
  }

  serves : (cast : ActorSpec) → cast_at 1 casts ≡ Some cast → IsServed (replies reply) cast s
  serves cast e = subst (λ x. IsServed (replies reply) x s) (one_at _ cast 0 e) (record {
    callers = 1 ∷ [];
    same_callers = λ c. refl;
    endpoints = refl;
    log = record {
      taken = All-nil (λ i. Contains {X = Letter} [] (Call (packet_of_item 1 i)));
      listed = All-nil (λ (i : RunItem). contains i.caller (1 ∷ []) ≡ true);
      numbered = λ c. refl;
    };
    last = λ place ends. cc;
    given = all_one (λ (endpoint : Endpoint ReplyExecView). endpoint.pass.given ≡ replies_to (CounterAt (pos 0)) 1 []
        (caller_at (replies reply) endpoint.place) ++ deaths 1 s.end) _ refl;
    kills = (_, refl, (1, omega arith, refl), refl);
    askers = refl;
    drained = tt;
  })

  drives : IsDriven (mails mail) (controls control) (1 ∷ []) plan d
  drives = record {
    letters = all_one (HasPosted (mails mail) owner) _ (λ m. (all_one (IsSent owner 1) _ (refl, refl, refl), pairs_one AreTwo (Call (packet_of_item 1 item))));
    hears = record { answers = answers; deaths = dies };
    calls = refl;
    answered = answered;
    kills = all_one (HasAsked (controls control) plan notices) _ (λ m. inl refl);
  }
    where
      answers : (k : ℕ) (x : Answer) → kept_at owner.kept k ≡ Some x → IsToldBy (is_death x) owner notices k x
      answers zero x e =
          let same : Err ActorDied ≡ x = cc in
          subst (λ y. IsToldBy (is_death y) owner notices 0 y) same (record { actor = 1; heard = (0, omega arith, refl); to = refl })
      answers (suc k) x e = cc

      dies : (a : ℕ) → is_known_dead owner a ≡ true → Contains notices (Death a)
      dies zero e = cc
      dies (suc zero) e = (0, omega arith, refl)
      dies (suc (suc a)) e = cc

      answered : (k : ℕ) → k < 1 → is_some (kept_at owner.kept k) ≡ true
      answered zero below = refl
      answered (suc k) below = absurd (omega arith)

  audits : AreAudited (mails mail) (controls control) (replies reply) 1 1 d s
  audits = record {
    letters =
        record { endpoint = letter_endpoint mail letters; sits = (0, omega arith, refl); line = λ m. refl; front = (letters, refl); stamped = ([], refl) };
    kills = record { endpoint = kill_endpoint control kills; sits = (0, omega arith, refl); line = λ k. refl; front = ([], refl); stamped = ([], refl) };
    notices = record { endpoint = notice_endpoint reply [] notices; sits = (0, omega arith, refl); line = refl; front = ([], refl); stamped = ([], refl) };
  }

  pub example : AreJoined (mails mail) (controls control) (replies reply) casts plans (d ∷ []) (s ∷ [])
  example = record {
    casts_are = casts_are;
    callers = refl;
    actors = refl;
    all_served = all_one (λ (x : ServedView). (cast : ActorSpec) → cast_at (end_id x.end) casts ≡ Some cast → IsServed (replies reply) cast x) s serves;
    all_driven = all_one (λ (x : Driven). IsDriven (mails mail) (controls control) (actors_naming x.owner.id casts) (plan_of x.owner.id plans) x) d drives;
    limits = all_one (λ (x : Driven). x.owner.limits ≡ limits_naming x.owner.id casts) d refl;
    audited = λ i k x y cast at at' of names. subst (λ (z : Driven). AreAudited (mails mail) (controls control) (replies reply) (end_id y.end) z.owner.id z y)
        (one_at d x i at)
        (subst (λ (z : ServedView). AreAudited (mails mail) (controls control) (replies reply) (end_id z.end) 1 d z) (one_at s y k at') audits);
    starter = all_one (λ (x : ServedView). items_put asker_of starter x.passes.kills.taken ≡ []) s refl;
    fed = all_one (λ (x : ServedView). is_starved x.end ≡ false) s refl;
  }
