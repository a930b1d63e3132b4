-- A run that meets all premises: one counter, one caller, one call; the actor retired.
use Rattle.act_executor.proofs.Common.{◌≡◌, ◌≢◌, ℕ, zero, suc, ◌<◌, Bool, true, false, cond, List, [], ◌∷◌, ◌++◌, length, Some, inl, refl, subst, arith, ◌==◌}
use Rattle.act_executor.proofs.Common.{slice_get, map, is_some, Ok, All, AllPairs, Contains, pos, range_with_len, Vec, Global, AllPairs-cons, TableId}
use Rattle.act_executor.proofs.Common.{CounterAt, MAX_ACTORS, MAX_CALLERS, Notice, Answered, RunItem, Submission, Step, Answer, items_of, NothingFollowsAnEnd}
use Rattle.act_executor.proofs.Common.{kept_at, one_to, ActorSpec, contains, actors_naming, All-two, OwnerView, is_death, IsToldBy, MailView, ControlView}
use Rattle.act_executor.proofs.Common.{asker_of, starter, RepliesView, ReplyExecView, PutterView, Asked, Letter, Call, Note, Endpoint, packet_of_item, Retired}
use Rattle.act_executor.proofs.Common.{end_id, first_note, replies_to, deaths, caller_at, Driven, HasPosted, HasAsked, IsSent, AreTwo, limits_naming, cast_at}
use Rattle.act_executor.proofs.Common.{plan_of, is_starved, ServedView, IsServed, IsDriven, AreAudited, AreCasts, AreJoined, Ptr, items_put, contains_is}
use Rattle.act_executor.proofs.Common.{all_one}
use Rattle.act_types.specs.declared.call.Value.TheVariants as value
use Rattle.act_types.specs.declared.call.Method.TheVariants as method
use Rattle.act_rules.specs.declared.script.Step.TheVariants as step
use Rattle.act_executor.proofs.Lists.Cuts.{pairs_one}

-- ---- lists of one

pub one_at : {A : Type 0} (x y : A) (k : ℕ) → slice_get (x ∷ []) k ≡ Some y → x ≡ y
one_at x y zero e = cc
one_at x y (suc k) e = cc

-- only the first caller is named
pub is_one : (c : ℕ) → contains c (1 ∷ []) ≡ true → 1 ≡ c
is_one c names = let named = contains_is c (1 ∷ []) names in one_at 1 c named.place named.at

-- a `Vec` of one element
abbrev pub only : {A : Type 0} → Ptr → Global → A → Vec A
only ptr alloc x = record { ptr = ptr; len = 1; cap = 1; alloc = alloc; items = x ∷ []; ok = (refl, omega arith); small = omega arith }

-- ---- the cast and the lines

abbrev pub casts : List ActorSpec
casts = record { actor = 1; callers = 1 ∷ []; opening = CounterAt (pos 0); pending = Some 2 } ∷ []

pub casts_are : AreCasts casts
casts_are = record {
  differ = pairs_one (λ (one other : ActorSpec). one.actor ≢ other.actor) _;
  actors = all_one (λ (cast : ActorSpec). Contains (one_to MAX_ACTORS) cast.actor) _ (0, omega arith, refl);
  callers = all_one (λ (cast : ActorSpec). All (λ c. Contains (one_to MAX_CALLERS) c) cast.callers)
      _ (all_one (λ c. Contains (one_to MAX_CALLERS) c) 1 (0, omega arith, refl));
}

abbrev pub mails : TableId → List MailView
mails line = record { line = line; actor = 1 } ∷ []

abbrev pub controls : TableId → List ControlView
controls line = record { line = line; actor = 1 } ∷ []

abbrev pub replies : TableId → List RepliesView
replies line = record { line = line; caller = 1 } ∷ []

-- the passes of the caller and of the actor
abbrev pub letter_endpoint : TableId → List Letter → Endpoint (PutterView Letter Unit)
letter_endpoint line letters = record { place = 0; pass = record { line = line; number = 1; put = letters; stamps = []; label = [] } }

abbrev pub kill_endpoint : TableId → List Asked → Endpoint (PutterView Asked ℕ)
kill_endpoint line kills = record { place = 0; pass = record { line = line; number = 1; put = kills; stamps = []; label = [] } }

abbrev pub notice_endpoint : TableId → List RunItem → List Notice → Endpoint ReplyExecView
notice_endpoint line log notices = record { place = 0; pass = record { line = line; actor = 1; given = notices; stamps = []; seen = log } }

abbrev pub call : Submission
call = record { actor = 1; method = method.Get; args = [] }

abbrev pub item : RunItem
item = record { caller = 1; number = 0; future = 0; method = method.Get; args = [] }

-- ---- what was done

abbrev sent : Letter
sent = Call (packet_of_item 1 item)

abbrev noted : Letter
noted = Note (record { caller = 1; actor = 1; after = 1 })

abbrev letters : List Letter
letters = sent ∷ noted ∷ []

abbrev answer : Answer
answer = Ok (value.Int (pos 0))

abbrev notices : List Notice
notices = Answered (record { actor = 1; caller = 1; future = 0; place = 0; answer = answer }) ∷ []

abbrev owner : OwnerView
owner = record {
  id = 1;
  handles = record { actor = 1; copies = 0; given = 1 } ∷ [];
  calls = call ∷ [];
  sent = true ∷ [];
  kept = Some answer ∷ [];
  dead = [];
  limits = (1, Some 2) ∷ [];
}

abbrev plan : List Step
plan = step.Submit 1 method.Get [] ∷ []

abbrev plans : List (ℕ × List Step)
plans = (1, plan) ∷ []

abbrev log : List RunItem
log = item ∷ []

module _ (mail control reply : TableId) (ptr : Ptr) (alloc : Global) where
  abbrev d : Driven
  d = record {
    owner = owner;
    starved = false;
    passes = record {
      letters = only ptr alloc (letter_endpoint mail letters);
      kills = only ptr alloc (kill_endpoint control []);
      collects = record { line = reply; putters = 1 ∷ []; taken = notices; stamps = []; label = [] };
    };
  }

  abbrev s : ServedView
  s = record {
    end = Retired (record { id = 1; log = log; state = CounterAt (pos 0) });
    passes = record {
      letters = record { line = mail; putters = 1 ∷ []; taken = letters; stamps = []; label = [] };
      kills = record { line = control; actor = 1; askers = starter ∷ 1 ∷ []; taken = []; stamps = []; lengths = []; looked = 1 };
      notices = only ptr alloc (notice_endpoint reply log notices);
    };
  }

  serves : (cast : ActorSpec) → cast_at 1 casts ≡ Some cast → IsServed (replies reply) cast s
  serves cast e = subst (λ x. IsServed (replies reply) x s) (one_at _ cast 0 e) (record {
    callers = 1 ∷ [];
    same_callers = λ c. refl;
    endpoints = refl;
    log = record {
      taken = all_one (λ i. Contains letters (Call (packet_of_item 1 i))) item (0, omega arith, refl);
      listed = all_one (λ (i : RunItem). contains i.caller (1 ∷ []) ≡ true) item refl;
      numbered = λ c. turn (1 == c);
    };
    last = last;
    given = all_one (λ (endpoint : Endpoint ReplyExecView). endpoint.pass.given ≡ replies_to (CounterAt (pos 0)) 1 log
        (caller_at (replies reply) endpoint.place) ++ deaths 1 s.end) _ refl;
    kills = ((refl, refl), refl);
    askers = refl;
    drained = record { state = refl; notes = notes };
  })
    where
      turn : (b : Bool) → map (λ (i : RunItem). i.number) (cond b log []) ≡ range_with_len 0 (length (cond b log []))
      turn true = refl
      turn false = refl

      last : NothingFollowsAnEnd log
      last zero ends = cc
      last (suc place) ends = cc

      notes : (c : ℕ) → contains c (1 ∷ []) ≡ true → first_note 1 c letters ≡ Some (length (items_of c log))
      notes c names = subst (λ n. first_note 1 n letters ≡ Some (length (items_of n log))) (is_one c names) refl

  -- a call, and a note
  two_letters : AllPairs AreTwo letters
  two_letters = AllPairs-cons AreTwo sent (noted ∷ []) (all_one (AreTwo sent) noted tt) (pairs_one AreTwo noted)

  drives : IsDriven (mails mail) (controls control) (1 ∷ []) plan d
  drives = record {
    letters = all_one (HasPosted (mails mail) owner) _ (λ m. (All-two (IsSent owner 1) _ _ (refl, refl, refl) (refl, refl), two_letters));
    hears = record { answers = answers; deaths = λ a e. cc };
    calls = refl;
    answered = answered;
    kills = all_one (HasAsked (controls control) plan notices) _ (λ m. inl refl);
  }
    where
      answers : (k : ℕ) (x : Answer) → kept_at owner.kept k ≡ Some x → IsToldBy (is_death x) owner notices k x
      answers zero x e =
          let same : answer ≡ x = cc in
          subst (λ y. IsToldBy (is_death y) owner notices 0 y) same (record {
            reply = record { actor = 1; caller = 1; future = 0; place = 0; answer = answer };
            heard = (0, omega arith, refl);
            caller = refl;
            actor = refl;
            future = refl;
            answer_is = refl;
          })
      answers (suc k) x e = cc

      answered : (k : ℕ) → k < 1 → is_some (kept_at owner.kept k) ≡ true
      answered zero below = refl
      answered (suc k) below = absurd (omega arith)

  audits : AreAudited (mails mail) (controls control) (replies reply) 1 1 d s
  audits = record {
    letters = record { endpoint = letter_endpoint mail letters; sits = (0, omega arith, refl); line = λ m. refl; front = ([], refl); stamped = ([], refl) };
    kills = record { endpoint = kill_endpoint control []; sits = (0, omega arith, refl); line = λ k. refl; front = ([], refl); stamped = ([], refl) };
    notices = record { endpoint = notice_endpoint reply log notices; sits = (0, omega arith, refl); line = refl; front = ([], refl); stamped = ([], refl) };
  }

  pub example : AreJoined (mails mail) (controls control) (replies reply) casts plans (d ∷ []) (s ∷ [])
  example = record {
    casts_are = casts_are;
    callers = refl;
    actors = refl;
    all_served = all_one (λ (x : ServedView). (cast : ActorSpec) → cast_at (end_id x.end) casts ≡ Some cast → IsServed (replies reply) cast x) s serves;
    all_driven = all_one (λ (x : Driven). IsDriven (mails mail) (controls control) (actors_naming x.owner.id casts) (plan_of x.owner.id plans) x) d drives;
    limits = all_one (λ (x : Driven). x.owner.limits ≡ limits_naming x.owner.id casts) d refl;
    audited = λ i k x y cast at at' of names. subst (λ (z : Driven). AreAudited (mails mail) (controls control) (replies reply) (end_id y.end) z.owner.id z y)
        (one_at d x i at)
        (subst (λ (z : ServedView). AreAudited (mails mail) (controls control) (replies reply) (end_id z.end) 1 d z) (one_at s y k at') audits);
    starter = all_one (λ (x : ServedView). items_put asker_of starter x.passes.kills.taken ≡ []) s refl;
    fed = all_one (λ (x : ServedView). is_starved x.end ≡ false) s refl;
  }
