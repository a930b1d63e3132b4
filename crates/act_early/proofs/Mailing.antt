-- Each letter can be sent and delivered.
use Rattle.act_early.proofs.Common.{◌≡◌, ℕ, zero, suc, ◌<◌, ◌≤◌, Bool, true, false, List, [], ◌∷◌, ◌++◌, length, Option, Some, None, inl, inr, ◌⊎◌, refl, ap}
use Rattle.act_early.proofs.Common.{sym, ◌∙◌, subst, arith, ◌||◌, not, slice_get, option_map, is_some, AllByRecursion, list_all, cases_lt, slice_get_past}
use Rattle.act_early.proofs.Common.{Letter, Submission, Step, Submit, Answer, NoCaller, Sending, calls_to, kept_at, is_known, needs, send_refusal, ActorSpec}
use Rattle.act_early.proofs.Common.{History, under, is_caller, calls_of, copies_of, kept_of, is_ended, has_letter, refusal_of, add_event, and_also}
use Rattle.act_early.proofs.Common.{letter_actor, call_letter, was_sent, deliver_refusal, slice_get_last, added_grows, At, MayTake, with_event, Happens}
use Rattle.act_early.proofs.Common.{NoteLetter, named_among, has_front, has_last, letter_place, named_call, or_right}
use Rattle.act_rules.specs.declared.event.Event.TheVariants as event
use Rattle.act_early.proofs.Worlds.{world}
use Rattle.act_early.proofs.Quiesces.{Quiesces, quiesces_same, quiesces_trans, quiet_quiesces}
use Rattle.act_early.proofs.Listed.{all_callers, all_actors, IsOpen, IsWay, Comes, for_each, for_all}
use Rattle.act_early.proofs.Stepping.{IsStuck}
use Rattle.act_early.proofs.Closing.{IsClosed}
use Rattle.act_early.proofs.Notes.{notes_sent}

abbrev pub IsSent : At → ℕ → ℕ → Type 0
IsSent p c k = (call : Submission) → slice_get (calls_of c p.history) k ≡ Some call → kept_at (kept_of c p.history) k ≡ None → list_all (is_known
    (kept_of c p.history)) call.args ≡ true → is_ended call.actor p.history ≡ false → has_letter (call_letter c k call p.history) p.history.arrived ≡ true

abbrev pub IsNoted : At → ℕ → ℕ → Type 0
IsNoted p c a = copies_of c a p.history ≡ Some 0 → is_ended a p.history ≡ false
    → has_letter (NoteLetter c a (length (calls_to a (calls_of c p.history)))) p.history.arrived ≡ true

-- going on by letters alone
pub record MailsOn (specs : List ActorSpec) (plans : ℕ → List Step) (p q : At) : Type 0 where
  pub quiesces : Quiesces specs plans p q
  pub submitted : q.history.submitted ≡ p.history.submitted
  pub stuck : (c : ℕ) → IsStuck plans c p → IsStuck plans c q
  pub closed : (c a : ℕ) → IsClosed plans p c a → IsClosed plans q c a
  pub sent : (c k : ℕ) → IsSent p c k → IsSent q c k
  pub noted : (c a : ℕ) → IsNoted p c a → IsNoted q c a

pub mailing : (specs : List ActorSpec) (plans : ℕ → List Step) → IsWay specs plans (MailsOn specs plans)
mailing specs plans = record {
  stays = λ p begun. record {
    quiesces = quiesces_same begun.play begun.live;
    submitted = refl;
    stuck = λ c s. s;
    closed = λ c a x. x;
    sent = λ c k x. x;
    noted = λ c a x. x;
  };
  joins = λ p q r one two. record {
    quiesces = quiesces_trans one.quiesces two.quiesces;
    submitted = two.submitted ∙ one.submitted;
    stuck = λ c s. two.stuck c (one.stuck c s);
    closed = λ c a x. two.closed c a (one.closed c a x);
    sent = λ c k x. two.sent c k (one.sent c k x);
    noted = λ c a x. two.noted c a (one.noted c a x);
  };
  opens = λ p q s. record { play = s.quiesces.play; live = s.quiesces.live };
}

-- ---- one event

send_may : (d j c : ℕ) (step : Step) (h : History) → MayTake c step (add_event h (event.Send d j)) → MayTake c step h
send_may d j c (Submit a method args) h may = may
send_may d j c step h may = may

deliver_may : (i c : ℕ) (step : Step) (h : History) → MayTake c step (add_event h (event.Deliver i)) → MayTake c step h
deliver_may i c (Submit a method args) h may = may
deliver_may i c step h may = may

send_on : (specs : List ActorSpec) (plans : ℕ → List Step) (d j : ℕ) (p : At) → IsOpen specs plans p → refusal_of p.history (event.Send d j) ≡ None
    → MailsOn specs plans p (with_event (event.Send d j) p)
send_on specs plans d j p begun may = record {
  quiesces = quiet_quiesces (event.Send d j) begun.play begun.live refl refl (Happens p (event.Send d j) begun.play refl may);
  submitted = refl;
  stuck = λ c s. record { waits = λ step next may. s.waits step next (send_may d j c step p.history may); needs = λ a next named. s.needs a next named };
  closed = λ c a x. x;
  sent = λ c k x. x;
  noted = λ c a x. x;
}

deliver_on : (specs : List ActorSpec) (plans : ℕ → List Step) (i : ℕ) (p : At) → IsOpen specs plans p → refusal_of p.history (event.Deliver i) ≡ None
    → MailsOn specs plans p (with_event (event.Deliver i) p)
deliver_on specs plans i p begun may = record {
  quiesces = quiet_quiesces (event.Deliver i) begun.play begun.live refl refl (Happens p (event.Deliver i) begun.play refl may);
  submitted = refl;
  stuck = λ c s. record { waits = λ step next may. s.waits step next (deliver_may i c step p.history may); needs = λ a next named. s.needs a next named };
  closed = λ c a x. x;
  sent = λ c k x call at none known live. has_front (call_letter c k call p.history) p.history.arrived (add_event p.history (event.Deliver i)).arrived
      (added_grows p.history (event.Deliver i)).arrived (x call at none known live);
  noted = λ c a x gone live. has_front (NoteLetter c a (length (calls_to a (calls_of c p.history)))) p.history.arrived
      (add_event p.history (event.Deliver i)).arrived (added_grows p.history (event.Deliver i)).arrived (x gone live);
}

-- ---- one letter

-- a letter that was sent arrives, while its actor lives
arrives : (specs : List ActorSpec) (plans : ℕ → List Step) (letter : Letter) (i : ℕ) (p : At) → IsOpen specs plans p
    → slice_get p.history.mail i ≡ Some letter → is_ended (letter_actor letter) p.history ≡ false
    → MailsOn specs plans p (with_event (event.Deliver i) p) × (has_letter letter (with_event (event.Deliver i) p).history.arrived ≡ true)
arrives specs plans letter i p begun at live =
    let may : refusal_of p.history (event.Deliver i) ≡ None = ap (λ o. deliver_refusal o p.history) at ∙ rw live refl in
    (deliver_on specs plans i p begun may, ap (λ o. has_letter letter (and_also p.history.arrived o)) at ∙ has_last letter p.history.arrived)

note_one : (specs : List ActorSpec) (plans : ℕ → List Step) (p : At) → IsOpen specs plans p → (c a : ℕ) → Comes (MailsOn specs plans) (λ q. IsNoted q c a) p
note_one specs plans p begun c a = go (copies_of c a p.history) (is_ended a p.history) refl refl
  where
    Goal : Type 0
    Goal = Comes (MailsOn specs plans) (λ q. IsNoted q c a) p

    same : MailsOn specs plans p p
    same = (mailing specs plans).stays p begun

    go : (o : Option ℕ) (x : Bool) → copies_of c a p.history ≡ o → is_ended a p.history ≡ x → Goal
    go None x e is = (p, same, λ gone _. let bad : None ≡ Some 0 = sym e ∙ gone in cc)
    go (Some (suc n)) x e is = (p, same, λ gone _. let bad : Some (suc n) ≡ Some 0 = sym e ∙ gone in cc)
    go (Some zero) true e is = (p, same, λ _ live. let bad : true ≡ false = sym is ∙ live in cc)
    go (Some zero) false e is =
        let letter = NoteLetter c a (length (calls_to a (calls_of c p.history))) in
        let place = letter_place letter p.history.mail (notes_sent begun.play c a e) in
        let done = arrives specs plans letter place.0 p begun place.1 is in (with_event (event.Deliver place.0) p, done.0, λ _ _. done.1)

send_one : (specs : List ActorSpec) (plans : ℕ → List Step) (p : At) → IsOpen specs plans p → (c k : ℕ) → Comes (MailsOn specs plans) (λ q. IsSent q c k) p
send_one specs plans p begun c k = go (slice_get (calls_of c h) k) refl
  where
    h : History
    h = p.history

    Goal : Type 0
    Goal = Comes (MailsOn specs plans) (λ q. IsSent q c k) p

    same : MailsOn specs plans p p
    same = (mailing specs plans).stays p begun

    one : {call other : Submission} → slice_get (calls_of c h) k ≡ Some call → slice_get (calls_of c h) k ≡ Some other → other ≡ call
    one {call} {other} e f = let is : Some other ≡ Some call = sym f ∙ e in cc

    sends : (call : Submission) → slice_get (calls_of c h) k ≡ Some call → kept_at (kept_of c h) k ≡ None
        → list_all (is_known (kept_of c h)) call.args ≡ true → is_ended call.actor h ≡ false → Goal
    sends call at none known live =
        let allowed : (b sent : Bool) (o : Option Submission) (call : Submission) → b ≡ true → o ≡ Some call
        → list_all (is_known (kept_of c h)) call.args ≡ true
        → kept_at (kept_of c h) k ≡ None → needs b NoCaller (option_map Sending (send_refusal (kept_of c h) k sent o)) ≡ None =
        λ b sent o call caller at known none. let free : (sent || not (is_some (kept_at (kept_of c h) k))) ≡ true =
        or_right sent _ (ap (λ o. not (is_some o)) none) in
        rw (caller, at, known, free) refl in
        let caller : is_caller c h ≡ true = named_among c call.actor h.casts (named_call h c k (world specs plans p begun.play).retires.named at) in
        let letter = call_letter c k call h in
        let may : refusal_of h (event.Send c k) ≡ None =
        allowed (is_caller c h) (was_sent c k (slice_get (calls_of c h) k) h) (slice_get (calls_of c h) k) call caller at known none in
        let first = send_on specs plans c k p begun may in let q = with_event (event.Send c k) p in
        let mail : q.history.mail ≡ h.mail ++ letter ∷ [] =
        ap (λ o. and_also h.mail (option_map (λ call. call_letter c k call h) o)) at in
        let place : slice_get q.history.mail (length h.mail) ≡ Some letter =
        ap (λ l. slice_get l (length h.mail)) mail ∙ slice_get_last h.mail letter in
        let second = arrives specs plans letter (length h.mail) q ((mailing specs plans).opens p q first) place live in
        let r = with_event (event.Deliver (length h.mail)) q in (
          r,
          (mailing specs plans).joins p q r first second.0,
          λ other there _ _ _. subst (λ s. has_letter (call_letter c k s h) r.history.arrived ≡ true) (sym (one at there)) second.1,
        )

    known_or : (call : Submission) (x y : Bool) (o : Option Answer) → slice_get (calls_of c h) k ≡ Some call → kept_at (kept_of c h) k ≡ o
        → list_all (is_known (kept_of c h)) call.args ≡ x → is_ended call.actor h ≡ y → Goal
    known_or call x y (Some answer) at kept known ended = (p, same, λ other there none _ _. let bad : Some answer ≡ None = sym kept ∙ none in cc)
    known_or call false y None at kept known ended = (
      p,
      same,
      λ other there _ yes _. let bad : true ≡ false =
          sym (subst (λ (s : Submission). list_all (is_known (kept_of c h)) s.args ≡ true) (one at there) yes) ∙ known in cc,
    )
    known_or call true true None at kept known ended = (
      p,
      same,
      λ other there _ _ live. let bad : true ≡ false = sym ended ∙ subst (λ (s : Submission). is_ended s.actor h ≡ false) (one at there) live in cc,
    )
    known_or call true false None at kept known ended = sends call at kept known ended

    go : (o : Option Submission) → slice_get (calls_of c h) k ≡ o → Goal
    go None at = (p, same, λ other there _ _ _. let bad : Some other ≡ None = sym there ∙ at in cc)
    go (Some call) at = known_or call (list_all (is_known (kept_of c h)) call.args) (is_ended call.actor h) (kept_at (kept_of c h) k) at refl refl refl

-- ---- all letters

send_first : (specs : List ActorSpec) (plans : ℕ → List Step) (c n : ℕ) (p : At) → IsOpen specs plans p
    → Comes (MailsOn specs plans) (λ q. (k : ℕ) → k < n → IsSent q c k) p
send_first specs plans c zero p begun = (p, (mailing specs plans).stays p begun, λ k lt. absurd (omega arith))
send_first specs plans c (suc n) p begun =
    let before = send_first specs plans c n p begun in
    let last = send_one specs plans before.0 ((mailing specs plans).opens p before.0 before.1) c n in
    (last.0, (mailing specs plans).joins p before.0 last.0 before.1 last.1, λ k lt. go k (cases_lt k n) lt before.2 last.1 last.2)
  where
    go : {q r : At} (k : ℕ) → (k < n) ⊎ (n ≤ k) → k < suc n → ((k : ℕ) → k < n → IsSent q c k) → MailsOn specs plans q r → IsSent r c n → IsSent r c k
    go k (inl lt) _ before goes last = goes.sent c k (before k lt)
    go {r = r} k (inr ge) lt before goes last = let same : n ≡ k = omega arith in subst (λ m. IsSent r c m) same last

send_each : (specs : List ActorSpec) (plans : ℕ → List Step) (p : At) → IsOpen specs plans p → (c : ℕ)
    → Comes (MailsOn specs plans) (λ q. (k : ℕ) → IsSent q c k) p
send_each specs plans p begun c =
    let n = length (calls_of c p.history) in let all = send_first specs plans c n p begun in
    (all.0, all.1, λ k. go all.0 k all.1.submitted (cases_lt k n) all.2)
  where
    go : (q : At) (k : ℕ) → q.history.submitted ≡ p.history.submitted → (k < length (calls_of c p.history)) ⊎ (length (calls_of c p.history) ≤ k)
        → ((k : ℕ) → k < length (calls_of c p.history) → IsSent q c k) → IsSent q c k
    go q k same (inl lt) each = each k lt
    go q k same (inr ge) each = λ call at none known live.
        let gone : slice_get (calls_of c q.history) k ≡ None =
        ap (λ l. slice_get (under c l) k) same ∙ slice_get_past (calls_of c p.history) k ge in
        let bad : Some call ≡ None = sym at ∙ gone in cc

pub send_all : (specs : List ActorSpec) (plans : ℕ → List Step) (p : At) → IsOpen specs plans p
    → Comes (MailsOn specs plans) (λ q. AllByRecursion (λ c. (k : ℕ) → IsSent q c k) (all_callers specs)) p
send_all specs plans p begun = for_each (λ q c. (k : ℕ) → IsSent q c k) (mailing specs plans)
    (λ p q goes c each k. goes.sent c k (each k)) (send_each specs plans) (all_callers specs) p begun

pub note_all : (specs : List ActorSpec) (plans : ℕ → List Step) (p : At) → IsOpen specs plans p
    → Comes (MailsOn specs plans) (λ q. AllByRecursion (λ c. AllByRecursion (IsNoted q c) (all_actors specs)) (all_callers specs)) p
note_all specs plans p begun = for_all IsNoted (mailing specs plans) (λ p q goes c a x. goes.noted c a x)
    (note_one specs plans) (all_callers specs) (all_actors specs) p begun
