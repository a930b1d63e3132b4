-- What the threads leave, and the audits, fit one another.
use Rattle.act_executor.proofs.Common.{◌≡◌, ◌≢◌, ℕ, true, false, Bool, List, ◌++◌, length, Some, None, refl, ap, sym, ◌∙◌, subst, Option, ◌==◌, map, find}
use Rattle.act_executor.proofs.Common.{slice_get, slice_index_or, option_map, Err, Contains, IsTrue, list_all, range_with_len, eq-eqb, eqb-true, ActorDied}
use Rattle.act_executor.proofs.Common.{Packet, Notice, Answered, Death, RunItem, Submission, Step, Answer, items_of, kept_at, is_known, settle, number_of}
use Rattle.act_executor.proofs.Common.{IsCallToDead, ActorSpec, contains, opening, opening_of, actors_naming, find-map, IsReplied, IsBereft, IsToldBy}
use Rattle.act_executor.proofs.Common.{is_death-only, MailView, caller_of, ControlView, RepliesView, ReplyExecView, notice_actor, Letter, Call, Endpoint}
use Rattle.act_executor.proofs.Common.{packet_of_item, EndView, end_id, end_log, replies_to, deaths, caller_at, IsLogOf, Driven, IsSent, HasPosted, cast_at}
use Rattle.act_executor.proofs.Common.{plan_of, owner_of, end_of, is_starved, calls_of_owner, kept_of_owner, log_of_end, is_killed_end, calls_in, kept_in}
use Rattle.act_executor.proofs.Common.{log_in, killed_in, ServedView, IsServed, IsDriven, AreAudited, AreJoined, OwnerView, packet_of_call, is_known_call}
use Rattle.act_executor.proofs.Common.{is_to, is_death, IsIn, in_from_contains, all_in, in_filter, in_front, found_is, contains_is, is_contained}
use Rattle.act_executor.proofs.EndsOfRuns.Found.{naming, IsCast, same_cast, planned_known, driven_named, served_cast, cast_served}
use Rattle.act_executor.proofs.EndsOfRuns.Given.{reply_given, death_given}
use Rattle.act_executor.proofs.EndsOfRuns.Consistency.{IsSentItem, IsRunAnswer, IsFit}

-- ---- threads by number

-- what the caller of this number left, if its thread is among these
abbrev pub driven_of : ℕ → List Driven → Option Driven
driven_of c driven = find (λ d. d.owner.id == c) driven

-- what the actor of this number left, if its thread is among these
abbrev pub served_of : ℕ → List ServedView → Option ServedView
served_of a served = find (λ s. end_id s.end == a) served

-- what holds where nothing is found, and of what is found
of_found : {X Y : Type 0} (f : X → Y) (P : Option Y → Type 0) (found : Option X) → (found ≡ None → P None) → ((x : X) → found ≡ Some x → P (Some (f x))) →
    P (option_map f found)
of_found f P None none some = none refl
of_found f P (Some x) none some = some x refl

-- ---- what a sent packet says

sent_item : (owner : OwnerView) (a : ℕ) (item : RunItem) → IsSent owner a (Call (packet_of_item a item)) →
    IsSentItem (λ c. owner.calls) (λ c. owner.kept) a item
sent_item owner a item sent = go (slice_get owner.calls item.future) refl sent.0 sent.1
  where
    go : (o : Option Submission) → slice_get owner.calls item.future ≡ o → option_map (packet_of_call owner item.future) o ≡ Some (packet_of_item a item) →
        is_known_call owner o ≡ true → IsSentItem (λ c. owner.calls) (λ c. owner.kept) a item
    go None at e known = cc
    go (Some call) at e known =
        let same : packet_of_call owner item.future call ≡ packet_of_item a item = cc in
        let actor : call.actor ≡ a = ap (λ (p : Packet). p.actor) same in
        record {
          call = call;
          at = at;
          actor = actor;
          number = sym (ap (λ (p : Packet). p.number) same) ∙ ap (λ b. number_of b item.future owner.calls) actor;
          method = sym (ap (λ (p : Packet). p.method) same);
          known = known;
          args = sym (ap (λ (p : Packet). p.args) same);
        }

-- ---- what an answer says that a caller keeps

-- the call that a notice names
to_call : (a : ℕ) (o : Option Submission) → is_to a o ≡ true → (call : Submission) × (o ≡ Some call) × (call.actor ≡ a)
to_call a None e = cc
to_call a (Some call) e = (call, refl, eqb-true call.actor a e)

-- an answer other than a death is that of a reply
alive_told : (owner : OwnerView) (notices : List Notice) (k : ℕ) (answer : Answer) → answer ≢ Err ActorDied →
    IsToldBy (is_death answer) owner notices k answer → IsReplied owner notices k answer
alive_told owner notices k answer alive told = go (is_death answer) refl told
  where
    go : (b : Bool) → is_death answer ≡ b → IsToldBy b owner notices k answer → IsReplied owner notices k answer
    go true is told = absurd (alive (is_death-only answer is))
    go false is told = told

-- what was given at an endpoint, said of the endpoint's caller and the cast's actor
pub given_to : {replies : List RepliesView} {cast : ActorSpec} (a c : ℕ) (s : ServedView) (endpoint : Endpoint ReplyExecView) → IsServed replies cast s →
    cast.actor ≡ a → Contains s.passes.notices.items endpoint → caller_at replies endpoint.place ≡ c →
    endpoint.pass.given ≡ replies_to cast.opening a (end_log s.end) c ++ deaths a s.end
given_to {replies} {cast} a c s endpoint serving actor sits line =
    let items = s.passes.notices.items in
    let due = all_in (λ (x : Endpoint ReplyExecView). x.pass.given ≡ replies_to cast.opening cast.actor (end_log s.end)
    (caller_at replies x.place) ++ deaths cast.actor s.end) serving.given (in_from_contains items endpoint sits) in
    subst (λ b. endpoint.pass.given ≡ replies_to cast.opening b (end_log s.end) c ++ deaths b s.end) actor
    (subst (λ b. endpoint.pass.given ≡ replies_to cast.opening cast.actor (end_log s.end) b ++ deaths cast.actor s.end) line due)

module _ {mails : List MailView} {controls : List ControlView} {replies : List RepliesView} {casts : List ActorSpec} {plans : List (ℕ × List Step)}
    {driven : List Driven} {served : List ServedView} (j : AreJoined mails controls replies casts plans driven served) where
  abbrev owners : List OwnerView
  owners = map (λ (d : Driven). d.owner) driven

  abbrev ends : List EndView
  ends = map (λ (s : ServedView). s.end) served

  -- ---- look-ups

  -- the owner found under a caller's number is that of its thread, and none where no thread is found
  pub owner_is : (c : ℕ) (o : Option Driven) → driven_of c driven ≡ o → owner_of c owners ≡ option_map (λ (d : Driven). d.owner) o
  owner_is c o e = find-map (λ (owner : OwnerView). owner.id == c) (λ (d : Driven). d.owner) driven ∙ ap (option_map (λ (d : Driven). d.owner)) e

  -- the end found under an actor's number is that of its thread, and none where no thread is found
  pub end_is : (a : ℕ) {o : Option ServedView} → served_of a served ≡ o → end_of a ends ≡ option_map (λ (s : ServedView). s.end) o
  end_is a e = find-map (λ end. end_id end == a) (λ (s : ServedView). s.end) served ∙ ap (option_map (λ (s : ServedView). s.end)) e

  -- what holds of the owner found under a number, and of none where none is found
  pub of_owner : (P : Option OwnerView → Type 0) (c : ℕ) → (driven_of c driven ≡ None → P None) →
      ((d : Driven) → driven_of c driven ≡ Some d → P (Some d.owner)) → P (owner_of c owners)
  of_owner P c none some = subst P (sym (owner_is c (driven_of c driven) refl)) (of_found (λ (d : Driven). d.owner) P (driven_of c driven) none some)

  -- and of the end
  pub of_end : (P : Option EndView → Type 0) (a : ℕ) → (served_of a served ≡ None → P None) →
      ((s : ServedView) → served_of a served ≡ Some s → P (Some s.end)) → P (end_of a ends)
  of_end P a none some = subst P (sym (end_is a {o = served_of a served} refl)) (of_found (λ (s : ServedView). s.end) P (served_of a served) none some)

  -- an actor's thread, with its cast
  pub record Thread (a : ℕ) (s : ServedView) : Type 0 where
    pub inside : IsIn served s
    pub id : end_id s.end ≡ a
    pub cast : IsCast casts a
    pub serving : IsServed replies cast.cast s

  -- a thread that served the actor of a number is that actor's thread, with its cast
  pub thread_in : (a : ℕ) (s : ServedView) → IsIn served s → end_id s.end ≡ a → Thread a s
  thread_in a s i id =
      let cast = cast_served j a i.place s i.at id in
      let serving = all_in (λ (x : ServedView). (cast : ActorSpec) → cast_at (end_id x.end) casts ≡ Some cast →
      IsServed replies cast x) j.all_served i cast.cast (subst (λ n. cast_at n casts ≡ Some cast.cast) (sym id) cast.at) in
      record { inside = i; id = id; cast = cast; serving = serving }

  -- the thread that is found under an actor's number is that actor's, with its cast
  pub thread : (a : ℕ) (s : ServedView) → served_of a served ≡ Some s → Thread a s
  thread a s e = let is = found_is (λ (x : ServedView). end_id x.end == a) served e in thread_in a s is.inside (eqb-true (end_id s.end) a is.passes)

  -- a caller's thread
  pub record Driver (c : ℕ) (d : Driven) : Type 0 where
    pub inside : IsIn driven d
    pub id : d.owner.id ≡ c
    pub driving : IsDriven mails controls (actors_naming c casts) (plan_of c plans) d

  -- the thread that is found under a caller's number is that caller's, and did its plan to the end
  pub driver : (c : ℕ) (d : Driven) → driven_of c driven ≡ Some d → Driver c d
  driver c d e =
      let is = found_is (λ (x : Driven). x.owner.id == c) driven e in let id = eqb-true d.owner.id c is.passes in
      let driving = all_in (λ (x : Driven). IsDriven mails controls (actors_naming x.owner.id casts) (plan_of x.owner.id plans) x) j.all_driven is.inside in
      record { inside = is.inside; id = id; driving = subst (λ n. IsDriven mails controls (actors_naming n casts) (plan_of n plans) d) id driving }

  -- the audits of a pair
  pub audit_of : {a c : ℕ} {s : ServedView} {d : Driven} → (t : Thread a s) → IsIn t.cast.cast.callers c → driven_of c driven ≡ Some d →
      AreAudited mails controls replies a c d s
  audit_of {c} {s} {d} t names f =
      let r = driver c d f in let cast = t.cast.cast in
      let audit = j.audited r.inside.place t.inside.place d s cast r.inside.at t.inside.at (subst (λ n. cast_at n casts ≡ Some cast) (sym t.id) t.cast.at)
      (subst (λ n. contains n cast.callers ≡ true) (sym r.id) (is_contained c cast.callers names)) in
      subst (λ n. AreAudited mails controls replies n c d s) t.id (subst (λ n. AreAudited mails controls replies (end_id s.end) n d s) r.id audit)

  -- ---- an item is a call as it was sent

  -- a letter taken of a caller of the cast is one that it sent
  pub letter_sent : (a : ℕ) (s : ServedView) (d : Driven) {letter : Letter} → (t : Thread a s) → IsIn t.cast.cast.callers (caller_of letter) →
      driven_of (caller_of letter) driven ≡ Some d → IsIn s.passes.letters.taken letter → IsSent d.owner a letter
  letter_sent a s d {letter} t names f taken =
      let c = caller_of letter in let audit = (audit_of t names f).letters in let mine = in_filter (λ l. caller_of l == c) taken (eq-eqb c c refl) in
      let put = in_front audit.endpoint.pass.put audit.front mine in
      let line : MailView = record { line = audit.endpoint.pass.line; actor = a } in
      let posted = all_in (HasPosted mails d.owner) (driver c d f).driving.letters (in_from_contains d.passes.letters.items audit.endpoint audit.sits) line in
      let sent = all_in (IsSent d.owner (slice_index_or mails audit.endpoint.place line).actor) posted.0 put in
      subst (λ n. IsSent d.owner n letter) (audit.line line) sent

  -- the log of a thread, for its actor
  pub log_is : (a : ℕ) (s : ServedView) → (t : Thread a s) → IsLogOf a t.serving.callers s.passes.letters.taken (end_log s.end)
  log_is a s t = subst (λ n. IsLogOf n t.serving.callers s.passes.letters.taken (end_log s.end)) t.cast.actor t.serving.log

  -- a caller that the thread lists is one of the cast
  pub listed_named : (a c : ℕ) (s : ServedView) → (t : Thread a s) → contains c t.serving.callers ≡ true → IsIn t.cast.cast.callers c
  listed_named a c s t listed = contains_is c t.cast.cast.callers (sym (t.serving.same_callers c) ∙ listed)

  pub item_sent : (a p : ℕ) (item : RunItem) (s : ServedView) → Thread a s → slice_get (end_log s.end) p ≡ Some item →
      IsSentItem (calls_in owners) (kept_in owners) a item
  item_sent a p item s t at =
      let here : IsIn (end_log s.end) item = record { place = p; at = at } in let log = log_is a s t in
      let names = listed_named a item.caller s t (all_in (λ (i : RunItem). contains i.caller t.serving.callers ≡ true) log.listed here) in
      let taken = in_from_contains s.passes.letters.taken (Call (packet_of_item a item))
      (all_in (λ i. Contains s.passes.letters.taken (Call (packet_of_item a i))) log.taken here) in
      let found = driven_named j t.cast.inside names in let d = found.one in
      let sent = sent_item d.owner a item (letter_sent a s d t names found.is taken) in
      let owner : owner_of item.caller owners ≡ Some d.owner = owner_is item.caller (Some d) found.is in
      record {
        call = sent.call;
        at = subst (λ o. slice_get (calls_of_owner o) item.future ≡ Some sent.call) (sym owner) sent.at;
        actor = sent.actor;
        number = subst (λ o. item.number ≡ number_of a item.future (calls_of_owner o)) (sym owner) sent.number;
        method = sent.method;
        known = subst (λ o. IsTrue (list_all (is_known (kept_of_owner o)) sent.call.args)) (sym owner) sent.known;
        args = subst (λ o. item.args ≡ map (settle (kept_of_owner o)) sent.call.args) (sym owner) sent.args;
      }

  items_sent : (a p : ℕ) (item : RunItem) → slice_get (log_in ends a) p ≡ Some item → IsSentItem (calls_in owners) (kept_in owners) a item
  items_sent a p item = of_end (λ x. slice_get (log_of_end x) p ≡ Some item → IsSentItem (calls_in owners) (kept_in owners) a item) a (λ e at. cc)
      (λ s e at. item_sent a p item s (thread a s e) at)

  in_turn : (a c : ℕ) → map (λ item. item.number) (items_of c (log_in ends a)) ≡ range_with_len 0 (length (items_of c (log_in ends a)))
  in_turn a c = of_end (λ x. map (λ (item : RunItem). item.number) (items_of c (log_of_end x)) ≡ range_with_len 0 (length (items_of c (log_of_end x)))) a
      (λ e. refl) (λ s e. (thread a s e).serving.log.numbered c)

  -- ---- a kept answer

  -- a notice that a caller collected of an actor that names it was given by that actor
  record IsGivenBy (c a : ℕ) (notice : Notice) : Type 0 where
    pub s : ServedView
    pub is : served_of a served ≡ Some s
    pub thread : Thread a s
    pub given : IsIn (replies_to thread.cast.cast.opening a (end_log s.end) c ++ deaths a s.end) notice

  pub given_in : (c a : ℕ) (d : Driven) (notice : Notice) (s : ServedView) → (t : Thread a s) → IsIn t.cast.cast.callers c → driven_of c driven ≡ Some d →
      notice_actor notice ≡ a → IsIn d.passes.collects.taken notice → IsIn (replies_to t.cast.cast.opening a (end_log s.end) c ++ deaths a s.end) notice
  given_in c a d notice s t names f actor got =
      let audit = (audit_of t names f).notices in
      let mine = in_filter (λ x. notice_actor x == a) got (eq-eqb (notice_actor notice) a actor) in
      let put = in_front audit.endpoint.pass.given audit.front mine in
      let list = given_to a c s audit.endpoint t.serving t.cast.actor audit.sits audit.line in subst (λ l. IsIn l notice) list put

  given_by : (c a : ℕ) (d : Driven) {notice : Notice} → driven_of c driven ≡ Some d → IsIn (actors_naming c casts) a → notice_actor notice ≡ a →
      IsIn d.passes.collects.taken notice → IsGivenBy c a notice
  given_by c a d {notice} f names actor got =
      let n = naming casts c a j.casts_are names in let found = served_cast j a n.inside n.actor in let t = thread a found.one found.is in
      let listed = subst (λ (x : ActorSpec). IsIn x.callers c) (same_cast t.cast n.at) n.names in
      record { s = found.one; is = found.is; thread = t; given = given_in c a d notice found.one t listed f actor got }

  -- the actor of a call names its caller
  known_actor : (c : ℕ) (d : Driven) (k : ℕ) {call : Submission} → driven_of c driven ≡ Some d → slice_get d.owner.calls k ≡ Some call →
      IsIn (actors_naming c casts) call.actor
  known_actor c d k {call} f at =
      planned_known (actors_naming c casts) (plan_of c plans) k (subst (λ calls. slice_get calls k ≡ Some call) (driver c d f).driving.calls at)

  replied : (c k : ℕ) (answer : Answer) (d : Driven) → driven_of c driven ≡ Some d → IsReplied d.owner d.passes.collects.taken k answer →
      IsRunAnswer (λ a. opening_of a (opening casts)) (log_in ends) c k answer
  replied c k answer d f r =
      let a = r.reply.actor in let call = to_call a (slice_get d.owner.calls k) r.actor in
      let names = subst (IsIn (actors_naming c casts)) call.2 (known_actor c d k f call.1) in
      let g = given_by c a d f names refl (in_from_contains d.passes.collects.taken (Answered r.reply) r.heard) in
      let of = reply_given g.thread.cast.cast.opening a c g.s.end g.given in let end : end_of a ends ≡ Some g.s.end = end_is a g.is in
      let log : log_in ends a ≡ end_log g.s.end = ap log_of_end end in
      let start : opening_of a (opening casts) ≡ Some g.thread.cast.cast.opening = ap (option_map (λ (x : ActorSpec). x.opening)) g.thread.cast.at in
      subst (IsRunAnswer (λ b. opening_of b (opening casts)) (log_in ends) c k) r.answer_is (record {
        actor = a;
        place = r.reply.place;
        item = of.item;
        at = rw log of.at;
        caller = of.of_caller;
        future = sym of.names.2 ∙ r.future;
        answered = rw (start, log) of.answered;
      })

  answers_run : (c k : ℕ) (answer : Answer) → kept_at (kept_in owners c) k ≡ Some answer → answer ≢ Err ActorDied →
      IsRunAnswer (λ a. opening_of a (opening casts)) (log_in ends) c k answer
  answers_run c k answer e alive =
      of_owner (λ x. kept_at (kept_of_owner x) k ≡ Some answer → IsRunAnswer (λ a. opening_of a (opening casts)) (log_in ends) c k answer) c (λ f e. cc)
      (λ d f e. replied c k answer d f (alive_told d.owner d.passes.collects.taken k answer alive ((driver c d f).driving.hears.answers k answer e))) e

  bereft : (c k : ℕ) (d : Driven) → driven_of c driven ≡ Some d → IsBereft d.owner d.passes.collects.taken k →
      IsCallToDead (calls_in owners) (killed_in ends) c k
  bereft c k d f r =
      let a = r.actor in let call = to_call a (slice_get d.owner.calls k) r.to in
      let names = subst (IsIn (actors_naming c casts)) call.2 (known_actor c d k f call.1) in
      let g = given_by c a d f names refl (in_from_contains d.passes.collects.taken (Death a) r.heard) in
      let killed = death_given g.thread.cast.cast.opening a c a g.s.end g.given (all_in (λ (x : ServedView). is_starved x.end ≡ false) j.fed g.thread.inside) in
      let owner : owner_of c owners ≡ Some d.owner = owner_is c (Some d) f in
      let end : end_of call.0.actor ends ≡ Some g.s.end = subst (λ b. end_of b ends ≡ Some g.s.end) (sym call.2) (end_is a g.is) in
      record {
        call = call.0;
        at = subst (λ o. slice_get (calls_of_owner o) k ≡ Some call.0) (sym owner) call.1;
        dead = subst (λ o. is_killed_end o ≡ true) (sym end) killed;
      }

  deaths_run : (c k : ℕ) → kept_at (kept_in owners c) k ≡ Some (Err ActorDied) → IsCallToDead (calls_in owners) (killed_in ends) c k
  deaths_run c k =
      of_owner (λ x. kept_at (kept_of_owner x) k ≡ Some (Err ActorDied) → IsCallToDead (calls_in owners) (killed_in ends) c k) c (λ f e. cc)
      (λ d f e. bereft c k d f ((driver c d f).driving.hears.answers k (Err ActorDied) e))

  pub all_fit : IsFit (λ a. opening_of a (opening casts)) (calls_in owners) (log_in ends) (kept_in owners) (killed_in ends)
  all_fit = record { sent = items_sent; in_turn = in_turn; answers = answers_run; deaths = deaths_run }
