-- Where a letter stands that was posted.
use Rattle.act_drive.proofs.Common.{◌≡◌, ◌≢◌, ℕ, zero, suc, ◌<◌, List, [], ◌∷◌, ◌++◌, length, map, get_or, Some, sym, ◌∙◌, ap, subst, arith, All, AllPairs}
use Rattle.act_drive.proofs.Common.{Contains, inl, inr, eqb_tells, leb_tells, get_or-map, length-map, All-contains, All-nil, All-cons, All-head, All-tail}
use Rattle.act_drive.proofs.Common.{All-append, All-weaker, Contains-append_cases, AllPairs-cons, Packet, ReleaseNote, OwnerView, packet_at, PutterView, Letter}
use Rattle.act_drive.proofs.Common.{Call, Note, Endpoint, MailView, actor_of_letter, futures_in, AreTwo, bare_post, IsSent, HasPosted, AreDistinct}
use Rattle.act_drive.proofs.Common.{IsPostedOnce, posted_in, LettersStandAtTheirEndpoints}

-- the letter stands at an endpoint
endpoint_of : (endpoints : List (Endpoint (PutterView Letter Unit))) (letter : Letter) → Contains (posted_in endpoints) letter →
    (k : ℕ) × (k < length endpoints) × ((s : Endpoint (PutterView Letter Unit)) → Contains (get_or endpoints k s).pass.put letter)
endpoint_of [] letter here = absurd (let below = here.1 in omega (arith, below))
endpoint_of (endpoint ∷ endpoints) letter here = elim (Contains-append_cases endpoint.pass.put (posted_in endpoints) letter here) [
  | inl first ↦ (zero, omega arith, λ s. first)
  | inr later ↦ let found = endpoint_of endpoints letter later in let below = found.1 in (suc found.0, omega (arith, below), λ s. found.2 s)
]

sent_to : (owner : OwnerView) (a : ℕ) (letter : Letter) → IsSent owner a letter → actor_of_letter letter ≡ a
sent_to owner a (Call packet) is = is.2
sent_to owner a (Note note) is = ap (λ (n : ReleaseNote). n.actor) is.0

pub letters_stand_at_their_endpoints : LettersStandAtTheirEndpoints
letters_stand_at_their_endpoints mails owner endpoints letter distinct posted here k s below d there =
    let found = endpoint_of endpoints letter here in let j = found.0 in let inside = found.1 in
    let same : (get_or mails (get_or endpoints j s).place d).actor ≡ (get_or mails (get_or endpoints k s).place d).actor =
    sym (sent_to owner _ letter (All-contains (IsSent owner (get_or mails (get_or endpoints j s).place d).actor) (get_or endpoints j s).pass.put letter
    (posted j s inside d).0 (found.2 s))) ∙ sym there in
    elim (eqb_tells j k) [
      | inl t ↦ subst (λ n. Contains (get_or endpoints n s).pass.put letter) t.1 (found.2 s)
      | inr f ↦ let apart = f.1 in absurd (elim (leb_tells (suc j) k) [
        | inl t ↦ distinct j k s t.1 below d same
        | inr g ↦ let over = g.1 in distinct k j s (omega (arith, over, apart)) inside d (sym same)
      ])
    ]

-- ---- no letter is posted twice

abbrev LetterEndpoint : Type 0
LetterEndpoint = Endpoint (PutterView Letter Unit)

-- the endpoints are at the same lines
pub distinct_stays : (mails : List MailView) (old new : List LetterEndpoint) → map bare_post new ≡ map bare_post old → AreDistinct mails old →
    AreDistinct mails new
distinct_stays mails old new same distinct i j d lt below =
    let long : length new ≡ length old = sym (length-map new bare_post) ∙ ap (λ l. length l) same ∙ length-map old bare_post in
    let place : (k : ℕ) → k < length new → (get_or new k d).place ≡ (get_or old k d).place = λ k inside.
    ap (λ (s : LetterEndpoint). s.place) (sym (get_or-map bare_post new k d (bare_post d) inside) ∙ ap (λ l. get_or l k (bare_post d)) same ∙
    get_or-map bare_post old k d (bare_post d) (omega (arith, inside, long))) in
    λ m same_actor. distinct i j d lt (omega (arith, below, long)) m
    (ap (λ n. (get_or mails n m).actor) (sym (place i (omega (arith, lt, below)))) ∙ same_actor ∙ ap (λ n. (get_or mails n m).actor) (place j below))

-- letters to two actors are two
letters_apart : (owner : OwnerView) (a b : ℕ) (one other : Letter) → a ≢ b → IsSent owner a one → IsSent owner b other → AreTwo one other
letters_apart owner a b (Call one) (Call other) apart mine its = λ same.
    let packets : Some one ≡ Some other = sym mine.0 ∙ ap (packet_at owner) same ∙ its.0 in
    let packet : one ≡ other = cc packets in apart (sym mine.2 ∙ ap (λ (p : Packet). p.actor) packet ∙ its.2)
letters_apart owner a b (Call one) (Note other) apart mine its = tt
letters_apart owner a b (Note one) (Call other) apart mine its = tt
letters_apart owner a b (Note one) (Note other) apart mine its = λ same. apart (sym (sent_to owner a (Note one) mine) ∙ same ∙ sent_to owner b (Note other) its)

pairs_append : (xs ys : List Letter) → AllPairs AreTwo xs → AllPairs AreTwo ys → All (λ x. All (AreTwo x) ys) xs → AllPairs AreTwo (xs ++ ys)
pairs_append [] ys first second apart = second
pairs_append (x ∷ xs) ys first second apart =
    let later : All (AreTwo x) xs = λ k d below. first 0 (suc k) d (omega arith) (omega (arith, below)) in
    let rest : AllPairs AreTwo xs = λ i j d lt below. first (suc i) (suc j) d (omega (arith, lt)) (omega (arith, below)) in
    AllPairs-cons AreTwo x (xs ++ ys) (All-append (AreTwo x) xs ys later (All-head (λ l. All (AreTwo l) ys) x xs apart))
    (pairs_append xs ys rest second (All-tail (λ l. All (AreTwo l) ys) x xs apart))

-- what was posted at the other endpoints goes to other actors
others_apart : (mails : List MailView) (owner : OwnerView) (a : ℕ) (d : MailView) (endpoints : List LetterEndpoint) (letter : Letter) → IsSent owner a letter →
    All (λ (s : LetterEndpoint). a ≢ (get_or mails s.place d).actor) endpoints → All (HasPosted mails owner) endpoints →
    All (AreTwo letter) (posted_in endpoints)
others_apart mails owner a d [] letter mine apart posted = All-nil (AreTwo letter)
others_apart mails owner a d (endpoint ∷ endpoints) letter mine apart posted =
    let here = All-head (λ (s : LetterEndpoint). a ≢ (get_or mails s.place d).actor) endpoint endpoints apart in
    let these = All-head (HasPosted mails owner) endpoint endpoints posted in
    let b = (get_or mails endpoint.place d).actor in
    let first : All (AreTwo letter) endpoint.pass.put =
    All-weaker (IsSent owner b) (AreTwo letter) (λ other its. letters_apart owner a b letter other here mine its) endpoint.pass.put (these d).0 in
    All-append (AreTwo letter) endpoint.pass.put (posted_in endpoints) first (others_apart mails owner a d endpoints letter mine (All-tail
    (λ (s : LetterEndpoint). a ≢ (get_or mails s.place d).actor) endpoint endpoints apart) (All-tail (HasPosted mails owner) endpoint endpoints posted))

once_at : (mails : List MailView) (owner : OwnerView) (d : MailView) (endpoints : List LetterEndpoint) → AreDistinct mails endpoints →
    All (HasPosted mails owner) endpoints → IsPostedOnce endpoints
once_at mails owner d [] distinct posted = λ i j e lt below. absurd (omega (arith, below))
once_at mails owner d (endpoint ∷ endpoints) distinct posted =
    let a = (get_or mails endpoint.place d).actor in
    let apart : All (λ (s : LetterEndpoint). a ≢ (get_or mails s.place d).actor) endpoints =
    λ k e below. distinct 0 (suc k) e (omega arith) (omega (arith, below)) d in
    let rest : AreDistinct mails endpoints = λ i j e lt below. distinct (suc i) (suc j) e (omega (arith, lt)) (omega (arith, below)) in
    let these = All-head (HasPosted mails owner) endpoint endpoints posted in
    let others = All-tail (HasPosted mails owner) endpoint endpoints posted in
    let crossing : All (λ letter. All (AreTwo letter) (posted_in endpoints)) endpoint.pass.put = All-weaker (IsSent owner a) (λ letter. All (AreTwo letter)
    (posted_in endpoints)) (λ letter mine. others_apart mails owner a d endpoints letter mine apart others) endpoint.pass.put (these d).0 in
    pairs_append endpoint.pass.put (posted_in endpoints) (these d).1 (once_at mails owner d endpoints rest others) crossing

pub posted_once : (mails : List MailView) (owner : OwnerView) (endpoints : List LetterEndpoint) → AreDistinct mails endpoints →
    All (HasPosted mails owner) endpoints → IsPostedOnce endpoints
posted_once mails owner [] distinct posted = λ i j e lt below. absurd (omega (arith, below))
posted_once mails owner (endpoint ∷ endpoints) distinct posted =
    once_at mails owner (record { line = endpoint.pass.line; actor = 0 }) (endpoint ∷ endpoints) distinct posted

-- letters that are two by two carry futures that differ
pub futures_differ : (letters : List Letter) → AllPairs AreTwo letters → AllPairs (λ one other. one ≢ other) (futures_in letters)
futures_differ [] two = λ i j e lt below. absurd (omega (arith, below))
futures_differ (letter ∷ letters) two = go letter (λ k e below. two 0 (suc k) e (omega arith) (omega (arith, below)))
    (futures_differ letters (λ i j e lt below. two (suc i) (suc j) e (omega (arith, lt)) (omega (arith, below))))
  where
    others : (packet : Packet) (later : List Letter) → All (AreTwo (Call packet)) later → All (λ k. packet.future ≢ k) (futures_in later)
    others packet [] apart = All-nil (λ k. packet.future ≢ k)
    others packet (Call other ∷ later) apart = All-cons (λ k. packet.future ≢ k) other.future (futures_in later)
        (All-head (AreTwo (Call packet)) (Call other) later apart) (others packet later (All-tail (AreTwo (Call packet)) (Call other) later apart))
    others packet (Note note ∷ later) apart = others packet later (All-tail (AreTwo (Call packet)) (Note note) later apart)

    go : (first : Letter) → All (AreTwo first) letters → AllPairs (λ one other. one ≢ other) (futures_in letters) →
        AllPairs (λ one other. one ≢ other) (futures_in (first ∷ letters))
    go (Call packet) apart rest = AllPairs-cons (λ one other. one ≢ other) packet.future (futures_in letters) (others packet letters apart) rest
    go (Note note) apart rest = rest
