-- The answer of a call that was sent is kept.
use Rattle.example_uses.proofs.Common.{◌≡◌, ◌∷◌, [], Some, false, refl, ap, ◌∙◌, KindState, Answer, Value, Method, Good, Packet, Reply, Answered, RunItem}
use Rattle.example_uses.proofs.Common.{after_item, item_of, kept_at, OwnerView, after_collect, is_death, answer_alive, alive_is, asking_owner, question}
use Rattle.example_uses.proofs.Common.{step_of_question}

-- no kind answers that the actor died
answers_alive : (state : KindState) (method : Method) (value : Value) → is_death (step_of_question state method value).1 ≡ false
answers_alive state method value =
    let item : RunItem = record { caller = 1; number = 0; future = 0; method = method; args = Good value ∷ [] } in
    alive_is (after_item state item).1 (answer_alive state (item ∷ []) 0 {answer = (after_item state item).1} refl)

-- the first reply of an actor in this state
abbrev pub reply_for : KindState → Packet → Reply
reply_for state packet = record { actor = 1; caller = 1; future = packet.future; place = 0; answer = (after_item state (item_of packet)).1 }

first : (method : Method) (value : Value) (answer : Answer) → is_death answer ≡ false → kept_at
    (after_collect (asking_owner method value) (Answered (record { actor = 1; caller = 1; future = 0; place = 0; answer = answer }))).kept 0 ≡ Some answer
first method value answer alive = rw alive refl

pub heard : (old new : OwnerView) (packet : Packet) (reply : Reply) (state : KindState) (method : Method) (value : Value) → old ≡ asking_owner method value →
    packet ≡ question method value → reply ≡ reply_for state packet → new ≡ after_collect old (Answered reply) →
    kept_at new.kept 0 ≡ Some (step_of_question state method value).1
heard old new packet reply state method value sent carried told after =
    ap (λ (owner : OwnerView). kept_at owner.kept 0) (after ∙ ap (λ owner. after_collect owner (Answered reply)) sent ∙
    ap (λ r. after_collect (asking_owner method value) (Answered r)) (told ∙ ap (reply_for state) carried))
    ∙ first method value (step_of_question state method value).1 (answers_alive state method value)
