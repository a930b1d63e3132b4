-- The reply of a call that ran.
use Rattle.act_world.proofs.Common.{◌≡◌, ℕ, length, Some, ap, sym, ◌∙◌, slice_get, option_map, option_and_then, Packet, Reply, Answered, RunItem, Answer}
use Rattle.act_world.proofs.Common.{after_item, answer_at, state_after, ActorSpec, History, runs_of, answer_of, slice_get_last, answer_at-push, ActorView}
use Rattle.act_world.proofs.Common.{item_of, reply_of_run, MailedNotice, reply_as, reply_at, posted_notice, IsLive, ReplyPost, ran_on}
use Rattle.act_world.proofs.RanOn.{runs_here}

-- what the reply tells stands in the history after the run
pub reply_posted : (h : History) (a c : ℕ) (packet : Packet) (live : ActorView) → IsLive h a live → packet.caller ≡ c → posted_notice
    (ran_on h a c (item_of packet)) (ReplyPost c a (length (runs_of a h))) ≡ Some (record { caller = c; notice = Answered (reply_of_run live packet) })
reply_posted h a c packet live is mine =
    ap (option_map post) (
    ap (reply_at g c a place) (ap (λ items. slice_get items place) (runs_here h a c item) ∙ slice_get_last (runs_of a h) item)
    ∙ ap (option_map (reply_as c a place item)) answered
    ∙ ap (λ r. Some r) same)
  where
    item : RunItem
    item = item_of packet

    g : History
    g = ran_on h a c item

    place : ℕ
    place = length (runs_of a h)

    post : Reply → MailedNotice
    post reply = record { caller = c; notice = Answered reply }

    answer : Answer
    answer = (after_item (state_after is.cast.opening (runs_of a h)) (item_of packet)).1

    answered : answer_of a place g ≡ Some answer
    answered =
        ap (λ o. option_and_then (λ state. answer_at state (runs_of a g) place) (option_map (λ (cast : ActorSpec). cast.opening) o)) is.cast_is
        ∙ ap (λ items. answer_at is.cast.opening items place) (runs_here h a c item)
        ∙ answer_at-push is.cast.opening (runs_of a h) item

    same : reply_as c a place item answer ≡ reply_of_run live packet
    same =
        ap (λ x. record { actor = x; caller = c; future = packet.future; place = place; answer = answer }) (sym is.id)
        ∙ ap (λ x. record { actor = live.id; caller = x; future = packet.future; place = place; answer = answer }) (sym mine)
        ∙ ap (λ items. record { actor = live.id; caller = packet.caller; future = packet.future; place = length items; answer = answer }) (sym is.log)
        ∙ ap (λ state.
        record { actor = live.id; caller = packet.caller; future = packet.future; place = length live.log; answer = (after_item state (item_of packet)).1 })
        (sym is.state)
