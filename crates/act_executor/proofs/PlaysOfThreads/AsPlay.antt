-- How actors ended, in a play and in threads.
use Rattle.act_executor.proofs.Common.{◌≡◌, true, false, true≢false, Bool, List, refl, ◌∙◌, Event, history, ActorSpec, History, opening, is_dead, is_retired}
use Rattle.act_executor.proofs.Common.{added_grows, after_all_keeps, EndView, Killed, Retired, Starved, end_id, is_starved, is_killed, HasEndedIn}

-- whether an actor retired
abbrev pub has_retired : EndView → Bool
has_retired (Retired retired) = true
has_retired end = false

-- no event changes the casts
pub casts_stay : (casts : List ActorSpec) (events : List Event) → (history casts events).casts ≡ casts
casts_stay casts events =
    after_all_keeps (λ (h : History). h.casts ≡ casts) (λ h event same accepted. (added_grows h event).casts ∙ same) (opening casts) events refl

-- one that was refused no memory ended as the history says
pub has_ended : (h : History) (end : EndView) → is_starved end ≡ false → is_dead (end_id end) h ≡ is_killed end → is_retired (end_id end) h ≡ has_retired end →
    HasEndedIn h end
has_ended h (Killed dead) fed died retired = died
has_ended h (Retired end) fed died retired = (died, retired)
has_ended h (Starved dead) fed died retired = absurd (true≢false fed)
