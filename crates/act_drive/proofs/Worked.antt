-- What a caller by code of its own leaves.
use Rattle.act_drive.proofs.Common.{◌≡◌, ℕ, Bool, true, false, List, None, refl, sym, ◌∙◌, ap, subst, All, Step, actors_in, CallerLines, Driver, Driven}
use Rattle.act_drive.proofs.Common.{IsCalling, Stays, FollowsSteps, HasDone, HasEndedAt, HasDriven, IsFreshCaller, SessionView, session_view, kills_of, IsLater}
use Rattle.act_drive.proofs.Common.{HasConcluded, HasRunCode, IsAtWork, HasDrivenCode, TracesClosing, TracesPlan}
use Rattle.act_drive.proofs.Drivers.{stays_trans}
use Rattle.act_drive.proofs.Done.{driven_of}
use Rattle.act_drive.proofs.Tracing.{fresh_tracing}

pub has_worked : {actors : List ℕ} (began : CallerLines → Driver → Type 0) {lines inner : CallerLines} (start : Driver) {mid : Driver} (new : Driver)
    {kills : List ℕ} {steps : List Step} (starved : Bool) (tells : SessionView → SessionView → Type 0) (last : SessionView) →
    IsAtWork actors (began inner) inner mid kills steps → ((l : CallerLines) (o : Driver) → began l o → (l ≡ lines) × (o ≡ start)) → IsCalling lines new →
    Stays mid new → (starved ≡ false → TracesClosing lines mid new) → (starved ≡ false → new.owner.calls ≡ mid.owner.calls) → (starved ≡ false → (a : List ℕ)
    (steps : List Step) → FollowsSteps lines a steps mid → HasDone lines a steps new.owner new.passes) → (starved ≡ true → All (HasEndedAt lines.controls.now
    new.owner new.passes) new.passes.kills.items) → (starved ≡ false → tells (session_view start.owner) last) → record (session_view mid.owner)
    { kills = kills; did = steps } ≡ last → HasDrivenCode lines actors start tells (record { owner = new.owner; starved = starved; passes = new.passes })
has_worked {actors} began {inner} start {mid} new {kills} {steps} starved tells last work only calling stays traced calls done ended told is =
    let same = only inner work.opened work.began_so in
    record {
      new = new;
      is = refl;
      calling = calling;
      stays = stays_trans (subst (λ d. Stays d mid) same.1 work.stays) stays;
      steps = steps;
      traced = λ well begin is. traced well begin steps
          (subst (λ l. TracesPlan l steps start mid) same.0 (subst (λ d. TracesPlan inner steps d mid) same.1 work.traced) begin is);
      done = λ well. done well actors steps (subst (λ l. FollowsSteps l actors steps mid) same.0 work.follows);
      ended = ended;
      told = λ well. record {
        last = last;
        told = told well;
        calls = calls well ∙ ap (λ (s : SessionView). s.calls) is;
        did = ap (λ (s : SessionView). s.did) (sym is);
        kills = λ a. ap (λ s. kills_of s a) (sym is) ∙ work.asked a;
        on = subst (λ s. IsLater s (session_view new.owner)) is (record { limits = stays.limits; kept = stays.kept });
      };
    }

pub run_code : {lines : CallerLines} (start : Driver) (tells : SessionView → SessionView → Type 0) {driven : Driven} →
    IsFreshCaller lines start.owner start.passes → start.outbox ≡ None → HasDrivenCode lines (actors_in start.owner.handles) start tells driven →
    HasRunCode lines start.owner start.passes tells driven
run_code {lines} start tells {driven} fresh empty w = record {
  steps = w.steps;
  driven_is = subst (λ d. HasDriven lines start.owner start.passes w.steps d) (sym w.is) (driven_of w.steps driven.starved start fresh.unused.distinct w.calling
      w.stays w.done w.ended (λ well. w.traced well start.owner (fresh_tracing start fresh empty)));
  told = subst (λ (d : Driven). driven.starved ≡ false → HasConcluded tells w.steps start.owner d.owner) (sym w.is) w.told;
}
