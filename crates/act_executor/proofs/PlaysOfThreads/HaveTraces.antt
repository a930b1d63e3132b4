-- What each thread of a run did, step by step, beside what it left.
use Rattle.act_executor.proofs.Common.{◌≡◌, ℕ, List, [], ◌++◌, All, ap, ◌∙◌, subst, flat_map, AllZip, RunItem, Step, ActorSpec, ControlView, ControlExecView}
use Rattle.act_executor.proofs.Common.{RepliesView, ReplyExecView, TakerView, clock, steps_in, found_in, IsTimed, AreTakenLater, Endpoint, Letter, ExecPasses}
use Rattle.act_executor.proofs.Common.{EndView, Killed, Retired, Starved, end_id, caller_at, endpoint_callers, Action, letter_taken, kill_taken, ActorMayDoAll}
use Rattle.act_executor.proofs.Common.{exec_clock, IsGivenAfter, IsActorTrace, IsActorTraced, Driven, HasDonePlan, plan_of, opened_of, ServedView}

-- each thread did its steps in order and in time
pub record HaveTraces (controls : List ControlView) (replies : List RepliesView) (casts : List ActorSpec)
    (plans : List (ℕ × List Step)) (driven : List Driven) (served : List ServedView) : Type 0 where
  pub actors : All (λ s. IsActorTraced (end_id s.end) replies s.end s.passes) served
  pub callers : All (λ d. HasDonePlan controls (opened_of d.owner.id casts) d.owner (plan_of d.owner.id plans) d.passes) driven

-- ---- the same trace, of passes that show the same

module _ (p q : ExecPasses) (letters : p.letters ≡ q.letters) (kills : p.kills ≡ q.kills) (notices : p.notices.items ≡ q.notices.items) where
  clocks : exec_clock p ≡ exec_clock q
  clocks = λ i. clock (flat_map (λ (endpoint : Endpoint ReplyExecView). endpoint.pass.stamps) (notices i)) ((letters i).stamps ++ (kills i).stamps)

  trace_moved : (a : ℕ) (lines : List RepliesView) {log : List RunItem} (trace : List (ℕ × Action)) → IsActorTrace a lines log p trace →
      IsActorTrace a lines log q trace
  trace_moved a lines trace is = record {
    timed = subst (λ n. IsTimed n trace) clocks is.timed;
    allowed = subst (λ l. ActorMayDoAll a (endpoint_callers lines l) [] (steps_in trace)) notices is.allowed;
    letters = is.letters ∙ ap (λ (t : TakerView Letter Unit). t.taken) letters;
    letters_later = subst (λ (t : TakerView Letter Unit). AreTakenLater (found_in letter_taken trace) t.stamps) letters is.letters_later;
    kills = is.kills ∙ ap (λ (t : ControlExecView). t.taken) kills;
    kills_later = subst (λ (t : ControlExecView). AreTakenLater (found_in kill_taken trace) t.stamps) kills is.kills_later;
    runs = is.runs;
    given = subst (λ l. All (λ (endpoint : Endpoint ReplyExecView). AllZip
        (IsGivenAfter trace (caller_at lines endpoint.place)) endpoint.pass.given endpoint.pass.stamps) l) notices is.given;
  }

  traced_so : (a : ℕ) (lines : List RepliesView) (end : EndView) → IsActorTraced a lines end p → IsActorTraced a lines end q
  traced_so a lines (Killed dead) is = (is.0, trace_moved a lines is.0 is.1, is.2)
  traced_so a lines (Retired retired) is = (is.0, trace_moved a lines is.0 is.1, is.2)
  traced_so a lines (Starved dead) is = tt

  -- and of the same end under the same name
  pub traced_moved : {a b : ℕ} (lines : List RepliesView) {end later : EndView} → a ≡ b → end ≡ later → IsActorTraced a lines end p →
      IsActorTraced b lines later q
  traced_moved {a} lines {end} same ended is =
      let At : ℕ × EndView → Type 0 = λ x. IsActorTraced x.0 lines x.1 q in subst At (λ i. (same i, ended i)) (traced_so a lines end is)
