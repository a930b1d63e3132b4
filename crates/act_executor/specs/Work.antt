-- What the threads are given, and what they leave.
use Rattle.std.specs.Prelude.{◌≡◌, ℕ, ◌<◌, ◌≤◌, List, [], ◌∷◌, ◌++◌, length, slice_index_or, None, All, Result, Ok, Err, Vec, vec_len, vec_capacity}
use Rattle.std.specs.declared.alloc.Global.{Global}
use Rattle.act_types.specs.declared.call.KillNote.{KillNote}
use Rattle.act_types.specs.KindState.{KindState}
use Rattle.act_rules.specs.declared.script.Step.{Step}
use Rattle.act_rules.specs.Plans.{first_bad}
use Rattle.act_handles.specs.Handles.{actors_in}
use Rattle.act_owner.specs.Owner.{OwnerView, opened_under}
use Rattle.act_actor.specs.declared.cast.Cast.{Cast}
use Rattle.act_actor.specs.Cast.{CallersDiffer}
use Rattle.act_mailbox.specs.declared.control.Asked.{Asked}
use Rattle.act_mailbox.specs.Passes.{PutterView, new_putter}
use Rattle.act_mailbox.specs.Mails.{MailView}
use Rattle.act_mailbox.specs.Controls.{ControlView, starter, kill_by}
use Rattle.act_mailbox.specs.Notices.{RepliesView}
use Rattle.act_mailbox.specs.declared.thread.Endpoint.{Endpoint}
use Rattle.act_serve.specs.declared.turn.ExecPasses.{ExecPasses}
use Rattle.act_serve.specs.declared.turn.Finished.{Finished}
use Rattle.act_serve.specs.Served.{HasServed, end_view}
use Rattle.act_serve.specs.Turns.{PassesOf, IsFreshExec}
use Rattle.act_drive.specs.declared.driver.CallerPasses.{CallerPasses}
use Rattle.act_drive.specs.declared.caller.Driven.{Driven}
use Rattle.act_drive.specs.Driven.{IsFreshCaller as IsFreshCaller}
use Rattle.act_plans.specs.declared.rising.CallerSetup.{CallerSetup}
use Rattle.act_plans.specs.Setups.{HasLimits}
use Rattle.act_executor.specs.declared.open.Lines.{Lines}
use Rattle.act_executor.specs.Opened.{IsExec, IsCaller}
use Rattle.act_tasks.specs.Each.{Each}
use Rattle.act_executor.specs.Audits.{SitsAtControl}
use Rattle.act_executor.specs.Conducts.{Doing, HasConducted}
use Rattle.act_executor.specs.declared.run.Starter.{Starter}
use Rattle.act_executor.specs.declared.work.Serving.{Serving}
use Rattle.act_executor.specs.declared.work.Driving.{Driving}

-- an actor's thread may run
abbrev pub CanServe : {K G N L : Type 0} → Serving K G N L → Type 0
CanServe serving = PassesOf serving.lines serving.live.id serving.live.log serving.passes
    × IsFreshExec serving.lines.replies.now serving.live serving.passes

-- what it leaves
abbrev pub IsServedBy : {K G N L : Type 0} → (K → KindState) → Serving K G N L → Finished K L → Type 0
IsServedBy state serving finished = HasServed (state serving.live.state) serving.live.id serving.lines.replies.now
    serving.passes (end_view state finished.ended) finished.passes

-- a caller's thread may run
abbrev pub CanDrive : {D N : Type 0} → Driving D N → Type 0
CanDrive driving = IsFreshCaller driving.lines driving.owner driving.passes
    × (first_bad (actors_in driving.owner.handles) driving.plan.items ≡ None)

-- what it leaves
abbrev pub IsDrivenTo : {D N : Type 0} → (D → Doing) → Driving D N → Driven → Type 0
IsDrivenTo does driving driven = HasConducted driving.lines driving.owner driving.passes
    (does driving.conduct driving.plan.items) driven

-- a cast and its actor's passes, of which a thread's work is made
pub record MayServe {K : Type 0} (lines : Lines) (cast : Cast K) (exec : Endpoint ExecPasses) : Type 0 where
  pub callers : CallersDiffer cast.callers
  pub mail : exec.place < length lines.mails.items
  pub control : exec.place < length lines.controls.items
  pub is : IsExec lines cast exec

-- a part and its caller's passes
pub record MayDrive (lines : Lines) (setup : CallerSetup) (caller : Endpoint CallerPasses) : Type 0 where
  pub actors : CallersDiffer setup.actors.items
  pub limits : HasLimits setup
  pub place : caller.place < length lines.replies.items
  pub is : IsCaller lines setup caller
  pub fits : first_bad setup.actors.items setup.plan.items ≡ None

-- how an actor begins
pub record ActorStart : Type 0 where
  pub id : ℕ
  pub state : KindState
  pub passes : ExecPasses
  pub replies : List RepliesView

abbrev pub serving_start : {K G N L : Type 0} → (K → KindState) → Serving K G N L → ActorStart
serving_start state serving = record {
  id = serving.live.id;
  state = state serving.live.state;
  passes = serving.passes;
  replies = serving.lines.replies.now;
}

abbrev pub cast_start : {K : Type 0} → (K → KindState) → List RepliesView → Cast K × Endpoint ExecPasses → ActorStart
cast_start state replies given = record {
  id = given.0.actor;
  state = state given.0.kind;
  passes = given.1.pass;
  replies = replies;
}

-- how a caller begins
pub record CallerStart (D : Type 0) : Type 0 where
  pub owner : OwnerView
  pub plan : List Step
  pub conduct : D
  pub passes : CallerPasses
  pub mails : List MailView
  pub controls : List ControlView

abbrev pub driving_start : {D N : Type 0} → Driving D N → CallerStart D
driving_start driving = record {
  owner = driving.owner;
  plan = driving.plan.items;
  conduct = driving.conduct;
  passes = driving.passes;
  mails = driving.lines.mails.now;
  controls = driving.lines.controls.now;
}

abbrev pub setup_start : {D : Type 0} → Lines → (ℕ → D) → CallerSetup × Endpoint CallerPasses → CallerStart D
setup_start lines conduct_of given = record {
  owner = opened_under given.0.limits.items given.0.caller given.0.actors.items;
  plan = given.0.plan.items;
  conduct = conduct_of given.0.caller;
  passes = given.1.pass;
  mails = lines.mails.items;
  controls = lines.controls.items;
}

-- the starter's pass at its place of the control lines, with which nothing was asked
pub record IsUnusedStarter (controls : List ControlView) (endpoint : Endpoint (PutterView Asked ℕ)) : Type 0 where
  pub below : endpoint.place < length controls
  pub new : (k : ControlView) → endpoint.pass ≡ new_putter (slice_index_or controls endpoint.place k).line starter

-- a kill more was asked at the line of a pass, of its actor and in the name of the first caller, or the line handed
-- that back
abbrev pub IsAsked : List ControlView → Endpoint (PutterView Asked ℕ) →
    Result (Endpoint (PutterView Asked ℕ)) KillNote → Type 0
IsAsked controls endpoint (Ok after) = (k : ControlView) →
    after ≡ record endpoint {
      pass = record endpoint.pass {
        put = endpoint.pass.put
            ++ kill_by endpoint.pass.number (record { caller = 1; actor = (slice_index_or controls endpoint.place k).actor }) ∷
            [];
        stamps = endpoint.pass.stamps ++ 0 ∷ [];
      };
    }
IsAsked controls endpoint (Err back) = (k : ControlView) →
    back ≡ record { caller = 1; actor = (slice_index_or controls endpoint.place k).actor }

-- the starter may ask for kills: its passes are of the lines at their places, and what comes of them finds room
pub record CanStop (starter : Starter) : Type 0 where
  pub sit : All (SitsAtControl starter.controls.now) starter.endpoints.items
  pub empty : starter.asked.items ≡ []
  pub room : vec_len starter.endpoints ≤ vec_capacity starter.asked

-- it asked for a kill at each line
abbrev pub HasAskedAll : Starter → Vec (Result (Endpoint (PutterView Asked ℕ)) KillNote) Global → Type 0
HasAskedAll starter asked = Each (IsAsked starter.controls.now) starter.endpoints.items asked.items
