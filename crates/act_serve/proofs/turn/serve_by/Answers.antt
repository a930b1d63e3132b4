use Rattle.act_serve.proofs.Common.{rules, ◌≡◌, ◌≤◌, ◌<◌, ◌∙◌, false, ap, sym, subst, refl, length, map, has_terminated, NothingFollowsAnEnd, MayRetire}
use Rattle.act_serve.proofs.Common.{LiveView, DeadView, retired_view, Letter, ControlExecView, TakerView, ExecPasses, exec_clock, endpoint_callers}
use Rattle.act_serve.proofs.Common.{without_given, KillsOfDead, PassesFit, IsServing, IsTracedSoFar, HasLooked, with_death_given}
use Rattle.act_serve.proofs.Serving.{stay_on, look_on, still_untaken, kept_kills, looked_on, looked_past, step_fit, killed_served, starved_served}
use Rattle.act_serve.proofs.Serving.{retired_served, fresh_serving}
use Rattle.act_serve.proofs.Traces.{traced_over, traced_told, traced_looked, traced_fresh}
use Rattle.act_serve.proofs.turn.serve_by.Goals as goal

pub loop-init : goal.loop-init
loop-init g c =
    let now = c.args.live in let replies = c.args.lines.now.replies.now in
    record {
      passes = c.requires.passes;
      id = refl;
      stay = record { letters = refl; kills = refl; endpoints = refl };
      serving = fresh_serving g.K.Actor.state replies now c.requires.fresh;
      untaken = c.requires.fresh.passes_fresh.kills;
      last = search rules;
      traced = traced_fresh replies now c.requires.fresh;
    }

pub returns-then-is_over : goal.returns-then-is_over
returns-then-is_over g c =
    let now = c.loop.live in let replies = c.args.lines.now.replies.now in let old = c.loop.invariant in
    let between : ExecPasses = record c.loop.passes { kills = c.is_over.new.kills } in
    let told : ExecPasses = c.tell_deaths.new.passes in let taken = c.tell_deaths.ensures.taken in
    let letters : told.letters ≡ record c.loop.passes.letters { taken = told.letters.taken; stamps = told.letters.stamps } =
    ap (λ (p : TakerView Letter (Unit {0})). record p { taken = told.letters.taken; stamps = told.letters.stamps }) taken.0 in
    let kills : told.kills ≡ record c.loop.passes.kills
    { taken = told.kills.taken; stamps = told.kills.stamps; lengths = told.kills.lengths; looked = told.kills.looked } =
    subst (λ (k : ControlExecView). k ≡ record c.loop.passes.kills { taken = k.taken; stamps = k.stamps; lengths = k.lengths; looked = k.looked })
    (sym taken.1) c.is_over.ensures.pass in
    let still = stay_on (record told { notices = c.loop.passes.notices }) old.stay letters kills (λ i. map without_given c.loop.passes.notices.items) in
    let why : KillsOfDead (has_terminated now.log) now.log c.is_over.new.kills =
    subst (λ b. HasLooked b now.log c.loop.passes.kills c.is_over.new.kills) c.if-is_over.true c.is_over.ensures.told in
    let died =
    traced_over now.id replies now.log c.is_over.new.kills c.if-is_over.true why old.untaken c.is_over.ensures.ended c.is_over.ensures.stamped old.traced in
    killed_served (g.K.Actor.state c.args.live.state) replies c.args.passes now c.loop.passes.notices.items told
    (subst (λ (p : TakerView Letter (Unit {0})). IsServing g.K.Actor.state (g.K.Actor.state c.args.live.state)
    (endpoint_callers replies c.args.passes.notices.items) replies p.taken now c.loop.passes.notices.items) (sym taken.0) old.serving)
    still.letters still.kills still.endpoints (subst (λ (k : ControlExecView). length now.log ≤ k.looked) (sym taken.1) c.is_over.ensures.looked) old.last
    (exec_clock between) old.id c.kill-dead.ensures c.tell_deaths.ensures.given
    (subst (λ k. KillsOfDead (has_terminated now.log) now.log k) (sym taken.1) why)
    (traced_told now.id replies now.log between told died taken.0 taken.1 (c.tell_deaths.ensures.given ∙
    ap (λ (d : DeadView). map (with_death_given d.id d.log (exec_clock between)) c.loop.passes.notices.items) c.kill-dead.ensures))

pub loop-preserved-in-Moved : goal.loop-preserved-in-Moved
loop-preserved-in-Moved g c =
    let before = c.loop.live in let now = c.take_turn.new.live in let replies = c.args.lines.now.replies.now in let old = c.loop.invariant in
    let turn = c.take_turn.ensures in let after : ExecPasses = c.take_turn.new.passes in
    let on : HasLooked false before.log c.loop.passes.kills c.is_over.new.kills =
    subst (λ b. HasLooked b before.log c.loop.passes.kills c.is_over.new.kills) c.if-is_over.false c.is_over.ensures.told in
    let seen = look_on c.loop.passes.kills _ on.1 in let look = look_on c.loop.passes.kills _ (turn.passes.kills ∙ on.1) in
    let still = stay_on after old.stay turn.passes.letters (kept_kills c.loop.passes.kills look.0) turn.endpoints.stay in
    record {
      passes = step_fit now.log after old.passes turn.passes.letters look.0 look.1 turn.on.id turn.on.long turn.endpoints.at_places turn.endpoints.stay;
      id = turn.on.id ∙ old.id;
      stay = still;
      serving = turn.serving (g.K.Actor.state c.args.live.state) (endpoint_callers replies c.args.passes.notices.items) old.serving;
      untaken = still_untaken c.loop.passes.kills look.0 old.untaken;
      last = turn.on.last old.last;
      traced = turn.traced (g.K.Actor.state c.args.live.state) (endpoint_callers replies c.args.passes.notices.items) old.serving on.0
          (traced_looked seen.0 old.traced);
    }

pub returns-in-Starved : goal.returns-in-Starved
returns-in-Starved g c =
    let before = c.loop.live in let now = c.take_turn.new.live in let replies = c.args.lines.now.replies.now in let old = c.loop.invariant in
    let turn = c.take_turn.ensures in let after : ExecPasses = c.take_turn.new.passes in let told : ExecPasses = c.tell_deaths-in-Starved.new.passes in
    let taken = c.tell_deaths-in-Starved.ensures.taken in
    let on : HasLooked false before.log c.loop.passes.kills c.is_over.new.kills =
    subst (λ b. HasLooked b before.log c.loop.passes.kills c.is_over.new.kills) c.if-is_over.false c.is_over.ensures.told in
    let look = look_on c.loop.passes.kills _ (taken.1 ∙ turn.passes.kills ∙ on.1) in
    let letters : told.letters ≡ record c.loop.passes.letters { taken = told.letters.taken; stamps = told.letters.stamps } =
    subst (λ (p : TakerView Letter (Unit {0})). p ≡ record c.loop.passes.letters { taken = p.taken; stamps = p.stamps }) (sym taken.0) turn.passes.letters in
    let still = stay_on (record told { notices = after.notices }) old.stay letters (kept_kills c.loop.passes.kills look.0) turn.endpoints.stay in
    starved_served (g.K.Actor.state c.args.live.state) replies c.args.passes now after.notices.items told
    (subst (λ (p : TakerView Letter (Unit {0})). IsServing g.K.Actor.state (g.K.Actor.state c.args.live.state)
    (endpoint_callers replies c.args.passes.notices.items) replies p.taken now after.notices.items) (sym taken.0)
    (turn.serving (g.K.Actor.state c.args.live.state) (endpoint_callers replies c.args.passes.notices.items) old.serving))
    still.letters still.kills still.endpoints
    (looked_on look.1 old.passes.looked turn.on.long) (turn.on.last old.last) (exec_clock after)
    (turn.on.id ∙ old.id) c.kill-dead-in-Starved.ensures c.tell_deaths-in-Starved.ensures.given
    (still_untaken c.loop.passes.kills look.0 old.untaken) (ap has_terminated (turn.starved (search rules)) ∙ on.0)

pub returns-in-Ok : goal.returns-in-Ok
returns-in-Ok g c =
    let before = c.loop.live in let now = c.take_turn.new.live in let replies = c.args.lines.now.replies.now in let old = c.loop.invariant in
    let turn = c.take_turn.ensures in let after : ExecPasses = c.take_turn.new.passes in
    let on : HasLooked false before.log c.loop.passes.kills c.is_over.new.kills =
    subst (λ b. HasLooked b before.log c.loop.passes.kills c.is_over.new.kills) c.if-is_over.false c.is_over.ensures.told in
    let seen = look_on c.loop.passes.kills _ on.1 in let look = look_on c.loop.passes.kills _ (turn.passes.kills ∙ on.1) in
    let still = stay_on after old.stay turn.passes.letters (kept_kills c.loop.passes.kills look.0) turn.endpoints.stay in
    let may : MayRetire now.log now.inbox = search rules in
    retired_served (g.K.Actor.state c.args.live.state) replies c.args.passes now after.notices.items after
    (turn.serving (g.K.Actor.state c.args.live.state) (endpoint_callers replies c.args.passes.notices.items) old.serving) still.letters still.kills
    still.endpoints
    (looked_on look.1 old.passes.looked turn.on.long) (turn.on.last old.last) (turn.on.id ∙ old.id) (ap (retired_view g.K.Actor.state) c.in-Ok.ensures.ok) may
    (λ i. after.notices.items)
    (still_untaken c.loop.passes.kills look.0 old.untaken)
    (subst (λ (s : LiveView _). length s.log < after.kills.looked) (sym (turn.idle (search rules)).1.0) (looked_past look.1 old.passes.looked))
    (turn.traced (g.K.Actor.state c.args.live.state) (endpoint_callers replies c.args.passes.notices.items) old.serving on.0 (traced_looked seen.0 old.traced))

pub loop-preserved : goal.loop-preserved
loop-preserved g c =
    let before = c.loop.live in let now = c.take_turn.new.live in let replies = c.args.lines.now.replies.now in let old = c.loop.invariant in
    let turn = c.take_turn.ensures in let after : ExecPasses = c.take_turn.new.passes in
    let on : HasLooked false before.log c.loop.passes.kills c.is_over.new.kills =
    subst (λ b. HasLooked b before.log c.loop.passes.kills c.is_over.new.kills) c.if-is_over.false c.is_over.ensures.told in
    let seen = look_on c.loop.passes.kills _ on.1 in let look = look_on c.loop.passes.kills _ (turn.passes.kills ∙ on.1) in
    let still = stay_on after old.stay turn.passes.letters (kept_kills c.loop.passes.kills look.0) turn.endpoints.stay in
    let back = c.in-Err.back in let same : back ≡ now = c.in-Err.ensures.err in
    record {
      passes = subst (λ (s : LiveView _). PassesFit c.args.lines.now.mail.now.line c.args.lines.now.control.now.line replies s.id s.log after) (sym same)
          (step_fit now.log after old.passes turn.passes.letters look.0 look.1 turn.on.id turn.on.long turn.endpoints.at_places turn.endpoints.stay);
      id = ap (λ (s : LiveView _). s.id) same ∙ turn.on.id ∙ old.id;
      stay = still;
      serving = subst (λ s. IsServing g.K.Actor.state (g.K.Actor.state c.args.live.state)
          (endpoint_callers replies c.args.passes.notices.items) replies after.letters.taken s after.notices.items) (sym same)
          (turn.serving (g.K.Actor.state c.args.live.state) (endpoint_callers replies c.args.passes.notices.items) old.serving);
      untaken = still_untaken c.loop.passes.kills look.0 old.untaken;
      last = subst (λ (s : LiveView _). NothingFollowsAnEnd s.log) (sym same) (turn.on.last old.last);
      traced = subst (λ (s : LiveView _). IsTracedSoFar s.id replies s.log after) (sym same) (turn.traced (g.K.Actor.state c.args.live.state)
          (endpoint_callers replies c.args.passes.notices.items) old.serving on.0 (traced_looked seen.0 old.traced));
    }
