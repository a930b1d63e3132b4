use Rattle.act_drive.proofs.Common.{refl, rules, inl, inr, ap}
use Rattle.act_drive.proofs.Drivers.{calling_heard}
use Rattle.act_drive.proofs.Tracing.{traces_heard, traces_kept}
use Rattle.act_drive.proofs.driver.Driver.collect.Goals as goal

pub returns-in-Some-clause-only_waits : goal.returns-in-Some-clause-only_waits
returns-in-Some-clause-only_waits g c =
    let on = calling_heard _ c.in-Some.notice c.collect.ensures.after c.in-Some.ensures.taken refl refl refl refl c.requires.calling in
    record {
      calling = on.0;
      waits = on.1;
      traced = traces_heard c.args.lines.now c.args.self.now _ c.in-Some.notice c.in-Some.ensures.stamped.0 c.collect.ensures.after
          (ap (λ (t : _). t.taken) c.in-Some.ensures.taken) c.in-Some.ensures.stamped.1 refl refl refl;
    }

pub returns-in-Some-clause-heard : goal.returns-in-Some-clause-heard
returns-in-Some-clause-heard g c = inr (c.in-Some.notice, ap (λ (t : _). t.taken) c.in-Some.ensures.taken, c.collect.ensures.after)

pub returns-in-None-clause-heard : goal.returns-in-None-clause-heard
returns-in-None-clause-heard g c = inl (refl, c.in-None.ensures.none)

pub returns-in-None-clause-only_waits : goal.returns-in-None-clause-only_waits
returns-in-None-clause-only_waits g c = record {
  calling = search rules;
  waits = search rules;
  traced = traces_kept c.args.lines.now c.args.self.now _ refl refl refl c.in-None.ensures.none (λ letter has. has);
}
