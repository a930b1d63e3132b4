use Rattle.act_drive.proofs.Common.{refl, rules, ◌≡◌, [], ◌∷◌, ◌++◌, Some, All, true, inl, inr, is_known_dead, actor_of_letter, IsApart}
use Rattle.act_drive.proofs.Drivers.{calling_dropped, calling_posted, posted_waits, stays_same}
use Rattle.act_drive.proofs.Tracing.{traces_dropped, traces_back, traces_posted}
use Rattle.act_drive.proofs.driver.Driver.post_letter.Goals as goal

pub returns-then-is_dead : goal.returns-then-is_dead
returns-then-is_dead g c = record {
  calling =
      let dead : is_known_dead c.args.self.now.owner (actor_of_letter c.args.letter) ≡ true = search rules in
      calling_dropped _ c.args.letter refl (inl (c.requires.calling.hears.deaths (actor_of_letter c.args.letter) dead)) refl refl
      (search rules) refl c.requires.calling;
  traced = traces_dropped c.args.lines.now (record c.args.self.now { outbox = Some c.args.letter }) _ refl refl (search rules);
  waits = record {
    stay = stays_same (record c.args.self.now { outbox = Some c.args.letter }) _ refl refl refl refl;
    calls = refl;
    handles = refl;
    kills = refl;
    heard = λ notice has. has;
  };
}

pub returns-in_default : goal.returns-in_default
returns-in_default g c = record {
  calling =
      let apart : All (IsApart c.args.lines.now.mails.now (actor_of_letter c.args.letter)) c.args.self.now.passes.letters.items = search rules in
      calling_dropped _ c.args.letter refl (inr apart) refl refl (search rules) refl c.requires.calling;
  traced = traces_dropped c.args.lines.now (record c.args.self.now { outbox = Some c.args.letter }) _ refl refl (search rules);
  waits = record {
    stay = stays_same (record c.args.self.now { outbox = Some c.args.letter }) _ refl refl refl refl;
    calls = refl;
    handles = refl;
    kills = refl;
    heard = λ notice has. has;
  };
}

pub returns-in-Ok : goal.returns-in-Ok
returns-in-Ok g c =
    let endpoint = c.index_mut-endpoint.result.now in
    record {
      calling = calling_posted _ c.args.letter c.in-Some.at endpoint c.post_at.new.pass (endpoint.pass.stamps ++ g.S.Stamped.stamp ∷ []) refl (search rules)
          (search rules) (λ d. search rules) (search rules) refl (search rules) refl refl (search rules) (search rules) c.requires.calling;
      waits = posted_waits (record c.args.self.now { outbox = Some c.args.letter }) _ c.in-Some.at endpoint c.post_at.new.pass (search rules)
          (search rules) refl refl refl refl;
      traced = traces_posted c.args.lines.now (record c.args.self.now { outbox = Some c.args.letter }) _ c.args.letter c.in-Some.at endpoint c.post_at.new.pass
          c.requires.stamp refl (search rules) (search rules) (search rules) refl (search rules) refl refl (search rules);
    }

pub returns-in-Err-clause-traced : goal.returns-in-Err-clause-traced
returns-in-Err-clause-traced g c =
    let endpoint = c.index_mut-endpoint.result.now in
    traces_back c.args.lines.now (record c.args.self.now { outbox = Some c.args.letter }) _ c.args.letter c.in-Some.at endpoint c.post_at.new.pass refl
    (search rules) (search rules) refl (search rules) refl refl c.put.ensures (search rules)
