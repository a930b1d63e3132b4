use Rattle.act_drive.proofs.Common.{refl, rules, ◌≡◌, ◌∙◌, ap, sym, subst, get_or, length, All, length_push, ControlView, AreKillEndpoints, bare_ask, HasNamed}
use Rattle.act_drive.proofs.Kills.{kills_asked, ask_refused, asked_stays, calling_asked, named_more}
use Rattle.act_drive.proofs.Tracing.{traces_asked, traces_kept}
use Rattle.act_drive.proofs.driver.Driver.ask_at.Goals as goal

pub returns-in-Ok : goal.returns-in-Ok
returns-in-Ok g c =
    let endpoint = c.index_mut-endpoint.result.now in let items = c.args.self.now.passes.kills.items in let controls = c.args.lines.now.controls.now in
    let here : endpoint ≡ get_or items c.args.at endpoint = search rules in
    record {
      asked = λ _. record {
        owner = refl;
        collects = refl;
        kills = λ taken steps. kills_asked c.args.lines.now.controls.now taken items c.args.a c.args.at endpoint c.ask_at.new.pass c.requires.calling.kills
            c.requires.below here (λ d. ap (λ (x : _). (get_or c.args.lines.now.controls.now x.place d).actor) here ∙ c.requires.place endpoint d)
            (ap (λ (p : _). length p.put) c.in-Ok.ensures.ok ∙ length_push endpoint.pass.put _) steps;
      };
      stays = asked_stays c.args.self.now _ c.args.at c.ask_at.new.pass here
          (ap (λ p. bare_ask (record { place = endpoint.place; pass = p })) c.in-Ok.ensures.ok) refl refl refl refl;
      calling =
          let id : c.id.result ≡ c.args.self.now.owner.id = search rules in
          let there : (d : ControlView) → (get_or controls endpoint.place d).actor ≡ c.args.a =
          λ d. ap (λ (x : _). (get_or controls x.place d).actor) here ∙ c.requires.place endpoint d in
          let was : HasNamed controls c.args.self.now.owner.id endpoint =
          subst (HasNamed controls c.args.self.now.owner.id) (sym here) (c.requires.calling.names c.args.at endpoint c.requires.below) in
          calling_asked _ c.args.at endpoint c.ask_at.new.pass c.requires.below here (ap (λ (p : _). p.line) c.in-Ok.ensures.ok)
          (named_more controls c.args.self.now.owner.id c.args.a endpoint c.ask_at.new.pass _ there (ap (λ n. record { caller = n; actor = c.args.a }) id)
          (ap (λ (p : _). p.put) c.in-Ok.ensures.ok) was) refl refl refl refl refl refl c.requires.calling;
      traced = λ none _. traces_asked c.args.lines.now c.args.self.now _ c.args.a c.args.at endpoint _ c.requires.stamp none c.requires.below here
          (λ d. ap (λ (x : _). (get_or controls x.place d).actor) here ∙ c.requires.place endpoint d) c.in-Ok.ensures.ok refl refl refl refl refl;
      refused = search rules;
      on_refusal = search rules;
    }

pub returns-in-Err : goal.returns-in-Err
returns-in-Err g c =
    let endpoint = c.index_mut-endpoint.result.now in let items = c.args.self.now.passes.kills.items in
    let here : endpoint ≡ get_or items c.args.at endpoint = search rules in
    record {
      refused = λ _. record {
        stay = asked_stays c.args.self.now _ c.args.at c.ask_at.new.pass here
            (ap (λ p. bare_ask (record { place = endpoint.place; pass = p })) c.in-Err.ensures.err) refl refl refl refl;
        calls = refl;
        handles = refl;
        kills = ask_refused items c.args.at here c.in-Err.ensures.err;
        heard = λ notice has. has;
      };
      stays = asked_stays c.args.self.now _ c.args.at c.ask_at.new.pass here
          (ap (λ p. bare_ask (record { place = endpoint.place; pass = p })) c.in-Err.ensures.err) refl refl refl refl;
      on_refusal =
          λ _. traces_kept c.args.lines.now c.args.self.now _ refl refl (ask_refused items c.args.at here c.in-Err.ensures.err) refl (λ letter has. has);
      calling =
          let controls = c.args.lines.now.controls.now in
          let same = sym (ask_refused items c.args.at here c.in-Err.ensures.err) in
          let calling = c.requires.calling in
          record {
            places = calling.places;
            flags = calling.flags;
            hears = calling.hears;
            collects = calling.collects;
            held = calling.held;
            letters = calling.letters;
            kills = subst (λ l. AreKillEndpoints controls l) same calling.kills;
            keeps = calling.keeps;
            names = subst (λ l. All (HasNamed controls c.args.self.now.owner.id) l) same calling.names;
            note_posted = calling.note_posted;
          };
      asked = search rules;
      traced = search rules;
    }
