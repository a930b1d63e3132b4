use Rattle.act_executor.proofs.Common.{rules, ◌≡◌, ℕ, List, [], length, map, ap, sym, ◌∙◌, subst, length-map, CallersDiffer, Cast, PutterView, TakerView, refl}
use Rattle.act_executor.proofs.Common.{◌∷◌, MailView, ControlView, ControlExecView, RepliesView, new_putter, starter, ReplyExecView, Letter, Asked, Notice}
use Rattle.act_executor.proofs.Common.{RunItem, Endpoint, ExecPasses, CallerPasses, CallerSetup, items_of_vec, group_of, as_long, all_through, map_apart}
use Rattle.act_executor.proofs.OpenLines.Gathered.{hands_long, dealt_by, by_way}
use Rattle.act_executor.proofs.OpenLines.Dealt.{AreDealt, are_opened}
use Rattle.act_executor.proofs.OpenLines.Made.{made_map, ids_long, long_of, read_ids, read_for, read_all}
use Rattle.act_executor.proofs.open.open_lines.Goals as goal
use Rattle.act_executor.proofs.open.open_lines.Goals.{After-as_slice}

abbrev letter_number : PutterView Letter Unit → ℕ
letter_number pass = pass.number

abbrev kill_number : PutterView Asked ℕ → ℕ
kill_number pass = pass.number

abbrev actor_number : ReplyExecView → ℕ
actor_number pass = pass.actor

abbrev caller_of : CallerSetup → ℕ
caller_of setup = setup.caller

-- the numbers are those of the casts and of the parts
abbrev AreNumbers : {K : Type 0} → List (Cast K) → List CallerSetup → List ℕ → List ℕ → Type 0
AreNumbers casts setups actors callers = (actors ≡ map (λ cast. cast.actor) casts) × (callers ≡ map caller_of setups)

numbers_are : (g : _) (c : After-as_slice g) →
    AreNumbers c.args.casts.now c.args.setups.now c.in_ok-actor_numbers.actor_numbers.items c.in_ok-caller_numbers.caller_numbers.items
numbers_are g c = (
  search (rules, c.iter.ensures, c.map.ensures, c.in_ok-actor_numbers.ensures),
  search (rules, c.iter-2.ensures, c.map-2.ensures, c.in_ok-caller_numbers.ensures),
)

pub open_all-requires-clause-numbers : goal.open_all-requires-clause-numbers
open_all-requires-clause-numbers g c =
    let are : c.in_ok-caller_numbers.caller_numbers.items ≡ map caller_of c.args.setups.now =
    (numbers_are g (goal.at.open_all-requires-clause-numbers g c).After-as_slice).1 in
    subst CallersDiffer (sym (c.as_slice.ensures.value ∙ are)) (map_apart caller_of c.args.setups.now c.requires.matched.setups_differ)

pub open_all-requires-2-clause-numbers : goal.open_all-requires-2-clause-numbers
open_all-requires-2-clause-numbers g c =
    let are : c.in_ok-caller_numbers.caller_numbers.items ≡ map caller_of c.args.setups.now =
    (numbers_are g (goal.at.open_all-requires-2-clause-numbers g c).After-as_slice).1 in
    subst CallersDiffer (sym (c.as_slice-2.ensures.value ∙ are)) (map_apart caller_of c.args.setups.now c.requires.matched.setups_differ)

pub open_all-requires-3-clause-numbers : goal.open_all-requires-3-clause-numbers
open_all-requires-3-clause-numbers g c =
    let actor_of = λ (cast : Cast g.row.K.Denot). cast.actor in
    let are : c.in_ok-actor_numbers.actor_numbers.items ≡ map actor_of c.args.casts.now =
    (numbers_are g (goal.at.open_all-requires-3-clause-numbers g c).After-as_slice).0 in
    subst CallersDiffer (sym (c.as_slice-3.ensures.value ∙ are)) (map_apart actor_of c.args.casts.now c.requires.matched.actors_differ)

pub exec_passes-requires : goal.exec_passes-requires
exec_passes-requires g c =
    let actor_of = λ (cast : Cast g.row.K.Denot). cast.actor in let casts = c.args.casts.now in let mails = c.in_ok-mails.ensures in
    let controls = c.in_ok-controls.ensures in
    let are : c.in_ok-actor_numbers.actor_numbers.items ≡ map actor_of c.args.casts.now = (numbers_are g (goal.at.exec_passes-requires g c).After-as_slice).0 in
    let letters : length c.in_ok-mails.mails.ends.items ≡ length casts = long_of _ _ _ (ids_long mails) _ mails.ends in
    let kills : length c.in_ok-kills.kills.items ≡ length casts =
    ap length c.in_ok-kills.ensures.firsts ∙ length-map c.in_ok-controls.controls.ends.items _ ∙ long_of _ _ _ (ids_long controls) _ controls.ends in
    let notices = as_long items_of_vec (λ (cast : Cast g.row.K.Denot). group_of actor_number cast.actor _) c.in_ok-replies.replies.hands.items casts
    (dealt_by actor_number _ actor_of casts (c.as_slice-3.ensures.value ∙ are) _ c.in_ok-replies.replies.hands.items c.in_ok-replies.ensures.hands) in
    record { long = (kills ∙ sym letters, notices ∙ sym letters) }

pub caller_passes-requires : goal.caller_passes-requires
caller_passes-requires g c =
    let setups = c.args.setups.now in let replies = c.in_ok-replies.ensures in
    let letters =
    hands_long letter_number c.as_slice.result.now _ c.in_ok-mails.mails.hands.items c.in_ok-mails.ensures.hands ∙ ap length c.as_slice.ensures.value in
    let kills = hands_long kill_number c.as_slice-2.result.now _ c.in_ok-controls.controls.hands.items c.in_ok-controls.ensures.hands ∙
    ap length c.as_slice-2.ensures.value in
    let are : c.in_ok-caller_numbers.caller_numbers.items ≡ map caller_of setups = (numbers_are g (goal.at.caller_passes-requires g c).After-as_slice).1 in
    let collects : length c.in_ok-replies.replies.ends.items ≡ length setups = long_of _ _ _ (ids_long replies) _ replies.ends in
    record { long = (kills ∙ sym letters, collects ∙ sym (ap length are ∙ length-map setups caller_of) ∙ sym letters) }

pub returns : goal.returns
returns g c =
    let casts = c.args.casts.now in let setups = c.args.setups.now in let mails = c.in_ok-mails.ensures in let controls = c.in_ok-controls.ensures in
    let replies = c.in_ok-replies.ensures in let execs = c.in_ok-execs.execs.items in let callers = c.in_ok-callers.callers.items in
    let actor_of = λ (cast : Cast g.row.K.Denot). cast.actor in
    let actors_are : c.in_ok-actor_numbers.actor_numbers.items ≡ map actor_of c.args.casts.now = (numbers_are g (goal.at.returns g c).After-as_slice).0 in
    let callers_are : c.in_ok-caller_numbers.caller_numbers.items ≡ map caller_of c.args.setups.now = (numbers_are g (goal.at.returns g c).After-as_slice).1 in
    let made = c.in_ok-execs.ensures in let made_callers = c.in_ok-callers.ensures in let letters = mails.ends in
    let kills = c.in_ok-kills.ensures.firsts ∙ ap (map (λ (end : ControlExecView × PutterView Asked ℕ). end.0)) controls.ends ∙
    made_map _ (λ (end : ControlExecView × PutterView Asked ℕ). end.0) _ casts in
    let starters = c.in_ok-kills.ensures.seconds ∙ ap (map (λ (end : ControlExecView × PutterView Asked ℕ). end.1)) controls.ends ∙
    made_map _ (λ (end : ControlExecView × PutterView Asked ℕ). end.1) _ casts in
    let dealt : AreDealt casts setups
    (record {
      lines = record { mails = c.in_ok-mails.mails.lines; controls = c.in_ok-controls.controls.lines; replies = c.in_ok-replies.replies.lines };
      execs = c.in_ok-execs.execs;
      callers = c.in_ok-callers.callers;
      starters = c.in_ok-kills.starters;
    }) = record {
      lines = record {
        mails = read_for _ _ casts (ids_long mails) _ mails.lines (λ (mail : MailView). mail.actor) actor_of (λ id cast. refl);
        controls = read_for _ _ casts (ids_long controls) _ controls.lines (λ (control : ControlView). control.actor) actor_of (λ id cast. refl);
        replies = read_for _ _ setups (ids_long replies) _ replies.lines (λ (line : RepliesView). line.caller) caller_of (λ id setup. refl);
      };
      at_lines = record {
        exec_places = made.places;
        caller_places = made_callers.places;
        mails = by_way (λ (exec : Endpoint ExecPasses). exec.pass.letters) (λ (pass : TakerView Letter Unit). pass.line) execs made.letters
            (read_ids _ _ casts (ids_long mails) _ letters (λ (pass : TakerView Letter Unit). pass.line) (λ id cast. refl));
        controls = by_way (λ (exec : Endpoint ExecPasses). exec.pass.kills) (λ (pass : ControlExecView). pass.line) execs made.kills
            (read_ids _ _ casts (ids_long controls) _ kills (λ (pass : ControlExecView). pass.line) (λ id cast. refl));
        replies = by_way (λ (caller : Endpoint CallerPasses). caller.pass.collects) (λ (pass : TakerView Notice RunItem). pass.line) callers
            made_callers.collects (read_ids _ _ setups (ids_long replies) _ replies.ends (λ (pass : TakerView Notice RunItem). pass.line) (λ id setup. refl));
        starters = starters ∙ sym (ap (map (λ (control : ControlView). new_putter control.line starter)) controls.lines ∙
            made_map _ (λ (control : ControlView). new_putter control.line starter) _ casts);
      };
      actors = by_way (λ (exec : Endpoint ExecPasses). exec.pass.kills) (λ (pass : ControlExecView). pass.actor) execs made.kills
          (read_for _ _ casts (ids_long controls) _ kills (λ (pass : ControlExecView). pass.actor) actor_of (λ id cast. refl));
      askers = by_way (λ (exec : Endpoint ExecPasses). exec.pass.kills) (λ (pass : ControlExecView). pass.askers) execs made.kills (read_for _ _ casts
          (ids_long controls) _ kills (λ (pass : ControlExecView). pass.askers) (λ (cast : Cast g.row.K.Denot). starter ∷ cast.callers) (λ id cast. refl));
      unread = all_through (λ (pass : TakerView Letter Unit). (pass.taken ≡ []) × (pass.stamps ≡ []))
          (λ (exec : Endpoint ExecPasses). exec.pass.letters) execs _ made.letters
          (read_all _ _ casts (ids_long mails) _ letters (λ (pass : TakerView Letter Unit). (pass.taken ≡ []) × (pass.stamps ≡ [])) (λ id cast. (refl, refl)));
      unasked = all_through (λ (pass : ControlExecView). (pass.taken ≡ []) × (pass.stamps ≡ []) × (pass.lengths ≡ []))
          (λ (exec : Endpoint ExecPasses). exec.pass.kills) execs _ made.kills (read_all _ _ casts (ids_long controls) _ kills
          (λ (pass : ControlExecView). (pass.taken ≡ []) × (pass.stamps ≡ []) × (pass.lengths ≡ [])) (λ id cast. (refl, refl, refl)));
      uncollected = all_through (λ (pass : TakerView Notice RunItem). (pass.taken ≡ []) × (pass.stamps ≡ []))
          (λ (caller : Endpoint CallerPasses). caller.pass.collects) callers _ made_callers.collects (read_all _ _ setups (ids_long replies) _ replies.ends
          (λ (pass : TakerView Notice RunItem). (pass.taken ≡ []) × (pass.stamps ≡ [])) (λ id setup. (refl, refl)));
      notices =
          made.notices ∙ dealt_by actor_number _ actor_of casts (c.as_slice-3.ensures.value ∙ actors_are) _ c.in_ok-replies.replies.hands.items replies.hands;
      letters = made_callers.letters ∙
          dealt_by letter_number _ caller_of setups (c.as_slice.ensures.value ∙ callers_are) _ c.in_ok-mails.mails.hands.items mails.hands;
      kills = made_callers.kills ∙
          dealt_by kill_number _ caller_of setups (c.as_slice-2.ensures.value ∙ callers_are) _ c.in_ok-controls.controls.hands.items controls.hands;
    } in
    are_opened casts setups c.requires.matched _ dealt
