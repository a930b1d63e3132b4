-- That what the threads of a run left fits its lines.
use Rattle.act_executor.proofs.Common.{◌≡◌, ℕ, suc, List, [], ◌∷◌, length, map, slice_get, Some, sym, ap, ◌∙◌, subst, refl, arith, All, slice_get_within}
use Rattle.act_executor.proofs.Common.{KindState, Cast, Asked, PutterView, MailView, ControlView, RepliesView, Endpoint, ExecPasses, Finished, CallerPasses}
use Rattle.act_executor.proofs.Common.{Driven, CallerSetup, Opened, IsExec, IsCaller, AreOpened, Doing, SitsAtReplies, None, AreMatched, HasLimits}
use Rattle.act_executor.proofs.Common.{CallersDiffer, first_bad, Each, MayServe, MayDrive, SitsAtControl, HasEndpoints, IsUnusedStarter, AreServed, AreDriven}
use Rattle.act_executor.proofs.Common.{AreStarters, element, as_long, all_at, all_by_places}
use Rattle.act_executor.proofs.Lists.Pairs.{place_is}
use Rattle.act_executor.proofs.Lists.Places.{each_at as each_from}
use Rattle.act_executor.proofs.OpenLines.Tasks.{each_at}
use Rattle.act_executor.proofs.OpenLines.Actors.{sits, same_letters_line, same_kills_line}
use Rattle.act_executor.proofs.OpenLines.Callers.{has_endpoints, same_replies_line}

-- lists whose elements agree at each place
pub maps_agree : {X Y Z : Type 0} (f : X → Z) (g : Y → Z) (xs : List X) (ys : List Y) → length xs ≡ length ys →
    ((i : ℕ) (x : X) (y : Y) → slice_get xs i ≡ Some x → slice_get ys i ≡ Some y → f x ≡ g y) → map f xs ≡ map g ys
maps_agree f g [] [] long same = refl
maps_agree f g [] (y ∷ ys) long same = absurd (omega (arith, long))
maps_agree f g (x ∷ xs) [] long same = absurd (omega (arith, long))
maps_agree f g (x ∷ xs) (y ∷ ys) long same =
    λ k. same 0 x y refl refl k ∷ maps_agree f g xs ys (omega (arith, long)) (λ i a b at there. same (suc i) a b at there) k

module _ {K : Type 0} (state : K → KindState) (casts : List (Cast K)) (setups : List CallerSetup) (opened : Opened) (ok : AreOpened casts setups opened) where
  abbrev execs : List (Endpoint ExecPasses)
  execs = opened.execs.items

  abbrev callers : List (Endpoint CallerPasses)
  callers = opened.callers.items

  -- of each cast with its passes, and of each part with its own, a thread's work may be made
  pub may_serve : AreMatched casts setups → Each (MayServe opened.lines) casts execs
  may_serve matched = each_from (MayServe opened.lines) casts execs ok.execs.0 (λ k cast exec at there.
      let place = place_is execs ok.at_lines.exec_places k exec there in let below = slice_get_within execs k exec there in
      let mails = as_long (λ (e : Endpoint ExecPasses). e.pass.letters.line) (λ (m : MailView). m.line) execs opened.lines.mails.items ok.at_lines.mails in
      let controls =
      as_long (λ (e : Endpoint ExecPasses). e.pass.kills.line) (λ (m : ControlView). m.line) execs opened.lines.controls.items ok.at_lines.controls in
      record {
        callers = all_at (λ (cast : Cast K). CallersDiffer cast.callers) casts k matched.callers_differ at;
        mail = omega (arith, place, below, mails);
        control = omega (arith, place, below, controls);
        is = each_at (IsExec opened.lines) casts execs k cast exec ok.execs at there;
      })

  pub may_drive : AreMatched casts setups → All HasLimits setups → All (λ setup. first_bad setup.actors.items setup.plan.items ≡ None) setups →
      Each (MayDrive opened.lines) setups callers
  may_drive matched limits fits = each_from (MayDrive opened.lines) setups callers ok.callers.0 (λ k setup caller at there.
      let place = place_is callers ok.at_lines.caller_places k caller there in let below = slice_get_within callers k caller there in
      let replies =
      as_long (λ (c : Endpoint CallerPasses). c.pass.collects.line) (λ (m : RepliesView). m.line) callers opened.lines.replies.items ok.at_lines.replies in
      record {
        actors = all_at (λ (setup : CallerSetup). CallersDiffer setup.actors.items) setups k matched.own_differ at;
        limits = all_at HasLimits setups k limits at;
        place = omega (arith, place, below, replies);
        is = each_at (IsCaller opened.lines) setups callers k setup caller ok.callers at there;
        fits = all_at (λ (setup : CallerSetup). first_bad setup.actors.items setup.plan.items ≡ None) setups k fits at;
      })

  module _ {L : Type 0} (actors : List (Finished K L)) (served : AreServed state opened.lines casts execs actors) where
    -- the cast and the passes of an actor
    pub record ActorAt (j : ℕ) (actor : Finished K L) : Type 0 where
      pub cast : Cast K
      pub exec : Endpoint ExecPasses
      pub at_cast : slice_get casts j ≡ Some cast
      pub at_exec : slice_get execs j ≡ Some exec
      pub is : IsExec opened.lines cast exec

    pub actor_at : (j : ℕ) (actor : Finished K L) → slice_get actors j ≡ Some actor → ActorAt j actor
    actor_at j actor at =
        let below = slice_get_within actors j actor at in let cast = element casts j (omega (arith, below, served.long)) in
        let exec = element execs j (omega (arith, below, served.long, ok.execs.0)) in
        record {
          cast = cast.0;
          exec = exec.0;
          at_cast = cast.1;
          at_exec = exec.1;
          is = each_at (IsExec opened.lines) casts execs j cast.0 exec.0 ok.execs cast.1 exec.1;
        }

    execs_long : length execs ≡ length actors
    execs_long = omega (arith, served.long, ok.execs.0)

    pub mail_lines : map (λ (m : MailView). m.line) opened.lines.mails.items ≡ map (λ (a : Finished K L). a.passes.letters.line) actors
    mail_lines = sym ok.at_lines.mails ∙ maps_agree (λ (e : Endpoint ExecPasses). e.pass.letters.line) (λ (a : Finished K L). a.passes.letters.line) execs
        actors execs_long (λ j exec actor at there. let one = actor_at j actor there in let both : Some one.exec ≡ Some exec = sym one.at_exec ∙ at in
        let same : one.exec ≡ exec = cc in ap (λ (e : Endpoint ExecPasses). e.pass.letters.line) (sym same) ∙
        sym (same_letters_line state opened.lines one.cast one.exec actor one.is (served.each j one.cast one.exec actor one.at_cast one.at_exec there)))

    pub control_lines : map (λ (m : ControlView). m.line) opened.lines.controls.items ≡ map (λ (a : Finished K L). a.passes.kills.line) actors
    control_lines = sym ok.at_lines.controls ∙ maps_agree (λ (e : Endpoint ExecPasses). e.pass.kills.line) (λ (a : Finished K L). a.passes.kills.line) execs
        actors execs_long (λ j exec actor at there. let one = actor_at j actor there in let both : Some one.exec ≡ Some exec = sym one.at_exec ∙ at in
        let same : one.exec ≡ exec = cc in ap (λ (e : Endpoint ExecPasses). e.pass.kills.line) (sym same) ∙
        sym (same_kills_line state opened.lines one.cast one.exec actor one.is (served.each j one.cast one.exec actor one.at_cast one.at_exec there)))

    pub actors_sit : All (λ (a : Finished K L). All (SitsAtReplies opened.lines.replies.items) a.passes.notices.items) actors
    actors_sit = all_by_places (λ (a : Finished K L). All (SitsAtReplies opened.lines.replies.items) a.passes.notices.items) actors (λ j actor at. let one =
        actor_at j actor at in sits state opened.lines one.cast one.exec actor one.is (served.each j one.cast one.exec actor one.at_cast one.at_exec at))

  module _ (does : ℕ → Doing) (driven : List Driven) (drove : AreDriven opened.lines does setups callers driven) where
    -- the part and the passes of a caller
    pub record CallerAt (i : ℕ) (d : Driven) : Type 0 where
      pub setup : CallerSetup
      pub caller : Endpoint CallerPasses
      pub at_setup : slice_get setups i ≡ Some setup
      pub at_caller : slice_get callers i ≡ Some caller
      pub is : IsCaller opened.lines setup caller

    pub caller_at : (i : ℕ) (d : Driven) → slice_get driven i ≡ Some d → CallerAt i d
    caller_at i d at =
        let below = slice_get_within driven i d at in let setup = element setups i (omega (arith, below, drove.long)) in
        let caller = element callers i (omega (arith, below, drove.long, ok.callers.0)) in
        record {
          setup = setup.0;
          caller = caller.0;
          at_setup = setup.1;
          at_caller = caller.1;
          is = each_at (IsCaller opened.lines) setups callers i setup.0 caller.0 ok.callers setup.1 caller.1;
        }

    callers_long : length callers ≡ length driven
    callers_long = omega (arith, drove.long, ok.callers.0)

    pub reply_lines : map (λ (m : RepliesView). m.line) opened.lines.replies.items ≡ map (λ (d : Driven). d.passes.collects.line) driven
    reply_lines = sym ok.at_lines.replies ∙ maps_agree (λ (c : Endpoint CallerPasses). c.pass.collects.line) (λ (d : Driven). d.passes.collects.line) callers
        driven callers_long (λ i caller d at there. let one = caller_at i d there in let both : Some one.caller ≡ Some caller = sym one.at_caller ∙ at in
        let same : one.caller ≡ caller = cc in ap (λ (c : Endpoint CallerPasses). c.pass.collects.line) (sym same) ∙ sym (same_replies_line opened.lines
        (does one.setup.caller) one.setup one.caller d one.is (drove.each i one.setup one.caller d one.at_setup one.at_caller there)))

    pub callers_sit : All (HasEndpoints opened.lines) driven
    callers_sit = all_by_places (HasEndpoints opened.lines) driven (λ i d at. let one = caller_at i d at in
        has_endpoints opened.lines (does one.setup.caller) one.setup one.caller d one.is (drove.each i one.setup one.caller d one.at_setup one.at_caller at))

-- the starter's passes are of the lines at their places
pub starters_sit : {controls : List ControlView} {endpoints : List (Endpoint (PutterView Asked ℕ))} → AreStarters controls endpoints →
    All (SitsAtControl controls) endpoints
starters_sit {controls} {endpoints} are = all_by_places (SitsAtControl controls) endpoints (λ k endpoint at. let one =
    all_at (IsUnusedStarter controls) endpoints k are.unused at in (one.below, λ m. sym (ap (λ (p : PutterView Asked ℕ). p.line) (one.new m))))

-- what was opened for lists is for those that they are
pub opened_for : {K : Type 0} {casts now : List (Cast K)} {setups those : List CallerSetup} {opened : Opened} → now ≡ casts → those ≡ setups →
    AreOpened now those opened → AreOpened casts setups opened
opened_for {opened} one other ok = let At : List (Cast _) × List CallerSetup → Type 0 = λ p. AreOpened p.0 p.1 opened in subst At (λ i. (one i, other i)) ok
