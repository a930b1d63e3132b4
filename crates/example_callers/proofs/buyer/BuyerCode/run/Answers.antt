use Rattle.example_callers.proofs.Common.{rules, ◌≡◌, [], ◌∷◌, Some, Ok, is_some, length, ap, sym, ◌∙◌, option_copied, Int, Plain, Push, Withdraw, kept_at}
use Rattle.example_callers.proofs.Common.{payment, calls_by}
use Rattle.example_callers.proofs.Calls.{called, kept_on, kept_here}
use Rattle.example_callers.proofs.buyer.BuyerCode.run.Goals as goal

pub returns-in_ok-submit : goal.returns-in_ok-submit
returns-in_ok-submit g c = λ fresh.
    let b = c.args.self.now in
    let old = g.S.Session.seen c.args.session.now in
    let one = g.S.Session.seen c.ask.new.self in
    let two = g.S.Session.seen c.submit.new.self in
    let v = c.in-Some-Ok-Int in
    let paid : c.in_ok-args_of.field-0 ≡ Plain (Int b.price) ∷ [] = search rules in
    let noted : c.in_ok-args_of-2.field-0 ≡ Plain (Int b.price) ∷ [] = search rules in
    let first : one.calls ≡ payment b ∷ [] =
    called b.purse Withdraw (Plain (Int b.price) ∷ []) c.in_ok-args_of.field-0 [] old one paid fresh c.in_ok-paid.ensures.submits in
    let told : kept_at one.kept c.in_ok-paid.paid ≡ Some (Ok (Int v.field-0-0-0)) =
    sym c.answer.ensures ∙ ap option_copied v.is ∙ ap (λ a. Some a) (v.field-0-is ∙ ap (λ x. Ok x) v.field-0-0-is) in
    let granted : kept_at one.kept 0 ≡ Some (Ok (Int v.field-0-0-0)) = kept_here one (c.in_ok-paid.ensures.future ∙ ap length fresh) told in
    let later : kept_at two.kept 0 ≡ Some (Ok (Int v.field-0-0-0)) = kept_on one two 0 (Ok (Int v.field-0-0-0)) c.submit.ensures.on granted in
    record {
      answered = ap (λ a. is_some a) later;
      calls = called b.shop Push (Plain (Int b.price) ∷ []) c.in_ok-args_of-2.field-0 (payment b ∷ []) one two noted first c.in_ok-submit.ensures.submits
          ∙ sym (ap (λ a. calls_by b a) later);
    }
