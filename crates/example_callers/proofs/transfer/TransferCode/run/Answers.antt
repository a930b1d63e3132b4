use Rattle.example_callers.proofs.Common.{rules, ◌≡◌, true, false, is_some, [], ◌∷◌, length, ap, sym, ◌∙◌, inl, inr, Some, Ok, option_copied, Int, Plain}
use Rattle.example_callers.proofs.Common.{Balance, Deposit, Withdraw, kept_at, balance_call, withdraw_call, is_enough, is_amount}
use Rattle.example_callers.proofs.Amounts.{at_least, too_few}
use Rattle.example_callers.proofs.Calls.{called, kept_on, kept_here}
use Rattle.example_callers.proofs.transfer.TransferCode.run.Goals as goal

pub returns-in_default : goal.returns-in_default
returns-in_default g c = λ fresh.
    let t = c.args.self.now in
    let old = g.S.Session.seen c.args.session.now in
    let one = g.S.Session.seen c.ask.new.self in
    let zero : c.in_ok-asked.asked ≡ 0 = c.in_ok-asked.ensures.future ∙ ap length fresh in
    inl (record {
      calls = called t.from Balance [] c.new.result [] old one c.new.ensures fresh c.in_ok-asked.ensures.submits;
      asked = ap (λ k. is_some (kept_at one.kept k)) (sym zero) ∙ c.in_ok-asked.ensures.answered;
      short = ap (λ k. is_enough t.amount (kept_at one.kept k)) (sym zero) ∙ ap (is_enough t.amount) (sym c.answer.ensures ∙ ap option_copied c.in_default.is) ∙
          search rules;
    })

pub returns-in_default-2 : goal.returns-in_default-2
returns-in_default-2 g c = λ fresh.
    let t = c.args.self.now in
    let old = g.S.Session.seen c.args.session.now in
    let one = g.S.Session.seen c.ask.new.self in
    let zero : c.in_ok-asked.asked ≡ 0 = c.in_ok-asked.ensures.future ∙ ap length fresh in
    inl (record {
      calls = called t.from Balance [] c.new.result [] old one c.new.ensures fresh c.in_ok-asked.ensures.submits;
      asked = ap (λ k. is_some (kept_at one.kept k)) (sym zero) ∙ c.in_ok-asked.ensures.answered;
      short = ap (λ k. is_enough t.amount (kept_at one.kept k)) (sym zero) ∙ ap (is_enough t.amount) (sym c.answer.ensures ∙ ap option_copied c.in_default.is) ∙
          search rules;
    })

pub returns-then-balance-self : goal.returns-then-balance-self
returns-then-balance-self g c = λ fresh.
    let t = c.args.self.now in
    let old = g.S.Session.seen c.args.session.now in
    let one = g.S.Session.seen c.ask.new.self in
    let b = c.in-Some-Ok-Int.balance in
    let zero : c.in_ok-asked.asked ≡ 0 = c.in_ok-asked.ensures.future ∙ ap length fresh in
    let told : kept_at one.kept c.in_ok-asked.asked ≡ Some (Ok (Int b)) =
    sym c.answer.ensures ∙ ap option_copied c.in-Some-Ok-Int.is ∙
    ap (λ v. Some v) (c.in-Some-Ok-Int.field-0-is ∙ ap (λ v. Ok v) c.in-Some-Ok-Int.field-0-0-is) in
    let short : is_enough t.amount (Some (Ok (Int b))) ≡ false = too_few t.amount b (search (rules, c.if-balance-self.true)) in
    inl (record {
      calls = called t.from Balance [] c.new.result [] old one c.new.ensures fresh c.in_ok-asked.ensures.submits;
      asked = ap (λ k. is_some (kept_at one.kept k)) (sym zero) ∙ c.in_ok-asked.ensures.answered;
      short = ap (λ k. is_enough t.amount (kept_at one.kept k)) (sym zero) ∙ ap (is_enough t.amount) told ∙ short;
    })

pub returns-in_default-answer : goal.returns-in_default-answer
returns-in_default-answer g c = λ fresh.
    let t = c.args.self.now in
    let old = g.S.Session.seen c.args.session.now in
    let one = g.S.Session.seen c.ask.new.self in
    let two = g.S.Session.seen c.ask-2.new.self in
    let b = c.in-Some-Ok-Int.balance in
    let first : one.calls ≡ balance_call t ∷ [] = called t.from Balance [] c.new.result [] old one c.new.ensures fresh c.in_ok-asked.ensures.submits in
    let sum : c.in_ok-args_of.field-0 ≡ Plain (Int t.amount) ∷ [] = search rules in
    let told : kept_at one.kept c.in_ok-asked.asked ≡ Some (Ok (Int b)) =
    sym c.answer.ensures ∙ ap option_copied c.in-Some-Ok-Int.is ∙
    ap (λ v. Some v) (c.in-Some-Ok-Int.field-0-is ∙ ap (λ v. Ok v) c.in-Some-Ok-Int.field-0-0-is) in
    let asked : kept_at one.kept 0 ≡ Some (Ok (Int b)) = kept_here one (c.in_ok-asked.ensures.future ∙ ap length fresh) told in
    let enough : is_enough t.amount (Some (Ok (Int b))) ≡ true = at_least t.amount b (search (rules, c.if-balance-self.false)) in
    let place : c.in_ok-taken.taken ≡ 1 = c.in_ok-taken.ensures.future ∙ ap length first in
    let kept : kept_at two.kept c.in_ok-taken.taken ≡ option_copied c.answer-2.result = sym c.answer-2.ensures in
    inr (inl (record {
      calls = called t.from Withdraw (Plain (Int t.amount) ∷ []) c.in_ok-args_of.field-0 (balance_call t ∷ []) one two sum first c.in_ok-taken.ensures.submits;
      enough = ap (is_enough t.amount) (kept_on one two 0 (Ok (Int b)) c.ask-2.ensures.on asked) ∙ enough;
      asked = ap (λ k. is_some (kept_at two.kept k)) (sym place) ∙ c.in_ok-taken.ensures.answered;
      refused = ap (λ k. is_amount (kept_at two.kept k)) (sym place) ∙ ap is_amount (kept ∙ ap option_copied c.in_default-answer.is) ∙ search rules;
    }))

pub returns-in_default-answer-2 : goal.returns-in_default-answer-2
returns-in_default-answer-2 g c = λ fresh.
    let t = c.args.self.now in
    let old = g.S.Session.seen c.args.session.now in
    let one = g.S.Session.seen c.ask.new.self in
    let two = g.S.Session.seen c.ask-2.new.self in
    let b = c.in-Some-Ok-Int.balance in
    let first : one.calls ≡ balance_call t ∷ [] = called t.from Balance [] c.new.result [] old one c.new.ensures fresh c.in_ok-asked.ensures.submits in
    let sum : c.in_ok-args_of.field-0 ≡ Plain (Int t.amount) ∷ [] = search rules in
    let told : kept_at one.kept c.in_ok-asked.asked ≡ Some (Ok (Int b)) =
    sym c.answer.ensures ∙ ap option_copied c.in-Some-Ok-Int.is ∙
    ap (λ v. Some v) (c.in-Some-Ok-Int.field-0-is ∙ ap (λ v. Ok v) c.in-Some-Ok-Int.field-0-0-is) in
    let asked : kept_at one.kept 0 ≡ Some (Ok (Int b)) = kept_here one (c.in_ok-asked.ensures.future ∙ ap length fresh) told in
    let enough : is_enough t.amount (Some (Ok (Int b))) ≡ true = at_least t.amount b (search (rules, c.if-balance-self.false)) in
    let place : c.in_ok-taken.taken ≡ 1 = c.in_ok-taken.ensures.future ∙ ap length first in
    let kept : kept_at two.kept c.in_ok-taken.taken ≡ option_copied c.answer-2.result = sym c.answer-2.ensures in
    inr (inl (record {
      calls = called t.from Withdraw (Plain (Int t.amount) ∷ []) c.in_ok-args_of.field-0 (balance_call t ∷ []) one two sum first c.in_ok-taken.ensures.submits;
      enough = ap (is_enough t.amount) (kept_on one two 0 (Ok (Int b)) c.ask-2.ensures.on asked) ∙ enough;
      asked = ap (λ k. is_some (kept_at two.kept k)) (sym place) ∙ c.in_ok-taken.ensures.answered;
      refused = ap (λ k. is_amount (kept_at two.kept k)) (sym place) ∙ ap is_amount (kept ∙ ap option_copied c.in_default-answer.is) ∙ search rules;
    }))

pub returns : goal.returns
returns g c = λ fresh.
    let t = c.args.self.now in
    let old = g.S.Session.seen c.args.session.now in
    let one = g.S.Session.seen c.ask.new.self in
    let two = g.S.Session.seen c.ask-2.new.self in
    let three = g.S.Session.seen c.ask-3.new.self in
    let b = c.in-Some-Ok-Int.balance in
    let first : one.calls ≡ balance_call t ∷ [] = called t.from Balance [] c.new.result [] old one c.new.ensures fresh c.in_ok-asked.ensures.submits in
    let sum : c.in_ok-args_of.field-0 ≡ Plain (Int t.amount) ∷ [] = search rules in
    let sum2 : c.in_ok-args_of-2.field-0 ≡ Plain (Int t.amount) ∷ [] = search rules in
    let second : two.calls ≡ balance_call t ∷ withdraw_call t ∷ [] =
    called t.from Withdraw (Plain (Int t.amount) ∷ []) c.in_ok-args_of.field-0 (balance_call t ∷ []) one two sum first c.in_ok-taken.ensures.submits in
    let told : kept_at one.kept c.in_ok-asked.asked ≡ Some (Ok (Int b)) =
    sym c.answer.ensures ∙ ap option_copied c.in-Some-Ok-Int.is ∙
    ap (λ v. Some v) (c.in-Some-Ok-Int.field-0-is ∙ ap (λ v. Ok v) c.in-Some-Ok-Int.field-0-0-is) in
    let asked : kept_at one.kept 0 ≡ Some (Ok (Int b)) = kept_here one (c.in_ok-asked.ensures.future ∙ ap length fresh) told in
    let enough : is_enough t.amount (Some (Ok (Int b))) ≡ true = at_least t.amount b (search (rules, c.if-balance-self.false)) in
    let kept : kept_at two.kept c.in_ok-taken.taken ≡ option_copied c.answer-2.result = sym c.answer-2.ensures in
    let v = c.in-Some-Ok-Int-answer in
    let left : kept_at two.kept c.in_ok-taken.taken ≡ Some (Ok (Int _)) =
    kept ∙ ap option_copied v.is ∙ ap (λ x. Some x) (v.field-0-is ∙ ap (λ x. Ok x) v.field-0-0-is) in
    let granted : kept_at two.kept 1 ≡ Some (Ok (Int _)) = kept_here two (c.in_ok-taken.ensures.future ∙ ap length first) left in
    inr (inr (record {
      calls = called t.to Deposit (Plain (Int t.amount) ∷ []) c.in_ok-args_of-2.field-0
          (balance_call t ∷ withdraw_call t ∷ []) two three sum2 second c.in_ok-ask.ensures.submits;
      enough = ap (is_enough t.amount) (kept_on two three 0 (Ok (Int b)) c.ask-3.ensures.on (kept_on one two 0 (Ok (Int b)) c.ask-2.ensures.on asked)) ∙ enough;
      granted = ap is_amount (kept_on two three 1 (Ok (Int _)) c.ask-3.ensures.on granted);
    }))
