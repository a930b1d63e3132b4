use Rattle.act_orders.proofs.Common.{◌≡◌, ap, sym, ◌∙◌, refl, Some, None, subst, arith, Run, call_of, place_of, run_of}
use Rattle.act_orders.proofs.Running.{next_run, not_run, before_is, run_at, ran_at}
use Rattle.act_orders.proofs.runs.fault_of_run.Goals as goal

pub returns-in-Some : goal.returns-in-Some
returns-in-Some c =
    let told = c.args.told.now in let i = c.args.place in let places = c.args.places.now in
    let n : c.run-run.result.call ≡ (run_of told i).call = ap (λ (x : Run). x.call) c.run-run.ensures in
    let at : place_of places (run_of told i).call ≡ Some c.in-Some.first = ap (λ k. place_of places k) (sym n) ∙ c.in-Some.is in
    let ran = ran_at told places i (run_of told i).call c.in-Some.first c.requires.places
    (c.requires.whole.runs i c.requires.within) at in
    (ran.0, record { actor = ran.1; call = (run_of told i).call }, run_of told i, ran.2, run_at told i c.requires.within, refl)

pub returns-in-Some-places : goal.returns-in-Some-places
returns-in-Some-places c turn =
    let told = c.args.told.now in let i = c.args.place in let places = c.args.places.now in let before = c.args.before.now in
    let r : c.run-run.result ≡ run_of told i = c.run-run.ensures in
    let n : c.run-run.result.call ≡ (run_of told i).call = ap (λ (x : Run). x.call) r in
    let here : (call_of told (run_of told i).call).actor ≡ (run_of told i).actor = cc in
    let fresh : place_of places (run_of told i).call ≡ None = ap (λ k. place_of places k) (sym n) ∙ c.in_default.is in
    let was : place_of before (run_of told i).call ≡ Some c.in-Some-before.before =
    ap (λ k. place_of before k) (sym n) ∙ c.in-Some-before.is in
    let ran : place_of places c.in-Some-before.before ≡ Some c.in-Some-places.field-0 = c.in-Some-places.is in
    next_run told places before i c.requires.places c.requires.before (c.requires.whole.runs i c.requires.within) here fresh
    (λ p e. let same : c.in-Some-before.before ≡ p = cc in
    (c.in-Some-places.field-0, subst (λ q. place_of places q ≡ Some c.in-Some-places.field-0) same ran)) turn

pub returns-in-None-places : goal.returns-in-None-places
returns-in-None-places c =
    let told = c.args.told.now in let i = c.args.place in let places = c.args.places.now in let before = c.args.before.now in
    let p = c.in-Some-before.before in let r : c.run-run.result ≡ run_of told i = c.run-run.ensures in
    let n : c.run-run.result.call ≡ (run_of told i).call = ap (λ (x : Run). x.call) r in
    let was : place_of before (run_of told i).call ≡ Some p = ap (λ k. place_of before k) (sym n) ∙ c.in-Some-before.is in
    let lt = c.requires.whole.runs i c.requires.within in
    let is = before_is told (run_of told i).call p (place_of before (run_of told i).call) (c.requires.before.call _ lt) was in
    let none : place_of places p ≡ None = c.in-None-places.is in (
      run_of told i,
      run_at told i c.requires.within,
      is.0,
      is.1,
      not_run told places i p c.requires.places (omega (arith, is.0, lt)) none,
    )

pub returns-in-None : goal.returns-in-None
returns-in-None c turn =
    let told = c.args.told.now in let i = c.args.place in let places = c.args.places.now in let before = c.args.before.now in
    let r : c.run-run.result ≡ run_of told i = c.run-run.ensures in
    let n : c.run-run.result.call ≡ (run_of told i).call = ap (λ (x : Run). x.call) r in
    let here : (call_of told (run_of told i).call).actor ≡ (run_of told i).actor = cc in
    let fresh : place_of places (run_of told i).call ≡ None = ap (λ k. place_of places k) (sym n) ∙ c.in_default.is in
    let was : place_of before (run_of told i).call ≡ None = ap (λ k. place_of before k) (sym n) ∙ c.in-None.is in
    next_run told places before i c.requires.places c.requires.before (c.requires.whole.runs i c.requires.within) here fresh
    (λ p e. absurd (cc)) turn
