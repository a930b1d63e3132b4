-- The starter's passes at their places.
use Rattle.act_executor.proofs.Common.{◌≡◌, ℕ, ◌+◌, ◌<◌, List, length, map, get_or, sym, ap, ◌∙◌, arith, range_with_len, get_or-map, get_or-range_with_len}
use Rattle.act_executor.proofs.Common.{Asked, PutterView, new_putter, ControlView, starter, Endpoint, AreStarters, as_long}

abbrev pass_on : ControlView → PutterView Asked ℕ
pass_on control = new_putter control.line starter

-- passes that stand as their lines do
pub are_starters : (controls : List ControlView) (endpoints : List (Endpoint (PutterView Asked ℕ))) →
    map (λ (s : Endpoint (PutterView Asked ℕ)). s.place) endpoints ≡ range_with_len 0 (length endpoints) →
    map (λ (s : Endpoint (PutterView Asked ℕ)). s.pass) endpoints ≡ map pass_on controls → AreStarters controls endpoints
are_starters controls endpoints places passes =
    let long : length endpoints ≡ length controls = as_long (λ (s : Endpoint (PutterView Asked ℕ)). s.pass) pass_on endpoints controls passes in
    record {
      unused = λ k d below.
          let endpoint = get_or endpoints k d in let plus : 0 + k ≡ k = omega arith in
          let at : endpoint.place ≡ k = sym (get_or-map (λ (s : Endpoint (PutterView Asked ℕ)). s.place) endpoints k d 0 below) ∙
          ap (λ l. get_or l k 0) places ∙ get_or-range_with_len 0 (length endpoints) k 0 below ∙ plus in
          let within : k < length controls = omega (arith, long) in
          record {
            below = omega (arith, at, within);
            new = λ control. sym (get_or-map (λ (s : Endpoint (PutterView Asked ℕ)). s.pass) endpoints k d (pass_on control) below) ∙
                ap (λ l. get_or l k (pass_on control)) passes ∙ get_or-map pass_on controls k control (pass_on control) within ∙
                ap (λ j. pass_on (get_or controls j control)) (sym at);
          };
      places = places ∙ ap (range_with_len 0) long;
    }
