use Rattle.act_executor.proofs.Common.{◌≡◌, [], ◌∷◌, ◌++◌, List, map, ap, sym, ◌∙◌, append_assoc}
use Rattle.act_executor.proofs.open.unzip.Goals as goal

one_over : {X Y : Type 0} (f : X → Y) (was after : List Y) (x : X) (left : List X) {rest : List X} (whole : List Y) → was ++ map f left ≡ whole →
    after ≡ was ++ f x ∷ [] → left ≡ x ∷ rest → after ++ map f rest ≡ whole
one_over f was after x left {rest} whole were pushed stepped =
    ap (λ l. l ++ map f rest) pushed ∙ append_assoc was (f x ∷ []) (map f rest) ∙ ap (λ l. was ++ map f l) (sym stepped) ∙ were

pub loop-pair-preserved : goal.loop-pair-preserved
loop-pair-preserved g c =
    let inv = c.loop-pair.invariant in
    record {
      firsts = one_over (λ (p : _ × _). p.0) c.loop-pair.firsts.items _ _ _ _ inv.firsts c.in_ok-push.ensures.items c.in-Some.ensures.steps.0;
      seconds = one_over (λ (p : _ × _). p.1) c.loop-pair.seconds.items _ _ _ _ inv.seconds c.in_ok-push-2.ensures.items c.in-Some.ensures.steps.0;
    }
