-- Further rows, for rules that no worked row tells apart from others.
use Rattle.std.specs.Prelude.{[], ◌∷◌, codes}
use Rattle.act_rows.specs.ScriptRows.{Writes}

pub record FurtherRows : Type 0 where
  -- a call that was sent may be sent again once it is answered
  pub sent_again : Writes (
      codes "actor a1 counter c1" ∷ codes "submit c1 a1 add 5" ∷ codes "send c1 0" ∷ codes "deliver 0" ∷
      codes "run a1 c1" ∷ codes "collect 0" ∷ codes "send c1 0" ∷ codes "deliver 1" ∷ codes "run a1 c1" ∷ []) (
      codes "0: future c1.0" ∷ codes "1: mail 0" ∷ codes "2: new" ∷ codes "3: place 0 reply 0" ∷
      codes "4: kept c1.0" ∷ codes "5: mail 1" ∷ codes "6: repeat" ∷ codes "7: gap" ∷ codes "c1.0 a1 = 5" ∷
      codes "a1 live counter 5" ∷ codes "a1.0 c1.0 add 5" ∷ [])
  -- a retired actor takes no kill
  pub kill_after_retiring : Writes (
      codes "actor a1 counter c1" ∷ codes "kill c1 a1" ∷ codes "release c1 a1" ∷ codes "deliver 0" ∷
      codes "retire a1" ∷ codes "take a1" ∷ codes "retire a1" ∷ []) (
      codes "0: asked" ∷ codes "1: mail 0" ∷ codes "2: new" ∷ codes "3: retired" ∷ codes "4: refused ActorEnded" ∷
      codes "5: refused ActorEnded" ∷ codes "a1 retired counter 0" ∷ [])
  -- a death counts the calls that it answers
  pub death_after_answer : Writes (
      codes "actor a1 counter c1" ∷ codes "submit c1 a1 add 1" ∷ codes "submit c1 a1 add 2" ∷ codes "send c1 0" ∷
      codes "deliver 0" ∷ codes "run a1 c1" ∷ codes "collect 0" ∷ codes "kill c1 a1" ∷ codes "take a1" ∷
      codes "tell a1 c1" ∷ codes "collect 1" ∷ codes "tell a1 c1" ∷ codes "collect 2" ∷ []) (
      codes "0: future c1.0" ∷ codes "1: future c1.1" ∷ codes "2: mail 0" ∷ codes "3: new" ∷
      codes "4: place 0 reply 0" ∷ codes "5: kept c1.0" ∷ codes "6: asked" ∷ codes "7: dead" ∷ codes "8: reply 1" ∷
      codes "9: died 1" ∷ codes "10: reply 2" ∷ codes "11: died 0" ∷ codes "c1.0 a1 = 1" ∷
      codes "c1.1 a1 = ActorDied" ∷ codes "a1 dead" ∷ codes "a1.0 c1.0 add 1" ∷ [])
  -- the first failed argument is the one that is named
  pub two_failed_arguments : Writes (
      codes "actor a1 list c1" ∷ codes "submit c1 a1 pop" ∷ codes "submit c1 a1 at 5" ∷ codes "send c1 0" ∷
      codes "send c1 1" ∷ codes "deliver 0" ∷ codes "deliver 1" ∷ codes "run a1 c1" ∷ codes "run a1 c1" ∷
      codes "collect 0" ∷ codes "collect 1" ∷ codes "submit c1 a1 push @1 @0" ∷ codes "send c1 2" ∷
      codes "deliver 2" ∷ codes "run a1 c1" ∷ codes "collect 2" ∷ []) (
      codes "0: future c1.0" ∷ codes "1: future c1.1" ∷ codes "2: mail 0" ∷ codes "3: mail 1" ∷ codes "4: new" ∷
      codes "5: new" ∷ codes "6: place 0 reply 0" ∷ codes "7: place 1 reply 1" ∷ codes "8: kept c1.0" ∷
      codes "9: kept c1.1" ∷ codes "10: future c1.2" ∷ codes "11: mail 2" ∷ codes "12: new" ∷
      codes "13: place 2 reply 2" ∷ codes "14: kept c1.2" ∷ codes "c1.0 a1 = NoItems" ∷ codes "c1.1 a1 = NoItem" ∷
      codes "c1.2 a1 = Dependency(1)" ∷ codes "a1 live list" ∷ codes "a1.0 c1.0 pop" ∷ codes "a1.1 c1.1 at 5" ∷
      codes "a1.2 c1.2 push !1 !0" ∷ [])
