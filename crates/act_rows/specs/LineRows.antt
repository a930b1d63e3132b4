-- Lines that just keep to the grammar, lines that just don't, and plans that are refused.
use Rattle.std.specs.Prelude.{ℕ, ◌≡◌, List, [], ◌∷◌, ◌++◌, replicate, codes}
use Rattle.act_rules.specs.declared.script.Wrong.TheVariants.{BadPlan}
use Rattle.act_rows.specs.Rows.{lines_text}
use Rattle.act_rules.specs.Scripts.{output_of}
use Rattle.act_rows.specs.ScriptRows.{Writes, HasFault}

-- after the role of a counter the line is faulty
abbrev pub IsFaulty : List ℕ → Type 0
IsFaulty line = Writes (codes "actor a1 counter c1" ∷ line ∷ []) (codes "line 2: BadLine" ∷ [])

-- after the role of a counter the line writes these
abbrev pub LineWrites : List ℕ → List (List ℕ) → Type 0
LineWrites line lines = Writes (codes "actor a1 counter c1" ∷ line ∷ []) lines

-- so many bytes of a comment
abbrev pub comment : ℕ → List ℕ
comment count = replicate count 35

pub record FaultyLines : Type 0 where
  pub number_above_all : IsFaulty (codes "submit c1 a1 add 9223372036854775808")
  pub minus_nothing : IsFaulty (codes "submit c1 a1 add -0")
  pub plus_sign : IsFaulty (codes "submit c1 a1 add +1")
  pub text_of_nothing : IsFaulty (codes "submit c1 a1 put \"\" 1")
  pub long_text : IsFaulty (codes "submit c1 a1 put \"" ++ replicate 65 97 ++ codes "\" 1")
  pub caller_above_all : IsFaulty (codes "submit c17 a1 get")
  pub caller_with_a_zero : IsFaulty (codes "submit c01 a1 get")
  pub actor_above_all : IsFaulty (codes "submit c1 a9 get")
  pub zero_twice : IsFaulty (codes "send c1 00")
  pub place_above_all : IsFaulty (codes "deliver 4294967296")
  pub two_spaces : IsFaulty (codes "send c1  0")
  pub space_at_the_end : IsFaulty (codes "send c1 0 ")
  pub space_after_a_method : IsFaulty (codes "submit c1 a1 get ")
  pub space_at_the_start : IsFaulty (codes " send c1 0")
  pub tab_for_a_space : IsFaulty (codes "send c1" ++ 9 ∷ codes "0")
  pub carriage_return_at_the_end : IsFaulty (codes "send c1 0" ++ 13 ∷ [])
  pub long_comment : IsFaulty (comment 513)
  pub tab_in_a_comment : IsFaulty (comment 1 ++ 9 ∷ [])

pub record FineLines : Type 0 where
  pub largest_place : LineWrites (codes "deliver 4294967295") (codes "0: refused NoMail" ∷ codes "a1 live counter 0" ∷ [])
  pub least_number : LineWrites (codes "submit c1 a1 add -9223372036854775808") (codes "0: future c1.0" ∷ codes "c1.0 a1 ?" ∷ codes "a1 live counter 0" ∷ [])
  pub quotes_in_a_text : LineWrites (codes "submit c1 a1 put \"\"\" 1") (codes "0: future c1.0" ∷ codes "c1.0 a1 ?" ∷ codes "a1 live counter 0" ∷ [])
  pub comment_of_a_full_line : LineWrites (comment 512) (codes "a1 live counter 0" ∷ [])
  pub empty_line : LineWrites [] (codes "a1 live counter 0" ∷ [])
  pub no_line_end : output_of (codes "actor a1 counter c1") ≡ lines_text (codes "a1 live counter 0" ∷ [])

pub record FaultyPlans : Type 0 where
  -- the caller with the least number comes first
  pub least_caller_first : HasFault (
      codes "actor a1 counter c1 c2" ∷ codes "release c2 a1" ∷ codes "copy c2 a1" ∷ codes "release c1 a1" ∷
      codes "kill c1 a1" ∷ []) (5, BadPlan)
  pub awaits_no_future : HasFault (codes "actor a1 counter c1" ∷ codes "await c1 0" ∷ []) (2, BadPlan)
  pub caller_without_a_role : HasFault (codes "actor a1 counter c1" ∷ codes "submit c2 a1 get" ∷ []) (2, BadPlan)
