use Rattle.example_kinds.proofs.Common.{option_map, replicate, slot_keeps, bank_step, bank_text, HoldsItsMoney}
use Rattle.actors.specs.Worlds.{stage_view}
use Rattle.example_kinds.proofs.Keeps.{keeps, empty}
use Rattle.example_kinds.proofs.kept.bank_stage.Goals as goal

pub returns-clause-kept : goal.returns-clause-kept
returns-clause-kept g c = λ casts events accounts reached opens.
    slot_keeps bank_step bank_text HoldsItsMoney keeps (replicate accounts 0) (empty accounts) casts events c.args.a opens
    (option_map (stage_view g.K.Actor.state) c.stage.result) (c.stage.ensures.reached casts events reached)
