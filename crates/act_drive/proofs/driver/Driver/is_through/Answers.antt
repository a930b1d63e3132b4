use Rattle.act_drive.proofs.Common.{not-true, rules, ◌≡◌, true, false, sym, ◌∙◌, get_or}
use Rattle.act_drive.proofs.Through.{through_answered}
use Rattle.act_drive.proofs.driver.Driver.is_through.Goals as goal

pub returns-then-self-number : goal.returns-then-self-number
returns-then-self-number c = λ lines calling is.
    let note_posted : get_or c.args.self.now.note_posted c.args.a false ≡ true = search rules in
    through_answered c.args.a calling note_posted (sym c.awaits.ensures ∙ not-true c.awaits.result is)
