use Rattle.act_scripts.proofs.Common.{map, sym, ◌∙◌, subst, actor_spec_of, spelled_script, AreSound}
use Rattle.act_scripts.proofs.Roles.{unrefused, one_role_more}
use Rattle.act_scripts.proofs.script.add_role.Goals as goal

pub returns-clause-sound : goal.returns-clause-sound
returns-clause-sound c = λ sound.
    let fine = unrefused (spelled_script c.args.script.now) c.args.role (sym c.fault_of.ensures ∙ c.in_default.is) in
    subst (λ roles. AreSound (map actor_spec_of roles)) (sym c.in_ok-push.ensures.ok)
    (one_role_more c.args.script.now.casts c.args.role fine.0 fine.1 c.number.ensures.valid c.requires sound)
