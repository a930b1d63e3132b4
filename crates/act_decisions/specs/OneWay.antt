-- What the lines of a history tell of two plays of it.
use Rattle.std.specs.Prelude.{ℕ, ◌≤◌, List, length, map}
use Rattle.act_types.specs.declared.limits.TheConstants.{MAX_SCRIPT_BYTES}
use Rattle.act_rules.specs.Grammar.{Script}
use Rattle.act_rules.specs.Laws.{history}
use Rattle.act_rules.specs.Scripts.{actor_spec_of}
use Rattle.act_summaries.specs.Summaries.{EndAlike}
use Rattle.act_decisions.specs.Play.{IsPlayText}

-- two plays of one history that a script can hold end alike
abbrev pub PlaysAreReadOneWay : Type 0
PlaysAreReadOneWay = (script : Script) (rest one other : List ℕ) →
    length one ≤ MAX_SCRIPT_BYTES → length other ≤ MAX_SCRIPT_BYTES →
    (play : IsPlayText script rest one) (another : IsPlayText script rest other) →
    let casts = map actor_spec_of script.roles in
    EndAlike rest (history casts play.events) (history casts another.events)
