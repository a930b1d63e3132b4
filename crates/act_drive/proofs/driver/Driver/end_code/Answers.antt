use Rattle.act_drive.proofs.driver.Driver.end_code.Goals as goal

pub returns-then-is_ok-clause-calling : goal.returns-then-is_ok-clause-calling
returns-then-is_ok-clause-calling g c = c.wind_up.ensures.calling

pub returns-then-is_ok-clause-stays : goal.returns-then-is_ok-clause-stays
returns-then-is_ok-clause-stays g c = c.wind_up.ensures.stays

pub returns-clause-calling : goal.returns-clause-calling
returns-clause-calling g c = c.starve.ensures.calling

pub returns-clause-ended : goal.returns-clause-ended
returns-clause-ended g c _ = c.starve.ensures.through
