use Rattle.act_early.proofs.Found.{found, made_early}
use Rattle.act_early.proofs.Listing.{list_play}
use Rattle.act_early.proofs.laws.lists_are_plays.Goals as goal

pub returns-clause-plays : goal.returns-clause-plays
returns-clause-plays _ casts plans events ok keeps = list_play casts plans events ok keeps

pub returns-clause-found : goal.returns-clause-found
returns-clause-found _ casts plans may_lose seen events search ok keeps over losing = found casts plans may_lose seen events search ok keeps over losing

pub returns-clause-early : goal.returns-clause-early
returns-clause-early _ casts plans events ok keeps over = made_early casts plans events ok keeps over
