-- The names of specifications and of the crates below that most proofs here cite, passed on from one place.
pub use Rattle.act_drive.proofs.Alone.{run_named, unused_pair}
pub use Rattle.act_mailbox.specs.Notices.{IsNoDeath, NamesPlace, RepliesView, ReplyExecView, new_exec}
pub use Rattle.act_rules.specs.Consistent.{IsPrefix}
pub use Rattle.act_rules.specs.declared.history.RunItem.{RunItem}
pub use Rattle.std.proofs.Common.{All, AllPairs, Err, List, Ok, Result, [], ap, append-nil, arith, length, map, refl, rules, subst, sym, ℕ, ◌++◌, ◌<◌, ◌∙◌, ◌∷◌}
pub use Rattle.std.proofs.Common.{◌≡◌, ◌≢◌}
pub use Rattle.std.proofs.lemmas.List.Elements.{All-nil, All-push}
pub use Rattle.std.specs.Prelude.{OnErr, OnOk, slice_index_or}
