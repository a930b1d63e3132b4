-- Whether the events of a play are those that the threads noted.
use Rattle.std.specs.Prelude.{◌≡◌, ℕ, ◌+◌, true, List, length, All}
use Rattle.std.specs.List.{sum_by}
use Rattle.act_rules.specs.declared.event.Event.{Event}
use Rattle.act_mailbox.specs.declared.thread.Page.{Page}
use Rattle.act_executor.specs.declared.run.Pages.{Pages}
use Rattle.act_replay.specs.declared.recorded.Source.{Source}
use Rattle.act_replay.specs.declared.recorded.Source.TheVariants.{Noted, Found}

-- memory served for each mark of these pages
abbrev pub AreWhole : List Page → Type 0
AreWhole pages = All (λ page. page.is_whole ≡ true) pages

-- how many marks they have
abbrev pub marks_of : List Page → ℕ
marks_of pages = sum_by (λ page. length page.marks.items) pages

-- no thread lost a mark, and all have so many
pub record HaveAll (pages : Pages Page) (marks : ℕ) : Type 0 where
  pub callers : AreWhole pages.of_callers.items
  pub actors : AreWhole pages.of_actors.items
  pub count : marks ≡ marks_of pages.of_callers.items + marks_of pages.of_actors.items

-- of events that are told as noted: there is one for each mark of all threads
abbrev pub AreFrom : Source → Pages Page → List Event → Type 0
AreFrom Noted pages events = HaveAll pages (length events)
AreFrom Found pages events = Unit {0}
