-- What contracts see of a mail line and its letters.
use Rattle.std.specs.Prelude.{ℕ}
use Rattle.atomic_table.specs.Seated.{TableId}
use Rattle.act_mailbox.specs.declared.mail.Letter.{Letter}
use Rattle.act_mailbox.specs.declared.mail.Letter.TheVariants.{Call, Note}

-- which line it is, and whose
pub record MailView : Type 0 where
  pub line : TableId
  pub actor : ℕ

-- who posts a letter
abbrev pub caller_of : Letter → ℕ
caller_of (Call packet) = packet.caller
caller_of (Note note) = note.caller
