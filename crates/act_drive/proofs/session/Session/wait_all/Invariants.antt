use Rattle.act_drive.proofs.Common.{◌≡◌, All, take, map, is_some, true, kept_at, Await, IsLater, OnlyHears, DoesMore}
use Rattle.act_drive.proofs.session.Session.wait_all.Given as goal

-- the futures so far are waited for
abbrev pub invariant-loop-k : goal.invariant-loop-k
invariant-loop-k g l = record {
  answered : All (λ k. is_some (kept_at (g.Self.Session.seen l.self).kept k) ≡ true) (take l.k-index l.futures);
  does : DoesMore (map Await (take l.k-index l.futures)) (g.Self.Session.seen l.initial.self) (g.Self.Session.seen l.self);
  hears : OnlyHears (g.Self.Session.seen l.initial.self) (g.Self.Session.seen l.self);
  later : IsLater (g.Self.Session.seen l.initial.self) (g.Self.Session.seen l.self);
}
