use Rattle.act_drive.proofs.Common.{refl, ap, rules, ◌≡◌, None, OwnerView, with_sent}
use Rattle.act_drive.proofs.Drivers.{calling_taken, stays_same, waits_trans}
use Rattle.act_drive.proofs.Tracing.{traces_taken, ready_sends}
use Rattle.act_drive.proofs.driver.Driver.send_next.Goals as goal

pub post_letter-requires-clause-calling : goal.post_letter-requires-clause-calling
post_letter-requires-clause-calling g c =
    let packet = c.in-Some.packet in let empty : c.args.self.now.outbox ≡ None = search rules in
    calling_taken _ packet.future packet (search rules) (search rules) empty (search rules) refl refl refl c.requires.calling

pub returns : goal.returns
returns g c =
    let packet = c.in-Some.packet in
    let sent : c.next_packet.new.self ≡ with_sent c.args.self.now.owner packet.future = search rules in
    let posted = c.post_letter.ensures in
    record {
      only_waits = record {
        calling = posted.calling;
        waits = waits_trans c.args.self.now (record {
          stay =
              stays_same c.args.self.now _ (ap (λ (o : OwnerView). o.id) sent) (ap (λ (o : OwnerView). o.kept) sent)
              (ap (λ (o : OwnerView). o.limits) sent) refl;
          calls = ap (λ (o : OwnerView). o.calls) sent;
          handles = ap (λ (o : OwnerView). o.handles) sent;
          kills = refl;
          heard = λ notice has. has;
        })
            posted.waits;
        traced = λ start done is. posted.traced start done (traces_taken c.args.lines.now c.args.self.now _ packet
            (ready_sends c.args.self.now.owner packet.future (search rules)) sent refl refl start done is);
      };
    }
