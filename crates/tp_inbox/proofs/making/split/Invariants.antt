-- The senders are those of the first routes, and the pass is that of an owner that split so many off.
use Rattle.std.proofs.Common.{◌≡◌, [], length}
use Rattle.std.specs.Arc.{arc_value}
use Rattle.crossbeam_queue.specs.SegTies.{IsSegPassOf}
use Rattle.tp_inbox.specs.Rule.{owner_pass}
use Rattle.tp_inbox.specs.Ledgers.{AreMade}
use Rattle.tp_inbox.specs.InboxEndFields.{inbox_of}
use Rattle.tp_inbox.proofs.making.split.Given as goal

abbrev pub invariant-loop-place : goal.invariant-loop-place
invariant-loop-place l =
    let channel = arc_value l.channel in
    record {
      pass : IsSegPassOf channel.queue l.pass;
      view : l.pass.me.view.client ≡ owner_pass l.place [] [];
      senders : AreMade (inbox_of channel) l.place l.senders.items;
      count : l.count ≡ length channel.routes.items;
    }
