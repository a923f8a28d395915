-- What the senders that have joined had put is known, and the others are to come.
use Rattle.std.proofs.Common.{◌≡◌, ◌≤◌, ◌+◌, ◌++◌, length, map}
use Rattle.std.specs.Prelude.{vec_capacity, All}
use Rattle.std.specs.List.{AllZip}
use Rattle.std.specs.Vec.Iter.{into_iter_items}
use Rattle.std.specs.Arc.{arc_value}
use Rattle.crossbeam_queue.specs.SegTies.{IsSegPassOf}
use Rattle.tp_inbox.specs.Rule.{owner_pass}
use Rattle.tp_inbox.specs.Ledgers.{IsSenderInto, put_by}
use Rattle.tp_inbox.specs.InboxEndFields.{inbox_of, sent_by}
use Rattle.tp_inbox.specs.Gathers.{IsPutOf}
use Rattle.tp_inbox.proofs.gathered.gather.Given as goal

abbrev pub invariant-loop-sender : goal.invariant-loop-sender
invariant-loop-sender g l =
    let rest = into_iter_items l.sender-iterator in
    let was = l.initial.pass.me.view.client in
    let ledgers = l.pass.me.view.client.known in
    let sent = sent_by (arc_value l.channel).routes.items l.sources.items ledgers in
    record {
      pass : IsSegPassOf (arc_value l.channel).queue l.pass;
      view : l.pass.me.view.client ≡ owner_pass was.split_off was.taken ledgers;
      known : AllZip (IsPutOf (arc_value l.channel).routes.items) ledgers sent;
      as_many : length l.sources.items ≡ length ledgers;
      inbox : All (IsSenderInto (inbox_of (arc_value l.channel))) rest;
      lists : sent ++ map put_by rest ≡ map put_by l.fn.senders.items;
      room : length l.sources.items + length rest ≤ vec_capacity l.sources;
    }
