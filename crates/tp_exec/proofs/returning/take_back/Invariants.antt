-- What comes back for the rest of the components completes what has come back.
use Rattle.std.proofs.Common.{◌++◌, ℕ, List}
use Rattle.std.specs.List.{AllZip}
use Rattle.std.specs.Vec.Iter.{into_iter_items}
use Rattle.tp_inbox.specs.declared.entry.Entry.{Entry}
use Rattle.tp_inbox.specs.Ledgers.{Inbox, SenderLedger}
use Rattle.tp_exec.specs.ReturnedSenders.{AreAtHand, IsHandedBack, links_by}
use Rattle.tp_exec.specs.Rounds.{Link}
use Rattle.tp_exec.proofs.returning.take_back.Given as goal

abbrev pub invariant-loop-source : goal.invariant-loop-source
invariant-loop-source l =
    let rest = into_iter_items l.source-iterator in
    record {
      held : (i : Inbox) (logs : ℕ → List Entry) (more : List Link) → AreAtHand logs l.initial.hands.items (links_by i l.fn.sources.items ++ more)
          → AreAtHand logs l.hands.items (links_by i rest ++ more);
      back : (i : Inbox) (logs : ℕ → List Entry) (more : List Link) → AreAtHand logs l.initial.hands.items (links_by i l.fn.sources.items ++ more)
          → (ss : List SenderLedger) → AllZip (IsHandedBack logs) (links_by i rest) ss → AllZip (IsHandedBack logs) (links_by i l.fn.sources.items)
          (l.back.items ++ ss);
    }
