-- None of those before has this component.
use Rattle.std.proofs.Common.{◌≢◌, take}
use Rattle.std.specs.Prelude.{All}
use Rattle.tp_inbox.specs.Ledgers.{SenderLedger}
use Rattle.tp_inbox.proofs.making.sender_of.Given as goal

abbrev pub invariant-loop-index : goal.invariant-loop-index
invariant-loop-index l = All (λ (s : SenderLedger). s.source ≢ l.source) (take l.index l.senders)
