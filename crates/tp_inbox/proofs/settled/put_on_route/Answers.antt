-- What came to the desk and what is left are all that was put.
use Rattle.std.proofs.Common.{arith}
use Rattle.tp_inbox.proofs.MessagesPutOnRoute.{all_of_rest}
use Rattle.tp_inbox.proofs.settled.put_on_route.Goals as goal

pub returns : goal.returns
returns c =
    all_of_rest c.args.desk.now.comp c.args.route c.requires c.args.desk.now.log c.args.rest.now c.loop-port.port-index (omega arith) _ c.loop-port.invariant
