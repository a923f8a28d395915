-- The next port type has the lists of what it receives and sends.
use Rattle.std.proofs.Common.{All, arith, map}
use Rattle.tp_checks.specs.{Resolved.IsMade, Rules.AreMessagesKnown}
use Rattle.tp_checks.proofs.{ModuleRefusalPropagation.all_at_map, ModuleRefusalPropagation.handed_on, ListPrefixGrowth.zip_map_more}
use Rattle.tp_checks.proofs.ports.make_port_types.Goals as goal

pub loop-port_type-preserved : goal.loop-port_type-preserved
loop-port_type-preserved c =
    rw c.in_ok-push.ensures.items
    (zip_map_more (IsMade c.args.types.now) (λ p. p.now) c.args.port_types.now c.loop-port_type.made.items c.loop-port_type.port_type-index
    c.port_type-item.result c.in_ok-one.one (omega arith) c.port_type-item.is
    c.loop-port_type.invariant c.in_ok-one.ensures.made)

pub returns-in_err-one-clause-refused : goal.returns-in_err-one-clause-refused
returns-in_err-one-clause-refused c =
    handed_on c.from_residual.result _ c.from_residual.ensures.1 c.in_err-one.ensures.refused
    (λ (h : All (AreMessagesKnown c.args.types.now) (map (λ p. p.now) c.args.port_types.now)).
    all_at_map (AreMessagesKnown c.args.types.now) (λ p. p.now) c.args.port_types.now c.loop-port_type.port_type-index c.port_type-item.result
    (omega arith) c.port_type-item.is h)
