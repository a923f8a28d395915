-- The role is the one of the component at this place.
use Rattle.std.proofs.Common.{refl}
use Rattle.tp_config.specs.Shape.{setup_of}
use Rattle.tp_config.proofs.ComponentAndPortLookups.{member_at, role_at}
use Rattle.tp_config.proofs.config.Config.role.Goals as goal

pub returns : goal.returns
returns c =
    let i = c.self.inside in
    let s = setup_of i.types.items i.components.items i.connected.items i.mapped.items in
    role_at c.args.self.now _ c.index.result.now (member_at s _ i.components.items _ _ c.self.view_is refl c.requires c.index.ensures)
