-- With another list beside a port, the components are the same, and so is what stands elsewhere.
use Rattle.std.proofs.Common.{refl}
use Rattle.tp_config.proofs.StoredPortLinks.{members_put, links_put}
use Rattle.tp_config.specs.Shape.{member_of}
use Rattle.tp_config.proofs.component.put_beside.Goals as goal

pub returns-clause-members : goal.returns-clause-members
unfolding member_of
returns-clause-members c =
    members_put c.args.components.now.items c.args.p c.index_mut-component.result.now _ c.requires c.index_mut-component.ensures.value refl

pub returns-clause-links : goal.returns-clause-links
returns-clause-links c =
    links_put c.args.components.now.items c.args.p c.args.beside c.index_mut-component.result.now _ c.requires c.index_mut-component.ensures.value c.set_partners.ensures
