-- A test case, and what it is made of, may be shared with a thread.
-- Statements, templates and values are recursive types, so `search` has to be told of each type in turn, the innermost first.
use denote.Param.Send.{IsSend, IsSync, sendable}
use Rattle.std.proofs.Crossing.{crosses}
use Rattle.indexmap.proofs.map.IndexMap.TheSendSync.{the_sync as map_sync}
use Rattle.indexmap.proofs.set.IndexSet.TheSendSync.{the_send as set_send, the_sync as set_sync}
use Rattle.tp_value.proofs.items.Items.TheSendSync.{the_send as items_send, the_sync as items_sync}
use Rattle.tp_value.specs.contracts.types.Types as types
use Rattle.tp_value.specs.contracts.types.Types.TheInside as types_inside
use Rattle.tp_config.specs.contracts.type_list.TypeList as type_list
use Rattle.tp_config.specs.contracts.type_list.Listed.TheInside as listed_inside
use Rattle.tp_config.specs.contracts.port_type.PortType as port_type
use Rattle.tp_config.specs.contracts.port_type.CompType as comp_type
use Rattle.tp_config.specs.contracts.component.Component as component
use Rattle.tp_config.specs.contracts.config.Config as config
use Rattle.tp_config.specs.contracts.config.Config.TheInside as config_inside
use Rattle.tp_play.proofs.body.SendValue.TheLaws.TheKnot.{crosses as value_knot}
use Rattle.tp_play.proofs.body.RecvTemplate.TheLaws.TheKnot.{crosses as template_knot}
use Rattle.tp_play.proofs.body.ResolvedStatement.TheLaws.TheKnot.{crosses as statement_knot}
use Rattle.tp_play.specs.contracts.body.ResolvedStatement as statement
use Rattle.tp_play.specs.contracts.body.Body as body
use Rattle.tp_play.specs.contracts.bodies.Bodies as bodies
use Rattle.tp_play.specs.contracts.instance.Instance as instance
use Rattle.tp_play.specs.contracts.test_case.TestCase as test_case
use Rattle.tp_play.specs.contracts.test_case.TestCase.TheInside as test_case_inside

types_inside_sync : IsSync types_inside.the_row
types_inside_sync = search (sendable, crosses, map_sync) depth 30

pub types_sync : IsSync types.the_row
types_sync = search (sendable, crosses, types_inside_sync) depth 30

listed_inside_send : IsSend listed_inside.the_row
listed_inside_send = search (sendable, crosses, set_send, items_send) depth 30

listed_inside_sync : IsSync listed_inside.the_row
listed_inside_sync = search (sendable, crosses, set_sync, items_sync) depth 30

type_list_sync : IsSync type_list.the_row
type_list_sync = search (sendable, crosses, listed_inside_send, listed_inside_sync) depth 30

port_type_sync : IsSync port_type.the_row
port_type_sync = search (sendable, crosses, type_list_sync) depth 30

comp_type_sync : IsSync comp_type.the_row
comp_type_sync = search (sendable, crosses, map_sync, port_type_sync) depth 30

component_sync : IsSync component.the_row
component_sync = search (sendable, crosses) depth 30

config_inside_sync : IsSync config_inside.the_row
config_inside_sync = search (sendable, crosses, component_sync, comp_type_sync) depth 30

pub config_sync : IsSync config.the_row
config_sync = search (sendable, crosses, config_inside_sync) depth 30

-- a statement has many lemmas that fit
statement_sync : IsSync statement.the_row
statement_sync = search (sendable, crosses, statement_knot, template_knot, value_knot) depth 40 fits 20000

pub body_sync : IsSync body.the_row
body_sync = search (sendable, crosses, statement_sync, items_sync) depth 30

-- the same of a body as it stands in another type's field
body_field_sync : IsSync (body.the_field).row
body_field_sync = search (sendable, crosses, statement_sync, items_sync) depth 30

bodies_field_sync : IsSync (bodies.the_field).row
bodies_field_sync = search (sendable, crosses, body_sync, body_field_sync) depth 30

instance_sync : IsSync instance.the_row
instance_sync = search (sendable, crosses) depth 30

test_case_inside_sync : IsSync test_case_inside.the_row
test_case_inside_sync = search (sendable, crosses, config_sync, types_sync, bodies_field_sync, instance_sync) depth 30

pub test_case_sync : IsSync test_case.the_row
test_case_sync = search (sendable, crosses, test_case_inside_sync) depth 30
