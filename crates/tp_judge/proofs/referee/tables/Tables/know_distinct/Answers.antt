-- No table has anything twice.
use Rattle.tp_judge.proofs.PortAndRouteEquality.{ports_apart, routes_apart}
use Rattle.tp_judge.proofs.referee.tables.Tables.know_distinct.Goals as goal

pub returns : goal.returns
returns c = record {
  components = c.len.ensures.distinct;
  names = c.len-2.ensures.distinct;
  ports = ports_apart c.args.self.now.ports.keys c.len-3.ensures.unique;
  routes = routes_apart c.args.self.now.routes.keys c.len-4.ensures.unique;
  messages = c.len-5.ensures.distinct;
}
