-- What the report promises of each port, of each route that something came on, and of its order.
use Rattle.tp_exec.proofs.LawfulTraces.{lawful_route}
use Rattle.tp_exec.proofs.NoHappenedBeforeCircle.{no_circle}
use Rattle.tp_exec.proofs.laws.traces_are_lawful.Goals as goal

pub returns : goal.returns
returns c made report h = record {
  ports = λ n port x is low. (h.each (record { 0 = n }) x is).lawful port low;
  routes = lawful_route made report h;
  order = no_circle made report h;
}
