-- One entry for each port, in their order, and there are as many as the component has.
use Rattle.std.proofs.Common.{◌≡◌, ◌∙◌, add-one, ap, arith, length, refl, subst, sym}
use Rattle.tp_config.specs.Setup.{ports_at}
use Rattle.tp_inbox.specs.Desks.{Journal}
use Rattle.tp_behaviour.specs.LookOutcomes.{TraceGrew}
use Rattle.tp_behaviour.specs.Workers.{role_of}
use Rattle.tp_behaviour.proofs.PortOperationOutcomes.{AreSoFar, few_ports, grew_further, grew_start, stepped_all}
use Rattle.tp_behaviour.proofs.WorkerInvariantOnArrivals.{same_itself, same_then}
use Rattle.tp_behaviour.proofs.acting.all_ports.Goals as goal

pub loop-port-init : goal.loop-port-init
loop-port-init g c =
    let e = c.in_ok-look_in.ensures in
    record {
      consistent = e.consistent;
      same = same_itself c.look_in.new.worker;
      ports = refl;
      own = e.own;
      done =
          grew_start c.args.operation c.look_in.new.worker.desk.log;
    }

-- a component of a configuration has few ports
pub overflow_cast-port : goal.overflow_cast-port
overflow_cast-port g c =
    let s = c.args.execution.now.task.now.config.now in
    let few = few_ports s.types s.components c.args.execution.now.task.now.comp c.len-lawful.ensures.lawful.few_ports in
    let m = c.in_ok-look_in.ensures.consistent in
    let count : c.port_count-port-end.result ≡ length (ports_at s.types s.components c.args.execution.now.task.now.comp) = c.port_count-port-end.ensures ∙
    m.desk.1 ∙ m.ends.ports in
    omega (arith, few, count)

pub loop-port-preserved : goal.loop-port-preserved
loop-port-preserved g c =
    let e = c.in_ok-operate_at.ensures in
    let i = c.loop-port.invariant in
    let o = c.args.operation in
    let n = c.loop-port.port in
    let m = c.operate_at.new.worker.desk.log in
    record {
      consistent = e.consistent;
      same = same_then c.look_in.new.worker c.loop-port.worker c.operate_at.new.worker i.same e.same;
      ports = ap (λ (j : Journal). j.ports) e.added ∙ i.ports;
      own = e.own;
      done = subst (λ k. TraceGrew (AreSoFar o k m) c.look_in.new.worker.desk.log m) (sym (add-one n))
          (grew_further o n c.look_in.new.worker.desk.log c.loop-port.worker.desk.log m i.done (ap (λ (j : Journal). j.log) e.added) e.trace);
    }

pub returns-clause-stepped : goal.returns-clause-stepped
returns-clause-stepped g c =
    let s = c.args.execution.now.task.now.config.now in
    let l = c.in_ok-look_in.ensures in
    let n = c.loop-port.port in
    let all : n ≡ c.port_count-port-end.result = (let below = c.loop-port.auto.port-end in let past = c.loop-port-test.false in omega (arith, below, past)) in
    stepped_all (role_of c.args.execution.now.task.now) c.args.operation n c.args.worker.now.desk.log c.look_in.new.worker.desk.log c.loop-port.worker.desk.log
    (all ∙ c.port_count-port-end.ensures ∙ l.consistent.desk.1 ∙ l.consistent.ends.ports) l.trace c.loop-port.invariant.done
