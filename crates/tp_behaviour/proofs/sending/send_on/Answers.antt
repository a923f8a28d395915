-- The worker after a message was put and noted: what holds of it, its new entry, and what stayed the same.
use Rattle.std.proofs.Common.{◌∙◌, ap, refl}
use Rattle.std.specs.Prelude.{◌++◌, ◌∷◌, [], map}
use Rattle.tp_inbox.specs.declared.entry.Entry.TheVariants as entry
use Rattle.tp_inbox.specs.History.{next_of}
use Rattle.tp_inbox.specs.Desks.{Journal}
use Rattle.tp_behaviour.specs.Looks.{moment}
use Rattle.tp_behaviour.specs.Moments.{moments}
use Rattle.tp_inbox.specs.Ledgers.{end_of}
use Rattle.tp_behaviour.specs.Workers.{role_of}
use Rattle.tp_behaviour.proofs.WorkerInvariantOnSends.{has_sent, same_ends}
use Rattle.tp_behaviour.proofs.sending.send_on.Goals as goal

pub returns-clause-consistent : goal.returns-clause-consistent
returns-clause-consistent g c =
    let s = c.args.worker.now in
    let x = next_of s.desk.log c.args.message in
    let e = c.in-Ok.ensures.ok in
    (has_sent (role_of c.args.execution.now.task.now) s c.send.new.desk c.send.new.self c.args.route e.0 x c.requires.consistent c.requires.known e.1 e.2).2

-- the number is that of the next message
pub returns-clause-log : goal.returns-clause-log
returns-clause-log g c =
    let s = c.args.worker.now in
    let x = next_of s.desk.log c.args.message in
    let e = c.in-Ok.ensures.ok in
    let all = has_sent (role_of c.args.execution.now.task.now) s c.send.new.desk c.send.new.self c.args.route e.0 x c.requires.consistent c.requires.known e.1 e.2 in
    ap (λ (j : Journal). j.log) e.2 ∙ ap (λ n. s.desk.log ++ entry.Sent c.args.route n x ∷ []) all.0

pub returns-clause-trace : goal.returns-clause-trace
returns-clause-trace g c =
    let s = c.args.worker.now in
    let x = next_of s.desk.log c.args.message in
    let e = c.in-Ok.ensures.ok in
    let all = has_sent (role_of c.args.execution.now.task.now) s c.send.new.desk c.send.new.self c.args.route e.0 x c.requires.consistent c.requires.known e.1 e.2 in
    all.1 ∙ ap (λ n. moments s.desk.log ++ moment s.desk (entry.Sent c.args.route n x) ∷ []) all.0

-- only what was put changes
pub returns-clause-same : goal.returns-clause-same
returns-clause-same g c =
    let x = next_of c.args.worker.now.desk.log c.args.message in
    record { inbox = refl; ends = ap (map end_of) c.in-Ok.ensures.ok.1.1 ∙ same_ends c.args.route x c.args.worker.now.outbox }
