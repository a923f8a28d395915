-- One line more tells what is queued at its place, or nothing; or it tells it wrongly.
use Rattle.std.proofs.Common.{◌≡◌, ℕ, ◌+◌, List, length, refl, sym, ap, ◌∙◌, subst, arith}
use Rattle.std.specs.Prelude.{slice_get}
use Rattle.std.proofs.lemmas.Option.{slice_get_within}
use Rattle.std.proofs.lemmas.Bool.{false≢true}
use Rattle.tp_common.specs.declared.event.Env.{Env}
use Rattle.tp_queue.specs.History.{queued}
use Rattle.tp_queue.specs.Queues.{QueueState}
use Rattle.tp_judge.specs.declared.line.MessageId.{MessageId}
use Rattle.tp_judge.specs.LinesByNumber.{lines_at}
use Rattle.tp_judge.specs.Lawful.{IsCloserNumber}
use Rattle.tp_judge.specs.Lines.{envelope_of, left_of}
use Rattle.tp_judge.proofs.LeftMessagesByLine.{TellsFirst, tells_missing, tells_one, tells_none, tells_wrong, not_left}
use Rattle.tp_judge.proofs.UnlawfulPortExclusions.{first_there}
use Rattle.tp_judge.proofs.ports.left_place.Goals as goal
use Rattle.tp_judge.proofs.ports.left_place.Goals.{in-Left+else-not-is_queued, in_default-act}

pub returns-then-not-is_queued : goal.returns-then-not-is_queued
returns-then-not-is_queued c h s =
    let closes : IsCloserNumber (lines_at c.args.closing.now) c.in-Some.closer = rw c.in-Some.is at c.requires in
    let first = first_there (lines_at c.args.closing.now) closes.1.place closes.0 closes.1.at in
    let there : c.args.queue.now.entries ≡ queued h = ap (λ (q : QueueState _). q.entries) s.state in
    tells_wrong h c.args.left.now (lines_at c.args.closing.now) c.loop-line.line-index c.loop-line.told _ first.0 _
    first.1 c.loop-line-test.true
    (subst (λ (q : List (Env MessageId)). TellsFirst q c.args.left.now c.loop-line.line-index c.loop-line.told) there c.loop-line.invariant)
    (ap left_of c.in-Left.is)
    (λ is. false≢true (c.if-not-is_queued.ensures.1 (ap (λ q. slice_get q c.loop-line.told) there ∙ is)))

pub returns-then-told-count : goal.returns-then-told-count
returns-then-told-count c h s =
    let closes : IsCloserNumber (lines_at c.args.closing.now) c.in-Some.closer = rw c.in-Some.is at c.requires in
    let there : c.args.queue.now.entries ≡ queued h = ap (λ (q : QueueState _). q.entries) s.state in
    let count = c.queued_len-count.ensures in
    let size = ap length there in
    let fewer = c.if-told-count.true in
    tells_missing h c.args.left.now (lines_at c.args.closing.now) c.loop-line.line-index c.loop-line.told c.in-Some.closer closes
    (omega arith)
    (subst (λ (q : List (Env MessageId)). TellsFirst q c.args.left.now c.loop-line.line-index c.loop-line.told) there c.loop-line.invariant)
    (omega arith)

pub overflow_add-told : goal.overflow_add-told
overflow_add-told c =
    let below = slice_get_within c.args.queue.now.entries c.loop-line.told (envelope_of c.in-Left.mention) (c.if-not-is_queued.ensures.0 refl) in
    let count = c.queued_len-count.ensures in
    omega arith

pub loop-line-preserved : goal.loop-line-preserved
loop-line-preserved c =
    let P : ℕ → Type 0 = λ n. TellsFirst c.args.queue.now.entries c.args.left.now (c.loop-line.line-index + 1) n in
    elim c.match-line.branch [
      | in-Left+else-not-is_queued w ↦
          subst P (sym w.told-is)
          (tells_one c.args.queue.now.entries c.args.left.now c.loop-line.line-index c.loop-line.told _ _
          c.loop-line-test.true c.loop-line.invariant (ap left_of w.in-Left.is) (w.if-not-is_queued.ensures.0 refl))
      | in_default-act w ↦
          subst P (sym w.told-is)
          (tells_none c.args.queue.now.entries c.args.left.now c.loop-line.line-index c.loop-line.told _
          c.loop-line-test.true c.loop-line.invariant (not_left _ w.in_default-act.not-Left))
    ]
