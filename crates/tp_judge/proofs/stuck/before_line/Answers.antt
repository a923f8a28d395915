-- The line before is the next own line of the component, or holds that back.
use Rattle.std.proofs.Common.{◌≡◌, ℕ, get_or, slice_index, ◌∙◌, arith}
use Rattle.std.proofs.lemmas.Grind.{get_or_default_zero}
use Rattle.std.proofs.lemmas.Option.{slice_get_within}
use Rattle.tp_judge.specs.declared.line.IndexedLine.{IndexedLine}
use Rattle.tp_judge.specs.declared.progress.OrderProgress.{OrderProgress}
use Rattle.tp_judge.specs.declared.sections.TraceHistories.{TraceHistories}
use Rattle.tp_judge.specs.OneRun.{in_section}
use Rattle.tp_judge.specs.Stuck.{IsAhead, IsStuckAt}
use Rattle.tp_judge.proofs.StuckLines.{IsAheadIn, ahead_at}
use Rattle.tp_judge.proofs.TraceSections.{line_read}
use Rattle.tp_judge.proofs.stuck.before_line.Goals as goal

-- what is known of the line that is read
ahead_read : (h : TraceHistories) (progress : OrderProgress) (place : ℕ) (line : IndexedLine) → IsStuckAt h progress
    → IsAhead h progress place → line ≡ get_or h.trace.now.lines.items place line → IsAheadIn h progress line.component place
ahead_read h progress place line stuck ahead read =
    let low = slice_get_within h.trace.now.lines.items place ahead.own.line ahead.own.at in
    ahead_at h progress stuck place line ahead (line_read h.trace.now place line low read)

-- and of the place of its component
from_read : (h : TraceHistories) (progress : OrderProgress) (c place x : ℕ) → IsStuckAt h progress → IsAheadIn h progress c place
    → x ≡ get_or progress.places.items c x → x ≡ slice_index progress.places.items c
from_read h progress c place x stuck ahead read =
    let size = stuck.state.size_is.places in
    let within = ahead.within in
    read ∙ get_or_default_zero progress.places.items c x (omega (arith, size, within))

pub index-line-requires : goal.index-line-requires
index-line-requires c =
    let own = c.requires.ahead.own in
    let low = slice_get_within c.args.histories.now.trace.now.lines.items c.args.place own.line own.at in
    omega (arith, low)

pub index-from-requires : goal.index-from-requires
index-from-requires c =
    let ahead = ahead_read c.args.histories.now c.args.progress.now c.args.place c.index-line.result.now c.requires.stuck c.requires.ahead c.index-line.ensures in
    omega (arith, ahead.within, c.requires.stuck.state.size_is.places)

pub next_own-own-requires-clause-own : goal.next_own-own-requires-clause-own
next_own-own-requires-clause-own c =
    (ahead_read c.args.histories.now c.args.progress.now c.args.place c.index-line.result.now c.requires.stuck c.requires.ahead c.index-line.ensures).own

pub next_own-own-requires-clause-order : goal.next_own-own-requires-clause-order
next_own-own-requires-clause-order c =
    let h = c.args.histories.now in
    let progress = c.args.progress.now in
    let line = c.index-line.result.now in
    let ahead = ahead_read h progress c.args.place line c.requires.stuck c.requires.ahead c.index-line.ensures in
    let from = from_read h progress line.component c.args.place c.index-from.result.now c.requires.stuck ahead c.index-from.ensures in
    omega (arith, from, ahead.from)

pub returns-then-own-place-clause-ahead : goal.returns-then-own-place-clause-ahead
returns-then-own-place-clause-ahead c =
    let h = c.args.histories.now in
    let progress = c.args.progress.now in
    let line = c.index-line.result.now in
    let ahead = ahead_read h progress c.args.place line c.requires.stuck c.requires.ahead c.index-line.ensures in
    let from = from_read h progress line.component c.args.place c.index-from.result.now c.requires.stuck ahead c.index-from.ensures in
    let next = c.next_own-own.ensures in
    record { component = line.component; own = next.own; from = omega (arith, from, next.low) }

pub returns-then-own-place-clause-demanded : goal.returns-then-own-place-clause-demanded
returns-then-own-place-clause-demanded c =
    let line = c.index-line.result.now in
    let ahead = ahead_read c.args.histories.now c.args.progress.now c.args.place line c.requires.stuck c.requires.ahead c.index-line.ensures in
    (c.args.place, in_section line.component c.next_own-own.result c.args.place c.if-own-place.true c.next_own-own.ensures.own ahead.own)

pub before_next_own-requires-clause-within : goal.before_next_own-requires-clause-within
before_next_own-requires-clause-within c =
    (ahead_read c.args.histories.now c.args.progress.now c.args.place c.index-line.result.now c.requires.stuck c.requires.ahead c.index-line.ensures).within

pub before_next_own-requires-clause-unfinished : goal.before_next_own-requires-clause-unfinished
before_next_own-requires-clause-unfinished c =
    (ahead_read c.args.histories.now c.args.progress.now c.args.place c.index-line.result.now c.requires.stuck c.requires.ahead c.index-line.ensures).below

pub returns-clause-demanded : goal.returns-clause-demanded
returns-clause-demanded c =
    let h = c.args.histories.now in
    let progress = c.args.progress.now in
    let line = c.index-line.result.now in
    let ahead = ahead_read h progress c.args.place line c.requires.stuck c.requires.ahead c.index-line.ensures in
    let from = from_read h progress line.component c.args.place c.index-from.result.now c.requires.stuck ahead c.index-from.ensures in
    let next = c.next_own-own.ensures in
    let last = c.if-own-place.false in
    c.before_next_own.ensures.holds.before c.args.place (record {
      own = ahead.own;
      low = ahead.from;
      none = λ q low below. next.none q (omega (arith, from, low)) (omega (arith, last, below));
    })
