-- Each write takes some more of the bytes, or fails; what is written in the end is a front of them.
use Rattle.std.proofs.Common.{ℕ, refl, sym, subst, arith}
use Rattle.tp_common.proofs.WatchedWriterGrowth.{HasWritten, ends_written, no_more_written, none_written, some_written, not_both}
use Rattle.tp_common.proofs.watched.write_rest.Goals as goal
use Rattle.tp_common.proofs.watched.write_rest.Goals.{then-out-via-then-out, then-out-via-else-out+then-at-bytes, in-Ok, in_default}

pub loop-init : goal.loop-init
loop-init g c = none_written _ _ _

pub loop-preserved : goal.loop-preserved
loop-preserved g c =
    let Reached : ℕ → Type 0 = HasWritten g.W.Write.contents c.args.out.now c.write.new.self c.args.bytes.now in
    elim c.match-write.branch [
      | in-Ok w ↦ subst Reached (sym w.at-is)
          (some_written _ _ _ _ _ c.loop.at w.in-Ok.count c.if-out.false c.loop.invariant w.in-Ok.ensures.bound w.in-Ok.ensures.bytes)
      | in_default w ↦ subst Reached (sym w.at-is) (no_more_written _ _ _ _ _ c.loop.at c.if-out.false c.loop.invariant w.in_default.ensures.bytes)
    ]

pub returns-then-out : goal.returns-then-out
returns-then-out g c =
    ends_written _ _ _ _ _ c.loop.at c.loop.invariant refl (λ failed. failed)
    (λ well. elim c.then-out.branch [ then-out-via-then-out w ↦ absurd (not_both _ w.if-out.true well) | then-out-via-else-out+then-at-bytes w ↦ omega arith ])

pub returns : goal.returns
returns g c =
    let failed = c.give_up.ensures.failed in
    ends_written _ _ _ _ _ c.loop.at c.loop.invariant c.give_up.ensures.inner (λ before. failed) (λ well. absurd (not_both _ failed well))
