-- What stands from there on is the bytes, and what stood after the place.
use Rattle.std.proofs.Common.{ℕ, ◌-◌, List, length, drop, ap, ◌∙◌, arith}
use borrow.Rule.Slice.PartMut.{put_mid}
use Rattle.tp_report.proofs.TextBuiltBackwards.{put_before}
use Rattle.tp_report.proofs.backward.put_bytes.Goals as goal

pub returns-clause-written : goal.returns-clause-written
returns-clause-written c =
    let start : ℕ = c.args.end - length c.args.bytes.now in
    ap (λ (l : List ℕ). drop start (put_mid start (c.args.end - start) c.args.text.now l)) c.copy_from_slice.ensures.after
    ∙ put_before start c.args.end c.args.text.now c.args.bytes.now (omega arith) c.requires.within
