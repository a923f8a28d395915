-- What came was sent by a line ahead, and what is to be sent is held back by one.
use Rattle.std.proofs.Common.{◌≡◌, ◌<◌, ℕ, inl, inr, Some, length, get_or, slice_index, ap, sym, ◌∙◌, arith}
use Rattle.std.specs.Prelude.{slice_get}
use Rattle.std.proofs.lemmas.Grind.{get_or_default_zero}
use Rattle.tp_judge.specs.declared.kind.EntryKind.{EntryKind}
use Rattle.tp_judge.specs.declared.kind.EntryKind.TheVariants as kind
use Rattle.tp_judge.specs.declared.line.Mention.{Mention}
use Rattle.tp_judge.specs.declared.progress.OrderProgress.{OrderProgress}
use Rattle.tp_judge.specs.declared.sections.TraceHistories.{TraceHistories}
use Rattle.tp_judge.specs.Stuck.{IsStuckAt, kinds_in}
use Rattle.tp_judge.proofs.StuckLines.{came_holds, coming_due, no_look, sending_due, sent_holds}
use Rattle.tp_judge.proofs.stuck.before_next_own.Goals as goal

-- the place that is read
place_is : (h : TraceHistories) (progress : OrderProgress) (c x : ℕ) → IsStuckAt h progress → c < length h.sections.items
    → x ≡ get_or progress.places.items c x → x ≡ slice_index progress.places.items c
place_is h progress c x stuck within read =
    let size = stuck.state.size_is.places in
    read ∙ get_or_default_zero progress.places.items c x (omega (arith, size, within))

stands_there : (h : TraceHistories) (progress : OrderProgress) (c x : ℕ) (e : EntryKind Mention) → IsStuckAt h progress
    → c < length h.sections.items → x ≡ get_or progress.places.items c x → slice_get (kinds_in h c) x ≡ Some e
    → slice_get (kinds_in h c) (slice_index progress.places.items c) ≡ Some e
stands_there h progress c x e stuck within read here =
    ap (λ p. slice_get (kinds_in h c) p) (sym (place_is h progress c x stuck within read)) ∙ here

pub index-requires : goal.index-requires
index-requires c = omega (arith, c.requires.stuck.state.size_is.places, c.requires.within)

pub kind-requires-clause-place : goal.kind-requires-clause-place
kind-requires-clause-place c =
    let is = place_is c.args.histories.now c.args.progress.now c.args.c c.index.result.now c.requires.stuck c.requires.within c.index.ensures in
    omega (arith, is, c.requires.unfinished)

pub sending_place-requires-clause-come : goal.sending_place-requires-clause-come
sending_place-requires-clause-come c =
    let h = c.args.histories.now in
    let progress = c.args.progress.now in
    let m = c.in-Came.message in
    let stands = stands_there h progress c.args.c c.index.result.now (kind.Came m) c.requires.stuck c.requires.within c.index.ensures c.in-Came.ensures in
    let due = coming_due h progress c.requires.stuck c.args.c m stands in
    (c.args.c, due.place, due.comes)

pub returns-in-Came-clause-holds : goal.returns-in-Came-clause-holds
returns-in-Came-clause-holds c =
    let h = c.args.histories.now in
    let progress = c.args.progress.now in
    let m = c.in-Came.message in
    let stands = stands_there h progress c.args.c c.index.result.now (kind.Came m) c.requires.stuck c.requires.within c.index.ensures c.in-Came.ensures in
    came_holds h progress c.requires.stuck c.args.c c.sending_place.result m stands c.sending_place.ensures

pub before_sending-requires-clause-due : goal.before_sending-requires-clause-due
before_sending-requires-clause-due c =
    let h = c.args.histories.now in
    let progress = c.args.progress.now in
    let stands = stands_there h progress c.args.c c.index.result.now (kind.Sent c.in-Sent.to c.in-Sent.message) c.requires.stuck c.requires.within
    c.index.ensures c.in-Sent.ensures in
    sending_due h progress c.requires.stuck c.args.c c.in-Sent.to c.in-Sent.message stands

pub before_sending-requires-clause-held : goal.before_sending-requires-clause-held
before_sending-requires-clause-held c =
    let h = c.args.histories.now in
    let progress = c.args.progress.now in
    let e = kind.Sent c.in-Sent.to c.in-Sent.message in
    let stands = stands_there h progress c.args.c c.index.result.now e c.requires.stuck c.requires.within c.index.ensures c.in-Sent.ensures in
    c.requires.stuck.state.stuck c.args.c e stands

pub returns-in-Sent-clause-holds : goal.returns-in-Sent-clause-holds
returns-in-Sent-clause-holds c =
    let h = c.args.histories.now in
    let progress = c.args.progress.now in
    let stands = stands_there h progress c.args.c c.index.result.now (kind.Sent c.in-Sent.to c.in-Sent.message) c.requires.stuck c.requires.within
    c.index.ensures c.in-Sent.ensures in
    sent_holds h progress c.requires.stuck c.args.c c.in-Sent.to c.before_sending.result c.in-Sent.message stands
    c.before_sending.ensures.ahead c.before_sending.ensures.demanded

pub unreachable-requires : goal.unreachable-requires
unreachable-requires c =
    let h = c.args.histories.now in
    let progress = c.args.progress.now in
    let n = c.args.c in
    let stands = stands_there h progress n c.index.result.now c.kind.result c.requires.stuck c.requires.within c.index.ensures c.kind.ensures in
    elim c.in-Looked.is [
      | inl look ↦ no_look h progress c.requires.stuck n (stands ∙ ap Some look)
      | inr (inl quiet) ↦ c.requires.stuck.state.stuck n kind.Quiet (stands ∙ ap Some quiet) tt
      | inr (inr nothing) ↦ c.requires.stuck.state.stuck n kind.Nothing (stands ∙ ap Some nothing) tt
    ]
