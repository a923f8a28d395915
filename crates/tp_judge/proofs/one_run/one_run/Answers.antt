-- The lines have an order where their kinds have one; else a circle excludes it.
use Rattle.std.proofs.Common.{◌≡◌, ◌<◌, ℕ, List, length, refl, sym, ap, subst, ◌↔◌, arith}
use Rattle.std.proofs.lemmas.List.Elements.{All-contains}
use Rattle.tp_judge.specs.declared.progress.OrderProgress.{OrderProgress}
use Rattle.tp_judge.specs.declared.sections.TraceHistories.{TraceHistories}
use Rattle.tp_judge.specs.declared.trace.IndexedTrace.{IndexedTrace}
use Rattle.tp_judge.specs.Delivered.{Delivered}
use Rattle.tp_judge.specs.Greedy.{IsStuckSearch}
use Rattle.tp_judge.specs.Kinds.{AreOwned, histories_of}
use Rattle.tp_judge.specs.Lawful.{AreLinesRouted, AreWithin}
use Rattle.tp_judge.specs.OneOrder.{HasOneOrder}
use Rattle.tp_judge.specs.OneRun.{IsDemandCircle, IsLeastOf, IsOneRun}
use Rattle.tp_judge.specs.OrderProgress.{BeginSo}
use Rattle.tp_judge.specs.Stuck.{IsStuckAt, kinds_in}
use Rattle.tp_judge.specs.TraceKinds.{AreSections, kinds_of, section_at}
use Rattle.tp_judge.proofs.SendersOfMentions.{mentions_owned}
use Rattle.tp_judge.proofs.TraceRunsByKinds.{one_run_by_kinds}
use Rattle.tp_judge.proofs.TraceSections.{begin_so, line_read}
use Rattle.tp_judge.proofs.one_run.one_run.Goals as goal

-- the histories are those of the trace
both_ways : (trace : IndexedTrace) (h : TraceHistories) → h.trace.now ≡ trace
    → AreSections trace (length trace.lines.items) h.sections.items → HasOneOrder (histories_of (kinds_in h)) ↔ IsOneRun trace
both_ways trace h same are =
    subst (λ (t : IndexedTrace). HasOneOrder (histories_of (kinds_of t h.sections.items)) ↔ IsOneRun trace) (sym same)
    (one_run_by_kinds trace h.sections.items are)

stuck_there : (trace : IndexedTrace) (h : TraceHistories) (progress : OrderProgress) → h.trace.now ≡ trace → AreWithin trace
    → AreLinesRouted trace → Delivered trace → AreSections trace (length trace.lines.items) h.sections.items
    → IsStuckSearch (kinds_in h) (length h.sections.items) progress → IsStuckAt h progress
stuck_there trace h progress same within routed delivered are state =
    let P : IndexedTrace → Type 0 = λ t. AreWithin t × AreLinesRouted t × Delivered t × AreSections t (length t.lines.items) h.sections.items in
    let all = subst P (sym same) (within, routed, delivered, are) in
    record { within = all.0; routed = all.1; delivered = all.2; sections = all.3; state = state }

pub search_order-requires-clause-owned : goal.search_order-requires-clause-owned
search_order-requires-clause-owned c =
    let h = c.in_ok-histories.histories in
    subst (λ (t : IndexedTrace). AreOwned (kinds_of t h.sections.items)) (sym c.in_ok-histories.ensures.trace)
    (mentions_owned c.args.trace.now h.sections.items c.requires.delivered)

pub search_order-requires-clause-begun : goal.search_order-requires-clause-begun
search_order-requires-clause-begun c =
    let h = c.in_ok-histories.histories in
    subst (λ (t : IndexedTrace). BeginSo (kinds_of t h.sections.items) (length h.sections.items) (λ c. (section_at h.sections.items c).begin))
    (sym c.in_ok-histories.ensures.trace) (begin_so c.args.trace.now h.sections.items c.in_ok-histories.ensures.sections)

pub demand_circle-requires-clause-stuck : goal.demand_circle-requires-clause-stuck
demand_circle-requires-clause-stuck c =
    let h = c.in_ok-histories.histories in
    stuck_there c.args.trace.now h c.in_ok-progress.field-0.progress c.in_ok-histories.ensures.trace c.requires.within c.requires.routed
    c.requires.delivered c.in_ok-histories.ensures.sections c.in_ok-progress.ensures.stuck

pub returns-in-None : goal.returns-in-None
returns-in-None c =
    (both_ways c.args.trace.now c.in_ok-histories.histories c.in_ok-histories.ensures.trace c.in_ok-histories.ensures.sections).0
    c.in-None.ensures.ended

pub index-requires : goal.index-requires
index-requires c =
    let lines = c.args.trace.now.lines.items in
    let found = c.in_ok-circle-in-Some.ensures in
    let least = subst (λ (l : List ℕ). IsLeastOf l c.least.result) c.deref.ensures.value c.least.ensures in
    let below = All-contains (λ x. x < length c.in_ok-histories.histories.trace.now.lines.items) c.in_ok-circle-in-Some.circle.items c.least.result
    found.below least.0 in
    let same = ap (λ (t : IndexedTrace). length t.lines.items) c.in_ok-histories.ensures.trace in
    omega (arith, below, same)

pub returns : goal.returns
returns c =
    let trace = c.args.trace.now in
    let h = c.in_ok-histories.histories in
    let circle = c.in_ok-circle-in-Some.circle.items in
    let found = c.in_ok-circle-in-Some.ensures in
    let least = subst (λ (l : List ℕ). IsLeastOf l c.least.result) c.deref.ensures.value c.least.ensures in
    let below = All-contains (λ x. x < length h.trace.now.lines.items) circle c.least.result found.below least.0 in
    let same = ap (λ (t : IndexedTrace). length t.lines.items) c.in_ok-histories.ensures.trace in
    let line = c.index.result.now in
    let both = both_ways trace h c.in_ok-histories.ensures.trace c.in_ok-histories.ensures.sections in
    record {
      none = λ run. c.in-Some.ensures.none (both.1 run);
      circle = circle;
      is_circle = subst (λ (t : IndexedTrace). IsDemandCircle t circle) c.in_ok-histories.ensures.trace found.circle;
      place = c.least.result;
      first = least;
      line = line;
      at = line_read trace c.least.result line (omega (arith, below, same)) c.index.ensures;
      told = refl;
    }
