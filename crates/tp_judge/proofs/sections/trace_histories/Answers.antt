-- One line more.
use Rattle.std.proofs.Common.{◌≡◌, ◌<◌, ◌+◌, length, set, sym, ap, ◌∙◌, subst, arith}
use Rattle.tp_judge.specs.declared.sections.Section.{Section}
use Rattle.tp_judge.specs.TraceKinds.{AreSections, extended}
use Rattle.tp_judge.proofs.TraceSections.{component_below, count_is, line_read, section_read, sections_more, sections_none}
use Rattle.tp_judge.proofs.sections.trace_histories.Goals as goal

pub loop-place-init : goal.loop-place-init
loop-place-init c =
    sections_none c.args.trace.now c.in_ok-sections.sections.items (c.in_ok-sections.ensures.items_if_clones_equal (λ y is. is))

pub loop-place-preserved : goal.loop-place-preserved
loop-place-preserved c =
    let trace = c.args.trace.now in
    let n = c.loop-place.place in
    let sections = c.loop-place.sections.items in
    let line = c.index-line.result.now in
    let count = count_is trace c.len-place-end.result c.len-place-end.ensures in
    let below : n < length trace.lines.items = omega (arith, count, c.loop-place-test.true) in
    let at = line_read trace n line below c.index-line.ensures in
    let within = component_below trace n line c.requires at in
    let low : line.component < length sections = omega (arith, within, c.loop-place.invariant.size) in
    let here = section_read sections line.component c.index-section.result.now low c.index-section.ensures in
    subst (λ (s : Section). AreSections trace (n + 1) (set sections line.component s))
    (sym (c.extended.ensures ∙ ap (λ (s : Section). extended s n) here)) (sections_more trace n sections line at low c.loop-place.invariant)

pub returns-clause-sections : goal.returns-clause-sections
returns-clause-sections c =
    let trace = c.args.trace.now in
    let count = count_is trace c.len-place-end.result c.len-place-end.ensures in
    let end : c.loop-place.place ≡ length trace.lines.items = omega (arith, count, c.loop-place-test.false, c.loop-place.auto.place-end) in
    subst (λ n. AreSections trace n c.loop-place.sections.items) end c.loop-place.invariant
