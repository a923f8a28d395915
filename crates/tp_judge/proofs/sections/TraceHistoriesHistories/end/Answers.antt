-- The history of a component ends with its section.
use Rattle.std.proofs.Common.{length, map, min, sym, ap, ◌∙◌}
use Rattle.std.proofs.lemmas.List.{length-map, length-take}
use Rattle.tp_judge.specs.declared.sections.Section.{Section}
use Rattle.tp_judge.specs.TraceKinds.{kind_in, section_at}
use Rattle.tp_judge.proofs.TraceSections.{count_is, section_read}
use Rattle.tp_judge.proofs.sections.TraceHistoriesHistories.end.Goals as goal

pub returns : goal.returns
returns c =
    let h = c.args.self.now in
    let trace = h.trace.now in
    let lines = trace.lines.items in
    let n = (section_at h.sections.items c.args.component).end in
    let all = map (kind_in trace c.args.component) lines in
    let size = length-take n all ∙ ap (min n) (length-map lines (kind_in trace c.args.component) ∙ count_is trace c.len.result c.len.ensures) in
    let here = section_read h.sections.items c.args.component c.index.result.now c.requires c.index.ensures in
    c.min.ensures ∙ ap (λ (s : Section). min s.end c.len.result) here ∙ sym size
