-- The parts are those of a numbering.
use Rattle.std.proofs.Common.{◌+◌, ◌∙◌, Bool, List, ℕ, ap, map, subst}
use Rattle.tp_judge.specs.declared.trace.IndexedTrace.{IndexedTrace}
use Rattle.tp_judge.specs.declared.referee.tables.PortKey.{PortKey}
use Rattle.tp_judge.specs.declared.referee.tables.RouteKey.{RouteKey}
use Rattle.tp_judge.specs.Joining.{AreJoinedBy}
use Rattle.tp_judge.proofs.NumberingFromParts.{Made, made_numbering, made_routed, made_within}
use Rattle.tp_judge.proofs.referee.numbering.number_trace.Goals as goal

pub returns : goal.returns
returns c =
    let t = c.number_lines.new.tables in
    let sections = c.in_ok-sections.sections.items in
    let owners = c.in_ok-owners.owners.items in
    let joined = c.in_ok-joined.joined.items in
    let trace : IndexedTrace = record {
      lines = c.in_ok-lines.lines;
      owners = c.in_ok-owners.owners;
      joined = c.in_ok-joined.joined;
      components = c.len.result;
      numbers = c.line_count.result + 1;
    } in
    let m : Made c.args.trace.now t sections trace = record {
      few = c.requires;
      distinct = c.know_distinct.ensures;
      whole = c.in_ok-lines.ensures.whole;
      lines = c.in_ok-lines.ensures.lines;
      sections_are = c.in_ok-sections.ensures;
      owners = c.in_ok-owners.ensures ∙ ap (map (λ (port : PortKey). port.component)) c.as_slice.ensures.keys;
      joined =
          subst (λ (l : List ℕ). AreJoinedBy l sections t.routes.keys joined) c.deref.ensures.value
          (subst (λ (l : List Bool). AreJoinedBy c.deref.result.now l t.routes.keys joined) c.deref-2.ensures.value
          (subst (λ (l : List RouteKey). AreJoinedBy c.deref.result.now c.deref-2.result.now l joined) c.as_slice-2.ensures.keys c.in_ok-joined.ensures));
      components = c.len.ensures.count;
      numbers = ap (λ n. n + 1) c.line_count.ensures.count;
    } in
    record {
      numbering = made_numbering c.args.trace.now t sections trace m;
      within = made_within c.args.trace.now t sections trace m;
      routed = made_routed c.args.trace.now t sections trace m;
    }
