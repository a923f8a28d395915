-- Each line tells something, and what it is read as.
use Rattle.std.proofs.Common.{◌≡◌, ◌<◌, ◌∙◌, Some, ap, arith, length, map, slice_get, subst, sym}
use Rattle.std.specs.Option.{option_map}
use Rattle.std.proofs.lemmas.List.{length-map}
use Rattle.std.proofs.lemmas.Option.{get_or_from_slice_get, slice_get-get_or, slice_get-map}
use Rattle.tp_judge.specs.Spans.{span_text, span_texts}
use Rattle.tp_judge.specs.Tree.{TellsSomething, told_in, told_of}
use Rattle.tp_judge.proofs.UniqueLineMeanings.{told_read}
use Rattle.tp_judge.proofs.referee.tree.Trace.line.Goals as goal

pub unreachable-requires : goal.unreachable-requires
unreachable-requires c =
    let text = c.self.inside.text.now in
    let spans = c.self.inside.spans.items in
    let lines = span_texts text spans in
    let line = span_text text c.index-span.result.now in
    let fewer : length (map told_in lines) ≡ length lines = length-map lines told_in in
    let as_many : length lines ≡ length spans = length-map spans (span_text text) in
    let within : c.args.place < length lines = omega (arith, c.requires, fewer, ap length c.self.view_is) in
    let here = slice_get-get_or spans c.args.place c.index-span.result.now (omega (arith, within, as_many)) ∙ ap Some (sym c.index-span.ensures) in
    let there : slice_get lines c.args.place ≡ Some line = slice_get-map (span_text text) spans c.args.place ∙ ap (option_map (span_text text)) here in
    let tells = subst TellsSomething (get_or_from_slice_get lines c.args.place line line there)
    (c.self.invariant.trace.told c.args.place line within) in
    c.in-None.ensures tells.0 tells.1

pub returns : goal.returns
returns c =
    let text = c.self.inside.text.now in
    let spans = c.self.inside.spans.items in
    let lines = span_texts text spans in
    let line = span_text text c.index-span.result.now in
    let fewer : length (map told_in lines) ≡ length lines = length-map lines told_in in
    let as_many : length lines ≡ length spans = length-map spans (span_text text) in
    let within : c.args.place < length lines = omega (arith, c.requires, fewer, ap length c.self.view_is) in
    let here = slice_get-get_or spans c.args.place c.index-span.result.now (omega (arith, within, as_many)) ∙ ap Some (sym c.index-span.ensures) in
    let there : slice_get lines c.args.place ≡ Some line = slice_get-map (span_text text) spans c.args.place ∙ ap (option_map (span_text text)) here in
    ap (λ l. slice_get l c.args.place) (sym c.self.view_is)
    ∙ slice_get-map told_in lines c.args.place
    ∙ ap (option_map told_in) there
    ∙ ap Some (told_read line (told_of c.in-Some.line) c.in-Some.ensures)
