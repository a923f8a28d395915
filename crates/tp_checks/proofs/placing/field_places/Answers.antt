-- The next entry takes the free place of its name, and at the end each field has an entry.
use Rattle.std.proofs.Common.{◌≡◌, ◌<◌, refl, arith, ap, sym, ◌∙◌, slice_get, length, option_map, map, true, true≢false, subst, Some}
use Rattle.std.proofs.{lemmas.Bool.OnFalse_at, lemmas.Option.slice_get-map, lemmas.Option.slice_get_read, lemmas.Option.slice_get_within}
use Rattle.std.proofs.lemmas.List.{length-map, length-set}
use Rattle.tp_checks.specs.{Named.IsAbsent, Placing.field_names}
use Rattle.tp_checks.proofs.{PlacedEntriesGrowth.pairs_more, PlacedEntriesGrowth.taken_more, RuleFaultPropagation.told_rule}
use Rattle.tp_checks.proofs.NoFieldEntryRefused.{placed_more, no_unknown, no_second, none_missing}
use Rattle.tp_checks.proofs.placing.field_places.Goals as goal

pub loop-index-preserved : goal.loop-index-preserved
loop-index-preserved g c =
    let names = map g.E.NamedField.name c.args.entries.now in
    let i = c.loop-index.invariant in
    let is_entry : slice_get c.args.entries.now c.loop-index.index ≡ Some c.index-entries-index.result =
    slice_get_read c.args.entries.now (length c.args.entries.now) c.loop-index.index c.index-entries-index.result refl (omega arith)
    c.index-entries-index.is in
    let name =
    slice_get-map g.E.NamedField.name c.args.entries.now c.loop-index.index ∙ ap (option_map g.E.NamedField.name) is_entry in
    let here : slice_get (field_names c.args.fields.now) c.in-Some.place ≡ slice_get names (length c.loop-index.places.items) =
    (rw c.in-Some.is at c.in_ok-found.ensures.found) ∙ ap Some c.name.ensures ∙ sym (ap (slice_get names) i.passed ∙ name) in
    let taken = c.occupy.ensures.free c.if-not-occupy.false in
    let inside : c.in-Some.place < length c.loop-index.taken.items =
    omega (
      arith,
      i.as_many,
      length-map c.args.fields.now (λ f. f.name),
      slice_get_within (field_names c.args.fields.now) c.in-Some.place
          (g.E.NamedField.name c.index-entries-index.result) (here ∙ ap (slice_get names) i.passed ∙ name),
    ) in
    record {
      as_many = ap length taken ∙ length-set c.loop-index.taken.items c.in-Some.place true ∙ i.as_many;
      passed = omega (arith, c.push_reserved.ensures.len, i.passed);
      room = c.push_reserved.ensures.capacity ∙ i.room;
      same_name =
          rw c.push_reserved.ensures.items
          (pairs_more (field_names c.args.fields.now) names c.loop-index.places.items c.in-Some.place here i.same_name);
      each = rw (c.push_reserved.ensures.items, taken) (taken_more c.loop-index.taken.items c.loop-index.places.items c.in-Some.place i.each);
      taken =
          rw (c.push_reserved.ensures.items, taken)
          (placed_more c.loop-index.taken.items c.loop-index.places.items c.in-Some.place inside i.taken);
      table = c.in_ok-found.ensures.table;
    }

pub returns-clause-placed : goal.returns-clause-placed
returns-clause-placed g c =
    let i = c.loop-index.invariant in
    let all = c.are_all.ensures.0 c.if-not-are_all.false in
    record {
      count = length-map c.args.entries.now g.E.NamedField.name ∙ omega arith;
      as_many = i.passed ∙ omega (arith, length-map c.args.entries.now g.E.NamedField.name);
      same_name = i.same_name;
      each = λ k below. i.each k (subst (λ l. slice_get l k ≡ Some true) c.deref.ensures.value (all k (omega (arith, i.as_many, c.deref.ensures.len, below))));
    }

pub returns-in_default-clause-told : goal.returns-in_default-clause-told
returns-in_default-clause-told g c = λ apart.
    let names = map g.E.NamedField.name c.args.entries.now in
    let is_entry : slice_get c.args.entries.now c.loop-index.index ≡ Some c.index-entries-index.result =
    slice_get_read c.args.entries.now (length c.args.entries.now) c.loop-index.index c.index-entries-index.result refl (omega arith)
    c.index-entries-index.is in
    let absent : IsAbsent (field_names c.args.fields.now) c.name.result.now =
    rw c.in_default.is at (c.in_ok-found.ensures.absent apart) in
    told_rule _ _ _ _ (cc) (
      refl,
      λ all.
          no_unknown c.args.fields.now names apart all c.loop-index.index c.name.result.now
          (slice_get-map g.E.NamedField.name c.args.entries.now c.loop-index.index ∙ ap (option_map g.E.NamedField.name) is_entry ∙ ap Some (sym c.name.ensures))
          absent,
    )

pub returns-then-not-occupy-clause-told : goal.returns-then-not-occupy-clause-told
returns-then-not-occupy-clause-told g c = λ apart.
    let names = map g.E.NamedField.name c.args.entries.now in
    let i = c.loop-index.invariant in
    let is_entry : slice_get c.args.entries.now c.loop-index.index ≡ Some c.index-entries-index.result =
    slice_get_read c.args.entries.now (length c.args.entries.now) c.loop-index.index c.index-entries-index.result refl (omega arith)
    c.index-entries-index.is in
    let there : slice_get names (length c.loop-index.places.items) ≡ Some c.name.result.now =
    ap (slice_get names) i.passed ∙ slice_get-map g.E.NamedField.name c.args.entries.now c.loop-index.index
    ∙ ap (option_map g.E.NamedField.name) is_entry ∙ ap Some (sym c.name.ensures) in
    let placed : slice_get (field_names c.args.fields.now) c.in-Some.place ≡ Some c.name.result.now =
    rw c.in-Some.is at c.in_ok-found.ensures.found in
    let inside : c.in-Some.place < length c.loop-index.taken.items =
    omega (
      arith,
      i.as_many,
      length-map c.args.fields.now (λ f. f.name),
      slice_get_within (field_names c.args.fields.now) c.in-Some.place
          c.name.result.now placed,
    ) in
    told_rule _ _ _ _ (cc) (
      refl,
      λ all.
          no_second c.args.fields.now names apart all c.loop-index.places.items c.in-Some.place c.name.result.now i.same_name there placed
          (i.each c.in-Some.place (OnFalse_at c.if-not-occupy.true c.occupy.ensures.taken inside)),
    )

pub returns-then-not-are_all-clause-told : goal.returns-then-not-are_all-clause-told
returns-then-not-are_all-clause-told g c = λ apart.
    let i = c.loop-index.invariant in
    let names = map g.E.NamedField.name c.args.entries.now in
    told_rule _ _ _ _ (cc) (
      refl,
      λ all.
          true≢false (sym (c.are_all.ensures.1 (λ k below.
          let p = none_missing c.args.fields.now names apart all c.loop-index.places.items i.same_name
          (i.passed ∙ omega (arith, length-map c.args.entries.now g.E.NamedField.name)) k
          (omega (arith, below, i.as_many, c.deref.ensures.len)) in
          subst (λ l. slice_get l k ≡ Some true) (sym c.deref.ensures.value) (i.taken p.0 k p.1))) ∙ c.if-not-are_all.true),
    )
