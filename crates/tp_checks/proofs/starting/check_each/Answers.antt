-- The next start obeys its rules, and its component was not started before.
use Rattle.std.proofs.Common.{◌+◌, ◌++◌, ◌∷◌, [], ◌∙◌, ap, arith, drop, map, subst, sym, take}
use Rattle.std.proofs.lemmas.List.{map_push}
use Rattle.tp_tree.specs.declared.tree.ComponentStart.{ComponentStart}
use Rattle.tp_checks.specs.{Sorted.functions_in, Starting.IsStartOf, Tables.IsNumbered, Refused.Tells, BrokenStarts.StartBreaksAmong}
use Rattle.tp_checks.proofs.{NameSetLookups.place_known, DistinctNamesInParts.numbered_first, DistinctNamesInParts.repeated}
use Rattle.tp_checks.proofs.{ModuleRefusalPropagation.handed_on, ModuleRefusalPropagation.mapped_behind, UniqueZipsAndPlaces.zip_here}
use Rattle.tp_checks.proofs.{ListPrefixGrowth.pushed, ListPrefixGrowth.zip_more, StartFaultsTold.start_among, ModuleFaultPropagation.handed}
use Rattle.tp_checks.proofs.starting.check_each.Goals as goal

pub loop-start-preserved : goal.loop-start-preserved
loop-start-preserved c =
    let xs = c.args.starts.now in
    let i = c.loop-start.start-index in
    let x = c.start-item.result in
    let name = λ (x : ComponentStart). x.component in
    rw c.in_ok-push.ensures.items
    (record {
      started = zip_more (IsStartOf (functions_in c.args.sorted.now) c.args.variables.now (map (λ t. t.now) c.args.types.now)) xs c.loop-start.started.items i x
          c.in_ok-one.one (omega arith) c.start-item.is
          c.loop-start.invariant.started c.in_ok-one.ensures.start;
      names = c.in_ok-add_started.ensures.added ∙ ap (λ l. l ++ x.component ∷ []) c.loop-start.invariant.names
          ∙ sym (map_push name (take i xs) x)
          ∙ ap (map name) (pushed xs i x (omega arith) c.start-item.is);
      numbered = c.in_ok-add_started.ensures.numbered;
    })

pub returns-in_err-add_started-clause-refused : goal.returns-in_err-add_started-clause-refused
returns-in_err-add_started-clause-refused c = λ few.
    let xs = c.args.starts.now in
    let i = c.loop-start.start-index in
    let x = c.start-item.result in
    let name = λ (x : ComponentStart). x.component in
    handed_on c.from_residual.result _ c.from_residual.ensures.1 c.in_err-add_started.ensures.refused
    (λ r. (
      let one = zip_here (IsStartOf (functions_in c.args.sorted.now) c.args.variables.now (map (λ t. t.now) c.args.types.now)) xs r.0 i x r.1
          (omega arith) c.start-item.is in place_known c.args.variables.now (name x) one.1.variable (sym one.1.variable_known),
      numbered_first _ (map name (drop (i + 1) xs))
          (subst IsNumbered (mapped_behind name [] c.loop-start.names xs i x (omega arith) c.start-item.is c.loop-start.invariant.names) r.2),
    ))

pub returns-in_err-one-clause-refused : goal.returns-in_err-one-clause-refused
returns-in_err-one-clause-refused c = λ few.
    handed_on c.from_residual-in_err-one.result _ c.from_residual-in_err-one.ensures.1 (c.in_err-one.ensures.refused few)
    (λ r. zip_here (IsStartOf (functions_in c.args.sorted.now) c.args.variables.now (map (λ t. t.now) c.args.types.now)) c.args.starts.now r.0
    c.loop-start.start-index c.start-item.result r.1 (omega arith) c.start-item.is)

pub returns-in_err-add_started-clause-told : goal.returns-in_err-add_started-clause-told
returns-in_err-add_started-clause-told c = λ few.
    let functions = functions_in c.args.sorted.now in
    let types = map (λ t. t.now) c.args.types.now in
    let xs = c.args.starts.now in
    let before = c.loop-start.invariant in
    handed (Tells (StartBreaksAmong functions c.args.variables.now types xs)) c.from_residual.result _ c.from_residual.ensures.1
    (start_among functions c.args.variables.now types xs c.loop-start.start-index c.start-item.result c.loop-start.names c.loop-start.started.items
    c.in_err-add_started.field-0.0 (omega arith) c.start-item.is before.started before.names before.numbered
    (c.in_err-add_started.ensures.told functions types))

pub returns-in_err-one-clause-told : goal.returns-in_err-one-clause-told
returns-in_err-one-clause-told c = λ few.
    let functions = functions_in c.args.sorted.now in
    let types = map (λ t. t.now) c.args.types.now in
    let xs = c.args.starts.now in
    let before = c.loop-start.invariant in
    let x = c.start-item.result in
    let own = subst IsNumbered c.in_ok-add_started.ensures.added c.in_ok-add_started.ensures.numbered in
    handed (Tells (StartBreaksAmong functions c.args.variables.now types xs)) c.from_residual-in_err-one.result _
    c.from_residual-in_err-one.ensures.1
    (start_among functions c.args.variables.now types xs c.loop-start.start-index x c.loop-start.names c.loop-start.started.items
    c.in_err-one.field-0.0 (omega arith) c.start-item.is before.started before.names before.numbered
    (c.in_err-one.ensures.told c.loop-start.names few (λ h. repeated c.loop-start.names x.component h own.distinct)))
