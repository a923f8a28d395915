-- A `connect` or a `map` that can't be made.
use Rattle.std.proofs.Common.{◌≡◌, ℕ, ◌+◌, ◌<◌, Option, List, ◌++◌, length, take, drop, get_or, map, refl, sym, ap, ◌∙◌, subst}
use Rattle.std.proofs.{lemmas.List.map-append, lemmas.List.take-append-drop, lemmas.List.Elements.filter_map-append}
use Rattle.std.specs.Option.{option_map, option_to_list}
use Rattle.tp_tree.specs.declared.tree.{PairEnd.PairEnd, SetupStatement.SetupStatement}
use Rattle.tp_config.specs.declared.port_type.PortRef.{PortRef}
use Rattle.tp_config.specs.declared.connecting.ConnectFault.{ConnectFault}
use Rattle.tp_config.specs.declared.mapping.MapFault.{MapFault}
use Rattle.tp_config.specs.{Setup.Setup, Causes.ConnectRefused, Causes.MapRefused, Faults.connect_refusal, Faults.map_refusal}
use Rattle.tp_checks.specs.declared.fault.ModuleFault.{ModuleFault}
use Rattle.tp_checks.specs.declared.fault.ModuleFault.TheVariants as module_fault
use Rattle.tp_checks.specs.{Refused.Tells, Refused.TellsAt, Tables.IsNumbered, Told.IsAtLine, Told.fault_refusal}
use Rattle.tp_checks.specs.BrokenSetup.{ConnectBreaks, MapBreaks, PairBreaks, PairsBreak, connect_refused, map_refused}
use Rattle.tp_checks.specs.Components.{creation_of, creations, variable_name, variables}
use Rattle.tp_checks.specs.Configuring.{IsPortOfEnd, Makes}
use Rattle.tp_checks.proofs.{SetupStatementGrowth.variables_more, DistinctNamesInParts.numbered_first, NameFaultsTold.split_here}
use Rattle.tp_checks.proofs.{RuleFaultPropagation.told_from, ModuleFaultPropagation.really_broken}
use Rattle.tp_checks.specs.BrokenSetup as b

module _ (s : Setup) (names : List (List ℕ)) (system : Option ℕ) (x y : PairEnd) (p q : PortRef) (first : IsPortOfEnd s names system x p)
    (second : IsPortOfEnd s names system y q) (line : ℕ) where
  pub connect_told : (f : ConnectFault) (fault : ModuleFault) → ConnectRefused s p q f → fault_refusal fault ≡ connect_refusal f → IsAtLine line fault
      → TellsAt line (ConnectBreaks s names system x y) fault
  connect_told f (module_fault.Refused rule at) refused told here = (here, connect_refused p q f rule first second refused told)
  connect_told f (module_fault.Memory m) refused told here = tt

  pub map_told : (f : MapFault) (fault : ModuleFault) → MapRefused s p q f → fault_refusal fault ≡ map_refusal f → IsAtLine line fault
      → TellsAt line (MapBreaks s names system x y) fault
  map_told f (module_fault.Refused rule at) refused told here = (here, map_refused p q f rule first second refused told)
  map_told f (module_fault.Memory m) refused told here = tt

module _ (xs : List SetupStatement) (i : ℕ) (x : SetupStatement) (lt : i < length xs) (is : x ≡ get_or xs i x) (names : List (List ℕ))
    (named : names ≡ variables (take i xs)) where
  -- the variable of the next statement is new, where all are
  pub numbered_next : IsNumbered (variables xs) → IsNumbered (names ++ option_to_list (option_map variable_name (creation_of x)))
  numbered_next own =
      let more : names ++ option_to_list (option_map variable_name (creation_of x)) ≡ variables (take (i + 1) xs) =
      variables_more xs i x lt is names (names ++ option_to_list (option_map variable_name (creation_of x))) named refl in
      let rest : variables xs ≡ variables (take (i + 1) xs) ++ variables (drop (i + 1) xs) =
      ap variables (sym (take-append-drop (i + 1) xs)) ∙ ap (map variable_name) (filter_map-append creation_of (take (i + 1) xs) (drop (i + 1) xs))
      ∙ map-append variable_name (creations (take (i + 1) xs)) (creations (drop (i + 1) xs)) in
      subst IsNumbered (sym more) (numbered_first (variables (take (i + 1) xs)) (variables (drop (i + 1) xs)) (subst IsNumbered rest own))

  -- the next statement breaks a rule after those before it
  pub pair_among : (system : Option ℕ) (start s : Setup) (f : ModuleFault) → Makes system start (take i xs) s
      → TellsAt x.line (PairBreaks s names system x.action) f → Tells (PairsBreak system start xs) f
  pair_among system start s f makes told =
      told_from x.line (PairBreaks s names system x.action) (PairsBreak system start xs) f (λ rule b. record {
        before = take i xs;
        statement = x;
        after = drop (i + 1) xs;
        config = s;
        split = split_here xs i x lt is;
        makes = makes;
        breaks = subst (λ l. PairBreaks s l system x.action rule) named b;
        line_is = refl;
      }) told

pub ruleset pairs = (b.first_end, b.second_end, really_broken, b.connect_ends, b.map_ends, connect_told, map_told)
