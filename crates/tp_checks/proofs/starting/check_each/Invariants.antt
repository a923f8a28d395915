-- The starts so far obey their rules, and start different components.
use Rattle.std.proofs.Common.{◌≡◌, map, take}
use Rattle.std.specs.List.{AllZip}
use Rattle.tp_checks.specs.{Tables.IsNumbered, Sorted.functions_in, Starting.IsStartOf, Starting.started_names}
use Rattle.tp_checks.proofs.starting.check_each.Given as goal

abbrev pub invariant-loop-start : goal.invariant-loop-start
invariant-loop-start l = record {
  started : AllZip (IsStartOf (functions_in l.sorted) l.variables (map (λ t. t.now) l.types)) (take l.start-index l.starts) l.started.items;
  names : l.names ≡ started_names (take l.start-index l.starts);
  numbered : IsNumbered l.names;
}
