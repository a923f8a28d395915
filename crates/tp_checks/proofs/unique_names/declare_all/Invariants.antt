-- The names so far are added, and no two are equal.
use Rattle.std.proofs.Common.{◌≡◌, ◌++◌, map, take}
use Rattle.tp_checks.specs.{Tables.IsNumbered, Definitions.declared}
use Rattle.tp_checks.proofs.unique_names.declare_all.Given as goal

abbrev pub invariant-loop-item : goal.invariant-loop-item
invariant-loop-item g l = record {
  names : l.names ≡ l.fn.names ++ map (λ x. declared (g.D.Declares.declared_name x)) (take l.item-index l.list);
  numbered : IsNumbered l.names;
}
