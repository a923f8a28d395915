-- The set has the types of the list, and no two that are one.
use Rattle.std.proofs.Common.{◌∙◌, ap}
use Rattle.std.specs.List.{list_any}
use Rattle.tp_config.specs.Types.{same_type}
use Rattle.tp_config.proofs.TypeListInclusion.{distinct_types}
use Rattle.tp_config.proofs.type_list.Listed.distinct.Goals as goal

pub returns-clause-same : goal.returns-clause-same
returns-clause-same c = λ ty.
    ap (list_any (λ other. same_type other ty)) c.as_slice.ensures.keys ∙ c.self.invariant ty ∙ ap (list_any (λ other. same_type other ty)) c.self.view_is

pub returns-clause-once : goal.returns-clause-once
returns-clause-once c = rw c.as_slice.ensures.keys (distinct_types _ c.as_slice.ensures.unique)
