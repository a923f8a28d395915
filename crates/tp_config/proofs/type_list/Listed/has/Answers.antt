-- A type is in the set exactly where it is in the list.
use Rattle.std.proofs.Common.{◌∙◌, ap}
use Rattle.std.specs.List.{list_any}
use Rattle.tp_config.specs.Types.{same_type}
use Rattle.tp_config.proofs.TypeSetMembership.{any_alike}
use Rattle.tp_config.proofs.type_list.Listed.has.Goals as goal

pub returns : goal.returns
returns c =
    c.contains.ensures ∙ any_alike c.args.ty c.self.inside.known.keys ∙ c.self.invariant c.args.ty
    ∙ ap (list_any (λ other. same_type other c.args.ty)) c.self.view_is
