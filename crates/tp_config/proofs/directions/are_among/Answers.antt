-- Whether each type is among others is the same for a list and for its types, each once.
use Rattle.std.proofs.Common.{◌∙◌}
use Rattle.tp_config.proofs.TypeListInclusion.{among_alike}
use Rattle.tp_config.proofs.directions.are_among.Goals as goal

pub returns : goal.returns
returns c = c.are_all_among.ensures ∙ among_alike _ _ _ c.types_of.ensures
