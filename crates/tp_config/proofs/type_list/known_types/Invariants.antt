-- The set has the types of the list that were passed so far.
use Rattle.std.proofs.Common.{take}
use Rattle.tp_config.specs.Types.{HaveSame}
use Rattle.tp_config.proofs.type_list.known_types.Given as goal

abbrev pub invariant-loop-ty : goal.invariant-loop-ty
invariant-loop-ty l = HaveSame l.known.keys (take l.ty-index l.types)
