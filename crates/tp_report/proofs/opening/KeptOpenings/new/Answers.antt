-- Nothing is kept at any place.
use Rattle.std.proofs.lemmas.List.Elements.{All-replicate}
use Rattle.tp_report.specs.LineOpenings.{HasItsText}
use Rattle.tp_report.proofs.opening.KeptOpenings.new.Goals as goal

pub returns : goal.returns
returns c s = All-replicate (HasItsText s) 128 c.new.result (c.new.ensures s)
