-- What the templates so far come to is made, in their order, and there is room for the others.
use Rattle.std.proofs.Common.{◌≡◌, ◌≤◌, length, map, take, vec_capacity}
use Rattle.tp_play.specs.Fills.{filled_template}
use Rattle.tp_play.proofs.fill.+template.Given as goal

abbrev pub invariant-fill_all-loop-template : goal.invariant-fill_all-loop-template
invariant-fill_all-loop-template l =
    record {
      made : l.made.items ≡ map (filled_template l.turns) (take l.template-index l.templates);
      room : length l.templates ≤ vec_capacity l.made;
    }
