use Rattle.std.proofs.Common.{◌≤◌, length}
use Rattle.tp_syntax.specs.Rule.{declarations, end_of_declaration}
use Rattle.tp_tree.specs.declared.tree.PortDeclaration.{PortDeclaration}
use Rattle.tp_syntax.specs.Parsing.{left}
use Rattle.tp_syntax.specs.DefinitionTrees.{port_tree}
use Rattle.tp_syntax.proofs.PartsWithSemicolons.{Stepped}
use Rattle.tp_syntax.proofs.cursor.Parser.ports.Given as goal

abbrev pub invariant-more : goal.invariant-more
invariant-more l = record {
  stepped : Stepped declarations end_of_declaration port_tree (λ (p : PortDeclaration). p.has_semicolon) (left l.fn.self) (left l.self) l.ports;
  shorter : length l.self.rest.now ≤ length l.fn.self.rest.now;
}

abbrev pub decreases-more : goal.decreases-more
decreases-more l = length l.self.rest.now
