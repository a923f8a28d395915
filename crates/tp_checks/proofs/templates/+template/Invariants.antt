-- What the templates so far stand for is made, each in its turn or at the place of its field.
use Rattle.std.proofs.Common.{take}
use Rattle.tp_checks.specs.{Named.texts, Messages.AreMembers, Messages.AreElementTemplates, Messages.AreFieldTemplates, Scoping.stands_here}
use Rattle.tp_checks.specs.BrokenTemplates.{IsTemplateOf}
use Rattle.tp_checks.proofs.EntriesInDeclaredOrder.{Entered}
use Rattle.tp_checks.proofs.templates.+template.Given as goal

abbrev pub invariant-resolve_element_templates-loop-member : goal.invariant-resolve_element_templates-loop-member
invariant-resolve_element_templates-loop-member l =
    AreElementTemplates l.context.scope.now.types.now (texts l.context.turns.now) l.ty (take l.member-index l.members) l.made

abbrev pub invariant-resolve_field_templates-loop-index : goal.invariant-resolve_field_templates-loop-index
invariant-resolve_field_templates-loop-index l =
    AreFieldTemplates l.context.scope.now.types.now (texts l.context.turns.now) (take l.index l.fields) (take l.index l.members) l.made

abbrev pub invariant-resolve_named_templates-loop-index : goal.invariant-resolve_named_templates-loop-index
invariant-resolve_named_templates-loop-index l =
    Entered (λ x. x.name) (stands_here IsTemplateOf l.context) l.entries l.fields l.places.items l.index l.made.items

abbrev pub invariant-resolve_members-loop-member : goal.invariant-resolve_members-loop-member
invariant-resolve_members-loop-member l = AreMembers l.context.scope.now.types.now (texts l.context.turns.now) l.ty (take l.member-index l.members) l.made
