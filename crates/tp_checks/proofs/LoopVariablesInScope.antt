-- What stands for a text speaks of no loop variables but those around the text.
use Rattle.std.proofs.Common.{ℕ, ◌≤◌, List, [], ◌∷◌, ◌++◌, Option, None, Some, length, map, arith}
use Rattle.std.proofs.{lemmas.List.length_push, lemmas.Option.slice_get_within}
use Rattle.tp_value.specs.declared.types.{Ty.Ty, Field.Field, Types.Types}
use Rattle.tp_tree.specs.declared.message.{Value.Value, ValueField.ValueField, Template.Template, TemplateField.TemplateField}
use Rattle.tp_tree.specs.declared.message.MessageTemplate.{MessageTemplate}
use Rattle.tp_tree.specs.declared.tree.{SentExpression.SentExpression, Statement.Statement as StatementText, Action.Action}
use Rattle.tp_tree.specs.declared.tree.{Branch.Branch as BranchText, BranchBody.BranchBody, Counted.out-Counted}
use Rattle.tp_play.specs.declared.body.{SendValue.SendValue, SendValue.TheFolds.fold-roll-SendValue, RecvTemplate.RecvTemplate, Sent.Sent}
use Rattle.tp_play.specs.declared.body.{RecvTemplate.TheFolds.fold-roll-RecvTemplate, RecvMsg.RecvMsg, ResolvedStatement.ResolvedStatement}
use Rattle.tp_play.specs.declared.body.ResolvedStatement.TheFolds.{fold-roll-ResolvedStatement, fold_out-ResolvedBranch}
use Rattle.tp_play.specs.declared.body.ResolvedBranch.{ResolvedBranch}
use Rattle.tp_play.specs.declared.body.SendValue.TheVariants as w
use Rattle.tp_play.specs.declared.body.RecvTemplate.TheVariants as r
use Rattle.tp_play.specs.declared.body.ResolvedStatement.TheVariants as s
use Rattle.tp_checks.specs.declared.scope.Variables.{Variables}
use Rattle.tp_checks.specs.Scoping.{Visible}
use Rattle.tp_checks.specs.Messages.{IsValue, AreElements, AreFields, AreNamed, IsTemplate, AreMembers, AreElementTemplates, IsElementTemplate, AreFieldTemplates, AreNamedTemplates}
use Rattle.tp_checks.specs.Bodies.{IsSent, IsWanted, IsStatement, IsBlock, IsBranch, IsAfter, AreBranches}
use Rattle.tp_checks.specs.NeededLoopVariables.{needed_by_sent, needed_around, needed_around_branch, needed_around_all}
use Rattle.tp_checks.specs.Messages as d
use Rattle.tp_checks.specs.Bodies as b
use Rattle.tp_play.specs.Fills.{greatest, needed, needed_by_template, needed_by_wanted}
use Rattle.tp_play.proofs.FilledValueEquations.{needed_turn, needed_record, needed_list, needed_by_exact, needed_by_one_of, needed_by_none_of, needed_by_record, needed_by_list}

-- what is enough for all and for one more is enough for all of them
greatest_push : {A : Type 0} (f : A → ℕ) (xs : List A) (y : A) (n : ℕ) → greatest (map f xs) ≤ n → f y ≤ n → greatest (map f (xs ++ y ∷ [])) ≤ n
greatest_push f [] y n all one = omega (arith, one)
greatest_push f (x ∷ xs) y n all one = omega (arith, all, greatest_push f xs y n (omega (arith, all)) one)

module _ (types : Types) (turns : List (List ℕ)) where
  mutual
    unfolding needed

    pub value_closed : {u : Ty} {x : Value} {y : SendValue} → IsValue types turns u x y → needed y ≤ length turns
    value_closed (d.int z h) = rw (← (w.rolls-Int z), fold-roll-SendValue) (omega arith)
    value_closed (d.bool b) = rw (← (w.rolls-Bool b), fold-roll-SendValue) (omega arith)
    value_closed (d.text cs h) = rw (← (w.rolls-Text cs), fold-roll-SendValue) (omega arith)
    value_closed (d.turn n k h) = omega (arith, needed_turn k, slice_get_within turns k n h.there)
    value_closed (d.elements u element vs ws f h) = omega (arith, needed_list ws, elements_closed h)
    value_closed (d.places u fields vs ws f h) = omega (arith, needed_record ws, fields_closed h)
    value_closed (d.fields u fields vs ws f n h) = omega (arith, needed_record ws, named_closed h)

    elements_closed : {u : Ty} {xs : List Value} {ys : List SendValue} → AreElements types turns u xs ys → greatest (map needed ys) ≤ length turns
    elements_closed (d.no_element u) = omega arith
    elements_closed (d.one_element_more u vs ws x y h one) = greatest_push needed ws y (length turns) (elements_closed h) (value_closed one)

    fields_closed : {fs : List Field} {xs : List Value} {ys : List SendValue} → AreFields types turns fs xs ys → greatest (map needed ys) ≤ length turns
    fields_closed d.no_field = omega arith
    fields_closed (d.one_field_more fs vs ws f x y h one) = greatest_push needed ws y (length turns) (fields_closed h) (value_closed one)

    named_closed : {xs : List ValueField} {fs : List Field} {ys : List SendValue} → AreNamed types turns xs fs ys → greatest (map needed ys) ≤ length turns
    named_closed (d.no_name entries) = omega arith
    named_closed (d.one_name_more entries fs ws f j x y h there same one) = greatest_push needed ws y (length turns) (named_closed h) (value_closed one)

  mutual
    unfolding needed needed_by_template

    pub template_closed : {u : Ty} {x : Template} {y : RecvTemplate} → IsTemplate types turns u x y → needed_by_template y ≤ length turns
    template_closed (d.int_template z h) = rw needed_by_exact (value_closed (d.int z h))
    template_closed (d.bool_template b) = rw needed_by_exact (value_closed (d.bool b))
    template_closed (d.text_template cs h) = rw needed_by_exact (value_closed (d.text cs h))
    template_closed (d.turn_template n k h) = rw needed_by_exact (value_closed (d.turn n k h))
    template_closed (d.any u) = rw (← r.rolls-Any, fold-roll-RecvTemplate) (omega arith)
    template_closed (d.one_of u ts rs h) = omega (arith, needed_by_one_of rs, members_closed h)
    template_closed (d.none_of u ts rs h) = omega (arith, needed_by_none_of rs, members_closed h)
    template_closed (d.range low high h) = rw (← (r.rolls-Range low high), fold-roll-RecvTemplate) (omega arith)
    template_closed (d.pattern cs) = rw (← (r.rolls-Pattern (map d.part_of cs)), fold-roll-RecvTemplate) (omega arith)
    template_closed (d.element_templates u element ts rs f h) = omega (arith, needed_by_list rs, element_templates_closed h)
    template_closed (d.place_templates u fields ts rs f h) = omega (arith, needed_by_record rs, field_templates_closed h)
    template_closed (d.field_templates u fields ts rs f n h) = omega (arith, needed_by_record rs, named_templates_closed h)

    members_closed : {u : Ty} {xs : List Template} {ys : List RecvTemplate} → AreMembers types turns u xs ys
        → greatest (map needed_by_template ys) ≤ length turns
    members_closed (d.no_member u) = omega arith
    members_closed (d.one_member_more u ts rs x y h one) = greatest_push needed_by_template rs y (length turns) (members_closed h) (template_closed one)

    element_templates_closed : {u : Ty} {xs : List Template} {ys : List RecvTemplate} → AreElementTemplates types turns u xs ys
        → greatest (map needed_by_template ys) ≤ length turns
    element_templates_closed (d.no_element_template u) = omega arith
    element_templates_closed (d.one_element_template_more u ts rs x y h one) =
        greatest_push needed_by_template rs y (length turns) (element_templates_closed h) (element_template_closed one)

    element_template_closed : {u : Ty} {x : Template} {y : RecvTemplate} → IsElementTemplate types turns u x y → needed_by_template y ≤ length turns
    element_template_closed (d.many u) = rw (← r.rolls-AnyOrNone, fold-roll-RecvTemplate) (omega arith)
    element_template_closed (d.single u x y one) = template_closed one

    field_templates_closed : {fs : List Field} {xs : List Template} {ys : List RecvTemplate} → AreFieldTemplates types turns fs xs ys
        → greatest (map needed_by_template ys) ≤ length turns
    field_templates_closed d.no_field_template = omega arith
    field_templates_closed (d.one_field_template_more fs ts rs f x y h one) =
        greatest_push needed_by_template rs y (length turns) (field_templates_closed h) (template_closed one)

    named_templates_closed : {xs : List TemplateField} {fs : List Field} {ys : List RecvTemplate} → AreNamedTemplates types turns xs fs ys
        → greatest (map needed_by_template ys) ≤ length turns
    named_templates_closed (d.no_name_template entries) = omega arith
    named_templates_closed (d.one_name_template_more entries fs rs f j x y h there same one) =
        greatest_push needed_by_template rs y (length turns) (named_templates_closed h) (template_closed one)

module _ (scope : Visible) (variables : Variables) where
  sent_closed : (turns : List (List ℕ)) (sendable : List Ty) {x : SentExpression} {y : Sent} → IsSent scope variables turns sendable x y
      → needed_by_sent y ≤ length turns
  sent_closed turns sendable (b.written x m h l) = value_closed scope.types turns h.fits
  sent_closed turns sendable (b.counter n k h l) = omega (arith, needed_turn k, slice_get_within turns k n h.there)
  sent_closed turns sendable (b.held n k u a h l) = omega arith

  pub wanted_closed : (turns : List (List ℕ)) (receivable : List Ty) {x : Option MessageTemplate} {y : RecvMsg} → IsWanted scope turns receivable x y
      → needed_by_wanted y ≤ length turns
  wanted_closed turns receivable b.every_message = omega arith
  wanted_closed turns receivable (b.matching x u r f l h) = template_closed scope.types turns h

  mutual
    unfolding needed_around needed_around_branch

    statement_closed : {turns : List (List ℕ)} {x : Action} {y : ResolvedStatement} → IsStatement scope variables turns x y → needed_around y ≤ length turns
    statement_closed (b.send turns x y h) = rw (← (s.rolls-Send y), fold-roll-ResolvedStatement) (sent_closed turns _ h.sent)
    statement_closed (b.receive turns x y h) = rw (← (s.rolls-Receive y), fold-roll-ResolvedStatement) (wanted_closed turns _ h.wants)
    statement_closed (b.control turns x k port other h) = rw (← (s.rolls-Control k x.operation), fold-roll-ResolvedStatement) (omega arith)
    statement_closed (b.all_ports turns x other) = rw (← (s.rolls-AllPorts x), fold-roll-ResolvedStatement) (omega arith)
    statement_closed (b.set_verdict turns x y other h) = rw (← (s.rolls-SetVerdict y), fold-roll-ResolvedStatement) (omega arith)
    statement_closed (b.alt turns xs ys h) = rw (← (s.rolls-Alt ys None), fold-roll-ResolvedStatement) (omega (arith, branches_closed h))
    statement_closed (b.alt_else turns xs ys e otherwise h inner) =
        rw (← (s.rolls-Alt ys (Some otherwise)), fold-roll-ResolvedStatement) (omega (arith, branches_closed h, block_closed inner))
    statement_closed (b.counted turns x inside new h) =
        rw (← (s.rolls-For (out-Counted x).turns.first (out-Counted x).turns.bound inside), fold-roll-ResolvedStatement)
        (omega (arith, block_closed h, length_push turns (out-Counted x).turns.name))

    pub block_closed : {turns : List (List ℕ)} {xs : List StatementText} {ys : List ResolvedStatement} → IsBlock scope variables turns xs ys
        → needed_around_all ys ≤ length turns
    block_closed (b.no_statement turns) = omega arith
    block_closed (b.one_statement_more turns xs ys x y h one) = greatest_push needed_around ys y (length turns) (block_closed h) (statement_closed one)

    branch_closed : {turns : List (List ℕ)} {x : BranchText} {y : ResolvedBranch} → IsBranch scope variables turns x y → needed_around_branch y ≤ length turns
    branch_closed (b.branch turns x y h inner) = rw fold_out-ResolvedBranch (omega (arith, wanted_closed turns _ h.wants, after_closed inner))

    after_closed : {turns : List (List ℕ)} {x : BranchBody} {ys : List ResolvedStatement} → IsAfter scope variables turns x ys → needed_around_all ys ≤ length turns
    after_closed (b.nothing turns) = omega arith
    after_closed (b.block turns xs ys h) = block_closed h

    branches_closed : {turns : List (List ℕ)} {xs : List BranchText} {ys : List ResolvedBranch} → AreBranches scope variables turns xs ys
        → greatest (map needed_around_branch ys) ≤ length turns
    branches_closed (b.no_branch turns) = omega arith
    branches_closed (b.one_branch_more turns xs ys x y h one) = greatest_push needed_around_branch ys y (length turns) (branches_closed h) (branch_closed one)
