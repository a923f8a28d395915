-- What stands for a text can be played: each place was looked up, and what is sent and wanted was checked.
use Rattle.std.proofs.Common.{ℕ, ◌<◌, List, ◌++◌, Option, length, refl, sym, subst, arith}
use Rattle.std.proofs.{lemmas.List.length_push, lemmas.List.length-append, lemmas.Option.slice_get_within}
use Rattle.tp_value.specs.declared.types.Ty.{Ty}
use Rattle.tp_value.proofs.HasTypeEquations.{has_int}
use Rattle.tp_config.specs.declared.port_type.PortType.{PortType}
use Rattle.tp_tree.specs.declared.tree.{ComponentName.ComponentName, SentExpression.SentExpression, Send.Send, Receive.Receive}
use Rattle.tp_tree.specs.declared.tree.{Receivers.Receivers, Variable.Variable, Statement.Statement as StatementText, Action.Action}
use Rattle.tp_tree.specs.declared.tree.{Branch.Branch as BranchText, BranchBody.BranchBody, Counted.out-Counted}
use Rattle.tp_tree.specs.declared.message.MessageTemplate.{MessageTemplate}
use Rattle.tp_play.specs.declared.body.{RecvMsg.RecvMsg, Sent.Sent, Receiver.Receiver, SendOperation.SendOperation, Receiving.Receiving}
use Rattle.tp_play.specs.declared.body.{ResolvedStatement.ResolvedStatement, ResolvedBranch.ResolvedBranch, Body.Body}
use Rattle.tp_checks.specs.declared.scope.Variables.{Variables}
use Rattle.tp_checks.specs.Scoping as n
use Rattle.tp_checks.specs.Scoping.{IsPortNamed, IsReference, Visible, reference_count}
use Rattle.tp_checks.specs.Bodies.{IsSent, IsReceiver, IsSend, IsWanted, IsFrom, IsValueTarget, IsSenderTarget, IsReceive, IsStatement, IsBlock, IsBranch, IsAfter, AreBranches, IsBody}
use Rattle.tp_checks.specs.Bodies as b
use Rattle.tp_play.specs.Playable.{Stage, IsAlwaysFitting, CanSay, CanAddress, CanSend, CanWant, CanExpect, CanKeepValue, CanKeepSender, CanReceive, CanPlay, CanEnter, CanPlayAll, CanEnterAll, IsPlayable}
use Rattle.tp_play.proofs.FilledValueEquations.{needed_turn, filled_turn}
use Rattle.tp_play.proofs.PlayableStatementEquations.{play_send, play_receive, play_control, play_all_ports, play_set_verdict, play_alt, play_alt_else, play_for, enter_branch, Each-push}
use Rattle.tp_checks.proofs.{LoopVariablesInScope.value_closed, LoopVariablesInScope.wanted_closed, FilledTemplatesFit.fitting}
use Rattle.tp_checks.proofs.FilledValuesHaveType.{fits_64_bits, typed}

module _ (scope : Visible) (variables : Variables) where
  -- where a body is played whose names are those of the scope
  abbrev stage : Stage
  stage = record { types = scope.types; ports = length scope.ports.names; references = reference_count scope; variables = variables.types }

  port_there : (name : List ℕ) (place : ℕ) (port : PortType) → IsPortNamed scope name place port → place < length scope.ports.names
  port_there name place port h = slice_get_within scope.ports.names place name h.named.there

  module _ (turns : List (List ℕ)) where
    reference_there : (x : ComponentName) (k : ℕ) → IsReference scope variables turns x k → k < reference_count scope
    reference_there x k n.mtc = omega arith
    reference_there x k n.itself = omega arith
    reference_there x k (n.component_named name j no_turn no_variable h) =
        omega (
          arith,
          slice_get_within (scope.parameters ++ scope.component_variables) j name h.there,
          length-append scope.parameters scope.component_variables,
        )

    sent_played : (sendable : List Ty) (x : SentExpression) (y : Sent) → IsSent scope variables turns sendable x y → CanSay stage (length turns) y
    sent_played sendable x y (b.written t m h l) = record {
      around = value_closed scope.types turns h.fits;
      typed = λ zs fit. typed scope.types turns zs (fits_64_bits zs fit) m.ty t.value m.value h.fits;
    }
    sent_played sendable x y (b.counter name k h l) = record {
      around = omega (arith, needed_turn k, slice_get_within turns k name h.there);
      typed = λ zs fit. rw (filled_turn, has_int) (refl, fits_64_bits zs fit k);
    }
    sent_played sendable x y (b.held name k u absent h l) = (u, h.typed)

    receiver_played : (x : Option Receivers) (y : Receiver) → IsReceiver scope variables turns x y → CanAddress stage y
    receiver_played x y b.nobody = tt
    receiver_played x y (b.reference c k h) = reference_there c k h
    receiver_played x y (b.variable name k absent h) = h.typed
    receiver_played x y b.all = tt

    send_played : (x : Send) (y : SendOperation) → IsSend scope variables turns x y → CanSend stage (length turns) y
    send_played x y h = record {
      port = port_there x.port y.port h.port h.port_known;
      sent = sent_played _ x.sent y.sent h.sent;
      to = receiver_played x.to y.to h.receiver;
    }

    wanted_fits : (receivable : List Ty) (x : Option MessageTemplate) (y : RecvMsg) → IsWanted scope turns receivable x y → IsAlwaysFitting scope.types y
    wanted_fits receivable x y b.every_message = λ zs fit. tt
    wanted_fits receivable x y (b.matching t u r known l h) = λ zs fit. fitting scope.types turns zs (fits_64_bits zs fit) u t.template r h

    wanted_played : (receivable : List Ty) (x : Option MessageTemplate) (y : RecvMsg) → IsWanted scope turns receivable x y → CanWant stage (length turns) y
    wanted_played receivable x y h = record { around = wanted_closed scope variables turns receivable h; fits = wanted_fits receivable x y h }

    sender_played : (x : Option ComponentName) (y : Option ℕ) → IsFrom scope variables turns x y → CanExpect stage y
    sender_played x y b.whoever = tt
    sender_played x y (b.this_one c k h) = reference_there c k h

    value_played : (m : RecvMsg) (x : Option (List ℕ)) (y : Option ℕ) → IsValueTarget variables turns m x y → CanKeepValue stage m y
    value_played m x y (b.no_target wanted) = tt
    value_played m x y (b.target u r name k absent h) = h.typed

    sender_target_played : (x : Option (List ℕ)) (y : Option ℕ) → IsSenderTarget variables turns x y → CanKeepSender stage y
    sender_target_played x y b.no_sender_target = tt
    sender_target_played x y (b.sender_target name k absent h) = h.typed

    receive_played : (x : Receive) (y : Receiving) → IsReceive scope variables turns x y → CanReceive stage (length turns) y
    receive_played x y h = record {
      port = port_there x.port y.port h.port h.port_known;
      wanted = wanted_played _ x.template y.wanted h.wants;
      sender = sender_played x.sender y.sender h.from_known;
      value_to = value_played y.wanted x.redirect.value y.value_to h.value_known;
      sender_to = sender_target_played x.redirect.sender y.sender_to h.sender_known;
    }

  mutual
    statement_played : {turns : List (List ℕ)} {x : Action} {y : ResolvedStatement} → IsStatement scope variables turns x y → CanPlay stage (length turns) y
    statement_played (b.send turns x y h) = rw play_send (send_played turns x y h)
    statement_played (b.receive turns x y h) = rw play_receive (receive_played turns x y h)
    statement_played (b.control turns x k port other h) = rw play_control (port_there x.port k port h)
    statement_played (b.all_ports turns x other) = rw play_all_ports tt
    statement_played (b.set_verdict turns x y other h) = rw play_set_verdict tt
    statement_played (b.alt turns xs ys h) = rw play_alt (branches_played h, tt)
    statement_played (b.alt_else turns xs ys e block h inner) = rw play_alt_else (branches_played h, block_played inner)
    statement_played (b.counted turns x block new h) =
        rw play_for (subst (λ n. CanPlayAll stage n block) (length_push turns (out-Counted x).turns.name) (block_played h))

    pub block_played : {turns : List (List ℕ)} {xs : List StatementText} {ys : List ResolvedStatement} → IsBlock scope variables turns xs ys
        → CanPlayAll stage (length turns) ys
    block_played (b.no_statement turns) = tt
    block_played (b.one_statement_more turns xs ys x y h one) = Each-push (λ x n. CanPlay stage n x) (length turns) ys y (block_played h) (statement_played one)

    branch_played : {turns : List (List ℕ)} {x : BranchText} {y : ResolvedBranch} → IsBranch scope variables turns x y → CanEnter stage (length turns) y
    branch_played (b.branch turns x y h inner) = rw enter_branch (receive_played turns x.receive y.receiving h, after_played inner)

    after_played : {turns : List (List ℕ)} {x : BranchBody} {ys : List ResolvedStatement} → IsAfter scope variables turns x ys → CanPlayAll stage (length turns) ys
    after_played (b.nothing turns) = tt
    after_played (b.block turns xs ys h) = block_played h

    branches_played : {turns : List (List ℕ)} {xs : List BranchText} {ys : List ResolvedBranch} → AreBranches scope variables turns xs ys
        → CanEnterAll stage (length turns) ys
    branches_played (b.no_branch turns) = tt
    branches_played (b.one_branch_more turns xs ys x y h one) =
        Each-push (λ x n. CanEnter stage n x) (length turns) ys y (branches_played h) (branch_played one)

-- a body can be played on the component type of its scope, with the references of the scope
pub body_played : (scope : Visible) (xs : List Variable) (statements : List StatementText) (body : Body) → IsBody scope xs statements body
    → IsPlayable scope.types (length scope.ports.names) (reference_count scope) body
body_played scope xs statements body h = record {
  statements =
      subst (λ types. CanPlayAll (record {
        types = scope.types;
        ports = length scope.ports.names;
        references = reference_count scope;
        variables = types;
      }) 0 body.statements)
      (sym h.same_types) (block_played scope h.variables h.block);
}
