-- Statements of the text stand for one list of statements, and so a body of the text for one body.
use Rattle.std.specs.List.{AllZip}
use Rattle.std.proofs.Common.{◌≡◌, ℕ, ◌+◌, List, ◌++◌, Option, Some, None, refl, ap, sym, subst, ◌∙◌}
use Rattle.tp_tree.specs.declared.message.{Message.Message, MessageTemplate.MessageTemplate}
use Rattle.tp_tree.specs.declared.tree.{ComponentName.ComponentName, SentExpression.SentExpression, Receivers.Receivers, Send.Send}
use Rattle.tp_tree.specs.declared.tree.{Receive.Receive, VerdictName.VerdictName, Action.Action, BranchBody.BranchBody, Counted.out-Counted}
use Rattle.tp_tree.specs.declared.tree.{Branch.Branch as BranchText, Statement.Statement as StatementText}
use Rattle.tp_tree.specs.declared.tree.ComponentName.TheVariants as component_name
use Rattle.tp_tree.specs.declared.tree.Action.TheVariants as a
use Rattle.tp_tree.specs.declared.tree.BranchBody.TheVariants as b
use Rattle.tp_value.specs.declared.types.Ty.{Ty}
use Rattle.tp_value.specs.declared.types.Ty.TheVariants as ty
use Rattle.tp_value.specs.declared.verdict.Verdict.{Verdict}
use Rattle.tp_play.specs.declared.body.{SendMsg.SendMsg, SendValue.SendValue, RecvMsg.RecvMsg, Sent.Sent, Receiver.Receiver}
use Rattle.tp_play.specs.declared.body.{SendOperation.SendOperation, Receiving.Receiving, ResolvedStatement.ResolvedStatement}
use Rattle.tp_play.specs.declared.body.{ResolvedBranch.ResolvedBranch, VariableType.VariableType}
use Rattle.tp_play.specs.declared.body.SendValue.TheVariants as send_value
use Rattle.tp_play.specs.declared.body.RecvMsg.TheVariants as recv_msg
use Rattle.tp_play.specs.declared.body.Sent.TheVariants as s
use Rattle.tp_play.specs.declared.body.Receiver.TheVariants as to
use Rattle.tp_play.specs.declared.body.ResolvedStatement.TheVariants as statement
use Rattle.tp_play.specs.declared.body.VariableType.TheVariants as variable_type
use Rattle.tp_checks.specs.declared.scope.Variables.{Variables}
use Rattle.tp_checks.specs.Scoping as scoping
use Rattle.tp_checks.specs.Scoping.{IsReference, IsVariable, OwnNames, Visible}
use Rattle.tp_checks.specs.Messages.{IsMessage, IsValue, IsTemplate}
use Rattle.tp_checks.specs.Bodies.{IsSent, IsReceiver, IsSend, IsWanted, IsFrom, IsValueTarget, IsSenderTarget, IsReceive, IsVerdict, IsStatement, IsBlock, IsBranch, IsAfter, AreBranches}
use Rattle.tp_checks.specs.Bodies as bodies
use Rattle.tp_checks.proofs.{ListPrefixGrowth.zip_push, UniqueZipsAndPlaces.Fixes, UniqueZipsAndPlaces.zip_fixed}
use Rattle.tp_checks.proofs.NameLookupsAreUnique.{place_fixed, type_fixed}
use Rattle.tp_checks.proofs.StatementInversions.{StandsFor, after_means, block_zip, branches_zip, made_parts, ruled}
use Rattle.tp_script.proofs.{ValuesFixedByText.value_fixed, TemplatesFixedByText.template_fixed}

abbrev message : Ty → SendValue → SendMsg
message u w = record { ty = u; value = w }

abbrev operation : ℕ → Sent → Receiver → SendOperation
operation port sent to = record { port = port; sent = sent; to = to }

-- the same operation with these parts
abbrev received : Receiving → ℕ → RecvMsg → Option ℕ → Option ℕ → Option ℕ → Receiving
received w port wanted sender value_to sender_to =
    record w { port = port; wanted = wanted; sender = sender; value_to = value_to; sender_to = sender_to }

abbrev branch_of : Receiving → List ResolvedStatement → ResolvedBranch
branch_of r block = record { receiving = r; block = block }

module _ (scope : Visible) (own : OwnNames scope.types) where
  message_fixed : (turns : List (List ℕ)) (x : Message) (w y : SendMsg) → IsMessage scope.types turns x w → IsMessage scope.types turns x y → w ≡ y
  message_fixed turns x w y h k =
      let same = type_fixed scope.types x.type_name w.ty y.ty h.type_known k.type_known in
      ap (λ u. message u w.value) same
      ∙ ap (message y.ty)
      (value_fixed scope.types turns own (subst (λ u. IsValue scope.types turns u x.value w.value) same h.fits) y.value k.fits)

  module _ (variables : Variables) where
    variable_fixed : (name : List ℕ) (i j : ℕ) (u w : VariableType) → IsVariable variables name i u → IsVariable variables name j w → i ≡ j
    variable_fixed name i j u w h k = place_fixed variables.names name i j h.named k.named

    sent_fixed : (turns : List (List ℕ)) (listed other : List Ty) (x : SentExpression) (w y : Sent) → IsSent scope variables turns listed x w → IsSent scope variables turns other x y → w ≡ y
    sent_fixed turns listed other _ _ _ (bodies.written x w h there) (bodies.written _ y k here) = ap s.Written (message_fixed turns x w y h k)
    sent_fixed turns listed other _ _ _ (bodies.counter n i place there) (bodies.counter _ j known here) =
        ap (λ l. s.Written (message ty.Integer (send_value.Turn l))) (place_fixed turns n i j place known)
    sent_fixed turns listed other _ _ _ (bodies.counter n i place there) (bodies.held _ j u absent is here) = absurd (absent i place.there)
    sent_fixed turns listed other _ _ _ (bodies.held n i u absent is there) (bodies.counter _ j place here) = absurd (absent j place.there)
    sent_fixed turns listed other _ _ _ (bodies.held n i u absent is there) (bodies.held _ j w out known here) =
        ap s.Variable (variable_fixed n i j (variable_type.Message u) (variable_type.Message w) is known)

    reference_fixed : (turns : List (List ℕ)) (x : ComponentName) (i j : ℕ) → IsReference scope variables turns x i → IsReference scope variables turns x j → i ≡ j
    reference_fixed turns _ _ _ scoping.mtc scoping.mtc = refl
    reference_fixed turns _ _ _ scoping.itself scoping.itself = refl
    reference_fixed turns _ _ _ (scoping.component_named n i one two place) (scoping.component_named _ j three four known) =
        ap (λ k. 2 + k) (place_fixed (scope.parameters ++ scope.component_variables) n i j place known)

    -- a name that is a variable's is no component's
    no_reference : (turns : List (List ℕ)) (n : List ℕ) (i j : ℕ) (u : VariableType) → IsVariable variables n i u
        → IsReference scope variables turns (component_name.Named n) j → ⊥
    no_reference turns n i _ u is (scoping.component_named _ j one absent place) = absent i is.named.there

    receiver_fixed : (turns : List (List ℕ)) (x : Option Receivers) (w y : Receiver) → IsReceiver scope variables turns x w → IsReceiver scope variables turns x y → w ≡ y
    receiver_fixed turns _ _ _ bodies.nobody bodies.nobody = refl
    receiver_fixed turns _ _ _ bodies.all bodies.all = refl
    receiver_fixed turns _ _ _ (bodies.reference x i h) (bodies.reference _ j k) = ap to.Reference (reference_fixed turns x i j h k)
    receiver_fixed turns _ _ _ (bodies.reference x i h) (bodies.variable n j absent is) = absurd (no_reference turns n j i variable_type.Component is h)
    receiver_fixed turns _ _ _ (bodies.variable n i absent is) (bodies.reference x j k) = absurd (no_reference turns n i j variable_type.Component is k)
    receiver_fixed turns _ _ _ (bodies.variable n i absent is) (bodies.variable _ j out known) =
        ap to.Variable (variable_fixed n i j variable_type.Component variable_type.Component is known)

    send_fixed : (turns : List (List ℕ)) (x : Send) (w y : SendOperation) → IsSend scope variables turns x w → IsSend scope variables turns x y → w ≡ y
    send_fixed turns x w y h k =
        ap (λ n. operation n w.sent w.to) (place_fixed _ x.port w.port y.port h.port_known.named k.port_known.named)
        ∙ ap (λ t. operation y.port t w.to) (sent_fixed turns _ _ x.sent w.sent y.sent h.sent k.sent)
        ∙ ap (operation y.port y.sent) (receiver_fixed turns x.to w.to y.to h.receiver k.receiver)

    wanted_fixed : (turns : List (List ℕ)) (listed other : List Ty) (x : Option MessageTemplate) (w y : RecvMsg) → IsWanted scope turns listed x w → IsWanted scope turns other x y → w ≡ y
    wanted_fixed turns listed other _ _ _ bodies.every_message bodies.every_message = refl
    wanted_fixed turns listed other _ _ _ (bodies.matching x u r h there fits) (bodies.matching _ w q k here matches) =
        let same = type_fixed scope.types x.type_name u w h k in
        ap (λ v. recv_msg.Of v r) same
        ∙ ap (recv_msg.Of w) (template_fixed scope.types turns own (subst (λ v. IsTemplate scope.types turns v x.template r) same fits) q matches)

    from_fixed : (turns : List (List ℕ)) (x : Option ComponentName) (w y : Option ℕ) → IsFrom scope variables turns x w → IsFrom scope variables turns x y → w ≡ y
    from_fixed turns _ _ _ bodies.whoever bodies.whoever = refl
    from_fixed turns _ _ _ (bodies.this_one x i h) (bodies.this_one _ j k) = ap Some (reference_fixed turns x i j h k)

    value_target_fixed : (turns : List (List ℕ)) (l m : RecvMsg) (x : Option (List ℕ)) (w y : Option ℕ) → IsValueTarget variables turns l x w → IsValueTarget variables turns m x y → w ≡ y
    value_target_fixed turns _ _ _ _ _ (bodies.no_target l) (bodies.no_target m) = refl
    value_target_fixed turns _ _ _ _ _ (bodies.target u r n i absent is) (bodies.target w q _ j out known) =
        ap Some (variable_fixed n i j (variable_type.Message u) (variable_type.Message w) is known)

    sender_target_fixed : (turns : List (List ℕ)) (x : Option (List ℕ)) (w y : Option ℕ) → IsSenderTarget variables turns x w → IsSenderTarget variables turns x y → w ≡ y
    sender_target_fixed turns _ _ _ bodies.no_sender_target bodies.no_sender_target = refl
    sender_target_fixed turns _ _ _ (bodies.sender_target n i absent is) (bodies.sender_target _ j out known) =
        ap Some (variable_fixed n i j variable_type.Component variable_type.Component is known)

    receive_fixed : (turns : List (List ℕ)) (x : Receive) (w y : Receiving) → IsReceive scope variables turns x w → IsReceive scope variables turns x y → w ≡ y
    receive_fixed turns x w y h k =
        ap (λ t. received w t w.wanted w.sender w.value_to w.sender_to) (place_fixed _ x.port w.port y.port h.port_known.named k.port_known.named)
        ∙ ap (λ t. received w y.port t w.sender w.value_to w.sender_to) (wanted_fixed turns _ _ x.template w.wanted y.wanted h.wants k.wants)
        ∙ ap (λ t. received w y.port y.wanted t w.value_to w.sender_to) (from_fixed turns x.sender w.sender y.sender h.from_known k.from_known)
        ∙ ap (λ t. received w y.port y.wanted y.sender t w.sender_to)
        (value_target_fixed turns w.wanted y.wanted x.redirect.value w.value_to y.value_to h.value_known k.value_known)
        ∙ ap (received w y.port y.wanted y.sender y.value_to)
        (sender_target_fixed turns x.redirect.sender w.sender_to y.sender_to h.sender_known k.sender_known)
        ∙ ap (λ t. record y { kind = t }) (h.same_kind ∙ sym k.same_kind)

    verdict_fixed : (x : VerdictName) (w y : Verdict) → IsVerdict x w → IsVerdict x y → w ≡ y
    verdict_fixed _ _ _ bodies.no_verdict bodies.no_verdict = refl
    verdict_fixed _ _ _ bodies.pass bodies.pass = refl
    verdict_fixed _ _ _ bodies.inconc bodies.inconc = refl
    verdict_fixed _ _ _ bodies.fail bodies.fail = refl

    blocks_same : {turns : List (List ℕ)} {xs : List StatementText} {ws : List ResolvedStatement} → AllZip (Fixes (StandsFor scope variables turns)) xs ws
        → (ys : List ResolvedStatement) → IsBlock scope variables turns xs ys → ws ≡ ys
    blocks_same {turns} {xs} {ws} all ys k = zip_fixed (StandsFor scope variables turns) xs ws ys all (block_zip scope variables k)

    branches_same : {turns : List (List ℕ)} {xs : List BranchText} {ws : List ResolvedBranch} → AllZip (Fixes (IsBranch scope variables turns)) xs ws
        → (ys : List ResolvedBranch) → AreBranches scope variables turns xs ys → ws ≡ ys
    branches_same {turns} {xs} {ws} all ys k = zip_fixed (IsBranch scope variables turns) xs ws ys all (branches_zip scope variables k)

    mutual
      statement_fixed : {turns : List (List ℕ)} {x : Action} {w : ResolvedStatement} → IsStatement scope variables turns x w → (y : ResolvedStatement)
          → IsStatement scope variables turns x y → w ≡ y
      statement_fixed (bodies.send turns x z h) y k =
          let r = rw a.outs-Send at (ruled scope variables k) in ap statement.Send (send_fixed turns x z r.0 h r.1) ∙ sym r.2
      statement_fixed (bodies.receive turns x z h) y k =
          let r = rw a.outs-Receive at (ruled scope variables k) in ap statement.Receive (receive_fixed turns x z r.0 h r.1) ∙ sym r.2
      statement_fixed (bodies.control turns x i port not_sut known) y k =
          let r = rw a.outs-Control at (ruled scope variables k) in
          ap (λ n. statement.Control n x.operation) (place_fixed _ x.port i r.1 known.named r.3.named) ∙ sym r.4
      statement_fixed (bodies.all_ports turns x not_sut) y k = let r = rw a.outs-AllPorts at (ruled scope variables k) in sym r.1
      statement_fixed (bodies.set_verdict turns x z not_sut is) y k =
          let r = rw a.outs-SetVerdict at (ruled scope variables k) in ap statement.SetVerdict (verdict_fixed x z r.1 is r.2) ∙ sym r.3
      statement_fixed (bodies.alt turns xs ys all) y k =
          let r = rw a.outs-Alt at (ruled scope variables k) in ap (λ t. statement.Alt t None) (branches_same (branches_fixed all) r.0 r.1) ∙ sym r.2
      statement_fixed (bodies.alt_else turns xs ys e zs all block) y k =
          let r = rw a.outs-Alt at (ruled scope variables k) in
          ap (λ t. statement.Alt t (Some zs)) (branches_same (branches_fixed all) r.0 r.1)
          ∙ ap (λ t. statement.Alt r.0 (Some t)) (blocks_same (statements_fixed block) r.2 r.3) ∙ sym r.4
      statement_fixed (bodies.counted turns x zs is_new all) y k =
          let r = rw a.outs-For at (ruled scope variables k) in
          ap (statement.For (out-Counted x).turns.first (out-Counted x).turns.bound) (blocks_same (statements_fixed all) r.1 r.2) ∙ sym r.3

      statements_fixed : {turns : List (List ℕ)} {xs : List StatementText} {ws : List ResolvedStatement} → IsBlock scope variables turns xs ws
          → AllZip (Fixes (StandsFor scope variables turns)) xs ws
      statements_fixed (bodies.no_statement turns) = tt
      statements_fixed (bodies.one_statement_more turns xs ws x w all one) =
          zip_push (Fixes (StandsFor scope variables turns)) xs ws x w (statements_fixed all) (statement_fixed one)

      branch_fixed : {turns : List (List ℕ)} {x : BranchText} {w : ResolvedBranch} → IsBranch scope variables turns x w → (y : ResolvedBranch)
          → IsBranch scope variables turns x y → w ≡ y
      branch_fixed (bodies.branch turns x w h inner) y k =
          let parts = made_parts scope variables k in
          ap (λ t. branch_of t w.block) (receive_fixed turns x.receive w.receiving y.receiving h parts.0)
          ∙ ap (branch_of y.receiving) (after_fixed inner y.block parts.1)

      after_fixed : {turns : List (List ℕ)} {x : BranchBody} {ws : List ResolvedStatement} → IsAfter scope variables turns x ws → (ys : List ResolvedStatement)
          → IsAfter scope variables turns x ys → ws ≡ ys
      after_fixed (bodies.nothing turns) ys k = sym (rw b.outs-Nothing at (after_means scope variables k))
      after_fixed (bodies.block turns xs ws all) ys k = blocks_same (statements_fixed all) ys (rw b.outs-Block at (after_means scope variables k))

      branches_fixed : {turns : List (List ℕ)} {xs : List BranchText} {ws : List ResolvedBranch} → AreBranches scope variables turns xs ws
          → AllZip (Fixes (IsBranch scope variables turns)) xs ws
      branches_fixed (bodies.no_branch turns) = tt
      branches_fixed (bodies.one_branch_more turns xs ws x w all one) =
          zip_push (Fixes (IsBranch scope variables turns)) xs ws x w (branches_fixed all) (branch_fixed one)

    pub block_fixed : {turns : List (List ℕ)} {xs : List StatementText} {ws : List ResolvedStatement} → IsBlock scope variables turns xs ws
        → (ys : List ResolvedStatement) → IsBlock scope variables turns xs ys → ws ≡ ys
    block_fixed all = blocks_same (statements_fixed all)
