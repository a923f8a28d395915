-- An operation that breaks a rule stands for nothing.
use Rattle.std.proofs.Common.{inl, inr, ◌≡◌, ℕ, List, Option, Contains, refl, sym, subst}
use Rattle.tp_value.specs.declared.types.Ty.{Ty}
use Rattle.tp_config.specs.declared.port_type.PortType.{PortType}
use Rattle.tp_tree.specs.declared.message.{Message.Message, MessageTemplate.MessageTemplate}
use Rattle.tp_tree.specs.declared.tree.{ComponentName.ComponentName, SentExpression.SentExpression, Receivers.Receivers, Send.Send}
use Rattle.tp_tree.specs.declared.tree.Receive.{Receive}
use Rattle.tp_tree.specs.declared.tree.ComponentName.TheVariants as c
use Rattle.tp_play.specs.declared.body.{SendMsg.SendMsg, SendOperation.SendOperation, Receiving.Receiving, RecvMsg.RecvMsg}
use Rattle.tp_play.specs.declared.body.VariableType.{VariableType}
use Rattle.tp_play.specs.declared.body.RecvMsg.TheVariants as wanted
use Rattle.tp_play.specs.declared.body.VariableType.TheVariants as kind
use Rattle.tp_checks.specs.declared.fault.ModuleRule.{ModuleRule}
use Rattle.tp_checks.specs.{Named.IsAbsent, Messages.IsMessage, Messages.IsTemplate, Messages.IsValue}
use Rattle.tp_checks.specs.Scoping.{IsPortNamed, IsSoundScope, IsVariable, receivable_types, sendable_types, Visible}
use Rattle.tp_checks.specs.Bodies.{IsReceive, IsSend, IsSent, IsWanted}
use Rattle.tp_checks.specs.BrokenOperations.{FromBreaks, MessageBreaks, NamesNoComponent, NamesNoMessage, NamesNoVariable, ReceiveBreaks, ReceiverBreaks, SendBreaks, SenderTargetBreaks, SentBreaks, ValueTargetBreaks, WantedBreaks}
use Rattle.tp_checks.specs.declared.scope.Variables.{Variables}
use Rattle.tp_checks.specs.BrokenOperations as b
use Rattle.tp_checks.proofs.NameLookupsAreUnique.{absent_contained, absent_place, contained_at, message_fixed, port_fixed, reference_named, type_fixed, variable_fixed}
use Rattle.tp_checks.proofs.OperationInversions.{FromMeans, HasComponent, HasMessage, ReceiverMeans, SenderMeans, SentMeans, ValueMeans, WantedMeans, from_means, receiver_means, sender_means, sent_means, target_moves, value_means, wanted_means}
use Rattle.tp_checks.proofs.{ValueExclusions.value_excludes, TemplateExclusions.template_excludes}

module _ (scope : Visible) (variables : Variables) (turns : List (List ℕ)) where
  no_variable_excludes : {name : List ℕ} {r : ModuleRule} → NamesNoVariable scope variables turns name r → (k : ℕ) (held : VariableType)
      → IsAbsent turns name → IsVariable variables name k held → ⊥
  no_variable_excludes {name} (b.turn j p) k held absent v = absent_place turns name j absent p
  no_variable_excludes {name} (b.parameter no_turn none there) k held absent v = absent_place variables.names name k none v.named
  no_variable_excludes {name} (b.component no_turn none there) k held absent v = absent_place variables.names name k none v.named
  no_variable_excludes {name} (b.unknown no_turn none other nor) k held absent v = absent_place variables.names name k none v.named

  no_message_excludes : {name : List ℕ} {r : ModuleRule} → NamesNoMessage scope variables turns name r → HasMessage scope variables turns name → ⊥
  no_message_excludes (b.no_variable r missing) h = no_variable_excludes missing h.0 (kind.Message h.1) h.2 h.3
  no_message_excludes {name} (b.holds_component j absent v) h =
      let same = variable_fixed variables name j h.0 kind.Component (kind.Message h.1) v h.3 in absurd (cc)

  no_component_excludes : {name : List ℕ} {r : ModuleRule} → NamesNoComponent scope variables turns name r → HasComponent scope variables turns name → ⊥
  no_component_excludes (b.no_variable_either r missing) h = no_variable_excludes missing h.0 kind.Component h.1 h.2
  no_component_excludes {name} (b.holds_message j u absent v) h =
      let same = variable_fixed variables name j h.0 (kind.Message u) kind.Component v h.2 in absurd (cc)

  -- what is wanted at the port of this name
  wants : (x : Receive) (y : Receiving) (k : ℕ) (port : PortType) → IsPortNamed scope x.port k port
      → IsReceive scope variables turns x y → IsWanted scope turns (receivable_types scope.behaviour port) x.template y.wanted
  wants x y k port known h =
      subst (λ p. IsWanted scope turns (receivable_types scope.behaviour p) x.template y.wanted)
      (port_fixed scope x.port y.port k h.port port h.port_known known) h.wants

  module _ (sound : IsSoundScope scope) where
    message_excludes : {sendable : List Ty} {x : Message} {r : ModuleRule} → MessageBreaks scope.types variables turns sendable x r
        → (m : SendMsg) × IsMessage scope.types turns x m × Contains sendable m.ty → ⊥
    message_excludes (b.no_type none) h = none h.0.ty h.1.type_known
    message_excludes {sendable} {x} (b.not_sendable u is unlisted) h =
        unlisted (subst (Contains sendable) (type_fixed scope.types x.type_name h.0.ty u h.1.type_known is) h.2)
    message_excludes {x} (b.value u r is listed broken) h =
        value_excludes scope.types variables turns sound.own_names broken h.0.value
        (subst (λ v. IsValue scope.types turns v x.value h.0.value) (type_fixed scope.types x.type_name h.0.ty u h.1.type_known is) h.1.fits)

    sent_excludes : {sendable : List Ty} {x : SentExpression} {r : ModuleRule} → SentBreaks scope variables turns sendable x r
        → SentMeans scope variables turns sendable x → ⊥
    sent_excludes (b.written x r broken) h = message_excludes broken h
    sent_excludes (b.counter n k p unlisted) (inl h) = unlisted h.2
    sent_excludes (b.counter n k p unlisted) (inr h) = absent_place turns n k h.2 p
    sent_excludes (b.no_message n r absent broken) (inl h) = absent_place turns n h.0 absent h.1
    sent_excludes (b.no_message n r absent broken) (inr h) = no_message_excludes broken (h.0, h.1, h.2, h.3)
    sent_excludes (b.held n k u absent v unlisted) (inl h) = absent_place turns n h.0 absent h.1
    sent_excludes {sendable} (b.held n k u absent v unlisted) (inr h) =
        unlisted (subst (Contains sendable) (message_fixed variables n h.0 k h.1 u h.3 v) h.4)

    receiver_excludes : {x : Option Receivers} {r : ModuleRule} → ReceiverBreaks scope variables turns x r → ReceiverMeans scope variables turns x → ⊥
    receiver_excludes (b.to_message n k u absent v) (inl h) =
        let p = reference_named scope variables turns (c.Named n) n h.0 refl h.1 in absent_place variables.names n k p.1 v.named
    receiver_excludes (b.to_message n k u absent v) (inr h) =
        let same : n ≡ h.0 = cc in
        no_component_excludes (b.holds_message k u absent v) (subst (λ s. HasComponent scope variables turns s) (sym same) h.2)
    receiver_excludes (b.to_nobody n no_variable none) (inl h) = none h.0 h.1
    receiver_excludes (b.to_nobody n no_variable none) (inr h) =
        let same : n ≡ h.0 = cc in
        let p = subst (λ s. HasComponent scope variables turns s) (sym same) h.2 in
        no_variable p.1 (contained_at variables.names n p.0 p.2.named.there)

    pub send_excludes : {x : Send} {r : ModuleRule} → SendBreaks scope variables turns x r → (y : SendOperation) → IsSend scope variables turns x y → ⊥
    send_excludes {x} (b.no_port none) y h = absent_place scope.ports.names x.port y.port none h.port_known.named
    send_excludes {x} (b.sent k port r known broken) y h =
        let same = port_fixed scope x.port y.port k h.port port h.port_known known in
        sent_excludes broken (sent_means scope variables turns (sendable_types scope.behaviour port)
        (subst (λ p. IsSent scope variables turns (sendable_types scope.behaviour p) x.sent y.sent) same h.sent))
    send_excludes (b.receiver k port z r known stands broken) y h = receiver_excludes broken (receiver_means scope variables turns h.receiver)

    wanted_excludes : {receivable : List Ty} {x : Option MessageTemplate} {r : ModuleRule} → WantedBreaks scope.types variables turns receivable x r
        → WantedMeans scope variables turns receivable x → ⊥
    wanted_excludes (b.no_such_type x none) h = none h.0 h.2
    wanted_excludes {receivable} (b.not_receivable x u is unlisted) h =
        unlisted (subst (Contains receivable) (type_fixed scope.types x.type_name h.0 u h.2 is) h.3)
    wanted_excludes (b.template x u r is listed broken) h =
        template_excludes scope.types variables turns sound.own_names broken h.1
        (subst (λ v. IsTemplate scope.types turns v x.template h.1) (type_fixed scope.types x.type_name h.0 u h.2 is) h.4)

    from_excludes : {x : Option ComponentName} {r : ModuleRule} → FromBreaks scope variables turns x r → FromMeans scope variables turns x → ⊥
    from_excludes (b.from_variable n there) h =
        let p = reference_named scope variables turns (c.Named n) n h.0 refl h.1 in absent_contained variables.names n p.1 there
    from_excludes (b.from_nobody n no_variable none) h = none h.0 h.1

    value_target_excludes : {m : RecvMsg} {x : Option (List ℕ)} {r : ModuleRule} → ValueTargetBreaks scope variables turns m x r
        → ValueMeans scope variables turns m x → ⊥
    value_target_excludes (b.holds_no_message n r broken) h = no_message_excludes broken (h.2, h.0, h.4, h.5)
    value_target_excludes {m} (b.holds_other n k u absent v other) h =
        let same = message_fixed variables n h.2 k h.0 u h.5 v in
        other h.1 (subst (λ t. m ≡ wanted.Of t h.1) same h.3)

    sender_target_excludes : {x : Option (List ℕ)} {r : ModuleRule} → SenderTargetBreaks scope variables turns x r
        → SenderMeans scope variables turns x → ⊥
    sender_target_excludes (b.holds_no_component n r broken) h = no_component_excludes broken h

    pub receive_excludes : {x : Receive} {r : ModuleRule} → ReceiveBreaks scope variables turns x r → (y : Receiving) → IsReceive scope variables turns x y
        → ⊥
    receive_excludes {x} (b.at_no_port none) y h = absent_place scope.ports.names x.port y.port none h.port_known.named
    receive_excludes {x} (b.wanted k port r known broken) y h =
        wanted_excludes broken (wanted_means scope variables turns (receivable_types scope.behaviour port) (wants x y k port known h))
    receive_excludes (b.from k port m r known stands broken) y h = from_excludes broken (from_means scope variables turns h.from_known)
    receive_excludes {x} (b.value_target k port m s r known stands from broken) y h =
        value_target_excludes broken (value_means scope variables turns
        (target_moves scope variables turns (receivable_types scope.behaviour port) x.template y.wanted m x.redirect.value y.value_to (wants x y k port known h) stands
        h.value_known))
    receive_excludes (b.sender_target k port m s v r known stands from moved broken) y h =
        sender_target_excludes broken (sender_means scope variables turns h.sender_known)
