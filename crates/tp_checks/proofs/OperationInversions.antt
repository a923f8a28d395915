-- What the rule says of the parts of an operation that obeys it.
use Rattle.std.proofs.Common.{◌⊎◌, inl, inr, ◌≡◌, ℕ, List, Option, Some, None, Contains, refl, sym, ap, subst}
use Rattle.tp_value.specs.declared.types.Ty.{Ty}
use Rattle.tp_value.specs.declared.types.Ty.TheVariants as ty
use Rattle.tp_value.specs.declared.verdict.Verdict.{Verdict}
use Rattle.tp_tree.specs.declared.tree.{ComponentName.ComponentName, SentExpression.SentExpression, Receivers.Receivers}
use Rattle.tp_tree.specs.declared.tree.VerdictName.{VerdictName}
use Rattle.tp_tree.specs.declared.tree.ComponentName.TheVariants as c
use Rattle.tp_tree.specs.declared.message.MessageTemplate.{MessageTemplate}
use Rattle.tp_tree.specs.declared.tree.SentExpression.TheVariants as sent
use Rattle.tp_tree.specs.declared.tree.Receivers.TheVariants as d
use Rattle.tp_tree.specs.declared.tree.VerdictName.TheVariants as named_verdict
use Rattle.tp_play.specs.declared.body.{SendMsg.SendMsg, RecvTemplate.RecvTemplate, RecvMsg.RecvMsg, Sent.Sent, Receiver.Receiver}
use Rattle.tp_play.specs.declared.body.RecvMsg.TheVariants as wanted
use Rattle.tp_play.specs.declared.body.VariableType.TheVariants as kind
use Rattle.tp_checks.specs.declared.scope.Variables.{Variables}
use Rattle.tp_checks.specs.{Named.IsPlace, Named.IsAbsent, Scoping.IsType, Scoping.IsVariable, Scoping.IsReference, Scoping.Visible}
use Rattle.tp_checks.specs.Messages.{IsMessage, IsTemplate}
use Rattle.tp_checks.specs.Bodies.{IsSent, IsReceiver, IsWanted, IsFrom, IsValueTarget, IsSenderTarget, IsVerdict}
use Rattle.tp_checks.specs.Bodies as b
use Rattle.tp_checks.proofs.NameLookupsAreUnique.{type_fixed}

module _ (scope : Visible) (variables : Variables) (turns : List (List ℕ)) where
  -- what a variable of messages holds
  abbrev pub HasMessage : List ℕ → Type 0
  HasMessage name = (k : ℕ) × (u : Ty) × IsAbsent turns name × IsVariable variables name k (kind.Message u)

  -- a variable of components
  abbrev pub HasComponent : List ℕ → Type 0
  HasComponent name = (k : ℕ) × IsAbsent turns name × IsVariable variables name k kind.Component

  module _ (sendable : List Ty) where
    abbrev pub SentMeans : SentExpression → Type 0
    SentMeans (sent.Message x) = (m : SendMsg) × IsMessage scope.types turns x m × Contains sendable m.ty
    SentMeans (sent.Variable n) =
        ((k : ℕ) × IsPlace turns n k × Contains sendable ty.Integer)
        ⊎ ((k : ℕ) × (u : Ty) × IsAbsent turns n × IsVariable variables n k (kind.Message u) × Contains sendable u)

    pub sent_means : {x : SentExpression} {y : Sent} → IsSent scope variables turns sendable x y → SentMeans x
    sent_means (b.written x m h l) = (m, h, l)
    sent_means (b.counter n k p l) = inl (k, p, l)
    sent_means (b.held n k u a v l) = inr (k, u, a, v, l)

  abbrev pub ReceiverMeans : Option Receivers → Type 0
  ReceiverMeans None = Unit {0}
  ReceiverMeans (Some d.AllComponents) = Unit {0}
  ReceiverMeans (Some (d.Component x)) =
      ((k : ℕ) × IsReference scope variables turns x k) ⊎ ((n : List ℕ) × (x ≡ c.Named n) × HasComponent n)

  pub receiver_means : {x : Option Receivers} {y : Receiver} → IsReceiver scope variables turns x y → ReceiverMeans x
  receiver_means b.nobody = tt
  receiver_means b.all = tt
  receiver_means (b.reference x k h) = inl (k, h)
  receiver_means (b.variable n k a v) = inr (n, refl, (k, a, v))

  abbrev pub FromMeans : Option ComponentName → Type 0
  FromMeans None = Unit {0}
  FromMeans (Some x) = (k : ℕ) × IsReference scope variables turns x k

  pub from_means : {x : Option ComponentName} {y : Option ℕ} → IsFrom scope variables turns x y → FromMeans x
  from_means b.whoever = tt
  from_means (b.this_one x k h) = (k, h)

  module _ (receivable : List Ty) where
    abbrev pub WantedMeans : Option MessageTemplate → Type 0
    WantedMeans None = Unit {0}
    WantedMeans (Some x) =
        (u : Ty) × (r : RecvTemplate) × IsType scope.types x.type_name u × Contains receivable u × IsTemplate scope.types turns u x.template r

    pub wanted_means : {x : Option MessageTemplate} {y : RecvMsg} → IsWanted scope turns receivable x y → WantedMeans x
    wanted_means b.every_message = tt
    wanted_means (b.matching x u r f l h) = (u, r, f, l, h)

  abbrev pub ValueMeans : RecvMsg → Option (List ℕ) → Type 0
  ValueMeans m None = Unit {0}
  ValueMeans m (Some n) =
      (u : Ty) × (r : RecvTemplate) × (k : ℕ) × (m ≡ wanted.Of u r) × IsAbsent turns n
      × IsVariable variables n k (kind.Message u)

  pub value_means : {m : RecvMsg} {x : Option (List ℕ)} {y : Option ℕ} → IsValueTarget variables turns m x y → ValueMeans m x
  value_means (b.no_target m) = tt
  value_means (b.target u r n k a v) = (u, r, k, refl, a, v)

  abbrev pub SenderMeans : Option (List ℕ) → Type 0
  SenderMeans None = Unit {0}
  SenderMeans (Some n) = HasComponent n

  pub sender_means : {x : Option (List ℕ)} {y : Option ℕ} → IsSenderTarget variables turns x y → SenderMeans x
  sender_means b.no_sender_target = tt
  sender_means (b.sender_target n k a v) = (k, a, v)

abbrev pub VerdictMeans : VerdictName → Type 0
VerdictMeans named_verdict.NoVerdict = Unit {0}
VerdictMeans named_verdict.Pass = Unit {0}
VerdictMeans named_verdict.Inconc = Unit {0}
VerdictMeans named_verdict.Fail = Unit {0}
VerdictMeans named_verdict.Error = ⊥

pub verdict_means : {x : VerdictName} {y : Verdict} → IsVerdict x y → VerdictMeans x
verdict_means b.no_verdict = tt
verdict_means b.pass = tt
verdict_means b.inconc = tt
verdict_means b.fail = tt

-- what is wanted has one type, so the variable after `value` serves whatever it stands for
module _ (scope : Visible) (variables : Variables) (turns : List (List ℕ)) (receivable : List Ty) where
  same_type : {x : Option MessageTemplate} {y : RecvMsg} → IsWanted scope turns receivable x y → (t : MessageTemplate) (u : Ty) → x ≡ Some t
      → IsType scope.types t.type_name u → (r : RecvTemplate) × (y ≡ wanted.Of u r)
  same_type b.every_message t u e f = absurd (cc)
  same_type (b.matching x v r g l h) t u e f =
      let same : x ≡ t = cc in
      (r, ap (λ w. wanted.Of w r) (type_fixed scope.types t.type_name v u (subst (λ (z : MessageTemplate). IsType scope.types z.type_name v) same g) f))

  same_wanted : {x : Option MessageTemplate} {m : RecvMsg} → IsWanted scope turns receivable x m → (n : RecvMsg) → IsWanted scope turns receivable x n
      → (u : Ty) (r : RecvTemplate) → m ≡ wanted.Of u r → (s : RecvTemplate) × (n ≡ wanted.Of u s)
  same_wanted b.every_message n h u r e = absurd (cc)
  same_wanted (b.matching x v s f l g) n h u r e =
      let same : v ≡ u = cc in
      same_type h x u refl (subst (IsType scope.types x.type_name) same f)

  moves : {m : RecvMsg} {t : Option (List ℕ)} {k : Option ℕ} → IsValueTarget variables turns m t k → (n : RecvMsg)
      → ((u : Ty) (r : RecvTemplate) → m ≡ wanted.Of u r → (s : RecvTemplate) × (n ≡ wanted.Of u s)) → IsValueTarget variables turns n t k
  moves (b.no_target m) n same = b.no_target n
  moves (b.target u r name k a v) n same =
      let p = same u r refl in
      subst (λ y. IsValueTarget variables turns y (Some name) (Some k)) (sym p.1) (b.target u p.0 name k a v)

  pub target_moves : (x : Option MessageTemplate) (m n : RecvMsg) (t : Option (List ℕ)) (k : Option ℕ)
      → IsWanted scope turns receivable x m → IsWanted scope turns receivable x n → IsValueTarget variables turns m t k
      → IsValueTarget variables turns n t k
  target_moves x m n t k a z h = moves h n (same_wanted a n z)
