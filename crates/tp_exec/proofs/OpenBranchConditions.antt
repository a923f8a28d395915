-- Whether a branch is open, by the top of its port.
use Rattle.std.proofs.Common.{◌≡◌, inl, inr, ℕ, ◌+◌, ◌<◌, Bool, ◌↔◌, None, Some, List, ◌∷◌, drop, length, get_or, ap, sym, ◌∙◌, subst}
use Rattle.std.specs.Prelude.{All, IsTrue}
use Rattle.std.specs.declared.vec.Vec.{Vec}
use Rattle.std.specs.Global.{Global}
use Rattle.std.proofs.lemmas.List.{drop_more}
use Rattle.std.proofs.lemmas.List.Elements.{All-cons, All-head, All-tail}
use Rattle.std.proofs.lemmas.Option.{none-some, same_Some}
use Rattle.tp_common.specs.declared.event.Env.{Env}
use Rattle.tp_common.specs.Criteria.{Satisfies}
use Rattle.tp_queue.specs.History.{top}
use Rattle.tp_common.specs.declared.operation.ReceiveKind.TheVariants as kind
use Rattle.tp_value.specs.declared.message.Message.{Message}
use Rattle.tp_value.specs.Admits.{Admits}
use Rattle.tp_inbox.specs.declared.entry.Entry.{Entry}
use Rattle.tp_inbox.specs.History.{history_of}
use Rattle.tp_behaviour.specs.declared.choice.Guard.{Guard}
use Rattle.tp_behaviour.specs.declared.outcome.Outcome.{Outcome}
use Rattle.tp_behaviour.specs.declared.outcome.Outcome.TheVariants as outcome
use Rattle.tp_behaviour.specs.Choices.{IsOpen, NoneOpen}
use Rattle.tp_exec.specs.Reporting.{IsRest}

module _ (k : List Entry) (g : Guard) where
  -- at a port without a top no branch is open
  pub shut : None ≡ top (history_of g.port k) → ¬ IsOpen k g
  shut none (inl s) = none-some s.0 (none ∙ s.1.0)
  shut none (inr d) = none-some d.1.0 (none ∙ d.1.1)

  -- at one with a top a `trigger` is
  pub discards : (e : Env Message) → Some e ≡ top (history_of g.port k) → g.kind ≡ kind.Trigger → IsOpen k g
  discards e at is = inr (is, (e, sym at))

  -- and each other operation where it is satisfied
  pub by_top : (e : Env Message) (b : Bool) → Some e ≡ top (history_of g.port k) → ¬ (g.kind ≡ kind.Trigger)
      → (IsTrue b ↔ Satisfies (Admits g.wanted) g.sender e) → (IsTrue b ↔ IsOpen k g)
  by_top e b at other says = (λ is. inl (e, (sym at, says.0 is)), back)
    where
      back : IsOpen k g → IsTrue b
      back (inl s) = says.1 (subst (Satisfies (Admits g.wanted) g.sender) (same_Some s.0 e (sym s.1.0 ∙ sym at)) s.1.1)
      back (inr d) = absurd (other d.0)

-- one more element of a list of which all are tested in turn
module _ {X : Type 0} (P : X → Type 0) (xs : List X) (i : ℕ) (x : X) (low : i < length xs) (is : x ≡ get_or xs i x) where
  first : drop i xs ≡ x ∷ drop (i + 1) xs
  first = drop_more xs i x low ∙ ap (λ y. y ∷ drop (i + 1) xs) (sym is)

  -- it passes, and the rest is what counts
  pub passes : P x → (All P xs ↔ All P (drop i xs)) → (All P xs ↔ All P (drop (i + 1) xs))
  passes here was = (
    λ all. All-tail P x (drop (i + 1) xs) (subst (All P) first (was.0 all)),
    λ rest. was.1 (subst (All P) (sym first) (All-cons P x (drop (i + 1) xs) here rest)),
  )

  -- it fails, and so do all
  pub fails : ¬ P x → (All P xs ↔ All P (drop i xs)) → ¬ All P xs
  fails not was all = not (All-head P x (drop (i + 1) xs) (subst (All P) first (was.0 all)))

-- of a behaviour that waits it is asked whether one of its branches is open
pub rest_as : (k : List Entry) (o : Outcome) (guards : Vec Guard Global) (gs : List Guard) (b : Bool) → o ≡ outcome.Waiting guards → gs ≡ guards.items
    → (IsTrue b ↔ NoneOpen k gs) → (IsTrue b ↔ IsRest k o)
rest_as k o guards gs b is same says =
    subst (λ (p : Outcome). IsTrue b ↔ IsRest k p) (sym is) (subst (λ (l : List Guard). IsTrue b ↔ NoneOpen k l) same says)
