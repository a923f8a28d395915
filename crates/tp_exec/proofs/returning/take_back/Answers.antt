-- The sender of the next component is the next that this has.
use Rattle.std.proofs.Common.{◌≡◌, ◌++◌, ◌∷◌, [], ℕ, List, sym, subst}
use Rattle.std.specs.Global.{Global}
use Rattle.std.specs.List.{AllZip}
use Rattle.std.specs.declared.vec.IntoIter.{IntoIter}
use Rattle.std.specs.Vec.Iter.{into_iter_items}
use Rattle.std.proofs.lemmas.List.{append-nil}
use Rattle.tp_config.specs.declared.port_type.CompId.{CompId}
use Rattle.tp_inbox.specs.declared.entry.Entry.{Entry}
use Rattle.tp_inbox.specs.Ledgers.{Inbox, SenderLedger}
use Rattle.tp_inbox.proofs.RoutesAfterSendersJoin.{move_one}
use Rattle.tp_exec.specs.ReturnedSenders.{AreAtHand, CanTake, IsHandedBack, links_by}
use Rattle.tp_exec.specs.Rounds.{Link, link_by}
use Rattle.tp_exec.proofs.OneSenderReturns.{no_rest}
use Rattle.tp_exec.proofs.returning.take_back.Goals as goal

-- the next link is the first
next_held : (logs : ℕ → List Entry) (hands : List (IntoIter SenderLedger Global)) (i : Inbox) (c : CompId) (cs rest : List CompId) (more : List Link)
    → cs ≡ c ∷ rest → AreAtHand logs hands (links_by i cs ++ more) → AreAtHand logs hands (link_by i c ∷ (links_by i rest ++ more))
next_held logs hands i c cs rest more is h = subst (λ (ds : List CompId). AreAtHand logs hands (links_by i ds ++ more)) is h

-- so it can be taken
next_taken : (logs : ℕ → List Entry) (hands : List (IntoIter SenderLedger Global)) (i : Inbox) (c : CompId) (cs rest : List CompId) (more : List Link)
    → cs ≡ c ∷ rest → AreAtHand logs hands (links_by i cs ++ more) → CanTake hands (link_by i c ∷ [])
next_taken logs hands i c cs rest more is h = (logs, links_by i rest ++ more, next_held logs hands i c cs rest more is h)

pub take_one-requires : goal.take_one-requires
take_one-requires c =
    let w = c.requires in (
      w.0,
      next_taken w.1.0 c.loop-source.hands.items w.0 c.in-Some.source (into_iter_items c.loop-source.source-iterator)
          (into_iter_items c.next.new.self) w.1.1 c.in-Some.ensures.steps.0 (c.loop-source.invariant.held w.0 w.1.0 w.1.1 w.1.2),
    )

pub unreachable-requires : goal.unreachable-requires
unreachable-requires c =
    let w = c.requires in
    c.in_default.ensures.back w.0
    (next_taken w.1.0 c.loop-source.hands.items w.0 c.in-Some.source (into_iter_items c.loop-source.source-iterator)
    (into_iter_items c.next.new.self) w.1.1 c.in-Some.ensures.steps.0 (c.loop-source.invariant.held w.0 w.1.0 w.1.1 w.1.2))

pub loop-source-preserved : goal.loop-source-preserved
loop-source-preserved c =
    let was = c.loop-source.invariant in
    let hands = c.loop-source.hands.items in
    let rest = into_iter_items c.next.new.self in
    let all = c.args.sources.items in
    let steps : into_iter_items c.loop-source.source-iterator ≡ c.in-Some.source ∷ rest = c.in-Some.ensures.steps.0 in
    record {
      held = λ i logs more h.
          c.take_one.ensures.held i logs (links_by i rest ++ more)
          (next_held logs hands i c.in-Some.source (into_iter_items c.loop-source.source-iterator) rest more steps (was.held i logs more h));
      back = λ i logs more h ss zs.
          let x = c.in-Some-take_one.sender in
          let here = c.in-Some-take_one.ensures.back i logs (links_by i rest ++ more)
          (next_held logs hands i c.in-Some.source (into_iter_items c.loop-source.source-iterator) rest more steps (was.held i logs more h)) in
          let zipped : AllZip (IsHandedBack logs) (links_by i all) (c.loop-source.back.items ++ x ∷ ss) =
          was.back i logs more h (x ∷ ss) (subst (λ (cs : List CompId). AllZip (IsHandedBack logs) (links_by i cs) (x ∷ ss)) (sym steps) (here.0, zs)) in
          subst (AllZip (IsHandedBack logs) (links_by i all)) (sym (move_one c.push.new.self.items c.loop-source.back.items x ss c.in_ok-push.ensures.items))
          zipped;
    }

pub returns-clause-held : goal.returns-clause-held
returns-clause-held c = λ i logs more h.
    let none = no_rest c.loop-source.source-iterator c.in-None.ensures.steps.0 in
    subst (λ (cs : List CompId). AreAtHand logs c.loop-source.hands.items (links_by i cs ++ more)) none (c.loop-source.invariant.held i logs more h)

pub returns-clause-back : goal.returns-clause-back
returns-clause-back c = λ i logs more h.
    let none = no_rest c.loop-source.source-iterator c.in-None.ensures.steps.0 in
    subst (AllZip (IsHandedBack logs) (links_by i c.args.sources.items)) (append-nil c.loop-source.back.items)
    (c.loop-source.invariant.back i logs more h [] (subst (λ (cs : List CompId). AllZip (IsHandedBack logs) (links_by i cs) []) (sym none) tt))
