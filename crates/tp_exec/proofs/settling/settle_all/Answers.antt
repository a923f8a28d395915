-- The next component takes the senders on the next links, and the rest has the others.
use Rattle.std.proofs.Common.{◌≡◌, ◌++◌, ◌∷◌, [], List, All, map, sym, ◌∙◌, subst}
use Rattle.std.specs.List.{AllZip}
use Rattle.std.specs.Vec.Iter.{into_iter_items}
use Rattle.std.proofs.lemmas.List.{append-nil}
use Rattle.std.proofs.lemmas.List.Elements.{All-head, All-tail}
use Rattle.tp_inbox.proofs.RoutesAfterSendersJoin.{move_one}
use Rattle.tp_exec.specs.declared.ended.EndedComponent.{EndedComponent}
use Rattle.tp_exec.specs.declared.idle.Idle.{Idle}
use Rattle.tp_exec.specs.ReturnedSenders.{AreAtHand, HasEndedWithAll, IsIdleComponent, idle_of, log_at, links_to}
use Rattle.tp_exec.proofs.OneSenderReturns.{no_rest}
use Rattle.tp_exec.proofs.SendersAfterBehaviours.{all_held, all_idle}
use Rattle.tp_exec.proofs.SettledRunOutcomes.{all_settled}
use Rattle.tp_exec.proofs.settling.settle_all.Goals as goal

pub loop-idle-init : goal.loop-idle-init
loop-idle-init g c =
    let s = c.args.config.now in
    let played = c.args.played.items in
    let idles : into_iter_items c.into_iter-idle-iterator.result ≡ map idle_of played = c.into_iter-idle-iterator.ensures.into_iter_gives.0
    ∙ c.in_ok-idles.ensures.idles in
    record {
      idle = subst (All (IsIdleComponent s)) (sym idles) (all_idle s c.len.ensures.lawful played c.requires);
      held = subst (λ (xs : List Idle). AreAtHand (log_at played) c.in_ok-idles.hands.items (links_to xs)) (sym idles)
          (all_held s c.len.ensures.lawful played c.requires c.in_ok-idles.hands.items c.in_ok-idles.ensures.hands);
      done = λ es z.
          subst (λ (ys : List EndedComponent). AllZip (HasEndedWithAll (log_at played)) (map idle_of played) (ys ++ es)) (sym c.in_ok-all.ensures.items)
          (subst (λ (xs : List Idle). AllZip (HasEndedWithAll (log_at played)) xs es) idles z);
    }

pub settle_one-requires-clause-idle : goal.settle_one-requires-clause-idle
settle_one-requires-clause-idle g c =
    let rest = into_iter_items c.next.new.self in
    All-head (IsIdleComponent c.args.config.now) c.in-Some.idle rest (subst (All (IsIdleComponent c.args.config.now)) c.in-Some.ensures.steps.0 c.loop-idle.invariant.idle)

pub loop-idle-preserved : goal.loop-idle-preserved
loop-idle-preserved g c =
    let was = c.loop-idle.invariant in
    let rest = into_iter_items c.next.new.self in
    let x = c.in-Some.idle in
    let e = c.in_ok-ended.ended in
    let logs = log_at c.args.played.items in
    let steps : into_iter_items c.loop-idle.idle-iterator ≡ x ∷ rest = c.in-Some.ensures.steps.0 in
    let held = subst (λ (xs : List Idle). AreAtHand logs c.loop-idle.hands.items (links_to xs)) steps was.held in
    record {
      idle = All-tail (IsIdleComponent c.args.config.now) x rest (subst (All (IsIdleComponent c.args.config.now)) steps was.idle);
      held = c.in_ok-ended.ensures.held logs (links_to rest) held;
      done = λ es z.
          let here : HasEndedWithAll logs x e = record { end = c.in_ok-ended.ensures.end; come = c.in_ok-ended.ensures.come logs (links_to rest) held } in
          let all : List Idle = map idle_of c.args.played.items in
          let zipped : AllZip (HasEndedWithAll logs) all (c.loop-idle.all.items ++ e ∷ es) =
          was.done (e ∷ es) (subst (λ (xs : List Idle). AllZip (HasEndedWithAll logs) xs (e ∷ es)) (sym steps) (here, z)) in
          subst (AllZip (HasEndedWithAll logs) all) (sym (move_one c.push.new.self.items c.loop-idle.all.items e es c.in_ok-push.ensures.items)) zipped;
    }

pub returns : goal.returns
returns g c =
    let logs = log_at c.args.played.items in
    let ended = c.loop-idle.all.items in
    let none = no_rest c.loop-idle.idle-iterator c.in-None.ensures.steps.0 in
    all_settled c.args.config.now c.len.ensures.lawful c.args.played.items c.requires ended
    (subst (AllZip (HasEndedWithAll logs) (map idle_of c.args.played.items)) (append-nil ended)
    (c.loop-idle.invariant.done [] (subst (λ (xs : List Idle). AllZip (HasEndedWithAll logs) xs []) (sym none) tt)))
