-- What comes back next is the component that had begun there.
use Rattle.std.proofs.Common.{◌∷◌, [], All, length, ap, sym, subst, arith, true≢false}
use Rattle.std.specs.Vec.Iter.{into_iter_items}
use Rattle.std.proofs.lemmas.List.Elements.{All-nil, All-cons, All-append, All-head, All-rest}
use Rattle.tp_inbox.proofs.SenderListGrowth.{moved}
use Rattle.tp_exec.specs.declared.played.Played.{Played}
use Rattle.tp_exec.specs.Returns.{HasReturned, identity_of}
use Rattle.tp_exec.specs.Children.{IsChild, identity_at}
use Rattle.tp_exec.proofs.threads.join_all.Goals as goal

pub loop-child-preserved-in-Ok : goal.loop-child-preserved-in-Ok
loop-child-preserved-in-Ok g c =
    let was = c.loop-child.invariant in
    let made = c.args.test_case.now in
    let steps = c.in-Some.ensures.steps.0 in
    let pushed = c.push_reserved.ensures.items in
    let x = c.in-Ok.played in
    record {
      identities = λ fresh. moved (λ (p : Played). identity_of p.worker) identity_at _ _ _ _ _ _ _ pushed steps c.in-Ok.ensures.identity (was.identities fresh);
      returned = subst (All (HasReturned made)) (sym pushed)
          (All-append (HasReturned made) c.loop-child.back.items (x ∷ []) was.returned
          (All-cons (HasReturned made) x [] c.in-Ok.ensures.returned (All-nil (HasReturned made))));
      children = All-rest (IsChild made) c.in-Some.child (into_iter_items c.next.new.self) _ steps was.children;
      space = let a = c.push_reserved.ensures.len in let b = c.push_reserved.ensures.capacity in let d = ap length steps in let e = was.space in omega arith;
    }

pub loop-child-preserved : goal.loop-child-preserved
loop-child-preserved g c =
    let was = c.loop-child.invariant in
    let steps = c.in-Some.ensures.steps.0 in
    record {
      identities = λ fresh. absurd (true≢false fresh);
      returned = was.returned;
      children = All-rest (IsChild c.args.test_case.now) c.in-Some.child (into_iter_items c.next.new.self) _ steps was.children;
      space = let d = ap length steps in let e = was.space in omega arith;
    }

pub join_child-requires-after_bounds : goal.join_child-requires-after_bounds
join_child-requires-after_bounds g c κs within =
    All-head (IsChild c.args.test_case.now) c.in-Some.child (into_iter_items c.next.new.self)
    (subst (All (IsChild c.args.test_case.now)) c.in-Some.ensures.steps.0 c.loop-child.invariant.children)
