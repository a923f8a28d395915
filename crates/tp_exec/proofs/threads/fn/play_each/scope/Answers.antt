-- The next component has begun, and all that have begun come back.
use Rattle.std.proofs.Common.{◌≡◌, ◌++◌, ◌∷◌, [], List, All, length, map, refl, ap, sym, ◌∙◌, subst, arith, true≢false}
use Rattle.std.specs.Global.{Global}
use Rattle.std.specs.declared.vec.IntoIter.{IntoIter}
use Rattle.std.specs.Vec.Iter.{into_iter_items, into_iter_len}
use Rattle.std.proofs.lemmas.List.{append-nil}
use Rattle.std.proofs.lemmas.List.Elements.{All-nil, All-cons, All-append, All-rest}
use Rattle.std.proofs.lemmas.Result.{IfOk-weaker}
use Rattle.tp_inbox.proofs.SenderListGrowth.{moved}
use Rattle.tp_behaviour.specs.declared.worker.Worker.{Worker}
use Rattle.tp_exec.specs.Returns.{IsYetToBegin, identity_of}
use Rattle.tp_exec.specs.Children.{IsChild, identity_at}
use Rattle.tp_exec.proofs.threads.fn.play_each.scope.Goals as goal

pub loop-worker-preserved-in-Some-start_component : goal.loop-worker-preserved-in-Some-start_component
loop-worker-preserved-in-Some-start_component g c =
    let was = c.loop-worker.invariant in
    let made = c.captures.test_case.now in
    let steps = c.in-Some.ensures.steps.0 in
    let long = ap length steps in
    let pushed = c.push_reserved.ensures.items in
    let rest = into_iter_items c.next.new.self in
    let child = c.in-Some-start_component.child in
    let a = c.push_reserved.ensures.len in
    let b = c.push_reserved.ensures.capacity in
    record {
      identities = λ fresh. moved identity_at identity_of _ _ _ _ _ _ _ pushed steps c.in-Some-start_component.ensures.identity (was.identities fresh);
      children = subst (All (IsChild made)) (sym pushed)
          (All-append (IsChild made) c.loop-worker.children.items (child ∷ []) was.children
          (All-cons (IsChild made) child [] c.in-Some-start_component.ensures.child (All-nil (IsChild made))));
      workers = All-rest (IsYetToBegin made) c.in-Some.worker rest _ steps was.workers;
      space = let e = was.space in omega arith;
      empty = was.empty;
      list = let e = was.list in omega arith;
    }

pub loop-worker-preserved : goal.loop-worker-preserved
loop-worker-preserved g c =
    let was = c.loop-worker.invariant in
    let made = c.captures.test_case.now in
    let steps = c.in-Some.ensures.steps.0 in
    let long = ap length steps in
    let rest = into_iter_items c.next.new.self in
    record {
      identities = λ fresh. absurd (true≢false fresh);
      children = was.children;
      workers = All-rest (IsYetToBegin made) c.in-Some.worker rest _ steps was.workers;
      space = let e = was.space in omega arith;
      empty = was.empty;
      list = let e = was.list in omega arith;
    }

nothing : {X : Type 0} (xs : List X) → length xs ≡ 0 → xs ≡ []
nothing [] e = refl
nothing (x ∷ xs) e = absurd (omega arith)

-- an iterator of no length has nothing more
no_rest : {X : Type 0} (it : IntoIter X Global) → into_iter_len it ≡ 0 → into_iter_items it ≡ []
no_rest it none = nothing (into_iter_items it) (sym it.rest.ok.0 ∙ none)

pub returns : goal.returns
returns g c =
    let was = c.loop-worker.invariant in
    let children = c.loop-worker.children.items in
    let gives : into_iter_items c.into_iter-worker-iterator.result ≡ c.captures.workers.items = c.into_iter-worker-iterator.ensures.into_iter_gives.0 in
    let none = no_rest c.loop-worker.worker-iterator c.in-None.ensures.steps.0 in
    let all : map identity_at children ≡ map identity_of c.captures.workers.items =
    sym (append-nil (map identity_at children)) ∙ ap (λ (l : List Worker). map identity_at children ++ map identity_of l) (sym none) ∙ was.identities c.if-refused.false
    ∙ ap (map identity_of) gives in
    record {
      identities = IfOk-weaker c.join_all-joined.result _ _ (λ back h. h ∙ all) c.join_all-joined.ensures.identities;
      returned = IfOk-weaker c.join_all-joined.result _ _ (λ back h. h) c.join_all-joined.ensures.returned;
      fault = c.join_all-joined.ensures.fault;
    }
