-- What an `alt` and a `for` come to, from what their blocks come to.
use Rattle.std.proofs.Common.{Vec, Global, ◌≡◌, ◌∙◌, ℕ, ℤ, Bool, true, false, Option, Some, None, List, [], ◌∷◌, ◌++◌, slice_get, refl, ap, sym, subst}
use Rattle.std.specs.Option.{is_some}
use Rattle.std.proofs.lemmas.List.{append_assoc}
use Rattle.std.proofs.lemmas.Option.{same_Some}
use Rattle.tp_play.specs.declared.body.ResolvedStatement.{ResolvedStatement}
use Rattle.tp_play.specs.declared.body.ResolvedStatement.TheVariants as b
use Rattle.tp_play.specs.declared.body.ResolvedBranch.{ResolvedBranch}
use Rattle.tp_play.specs.Sizes.{turns_between}
use Rattle.tp_inbox.specs.declared.ending.End.{End}
use Rattle.tp_inbox.specs.declared.ending.End.TheVariants as ending
use Rattle.tp_behaviour.specs.declared.choice.Guard.{Guard}
use Rattle.tp_behaviour.specs.declared.deciding.Decision.TheVariants as decision
use Rattle.tp_behaviour.specs.declared.held.Held.{Held}
use Rattle.tp_behaviour.specs.declared.outcome.Outcome.{Outcome}
use Rattle.tp_behaviour.specs.declared.outcome.Outcome.TheVariants as outcome
use Rattle.tp_behaviour.specs.declared.task.Task.{Task}
use Rattle.tp_behaviour.specs.declared.worker.Worker.{Worker}
use Rattle.tp_behaviour.specs.declared.worker.Frame.{Frame}
use Rattle.tp_behaviour.specs.BehaviourEnds.{Stops, StopsWithin}
use Rattle.tp_behaviour.specs.Held.{Actor, redirected}
use Rattle.tp_behaviour.specs.Moments.{Moment}
use Rattle.tp_behaviour.specs.Outcomes.{Ends, EndsStep, EndsTurns, Executed, Stepped, StopsTurn}
use Rattle.tp_behaviour.specs.PartOutcomes.{Decided, Enters, EntersElse, ExecutedAt, Turned}
use Rattle.tp_behaviour.specs.Paths.{IsPath, IsStep, guards_of}
use Rattle.tp_behaviour.specs.LookOutcomes.{TraceGrew}
use Rattle.tp_behaviour.specs.Workers.{role_of}
use Rattle.tp_behaviour.proofs.StatementOutcomes.{grew_on}

-- the moments of the choice, and then those of the block
behind : (drops ts more : List Moment) (t : Moment) → ts ≡ drops ++ t ∷ [] → drops ++ t ∷ more ≡ ts ++ more
behind drops ts more t is = sym (ap (λ xs. xs ++ more) is ∙ append_assoc drops (t ∷ []) more)

module _ (r : Actor) (turns : List ℤ) (vs us ws : List (Option Held)) (xs : List ResolvedBranch) (otherwise : Option (List ResolvedStatement)) where
  set_by : (i : ℕ) (x : ResolvedBranch) (ts : List Moment) (h : Enters xs (guards_of r (record { turns = turns; variables = vs }) xs) i vs us ts)
      → slice_get xs i ≡ Some x
      → us ≡ redirected x.receiving h.env vs
  set_by i x ts h at = h.entered.set ∙ ap (λ (y : ResolvedBranch). redirected y.receiving h.env vs) (same_Some h.entered.branch x (sym h.entered.there ∙ at))

  -- the block of the branch that was chosen stops
  stops_in_branch : (rests : List Guard → Type 0) (end : End) (i : ℕ) (x : ResolvedBranch) (ts more : List Moment)
      → Enters xs (guards_of r (record { turns = turns; variables = vs }) xs) i vs us ts → slice_get xs i ≡ Some x
      → Stops r rests end turns us x.block more → StopsWithin r rests end turns vs (b.Alt xs otherwise) (ts ++ more)
  stops_in_branch rests end i x ts more h at block =
      let set = set_by i x ts h at in
      subst (StopsWithin r rests end turns vs (b.Alt xs otherwise)) (behind h.chosen.0 ts more h.chosen.1 h.chosen.2)
      (StopsWithin.within_branch end turns vs xs otherwise true h.chosen.0 h.chosen.1 i h.env x more h.chosen.3 (h.chosen.4 true) at
      (subst (λ us'. Stops r rests end turns us' x.block more) set block))

  -- or ends in any way
  of_branch : (o : Outcome) (i : ℕ) (x : ResolvedBranch) (ts more : List Moment) → Enters xs (guards_of r (record { turns = turns; variables = vs }) xs) i vs us ts
      → slice_get xs i ≡ Some x → Ends r o turns us x.block more ws → EndsStep r o turns vs (b.Alt xs otherwise) (ts ++ more) ws
  of_branch outcome.Done i x ts more h at block =
      let set = set_by i x ts h at in
      subst (λ us'. IsStep r turns vs (b.Alt xs otherwise) us' ws) (behind h.chosen.0 ts more h.chosen.1 h.chosen.2)
      (IsStep.branch turns vs xs otherwise true h.chosen.0 h.chosen.1 i h.env x more ws h.chosen.3 (h.chosen.4 true) at
      (subst (λ us'. IsPath r turns us' x.block more ws) set block))
  of_branch (outcome.Error fault) i x ts more h at block = stops_in_branch (λ _. ⊥) (ending.Error fault) i x ts more h at block
  of_branch (outcome.Waiting waiting) i x ts more h at block = stops_in_branch (λ gs. gs ≡ waiting.items) ending.Waiting i x ts more h at block

-- the block of `[else]`
module _ (r : Actor) (turns : List ℤ) (vs us ws : List (Option Held)) (xs : List ResolvedBranch) (has_else : Bool) (items : List ResolvedStatement) where
  stops_in_else : (rests : List Guard → Type 0) (end : End) (ts more : List Moment)
      → EntersElse (guards_of r (record { turns = turns; variables = vs }) xs) has_else vs us ts
      → Stops r rests end turns us items more → StopsWithin r rests end turns vs (b.Alt xs (Some items)) (ts ++ more)
  stops_in_else rests end ts more h block =
      subst (StopsWithin r rests end turns vs (b.Alt xs (Some items))) (behind h.chosen.0 ts more h.chosen.1 h.chosen.2)
      (StopsWithin.within_else end turns vs xs items h.chosen.0 h.chosen.1 more h.chosen.3 h.chosen.4
      (subst (λ us'. Stops r rests end turns us' items more) h.kept block))

  of_else : (o : Outcome) (ts more : List Moment) → EntersElse (guards_of r (record { turns = turns; variables = vs }) xs) has_else vs us ts
      → Ends r o turns us items more ws → EndsStep r o turns vs (b.Alt xs (Some items)) (ts ++ more) ws
  of_else outcome.Done ts more h block =
      subst (λ us'. IsStep r turns vs (b.Alt xs (Some items)) us' ws) (behind h.chosen.0 ts more h.chosen.1 h.chosen.2)
      (IsStep.otherwise turns vs xs items h.chosen.0 h.chosen.1 more ws h.chosen.3 h.chosen.4 (subst (λ us'. IsPath r turns us' items more ws) h.kept block))
  of_else (outcome.Error fault) ts more h block = stops_in_else (λ _. ⊥) (ending.Error fault) ts more h block
  of_else (outcome.Waiting waiting) ts more h block = stops_in_else (λ gs. gs ≡ waiting.items) ending.Waiting ts more h block

-- an `alt` of which a branch was chosen
pub step_branch : (p : Task) (x : ResolvedStatement) (xs ys : List ResolvedBranch) (otherwise : Option (List ResolvedStatement)) (has_else : Bool) (i : ℕ) (o : Outcome)
    (here : Worker) (before : Frame) (mid : Worker) (now : Frame) (there : Worker) (after : Frame) → x ≡ b.Alt xs otherwise → ys ≡ xs
    → now.turns.items ≡ before.turns.items
    → Decided p ys has_else (decision.Branch i) here before mid now → ExecutedAt p ys i o mid now there after → Stepped p x o here before there after
step_branch p x xs ys otherwise has_else i o here before mid now there after is are same decided done =
    let r = role_of p in
    let turns = before.turns.items in
    let vs = before.variables.items in
    let us = now.variables.items in
    let ws = after.variables.items in
    let block : TraceGrew (λ ts. Ends r o turns us done.0.block ts ws) mid.desk.log there.desk.log =
    subst (λ (l : List ℤ). TraceGrew (λ ts. Ends r o l us done.0.block ts ws) mid.desk.log there.desk.log) same done.2 in
    subst (λ (y : ResolvedStatement). Stepped p y o here before there after) (ap (λ (l : List ResolvedBranch). b.Alt l otherwise) are ∙ sym is)
    (grew_on (Enters ys (guards_of r (record { turns = turns; variables = vs }) ys) i vs us) (λ ts. Ends r o turns us done.0.block ts ws)
    (λ ts. EndsStep r o turns vs (b.Alt ys otherwise) ts ws) here.desk.log mid.desk.log there.desk.log
    (λ ts more h e. of_branch r turns vs us ws ys otherwise o i done.0 ts more h done.1 e) decided block)

-- an `alt` of which `[else]` was chosen
pub step_else : (p : Task) (x : ResolvedStatement) (xs ys : List ResolvedBranch) (otherwise : Option (List ResolvedStatement)) (items list : List ResolvedStatement) (has_else : Bool)
    (o : Outcome)
    (here : Worker) (before : Frame) (mid : Worker) (now : Frame) (there : Worker) (after : Frame) → x ≡ b.Alt xs otherwise → otherwise ≡ Some items
    → ys ≡ xs → list ≡ items
    → now.turns.items ≡ before.turns.items
    → Decided p ys has_else decision.Else here before mid now → Executed p list o mid now there after → Stepped p x o here before there after
step_else p x xs ys otherwise items list has_else o here before mid now there after is some are these same decided done =
    let r = role_of p in
    let turns = before.turns.items in
    let vs = before.variables.items in
    let us = now.variables.items in
    let ws = after.variables.items in
    let block : TraceGrew (λ ts. Ends r o turns us list ts ws) mid.desk.log there.desk.log =
    subst (λ (l : List ℤ). TraceGrew (λ ts. Ends r o l us list ts ws) mid.desk.log there.desk.log) same done in
    let whole : b.Alt ys (Some list) ≡ x =
    ap (λ (l : List ResolvedBranch). b.Alt l (Some list)) are ∙ ap (λ (l : List ResolvedStatement). b.Alt xs (Some l)) these ∙ ap (λ (l : Option (List ResolvedStatement)). b.Alt xs l)
    (sym some) ∙ sym is in
    subst (λ (y : ResolvedStatement). Stepped p y o here before there after) whole
    (grew_on (EntersElse (guards_of r (record { turns = turns; variables = vs }) ys) has_else vs us) (λ ts. Ends r o turns us list ts ws)
    (λ ts. EndsStep r o turns vs (b.Alt ys (Some list)) ts ws) here.desk.log mid.desk.log there.desk.log
    (λ ts more h e. of_else r turns vs us ws ys has_else list o ts more h e) decided block)

-- where none waits, there is none
no_else : (otherwise : Option (List ResolvedStatement)) → is_some otherwise ≡ false → None ≡ otherwise
no_else None is = refl
no_else (Some block) is = absurd (cc)

-- an `alt` that waits
pub step_waits : (p : Task) (x : ResolvedStatement) (xs ys : List ResolvedBranch) (otherwise : Option (List ResolvedStatement)) (has_else : Bool) (waiting : Vec Guard Global)
    (here : Worker) (before : Frame) (there : Worker) (after : Frame) → x ≡ b.Alt xs otherwise → ys ≡ xs → has_else ≡ is_some otherwise
    → Decided p ys has_else (decision.Waits waiting) here before there after → Stepped p x (outcome.Waiting waiting) here before there after
step_waits p x xs ys otherwise has_else waiting here before there after is are there_is decided =
    let r = role_of p in
    let turns = before.turns.items in
    let vs = before.variables.items in
    let h = decided.2 in
    let none : None ≡ otherwise = no_else otherwise (sym there_is ∙ h.none) in
    let whole : b.Alt ys None ≡ x = ap (λ (l : List ResolvedBranch). b.Alt l None) are ∙ ap (λ (l : Option (List ResolvedStatement)). b.Alt xs l) none ∙ sym is in
    subst (λ (y : ResolvedStatement). Stepped p y (outcome.Waiting waiting) here before there after) whole
    (decided.0, decided.1, StopsWithin.waits_at_alt turns vs ys decided.0 h.drops (sym h.same))

-- a `for`
module _ (r : Actor) (turns : List ℤ) (vs ws : List (Option Held)) (first bound : ℤ) (block : List ResolvedStatement) where
  of_turn : (rests : List Guard → Type 0) (end : End) (ts : List Moment)
      → StopsTurn r turns vs first block (turns_between first bound) (λ inner us more. Stops r rests end inner us block more) ts
      → StopsWithin r rests end turns vs (b.For first bound block) ts
  of_turn rests end ts h =
      subst (StopsWithin r rests end turns vs (b.For first bound block)) (sym h.4)
      (StopsWithin.within_for end turns vs h.1 first bound block h.0 h.2 h.3 h.6 h.5 h.7)

  of_turns : (o : Outcome) (ts : List Moment) → EndsTurns r o turns vs first block (turns_between first bound) ts ws
      → EndsStep r o turns vs (b.For first bound block) ts ws
  of_turns outcome.Done ts h = IsStep.counted turns vs first bound block ts ws h
  of_turns (outcome.Error fault) ts h = of_turn (λ _. ⊥) (ending.Error fault) ts h
  of_turns (outcome.Waiting waiting) ts h = of_turn (λ gs. gs ≡ waiting.items) ending.Waiting ts h

pub step_for : (p : Task) (x : ResolvedStatement) (first bound low high : ℤ) (items list : List ResolvedStatement) (o : Outcome) (here : Worker) (before : Frame)
    (there : Worker) (after : Frame)
    → x ≡ b.For first bound items → low ≡ first → high ≡ bound → list ≡ items → Turned p low list (turns_between low high) o here before there after
    → Stepped p x o here before there after
step_for p x first bound low high items list o here before there after is low_is high_is are h =
    let r = role_of p in
    let whole : b.For low high list ≡ x =
    ap (λ (n : ℤ). b.For n high list) low_is ∙ ap (λ (n : ℤ). b.For first n list) high_is ∙ ap (λ (l : List ResolvedStatement). b.For first bound l) are ∙ sym is in
    subst (λ (y : ResolvedStatement). Stepped p y o here before there after) whole
    (h.0, h.1, of_turns r before.turns.items before.variables.items after.variables.items low high list o h.0 h.2)
