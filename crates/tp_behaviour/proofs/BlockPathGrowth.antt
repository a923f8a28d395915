-- How the path of a block grows by a statement, and how the block ends.
use Rattle.std.proofs.Common.{◌≡◌, ◌∙◌, ℕ, ◌+◌, ◌<◌, ◌≤◌, ℤ, Option, List, [], ◌∷◌, ◌++◌, drop, get_or, length, take, ap, refl, subst, sym}
use Rattle.std.proofs.lemmas.List.{append-nil, drop_more, take-append-drop, take_all, take_more}
use Rattle.tp_play.specs.declared.body.ResolvedStatement.{ResolvedStatement}
use Rattle.tp_inbox.specs.declared.entry.Entry.{Entry}
use Rattle.tp_inbox.specs.declared.ending.End.{End}
use Rattle.tp_inbox.specs.declared.ending.End.TheVariants as ending
use Rattle.tp_behaviour.specs.declared.choice.Guard.{Guard}
use Rattle.tp_behaviour.specs.declared.held.Held.{Held}
use Rattle.tp_behaviour.specs.declared.outcome.Outcome.{Outcome}
use Rattle.tp_behaviour.specs.declared.outcome.Outcome.TheVariants as outcome
use Rattle.tp_behaviour.specs.declared.task.Task.{Task}
use Rattle.tp_behaviour.specs.declared.worker.Worker.{Worker}
use Rattle.tp_behaviour.specs.declared.worker.Frame.{Frame}
use Rattle.tp_behaviour.specs.BehaviourEnds.{Stops, StopsWithin}
use Rattle.tp_behaviour.specs.Held.{Actor}
use Rattle.tp_behaviour.specs.Moments.{Moment, moments}
use Rattle.tp_behaviour.specs.Outcomes.{Ends, EndsStep, Executed, Stepped}
use Rattle.tp_behaviour.specs.Paths.{IsPath, IsStep}
use Rattle.tp_behaviour.specs.LookOutcomes.{TraceGrew}
use Rattle.tp_behaviour.specs.Workers.{role_of}
use Rattle.tp_behaviour.proofs.StatementOutcomes.{grew_on}

-- the first i statements of a block were carried out
abbrev pub Passed : Task → List ResolvedStatement → ℕ → Worker → Frame → Worker → Frame → Type 0
Passed p block i here before there after =
    TraceGrew (λ ts. IsPath (role_of p) before.turns.items before.variables.items (take i block) ts after.variables.items) here.desk.log there.desk.log

pub passed_start : (p : Task) (block : List ResolvedStatement) (here : Worker) (before : Frame) → Passed p block 0 here before here before
passed_start p block here before = ([], sym (append-nil (moments here.desk.log)), IsPath.no_statement before.turns.items before.variables.items)

-- what a statement came to, where the loop variables hold what they held at first
as_before : (r : Actor) (o : Outcome) (turns us : List ℤ) (vs ws : List (Option Held)) (x : ResolvedStatement) (k n : List Entry) → us ≡ turns
    → TraceGrew (λ ts. EndsStep r o us vs x ts ws) k n → TraceGrew (λ ts. EndsStep r o turns vs x ts ws) k n
as_before r o turns us vs ws x k n same h = subst (λ (l : List ℤ). TraceGrew (λ ts. EndsStep r o l vs x ts ws) k n) same h

-- one statement more
pub passed_more : (p : Task) (block : List ResolvedStatement) (i : ℕ) (x : ResolvedStatement) (here : Worker) (before : Frame) (mid : Worker) (now : Frame) (there : Worker)
    (after : Frame)
    → now.turns.items ≡ before.turns.items → i < length block → x ≡ get_or block i x → Passed p block i here before mid now
    → Stepped p x outcome.Done mid now there after → Passed p block (i + 1) here before there after
passed_more p block i x here before mid now there after same below is passed step =
    let r = role_of p in
    let turns = before.turns.items in
    let vs = before.variables.items in
    let ws = now.variables.items in
    let us = after.variables.items in
    let longer : take i block ++ x ∷ [] ≡ take (i + 1) block = ap (λ y. take i block ++ y ∷ []) is ∙ sym (take_more block i x below) in
    grew_on (λ ts. IsPath r turns vs (take i block) ts ws) (λ ts. IsStep r turns ws x ts us) (λ ts. IsPath r turns vs (take (i + 1) block) ts us)
    here.desk.log mid.desk.log there.desk.log
    (λ ts more path one. subst (λ (xs : List ResolvedStatement). IsPath r turns vs xs (ts ++ more) us) longer
    (IsPath.one_statement_more turns vs ws us (take i block) x ts more path one))
    passed (as_before r outcome.Done turns now.turns.items ws us x mid.desk.log there.desk.log same step)

-- all of them
pub passed_all : (p : Task) (block : List ResolvedStatement) (i : ℕ) (here : Worker) (before : Frame) (there : Worker) (after : Frame)
    → length block ≤ i → Passed p block i here before there after → Executed p block outcome.Done here before there after
passed_all p block i here before there after all passed =
    subst (λ (xs : List ResolvedStatement). TraceGrew (λ ts. IsPath (role_of p) before.turns.items before.variables.items xs ts after.variables.items) here.desk.log
    there.desk.log)
    (take_all i block all) passed

module _ (r : Actor) (turns : List ℤ) (vs ws us : List (Option Held)) (block : List ResolvedStatement) (i : ℕ) (x : ResolvedStatement) (below : i < length block)
    (is : x ≡ get_or block i x) where
  stops_at : (rests : List Guard → Type 0) (end : End) (ts more : List Moment) → IsPath r turns vs (take i block) ts ws
      → StopsWithin r rests end turns ws x more → Stops r rests end turns vs block (ts ++ more)
  stops_at rests end ts more path stop =
      let split : take i block ++ x ∷ drop (i + 1) block ≡ block =
      ap (λ y. take i block ++ y ∷ drop (i + 1) block) is ∙ ap (λ xs. take i block ++ xs) (sym (drop_more block i x below)) ∙ take-append-drop i block in
      subst (λ (xs : List ResolvedStatement). Stops r rests end turns vs xs (ts ++ more)) split
      (Stops.stops end turns vs ws (take i block) x (drop (i + 1) block) ts more path stop)

  ends_at : (o : Outcome) → (o ≡ outcome.Done → ⊥) → (ts more : List Moment) → IsPath r turns vs (take i block) ts ws
      → EndsStep r o turns ws x more us → Ends r o turns vs block (ts ++ more) us
  ends_at outcome.Done other ts more path one = absurd (other refl)
  ends_at (outcome.Error fault) other ts more path one = stops_at (λ _. ⊥) (ending.Error fault) ts more path one
  ends_at (outcome.Waiting guards) other ts more path one = stops_at (λ gs. gs ≡ guards.items) ending.Waiting ts more path one

-- the next one ends otherwise: the block does
pub passed_stop : (p : Task) (block : List ResolvedStatement) (i : ℕ) (x : ResolvedStatement) (o : Outcome) (here : Worker) (before : Frame) (mid : Worker) (now : Frame)
    (there : Worker) (after : Frame)
    → (o ≡ outcome.Done → ⊥) → now.turns.items ≡ before.turns.items → i < length block → x ≡ get_or block i x → Passed p block i here before mid now
    → Stepped p x o mid now there after → Executed p block o here before there after
passed_stop p block i x o here before mid now there after other same below is passed step =
    let r = role_of p in
    let turns = before.turns.items in
    let vs = before.variables.items in
    let ws = now.variables.items in
    let us = after.variables.items in
    grew_on (λ ts. IsPath r turns vs (take i block) ts ws) (λ ts. EndsStep r o turns ws x ts us) (λ ts. Ends r o turns vs block ts us)
    here.desk.log mid.desk.log there.desk.log (ends_at r turns vs ws us block i x below is o other)
    passed (as_before r o turns now.turns.items ws us x mid.desk.log there.desk.log same step)
