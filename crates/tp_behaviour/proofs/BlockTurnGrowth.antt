-- How the turns of a block grow by one, and how they end.
use Rattle.std.proofs.Common.{◌≡◌, true, length, ℕ, zero, suc, ◌<◌, ◌≤◌, ℤ, pos, ◌+ℤ◌, ◌<ℤ◌, ◌≤ℤ◌, Option, List, [], ◌∷◌, ◌++◌, refl, subst, sym, arith}
use Rattle.std.specs.Prelude.{◌==◌}
use Rattle.std.proofs.lemmas.Bool.Decides.{nat_tests}
use Rattle.std.proofs.lemmas.Int.{by_lt_z, ints}
use Rattle.std.proofs.lemmas.List.{append-nil}
use Rattle.tp_play.specs.declared.body.ResolvedStatement.{ResolvedStatement}
use Rattle.tp_play.specs.Sizes.{turns_between}
use Rattle.tp_behaviour.specs.declared.held.Held.{Held}
use Rattle.tp_behaviour.specs.declared.outcome.Outcome.{Outcome}
use Rattle.tp_behaviour.specs.declared.outcome.Outcome.TheVariants as outcome
use Rattle.tp_behaviour.specs.declared.task.Task.{Task}
use Rattle.tp_behaviour.specs.declared.worker.Worker.{Worker}
use Rattle.tp_behaviour.specs.declared.worker.Frame.{Frame}
use Rattle.tp_behaviour.specs.Held.{Actor}
use Rattle.tp_behaviour.specs.Moments.{Moment, moments}
use Rattle.tp_behaviour.specs.Outcomes.{Ends, EndsTurns}
use Rattle.tp_behaviour.specs.PartOutcomes.{ExecutedIn, Turned}
use Rattle.tp_behaviour.specs.Paths.{AreTurns, IsPath}
use Rattle.tp_behaviour.specs.LookOutcomes.{TraceGrew}
use Rattle.tp_behaviour.specs.Workers.{role_of}
use Rattle.tp_behaviour.proofs.StatementOutcomes.{grew_on}

-- how many turns there are
pub none_between : (first bound : ℤ) → bound ≤ℤ first → turns_between first bound ≡ 0
none_between first bound above = grind (arith, ints)

pub some_between : (first bound : ℤ) → first <ℤ bound → first +ℤ pos (turns_between first bound) ≡ bound
some_between first bound below = grind (arith, ints)

-- a block of nothing has as many turns as one likes
pub empty_turns : (r : Actor) (turns : List ℤ) (vs : List (Option Held)) (first : ℤ) (n : ℕ) → AreTurns r turns vs first [] n [] vs
empty_turns r turns vs first zero = AreTurns.no_turn turns vs first []
empty_turns r turns vs first (suc n) =
    AreTurns.one_turn_more turns vs vs vs first [] n [] [] (empty_turns r turns vs first n) (IsPath.no_statement (turns ++ (first +ℤ pos n) ∷ []) vs)

pub none_there : {X : Type 0} (xs : List X) → true ≡ (length xs == 0) → xs ≡ []
none_there [] is = refl
none_there (x ∷ xs) is = absurd (grind (arith, nat_tests))

pub turned_empty : (p : Task) (first : ℤ) (block : List ResolvedStatement) (n : ℕ) (here : Worker) (before : Frame) → block ≡ []
    → Turned p first block n outcome.Done here before here before
turned_empty p first block n here before none = (
  [],
  sym (append-nil (moments here.desk.log)),
  subst (λ (xs : List ResolvedStatement). AreTurns (role_of p) before.turns.items before.variables.items first xs n [] before.variables.items) (sym none)
      (empty_turns (role_of p) before.turns.items before.variables.items first n),
)

-- the turns up to this value of the loop variable were made
pub record TurnsMade (p : Task) (first value bound : ℤ) (block : List ResolvedStatement) (here : Worker) (before : Frame) (there : Worker)
    (after : Frame) : Type 0 where
  pub count : ℕ
  pub at : value ≡ first +ℤ pos count
  pub within : count ≤ turns_between first bound
  pub grew : TraceGrew (λ ts. AreTurns (role_of p) before.turns.items before.variables.items first block count ts after.variables.items) here.desk.log there.desk.log

pub made_start : (p : Task) (first bound : ℤ) (block : List ResolvedStatement) (here : Worker) (before : Frame)
    → TurnsMade p first first bound block here before here before
made_start p first bound block here before = record {
  count = 0;
  at = omega (arith, ints);
  within = omega arith;
  grew = ([], sym (append-nil (moments here.desk.log)), AreTurns.no_turn before.turns.items before.variables.items first block);
}

fewer : (first value bound : ℤ) (n : ℕ) → value ≡ first +ℤ pos n → value <ℤ bound → n < turns_between first bound
fewer first value bound n at below =
    let low : first <ℤ bound = omega (arith, ints) in
    let whole = some_between first bound low in
    omega (arith, ints)

-- what a turn came to, as the definitions write it
as_counted : (p : Task) (o : Outcome) (turns us : List ℤ) (first value : ℤ) (n : ℕ) (block : List ResolvedStatement) (mid : Worker) (now : Frame) (there : Worker)
    (after : Frame)
    → us ≡ turns → value ≡ first +ℤ pos n → ExecutedIn p (us ++ value ∷ []) block o mid now there after
    → ExecutedIn p (turns ++ (first +ℤ pos n) ∷ []) block o mid now there after
as_counted p o turns us first value n block mid now there after same at h =
    subst (λ (l : List ℤ). ExecutedIn p (l ++ (first +ℤ pos n) ∷ []) block o mid now there after) same
    (subst (λ (v : ℤ). ExecutedIn p (us ++ v ∷ []) block o mid now there after) at h)

-- one turn more
pub made_more : (p : Task) (first value bound next : ℤ) (block : List ResolvedStatement) (here : Worker) (before : Frame) (mid : Worker) (now : Frame)
    (there : Worker) (after : Frame)
    → now.turns.items ≡ before.turns.items → value <ℤ bound → next ≡ value +ℤ pos 1 → TurnsMade p first value bound block here before mid now
    → ExecutedIn p (now.turns.items ++ value ∷ []) block outcome.Done mid now there after → TurnsMade p first next bound block here before there after
made_more p first value bound next block here before mid now there after same below is made turn =
    let r = role_of p in
    let turns = before.turns.items in
    let vs = before.variables.items in
    let n = made.count in
    let less = fewer first value bound n made.at below in
    record {
      count = suc n;
      at = omega (arith, ints, made.at);
      within = omega (arith, less);
      grew =
          grew_on (λ ts. AreTurns r turns vs first block n ts now.variables.items)
          (λ ts. IsPath r (turns ++ (first +ℤ pos n) ∷ []) now.variables.items block ts after.variables.items)
          (λ ts. AreTurns r turns vs first block (suc n) ts after.variables.items) here.desk.log mid.desk.log there.desk.log
          (λ ts more so one. AreTurns.one_turn_more turns vs now.variables.items after.variables.items first block n ts more so one)
          made.grew (as_counted p outcome.Done turns now.turns.items first value n block mid now there after same made.at turn);
    }

-- all of them
pub made_all : (p : Task) (first value bound : ℤ) (block : List ResolvedStatement) (here : Worker) (before : Frame) (there : Worker) (after : Frame)
    → bound ≤ℤ value → TurnsMade p first value bound block here before there after
    → Turned p first block (turns_between first bound) outcome.Done here before there after
made_all p first value bound block here before there after above made =
    subst (λ (n : ℕ). Turned p first block n outcome.Done here before there after) (all_made first value bound made.count above made.at made.within) made.grew
  where
    all_made : (first value bound : ℤ) (n : ℕ) → bound ≤ℤ value → value ≡ first +ℤ pos n → n ≤ turns_between first bound → n ≡ turns_between first bound
    all_made first value bound zero above at within = sym (none_between first bound (omega (arith, ints)))
    all_made first value bound (suc n) above at within = by_lt_z first bound (λ low. let whole = some_between first bound low in omega (arith, ints))
        (λ high. let none = none_between first bound high in omega (arith, ints))

module _ (r : Actor) (turns : List ℤ) (vs ws us : List (Option Held)) (first : ℤ) (block : List ResolvedStatement) (count n : ℕ) (less : n < count) where
  ends_in : (o : Outcome) → (o ≡ outcome.Done → ⊥) → (ts more : List Moment) → AreTurns r turns vs first block n ts ws
      → Ends r o (turns ++ (first +ℤ pos n) ∷ []) ws block more us → EndsTurns r o turns vs first block count (ts ++ more) us
  ends_in outcome.Done other ts more so one = absurd (other refl)
  ends_in (outcome.Error fault) other ts more so one = (n, ws, ts, more, refl, less, so, one)
  ends_in (outcome.Waiting guards) other ts more so one = (n, ws, ts, more, refl, less, so, one)

-- the next one ends otherwise: the `for` does
pub made_stop : (p : Task) (first value bound : ℤ) (block : List ResolvedStatement) (o : Outcome) (here : Worker) (before : Frame) (mid : Worker) (now : Frame)
    (there : Worker) (after : Frame)
    → (o ≡ outcome.Done → ⊥) → now.turns.items ≡ before.turns.items → value <ℤ bound → TurnsMade p first value bound block here before mid now
    → ExecutedIn p (now.turns.items ++ value ∷ []) block o mid now there after → Turned p first block (turns_between first bound) o here before there after
made_stop p first value bound block o here before mid now there after other same below made turn =
    let r = role_of p in
    let turns = before.turns.items in
    let vs = before.variables.items in
    let n = made.count in
    grew_on (λ ts. AreTurns r turns vs first block n ts now.variables.items)
    (λ ts. Ends r o (turns ++ (first +ℤ pos n) ∷ []) now.variables.items block ts after.variables.items)
    (λ ts. EndsTurns r o turns vs first block (turns_between first bound) ts after.variables.items) here.desk.log mid.desk.log there.desk.log
    (ends_in r turns vs now.variables.items after.variables.items first block (turns_between first bound) n (fewer first value bound n made.at below) o other)
    made.grew (as_counted p o turns now.turns.items first value n block mid now there after same made.at turn)

-- the same numbers, as a clause writes them
pub turned_as : (p : Task) (o : Outcome) (block : List ResolvedStatement) (low first high bound : ℤ) (here : Worker) (before : Frame) (there : Worker) (after : Frame)
    → low ≡ first → high ≡ bound → Turned p low block (turns_between low high) o here before there after
    → Turned p first block (turns_between first bound) o here before there after
turned_as p o block low first high bound here before there after low_is high_is h =
    subst (λ (n : ℤ). Turned p n block (turns_between n bound) o here before there after) low_is
    (subst (λ (n : ℤ). Turned p low block (turns_between low n) o here before there after) high_is h)
