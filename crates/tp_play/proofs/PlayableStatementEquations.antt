-- What it means that a statement can be played, an equation for each variant, and that a block can be played whose statements can.
use Rattle.std.proofs.Common.{◌≡◌, ℕ, ◌+◌, ◌<◌, ℤ, List, [], ◌∷◌, ◌++◌, None, Some, All, map, refl, sym, ap, ◌∙◌}
use Rattle.std.proofs.lemmas.List.Elements.{All-nil, All-cons}
use Rattle.tp_value.specs.declared.verdict.Verdict.{Verdict}
use Rattle.tp_common.specs.declared.operation.PortOperation.{PortOperation}
use Rattle.tp_play.specs.declared.body.SendOperation.{SendOperation}
use Rattle.tp_play.specs.declared.body.Receiving.{Receiving}
use Rattle.tp_play.specs.declared.body.ResolvedStatement.{ResolvedStatement}
use Rattle.tp_play.specs.declared.body.ResolvedStatement.TheVariants as b
use Rattle.tp_play.specs.declared.body.ResolvedStatement.TheOpen as o
use Rattle.tp_play.specs.declared.body.ResolvedStatement.TheViews.{roll-ResolvedStatement, roll-ResolvedBranch, out-ResolvedBranch, roll-out-ResolvedBranch}
use Rattle.tp_play.specs.declared.body.ResolvedStatement.TheFolds.{map-ResolvedStatement, map-ResolvedBranch, rec-roll-ResolvedStatement, rec-roll-ResolvedBranch}
use Rattle.tp_play.specs.declared.body.ResolvedBranch.{ResolvedBranch}
use Rattle.tp_play.specs.Playable.{Stage, CanSend, CanReceive, Each, statement_plays, branch_plays, CanPlay, CanEnter, CanPlayAll, CanEnterAll}

module _ {X Y : Type 0} (g : X → Y) (k : Y → ℕ → Type 0) where
  Each-map : (n : ℕ) (xs : List X) → Each (λ p. k (g p)) n xs ≡ Each k n (map g xs)
  Each-map n [] = refl
  Each-map n (x ∷ xs) = λ i. k (g x) n × Each-map n xs i

natural : (s : Stage) (X Y : Type 0) (g : X → ResolvedStatement) (h : Y → ResolvedBranch) (k : ResolvedStatement → ℕ → Type 0) (l : ResolvedBranch → ℕ → Type 0) (x : o.ResolvedStatement-F X Y)
    → statement_plays s X Y g h (λ p. k (g p)) (λ p. l (h p)) x
    ≡ statement_plays s ResolvedStatement ResolvedBranch (λ y. y) (λ y. y) k l (map-ResolvedStatement X Y ResolvedStatement ResolvedBranch g h x)
natural s X Y g h k l (o.Send x) = refl
natural s X Y g h k l (o.Receive x) = refl
natural s X Y g h k l (o.Control p x) = refl
natural s X Y g h k l (o.AllPorts x) = refl
natural s X Y g h k l (o.SetVerdict x) = refl
natural s X Y g h k l (o.Alt branches None) = λ i n. Each-map h l n branches i × Unit {0}
natural s X Y g h k l (o.Alt branches (Some block)) = λ i n. Each-map h l n branches i × Each-map g k n block i
natural s X Y g h k l (o.For first bound block) = λ i n. Each-map g k (n + 1) block i

natural_branch : (s : Stage) (X Y : Type 0) (g : X → ResolvedStatement) (h : Y → ResolvedBranch) (k : ResolvedStatement → ℕ → Type 0) (l : ResolvedBranch → ℕ → Type 0) (x : o.ResolvedBranch-F X Y)
    → branch_plays s X Y g h (λ p. k (g p)) (λ p. l (h p)) x ≡ branch_plays s ResolvedStatement ResolvedBranch (λ y. y) (λ y. y) k l (map-ResolvedBranch X Y ResolvedStatement ResolvedBranch g h x)
natural_branch s X Y g h k l x = λ i n. CanReceive s n x.receiving × Each-map g k n x.block i

module _ (s : Stage) (n : ℕ) where
  -- one layer
  play_roll : (x : o.ResolvedStatement-F ResolvedStatement ResolvedBranch)
      → CanPlay s n (roll-ResolvedStatement x) ≡ statement_plays s ResolvedStatement ResolvedBranch (λ y. y) (λ y. y) (λ y m. CanPlay s m y) (λ y m. CanEnter s m y) x n
  unfolding CanPlay CanEnter
  play_roll x = λ i. rec-roll-ResolvedStatement (ℕ → Type 0) (ℕ → Type 0) (statement_plays s) (branch_plays s) (natural s) x i n

  enter_roll : (x : o.ResolvedBranch-F ResolvedStatement ResolvedBranch)
      → CanEnter s n (roll-ResolvedBranch x) ≡ branch_plays s ResolvedStatement ResolvedBranch (λ y. y) (λ y. y) (λ y m. CanPlay s m y) (λ y m. CanEnter s m y) x n
  unfolding CanPlay CanEnter
  enter_roll x = λ i. rec-roll-ResolvedBranch (ℕ → Type 0) (ℕ → Type 0) (statement_plays s) (branch_plays s) (natural_branch s) x i n

  pub play_send : (x : SendOperation) → CanPlay s n (b.Send x) ≡ CanSend s n x
  play_send x = ap (CanPlay s n) (sym (b.rolls-Send x)) ∙ play_roll (o.Send x)

  pub play_receive : (x : Receiving) → CanPlay s n (b.Receive x) ≡ CanReceive s n x
  play_receive x = ap (CanPlay s n) (sym (b.rolls-Receive x)) ∙ play_roll (o.Receive x)

  pub play_control : (k : ℕ) (x : PortOperation) → CanPlay s n (b.Control k x) ≡ (k < s.ports)
  play_control k x = ap (CanPlay s n) (sym (b.rolls-Control k x)) ∙ play_roll (o.Control k x)

  pub play_all_ports : (x : PortOperation) → CanPlay s n (b.AllPorts x) ≡ Unit {0}
  play_all_ports x = ap (CanPlay s n) (sym (b.rolls-AllPorts x)) ∙ play_roll (o.AllPorts x)

  pub play_set_verdict : (x : Verdict) → CanPlay s n (b.SetVerdict x) ≡ Unit {0}
  play_set_verdict x = ap (CanPlay s n) (sym (b.rolls-SetVerdict x)) ∙ play_roll (o.SetVerdict x)

  pub play_alt : (xs : List ResolvedBranch) → CanPlay s n (b.Alt xs None) ≡ (CanEnterAll s n xs × Unit {0})
  play_alt xs = ap (CanPlay s n) (sym (b.rolls-Alt xs None)) ∙ play_roll (o.Alt xs None)

  pub play_alt_else : (xs : List ResolvedBranch) (block : List ResolvedStatement) → CanPlay s n (b.Alt xs (Some block)) ≡ (CanEnterAll s n xs × CanPlayAll s n block)
  play_alt_else xs block = ap (CanPlay s n) (sym (b.rolls-Alt xs (Some block))) ∙ play_roll (o.Alt xs (Some block))

  pub play_for : (first bound : ℤ) (block : List ResolvedStatement) → CanPlay s n (b.For first bound block) ≡ CanPlayAll s (n + 1) block
  play_for first bound block = ap (CanPlay s n) (sym (b.rolls-For first bound block)) ∙ play_roll (o.For first bound block)

  pub enter_branch : (x : ResolvedBranch) → CanEnter s n x ≡ (CanReceive s n x.receiving × CanPlayAll s n x.block)
  enter_branch x = ap (CanEnter s n) (sym (roll-out-ResolvedBranch x)) ∙ enter_roll (out-ResolvedBranch x)

module _ {X : Type 0} (can : X → ℕ → Type 0) (n : ℕ) where
  -- a list and one more
  pub Each-push : (xs : List X) (y : X) → Each can n xs → can y n → Each can n (xs ++ y ∷ [])
  Each-push [] y h one = (one, tt)
  Each-push (x ∷ xs) y h one = (h.0, Each-push xs y h.1 one)

  -- each of them is all of them
  pub Each-all : (xs : List X) → Each can n xs → All (λ x. can x n) xs
  Each-all [] h = All-nil (λ x. can x n)
  Each-all (x ∷ xs) h = All-cons (λ x. can x n) x xs h.0 (Each-all xs h.1)
