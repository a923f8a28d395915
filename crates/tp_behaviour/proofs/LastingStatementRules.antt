-- What lasts of a statement or a branch, an equation for each variant, and rules on statements that are known by an equation.
use Rattle.std.proofs.Common.{◌≡◌, ◌+◌, ◌<◌, ℕ, ℤ, List, [], ◌∷◌, ◌++◌, ◌≤◌, zero, suc, length, take, get_or, subst, arith, None, Some, Option, map, refl, sym, ap, ◌∙◌}
use Rattle.std.specs.List.{AllZip}
use Rattle.std.proofs.lemmas.List.{take_all, take_more}
use Rattle.std.proofs.lemmas.Slice.Zip.{AllZip-long, all_zipped_more}
use Rattle.tp_value.specs.declared.verdict.Verdict.{Verdict}
use Rattle.tp_common.specs.declared.operation.PortOperation.{PortOperation}
use Rattle.tp_play.specs.declared.body.SendOperation.{SendOperation}
use Rattle.tp_play.specs.declared.body.Receiving.{Receiving}
use Rattle.tp_play.specs.declared.body.ResolvedStatement.{ResolvedStatement}
use Rattle.tp_play.specs.declared.body.ResolvedStatement.TheVariants as b
use Rattle.tp_play.specs.declared.body.ResolvedStatement.TheOpen as o
use Rattle.tp_play.specs.declared.body.ResolvedStatement.TheViews.{roll-ResolvedStatement, roll-ResolvedBranch, out-ResolvedBranch, roll-out-ResolvedBranch}
use Rattle.tp_play.specs.declared.body.ResolvedStatement.TheFolds.{map-ResolvedStatement, map-ResolvedBranch, rec-roll-ResolvedStatement, rec-roll-ResolvedBranch}
use Rattle.tp_play.specs.declared.body.ResolvedBranch.{ResolvedBranch}
use Rattle.tp_value.specs.declared.message.MsgTemplate.{MsgTemplate}
use Rattle.tp_behaviour.specs.declared.lasting.Lasting.{Lasting, out-Lasting}
use Rattle.tp_behaviour.specs.declared.lasting.Lasting.TheViews.{out-roll-Lasting, roll-Lasting}
use Rattle.tp_behaviour.specs.Lasting.{AreLasting, AreLastingBranches, IsLasting, IsLastingBranch, IsLastingElse, IsWantedAlways, branch_lasts, statement_lasts}

module _ {X Y : Type 0} (g : X → Y) (k : Y → Lasting → Type 0) where
  zipped-map : (xs : List X) (kept : List Lasting) → AllZip (λ p. k (g p)) xs kept ≡ AllZip k (map g xs) kept
  zipped-map [] [] = refl
  zipped-map [] (l ∷ ls) = refl
  zipped-map (x ∷ xs) [] = refl
  zipped-map (x ∷ xs) (l ∷ ls) = λ i. k (g x) l × zipped-map xs ls i

natural : (X Y : Type 0) (g : X → ResolvedStatement) (h : Y → ResolvedBranch) (k : ResolvedStatement → Lasting → Type 0) (l : ResolvedBranch → Lasting → Type 0) (x : o.ResolvedStatement-F X Y)
    → statement_lasts X Y g h (λ p. k (g p)) (λ p. l (h p)) x ≡ statement_lasts ResolvedStatement ResolvedBranch (λ y. y) (λ y. y) k l
    (map-ResolvedStatement X Y ResolvedStatement ResolvedBranch g h x)
natural X Y g h k l (o.Send x) = refl
natural X Y g h k l (o.Receive x) = refl
natural X Y g h k l (o.Control p x) = refl
natural X Y g h k l (o.AllPorts x) = refl
natural X Y g h k l (o.SetVerdict x) = refl
natural X Y g h k l (o.Alt branches None) = λ i kept. zipped-map h l branches (out-Lasting kept).branches i × Unit {0}
natural X Y g h k l (o.Alt branches (Some block)) = λ i kept. zipped-map h l branches (out-Lasting kept).branches i
    × zipped-map g k block (out-Lasting kept).block i
natural X Y g h k l (o.For first bound block) = λ i kept. zipped-map g k block (out-Lasting kept).block i

natural_branch : (X Y : Type 0) (g : X → ResolvedStatement) (h : Y → ResolvedBranch) (k : ResolvedStatement → Lasting → Type 0) (l : ResolvedBranch → Lasting → Type 0) (x : o.ResolvedBranch-F X Y)
    → branch_lasts X Y g h (λ p. k (g p)) (λ p. l (h p)) x ≡ branch_lasts ResolvedStatement ResolvedBranch (λ y. y) (λ y. y) k l (map-ResolvedBranch X Y ResolvedStatement ResolvedBranch g h x)
natural_branch X Y g h k l x = λ i kept. IsWantedAlways x.receiving.wanted (out-Lasting kept).wanted × zipped-map g k x.block (out-Lasting kept).block i

module _ (kept : Lasting) where
  -- one layer
  lasting_roll : (x : o.ResolvedStatement-F ResolvedStatement ResolvedBranch) → IsLasting (roll-ResolvedStatement x) kept ≡ statement_lasts ResolvedStatement ResolvedBranch (λ y. y)
      (λ y. y) IsLasting IsLastingBranch x kept
  unfolding IsLasting IsLastingBranch
  lasting_roll x = λ i. rec-roll-ResolvedStatement (Lasting → Type 0) (Lasting → Type 0) statement_lasts branch_lasts natural x i kept

  branch_roll : (x : o.ResolvedBranch-F ResolvedStatement ResolvedBranch) → IsLastingBranch (roll-ResolvedBranch x) kept ≡ branch_lasts ResolvedStatement ResolvedBranch (λ y. y)
      (λ y. y) IsLasting IsLastingBranch x kept
  unfolding IsLasting IsLastingBranch
  branch_roll x = λ i. rec-roll-ResolvedBranch (Lasting → Type 0) (Lasting → Type 0) statement_lasts branch_lasts natural_branch x i kept

  at : (x : ResolvedStatement) (y : o.ResolvedStatement-F ResolvedStatement ResolvedBranch) → roll-ResolvedStatement y ≡ x → IsLasting x kept ≡ statement_lasts ResolvedStatement ResolvedBranch (λ z. z)
      (λ z. z) IsLasting IsLastingBranch y kept
  at x y e = ap (λ z. IsLasting z kept) (sym e) ∙ lasting_roll y

  pub lasting_send : (x : SendOperation) → IsLasting (b.Send x) kept ≡ Unit {0}
  lasting_send x = at (b.Send x) (o.Send x) (b.rolls-Send x)

  pub lasting_receive : (x : Receiving) → IsLasting (b.Receive x) kept ≡ IsWantedAlways x.wanted (out-Lasting kept).wanted
  lasting_receive x = at (b.Receive x) (o.Receive x) (b.rolls-Receive x)

  pub lasting_control : (k : ℕ) (x : PortOperation) → IsLasting (b.Control k x) kept ≡ Unit {0}
  lasting_control k x = at (b.Control k x) (o.Control k x) (b.rolls-Control k x)

  pub lasting_all_ports : (x : PortOperation) → IsLasting (b.AllPorts x) kept ≡ Unit {0}
  lasting_all_ports x = at (b.AllPorts x) (o.AllPorts x) (b.rolls-AllPorts x)

  pub lasting_set_verdict : (x : Verdict) → IsLasting (b.SetVerdict x) kept ≡ Unit {0}
  lasting_set_verdict x = at (b.SetVerdict x) (o.SetVerdict x) (b.rolls-SetVerdict x)

  pub lasting_alt : (xs : List ResolvedBranch) (otherwise : Option (List ResolvedStatement))
      → IsLasting (b.Alt xs otherwise) kept ≡ (AreLastingBranches xs (out-Lasting kept).branches × IsLastingElse otherwise (out-Lasting kept).block)
  lasting_alt xs otherwise = at (b.Alt xs otherwise) (o.Alt xs otherwise) (b.rolls-Alt xs otherwise)

  pub lasting_for : (first bound : ℤ) (block : List ResolvedStatement) → IsLasting (b.For first bound block) kept ≡ AreLasting block (out-Lasting kept).block
  lasting_for first bound block = at (b.For first bound block) (o.For first bound block) (b.rolls-For first bound block)

  pub lasting_branch : (x : ResolvedBranch)
      → IsLastingBranch x kept ≡ (IsWantedAlways x.receiving.wanted (out-Lasting kept).wanted × AreLasting x.block (out-Lasting kept).block)
  lasting_branch x = ap (λ y. IsLastingBranch y kept) (sym (roll-out-ResolvedBranch x)) ∙ branch_roll (out-ResolvedBranch x)

-- one more
module _ {X : Type 0} (p : X → Lasting → Type 0) (xs : List X) where
  pub zipped_more : (i : ℕ) (x : X) (ls : List Lasting) (l : Lasting) → i < length xs → x ≡ get_or xs i x → AllZip p (take i xs) ls → p x l
      → AllZip p (take (i + 1) xs) (ls ++ l ∷ [])
  zipped_more i x ls l below is h one =
      subst (λ ys. AllZip p ys (ls ++ l ∷ [])) (ap (λ y. take i xs ++ y ∷ []) is ∙ sym (take_more xs i x below)) (all_zipped_more p (take i xs) ls x l h one)

  pub zipped_all : (i : ℕ) (ls : List Lasting) → length xs ≤ i → AllZip p (take i xs) ls → AllZip p xs ls
  zipped_all i ls past h = subst (λ ys. AllZip p ys ls) (take_all i xs past) h

-- the one at a place
pub zipped_get : {X : Type 0} (p : X → Lasting → Type 0) (xs : List X) (ls : List Lasting) (i : ℕ) (d : X) (e : Lasting) → AllZip p xs ls → i < length xs
    → p (get_or xs i d) (get_or ls i e)
zipped_get p [] ls i d e h below = absurd (omega (arith, below))
zipped_get p (x ∷ xs) [] i d e h below = absurd h
zipped_get p (x ∷ xs) (l ∷ ls) zero d e h below = h.0
zipped_get p (x ∷ xs) (l ∷ ls) (suc i) d e h below = zipped_get p xs ls i d e h.1 (omega (arith, below))

-- there are as many
pub zipped_long : {X : Type 0} (p : X → Lasting → Type 0) (xs : List X) (ls : List Lasting) → AllZip p xs ls → length ls ≡ length xs
zipped_long p xs ls h = AllZip-long p xs ls h

-- what was made lasts of a branch
abbrev made_lasting : Option MsgTemplate → List Lasting → List Lasting → Lasting
made_lasting wanted branches block = roll-Lasting (record { wanted = wanted; branches = branches; block = block })

module _ (w : Option MsgTemplate) (bs ls : List Lasting) where
  inside : out-Lasting (made_lasting w bs ls) ≡ record { wanted = w; branches = bs; block = ls }
  inside = out-roll-Lasting (record { wanted = w; branches = bs; block = ls })

  pub make_branch : (x : ResolvedBranch) → IsWantedAlways x.receiving.wanted w → AreLasting x.block ls → IsLastingBranch x (made_lasting w bs ls)
  make_branch x first block =
      subst (λ (P : Type 0). P)
      (sym (lasting_branch (made_lasting w bs ls) x ∙ (λ i. IsWantedAlways x.receiving.wanted (inside i).wanted × AreLasting x.block (inside i).block)))
      (first, block)

-- of a statement, by what it is
module _ (x : ResolvedStatement) (w : Option MsgTemplate) (bs ls : List Lasting) where
  kind_of : (P : Type 0) (y : ResolvedStatement) → x ≡ y → IsLasting y (made_lasting w bs ls) ≡ P → P → IsLasting x (made_lasting w bs ls)
  kind_of P y e is h = subst (λ z. IsLasting z (made_lasting w bs ls)) (sym e) (subst (λ (Q : Type 0). Q) (sym is) h)

  pub make_receive : (y : Receiving) → x ≡ b.Receive y → IsWantedAlways y.wanted w → IsLasting x (made_lasting w bs ls)
  make_receive y e h = kind_of (IsWantedAlways y.wanted w) (b.Receive y) e (lasting_receive (made_lasting w bs ls) y ∙ (λ i. IsWantedAlways y.wanted (inside w bs ls i).wanted)) h

  pub make_alt : (branches : List ResolvedBranch) (otherwise : Option (List ResolvedStatement)) → x ≡ b.Alt branches otherwise → AreLastingBranches branches bs
      → IsLastingElse otherwise ls
      → IsLasting x (made_lasting w bs ls)
  make_alt branches otherwise e each block =
      kind_of (AreLastingBranches branches bs × IsLastingElse otherwise ls) (b.Alt branches otherwise) e
      (lasting_alt (made_lasting w bs ls) branches otherwise
      ∙ (λ i. AreLastingBranches branches (inside w bs ls i).branches × IsLastingElse otherwise (inside w bs ls i).block)) (each, block)

  pub make_for : (first bound : ℤ) (block : List ResolvedStatement) → x ≡ b.For first bound block → AreLasting block ls → IsLasting x (made_lasting w bs ls)
  make_for first bound block e h =
      kind_of (AreLasting block ls) (b.For first bound block) e
      (lasting_for (made_lasting w bs ls) first bound block ∙ (λ i. AreLasting block (inside w bs ls i).block)) h

-- whatever lasts of a statement in which none is received
module _ (x : ResolvedStatement) (kept : Lasting) where
  pub make_send : (y : SendOperation) → x ≡ b.Send y → IsLasting x kept
  make_send y e = subst (λ z. IsLasting z kept) (sym e) (subst (λ (P : Type 0). P) (sym (lasting_send kept y)) tt)

  pub make_control : (k : ℕ) (y : PortOperation) → x ≡ b.Control k y → IsLasting x kept
  make_control k y e = subst (λ z. IsLasting z kept) (sym e) (subst (λ (P : Type 0). P) (sym (lasting_control kept k y)) tt)

  pub make_all_ports : (y : PortOperation) → x ≡ b.AllPorts y → IsLasting x kept
  make_all_ports y e = subst (λ z. IsLasting z kept) (sym e) (subst (λ (P : Type 0). P) (sym (lasting_all_ports kept y)) tt)

  pub make_set_verdict : (y : Verdict) → x ≡ b.SetVerdict y → IsLasting x kept
  make_set_verdict y e = subst (λ z. IsLasting z kept) (sym e) (subst (λ (P : Type 0). P) (sym (lasting_set_verdict kept y)) tt)

-- of a branch
pub lasts_operation : (x : ResolvedBranch) (kept : Lasting) → IsLastingBranch x kept → IsWantedAlways x.receiving.wanted (out-Lasting kept).wanted
lasts_operation x kept h = (rw lasting_branch at h).0

pub lasts_block : (x : ResolvedBranch) (kept : Lasting) → IsLastingBranch x kept → AreLasting x.block (out-Lasting kept).block
lasts_block x kept h = (rw lasting_branch at h).1

-- of a statement that is known by an equation
module _ (x : ResolvedStatement) (kept : Lasting) where
  pub lasts_receive : (y : Receiving) → x ≡ b.Receive y → IsLasting x kept → IsWantedAlways y.wanted (out-Lasting kept).wanted
  lasts_receive y e h = rw (e, lasting_receive) at h

  pub lasts_alt : (branches : List ResolvedBranch) (otherwise : Option (List ResolvedStatement)) → x ≡ b.Alt branches otherwise → IsLasting x kept
      → AreLastingBranches branches (out-Lasting kept).branches
  lasts_alt branches otherwise e h = (rw (e, lasting_alt) at h).0

  pub lasts_else : (branches : List ResolvedBranch) (block : List ResolvedStatement) → x ≡ b.Alt branches (Some block) → IsLasting x kept
      → AreLasting block (out-Lasting kept).block
  lasts_else branches block e h = (rw (e, lasting_alt) at h).1

  pub lasts_for : (first bound : ℤ) (block : List ResolvedStatement) → x ≡ b.For first bound block → IsLasting x kept → AreLasting block (out-Lasting kept).block
  lasts_for first bound block e h = rw (e, lasting_for) at h
