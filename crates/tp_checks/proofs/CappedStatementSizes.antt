-- The sizes of statements, and sums and products of capped numbers.
use Rattle.std.proofs.Common.{◌≡◌, ℕ, zero, suc, ◌+◌, ◌*◌, ◌<◌, ◌≤◌, ◌⊎◌, inl, inr, ℤ, List, Some, None, sym, ap, ◌∙◌, arith}
use Rattle.std.proofs.lemmas.Bool.{cases_lt}
use Rattle.tp_value.specs.declared.verdict.Verdict.{Verdict}
use Rattle.tp_common.specs.declared.operation.PortOperation.{PortOperation}
use Rattle.tp_play.specs.Sizes.{size_limit, capped, turns_between, statement_step, branch_step, size_of, size_in, size_of_all, size_in_all}
use Rattle.tp_play.specs.declared.body.{SendOperation.SendOperation, Receiving.Receiving, ResolvedStatement.ResolvedStatement}
use Rattle.tp_play.specs.declared.body.ResolvedStatement.TheFolds.{fold-roll-ResolvedStatement, fold_out-ResolvedBranch}
use Rattle.tp_play.specs.declared.body.ResolvedBranch.{ResolvedBranch}
use Rattle.tp_play.specs.declared.body.ResolvedStatement.TheVariants as s
use Rattle.tp_play.specs.declared.body.ResolvedStatement.TheOpen as o

pub cap_below : (n : ℕ) → n < size_limit → capped n ≡ n
cap_below n lt = grind (arith, lt)

pub cap_above : (n : ℕ) → size_limit ≤ n → capped n ≡ size_limit
cap_above n le = grind (arith, le)

pub cap_add : (a b : ℕ) → capped (capped a + capped b) ≡ capped (a + b)
cap_add a b = grind arith

pub cap_one : (a : ℕ) → capped (1 + capped a) ≡ capped (1 + a)
cap_one a = grind arith

pub cap_one_and_two : (a b : ℕ) → capped (1 + capped a + capped b) ≡ capped (1 + (a + b))
cap_one_and_two a b = grind arith

pub size_send : (x : SendOperation) → size_of (s.Send x) ≡ 1
unfolding size_of
size_send x = ap size_of (sym (s.rolls-Send x)) ∙ fold-roll-ResolvedStatement ℕ ℕ statement_step branch_step (o.Send x)

pub size_receive : (x : Receiving) → size_of (s.Receive x) ≡ 1
unfolding size_of
size_receive x = ap size_of (sym (s.rolls-Receive x)) ∙ fold-roll-ResolvedStatement ℕ ℕ statement_step branch_step (o.Receive x)

pub size_control : (k : ℕ) (x : PortOperation) → size_of (s.Control k x) ≡ 1
unfolding size_of
size_control k x = ap size_of (sym (s.rolls-Control k x)) ∙ fold-roll-ResolvedStatement ℕ ℕ statement_step branch_step (o.Control k x)

pub size_all_ports : (x : PortOperation) → size_of (s.AllPorts x) ≡ 1
unfolding size_of
size_all_ports x = ap size_of (sym (s.rolls-AllPorts x)) ∙ fold-roll-ResolvedStatement ℕ ℕ statement_step branch_step (o.AllPorts x)

pub size_set_verdict : (x : Verdict) → size_of (s.SetVerdict x) ≡ 1
unfolding size_of
size_set_verdict x = ap size_of (sym (s.rolls-SetVerdict x)) ∙ fold-roll-ResolvedStatement ℕ ℕ statement_step branch_step (o.SetVerdict x)

pub size_alt : (bs : List ResolvedBranch) → size_of (s.Alt bs None) ≡ 1 + (size_in_all bs + 0)
unfolding size_of size_in
size_alt bs = ap size_of (sym (s.rolls-Alt bs None)) ∙ fold-roll-ResolvedStatement ℕ ℕ statement_step branch_step (o.Alt bs None)

pub size_alt_else : (bs : List ResolvedBranch) (e : List ResolvedStatement) → size_of (s.Alt bs (Some e)) ≡ 1 + (size_in_all bs + size_of_all e)
unfolding size_of size_in
size_alt_else bs e = ap size_of (sym (s.rolls-Alt bs (Some e))) ∙ fold-roll-ResolvedStatement ℕ ℕ statement_step branch_step (o.Alt bs (Some e))

pub size_for : (first bound : ℤ) (block : List ResolvedStatement) → size_of (s.For first bound block) ≡ 1 + turns_between first bound * size_of_all block
unfolding size_of size_in
size_for first bound block = ap size_of (sym (s.rolls-For first bound block)) ∙ fold-roll-ResolvedStatement ℕ ℕ statement_step branch_step (o.For first bound block)

pub size_branch : (x : ResolvedBranch) → size_in x ≡ size_of_all x.block
unfolding size_of size_in
size_branch x = fold_out-ResolvedBranch ℕ ℕ statement_step branch_step x

pub ruleset laws =
    (size_send, size_receive, size_control, size_all_ports, size_set_verdict, size_alt, size_alt_else, size_branch, cap_add, cap_one, cap_one_and_two)

zero_left : (n : ℕ) → 0 * n ≡ 0
zero_left n = omega arith

zero_right : (n : ℕ) → n * 0 ≡ 0
zero_right n = omega arith

large_right : (p q : ℕ) → size_limit ≤ q → size_limit ≤ suc p * q
large_right p q h =
    let parts : suc p * q ≡ q + p * q = omega arith in
    omega (arith, parts, h)

large_left : (p q : ℕ) → size_limit ≤ p → size_limit ≤ p * suc q
large_left p q h =
    let parts : p * suc q ≡ p + p * q = omega arith in
    omega (arith, parts, h)

large : size_limit ≤ size_limit
large = omega arith

-- a product, where each factor is a number of which more than 100,000 is one number
pub cap_product : (a b : ℕ) → capped (capped a * capped b) ≡ capped (a * b)
cap_product zero b = ap capped (zero_left (capped b) ∙ sym (zero_left b))
cap_product (suc a) zero = ap capped (zero_right (capped (suc a)) ∙ sym (zero_right (suc a)))
cap_product (suc a) (suc b) = by (cases_lt (suc a) size_limit) (cases_lt (suc b) size_limit) where
  by : (suc a < size_limit) ⊎ (size_limit ≤ suc a) → (suc b < size_limit) ⊎ (size_limit ≤ suc b) → capped (capped (suc a) * capped (suc b)) ≡ capped (suc a * suc b)
  by (inl x) (inl y) = ap (λ z. capped (z * capped (suc b))) (cap_below (suc a) x) ∙ ap (λ z. capped (suc a * z)) (cap_below (suc b) y)
  by (inl x) (inr y) = ap (λ z. capped (z * capped (suc b))) (cap_below (suc a) x) ∙ ap (λ z. capped (suc a * z)) (cap_above (suc b) y)
      ∙ cap_above (suc a * size_limit) (large_right a size_limit large) ∙ sym (cap_above (suc a * suc b) (large_right a (suc b) y))
  by (inr x) (inl y) = ap (λ z. capped (z * capped (suc b))) (cap_above (suc a) x) ∙ ap (λ z. capped (size_limit * z)) (cap_below (suc b) y)
      ∙ cap_above (size_limit * suc b) (large_left size_limit b large) ∙ sym (cap_above (suc a * suc b) (large_left (suc a) b x))
  by (inr x) (inr y) = ap (λ z. capped (z * capped (suc b))) (cap_above (suc a) x) ∙ ap (λ z. capped (size_limit * z)) (cap_above (suc b) y)
      ∙ cap_above (size_limit * size_limit) (omega arith) ∙ sym (cap_above (suc a * suc b) (large_left (suc a) b x))
