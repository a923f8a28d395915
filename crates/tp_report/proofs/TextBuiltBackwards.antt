-- Texts that are put together from the end.
use Rattle.std.proofs.Common.{◌≡◌, ℕ, ◌+◌, ◌-◌, ◌≤◌, List, ◌++◌, Option, Some, None, length, take, drop, ap, ◌∙◌, arith}
use Rattle.std.specs.Prelude.{IfSome}
use Rattle.std.proofs.lemmas.List.{append-nil, drop_all, drop_at, drop-drop, length-take-le}
use borrow.Rule.Slice.PartMut.{put_mid}

-- bytes that were put before a place
pub put_before : (start end : ℕ) (old bytes : List ℕ) → start + length bytes ≡ end → end ≤ length old
    → drop start (put_mid start (end - start) old bytes) ≡ bytes ++ drop end old
put_before start end old bytes fits within =
    drop_at (take start old) (bytes ++ drop (end - start) (drop start old)) start (length-take-le start old (omega arith))
    ∙ ap (λ l. bytes ++ l) (drop-drop (end - start) start old ∙ ap (λ k. drop k old) (omega arith))

-- four pieces that were put one before the other, the last at the end
pub all_put : (o : Option ℕ) (empty last third second first : List ℕ) (z y x : ℕ) (a b c d : List ℕ) → length empty ≡ 64
    → (z ≤ 64) × (drop z last ≡ d ++ drop 64 empty)
    → (y ≤ z) × (drop y third ≡ c ++ drop z last)
    → (x ≤ y) × (drop x second ≡ b ++ drop y third)
    → IfSome o (λ s. (s ≤ x) × (drop s first ≡ a ++ drop x second))
    → IfSome o (λ s. (s ≤ 64) × (drop s first ≡ a ++ (b ++ (c ++ d))))
all_put None empty last third second first z y x a b c d long p q r w = tt
all_put (Some s) empty last third second first z y x a b c d long p q r w = (
  omega (arith, p.0, q.0, r.0, w.0),
  w.1 ∙ ap (λ l. a ++ l) (r.1 ∙ ap (λ l. b ++ l) (q.1 ∙ ap (λ l. c ++ l) (p.1 ∙ ap (λ l. d ++ l) (drop_all 64 empty (omega arith)) ∙ append-nil d))),
)
