-- What a reader gave, read by read, and the room for it.
use Rattle.std.proofs.Common.{◌≡◌, ◌≢◌, ℕ, suc, ◌+◌, ◌*◌, ◌^◌, ◌≤◌, min, Bool, true, false, if◌then◌else◌, ◌⊎◌, inl, inr, Option, Some, List, ◌++◌, take, drop, refl, sym, ap, subst, ◌∙◌, arith}
use Rattle.std.specs.Io.KnownBytes.{Consumes}
use Rattle.std.proofs.KnownBytes.{Consumes-trans}
use Rattle.std.proofs.Math.Seq.{take-add}
use Rattle.std.proofs.Math.Nat.{eq-or-lt_of_le, mul_assoc, pow-suc}
use Rattle.tp_common.specs.declared.text.ReadFault.{ReadFault}
use Rattle.tp_common.specs.declared.text.ReadFault.TheVariants as read
use Rattle.tp_common.specs.Reading.{EndsAt, IsCapacity, IsRoom}

-- a read behind the bytes that were taken took more
pub taken_more : (a b c : Option (List ℕ)) (old new : List ℕ) (size count : ℕ) → Consumes a b (take size old) → take size new ≡ take size old
    → Consumes b c (take count (drop size new)) → Consumes a c (take (size + count) new)
taken_more a b c old new size count before front more =
    subst (Consumes a c) (sym (take-add size count new ∙ ap (λ l. l ++ take count (drop size new)) front)) (Consumes-trans a b c _ _ before more)

-- the lesser of a number and the greatest room
within_or_most : (n most : ℕ) → (min n most ≡ n) ⊎ (min n most ≡ most)
within_or_most n most =
    let within : min n most ≤ most = omega arith in
    elim (eq-or-lt_of_le within) [ inl long ↦ inr long | inr short ↦ inl (omega (arith, short)) ]

least_room : (limit n more : ℕ) → IsCapacity n → more ≡ min n (limit + 1) → IsRoom limit more
least_room limit n more full is =
    elim (within_or_most n (limit + 1)) [ inl short ↦ inl (subst IsCapacity (sym (is ∙ short)) full) | inr long ↦ inr (is ∙ long) ]

-- the first room
pub first_room : (limit more : ℕ) → more ≡ min 8192 (limit + 1) → IsRoom limit more
first_room limit more is = least_room limit 8192 more (inr (0, refl)) is

-- a room that is full, doubled
pub doubled_room : (limit size more : ℕ) → size ≤ limit → (size ≡ 0 → ⊥) → IsRoom limit size → more ≡ min (size * 2) (limit + 1) → IsRoom limit more
doubled_room limit size more few some (inl (inl none)) is = absurd (some none)
doubled_room limit size more few some (inl (inr full)) is =
    least_room limit (size * 2) more
    (inr (suc full.0, ap (λ n. n * 2) full.1 ∙ mul_assoc 8192 (2 ^ full.0) 2 ∙ ap (λ n. 8192 * n) (sym (pow-suc 2 full.0)))) is
doubled_room limit size more few some (inr long) is = absurd (omega arith)

-- the room after growing, or after memory ran out
pub either_room : (limit : ℕ) (is_grown : Bool) (more size : ℕ) → IsRoom limit more → IsRoom limit size → IsRoom limit (if is_grown then more else size)
either_room limit true more size grown kept = grown
either_room limit false more size grown kept = kept

-- an end that isn't the limit
pub ends_before : (limit : ℕ) (fault : ReadFault) (size : ℕ) → size ≤ limit → fault ≢ read.Limit → (fault ≡ read.Memory → IsCapacity size)
    → EndsAt limit (Some fault) size
ends_before limit read.Read size few other full = few
ends_before limit read.Limit size few other full = absurd (other refl)
ends_before limit read.Memory size few other full = (few, full refl)
