-- How many demands a number waits for.
use Rattle.std.specs.Prelude.{◌≡◌, ℕ, zero, suc, ◌+◌, ◌<◌, ◌==◌, ◌&&◌, Bool, cond, List, length, slice_index}
use Rattle.tp_judge.specs.declared.demand.Demand.{Demand}
use Rattle.tp_judge.specs.Places.{after_at}

-- how many numbers below n pass the test
abbrev pub count_below : (ℕ → Bool) → ℕ → ℕ
count_below test zero = 0
count_below test (suc n) = count_below test n + cond (test n) 1 0

-- how many demands have this second number, of those at the places for which `left` is true
abbrev pub waits_of : List Demand → (ℕ → Bool) → ℕ → ℕ
waits_of demands left x = count_below (λ k. left k && (after_at demands k == x)) (length demands)

-- for each number of the table, how many of the demands that are left have this second number
abbrev pub AreWaits : List Demand → (ℕ → Bool) → List ℕ → Type 0
AreWaits demands left waits =
    (x : ℕ) → x < length waits → slice_index waits x ≡ waits_of demands left x
