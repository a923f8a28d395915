-- What entries of histories bring and send, and the spots where they stand.
use Rattle.std.proofs.Common.{◌≡◌, ℕ, suc, ◌+◌, ◌<◌, ◌≤◌, ◌==◌, Bool, true, false, cond, Option, Some, None, List, [], ◌∷◌, ◌++◌}
use Rattle.std.proofs.Common.{length, map, get_or, take, drop, refl, sym, ap, ◌∙◌, zero-add, arith}
use Rattle.std.specs.Prelude.{slice_get}
use Rattle.std.specs.List.{cons_option}
use Rattle.std.proofs.Math.Seq.{take-suc}
use Rattle.std.proofs.lemmas.List.{get_or-map, length-append, take-append-drop, take-take}
use Rattle.std.proofs.lemmas.List.Elements.{filter_map-append}
use Rattle.std.proofs.lemmas.Option.{slice_get_within, get_or_from_slice_get}
use Rattle.tp_inbox.specs.declared.entry.Entry.{Entry}
use Rattle.tp_inbox.specs.declared.entry.Entry.TheVariants as entry
use Rattle.tp_inbox.specs.History.{is_arrival}
use Rattle.tp_behaviour.specs.Fresh.{LooksAtPorts}
use Rattle.tp_report.specs.declared.report.CompReport.{CompReport}
use Rattle.tp_judge.proofs.NoOrderWhereStuck.{unit}
use Rattle.tp_exec.specs.CausalOrder.{Spot}
use Rattle.tp_exec.specs.OneOrder.{log_in, logs_of, many, source_of, sources}

-- what has come once one more entry is gone by
pub came_on : (k : List Entry) (n : ℕ) (e : Entry) → slice_get k n ≡ Some e → sources (take (n + 1) k) ≡ sources (take n k) ++ cons_option (source_of e) []
came_on k n e at =
    let low : n < length k = slice_get_within k n e at in
    let one : n + 1 ≡ suc n = omega arith in
    let here : get_or k n e ≡ e = get_or_from_slice_get k n e e at in
    ap (λ m. sources (take m k)) one ∙ ap (λ l. sources l) (take-suc k n e low) ∙ ap (λ x. sources (take n k ++ x ∷ [])) here
    ∙ filter_map-append source_of (take n k) (e ∷ [])

came_all : (k : List Entry) (n : ℕ) → sources (take n k) ++ sources (drop n k) ≡ sources k
came_all k n = sym (filter_map-append source_of (take n k) (drop n k)) ∙ ap (λ l. sources l) (take-append-drop n k)

-- how much comes
pub came_grows : (k : List Entry) (n m : ℕ) → n ≤ m → length (sources (take n k)) ≤ length (sources (take m k))
came_grows k n m most =
    let whole = came_all (take m k) n in
    let sizes = length-append (sources (take n (take m k))) (sources (drop n (take m k))) in
    let same = ap (λ l. length (sources l)) (take-take n m k most) in
    omega (arith, ap length whole, sizes, same)

pub own_none : (e : Entry) → is_arrival e ≡ false → source_of e ≡ None
own_none (entry.Arrive p s v) own = absurd (cc)
own_none _ own = refl

pub look_own : (e : Entry) → LooksAtPorts e → is_arrival e ≡ false
look_own (entry.Arrive p t v) look = absurd look
look_own _ look = refl

pub many_sent : (c x : ℕ) (b : Bool) → many x (cons_option (cond b (Some c) None) []) ≡ cond b (unit (c == x)) 0
many_sent c x true = zero-add (unit (c == x))
many_sent c x false = refl

abbrev pub spot : ℕ → ℕ → Spot
spot c p = record { comp = c; place = p }

pub spot_is : (a : Spot) (c p : ℕ) → a.comp ≡ c → a.place ≡ p → a ≡ spot c p
spot_is a c p one two = λ i. record { comp = one i; place = two i }

-- the history of a component
pub log_is : (components : List CompReport) (c : ℕ) (x : CompReport) (log : List Entry) → c < length components → log ≡ (get_or components c x).desk.log
    → log_in (logs_of components) c ≡ log
log_is components c x log low is = get_or-map (λ (y : CompReport). y.desk.log) components c x [] low ∙ sym is
