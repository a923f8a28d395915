-- The tests decide the causes of a refused create, and what the other causes are made of.
use Rattle.std.proofs.Common.{◌≡◌, ℕ, zero, suc, ◌<◌, Bool, true, ◌&&◌, ◌||◌, ◌==◌, ◌⊎◌, inl, inr, List, [], ◌∷◌, length, map, ◌≤◌, nat_le, get_or, refl, ap, sym, ◌∙◌, subst, arith}
use Rattle.std.specs.Prelude.{All, Contains}
use Rattle.std.specs.Bool.{Decides}
use Rattle.std.specs.List.{list_any, list_all}
use Rattle.std.proofs.lemmas.Bool.Decides.{Decides-eqb, Decides-and, Decides-or, Decides-like, Decides-at}
use Rattle.std.proofs.lemmas.Bool.{leb-true, le-leb}
use Rattle.std.proofs.lemmas.List.Elements.{All-cons, All-head, All-tail, All-nil}
use Rattle.tp_value.specs.declared.types.Ty.{Ty}
use Rattle.tp_value.specs.declared.types.Ty.TheVariants.{Integer, Boolean, Charstring, Named}
use Rattle.tp_config.specs.declared.port_type.PortRef.{PortRef}
use Rattle.tp_config.specs.Types.{same_type}
use Rattle.tp_config.specs.Pairs.{same_port}
use Rattle.std.specs.Str.{bytes_eq}
use Rattle.std.proofs.lemmas.Slice.Eq.{bytes_eq-Decides}
use Rattle.tp_config.specs.Setup.{Setup, Member, is_system_member, ins, outs}
use Rattle.tp_config.specs.Allowed.{Directed}
use Rattle.tp_config.specs.declared.creating.CreateFault.{CreateFault}
use Rattle.tp_config.specs.declared.creating.CreateFault.TheVariants as trouble
use Rattle.tp_config.specs.Causes.{CreateCause, HasSystem}
use Rattle.tp_config.specs.Tests.{are_among, create_test, has_name, has_system}

-- some element has P, by recursion
module _ {X : Type 0} where
  pub Contains-here : (x : X) (xs : List X) → Contains (x ∷ xs) x
  Contains-here x xs = (0, omega arith, refl)

  pub Contains-later : (x y : X) (xs : List X) → Contains xs x → Contains (y ∷ xs) x
  Contains-later x y xs h = (suc h.0, omega (arith, h.1), h.2)

  pub Contains-split : (x y : X) (xs : List X) (k : ℕ) → k < length (y ∷ xs) → get_or (y ∷ xs) k x ≡ x → (y ≡ x) ⊎ Contains xs x
  Contains-split x y xs zero n e = inl e
  Contains-split x y xs (suc k) n e = inr (k, omega arith, e)

  -- the test by recursion decides whether an element of the list has P
  pub any_decides : (test : X → Bool) (P : X → Type 0) → ((x : X) → Decides (test x) (P x)) → (xs : List X)
      → Decides (list_any test xs) ((x : X) × Contains xs x × P x)
  any_decides test P each [] = (λ e. absurd (cc), λ w. absurd (omega (arith, w.1.1)))
  any_decides test P each (x ∷ xs) =
      let rest : Decides (list_any test xs) ((y : X) × Contains xs y × P y) = any_decides test P each xs in
      Decides-like (test x || list_any test xs) (λ s. elim s [ inl p ↦ (x, Contains-here x xs, p) | inr w ↦ (w.0, Contains-later w.0 x xs w.1, w.2) ])
      (λ w. elim (Contains-split w.0 x xs w.1.0 w.1.1 w.1.2) [ inl e ↦ inl (subst P (sym e) w.2) | inr h ↦ inr (w.0, h, w.2) ])
      (Decides-or (test x) (list_any test xs) (each x) rest)

  pub all_decides : (test : X → Bool) (P : X → Type 0) → ((x : X) → Decides (test x) (P x)) → (xs : List X) → Decides (list_all test xs) (All P xs)
  all_decides test P each [] = (λ e. All-nil P, λ a. refl)
  all_decides test P each (x ∷ xs) =
      Decides-like (test x && list_all test xs) (λ (w : P x × All P xs). All-cons P x xs w.0 w.1) (λ a. (All-head P x xs a, All-tail P x xs a))
      (Decides-and (test x) (list_all test xs) (each x) (all_decides test P each xs))

port_at : ℕ → ℕ → PortRef
port_at i j = record { comp = record { 0 = i }; port = j }

pub port_decides : (p q : PortRef) → Decides (same_port p q) (p ≡ q)
unfolding port_at
port_decides p q =
    Decides-like (same_port p q) (λ (w : (p.comp.0 ≡ q.comp.0) × (p.port ≡ q.port)). ap (λ i. port_at i p.port) w.0 ∙ ap (port_at q.comp.0) w.1)
    (λ e. (ap (λ (x : PortRef). x.comp.0) e, ap (λ (x : PortRef). x.port) e))
    (Decides-and (p.comp.0 == q.comp.0) (p.port == q.port) (Decides-eqb p.comp.0 q.comp.0) (Decides-eqb p.port q.port))

pub type_decides : (x y : Ty) → Decides (same_type x y) (x ≡ y)
type_decides Integer Integer = (λ _. refl, λ _. refl)
type_decides Integer Boolean = (λ e. absurd (cc), λ e. absurd (cc))
type_decides Integer Charstring = (λ e. absurd (cc), λ e. absurd (cc))
type_decides Integer (Named n) = (λ e. absurd (cc), λ e. absurd (cc))
type_decides Boolean Integer = (λ e. absurd (cc), λ e. absurd (cc))
type_decides Boolean Boolean = (λ _. refl, λ _. refl)
type_decides Boolean Charstring = (λ e. absurd (cc), λ e. absurd (cc))
type_decides Boolean (Named n) = (λ e. absurd (cc), λ e. absurd (cc))
type_decides Charstring Integer = (λ e. absurd (cc), λ e. absurd (cc))
type_decides Charstring Boolean = (λ e. absurd (cc), λ e. absurd (cc))
type_decides Charstring Charstring = (λ _. refl, λ _. refl)
type_decides Charstring (Named n) = (λ e. absurd (cc), λ e. absurd (cc))
type_decides (Named m) Integer = (λ e. absurd (cc), λ e. absurd (cc))
type_decides (Named m) Boolean = (λ e. absurd (cc), λ e. absurd (cc))
type_decides (Named m) Charstring = (λ e. absurd (cc), λ e. absurd (cc))
type_decides (Named m) (Named n) = Decides-like (m == n) (λ e. ap Named e) (λ e. cc) (Decides-eqb m n)

-- the element with which a test by equality passes is the element itself
pub contains_by : {X : Type 0} (test : X → X → Bool) → ((x y : X) → Decides (test x y) (x ≡ y)) → (xs : List X) (q : X)
    → Decides (list_any (λ r. test r q) xs) (Contains xs q)
contains_by {X} test same xs q =
    Decides-like (list_any (λ r. test r q) xs) (λ (w : (x : X) × Contains xs x × (x ≡ q)). subst (Contains xs) w.2 w.1) (λ h. (q, h, refl))
    (any_decides (λ r. test r q) (λ r. r ≡ q) (λ r. same r q) xs)

pub among_decides : (xs ys : List Ty) → Decides (are_among xs ys) (All (Contains ys) xs)
unfolding are_among
among_decides xs ys = all_decides (λ ty. list_any (λ other. same_type other ty) ys) (Contains ys) (contains_by same_type type_decides ys) xs

pub comp_decides : (p q : PortRef) → Decides (p.comp.0 == q.comp.0) (p.comp ≡ q.comp)
unfolding port_at
comp_decides p q = Decides-like (p.comp.0 == q.comp.0) (λ e. ap (λ i. (port_at i 0).comp) e) (λ e. ap (λ x. x.0) e) (Decides-eqb p.comp.0 q.comp.0)

pub itself : (b : Bool) → Decides b (b ≡ true)
itself b = (λ e. e, λ e. e)

pub directed_decides : (s : Setup) (p q : PortRef)
    → Decides (are_among (outs s.types s.components p) (ins s.types s.components q)
    && are_among (outs s.types s.components q) (ins s.types s.components p)) (Directed s.types s.components p q)
directed_decides s p q =
    Decides-and (are_among (outs s.types s.components p) (ins s.types s.components q))
    (are_among (outs s.types s.components q) (ins s.types s.components p)) (among_decides (outs s.types s.components p) (ins s.types s.components q))
    (among_decides (outs s.types s.components q) (ins s.types s.components p))

names_any : (ms : List Member) (name : List ℕ)
    → list_any (λ (m : Member). bytes_eq m.name name) ms ≡ list_any (λ n. bytes_eq n name) (map (λ (m : Member). m.name) ms)
names_any [] name = refl
names_any (m ∷ ms) name = ap (λ b. bytes_eq m.name name || b) (names_any ms name)

pub name_decides : (ms : List Member) (name : List ℕ) → Decides (has_name ms name) (Contains (map (λ (m : Member). m.name) ms) name)
name_decides ms name =
    Decides-at (has_name ms name) (list_any (λ n. bytes_eq n name) (map (λ (m : Member). m.name) ms)) (names_any ms name)
    (contains_by bytes_eq bytes_eq-Decides (map (λ (m : Member). m.name) ms) name)

pub system_decides : (ms : List Member) → Decides (has_system ms) (HasSystem ms)
system_decides ms = any_decides is_system_member (λ m. is_system_member m ≡ true) (λ m. itself (is_system_member m)) ms

pub limit_decides : (m n : ℕ) → Decides (nat_le m n) (m ≤ n)
limit_decides m n = (leb-true m n, le-leb m n)

pub create_decides : (s : Setup) (m : Member) (f : CreateFault) → Decides (create_test s.components m.name m.role f) (CreateCause s m f)
create_decides s m trouble.Duplicate =
    Decides-or (has_name s.components m.name) (is_system_member m && has_system s.components) (name_decides s.components m.name)
    (Decides-and (is_system_member m) (has_system s.components) (itself (is_system_member m)) (system_decides s.components))
create_decides s m trouble.Limit = limit_decides 64 (length s.components)
create_decides s m trouble.Memory = (λ e. absurd (cc), λ h. absurd h)
