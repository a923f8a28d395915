-- What stands beside a port, as it is kept.
use Rattle.std.proofs.Common.{◌≡◌, ◌≢◌, ℕ, zero, suc, ◌+◌, ◌<◌, inl, inr, length, get_or, replicate, arith, [], ◌∷◌, ◌++◌, None, List, map, slice_set, refl, ap, sym, ◌∙◌, add-one}
use Rattle.std.specs.Prelude.{slice_get}
use Rattle.std.specs.Option.{option_map_or}
use Rattle.std.proofs.lemmas.List.{get_or-set_same, get_or-set_other, length-set, map-set}
use Rattle.std.proofs.Math.Seq.{map-set_same}
use Rattle.std.proofs.lemmas.Bool.{cases_eq}
use Rattle.tp_config.specs.declared.port_type.CompId.{CompId}
use Rattle.tp_config.specs.declared.port_type.PortRef.{PortRef}
use Rattle.tp_config.specs.declared.component.Component.{Component}
use Rattle.tp_config.specs.Shape.{member_of, links_of}
use Rattle.tp_config.specs.Links.{row, links_at, with_links}
use Rattle.tp_config.proofs.PortLookupByFields.{get_or_mapped}

pub replicate_more : {X : Type 0} (n : ℕ) (x : X) → replicate n x ++ x ∷ [] ≡ replicate (n + 1) x
replicate_more zero x = refl
replicate_more (suc n) x = rw (add-one) (ap (λ l. x ∷ l) (replicate_more n x ∙ rw (add-one) refl))

pub links_none : (cs : List Component) (p : PortRef) → slice_get cs p.comp.0 ≡ None → [] ≡ links_at (map links_of cs) p
links_none cs p e = sym (ap (λ (l : List (List PortRef)). get_or l p.port []) (get_or_mapped links_of cs p.comp.0 [] ∙ ap (λ o. option_map_or links_of o []) e))

-- a port of a component that is there
pub within : {X : Type 0} (xs : List (List X)) (i k : ℕ) → k < length (get_or xs i []) → i < length xs
within [] i k n = absurd (omega (arith, n))
within (x ∷ xs) zero k n = omega arith
within (x ∷ xs) (suc i) k n = omega (arith, within xs i k n)

-- the parts of an element of a mapped list
pub mapped_at : {X Y : Type 0} (f : X → Y) (xs : List X) (i : ℕ) (x : X) (d : Y) → i < length xs → x ≡ get_or xs i x → get_or (map f xs) i d ≡ f x
mapped_at f [] i x d n e = absurd (omega (arith, n))
mapped_at f (y ∷ xs) zero x d n e = ap f (sym e)
mapped_at f (y ∷ xs) (suc i) x d n e = mapped_at f xs i x d (omega (arith, n)) e

length_mapped : {X Y : Type 0} (f : X → Y) (xs : List X) → length (map f xs) ≡ length xs
length_mapped f [] = refl
length_mapped f (x ∷ xs) = ap suc (length_mapped f xs)

-- a port of a component that is there
pub comp_within : (cs : List Component) (p : PortRef) → p.port < length (row (map links_of cs) p.comp) → p.comp.0 < length cs
comp_within cs p n = omega (arith, within (map links_of cs) p.comp.0 p.port n, length_mapped links_of cs)

pub members_put : (cs : List Component) (p : PortRef) (x y : Component) → p.port < length (row (map links_of cs) p.comp) → x ≡ get_or cs p.comp.0 x
    → member_of y ≡ member_of x → map member_of (slice_set cs p.comp.0 y) ≡ map member_of cs
members_put cs p x y n e same = map-set_same member_of cs p.comp.0 y x (same ∙ ap member_of e)

pub links_put : (cs : List Component) (p : PortRef) (b : List PortRef) (x y : Component) → p.port < length (row (map links_of cs) p.comp)
    → x ≡ get_or cs p.comp.0 x → y.links ≡ slice_set x.links p.port b → map links_of (slice_set cs p.comp.0 y) ≡ with_links (map links_of cs) p b
links_put cs p b x y n e put =
    map-set links_of cs p.comp.0 y ∙ ap (slice_set (map links_of cs) p.comp.0)
    (put ∙ ap (λ l. slice_set l p.port b) (sym (mapped_at links_of cs p.comp.0 x [] (comp_within cs p n) e)))

port_by : ℕ → ℕ → PortRef
port_by i j = record { comp = record { 0 = i }; port = j }

same_port_by : (p q : PortRef) → p.comp.0 ≡ q.comp.0 → p.port ≡ q.port → p ≡ q
unfolding port_by
same_port_by p q e f = ap (λ i. port_by i p.port) e ∙ ap (port_by q.comp.0) f

module _ (links : List (List (List PortRef))) (p : PortRef) (b : List PortRef) (n : p.port < length (row links p.comp)) where
  -- the rows keep their lengths
  pub rows_kept : (c : CompId) → length (row (with_links links p b) c) ≡ length (row links c)
  rows_kept c =
      elim (cases_eq c.0 p.comp.0) [
        | inl same ↦ ap (λ k. length (get_or (with_links links p b) k [])) same
            ∙ ap length (get_or-set_same links p.comp.0 (slice_set (row links p.comp) p.port b) [] (within links p.comp.0 p.port n))
            ∙ length-set (row links p.comp) p.port b ∙ ap (λ k. length (get_or links k [])) (sym same)
        | inr other ↦ ap length (get_or-set_other links p.comp.0 c.0 (slice_set (row links p.comp) p.port b) [] other)
      ]

  -- the list that was put
  pub links_same : links_at (with_links links p b) p ≡ b
  links_same =
      ap (λ (l : List (List PortRef)). get_or l p.port []) (get_or-set_same links p.comp.0 (slice_set (row links p.comp) p.port b) []
      (within links p.comp.0 p.port n)) ∙ get_or-set_same (row links p.comp) p.port b [] n

  -- the other lists
  pub links_other : (r : PortRef) → r ≢ p → links_at (with_links links p b) r ≡ links_at links r
  links_other r differ =
      elim (cases_eq r.comp.0 p.comp.0) [
        | inl same ↦ ap (λ k. get_or (get_or (with_links links p b) k []) r.port []) same
            ∙ ap (λ (l : List (List PortRef)). get_or l r.port []) (get_or-set_same links p.comp.0 (slice_set (row links p.comp) p.port b) []
            (within links p.comp.0 p.port n)) ∙ get_or-set_other (row links p.comp) p.port r.port b [] (λ e. differ (same_port_by r p same e))
            ∙ ap (λ k. get_or (get_or links k []) r.port []) (sym same)
        | inr other ↦ ap (λ (l : List (List PortRef)). get_or l r.port [])
            (get_or-set_other links p.comp.0 r.comp.0 (slice_set (row links p.comp) p.port b) [] other)
      ]
