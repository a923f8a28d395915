-- `Shared` as a type that may hold the type that holds it.
use mathlib.Core.Path.{◌≡◌, refl, sym}
use mathlib.Core.Logic.{◌⊎◌, inl, inr}
use mathlib.Core.List.{List, []}
use mathlib.Core.Former.{Former, this, const, pair, or, list, via, children}
use base.Stored.{gnil, code_map}
use base.Fml.{ftrue}
use denote.RattleType.{RattleType}
use denote.Memory.{part_of}
use denote.RawPtr.{Ptr}
use denote.Sharing.{nothing}
use denote.HoleLaws.{Alike}
use denote.HolePlaces.{Recodes, struct_places, enum_places, Mapss, eachs, Array-places, laid, one_value}
use denote.Hole.Carrier.{listed, list-listed}
use denote.Hole.Fix.{over}
use denote.Param.Weighed.{Weighed, w_list}
use denote.Model.Placed.{held, view_places}
use Rattle.std.specs.declared.sync.Arc.{Arc}
use Rattle.std.specs.contracts.sync.Arc as arc
use Rattle.std.specs.declared.alloc.Global.{Global}
use Rattle.std.specs.contracts.alloc.Global as heap
use Rattle.std.specs.contracts.impls.GlobalAllocator.TheImpl.{ghosts}
use Rattle.tp_value.specs.formers.items.Items as items
use Rattle.tp_value.specs.declared.shared.Storage.{Storage}
use Rattle.tp_value.specs.declared.shared.Storage.TheVariants.{One, Two, Many}
use Rattle.tp_value.specs.contracts.shared.Storage as T
use Rattle.tp_value.specs.declared.shared.Shared.TheInside.{Inside}
use Rattle.tp_value.specs.declared.shared.Shared.TheView.{view, invariant}
use Rattle.tp_value.specs.contracts.shared.Shared as C
use Rattle.tp_value.specs.contracts.shared.Shared.TheInside as J

abbrev pub the_former : Former {0} → Former {0}
the_former g = list g

abbrev pub the_weighed : {g : Former {0}} → Weighed g → Weighed (the_former g)
the_weighed w = w_list w

pub the_empty : List ⊥
the_empty = []

abbrev pub the_items : (X : Type 0) → List X → List X
the_items X d = d

pub the_items_listed : (X : Type 0) (d : List X) → listed _ (children (the_former this) X d) ≡ the_items X d
the_items_listed X d = list-listed X d

module _ {X : Type 0} where
  abbrev split : Storage X → List X ⊎ (List X ⊎ List X)
  split (One xs) = inl xs
  split (Two xs) = inr (inl xs)
  split (Many xs) = inr (inr xs)

  abbrev join : List X ⊎ (List X ⊎ List X) → Storage X
  join (inl xs) = One xs
  join (inr (inl xs)) = Two xs
  join (inr (inr xs)) = Many xs

  join-split : (b : Storage X) → join (split b) ≡ b
  join-split (One xs) = refl
  join-split (Two xs) = refl
  join-split (Many xs) = refl

  split-join : (s : List X ⊎ (List X ⊎ List X)) → split (join s) ≡ s
  split-join (inl xs) = refl
  split-join (inr (inl xs)) = refl
  split-join (inr (inr xs)) = refl

abbrev storages : Former {0}
storages = via (or (list this) (or (list this) (list this))) (λ X. Storage X) (λ X. split) (λ X. join) (λ X. join-split) (λ X. split-join)

abbrev fields : Former {0}
fields = via (pair (const Ptr) storages) Inside (λ X a. (a.storage.ptr, a.storage.value))
    (λ X v. record { storage = record { ptr = v.0; value = v.1 } }) (λ X a. refl) (λ X v. refl)

abbrev with_value : {X Y : Type 0} → Arc X Global → Y → Arc Y Global
with_value a y = record { ptr = a.ptr; value = y }

abbrev inside : {X : Type 0} → Ptr → Storage X → Inside X
inside p b = record { storage = record { ptr = p; value = b } }

module _ (X : Type 0) where
  keeps : (p : Ptr) (b : Storage X) → held (list this) X (view X (inside p b)) ≡ held fields X (inside p b)
  keeps p (One xs) = refl
  keeps p (Two xs) = refl
  keeps p (Many xs) = refl

  natural : (Y : Type 0) (h : X → Y) (p : Ptr) (b : Storage X) → view Y (fields.map X Y h (inside p b)) ≡ (list this).map X Y h (view X (inside p b))
  natural Y h p (One xs) = refl
  natural Y h p (Two xs) = refl
  natural Y h p (Many xs) = refl

abbrev arc_of : RattleType → RattleType
arc_of R = arc.the_row R heap.the_row ghosts

module _ (R S : RattleType) (h : R.Denot → S.Denot) where
  arc_places : Alike R S h → Alike (arc_of R) (arc_of S) (λ a. with_value a (h a.value))
  unfolding part_of
  arc_places a = record {
    mir_same = λ i. (arc_of (one_value R (a.mir_same i) (λ _. ftrue) (λ _ _. nothing) gnil)).mir;
    own_same = λ b i. (arc_of (one_value R (a.mir_same i) (a.own_same b.value i) (a.shr_same b.value i) gnil)).own_val
        (with_value b tt);
    shr_same = λ b i. (arc_of (one_value R (a.mir_same i) (a.own_same b.value i) (a.shr_same b.value i) gnil)).shr_at
        (with_value b tt);
  }

module _ (R S : RattleType) (h : R.Denot → S.Denot) where
  abbrev mapped : List R.Denot → List S.Denot
  mapped = (list this).map R.Denot S.Denot h

  abbrev storage_mapped : Storage R.Denot → Storage S.Denot
  storage_mapped = storages.map R.Denot S.Denot h

  abbrev each_mapped : Mapss (T.enum R).parts (T.enum S).parts
  each_mapped = ((mapped, tt), ((mapped, tt), ((mapped, tt), tt)))

  variant : (b : Storage R.Denot)
      → (T.enum S).as_values (storage_mapped b)
      ≡ eachs (T.enum R).parts (T.enum S).parts each_mapped ((T.enum R).as_values b)
  variant (One xs) = refl
  variant (Two xs) = refl
  variant (Many xs) = refl

  storage_places : Alike R S h → Alike (T.the_row R) (T.the_row S) storage_mapped
  storage_places a = enum_places (T.enum R) (T.enum S) each_mapped storage_mapped variant refl
      ((laid _ _ _ (Array-places R S h a 1), tt), ((laid _ _ _ (Array-places R S h a 2), tt), ((laid _ _ _ (items.the_places R S h a), tt), tt)))

  pub the_places : Alike R S h → Alike (C.the_row R) (C.the_row S) ((the_former this).map R.Denot S.Denot h)
  the_places a = view_places fields (list this) view (λ X Y k u. natural X Y k u.storage.ptr u.storage.value) (λ X u. keeps X u.storage.ptr u.storage.value) R.Denot S.Denot h
      (C.the_row R).coded (C.the_row S).coded
      (invariant R.Denot) (invariant S.Denot) (λ u p q. refl) (λ u p q. refl) (λ u e. tt) (λ u e. tt)
      (over (J.the_row R)) (over (J.the_row S))
      (struct_places (J.the_type R) (J.the_type S) ((λ b. with_value b (storage_mapped b.value)), tt) _ (λ d. refl) refl
      (laid _ _ _ (arc_places (T.the_row R) (T.the_row S) storage_mapped (storage_places a)), tt))

  pub the_codes_placed : Recodes R S h → Recodes (C.the_row R) (C.the_row S) ((the_former this).map R.Denot S.Denot h)
  the_codes_placed e d = sym (code_map R.coded.code S.coded.code h (λ x. sym (e x)) d)
