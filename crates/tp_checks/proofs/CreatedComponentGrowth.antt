-- One more component.
use Rattle.std.proofs.Common.{◌≡◌, ◌≤◌, ℕ, ◌+◌, ◌<◌, List, [], ◌∷◌, ◌++◌, None, Some, Contains, length, take, get_or, map, sym, ap, ◌∙◌, subst, append-nil, append_assoc, refl}
use Rattle.std.proofs.{lemmas.List.map_push, lemmas.List.length-map, lemmas.List.Elements.All-push}
use Rattle.std.specs.{Option.option_to_list, List.AllZip}
use Rattle.tp_tree.specs.declared.tree.{Creation.Creation, SetupStatement.SetupStatement}
use Rattle.tp_config.specs.Setup.{Setup, Member, names_of_components}
use Rattle.tp_checks.specs.Tables.{AreDistinct}
use Rattle.tp_checks.specs.Components.{Adds, AddsAll, Declared, HasSoundVariables, IsMember, creation_of, creations, variable_name}
use Rattle.tp_checks.proofs.{NameSetLookups.distinct_more, ListPrefixGrowth.kept_more, ListPrefixGrowth.zip_push}

module _ (xs : List SetupStatement) (i : ℕ) (x : SetupStatement) (lt : i < length xs) (is : x ≡ get_or xs i x) where
  -- a statement that makes no component, and one that makes one
  pub no_creation : None ≡ creation_of x → creations (take (i + 1) xs) ≡ creations (take i xs)
  no_creation other = kept_more creation_of xs i x lt is ∙ ap (λ o. creations (take i xs) ++ option_to_list o) (sym other) ∙ append-nil (creations (take i xs))

  pub one_creation : (c : Creation) → Some c ≡ creation_of x → creations (take (i + 1) xs) ≡ creations (take i xs) ++ c ∷ []
  one_creation c this = kept_more creation_of xs i x lt is ∙ ap (λ o. creations (take i xs) ++ option_to_list o) (sym this)

pub sound_more : (types ports names more : List (List ℕ)) (most : ℕ) (xs : List Creation) (c : Creation) → HasSoundVariables types ports most xs
    → names ≡ map variable_name xs
    → more ≡ names ++ variable_name c ∷ [] → AreDistinct more → (Contains ports (variable_name c) → ⊥) → Contains types c.type_name
    → c.type_name ≡ c.created
    → length more ≤ most → HasSoundVariables types ports most (xs ++ c ∷ [])
sound_more types ports names more most xs c before named next distinct apart known same few =
    let all : more ≡ map variable_name (xs ++ c ∷ []) = next ∙ ap (λ l. l ++ variable_name c ∷ []) named ∙ sym (map_push variable_name xs c) in
    record {
      distinct = subst AreDistinct all distinct;
      no_port = All-push (λ (c : Creation). Contains ports (variable_name c) → ⊥) xs c before.no_port apart;
      known = All-push (λ (c : Creation). Contains types c.type_name) xs c before.known known;
      same = All-push (λ (c : Creation). c.type_name ≡ c.created) xs c before.same same;
      few = subst (λ n. n ≤ most) (ap length all ∙ length-map (xs ++ c ∷ []) variable_name) few;
    }

pub adds_more : (types : List (List ℕ)) (xs : List Declared) (d : Declared) (old mid new : Setup) → AddsAll types xs old mid → Adds types d mid new
    → AddsAll types (xs ++ d ∷ []) old new
adds_more types xs d old mid new before one = rw one.added (record {
  components = λ first h. subst (λ l. AllZip (IsMember types) l (mid.components ++ one.member ∷ [])) (append_assoc first xs (d ∷ []))
      (zip_push (IsMember types) (first ++ xs) mid.components d one.member (before.components first h) one.is_member);
  names_more = map_push (λ (m : Member). m.name) mid.components one.member ∙ ap (λ l. l ++ one.member.name ∷ []) before.names_more
      ∙ append_assoc (names_of_components old) (map (λ (x : Declared). x.name) xs) (one.member.name ∷ [])
      ∙ ap (λ n. names_of_components old ++ (map (λ (x : Declared). x.name) xs ++ n ∷ [])) one.is_member.name
      ∙ ap (λ l. names_of_components old ++ l) (sym (map_push (λ (x : Declared). x.name) xs d));
  apart = λ h. subst AreDistinct (sym (map_push (λ (m : Member). m.name) mid.components one.member))
      (distinct_more (names_of_components mid) one.member.name (before.apart h) one.new_name);
  types_stay = before.types_stay;
  connected_stay = before.connected_stay;
  mapped_stay = before.mapped_stay;
})

pub adds_none : (types : List (List ℕ)) (s : Setup) → AddsAll types [] s s
adds_none types s = record {
  components = λ first h. subst (λ l. AllZip (IsMember types) l s.components) (sym (append-nil first)) h;
  names_more = sym (append-nil (names_of_components s));
  apart = λ h. h;
  types_stay = refl;
  connected_stay = refl;
  mapped_stay = refl;
}
