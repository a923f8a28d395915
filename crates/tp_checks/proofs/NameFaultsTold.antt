-- A name that can't be given, among all that are.
use Rattle.std.proofs.Common.{◌≡◌, ℕ, ◌+◌, ◌<◌, List, [], ◌∷◌, ◌++◌, length, take, drop, get_or, map, refl, sym, ap, ◌∙◌, subst, append_assoc}
use Rattle.std.proofs.{lemmas.List.map-append, lemmas.List.take-append-drop, lemmas.List.Concat.flat_map-append}
use Rattle.tp_tree.specs.declared.tree.{DeclaredName.DeclaredName, PortDeclaration.PortDeclaration}
use Rattle.tp_checks.specs.declared.fault.ModuleFault.{ModuleFault}
use Rattle.tp_checks.specs.{Refused.Tells, Refused.TellsAt, Tables.IsNumbered, Definitions.declared, Definitions.declared_ports}
use Rattle.tp_checks.specs.BrokenNames.{DeclaringBreaks, NameBreaks, port_name_list}
use Rattle.tp_checks.proofs.{DistinctNamesInParts.map_twice, ListPrefixGrowth.pushed}
use Rattle.tp_checks.proofs.RuleFaultPropagation.{told_from, told_on}

-- what stands before and after an item
pub split_here : {A : Type 0} (xs : List A) (i : ℕ) (x : A) → i < length xs → x ≡ get_or xs i x → xs ≡ take i xs ++ x ∷ drop (i + 1) xs
split_here xs i x lt is =
    sym (take-append-drop (i + 1) xs) ∙ ap (λ l. l ++ drop (i + 1) xs) (sym (pushed xs i x lt is)) ∙ append_assoc (take i xs) (x ∷ []) (drop (i + 1) xs)

-- names as they stand
pub map_same : {A : Type 0} (xs : List A) → map (λ x. x) xs ≡ xs
map_same [] = refl
map_same (x ∷ xs) = ap (λ l. x ∷ l) (map_same xs)

-- one of the names, after those before it
pub name_among : {A : Type 0} (g : A → DeclaredName) (old names : List (List ℕ)) (xs : List A) (i : ℕ) (x : A) (f : ModuleFault) → i < length xs
    → x ≡ get_or xs i x → names ≡ old ++ map (λ y. declared (g y)) (take i xs) → IsNumbered names
    → TellsAt (g x).line (NameBreaks names (declared (g x))) f → Tells (DeclaringBreaks old (map g xs)) f
name_among g old names xs i x f lt is named numbered told =
    let here : names ≡ old ++ map declared (map g (take i xs)) = named ∙ ap (λ l. old ++ l) (sym (map_twice declared g (take i xs))) in
    told_from (g x).line (NameBreaks names (declared (g x))) (DeclaringBreaks old (map g xs)) f (λ rule breaks. record {
      before = map g (take i xs);
      name = g x;
      after = map g (drop (i + 1) xs);
      split = ap (map g) (split_here xs i x lt is) ∙ map-append g (take i xs) (x ∷ drop (i + 1) xs);
      numbered = subst IsNumbered here numbered;
      breaks = subst (λ l. NameBreaks l (declared (g x)) rule) here breaks;
      line_is = refl;
    }) told

ports_declared : (ps : List PortDeclaration) → map declared (port_name_list ps) ≡ declared_ports ps
ports_declared [] = refl
ports_declared (p ∷ ps) = map-append declared p.names (port_name_list ps) ∙ ap (λ l. map declared p.names ++ l) (ports_declared ps)

-- one of a declaration's names, among all ports
pub port_among : (old names : List (List ℕ)) (xs : List PortDeclaration) (i : ℕ) (x : PortDeclaration) (f : ModuleFault) → i < length xs
    → x ≡ get_or xs i x → names ≡ old ++ declared_ports (take i xs) → Tells (DeclaringBreaks names x.names) f
    → Tells (DeclaringBreaks old (port_name_list xs)) f
port_among old names xs i x f lt is named told =
    told_on (DeclaringBreaks names x.names) (DeclaringBreaks old (port_name_list xs)) f (λ rule line b.
    let first : List DeclaredName = port_name_list (take i xs) in
    let rest : List DeclaredName = port_name_list (drop (i + 1) xs) in
    let all : port_name_list xs ≡ first ++ (x.names ++ rest) =
    ap port_name_list (split_here xs i x lt is) ∙ flat_map-append (λ (p : PortDeclaration). p.names) (take i xs) (x ∷ drop (i + 1) xs) in
    let here : names ++ map declared b.before ≡ old ++ map declared (first ++ b.before) =
    ap (λ l. l ++ map declared b.before) (named ∙ ap (λ l. old ++ l) (sym (ports_declared (take i xs))))
    ∙ append_assoc old (map declared first) (map declared b.before) ∙ ap (λ l. old ++ l) (sym (map-append declared first b.before)) in
    record {
      before = first ++ b.before;
      name = b.name;
      after = b.after ++ rest;
      split = all ∙ ap (λ l. first ++ (l ++ rest)) b.split ∙ ap (λ l. first ++ l) (append_assoc b.before (b.name ∷ b.after) rest)
          ∙ sym (append_assoc first b.before (b.name ∷ (b.after ++ rest)));
      numbered = subst IsNumbered here b.numbered;
      breaks = subst (λ l. NameBreaks l (declared b.name) rule) here b.breaks;
      line_is = b.line_is;
    }) told
