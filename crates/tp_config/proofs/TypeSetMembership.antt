-- Types in a list, and in the set of them.
use Rattle.std.proofs.Common.{◌≡◌, ℕ, ◌<◌, ◌+◌, ◌==◌, Bool, true, false, cond, ◌||◌, List, [], ◌∷◌, length, take, get_or, refl, ap, sym, ◌∙◌}
use Rattle.std.specs.List.{list_any}
use Rattle.std.proofs.lemmas.List.Folds.{list_any_more}
use Rattle.std.specs.Bool.{one_answer}
use Rattle.std.proofs.lemmas.Bool.Decides.{Decides-eqb, Decides-like}
use Rattle.tp_value.specs.declared.types.Ty.{Ty}
use Rattle.tp_value.specs.declared.types.Ty.TheVariants.{Integer, Boolean, Charstring, Named}
use Rattle.tp_value.specs.contracts.types.TyPartialEq.TheImpl.{eq-value}
use Rattle.tp_config.specs.Types.{HaveSame, same_type}

-- the equality of types that the program computes
pub alike : (x y : Ty) → eq-value.it x y ≡ same_type x y
alike Integer Integer = refl
alike Integer Boolean = refl
alike Integer Charstring = refl
alike Integer (Named n) = refl
alike Boolean Integer = refl
alike Boolean Boolean = refl
alike Boolean Charstring = refl
alike Boolean (Named n) = refl
alike Charstring Integer = refl
alike Charstring Boolean = refl
alike Charstring Charstring = refl
alike Charstring (Named n) = refl
alike (Named m) Integer = refl
alike (Named m) Boolean = refl
alike (Named m) Charstring = refl
alike (Named m) (Named n) = refl

flipped : (x y : Ty) → same_type x y ≡ same_type y x
flipped Integer Integer = refl
flipped Integer Boolean = refl
flipped Integer Charstring = refl
flipped Integer (Named n) = refl
flipped Boolean Integer = refl
flipped Boolean Boolean = refl
flipped Boolean Charstring = refl
flipped Boolean (Named n) = refl
flipped Charstring Integer = refl
flipped Charstring Boolean = refl
flipped Charstring Charstring = refl
flipped Charstring (Named n) = refl
flipped (Named m) Integer = refl
flipped (Named m) Boolean = refl
flipped (Named m) Charstring = refl
flipped (Named m) (Named n) = one_answer (m == n) (n == m) (Decides-eqb m n) (Decides-like (n == m) (λ e. sym e) (λ e. sym e) (Decides-eqb n m))

either : (s b : Bool) → cond s true b ≡ (b || s)
either true true = refl
either true false = refl
either false true = refl
either false false = refl

pub any_alike : (ty : Ty) (ks : List Ty) → list_any (eq-value.it ty) ks ≡ list_any (λ k. same_type k ty) ks
any_alike ty [] = refl
any_alike ty (k ∷ ks) = ap (λ b. b || list_any (eq-value.it ty) ks) (alike ty k ∙ flipped ty k) ∙ ap (λ b. same_type k ty || b) (any_alike ty ks)

-- one more type is put into the set
pub one_listed : (old new types : List Ty) (i : ℕ) (d : Ty) → i < length types
    → ((q : Ty) → list_any (eq-value.it q) new ≡ cond (eq-value.it (get_or types i d) q) true (list_any (eq-value.it q) old))
    → HaveSame old (take i types) → HaveSame new (take (i + 1) types)
one_listed old new types i d below update same ty =
    sym (any_alike ty new)
    ∙ update ty
    ∙ ap (λ b. cond b true (list_any (eq-value.it ty) old)) (alike (get_or types i d) ty)
    ∙ ap (λ b. cond (same_type (get_or types i d) ty) true b) (any_alike ty old ∙ same ty)
    ∙ either (same_type (get_or types i d) ty) (list_any (λ k. same_type k ty) (take i types))
    ∙ sym (list_any_more (λ k. same_type k ty) types i d below)
