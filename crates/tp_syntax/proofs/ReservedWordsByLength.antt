-- The reserved words by their lengths, and by their spelling.
use Rattle.std.proofs.Common.{◌≡◌, ◌≢◌, ℕ, true, false, true≢false, List, [], ◌∷◌, length, filter, suc, ◌&&◌, refl, ap, sym, ◌∙◌, inl, inr, Option, Some, map, subst, if◌then◌else◌, ◌==◌}
use Rattle.std.specs.Str.{bytes_eq}
use Rattle.std.proofs.lemmas.Bool.Decides.{eqb_tells}
use Rattle.std.proofs.lemmas.Bool.{cases_Bool}
use Rattle.std.proofs.lemmas.Slice.Eq.{bytes_eq-Decides}
use Rattle.std.specs.Prelude.{is_some, unwrap_or}
use Rattle.tp_syntax.specs.declared.word.Word.{Word}
use Rattle.tp_syntax.specs.declared.word.Word.TheVariants as w
use Rattle.tp_syntax.specs.Word.{WordsAreSpelled, first_spelled, reserved, word_of, word_spelling, words, words_of_length}

-- texts of two lengths are different
other_length : (a b : List ℕ) → length b ≢ length a → bytes_eq a b ≡ false
other_length [] [] ne = absurd (ne refl)
other_length [] (y ∷ ys) ne = refl
other_length (x ∷ xs) [] ne = refl
other_length (x ∷ xs) (y ∷ ys) ne =
    let rest : bytes_eq xs ys ≡ false = other_length xs ys (λ same. ne (ap suc same)) in
    elim (x == y) as (λ t. (t && bytes_eq xs ys) ≡ false) [ true ↦ rest | false ↦ refl ]

-- only words of its length are compared with a text
among_its_length : (n : ℕ) (bs : List ℕ) (es : List (List ℕ × Word)) → length bs ≡ n
    → first_spelled bs (filter (λ entry. length entry.0 == n) es) ≡ first_spelled bs es
among_its_length n bs [] h = refl
among_its_length n bs (e ∷ es) h = elim (eqb_tells (length e.0) n) [
  | inl (test, eq) ↦ rw test (ap (λ (w : Option Word). if bytes_eq bs e.0 then Some e.1 else w) (among_its_length n bs es h))
  | inr (test, ne) ↦ let differs : bytes_eq bs e.0 ≡ false = other_length bs e.0 (λ same. ne (same ∙ h)) in rw (test, differs) (among_its_length n bs es h)
]

pub by_length : (bs : List ℕ) → first_spelled bs (words_of_length (length bs)) ≡ word_of bs
unfolding words_of_length
by_length bs = among_its_length (length bs) bs reserved refl

-- what is found among words is spelled so
found_spelling : (bs : List ℕ) (word : Word) (ws : List Word) → first_spelled bs (map (λ v. (word_spelling v, v)) ws) ≡ Some word → bs ≡ word_spelling word
found_spelling bs word [] e = absurd (true≢false (sym (ap is_some e)))
found_spelling bs word (v ∷ ws) e = elim (cases_Bool (bytes_eq bs (word_spelling v))) [
  | inl same ↦ (bytes_eq-Decides bs (word_spelling v)).0 same ∙ ap (λ (found : Option Word). word_spelling (unwrap_or found v)) (rw same at e)
  | inr other ↦ found_spelling bs word ws (rw other at e)
]

-- each word is found
known : (word : Word) → word_of (word_spelling word) ≡ Some word
unfolding reserved
known w.Module = refl
known word = refl

pub words_are_spelled : WordsAreSpelled
unfolding reserved
words_are_spelled bs word = (found_spelling bs word words, λ e. subst (λ (t : List ℕ). word_of t ≡ Some word) (sym e) (known word))
