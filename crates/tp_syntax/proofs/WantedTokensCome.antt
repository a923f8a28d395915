-- The word or symbol that is wanted is the one that comes.
use Rattle.std.proofs.Common.{◌≡◌, ◌↔◌, eqb-true, eq-eqb, true, List, [], ◌∷◌, Option, Some, slice_get, refl, ap, sym, subst, ◌∙◌}
use Rattle.tp_syntax.specs.declared.word.Word.{Word}
use Rattle.tp_syntax.specs.declared.word.Word.TheVariants as w
use Rattle.tp_syntax.specs.declared.token.Symbol.{Symbol}
use Rattle.tp_syntax.specs.declared.token.Symbol.TheVariants as s
use Rattle.tp_syntax.specs.Lexeme.{Lexeme, word, symbol}
use Rattle.tp_syntax.specs.Code.{word_code, symbol_code}
use Rattle.tp_syntax.specs.Word.{words}
use Rattle.tp_syntax.specs.Item.{of_word, of_symbol, accepts}
use Rattle.tp_syntax.specs.Refusal.{WordsAreTold}

-- the symbols, by their numbers
abbrev symbols : List Symbol
symbols =
    s.LeftBrace ∷ s.RightBrace ∷ s.LeftParen ∷ s.RightParen ∷ s.LeftBracket ∷ s.RightBracket ∷
    s.Comma ∷ s.Semicolon ∷ s.Colon ∷ s.Dot ∷ s.Question ∷ s.Star ∷ s.Minus ∷ s.Less ∷ s.Plus ∷
    s.DotDot ∷ s.Assign ∷ s.Arrow ∷ []

word_at : (x : Word) → slice_get words (word_code x) ≡ Some x
word_at w.Module = refl
word_at x = refl

symbol_at : (x : Symbol) → slice_get symbols (symbol_code x) ≡ Some x
symbol_at s.LeftBrace = refl
symbol_at x = refl

pub word_accepted : (x : Word) (t : Option Lexeme) → accepts (of_word x) t ≡ true → t ≡ Some (word x)
word_accepted x (Some (word y)) e =
    let c : word_code x ≡ word_code y = eqb-true _ _ e in
    let h : Some y ≡ Some x = sym (word_at y) ∙ (ap (slice_get words) (sym c) ∙ word_at x) in
    ap (λ (o : Word). Some (word o)) (cc)
word_accepted x t e = cc

pub symbol_accepted : (x : Symbol) (t : Option Lexeme) → accepts (of_symbol x) t ≡ true → t ≡ Some (symbol x)
symbol_accepted x (Some (symbol y)) e =
    let c : symbol_code x ≡ symbol_code y = eqb-true _ _ e in
    let h : Some y ≡ Some x = sym (symbol_at y) ∙ (ap (slice_get symbols) (sym c) ∙ symbol_at x) in
    ap (λ (o : Symbol). Some (symbol o)) (cc)
symbol_accepted x t e = cc

accepts_word : (x : Word) → accepts (of_word x) (Some (word x)) ≡ true
accepts_word x = eq-eqb _ _ refl

accepts_symbol : (x : Symbol) → accepts (of_symbol x) (Some (symbol x)) ≡ true
accepts_symbol x = eq-eqb _ _ refl

pub word_told : (x : Word) (t : Option Lexeme) → (accepts (of_word x) t ≡ true) ↔ (t ≡ Some (word x))
word_told x t = (word_accepted x t, λ e. subst (λ (o : Option Lexeme). accepts (of_word x) o ≡ true) (sym e) (accepts_word x))

pub symbol_told : (x : Symbol) (t : Option Lexeme) → (accepts (of_symbol x) t ≡ true) ↔ (t ≡ Some (symbol x))
symbol_told x t = (symbol_accepted x t, λ e. subst (λ (o : Option Lexeme). accepts (of_symbol x) o ≡ true) (sym e) (accepts_symbol x))

pub both_told : WordsAreTold
both_told = (word_told, symbol_told)
