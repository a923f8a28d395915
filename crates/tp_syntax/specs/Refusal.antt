-- Which tokens are refused, what a refusal says, and the laws of the grammar as a whole.
use Rattle.std.specs.Prelude.{ℕ, ◌≡◌, ◌≢◌, None, List, [], ◌∷◌, length, ◌↔◌, ◌⊎◌, true, Option, Some}
use Rattle.tp_syntax.specs.Lexeme.{PlacedLexeme, Lexeme, word, symbol}
use Rattle.tp_syntax.specs.declared.stuck.Stuck.{Stuck}
use Rattle.tp_syntax.specs.declared.stuck.Stuck.TheVariants.{At, Memory}
use Rattle.tp_syntax.specs.Item.{rule, next, of_word, of_symbol, accepts}
use Rattle.tp_syntax.specs.Rule.{a_module}
use Rattle.tp_syntax.specs.Reading.{Tree, Reads, Fails, Spells}
use Rattle.tp_syntax.specs.declared.word.Word.{Word}
use Rattle.tp_syntax.specs.declared.token.Symbol.{Symbol}

-- the two lists have the same tokens up to and including the first of the last n of the first list; if n is 0, all
-- tokens are the same
pub data Agree : ℕ → List PlacedLexeme → List PlacedLexeme → Type 0 where
  agree_last : {n : ℕ} {ts us : List PlacedLexeme} → n ≡ length ts → next ts ≡ next us
      → Agree n ts us
  agree_more : {n : ℕ} {p q : PlacedLexeme} {ts us : List PlacedLexeme} → p.token ≡ q.token
      → Agree n ts us → Agree n (p ∷ ts) (q ∷ us)

-- the whole text spells this tree
abbrev pub IsText : List PlacedLexeme → Tree → Type 0
IsText ts t = Spells (rule a_module) ts t []

-- no text of the grammar begins with the tokens up to and including the one where reading stops, or is all of them if
-- reading stops at the end
abbrev pub NoneGoesOn : List PlacedLexeme → Stuck → Type 0
NoneGoesOn ts (At n) = (us : List PlacedLexeme) (t : Tree) → Agree n ts us → IsText us t → ⊥
NoneGoesOn ts Memory = Unit {0}

-- the second list begins with the tokens of the first one, except its last n
pub data Begins : ℕ → List PlacedLexeme → List PlacedLexeme → Type 0 where
  begins_end : {n : ℕ} {ts us : List PlacedLexeme} → n ≡ length ts → Begins n ts us
  begins_more : {n : ℕ} {p q : PlacedLexeme} {ts us : List PlacedLexeme} → p.token ≡ q.token
      → Begins n ts us → Begins n (p ∷ ts) (q ∷ us)

-- some text of the grammar begins with the tokens before the one where reading stops
abbrev pub BeginsText : List PlacedLexeme → Stuck → Type 0
BeginsText ts (At n) = (us : List PlacedLexeme) × (t : Tree) × Begins n ts us × IsText us t
BeginsText ts Memory = Unit {0}

-- the tokens are refused at this place: reading fails there, or it is the first token after a whole text; or memory ran
-- out
pub data IsRefusedAt : List PlacedLexeme → Stuck → Type 0 where
  refused_within : {ts : List PlacedLexeme} {e : Stuck} → Fails (rule a_module) ts e
      → IsRefusedAt ts e
  refused_behind : {ts rest : List PlacedLexeme} {t : Tree} {n : ℕ}
      → Reads (rule a_module) ts t rest → n ≡ length rest
      → next rest ≢ None → IsRefusedAt ts (At n)

-- a word or a symbol is accepted if and only if it comes next
abbrev pub WordsAreTold : Type 0
WordsAreTold =
    ((x : Word) (t : Option Lexeme) → (accepts (of_word x) t ≡ true) ↔ (t ≡ Some (word x)))
    × ((x : Symbol) (t : Option Lexeme) → (accepts (of_symbol x) t ≡ true) ↔ (t ≡ Some (symbol x)))

-- tokens spell a tree, by any alternatives, if and only if they are read as it, always by the first alternative that
-- fits the next token
abbrev pub OneTokenTells : Type 0
OneTokenTells = (ts : List PlacedLexeme) (t : Tree) → IsText ts t ↔ Reads (rule a_module) ts t []

-- two trees of one text are the same
abbrev pub TextsHaveOneTree : Type 0
TextsHaveOneTree = (ts : List PlacedLexeme) (t u : Tree) → IsText ts t → IsText ts u → t ≡ u

-- no text begins with the tokens up to and including the one at which they are refused, and some text begins with those
-- before it
abbrev pub RefusalsAreFirst : Type 0
RefusalsAreFirst =
    (ts : List PlacedLexeme) (e : Stuck) → IsRefusedAt ts e → NoneGoesOn ts e × BeginsText ts e

-- tokens are a text of the grammar, or are refused at one of them or at their end
abbrev pub EachTextIsTold : Type 0
EachTextIsTold =
    (ts : List PlacedLexeme) → ((t : Tree) × IsText ts t) ⊎ ((n : ℕ) × IsRefusedAt ts (At n))
