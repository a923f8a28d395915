-- The items of an alternative of the grammar, and the tokens that they accept.
use Rattle.std.specs.Prelude.{ℕ, nat_eq, nat_le, Bool, true, false, ◌||◌, ◌&&◌, List, [], ◌∷◌, Option, Some, None}
use Rattle.std.specs.List.{list_all}
use Rattle.std.specs.Str.{bytes_eq}
use Rattle.tp_syntax.specs.declared.word.Word.{Word}
use Rattle.tp_syntax.specs.declared.token.Symbol.{Symbol}
use Rattle.tp_syntax.specs.Lexeme.{Lexeme, name, word, number, text, symbol, PlacedLexeme}
use Rattle.tp_syntax.specs.Code.{word_code, symbol_code, is_plain}
use Rattle.tp_syntax.specs.Rule.{Rule}

-- one token: this word, symbol, number or name; any name, number or text; a number that is valid without a `-` before
-- it, or after one; a text that is valid after `pattern`; a name that is bound, or the bound name again; or the end of
-- the text
pub data Terminal : Type 0 where
  of_word : Word → Terminal
  of_symbol : Symbol → Terminal
  exactly : ℕ → Terminal
  this_name : List ℕ → Terminal
  a_name a_number a_text positive negated a_pattern binds same finish : Terminal

pub data Item : Type 0 where
  token : Terminal → Item
  rule : Rule → Item

-- an alternative that is taken if one of these tokens comes next
pub record Guarded : Type 0 where
  pub guards : List Terminal
  pub items : List Item

-- guarded alternatives, of which the first that fits the next token is taken, and the alternative that is taken if none
-- fits
pub record Choice : Type 0 where
  pub guarded : List Guarded
  pub otherwise : List Item

abbrev pub sy : Symbol → Item
sy s = token (of_symbol s)

abbrev pub wo : Word → Item
wo x = token (of_word x)

abbrev pub alone : List Item → Choice
alone items = record { guarded = []; otherwise = items }

abbrev pub choose : List Guarded → List Item → Choice
choose guarded otherwise = record { guarded = guarded; otherwise = otherwise }

-- an alternative that begins with this token
abbrev pub at : Terminal → List Item → Guarded
at t items = record { guards = t ∷ []; items = token t ∷ items }

abbrev pub at_word : Word → List Item → Guarded
at_word x items = at (of_word x) items

abbrev pub at_symbol : Symbol → List Item → Guarded
at_symbol s items = at (of_symbol s) items

-- an alternative that begins with a rule, and so with one of these tokens
abbrev pub before : List Terminal → List Item → Guarded
before guards items = record { guards = guards; items = items }

-- whether this token, or the end of the text, is accepted
abbrev pub accepts : Terminal → Option Lexeme → Bool
accepts (of_word x) (Some (word y)) = nat_eq (word_code x) (word_code y)
accepts (of_symbol x) (Some (symbol y)) = nat_eq (symbol_code x) (symbol_code y)
accepts (exactly n) (Some (number m)) = nat_eq n m
accepts (this_name n) (Some (name m)) = bytes_eq n m
accepts a_name (Some (name n)) = true
accepts binds (Some (name n)) = true
accepts a_number (Some (number n)) = true
accepts a_text (Some (text bs)) = true
accepts positive (Some (number n)) = nat_le n 9223372036854775807
accepts negated (Some (number n)) = nat_le 1 n && nat_le n 9223372036854775808
accepts a_pattern (Some (text bs)) = list_all is_plain bs
accepts finish None = true
accepts _ _ = false

-- whether one of these accepts the token, or the end of the text
abbrev pub one_of : List Terminal → Option Lexeme → Bool
one_of [] t = false
one_of (g ∷ []) t = accepts g t
one_of (g ∷ h ∷ gs) t = accepts g t || one_of (h ∷ gs) t

-- the next token, if there is one
abbrev pub next : List PlacedLexeme → Option Lexeme
next [] = None
next (p ∷ ps) = Some p.token
