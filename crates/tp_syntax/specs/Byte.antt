-- Bytes by what they can be part of.
use Rattle.std.specs.Prelude.{ℕ, Bool, true, false, nat_le, if◌then◌else◌, ◌==◌, ◌&&◌, ◌||◌}
use Rattle.tp_syntax.specs.declared.byte.Kind.{Kind}
use Rattle.tp_syntax.specs.declared.byte.Kind.TheVariants.{Letter, Digit, Underscore, Quote, Blank, Other}

-- whether a byte is in a range, both bounds included
abbrev pub between : ℕ → ℕ → ℕ → Bool
between low high b = nat_le low b && nat_le b high

-- the kind of a byte: `a` to `z` and `A` to `Z` are letters, `0` to `9` digits, 9 to 13 and 32 white space; `_` and `"`
-- have kinds of their own
unfoldable pub byte_kind : ℕ → Kind
byte_kind b =
    if between 97 122 b || between 65 90 b then Letter
    else (if between 48 57 b then Digit
    else (if b == 95 then Underscore
    else (if b == 34 then Quote
    else (if between 9 13 b || b == 32 then Blank
    else Other))))

-- whether names and reserved words can contain bytes of this kind
abbrev pub in_word : Kind → Bool
in_word Letter = true
in_word Digit = true
in_word Underscore = true
in_word _ = false

-- whether a name or a reserved word can contain the byte
abbrev pub is_word_byte : ℕ → Bool
is_word_byte b = in_word (byte_kind b)

-- whether bytes of this kind are digits
abbrev pub is_digit_kind : Kind → Bool
is_digit_kind Digit = true
is_digit_kind _ = false

-- whether the byte is a digit
abbrev pub is_digit : ℕ → Bool
is_digit b = is_digit_kind (byte_kind b)

-- whether a text can contain the byte
abbrev pub is_printable : ℕ → Bool
is_printable b = between 32 126 b

-- whether the byte isn't 10, which ends a line
abbrev pub is_in_line : ℕ → Bool
is_in_line b = if b == 10 then false else true

-- whether the byte is a quote
abbrev pub is_quote : ℕ → Bool
is_quote b = b == 34
