-- The text of a message that is an integer.
use Rattle.std.proofs.Common.{◌≡◌, ℤ, ◌++◌, codes, ap, sym, ◌∙◌}
use Rattle.std.specs.Fmt.{signed_decimal}
use Rattle.tp_value.specs.declared.types.Ty.TheVariants as ty
use Rattle.tp_value.specs.declared.types.Types.{Types}
use Rattle.tp_value.specs.declared.message.Message.{Message}
use Rattle.tp_value.specs.ValueText.{value_text}
use Rattle.tp_value.proofs.WrittenValueTexts.{text_int}
use Rattle.tp_report.specs.Integers.{IsInteger}
use Rattle.tp_report.specs.ReportWords.{message_text, type_name}

pub integer_text : (types : Types) (m : Message) (z : ℤ) → IsInteger m z → codes "integer:" ++ signed_decimal z ≡ message_text types m
unfolding message_text
integer_text types m z is =
    sym (
    ap (λ t. (type_name types t ++ codes ":") ++ value_text types t m.value) is.0
    ∙ ap (λ v. codes "integer:" ++ value_text types ty.Integer v) is.1
    ∙ ap (λ l. codes "integer:" ++ l) (text_int types ty.Integer z)
    )
