-- The words of a report's lines.
use Rattle.std.specs.Prelude.{ℕ, List, [], ◌∷◌, ◌++◌, codes}
use Rattle.std.specs.List.{slice_index_or}
use Rattle.tp_value.specs.declared.types.Ty.{Ty}
use Rattle.tp_value.specs.declared.types.Ty.TheVariants as ty
use Rattle.tp_value.specs.declared.types.Types.{Types}
use Rattle.tp_value.specs.declared.message.Message.{Message}
use Rattle.tp_value.specs.declared.verdict.Verdict.{Verdict}
use Rattle.tp_value.specs.declared.verdict.Verdict.TheVariants as verdict
use Rattle.tp_value.specs.Types as value_types
use Rattle.tp_value.specs.ValueText.{value_text}
use Rattle.tp_config.specs.declared.port_type.CompId.{CompId}
use Rattle.tp_config.specs.declared.port_type.PortRef.{PortRef}
use Rattle.tp_config.specs.Setup.{Setup, names_of_components, port_names}

-- the rest of a line: each word after a space, and the end of the line
abbrev pub rest_of_line : List (List ℕ) → List ℕ
rest_of_line [] = codes "\n"
rest_of_line (word ∷ words) = codes " " ++ (word ++ rest_of_line words)

-- a line: the words, with a space between two
abbrev pub line : List (List ℕ) → List ℕ
line [] = codes "\n"
line (word ∷ words) = word ++ rest_of_line words

-- the name of a component
unfoldable pub component_name : Setup → CompId → List ℕ
component_name s c = slice_index_or (names_of_components s) c.0 []

-- the name of a port, as the type of its component declares it
unfoldable pub port_name : Setup → PortRef → List ℕ
port_name s p = slice_index_or (port_names s p.comp) p.port []

-- a component and a port of it
abbrev pub full_name : Setup → PortRef → List ℕ
full_name s p = component_name s p.comp ++ (codes "." ++ port_name s p)

-- the name of a type
abbrev pub type_name : Types → Ty → List ℕ
type_name types ty.Integer = codes "integer"
type_name types ty.Boolean = codes "boolean"
type_name types ty.Charstring = codes "charstring"
type_name types (ty.Named n) = slice_index_or (value_types.names_of_types types) n []

-- a message: its type and its value
unfoldable pub message_text : Types → Message → List ℕ
message_text types m = (type_name types m.ty ++ codes ":") ++ value_text types m.ty m.value

-- the word for a verdict
abbrev pub verdict_word : Verdict → List ℕ
verdict_word verdict.None = codes "none"
verdict_word verdict.Pass = codes "pass"
verdict_word verdict.Inconc = codes "inconc"
verdict_word verdict.Fail = codes "fail"
verdict_word verdict.Error = codes "error"
