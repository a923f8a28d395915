-- The tokens that may follow each rule.
-- Written by tests/checking/table_sets.py from the table. WrittenSetsAreRight.antt checks that it is right.
use Rattle.std.proofs.Common.{List, [], ◌∷◌}
use Rattle.tp_syntax.specs.declared.word.Word.TheVariants as w
use Rattle.tp_syntax.specs.declared.token.Symbol.TheVariants as s
use Rattle.tp_syntax.specs.Item.{Terminal, of_word, of_symbol, a_name, finish}
use Rattle.tp_syntax.specs.Rule.{Rule}
use Rattle.tp_syntax.specs.Rule as r

abbrev follows_definitions : List Terminal
follows_definitions = of_symbol s.Semicolon ∷ finish ∷ []

abbrev follows_fields : List Terminal
follows_fields =
    of_word w.Type ∷ of_word w.Function ∷ of_word w.Testcase ∷ of_symbol s.RightBrace ∷ of_symbol s.Semicolon ∷ []

abbrev follows_a_field : List Terminal
follows_a_field = of_symbol s.RightBrace ∷ of_symbol s.Comma ∷ []

abbrev follows_a_way : List Terminal
follows_a_way = of_symbol s.RightBrace ∷ of_symbol s.Semicolon ∷ []

abbrev follows_declared_name : List Terminal
follows_declared_name =
    of_symbol s.RightBrace ∷ of_symbol s.RightParen ∷ of_symbol s.Comma ∷ of_symbol s.Semicolon ∷ []

abbrev follows_a_type : List Terminal
follows_a_type = of_symbol s.RightBrace ∷ of_symbol s.Comma ∷ of_symbol s.Semicolon ∷ of_symbol s.Colon ∷ a_name ∷ []

abbrev follows_a_parameter : List Terminal
follows_a_parameter = of_symbol s.RightParen ∷ of_symbol s.Comma ∷ []

abbrev follows_statements : List Terminal
follows_statements =
    of_word w.Type ∷ of_word w.Function ∷ of_word w.Testcase ∷ of_word w.Alt ∷ of_word w.For ∷ of_word w.Setverdict ∷
    of_word w.All ∷ of_symbol s.RightBrace ∷ of_symbol s.LeftBracket ∷ of_symbol s.Semicolon ∷ a_name ∷ []

abbrev follows_received : List Terminal
follows_received =
    of_symbol s.LeftBrace ∷ of_symbol s.RightBrace ∷ of_symbol s.RightParen ∷ of_symbol s.Semicolon ∷ []

abbrev follows_compound : List Terminal
follows_compound =
    of_word w.Alt ∷ of_word w.For ∷ of_word w.Setverdict ∷ of_word w.All ∷ of_symbol s.RightBrace ∷
    of_symbol s.Semicolon ∷ a_name ∷ []

abbrev follows_a_value : List Terminal
follows_a_value = of_symbol s.RightBrace ∷ of_symbol s.RightParen ∷ of_symbol s.Comma ∷ []

-- what may follow a rule
unfoldable pub follows : Rule → List Terminal
follows r.a_module = finish ∷ []
follows r.definitions = follows_definitions
follows r.a_definition = follows_definitions
follows r.after_type = follows_definitions
follows r.after_record = follows_definitions
follows r.end_of_list = follows_definitions
follows r.a_field = follows_a_field
follows r.more_fields = of_symbol s.RightBrace ∷ []
follows r.a_way = follows_a_way
follows r.way_word = of_word w.Integer ∷ of_word w.Boolean ∷ of_word w.Charstring ∷ a_name ∷ []
follows r.more_types = follows_a_way
follows r.a_declaration = follows_a_way
follows r.more_names = follows_a_way
follows r.declared_name = follows_declared_name
follows r.a_type = follows_a_type
follows r.a_predefined = follows_a_type
follows r.parameters = of_word w.Runs ∷ []
follows r.a_parameter = follows_a_parameter
follows r.more_parameters = of_symbol s.RightParen ∷ []
follows r.may_have_system = of_symbol s.LeftBrace ∷ []
follows r.may_end =
    of_word w.Type ∷ of_word w.Function ∷ of_word w.Testcase ∷ of_word w.Alt ∷ of_word w.For ∷ of_word w.Setverdict ∷
    of_word w.All ∷ of_symbol s.RightBrace ∷ of_symbol s.LeftBracket ∷ a_name ∷ finish ∷ []
follows r.closing =
    of_word w.Type ∷ of_word w.Function ∷ of_word w.Testcase ∷ of_word w.Alt ∷ of_word w.For ∷ of_word w.Setverdict ∷
    of_word w.All ∷ of_symbol s.RightBrace ∷ of_symbol s.LeftBracket ∷ of_symbol s.Semicolon ∷ a_name ∷ finish ∷ []
follows r.a_variable = follows_a_way
follows r.a_pair = follows_a_way
follows r.a_place = follows_a_parameter
follows r.a_place_owner = of_symbol s.Colon ∷ []
follows r.arguments = of_symbol s.RightParen ∷ []
follows r.more_arguments = of_symbol s.RightParen ∷ []
follows r.statements = follows_statements
follows r.a_statement = follows_statements
follows r.plain = follows_a_way
follows r.end_of_plain = follows_statements
follows r.set_verdict = follows_a_way
follows r.verdict_word = of_symbol s.RightParen ∷ []
follows r.all_ports = follows_a_way
follows r.named = follows_a_way
follows r.named_operation = follows_a_way
follows r.other_operation = follows_a_way
follows r.control_word = follows_a_way
follows r.sent = of_symbol s.RightParen ∷ []
follows r.may_have_value = of_symbol s.RightParen ∷ []
follows r.receivers = follows_a_way
follows r.addressees = follows_a_way
follows r.who =
    of_symbol s.LeftBrace ∷ of_symbol s.RightBrace ∷ of_symbol s.RightParen ∷ of_symbol s.Comma ∷
    of_symbol s.Semicolon ∷ of_symbol s.Arrow ∷ []
follows r.receiving = of_symbol s.LeftBrace ∷ of_symbol s.RightBrace ∷ of_symbol s.Semicolon ∷ []
follows r.received = follows_received
follows r.may_have_template =
    of_word w.From ∷ of_symbol s.LeftBrace ∷ of_symbol s.RightBrace ∷ of_symbol s.RightParen ∷ of_symbol s.Semicolon ∷
    of_symbol s.Arrow ∷ []
follows r.may_have_from =
    of_symbol s.LeftBrace ∷ of_symbol s.RightBrace ∷ of_symbol s.RightParen ∷ of_symbol s.Semicolon ∷
    of_symbol s.Arrow ∷ []
follows r.redirect = follows_received
follows r.redirected = follows_received
follows r.may_have_sender = follows_received
follows r.compound = follows_compound
follows r.a_branch = follows_compound
follows r.after_bracket = follows_compound
follows r.a_reception = follows_compound
follows r.an_otherwise = follows_compound
follows r.end_of_branch = follows_compound
follows r.end_of_reception = follows_compound
follows r.more_branches = follows_compound
follows r.turns = of_symbol s.LeftBrace ∷ []
follows r.an_integer = follows_declared_name
follows r.a_value = follows_a_value
follows r.unnamed_value = follows_a_value
follows r.value_entries = follows_a_value
follows r.after_value_name = follows_a_value
follows r.more_values = of_symbol s.RightBrace ∷ []
follows r.a_value_field = follows_a_field
follows r.more_value_fields = of_symbol s.RightBrace ∷ []
follows r.a_template = follows_a_value
follows r.uncounted_template = follows_a_value
follows r.counted_template = follows_a_field
follows r.other_template = follows_a_value
follows r.in_parentheses = follows_a_value
follows r.after_minus = follows_a_value
follows r.after_number = follows_a_value
follows r.upper = of_symbol s.RightParen ∷ []
follows r.template_entries = follows_a_value
follows r.after_template_name = follows_a_value
follows r.more_templates = of_symbol s.RightBrace ∷ of_symbol s.RightParen ∷ []
follows r.a_template_field = follows_a_field
follows r.more_template_fields = of_symbol s.RightBrace ∷ []
follows _ = follows_fields
