-- The tokens with which each rule begins, and the rules that may spell nothing.
-- Written by tests/checking/table_sets.py from the table. WrittenSetsAreRight.antt checks that it is right.
use Rattle.std.proofs.Common.{ℕ, Bool, true, false, List, [], ◌∷◌}
use Rattle.tp_syntax.specs.declared.word.Word.TheVariants as w
use Rattle.tp_syntax.specs.declared.token.Symbol.TheVariants as s
use Rattle.tp_syntax.specs.Item.{Terminal, of_word, of_symbol, a_name, a_number, a_text}
use Rattle.tp_syntax.specs.Rule.{Rule}
use Rattle.tp_syntax.specs.Rule as r

-- rules that may spell nothing
abbrev pub nullable : Rule → Bool
nullable r.more_fields = true
nullable r.more_types = true
nullable r.more_names = true
nullable r.more_parameters = true
nullable r.may_have_system = true
nullable r.may_end = true
nullable r.more_arguments = true
nullable r.may_have_value = true
nullable r.receivers = true
nullable r.received = true
nullable r.may_have_template = true
nullable r.may_have_from = true
nullable r.redirect = true
nullable r.may_have_sender = true
nullable r.more_values = true
nullable r.more_value_fields = true
nullable r.more_templates = true
nullable r.more_template_fields = true
nullable _ = false

abbrev firsts_end_of_list : List Terminal
firsts_end_of_list = of_symbol s.RightBrace ∷ of_symbol s.Semicolon ∷ []

abbrev firsts_a_field : List Terminal
firsts_a_field = of_word w.Integer ∷ of_word w.Boolean ∷ of_word w.Charstring ∷ a_name ∷ []

abbrev firsts_ways : List Terminal
firsts_ways = of_word w.In ∷ of_word w.Out ∷ of_word w.Inout ∷ []

abbrev firsts_variables : List Terminal
firsts_variables =
    of_word w.Var ∷ of_word w.Alt ∷ of_word w.For ∷ of_word w.Setverdict ∷ of_word w.All ∷ of_symbol s.RightBrace ∷
    a_name ∷ []

abbrev firsts_a_place : List Terminal
firsts_a_place = of_word w.System ∷ of_word w.Mtc ∷ of_word w.SelfWord ∷ a_name ∷ []

abbrev firsts_a_start : List Terminal
firsts_a_start = of_word w.Var ∷ of_word w.Alt ∷ of_word w.For ∷ of_word w.Setverdict ∷ of_word w.All ∷ a_name ∷ []

abbrev firsts_case_action : List Terminal
firsts_case_action = of_word w.Alt ∷ of_word w.For ∷ of_word w.Setverdict ∷ of_word w.All ∷ a_name ∷ []

abbrev firsts_after_case_name : List Terminal
firsts_after_case_name =
    of_word w.Start ∷ of_word w.Stop ∷ of_word w.Halt ∷ of_word w.Clear ∷ of_word w.Send ∷ of_word w.Receive ∷
    of_word w.Trigger ∷ of_word w.Check ∷ []

abbrev firsts_case_statements : List Terminal
firsts_case_statements =
    of_word w.Alt ∷ of_word w.For ∷ of_word w.Setverdict ∷ of_word w.All ∷ of_symbol s.RightBrace ∷ a_name ∷ []

abbrev firsts_after_value_name : List Terminal
firsts_after_value_name = of_symbol s.RightBrace ∷ of_symbol s.Comma ∷ of_symbol s.Assign ∷ []

abbrev firsts_a_template : List Terminal
firsts_a_template =
    of_word w.True ∷ of_word w.False ∷ of_word w.Complement ∷ of_word w.Pattern ∷ of_symbol s.LeftBrace ∷
    of_symbol s.LeftParen ∷ of_symbol s.Question ∷ of_symbol s.Star ∷ of_symbol s.Minus ∷ a_name ∷ a_number ∷ a_text ∷
    []

-- with what a rule begins, if it spells something
unfoldable pub firsts : Rule → List Terminal
firsts r.a_module = of_word w.Module ∷ []
firsts r.definitions = of_word w.Type ∷ of_word w.Function ∷ of_word w.Testcase ∷ of_symbol s.RightBrace ∷ []
firsts r.a_definition = of_word w.Type ∷ of_word w.Function ∷ of_word w.Testcase ∷ []
firsts r.after_type = of_word w.Record ∷ of_word w.Port ∷ of_word w.Component ∷ []
firsts r.after_record = of_word w.Of ∷ a_name ∷ []
firsts r.fields = of_word w.Integer ∷ of_word w.Boolean ∷ of_word w.Charstring ∷ of_symbol s.RightBrace ∷ a_name ∷ []
firsts r.a_field = firsts_a_field
firsts r.more_fields = of_symbol s.Comma ∷ []
firsts r.ways = firsts_ways
firsts r.a_way = firsts_ways
firsts r.more_ways = of_word w.In ∷ of_word w.Out ∷ of_word w.Inout ∷ of_symbol s.RightBrace ∷ []
firsts r.way_word = firsts_ways
firsts r.more_types = of_symbol s.Comma ∷ []
firsts r.declarations = of_word w.Port ∷ of_symbol s.RightBrace ∷ []
firsts r.a_declaration = of_word w.Port ∷ []
firsts r.more_names = of_symbol s.Comma ∷ []
firsts r.declared_name = a_name ∷ []
firsts r.a_type = firsts_a_field
firsts r.a_predefined = of_word w.Integer ∷ of_word w.Boolean ∷ of_word w.Charstring ∷ []
firsts r.behaviour = of_word w.Function ∷ of_word w.Testcase ∷ []
firsts r.parameters = of_symbol s.RightParen ∷ a_name ∷ []
firsts r.a_parameter = a_name ∷ []
firsts r.more_parameters = of_symbol s.Comma ∷ []
firsts r.may_have_system = of_word w.System ∷ []
firsts r.may_end = of_symbol s.Semicolon ∷ []
firsts r.closing = of_symbol s.RightBrace ∷ []
firsts r.variables = firsts_variables
firsts r.a_variable = of_word w.Var ∷ []
firsts r.case_setups =
    of_word w.Var ∷ of_word w.Connect ∷ of_word w.Map ∷ of_word w.Alt ∷ of_word w.For ∷ of_word w.Setverdict ∷
    of_word w.All ∷ of_symbol s.RightBrace ∷ a_name ∷ []
firsts r.a_setup =
    of_word w.Var ∷ of_word w.Connect ∷ of_word w.Map ∷ of_word w.Alt ∷ of_word w.For ∷ of_word w.Setverdict ∷
    of_word w.All ∷ a_name ∷ []
firsts r.a_pair = of_symbol s.LeftParen ∷ []
firsts r.a_place = firsts_a_place
firsts r.a_place_owner = firsts_a_place
firsts r.after_case_var = firsts_a_field
firsts r.after_two_names = of_symbol s.RightBrace ∷ of_symbol s.Semicolon ∷ of_symbol s.Assign ∷ []
firsts r.case_starts = firsts_variables
firsts r.a_start = firsts_a_start
firsts r.variable_parts = firsts_a_field
firsts r.case_action = firsts_case_action
firsts r.after_case_name = firsts_after_case_name
firsts r.after_start = of_symbol s.RightBrace ∷ of_symbol s.LeftParen ∷ of_symbol s.Semicolon ∷ []
firsts r.arguments = of_word w.Mtc ∷ of_word w.SelfWord ∷ of_symbol s.RightParen ∷ a_name ∷ []
firsts r.more_arguments = of_symbol s.Comma ∷ []
firsts r.case_variables = firsts_variables
firsts r.after_variables = firsts_a_start
firsts r.case_statements = firsts_case_statements
firsts r.after_statements = firsts_case_action
firsts r.case_statement = firsts_case_action
firsts r.case_unnamed = of_word w.Alt ∷ of_word w.For ∷ of_word w.Setverdict ∷ of_word w.All ∷ []
firsts r.case_all = of_word w.All ∷ []
firsts r.after_case_all = of_word w.Port ∷ of_word w.Component ∷ []
firsts r.statements = firsts_case_statements
firsts r.a_statement = firsts_case_action
firsts r.plain = of_word w.Setverdict ∷ of_word w.All ∷ a_name ∷ []
firsts r.set_verdict = of_word w.Setverdict ∷ []
firsts r.verdict_word = of_word w.NoneWord ∷ of_word w.Pass ∷ of_word w.Inconc ∷ of_word w.Fail ∷ of_word w.Error ∷ []
firsts r.all_ports = of_word w.All ∷ []
firsts r.named = a_name ∷ []
firsts r.named_operation = firsts_after_case_name
firsts r.other_operation =
    of_word w.Stop ∷ of_word w.Halt ∷ of_word w.Clear ∷ of_word w.Send ∷ of_word w.Receive ∷ of_word w.Trigger ∷
    of_word w.Check ∷ []
firsts r.control_word = of_word w.Start ∷ of_word w.Stop ∷ of_word w.Halt ∷ of_word w.Clear ∷ []
firsts r.sent = firsts_a_field
firsts r.may_have_value = of_symbol s.Colon ∷ []
firsts r.receivers = of_word w.To ∷ []
firsts r.addressees = of_word w.Mtc ∷ of_word w.SelfWord ∷ of_word w.All ∷ a_name ∷ []
firsts r.who = of_word w.Mtc ∷ of_word w.SelfWord ∷ a_name ∷ []
firsts r.receiving = of_word w.Receive ∷ of_word w.Trigger ∷ of_word w.Check ∷ []
firsts r.received = of_word w.From ∷ of_symbol s.LeftParen ∷ of_symbol s.Arrow ∷ []
firsts r.may_have_template = of_symbol s.LeftParen ∷ []
firsts r.may_have_from = of_word w.From ∷ []
firsts r.redirect = of_symbol s.Arrow ∷ []
firsts r.redirected = of_word w.Value ∷ of_word w.Sender ∷ []
firsts r.may_have_sender = of_word w.Sender ∷ []
firsts r.compound = of_word w.Alt ∷ of_word w.For ∷ []
firsts r.a_branch = of_symbol s.LeftBracket ∷ []
firsts r.after_bracket = of_word w.Else ∷ of_symbol s.RightBracket ∷ []
firsts r.a_reception = of_symbol s.RightBracket ∷ []
firsts r.an_otherwise = of_word w.Else ∷ []
firsts r.end_of_branch = of_symbol s.LeftBrace ∷ of_symbol s.RightBrace ∷ of_symbol s.Semicolon ∷ []
firsts r.more_branches = of_symbol s.RightBrace ∷ of_symbol s.LeftBracket ∷ []
firsts r.turns = of_symbol s.LeftParen ∷ []
firsts r.an_integer = of_symbol s.Minus ∷ a_number ∷ []
firsts r.a_value =
    of_word w.True ∷ of_word w.False ∷ of_symbol s.LeftBrace ∷ of_symbol s.Minus ∷ a_name ∷ a_number ∷ a_text ∷ []
firsts r.unnamed_value =
    of_word w.True ∷ of_word w.False ∷ of_symbol s.LeftBrace ∷ of_symbol s.Minus ∷ a_number ∷ a_text ∷ []
firsts r.value_entries =
    of_word w.True ∷ of_word w.False ∷ of_symbol s.LeftBrace ∷ of_symbol s.RightBrace ∷ of_symbol s.Minus ∷ a_name ∷
    a_number ∷ a_text ∷ []
firsts r.after_value_name = firsts_after_value_name
firsts r.more_values = of_symbol s.Comma ∷ []
firsts r.a_value_field = a_name ∷ []
firsts r.more_value_fields = of_symbol s.Comma ∷ []
firsts r.a_template = firsts_a_template
firsts r.uncounted_template =
    of_word w.True ∷ of_word w.False ∷ of_word w.Complement ∷ of_word w.Pattern ∷ of_symbol s.LeftBrace ∷
    of_symbol s.LeftParen ∷ of_symbol s.Question ∷ of_symbol s.Star ∷ a_name ∷ a_text ∷ []
firsts r.counted_template =
    of_word w.True ∷ of_word w.False ∷ of_word w.Complement ∷ of_word w.Pattern ∷ of_symbol s.LeftBrace ∷
    of_symbol s.LeftParen ∷ of_symbol s.Question ∷ of_symbol s.Star ∷ of_symbol s.Minus ∷ a_number ∷ a_text ∷ []
firsts r.other_template =
    of_word w.True ∷ of_word w.False ∷ of_word w.Complement ∷ of_word w.Pattern ∷ of_symbol s.LeftBrace ∷
    of_symbol s.LeftParen ∷ of_symbol s.Question ∷ of_symbol s.Star ∷ a_text ∷ []
firsts r.in_parentheses = firsts_a_template
firsts r.after_minus = of_word w.Infinity ∷ a_number ∷ []
firsts r.after_number = of_symbol s.RightParen ∷ of_symbol s.Comma ∷ of_symbol s.DotDot ∷ []
firsts r.upper = of_word w.Infinity ∷ of_symbol s.Minus ∷ a_number ∷ []
firsts r.template_entries =
    of_word w.True ∷ of_word w.False ∷ of_word w.Complement ∷ of_word w.Pattern ∷ of_symbol s.LeftBrace ∷
    of_symbol s.RightBrace ∷ of_symbol s.LeftParen ∷ of_symbol s.Question ∷ of_symbol s.Star ∷ of_symbol s.Minus ∷
    a_name ∷ a_number ∷ a_text ∷ []
firsts r.after_template_name = firsts_after_value_name
firsts r.more_templates = of_symbol s.Comma ∷ []
firsts r.a_template_field = a_name ∷ []
firsts r.more_template_fields = of_symbol s.Comma ∷ []
firsts _ = firsts_end_of_list

-- one more than that of each rule with which the rule may begin
abbrev pub rank : Rule → ℕ
rank r.a_definition = 2
rank r.definitions = 3
rank r.end_of_list = 2
rank r.a_type = 2
rank r.a_field = 3
rank r.fields = 4
rank r.a_way = 2
rank r.ways = 3
rank r.more_ways = 3
rank r.declarations = 2
rank r.parameters = 2
rank r.plain = 2
rank r.a_statement = 3
rank r.statements = 4
rank r.variables = 5
rank r.end_of_variable = 2
rank r.case_unnamed = 2
rank r.case_action = 3
rank r.a_setup = 4
rank r.case_setups = 5
rank r.a_place = 2
rank r.after_case_var = 2
rank r.end_of_case_variable = 2
rank r.after_two_names = 3
rank r.end_of_setup = 2
rank r.a_start = 4
rank r.case_starts = 5
rank r.variable_parts = 3
rank r.other_operation = 2
rank r.after_case_name = 3
rank r.end_of_case_statement = 2
rank r.after_start = 3
rank r.arguments = 2
rank r.end_of_start = 2
rank r.case_statement = 3
rank r.after_variables = 4
rank r.case_variables = 5
rank r.after_statements = 4
rank r.case_statements = 5
rank r.end_of_case = 2
rank r.end_of_plain = 2
rank r.named_operation = 3
rank r.sent = 2
rank r.addressees = 2
rank r.received = 2
rank r.after_bracket = 2
rank r.end_of_reception = 2
rank r.end_of_branch = 3
rank r.more_branches = 2
rank r.unnamed_value = 2
rank r.a_value = 3
rank r.value_entries = 3
rank r.after_value_name = 2
rank r.uncounted_template = 2
rank r.a_template = 3
rank r.counted_template = 2
rank r.in_parentheses = 3
rank r.after_number = 2
rank r.upper = 2
rank r.template_entries = 3
rank r.after_template_name = 2
rank _ = 1
