-- The grammar, as a table: the alternatives of each rule. Above each rule stands what it spells, in the words of
-- docs/PROFILE.md and of other rules here. A rule named `end_of_..` goes on after a part that may need a `;`.
use Rattle.std.specs.Prelude.{Bool, true, false, [], ◌∷◌}
use Rattle.tp_syntax.specs.declared.word.Word.TheVariants as w
use Rattle.tp_syntax.specs.declared.token.Symbol.TheVariants.{LeftBrace, RightBrace, LeftParen, RightParen, LeftBracket}
use Rattle.tp_syntax.specs.declared.token.Symbol.TheVariants.{RightBracket, Comma, Semicolon, Colon, Dot, Question}
use Rattle.tp_syntax.specs.declared.token.Symbol.TheVariants.{Star, Minus, Less, Plus, DotDot, Assign, Arrow}
use Rattle.tp_syntax.specs.Item.{of_word, of_symbol, exactly, a_name, a_number, a_text, positive, negated, a_pattern}
use Rattle.tp_syntax.specs.Item.{binds, same, token, rule, Choice, sy, wo, alone, choose, at, at_word, at_symbol}
use Rattle.tp_syntax.specs.Item.{before}
use Rattle.tp_syntax.specs.Rule.{Rule, a_module, definitions, a_definition, after_type, after_record, end_of_list}
use Rattle.tp_syntax.specs.Rule.{fields, a_field, more_fields, ways, a_way, end_of_way, more_ways, way_word, more_types}
use Rattle.tp_syntax.specs.Rule.{declarations, a_declaration, end_of_declaration, more_names, declared_name, a_type}
use Rattle.tp_syntax.specs.Rule.{a_predefined, behaviour, parameters, a_parameter, more_parameters, may_have_system}
use Rattle.tp_syntax.specs.Rule.{may_end, closing, variables, a_variable, end_of_variable, case_setups, a_setup, a_pair}
use Rattle.tp_syntax.specs.Rule.{a_place, a_place_owner, after_case_var, after_two_names, end_of_setup, case_starts}
use Rattle.tp_syntax.specs.Rule.{a_start, variable_parts, case_action, after_case_name, after_start, arguments}
use Rattle.tp_syntax.specs.Rule.{more_arguments, end_of_start, case_variables, after_variables, end_of_case_variable}
use Rattle.tp_syntax.specs.Rule.{case_statements, after_statements, case_statement, case_unnamed, case_all}
use Rattle.tp_syntax.specs.Rule.{after_case_all, end_of_case, end_of_case_statement, statements, a_statement, plain}
use Rattle.tp_syntax.specs.Rule.{end_of_plain, set_verdict, verdict_word, all_ports, named, named_operation}
use Rattle.tp_syntax.specs.Rule.{other_operation, control_word, sent, may_have_value, receivers, addressees, who}
use Rattle.tp_syntax.specs.Rule.{receiving, received, may_have_template, may_have_from, redirect, redirected}
use Rattle.tp_syntax.specs.Rule.{may_have_sender, compound, a_branch, after_bracket, a_reception, an_otherwise}
use Rattle.tp_syntax.specs.Rule.{end_of_branch, end_of_reception, more_branches, turns, an_integer, a_value}
use Rattle.tp_syntax.specs.Rule.{unnamed_value, value_entries, after_value_name, more_values, a_value_field}
use Rattle.tp_syntax.specs.Rule.{more_value_fields, a_template, uncounted_template, counted_template, other_template}
use Rattle.tp_syntax.specs.Rule.{in_parentheses, after_minus, after_number, upper, template_entries}
use Rattle.tp_syntax.specs.Rule.{after_template_name, more_templates, a_template_field, more_template_fields}

-- the alternatives of a rule
abbrev pub production : Rule → Choice
-- module
production a_module =
    alone (wo w.Module ∷ token a_name ∷ sy LeftBrace ∷ rule definitions ∷ rule may_end ∷ [])
-- { definition } "}"
production definitions =
    choose (before (of_symbol RightBrace ∷ []) (rule closing ∷ []) ∷ []) (rule a_definition ∷ [])
-- ( ( record | port | component | function | case ) [";"] | list end ) definitions
production a_definition = choose
    (at_word w.Type (rule after_type ∷ []) ∷ [])
    (rule behaviour ∷ rule may_end ∷ rule definitions ∷ [])
-- "record" after_record
-- | "port" name "message" "{" direction { direction } "}" [";"] definitions
-- | "component" name "{" declarations [";"] definitions
production after_type = choose
    (at_word w.Record (rule after_record ∷ [])
    ∷ at_word w.Port
    (token a_name ∷ wo w.Message ∷ sy LeftBrace ∷ rule ways ∷ rule may_end ∷ rule definitions
    ∷ []) ∷ [])
    (wo w.Component ∷ token a_name ∷ sy LeftBrace ∷ rule declarations ∷ rule may_end
    ∷ rule definitions ∷ [])
-- name "{" fields [";"] definitions | "of" type name end definitions
production after_record = choose
    (at_word w.Of (rule a_type ∷ token a_name ∷ rule end_of_list ∷ []) ∷ [])
    (token a_name ∷ sy LeftBrace ∷ rule fields ∷ rule may_end ∷ rule definitions ∷ [])
-- end definitions
production end_of_list =
    choose (at_symbol Semicolon (rule definitions ∷ []) ∷ []) (rule closing ∷ [])
-- [ field { "," field } ] "}"
production fields = choose
    (at_symbol RightBrace [] ∷ []) (rule a_field ∷ rule more_fields ∷ sy RightBrace ∷ [])
-- field
production a_field = alone (rule a_type ∷ rule declared_name ∷ [])
-- { "," field }
production more_fields = choose (at_symbol Comma (rule a_field ∷ rule more_fields ∷ []) ∷ []) []
-- direction { direction } "}"
production ways = alone (rule a_way ∷ rule end_of_way ∷ [])
-- ( "in" | "out" | "inout" ) type { "," type }
production a_way = alone (rule way_word ∷ rule a_type ∷ rule more_types ∷ [])
-- end { direction } "}"
production end_of_way = choose (at_symbol Semicolon (rule more_ways ∷ []) ∷ []) (sy RightBrace ∷ [])
-- { direction } "}"
production more_ways = choose (at_symbol RightBrace [] ∷ []) (rule a_way ∷ rule end_of_way ∷ [])
-- "in" | "out" | "inout"
production way_word = choose (at_word w.In [] ∷ at_word w.Out [] ∷ []) (wo w.Inout ∷ [])
-- { "," type }
production more_types = choose (at_symbol Comma (rule a_type ∷ rule more_types ∷ []) ∷ []) []
-- { "port" name name { "," name } end } "}"
production declarations = choose
    (at_symbol RightBrace [] ∷ []) (rule a_declaration ∷ rule end_of_declaration ∷ [])
-- "port" name name { "," name }
production a_declaration =
    alone (wo w.Port ∷ token a_name ∷ rule declared_name ∷ rule more_names ∷ [])
-- end declarations
production end_of_declaration = choose
    (at_symbol Semicolon (rule declarations ∷ []) ∷ []) (sy RightBrace ∷ [])
-- { "," name }
production more_names = choose (at_symbol Comma (rule declared_name ∷ rule more_names ∷ []) ∷ []) []
-- name
production declared_name = alone (token a_name ∷ [])
-- type
production a_type = choose (at a_name [] ∷ []) (rule a_predefined ∷ [])
-- "integer" | "boolean" | "charstring"
production a_predefined =
    choose (at_word w.Integer [] ∷ at_word w.Boolean [] ∷ []) (wo w.Charstring ∷ [])
-- function | case
production behaviour = choose
    (at_word w.Function
    (token a_name ∷ sy LeftParen ∷ rule parameters ∷ wo w.Runs ∷ wo w.On ∷ token a_name
    ∷ sy LeftBrace ∷ rule variables ∷ []) ∷ [])
    (wo w.Testcase ∷ token a_name ∷ sy LeftParen ∷ sy RightParen ∷ wo w.Runs ∷ wo w.On
    ∷ token a_name ∷ rule may_have_system ∷ sy LeftBrace ∷ rule case_setups ∷ [])
-- [ parameter { "," parameter } ] ")"
production parameters = choose
    (at_symbol RightParen [] ∷ []) (rule a_parameter ∷ rule more_parameters ∷ sy RightParen ∷ [])
-- parameter
production a_parameter = alone (token a_name ∷ rule declared_name ∷ [])
-- { "," parameter }
production more_parameters =
    choose (at_symbol Comma (rule a_parameter ∷ rule more_parameters ∷ []) ∷ []) []
-- [ "system" name ]
production may_have_system = choose (at_word w.System (token a_name ∷ []) ∷ []) []
-- [ ";" ]
production may_end = choose (at_symbol Semicolon [] ∷ []) []
-- "}"
production closing = alone (sy RightBrace ∷ [])
-- { variable } { statement } "}"
production variables = choose
    (before (of_word w.Var ∷ []) (rule a_variable ∷ rule end_of_variable ∷ []) ∷ [])
    (rule statements ∷ [])
-- "var" type name
production a_variable = alone (wo w.Var ∷ rule a_type ∷ token a_name ∷ [])
-- end variables
production end_of_variable =
    choose (at_symbol Semicolon (rule variables ∷ []) ∷ []) (rule closing ∷ [])
-- { setup end } case_starts
production case_setups =
    choose (before (of_symbol RightBrace ∷ []) (rule closing ∷ []) ∷ []) (rule a_setup ∷ [])
-- ( "connect" | "map" ) a_pair end_of_setup | "var" after_case_var | case_action
production a_setup = choose
    (at_word w.Connect (rule a_pair ∷ rule end_of_setup ∷ [])
    ∷ at_word w.Map (rule a_pair ∷ rule end_of_setup ∷ [])
    ∷ at_word w.Var (rule after_case_var ∷ []) ∷ [])
    (rule case_action ∷ [])
-- "(" place "," place ")"
production a_pair =
    alone (sy LeftParen ∷ rule a_place ∷ sy Comma ∷ rule a_place ∷ sy RightParen ∷ [])
-- place
production a_place = alone (rule a_place_owner ∷ sy Colon ∷ token a_name ∷ [])
-- name | "mtc" | "self" | "system"
production a_place_owner = choose
    (at_word w.Mtc [] ∷ at_word w.SelfWord [] ∷ at_word w.System [] ∷ []) (token a_name ∷ [])
-- name name ":=" name "." "create" end case_setups | type name end case_variables
production after_case_var = choose
    (at a_name (token a_name ∷ rule after_two_names ∷ []) ∷ [])
    (rule a_predefined ∷ token a_name ∷ rule end_of_case_variable ∷ [])
-- ":=" name "." "create" end case_setups | end case_variables
production after_two_names = choose
    (at_symbol Assign (token a_name ∷ sy Dot ∷ wo w.Create ∷ rule end_of_setup ∷ []) ∷ [])
    (rule end_of_case_variable ∷ [])
-- end case_setups
production end_of_setup =
    choose (at_symbol Semicolon (rule case_setups ∷ []) ∷ []) (rule closing ∷ [])
-- { begin end } case_variables
production case_starts =
    choose (before (of_symbol RightBrace ∷ []) (rule closing ∷ []) ∷ []) (rule a_start ∷ [])
-- "var" type name end_of_case_variable | case_action
production a_start = choose (at_word w.Var (rule variable_parts ∷ []) ∷ []) (rule case_action ∷ [])
-- type name end_of_case_variable
production variable_parts = alone (rule a_type ∷ token a_name ∷ rule end_of_case_variable ∷ [])
-- name "." after_case_name | case_unnamed
production case_action =
    choose (at a_name (sy Dot ∷ rule after_case_name ∷ []) ∷ []) (rule case_unnamed ∷ [])
-- "start" after_start | other_operation end case_statements
production after_case_name = choose
    (at_word w.Start (rule after_start ∷ []) ∷ [])
    (rule other_operation ∷ rule end_of_case_statement ∷ [])
-- "(" name "(" arguments ")" end case_starts | end case_statements
production after_start = choose
    (at_symbol LeftParen
    (token a_name ∷ sy LeftParen ∷ rule arguments ∷ sy RightParen ∷ rule end_of_start ∷ [])
    ∷ [])
    (rule end_of_case_statement ∷ [])
-- [ who { "," who } ] ")"
production arguments = choose
    (at_symbol RightParen [] ∷ []) (rule who ∷ rule more_arguments ∷ sy RightParen ∷ [])
-- { "," who }
production more_arguments = choose (at_symbol Comma (rule who ∷ rule more_arguments ∷ []) ∷ []) []
-- end case_starts
production end_of_start =
    choose (at_symbol Semicolon (rule case_starts ∷ []) ∷ []) (rule closing ∷ [])
-- { variable } case_statements
production case_variables =
    choose (before (of_symbol RightBrace ∷ []) (rule closing ∷ []) ∷ []) (rule after_variables ∷ [])
-- "var" type name end_of_case_variable | case_statement
production after_variables =
    choose (at_word w.Var (rule variable_parts ∷ []) ∷ []) (rule case_statement ∷ [])
-- end case_variables
production end_of_case_variable =
    choose (at_symbol Semicolon (rule case_variables ∷ []) ∷ []) (rule closing ∷ [])
-- { statement } [ "all" "component" "." "done" end ] "}"
production case_statements =
    choose (before (of_symbol RightBrace ∷ []) (rule closing ∷ []) ∷ [])
    (rule after_statements ∷ [])
-- case_statement
production after_statements = alone (rule case_statement ∷ [])
-- named end case_statements | case_unnamed
production case_statement = choose
    (before (a_name ∷ []) (rule named ∷ rule end_of_case_statement ∷ []) ∷ [])
    (rule case_unnamed ∷ [])
-- ( choice | loop ) [";"] case_statements | verdict end case_statements | case_all
production case_unnamed = choose
    (before (of_word w.Alt ∷ of_word w.For ∷ [])
    (rule compound ∷ rule may_end ∷ rule case_statements ∷ [])
    ∷ before (of_word w.Setverdict ∷ []) (rule set_verdict ∷ rule end_of_case_statement ∷ []) ∷ [])
    (rule case_all ∷ [])
-- "all" after_case_all
production case_all = alone (wo w.All ∷ rule after_case_all ∷ [])
-- "port" "." control_word end case_statements | "component" "." "done" end "}"
production after_case_all = choose
    (at_word w.Port (sy Dot ∷ rule control_word ∷ rule end_of_case_statement ∷ []) ∷ [])
    (wo w.Component ∷ sy Dot ∷ wo w.Done ∷ rule end_of_case ∷ [])
-- end "}"
production end_of_case = choose (at_symbol Semicolon (rule closing ∷ []) ∷ []) (rule closing ∷ [])
-- end case_statements
production end_of_case_statement = choose
    (at_symbol Semicolon (rule case_statements ∷ []) ∷ []) (rule closing ∷ [])
-- { statement } "}"
production statements =
    choose (before (of_symbol RightBrace ∷ []) (rule closing ∷ []) ∷ []) (rule a_statement ∷ [])
-- ( choice | loop ) [";"] statements | plain end statements
production a_statement = choose
    (before (of_word w.Alt ∷ of_word w.For ∷ [])
    (rule compound ∷ rule may_end ∷ rule statements ∷ []) ∷ [])
    (rule plain ∷ rule end_of_plain ∷ [])
-- send | name "." receiving | control | verdict
production plain = choose
    (before (of_word w.Setverdict ∷ []) (rule set_verdict ∷ [])
    ∷ before (of_word w.All ∷ []) (rule all_ports ∷ []) ∷ [])
    (rule named ∷ [])
-- end statements
production end_of_plain =
    choose (at_symbol Semicolon (rule statements ∷ []) ∷ []) (rule closing ∷ [])
-- verdict
production set_verdict =
    alone (wo w.Setverdict ∷ sy LeftParen ∷ rule verdict_word ∷ sy RightParen ∷ [])
-- "none" | "pass" | "inconc" | "fail" | "error"
production verdict_word = choose
    (at_word w.NoneWord [] ∷ at_word w.Pass [] ∷ at_word w.Inconc [] ∷ at_word w.Fail [] ∷ [])
    (wo w.Error ∷ [])
-- "all" "port" "." ( "start" | "stop" | "halt" | "clear" )
production all_ports = alone (wo w.All ∷ wo w.Port ∷ sy Dot ∷ rule control_word ∷ [])
-- send | name "." ( receiving | "start" | "stop" | "halt" | "clear" )
production named = alone (token a_name ∷ sy Dot ∷ rule named_operation ∷ [])
-- "start" | other_operation
production named_operation = choose (at_word w.Start [] ∷ []) (rule other_operation ∷ [])
-- "send" "(" ( message | name ) ")" [ "to" ( who | "all" "component" ) ] | receiving | "stop" | "halt" | "clear"
production other_operation = choose
    (at_word w.Send (sy LeftParen ∷ rule sent ∷ sy RightParen ∷ rule receivers ∷ [])
    ∷ before (of_word w.Receive ∷ of_word w.Trigger ∷ of_word w.Check ∷ []) (rule receiving ∷ [])
    ∷ at_word w.Stop [] ∷ at_word w.Halt [] ∷ [])
    (wo w.Clear ∷ [])
-- "start" | "stop" | "halt" | "clear"
production control_word = choose
    (at_word w.Start [] ∷ at_word w.Stop [] ∷ at_word w.Halt [] ∷ []) (wo w.Clear ∷ [])
-- message | name
production sent = choose
    (at a_name (rule may_have_value ∷ []) ∷ []) (rule a_predefined ∷ sy Colon ∷ rule a_value ∷ [])
-- [ ":" value ]
production may_have_value = choose (at_symbol Colon (rule a_value ∷ []) ∷ []) []
-- [ "to" ( who | "all" "component" ) ]
production receivers = choose (at_word w.To (rule addressees ∷ []) ∷ []) []
-- who | "all" "component"
production addressees = choose (at_word w.All (wo w.Component ∷ []) ∷ []) (rule who ∷ [])
-- who
production who = choose (at_word w.Mtc [] ∷ at_word w.SelfWord [] ∷ []) (token a_name ∷ [])
-- receiving
production receiving = choose
    (at_word w.Receive (rule received ∷ []) ∷ at_word w.Trigger (rule received ∷ []) ∷ [])
    (wo w.Check ∷ sy LeftParen ∷ wo w.Receive ∷ rule received ∷ sy RightParen ∷ [])
-- received
production received = alone (rule may_have_template ∷ rule may_have_from ∷ rule redirect ∷ [])
-- [ "(" type ":" template ")" ]
production may_have_template = choose
    (at_symbol LeftParen (rule a_type ∷ sy Colon ∷ rule a_template ∷ sy RightParen ∷ []) ∷ []) []
-- [ "from" who ]
production may_have_from = choose (at_word w.From (rule who ∷ []) ∷ []) []
-- [ redirect ]
production redirect = choose (at_symbol Arrow (rule redirected ∷ []) ∷ []) []
-- "value" name [ "sender" name ] | "sender" name
production redirected = choose
    (at_word w.Value (token a_name ∷ rule may_have_sender ∷ []) ∷ [])
    (wo w.Sender ∷ token a_name ∷ [])
-- [ "sender" name ]
production may_have_sender = choose (at_word w.Sender (token a_name ∷ []) ∷ []) []
-- choice | loop
production compound = choose
    (at_word w.Alt (sy LeftBrace ∷ rule a_branch ∷ []) ∷ [])
    (wo w.For ∷ rule turns ∷ sy LeftBrace ∷ rule statements ∷ [])
-- ( branch { branch } [ otherwise ] | otherwise ) "}"
production a_branch = alone (sy LeftBracket ∷ rule after_bracket ∷ [])
-- a_reception | an_otherwise
production after_bracket =
    choose (before (of_symbol RightBracket ∷ []) (rule a_reception ∷ []) ∷ [])
    (rule an_otherwise ∷ [])
-- "]" name "." receiving end_of_branch
production a_reception =
    alone (sy RightBracket ∷ token a_name ∷ sy Dot ∷ rule receiving ∷ rule end_of_branch ∷ [])
-- "else" "]" block [";"] "}"
production an_otherwise =
    alone
    (wo w.Else ∷ sy RightBracket ∷ sy LeftBrace ∷ rule statements ∷ rule may_end ∷ rule closing
    ∷ [])
-- ( block [";"] | end ) more_branches
production end_of_branch = choose
    (at_symbol LeftBrace (rule statements ∷ rule may_end ∷ rule more_branches ∷ []) ∷ [])
    (rule end_of_reception ∷ [])
-- end more_branches
production end_of_reception =
    choose (at_symbol Semicolon (rule more_branches ∷ []) ∷ []) (rule closing ∷ [])
-- { branch } [ otherwise ] "}"
production more_branches =
    choose (before (of_symbol RightBrace ∷ []) (rule closing ∷ []) ∷ []) (rule a_branch ∷ [])
-- "(" "var" "integer" i ":=" integer ";" i "<" integer ";" i ":=" i "+" "1" ")"
production turns = alone
    (sy LeftParen ∷ wo w.Var ∷ wo w.Integer ∷ token binds ∷ sy Assign ∷ rule an_integer
    ∷ sy Semicolon
    ∷ token same ∷ sy Less ∷ rule an_integer ∷ sy Semicolon
    ∷ token same ∷ sy Assign ∷ token same ∷ sy Plus ∷ token (exactly 1) ∷ sy RightParen ∷ [])
-- integer
production an_integer = choose (at_symbol Minus (token negated ∷ []) ∷ []) (token positive ∷ [])
-- value
production a_value = choose (at a_name [] ∷ []) (rule unnamed_value ∷ [])
-- integer | "true" | "false" | text | "{" value_entries
production unnamed_value = choose
    (before (of_symbol Minus ∷ a_number ∷ []) (rule an_integer ∷ [])
    ∷ at_word w.True [] ∷ at_word w.False [] ∷ at a_text [] ∷ [])
    (sy LeftBrace ∷ rule value_entries ∷ [])
-- [ value { "," value } ] "}" | name ":=" value { "," name ":=" value } "}"
production value_entries = choose
    (at_symbol RightBrace [] ∷ at a_name (rule after_value_name ∷ []) ∷ [])
    (rule unnamed_value ∷ rule more_values ∷ sy RightBrace ∷ [])
-- ":=" value { "," name ":=" value } "}" | { "," value } "}"
production after_value_name = choose
    (at_symbol Assign (rule a_value ∷ rule more_value_fields ∷ sy RightBrace ∷ []) ∷ [])
    (rule more_values ∷ sy RightBrace ∷ [])
-- { "," value }
production more_values = choose (at_symbol Comma (rule a_value ∷ rule more_values ∷ []) ∷ []) []
-- name ":=" value
production a_value_field = alone (token a_name ∷ sy Assign ∷ rule a_value ∷ [])
-- { "," name ":=" value }
production more_value_fields = choose
    (at_symbol Comma (rule a_value_field ∷ rule more_value_fields ∷ []) ∷ []) []
-- template
production a_template = choose
    (before (of_symbol Minus ∷ a_number ∷ []) (rule an_integer ∷ []) ∷ [])
    (rule uncounted_template ∷ [])
-- name | other_template
production uncounted_template = choose (at a_name [] ∷ []) (rule other_template ∷ [])
-- integer | other_template
production counted_template = choose
    (before (of_symbol Minus ∷ a_number ∷ []) (rule an_integer ∷ []) ∷ [])
    (rule other_template ∷ [])
-- "true" | "false" | text | "?" | "*" | "(" in_parentheses | "complement" "(" template { "," template } ")"
-- | "pattern" text | "{" template_entries
production other_template = choose
    (at_word w.True [] ∷ at_word w.False [] ∷ at a_text [] ∷ at_symbol Question []
    ∷ at_symbol Star []
    ∷ at_symbol LeftParen (rule in_parentheses ∷ [])
    ∷ at_word w.Complement
    (sy LeftParen ∷ rule a_template ∷ rule more_templates ∷ sy RightParen ∷ [])
    ∷ at_word w.Pattern (token a_pattern ∷ []) ∷ [])
    (sy LeftBrace ∷ rule template_entries ∷ [])
-- template { "," template } ")" | ( integer | "-" "infinity" ) ".." ( integer | "infinity" ) ")"
production in_parentheses = choose
    (at_symbol Minus (rule after_minus ∷ [])
    ∷ before (a_number ∷ []) (token positive ∷ rule after_number ∷ []) ∷ [])
    (rule uncounted_template ∷ rule more_templates ∷ sy RightParen ∷ [])
-- "infinity" ".." upper ")" | number after_number
production after_minus = choose
    (at_word w.Infinity (sy DotDot ∷ rule upper ∷ sy RightParen ∷ []) ∷ [])
    (token negated ∷ rule after_number ∷ [])
-- ".." ( integer | "infinity" ) ")" | { "," template } ")"
production after_number = choose
    (at_symbol DotDot (rule upper ∷ sy RightParen ∷ []) ∷ [])
    (rule more_templates ∷ sy RightParen ∷ [])
-- integer | "infinity"
production upper = choose (at_word w.Infinity [] ∷ []) (rule an_integer ∷ [])
-- [ template { "," template } ] "}" | name ":=" template { "," name ":=" template } "}"
production template_entries = choose
    (at_symbol RightBrace [] ∷ at a_name (rule after_template_name ∷ []) ∷ [])
    (rule counted_template ∷ rule more_templates ∷ sy RightBrace ∷ [])
-- ":=" template { "," name ":=" template } "}" | { "," template } "}"
production after_template_name = choose
    (at_symbol Assign (rule a_template ∷ rule more_template_fields ∷ sy RightBrace ∷ []) ∷ [])
    (rule more_templates ∷ sy RightBrace ∷ [])
-- { "," template }
production more_templates = choose
    (at_symbol Comma (rule a_template ∷ rule more_templates ∷ []) ∷ []) []
-- name ":=" template
production a_template_field = alone (token a_name ∷ sy Assign ∷ rule a_template ∷ [])
-- { "," name ":=" template }
production more_template_fields = choose
    (at_symbol Comma (rule a_template_field ∷ rule more_template_fields ∷ []) ∷ []) []

-- whether a rule's nodes note the line of their first token: a module, definitions, names where they are declared, and
-- statements
abbrev pub notes_line : Rule → Bool
notes_line a_module = true
notes_line a_definition = true
notes_line declared_name = true
notes_line a_variable = true
notes_line a_setup = true
notes_line a_start = true
notes_line after_variables = true
notes_line after_statements = true
notes_line a_statement = true
notes_line a_branch = true
notes_line _ = false
