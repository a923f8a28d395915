-- The rules of the grammar, by name.

-- a rule, named after what it spells
pub data Rule : Type 0 where
  a_module definitions a_definition after_type after_record end_of_list fields a_field : Rule
  more_fields ways a_way end_of_way more_ways way_word more_types declarations a_declaration : Rule
  end_of_declaration more_names declared_name a_type a_predefined behaviour parameters : Rule
  a_parameter more_parameters may_have_system may_end closing variables a_variable : Rule
  end_of_variable case_setups a_setup a_pair a_place a_place_owner after_case_var : Rule
  after_two_names end_of_setup case_starts a_start variable_parts case_action after_case_name : Rule
  after_start arguments more_arguments end_of_start case_variables after_variables : Rule
  end_of_case_variable case_statements after_statements case_statement case_unnamed case_all : Rule
  after_case_all end_of_case end_of_case_statement statements a_statement plain end_of_plain : Rule
  set_verdict verdict_word all_ports named named_operation other_operation control_word sent : Rule
  may_have_value receivers addressees who receiving received may_have_template may_have_from : Rule
  redirect redirected may_have_sender compound a_branch after_bracket a_reception : Rule
  an_otherwise end_of_branch end_of_reception more_branches turns an_integer a_value : Rule
  unnamed_value value_entries after_value_name more_values a_value_field more_value_fields : Rule
  a_template uncounted_template counted_template other_template in_parentheses after_minus : Rule
  after_number upper template_entries after_template_name more_templates a_template_field : Rule
  more_template_fields : Rule
