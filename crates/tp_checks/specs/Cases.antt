-- The test case that was found.
use Rattle.std.specs.{Prelude.Option, Prelude.List, Prelude.option_to_list, Option.option_map}
use Rattle.tp_tree.specs.declared.tree.TestCase.{TestCase}
use Rattle.tp_checks.specs.declared.unique_names.CaseAt.{CaseAt}

-- the test cases found so far: at most one
abbrev pub cases_of : Option CaseAt → List TestCase
cases_of found = option_to_list (option_map (λ (c : CaseAt). c.case.now) found)
