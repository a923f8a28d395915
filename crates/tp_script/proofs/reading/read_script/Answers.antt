-- What is refused isn't read as a module; or it is, and doesn't obey the rules; or memory was wanting.
use Rattle.tp_script.proofs.ParseAndCheckFaults.{checked_fault, unread_fault}
use Rattle.tp_script.proofs.reading.read_script.Goals as goal

pub returns-in_err-parsed-clause-fault : goal.returns-in_err-parsed-clause-fault
returns-in_err-parsed-clause-fault c =
    unread_fault c.from_residual.result c.in_err-parsed.field-0.0 c.args.text.now c.from_residual.ensures.1 c.in_err-parsed.ensures.refused

pub returns-in_err-test_case-clause-fault : goal.returns-in_err-test_case-clause-fault
returns-in_err-test_case-clause-fault c =
    checked_fault c.from_residual-in_err-test_case.result c.in_err-test_case.field-0.0 c.args.text.now c.in_ok-parsed.parsed
    c.from_residual-in_err-test_case.ensures.1 c.in_ok-parsed.ensures.read
    c.in_err-test_case.ensures.refused c.in_err-test_case.ensures.told
