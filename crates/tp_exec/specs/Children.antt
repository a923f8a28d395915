-- The components of a run that have begun, while their threads run.
use Rattle.std.specs.Prelude.{◌≡◌, List}
use Rattle.tp_play.specs.TestCases.{Made}
use Rattle.tp_inbox.specs.Ledgers.{Inbox}
use Rattle.tp_exec.specs.declared.threads.Child.{Child}
use Rattle.tp_exec.specs.declared.threads.Child.TheVariants as child
use Rattle.tp_exec.specs.Returns.{HasReturned, IsBusy, IsYetToBegin, identity_of}
use Rattle.tp_exec.specs.Rounds.{Link}

-- the identity of the component's worker, which its thread has returned or will return
abbrev pub identity_at : Child → Inbox × List Link
identity_at (child.Running h) = identity_of h.promise.worker.value
identity_at (child.Here x) = identity_of x
identity_at (child.Done p) = identity_of p.worker

-- the component executes its part of this test case, will execute it, or has executed it
abbrev pub IsChild : Made → Child → Type 0
IsChild made (child.Running h) = h.promise.test_case.value ≡ made
IsChild made (child.Here x) = IsYetToBegin made x × IsBusy made x
IsChild made (child.Done p) = HasReturned made p
