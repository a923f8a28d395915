-- Laws: a valid text is accepted, and has one test case.
use Rattle.std.specs.Prelude.{◌≡◌, ℕ, List}
use Rattle.tp_tree.specs.declared.tree.Module.{Module}
use Rattle.tp_syntax.specs.ReadTexts.{IsReadAs}
use Rattle.tp_play.specs.TestCases.{Made}
use Rattle.tp_script.specs.declared.fault.TestCaseFault.{TestCaseFault}
use Rattle.tp_script.specs.declared.fault.TestCaseFault.TheVariants.{Refused, Memory}
use Rattle.tp_script.specs.{TestCases.WellFormed, Scripts.IsScriptFaultOf, Scripts.IsScriptOf}

-- the fault is that memory ran out
abbrev pub IsWantOfMemory : TestCaseFault → Type 0
IsWantOfMemory (Refused rule line) = ⊥
IsWantOfMemory (Memory m) = Unit {0}

-- a text that is read as a module that obeys the rules is refused only if memory runs out
abbrev pub ScriptsAreAccepted : Type 0
ScriptsAreAccepted =
    (text : List ℕ) (parsed : Module) (fault : TestCaseFault) → IsReadAs text parsed → WellFormed parsed
    → IsScriptFaultOf text fault → IsWantOfMemory fault

-- a text is a script of at most one test case: its components, their connections, its types and each statement that a
-- component executes are the same, however the text is read
abbrev pub ScriptsHaveOneTestCase : Type 0
ScriptsHaveOneTestCase = (text : List ℕ) (made other : Made) → IsScriptOf text made → IsScriptOf text other → made ≡ other
