-- What `parse` returns, a module or the first fault of a text, and the laws of it.
use Rattle.std.specs.Prelude.{◌≡◌, ℕ, ◌+◌, ◌<◌, ◌≤◌, ◌⊎◌, List, Option, None, length}
use Rattle.tp_syntax.specs.declared.script_fault.ScriptFault.{ScriptFault}
use Rattle.tp_syntax.specs.Lexeme.{PlacedLexeme}
use Rattle.tp_syntax.specs.Cut.{AreTokens, newlines}
use Rattle.tp_syntax.specs.TextFaults.{AreWithinLimits, IsRefused}
use Rattle.tp_syntax.specs.declared.stuck.Stuck.TheVariants.{At}
use Rattle.tp_syntax.specs.Refusal.{BeginsText, IsText, NoneGoesOn}
use Rattle.tp_tree.specs.declared.tree.Module.{Module}
use Rattle.tp_syntax.specs.DefinitionTrees.{module_tree}
use Rattle.tp_syntax.specs.Faults.{AreTokensSeen, AreWithin, fault_in}
use Rattle.tp_syntax.specs.SettledTokens.{settled}
use Rattle.tp_syntax.specs.declared.script_fault.TextRule.{TextRule}
use Rattle.tp_syntax.specs.declared.script_fault.ScriptFault.TheVariants.{Refused}

-- the text isn't too long, and has these tokens, each within the limits of names and numbers
pub record HasTokens (bytes : List ℕ) (tokens : List PlacedLexeme) : Type 0 where
  pub are : AreTokens bytes tokens
  pub limits : AreWithinLimits tokens
  pub short : length bytes ≤ 1048576

-- the text's tokens are within the limits of the grammar and, when settled, spell the module, with its lines
pub record IsReadAs (bytes : List ℕ) (m : Module) : Type 0 where
  pub tokens : List PlacedLexeme
  pub has : HasTokens bytes tokens
  pub within : AreWithin tokens
  pub spelled : IsText (settled tokens) (module_tree m)

-- the grammar refuses the tokens with this fault: it can't read the last `left` of the tokens that the parser sees,
-- when settled. Some text begins with those before them. Unless `left` is 0 and one of the tokens is beyond the limits,
-- no text begins with those and the first of the last `left`, or is all the tokens if `left` is 0.
pub record IsFaultOf (tokens : List PlacedLexeme) (last : ℕ) (fault : ScriptFault) : Type 0 where
  pub front : List PlacedLexeme
  pub beyond : Option ℕ
  pub left : ℕ
  pub seen : AreTokensSeen tokens front beyond
  pub begins : BeginsText (settled front) (At left)
  pub none : (beyond ≡ None) ⊎ (0 < left) → NoneGoesOn (settled front) (At left)
  pub told : fault ≡ fault_in (settled front) beyond left last

-- the text itself is refused with this fault; or it has tokens, and the grammar refuses them with this fault; or memory
-- ran out
abbrev pub IsUnread : List ℕ → ScriptFault → Type 0
IsUnread bytes fault =
    IsRefused bytes fault
    ⊎ ((tokens : List PlacedLexeme) × HasTokens bytes tokens
    × IsFaultOf tokens (newlines bytes + 1) fault)

-- two modules with the same tree are equal
abbrev pub TreesDetermineModules : Type 0
TreesDetermineModules = (m n : Module) → module_tree m ≡ module_tree n → m ≡ n

-- a text is read as at most one module
abbrev pub ReadingsAreUnique : Type 0
ReadingsAreUnique = (text : List ℕ) (m n : Module) → IsReadAs text m → IsReadAs text n → m ≡ n

-- a text that is read as a module is refused for no rule
abbrev pub ReadTextsAreAccepted : Type 0
ReadTextsAreAccepted =
    (text : List ℕ) (m : Module) (rule : TextRule) (line : ℕ) → IsReadAs text m → IsUnread text (Refused rule line) → ⊥
