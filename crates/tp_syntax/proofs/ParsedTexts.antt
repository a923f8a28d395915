-- Texts that are read, and how others are refused.
use Rattle.std.proofs.Common.{inl, inr, ◌≡◌, ◌<◌, ℕ, List, [], ◌∷◌, Option, None, length, map, sym, arith}
use Rattle.tp_syntax.specs.declared.script_fault.ScriptFault.{ScriptFault}
use Rattle.tp_syntax.specs.declared.token.Placed.{Placed}
use Rattle.tp_syntax.specs.Lexeme.{PlacedLexeme, placed_lexeme}
use Rattle.tp_syntax.specs.declared.stuck.Stuck.TheVariants.{At}
use Rattle.tp_syntax.specs.Item.{next, rule}
use Rattle.tp_syntax.specs.Rule.{a_module}
use Rattle.tp_syntax.specs.Reading.{Tree, Reads, Fails}
use Rattle.tp_syntax.specs.Refusal.{IsText, refused_within}
use Rattle.tp_syntax.proofs.WholeTexts.{goes_no_further, refusal, told, whole_begins}
use Rattle.tp_syntax.specs.ReadTexts.{IsFaultOf}
use Rattle.tp_syntax.specs.Faults.{AreTokensSeen, AreWithin, fault_in}
use Rattle.tp_syntax.specs.SettledTokens.{settled}

-- all tokens are seen where none is beyond the limits
pub whole_front : {ts front : List PlacedLexeme} {beyond : Option ℕ} → AreTokensSeen ts front beyond → beyond ≡ None → (front ≡ ts) × AreWithin ts
whole_front (inl all) none = (all.0, all.2)
whole_front (inr c) none = absurd (cc (none, c.front_is.1))

-- where no token is left, the text is read
pub whole_read : (ts : List PlacedLexeme) (t : Tree) (ps : List Placed) → Reads (rule a_module) ts t (map placed_lexeme ps) → length ps ≡ 0 → IsText ts t
whole_read ts t [] h e = (told ts t).1 h
whole_read ts t (p ∷ ps) h e = absurd (omega arith)

some_next : (ps : List Placed) → 0 < length ps → next (map placed_lexeme ps) ≡ None → ⊥
some_next [] some e = absurd (omega arith)
some_next (p ∷ ps) some e = cc

module _ {tokens front : List PlacedLexeme} {beyond : Option ℕ} {last : ℕ} {fault : ScriptFault} where
  -- a token can't stand
  pub fault_within : (left : ℕ) → AreTokensSeen tokens front beyond → Fails (rule a_module) (settled front) (At left)
      → fault ≡ fault_in (settled front) beyond left last → IsFaultOf tokens last fault
  fault_within left seen f e = let k = refusal (settled front) (At left) (refused_within f) in record {
    front = front;
    beyond = beyond;
    left = left;
    seen = seen;
    begins = k.1;
    none = λ h. k.0;
    told = e;
  }

  -- a whole text ends before these
  pub fault_behind : (t : Tree) (ps : List Placed) → AreTokensSeen tokens front beyond → Reads (rule a_module) (settled front) t (map placed_lexeme ps)
      → length (map placed_lexeme ps) ≡ length ps → (beyond ≡ None → 0 < length ps) → fault ≡ fault_in (settled front) beyond (length ps) last
      → IsFaultOf tokens last fault
  fault_behind t ps seen h l some e = record {
    front = front;
    beyond = beyond;
    left = length ps;
    seen = seen;
    begins = whole_begins (settled front) (map placed_lexeme ps) t (length ps) h (sym l);
    none = λ c. goes_no_further (settled front) (map placed_lexeme ps) t (length ps) h (sym l) (some_next ps (elim c [ inl n ↦ some n | inr n ↦ n ]));
    told = e;
  }
