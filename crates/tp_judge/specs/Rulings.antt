-- The ruling on a trace, and on a text.
use Rattle.std.specs.Prelude.{◌≢◌, ℕ, List, [], All}
use Rattle.tp_judge.specs.LineTexts.{Told}
use Rattle.tp_judge.specs.Tree.{IsTraceOf}
use Rattle.tp_judge.specs.declared.place.UnlawfulPlace.{UnlawfulPlace}
use Rattle.tp_judge.specs.declared.trace.IndexedTrace.{IndexedTrace}
use Rattle.tp_judge.specs.Judged.{AreInOrder, IsLawful, IsUnlawfulPlace}
use Rattle.tp_judge.specs.OneRun.{IsOneRunAnswer}
use Rattle.tp_judge.specs.ToldOf.{AreToldOf}
use Rattle.tp_judge.specs.declared.referee.ruling.Ruling.{Ruling}
use Rattle.tp_judge.specs.declared.referee.ruling.Ruling.TheVariants as ruling
use Rattle.tp_judge.specs.Numbering.{IsNumberingOf}

-- a rule is broken at each of the places, which are one or more, in the order of their lines: they are all places that
-- are reported for the trace
pub record IsUnlawful (trace : IndexedTrace) (places : List UnlawfulPlace) : Type 0 where
  pub some : places ≢ []
  pub unlawful : IsLawful trace → ⊥
  pub told : All (IsUnlawfulPlace trace) places
  pub in_order : AreInOrder places
  pub all : AreToldOf trace places

-- **lawful if and only if the trace is**, and then one run if and only if the trace is one; if it isn't lawful, each
-- place is true, and none is left out or reported twice. For a port or a route no other place could be reported
abbrev pub IsRulingOn : IndexedTrace → Ruling → Type 0
IsRulingOn trace (ruling.Lawful run) = IsLawful trace × IsOneRunAnswer trace run
IsRulingOn trace (ruling.Unlawful places) = IsUnlawful trace places.items

-- the text is a trace, of which this is the numbering
pub record IsNumberedText (text : List ℕ) (trace : IndexedTrace) : Type 0 where
  pub tolds : List Told
  pub read : IsTraceOf text tolds
  pub numbered : IsNumberingOf tolds trace

-- the ruling on a text is the ruling on its trace
pub record IsRulingOf (text : List ℕ) (ruling : Ruling) : Type 0 where
  pub trace : IndexedTrace
  pub numbered : IsNumberedText text trace
  pub judged : IsRulingOn trace ruling
