-- How the lines on messages begin.
use Rattle.std.specs.Prelude.{◌≡◌, ◌≤◌, ℕ, List, ◌++◌, All, Some, codes, drop}
use Rattle.tp_config.specs.Setup.{Setup, IsComponent, IsPort}
use Rattle.tp_report.specs.declared.opening.Fate.{Fate}
use Rattle.tp_report.specs.declared.opening.Fate.TheVariants as fate
use Rattle.tp_report.specs.declared.opening.Opening.{Opening}
use Rattle.tp_report.specs.declared.opening.Opening.TheVariants as opening
use Rattle.tp_report.specs.declared.opening.OpeningPieces.{OpeningPieces}
use Rattle.tp_report.specs.declared.opening.KeptOpening.{KeptOpening}
use Rattle.tp_report.specs.declared.opening.KeptOpenings.{KeptOpenings}
use Rattle.tp_report.specs.ReportWords.{component_name, full_name, port_name}

-- the word for what happened to a message, with the space after it
abbrev pub fate_word : Fate → List ℕ
fate_word fate.Came = codes "came "
fate_word fate.Took = codes "took "
fate_word fate.Found = codes "found "
fate_word fate.Dropped = codes "dropped "
fate_word fate.Left = codes "left "

-- the opening of a line on a message
abbrev pub opening_text : Setup → Opening → List ℕ
opening_text s (opening.Sent to) = codes "sent " ++ full_name s to
opening_text s (opening.At happened port sender) = fate_word happened ++ (port_name s port ++ (codes " " ++ component_name s sender))

-- the pieces, one after the other
abbrev pub pieces_text : OpeningPieces → List ℕ
pieces_text p = p.word.now ++ (p.front.now ++ (p.between.now ++ p.back.now))

-- the port and the component that the opening names belong to the configuration
abbrev pub NamesKnown : Setup → Opening → Type 0
NamesKnown s (opening.Sent to) = IsPort s to
NamesKnown s (opening.At happened port sender) = IsPort s port × IsComponent s sender

-- the kept text, if there is one, is the text of the kept opening
pub record HasItsText (s : Setup) (b : KeptOpening) : Type 0 where
  pub within : b.start ≤ 64
  pub same : (o : Opening) → b.of ≡ Some o → drop b.start b.text ≡ opening_text s o

-- the same of all that are kept
abbrev pub HaveTheirTexts : Setup → KeptOpenings → Type 0
HaveTheirTexts s k = All (HasItsText s) k.all
