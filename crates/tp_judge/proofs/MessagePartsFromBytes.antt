-- The parts of what is told of a message, from its bytes.
use Rattle.std.proofs.Common.{◌≡◌, ℕ, ◌<◌, ◌^◌, true, Option, Some, List, ◌∷◌, ◌++◌}
use Rattle.std.specs.Fmt.{decimal}
use Rattle.tp_judge.specs.declared.referee.line.MessageVerb.TheVariants as fate
use Rattle.tp_common.specs.Cutting.{after_space, lacks}
use Rattle.tp_judge.specs.LineTexts.{Letter, IsLetter, contents, letter_text}
use Rattle.tp_judge.specs.Read.{contents_text}
use Rattle.tp_judge.proofs.UniqueByteCuts.{first_only, lacks-append, lacks-decimal, lacks-graphic, lacks-port}

-- a number and what stands after it
pub contents_cut : (n : ℕ) (text word : List ℕ) (r : Option (List ℕ)) → n < 2 ^ 63 → lacks 32 word ≡ true
    → word ++ after_space r ≡ contents_text n text → (word ≡ decimal n) × (r ≡ Some text)
contents_cut n text word r below lack e = first_only word (decimal n) r (Some text) lack (lacks-decimal n below) e

-- a component and a port of it
pub place_lacks : (letter : Letter) → IsLetter letter → lacks 32 (letter.component ++ (46 ∷ letter.port)) ≡ true
place_lacks letter is =
    lacks-append 32 letter.component (46 ∷ letter.port) (lacks-graphic letter.component is.component.graphic)
    (lacks-port letter.port is.port.undotted)

pub sent_cut : (letter : Letter) (place : List ℕ) (r : Option (List ℕ)) → IsLetter letter → lacks 32 place ≡ true
    → place ++ after_space r ≡ letter_text fate.Sent letter → (place ≡ letter.component ++ (46 ∷ letter.port)) × (r ≡ Some (contents letter))
sent_cut letter place r is lack e =
    first_only place (letter.component ++ (46 ∷ letter.port)) r (Some (contents letter)) lack (place_lacks letter is) e

-- after any other word: the port, and then the component
pub port_cut : (letter : Letter) (port : List ℕ) (r : Option (List ℕ)) → IsLetter letter → lacks 32 port ≡ true
    → port ++ after_space r ≡ letter_text fate.Came letter
    → (port ≡ letter.port) × (r ≡ Some (letter.component ++ (32 ∷ contents letter)))
port_cut letter port r is lack e =
    first_only port letter.port r (Some (letter.component ++ (32 ∷ contents letter))) lack (lacks-port letter.port is.port.undotted) e

pub sender_cut : (letter : Letter) (component : List ℕ) (r : Option (List ℕ)) → IsLetter letter → lacks 32 component ≡ true
    → component ++ after_space r ≡ letter.component ++ (32 ∷ contents letter) → (component ≡ letter.component) × (r ≡ Some (contents letter))
sender_cut letter component r is lack e =
    first_only component letter.component r (Some (contents letter)) lack (lacks-graphic letter.component is.component.graphic) e
