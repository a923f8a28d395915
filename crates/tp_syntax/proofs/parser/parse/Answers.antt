-- The module that is read, or the fault in the front of the text's tokens.
use Rattle.std.proofs.Common.{inr, ◌≡◌, ◌+◌, ◌<◌, List, None, length, map, ap, subst, ◌∙◌, arith}
use Rattle.std.proofs.lemmas.List.{length-map}
use Rattle.tp_syntax.specs.declared.token.Placed.{Placed}
use Rattle.tp_syntax.specs.Cut.{newlines}
use Rattle.tp_syntax.specs.Lexeme.{PlacedLexeme, placed_lexeme}
use Rattle.tp_syntax.specs.declared.stuck.Stuck.{Stuck}
use Rattle.tp_syntax.specs.declared.stuck.Stuck.TheVariants.{At}
use Rattle.tp_syntax.specs.Item.{rule}
use Rattle.tp_syntax.specs.Rule.{a_module}
use Rattle.tp_syntax.specs.Reading.{Fails, Reads}
use Rattle.tp_syntax.specs.Refusal.{IsText}
use Rattle.tp_syntax.specs.DefinitionTrees.{module_tree}
use Rattle.tp_syntax.specs.Faults.{fault_in}
use Rattle.tp_syntax.specs.SettledTokens.{settled}
use Rattle.tp_syntax.proofs.ParsedTexts.{fault_behind, fault_within, whole_front, whole_read}
use Rattle.tp_syntax.proofs.parser.parse.Goals as goal
use Rattle.tp_syntax.proofs.parser.parse.Goals.{else-is_empty-via-then-is_empty+else-is_none, else-is_empty-via-else-is_empty}

pub returns-then-is_none-clause-read : goal.returns-then-is_none-clause-read
returns-then-is_none-clause-read c =
    let none : length c.module.new.self.rest.now ≡ 0 = grind arith in
    let no_cut : c.front_of-front.result.beyond ≡ None = grind arith in
    let whole = whole_front c.front_of-front.ensures no_cut in
    let seen : map placed_lexeme c.deref.result.now ≡ settled (map placed_lexeme c.in_ok-tokens.tokens.items) =
    ap (λ (ps : List Placed). map placed_lexeme ps) c.deref.ensures.value ∙ (c.in_ok-settled.ensures ∙ ap settled whole.0) in record {
      tokens = map placed_lexeme c.in_ok-tokens.tokens.items;
      has = record { are = c.in_ok-tokens.ensures.tokens; limits = c.in_ok-tokens.ensures.limits; short = c.in_ok-tokens.ensures.short };
      within = whole.1;
      spelled = subst (λ (ts : List PlacedLexeme). IsText ts (module_tree c.in-Ok.module)) seen
          (whole_read _ _ c.module.new.self.rest.now c.in-Ok.ensures.parses.parsed none);
    }

pub returns-in-Ok-clause-refused : goal.returns-in-Ok-clause-refused
returns-in-Ok-clause-refused c =
    let front = map placed_lexeme c.front_of-front.result.tokens.items in
    let beyond = c.front_of-front.result.beyond in
    let left = length c.module.new.self.rest.now in
    let seen : map placed_lexeme c.deref.result.now ≡ settled front =
    ap (λ (ps : List Placed). map placed_lexeme ps) c.deref.ensures.value ∙ c.in_ok-settled.ensures in
    let reads : Reads (rule a_module) (settled front) (module_tree c.in-Ok.module) (map placed_lexeme c.module.new.self.rest.now) =
    subst (λ (ts : List PlacedLexeme). Reads (rule a_module) ts (module_tree c.in-Ok.module) (map placed_lexeme c.module.new.self.rest.now)) seen
    c.in-Ok.ensures.parses.parsed in
    let some : beyond ≡ None → 0 < left = λ h. elim c.else-is_empty.branch [
      | else-is_empty-via-then-is_empty+else-is_none w ↦ absurd (grind arith)
      | else-is_empty-via-else-is_empty w ↦ grind arith
    ] in
    let told : c.fault.result ≡ fault_in (settled front) beyond left (newlines c.args.text.now + 1) =
    c.fault.ensures
    ∙ (ap (λ (ps : List Placed). fault_in (map placed_lexeme ps) beyond left (newlines c.args.text.now + 1)) c.deref-in-Ok.ensures.value
    ∙ ap (λ (ts : List PlacedLexeme). fault_in ts beyond left (newlines c.args.text.now + 1)) c.in_ok-settled.ensures) in
    inr (
      map placed_lexeme c.in_ok-tokens.tokens.items,
      record { are = c.in_ok-tokens.ensures.tokens; limits = c.in_ok-tokens.ensures.limits; short = c.in_ok-tokens.ensures.short },
      fault_behind (module_tree c.in-Ok.module) c.module.new.self.rest.now c.front_of-front.ensures reads
          (length-map c.module.new.self.rest.now placed_lexeme) some told,
    )

pub returns-in-Err-At-clause-refused : goal.returns-in-Err-At-clause-refused
returns-in-Err-At-clause-refused c =
    let front = map placed_lexeme c.front_of-front.result.tokens.items in
    let beyond = c.front_of-front.result.beyond in
    let left = c.in-Err-At.left in
    let same : c.in-Err-At.field-0 ≡ At left = cc (c.in-Err-At.field-0-is) in
    let seen : map placed_lexeme c.deref.result.now ≡ settled front =
    ap (λ (ps : List Placed). map placed_lexeme ps) c.deref.ensures.value ∙ c.in_ok-settled.ensures in
    let fails : Fails (rule a_module) (settled front) (At left) =
    subst (λ (ts : List PlacedLexeme). Fails (rule a_module) ts (At left)) seen
    (subst (λ (e : Stuck). Fails (rule a_module) (map placed_lexeme c.deref.result.now) e) same c.in-Err-At.ensures.parses.parsed) in
    let first : c.fault-in-Err-At.result ≡ fault_in (map placed_lexeme c.deref-in-Err-At.result.now) beyond left (newlines c.args.text.now + 1) =
    cc (c.fault-in-Err-At.ensures, c.in-Err-At.left-is) in
    let told : c.fault-in-Err-At.result ≡ fault_in (settled front) beyond left (newlines c.args.text.now + 1) =
    first ∙ (ap (λ (ps : List Placed). fault_in (map placed_lexeme ps) beyond left (newlines c.args.text.now + 1)) c.deref-in-Err-At.ensures.value
    ∙ ap (λ (ts : List PlacedLexeme). fault_in ts beyond left (newlines c.args.text.now + 1)) c.in_ok-settled.ensures) in
    inr (
      map placed_lexeme c.in_ok-tokens.tokens.items,
      record { are = c.in_ok-tokens.ensures.tokens; limits = c.in_ok-tokens.ensures.limits; short = c.in_ok-tokens.ensures.short },
      fault_within left c.front_of-front.ensures fails told,
    )
