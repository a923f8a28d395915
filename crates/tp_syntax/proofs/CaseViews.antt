-- The frames of the parts of a test case's body.
use Rattle.std.proofs.Common.{◌≡◌, ◌≤◌, ℕ, Bool, true, false, ◌&&◌, List, [], ◌∷◌, ◌++◌, refl, ap, sym, subst, ◌∙◌, append_assoc, append-nil, arith}
use Rattle.std.proofs.lemmas.Bool.{false≢true}
use Rattle.tp_syntax.specs.Lexeme.{PlacedLexeme}
use Rattle.tp_syntax.specs.Rule.{a_setup, a_start, closing, after_statements, after_variables, case_setups, case_starts, case_statements, case_unnamed, case_variables, end_of_case, end_of_case_statement, end_of_case_variable, end_of_setup, end_of_start}
use Rattle.tp_tree.specs.declared.tree.Action.{Action}
use Rattle.tp_tree.specs.declared.tree.Action.TheViews.{roll-Statement}
use Rattle.tp_syntax.specs.declared.cursor.Parser.{Parser}
use Rattle.tp_syntax.specs.declared.parts.End.{End}
use Rattle.tp_syntax.specs.declared.case_bodies.CaseBody.{CaseBody}
use Rattle.tp_syntax.specs.declared.cases.Stage.{Stage}
use Rattle.tp_syntax.specs.declared.cases.Stage.TheVariants as stage
use Rattle.tp_syntax.specs.CaseTrees.{IsUpTo, part, rank_of, stage_rank, statement_part, Kind, Part, pairs, creates, starts, does, done, case_all_frames, is_action, is_all, is_over, is_statement, is_unnamed, part_frames, part_rule, parts_frames, stage_of, unnamed_frames}
use Rattle.tp_syntax.specs.Parsing.{Ends, Enters, HasEnd, semicolon_frames, Frame, Leads, enter, end_frames, part_or_end, left}
use Rattle.tp_syntax.specs.StatementTrees.{Step, compounded, shape_of, verdict_set}
use Rattle.tp_syntax.proofs.ReadingGoesOn.{leading, leads_on}
use Rattle.tp_syntax.proofs.PredefinedTypes.{predefined_parsing}
use Rattle.tp_syntax.proofs.StatementViews.{step_made}
use Rattle.tp_syntax.proofs.StepsOfReading.{parsing}

-- which parts are also others
pub all_unnamed : (k : Kind) → is_all k ≡ true → is_unnamed k ≡ true
all_unnamed (does (compounded t)) e = refl
all_unnamed (does (verdict_set v)) e = refl
all_unnamed k e = e

pub all_frames_unnamed : (k : Kind) (b : Bool) → is_all k ≡ true → unnamed_frames k b ≡ enter case_unnamed ++ case_all_frames k b
all_frames_unnamed (does (compounded t)) b e = absurd (false≢true e)
all_frames_unnamed (does (verdict_set v)) b e = absurd (false≢true e)
all_frames_unnamed k b e = refl

pub unnamed_statement : (k : Kind) → is_unnamed k ≡ true → is_statement k ≡ true
unnamed_statement (does s) e = refl
unnamed_statement done e = refl
unnamed_statement k e = e

pub statement_action : (k : Kind) → is_statement k ≡ true → is_action k ≡ true
statement_action (starts n f args) e = refl
statement_action k e = e

-- how late they stand
pub action_late : (k : Kind) → is_action k ≡ true → 1 ≤ stage_rank (stage_of k)
action_late (pairs x a b) e = absurd (false≢true e)
action_late (creates c) e = absurd (false≢true e)
action_late k e = omega arith

pub statement_late : (k : Kind) → is_statement k ≡ true → 3 ≤ stage_rank (stage_of k)
statement_late (does s) e = omega arith
statement_late done e = omega arith
statement_late k e = absurd (false≢true e)

-- a part of the stage that it leads to, unless it is the last
pub rank_of_stage : (k : Kind) (b : Bool) → (is_over k && b) ≡ false → b ≡ true → rank_of k ≡ stage_rank (stage_of k)
rank_of_stage done b e n = absurd (false≢true (sym e ∙ n))
rank_of_stage k b e n = refl

-- the ends of parts
pub enter_case_statements : {p : Parser} {b : Bool} → Enters p b → Leads case_statements (left p) (enter case_statements) (part_or_end after_statements b) (left p)
enter_case_statements e = e.entered case_statements after_statements refl refl

pub enter_setups : {p : Parser} {b : Bool} → Enters p b → Leads case_setups (left p) (enter case_setups) (part_or_end a_setup b) (left p)
enter_setups e = e.entered case_setups a_setup refl refl

pub end_setup : {p q : Parser} {x : End} → Ends p x q → Leads end_of_setup (left p) (end_frames end_of_setup case_setups x.has_semicolon) (part_or_end a_setup x.is_open) (left q)
end_setup e = e.ended end_of_setup case_setups a_setup refl refl refl refl

pub end_start : {p q : Parser} {x : End} → Ends p x q → Leads end_of_start (left p) (end_frames end_of_start case_starts x.has_semicolon) (part_or_end a_start x.is_open) (left q)
end_start e = e.ended end_of_start case_starts a_start refl refl refl refl

pub end_variable : {p q : Parser} {x : End} → Ends p x q
    → Leads end_of_case_variable (left p) (end_frames end_of_case_variable case_variables x.has_semicolon) (part_or_end after_variables x.is_open) (left q)
end_variable e = e.ended end_of_case_variable case_variables after_variables refl refl refl refl

pub end_statement : {p q : Parser} {x : End} → Ends p x q
    → Leads end_of_case_statement (left p) (end_frames end_of_case_statement case_statements x.has_semicolon) (part_or_end after_statements x.is_open) (left q)
end_statement e = e.ended end_of_case_statement case_statements after_statements refl refl refl refl

pub end_done : {p q : Parser} {b : Bool} → HasEnd p b q → Leads end_of_case (left p) (semicolon_frames end_of_case b) closing (left q)
end_done {b = true} e = e.ended end_of_case closing refl refl
end_done {b = false} e = e.ended end_of_case closing refl refl

-- the stage after these parts
abbrev pub stage_behind : Stage → List Part → Stage
stage_behind s [] = s
stage_behind s (p ∷ ps) = stage_behind (stage_of p.kind) ps

-- one more part
frames_push : (s : Stage) (ps : List Part) (p : Part)
    → parts_frames s (ps ++ p ∷ []) ≡ parts_frames s ps ++ part_frames (stage_behind s ps) p.line p.kind p.semicolon
frames_push s [] p = simp append-nil
frames_push s (q ∷ ps) p =
    ap (λ (fs : List Frame). part_frames s q.line q.kind q.semicolon ++ fs) (frames_push (stage_of q.kind) ps p)
    ∙ sym (append_assoc (part_frames s q.line q.kind q.semicolon) (parts_frames (stage_of q.kind) ps) (part_frames (stage_behind (stage_of q.kind) ps) p.line p.kind p.semicolon))

pub stage_pushed : (s : Stage) (ps : List Part) (p : Part) → stage_behind s (ps ++ p ∷ []) ≡ stage_of p.kind
stage_pushed s [] p = refl
stage_pushed s (q ∷ ps) p = stage_pushed (stage_of q.kind) ps p

pub case_grown : (ps qs : List Part) (p : Part) (s : Stage) (b : Bool) {next : Stage} {n : ℕ} {ts us ws : List PlacedLexeme} → qs ≡ ps ++ p ∷ []
    → s ≡ stage_behind stage.Setups ps → next ≡ stage_of p.kind → p.line ≡ n
    → Leads case_setups ts (enter case_setups ++ parts_frames stage.Setups ps) (part_rule s) us
    → Leads (part_rule s) us (part_frames s n p.kind p.semicolon) (part_or_end (part_rule (stage_of p.kind)) b) ws
    → Leads case_setups ts (enter case_setups ++ parts_frames stage.Setups qs) (part_or_end (part_rule next) b) ws
case_grown ps qs p s b {next} {n} {ts} {ws = ws} e at m l so h =
    let k : parts_frames stage.Setups qs ≡ parts_frames stage.Setups ps ++ part_frames s n p.kind p.semicolon =
    ap (parts_frames stage.Setups) e ∙ (frames_push stage.Setups ps p
    ∙ (ap (λ (r : Stage). parts_frames stage.Setups ps ++ part_frames r p.line p.kind p.semicolon) (sym at)
    ∙ ap (λ (x : ℕ). parts_frames stage.Setups ps ++ part_frames s x p.kind p.semicolon) l)) in
    subst (λ (r : Stage). Leads case_setups ts (enter case_setups ++ parts_frames stage.Setups qs) (part_or_end (part_rule r) b) ws) (sym m)
    (subst (λ (fs : List Frame). Leads case_setups ts (enter case_setups ++ fs) (part_or_end (part_rule (stage_of p.kind)) b) ws) (sym k)
    (leads_on so h))

pub stage_grown : (ps qs : List Part) (p : Part) {next : Stage} → qs ≡ ps ++ p ∷ [] → next ≡ stage_of p.kind → next ≡ stage_behind stage.Setups qs
stage_grown ps qs p e m = m ∙ sym (ap (stage_behind stage.Setups) e ∙ stage_pushed stage.Setups ps p)

pub fits_grown : (k : Kind) (b : Bool) {next : Stage} {body : CaseBody} → next ≡ stage_of k → (is_over k && b) ≡ false → IsUpTo (rank_of k) body
    → b ≡ true → IsUpTo (stage_rank next) body
fits_grown k b {body = body} m e u n = subst (λ (x : ℕ). IsUpTo x body) (rank_of_stage k b e n ∙ ap stage_rank (sym m)) u

-- a statement, as it is kept
pub part_made : (n : ℕ) (x : Action) (e : Bool) → statement_part (roll-Statement (record { line = n; action = x; has_semicolon = e })) ≡ part n (does (shape_of x)) e
part_made n x e = ap (λ (s : Step). part s.line (does s.shape) s.semicolon) (step_made n x e)

pub ruleset case_parsing =
    (parsing, leading, predefined_parsing, enter_case_statements, enter_setups, end_setup, end_start, end_variable, end_statement, end_done, all_unnamed, all_frames_unnamed, unnamed_statement, statement_action, action_late, statement_late)
