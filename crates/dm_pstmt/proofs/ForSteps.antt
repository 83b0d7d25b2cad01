-- The clauses of a `for` as they are read step by step.
use Rattle.std.proofs.Common.{◌≡◌, ℕ, ◌+◌, ◌-◌, Bool, true, false, List, ◌++◌, length, drop, Option, Some, None, option_map, refl, sym, ap, ◌∙◌, append_assoc}
use Rattle.dm_syn.specs.declared.declared.Declared.{Declared}
use Rattle.dm_syn.specs.declared.statement.Stmt.{Stmt}
use Rattle.dm_syn.specs.declared.statement.ForStart.{ForStart}
use Rattle.dm_syn.specs.declared.expression.Expr.{Expr}
use Rattle.dm_syn.specs.declared.symbol.Symbol.TheVariants as symbol
use Rattle.dm_syn.specs.Sources.{Source}
use Rattle.dm_syn.specs.Trees as tree
use Rattle.dm_syn.specs.Views as view
use Rattle.dm_syn.specs.Scopes.{optional_declares, start_declares}
use Rattle.dm_syn.specs.Statements.{optional_after, start_after}
use Rattle.dm_pexpr.specs.declared.part.Part.{Part}
use Rattle.dm_pexpr.specs.Parsing.{lower, and_then, where_true}
use Rattle.dm_pexpr.specs.Parts.{IsPart, Gives}
use Rattle.dm_pexpr.proofs.Expressions.{holds}
use Rattle.dm_pexpr.proofs.TestLemmas.{fails}
use Rattle.dm_pstmt.specs.declared.nodes.ForClauses.{ForClauses}
use Rattle.dm_pstmt.specs.Kinds.{a_stmt, a_start, an_optional, clauses_from, seen_clauses}
use Rattle.dm_pstmt.specs.Parsing.{Within, within, stands, optional_of, start_of, for_start, for_condition, for_step, for_body, stmt_by, looping}
use Rattle.dm_pstmt.specs.Steps.{Clauses, closed_by, clause_of, with_step, behind_condition, behind_start, clauses_of, clauses_after, clauses_declare, looping_over}
use Rattle.dm_pstmt.proofs.Results.{then-some}
use Rattle.dm_pstmt.proofs.StatementSteps.{within-parts, stands-same, re-scoped, ended-after}
use Rattle.dm_pstmt.proofs.Wholes.{then-none, then-is, gives-along}

-- what is read behind a thing, in two steps
then-along : {A B C : Type 0} (whole : A → Option C) (last : B → Option C) (first : A → Option B) (found : Option A) → ((it : A) → whole it ≡ and_then last (first it))
    → and_then whole found ≡ and_then last (and_then first found)
then-along whole last first None same = refl
then-along whole last first (Some it) same = same it

then-map : {A B C : Type 0} (last : B → Option C) (first : A → B) (found : Option A) → and_then (λ it. last (first it)) found ≡ and_then last (option_map first found)
then-map last first None = refl
then-map last first (Some it) = refl

-- a test before them may come behind the first
guarded-along : {A B : Type 0} (test other : Bool) (whole : Option B) (last : A → Option B) (it : A) → test ≡ other → whole ≡ last it → where_true test whole ≡ and_then last (where_true other (Some it))
guarded-along test true whole last it same is = ap (λ b. where_true b whole) same ∙ is
guarded-along test false whole last it same is = ap (λ b. where_true b whole) same

-- the body behind the clauses, and the `for` of both
abbrev body_behind : Source → Within → List Declared → ℕ → Clauses → Option tree.Stmt
body_behind source inner names first clauses =
    and_then (looping_over first clauses) (inner.stmt (clauses_declare source clauses ++ names) (clauses_after (first + 2) clauses))

step-then-body : (source : Source) (inner : Within) (names : List Declared) (first : ℕ) (start : tree.ForStart) (condition step : Option tree.Expr)
    → for_step source inner names first start condition (optional_after (start_after (first + 2) start) condition + 1) step
    ≡ and_then (λ it. body_behind source inner names first (with_step start condition it))
    (closed_by source (optional_declares source condition ++ (start_declares source start ++ names)) (optional_after (start_after (first + 2) start) condition + 1) symbol.RightParen step)
step-then-body source inner names first start condition step =
    let place : ℕ = optional_after (start_after (first + 2) start) condition + 1 in
    guarded-along _ _ _ (λ it. body_behind source inner names first (with_step start condition it)) step
    (stands-same source names (optional_declares source step ++ (optional_declares source condition ++ (start_declares source start ++ names))) (optional_after place step) symbol.RightParen refl)
    (ap (λ those. and_then (for_body first start condition step) (inner.stmt those (optional_after place step + 1)))
    (ap (λ those. optional_declares source step ++ those) (sym (append_assoc (optional_declares source condition) (start_declares source start) names))
    ∙ sym (append_assoc (optional_declares source step) (optional_declares source condition ++ start_declares source start) names)))

condition-then-body : (source : Source) (inner : Within) (names : List Declared) (first : ℕ) (start : tree.ForStart) (condition : Option tree.Expr)
    → for_condition source inner names first start (start_after (first + 2) start) condition
    ≡ and_then (λ it. and_then (body_behind source inner names first) (behind_condition source inner (start_declares source start ++ names) start (start_after (first + 2) start) it))
    (closed_by source (start_declares source start ++ names) (start_after (first + 2) start) symbol.Semicolon condition)
condition-then-body source inner names first start condition =
    let at : ℕ = start_after (first + 2) start in
    let next : ℕ = optional_after at condition + 1 in
    let those : List Declared = optional_declares source condition ++ (start_declares source start ++ names) in
    guarded-along _ _ _ (λ it. and_then (body_behind source inner names first) (behind_condition source inner (start_declares source start ++ names) start at it)) condition
    (stands-same source names those (optional_after at condition) symbol.Semicolon refl)
    (then-along (for_step source inner names first start condition next) (λ it. body_behind source inner names first (with_step start condition it)) (closed_by source those next symbol.RightParen)
    (optional_of source inner.parts symbol.RightParen those next) (step-then-body source inner names first start condition)
    ∙ then-map (body_behind source inner names first) (with_step start condition) (clause_of source inner.parts symbol.RightParen those next))

start-then-body : (source : Source) (inner : Within) (names : List Declared) (first : ℕ) (start : tree.ForStart)
    → for_start source inner names first start ≡ and_then (body_behind source inner names first) (behind_start source inner names (first + 2) start)
start-then-body source inner names first start =
    let at : ℕ = start_after (first + 2) start in
    let those : List Declared = start_declares source start ++ names in
    then-along (for_condition source inner names first start at) (λ it. and_then (body_behind source inner names first) (behind_condition source inner those start at it)) (closed_by source those at symbol.Semicolon)
    (optional_of source inner.parts symbol.Semicolon those at) (condition-then-body source inner names first start)
    ∙ then-along (λ it. and_then (body_behind source inner names first) (behind_condition source inner those start at it)) (body_behind source inner names first) (behind_condition source inner those start at)
    (clause_of source inner.parts symbol.Semicolon those at) (λ it. refl)

-- a `for` is its clauses and then its body
for-is : (source : Source) (inner : Within) (names : List Declared) (first : ℕ)
    → stmt_by source inner names first looping ≡ where_true (stands source names (first + 1) symbol.LeftParen) (and_then (body_behind source inner names first) (clauses_of source inner names (first + 2)))
unfolding stmt_by clauses_of
for-is source inner names first =
    ap (where_true (stands source names (first + 1) symbol.LeftParen))
    (then-along (for_start source inner names first) (body_behind source inner names first) (behind_start source inner names (first + 2)) (start_of source inner names (first + 2)) (start-then-body source inner names first))

pub no-clauses-begin : (source : Source) (inner : Within) (names : List Declared) (first : ℕ) → stands source names (first + 1) symbol.LeftParen ≡ false → stmt_by source inner names first looping ≡ None
unfolding stmt_by
no-clauses-begin source inner names first none = fails _ _ none

pub no-clauses : (source : Source) (inner : Within) (names : List Declared) (first inside : ℕ) → stands source names (first + 1) symbol.LeftParen ≡ true → inside ≡ first + 2 → clauses_of source inner names inside ≡ None
    → stmt_by source inner names first looping ≡ None
no-clauses source inner names first inside there place none =
    for-is source inner names first ∙ holds _ _ there ∙ then-none _ _ (ap (clauses_of source inner names) (sym place) ∙ none)

pub for-read : (source : Source) (inner : Within) (old three last now : List Declared) (first inside kept : ℕ) (clauses : Part ForClauses) (found made : Option (Part Stmt))
    → stands source old (first + 1) symbol.LeftParen ≡ true → inside ≡ first + 2 → IsPart (clauses_from source inside) source old three clauses (clauses_of source inner old inside)
    → Gives (a_stmt source) source three last found (inner.stmt three clauses.after) → kept ≡ length old → now ≡ drop (length last - kept) last
    → Gives (a_stmt source) source old old made (and_then (looping_over first (seen_clauses clauses.tree)) (inner.stmt three clauses.after))
    → Gives (a_stmt source) source old now made (stmt_by source inner old first looping)
for-read source inner old three last now first inside kept clauses found made there place h body count cut given =
    let l : Clauses = seen_clauses clauses.tree in
    gives-along (a_stmt source) source old now made (and_then (looping_over first l) (inner.stmt three clauses.after)) _
    (for-is source inner old first ∙ holds _ _ there ∙ then-is (body_behind source inner old first) _ l (ap (clauses_of source inner old) (sym place) ∙ h.read)
    ∙ ap (λ names. and_then (looping_over first l) (inner.stmt names (clauses_after (first + 2) l))) (sym h.scoped)
    ∙ ap (λ n. and_then (looping_over first l) (inner.stmt three n)) (ap (λ n. clauses_after n l) (sym place) ∙ sym h.ends))
    (re-scoped (a_stmt source) source old old now made _
    (λ it is. let one = then-some (looping_over first l) (inner.stmt three clauses.after) it is in
    ended-after (a_stmt source) source (clauses_declare source l) old three last now kept found _ one.0 count h.scoped body one.1 cut) given)

-- behind the first clause, and behind the second
pub clauses-begun : (source : Source) (depth : ℕ) (old one : List Declared) (at : ℕ) (start : Part ForStart) → IsPart (a_start source at) source old one start (start_of source (within source depth) old at)
    → clauses_of source (within source depth) old at
    ≡ and_then (behind_condition source (within source depth) one (view.start start.tree) start.after) (clause_of source (lower source depth) symbol.Semicolon one start.after)
unfolding clauses_of
clauses-begun source depth old one at start s =
    let b : tree.ForStart = view.start start.tree in
    let inner : Within = within source depth in
    then-is (behind_start source inner old at) _ b s.read
    ∙ ap (λ parts. and_then (behind_condition source inner (start_declares source b ++ old) b (start_after at b)) (clause_of source parts symbol.Semicolon (start_declares source b ++ old) (start_after at b))) (within-parts source depth)
    ∙ ap (λ names. and_then (behind_condition source inner names b (start_after at b)) (clause_of source (lower source depth) symbol.Semicolon names (start_after at b))) (sym s.scoped)
    ∙ ap (λ n. and_then (behind_condition source inner one b n) (clause_of source (lower source depth) symbol.Semicolon one n)) (sym s.ends)

pub clauses-tested : (source : Source) (depth : ℕ) (one two : List Declared) (start : tree.ForStart) (at : ℕ) (condition : Part (Option Expr))
    → IsPart (an_optional source at) source one two condition (clause_of source (lower source depth) symbol.Semicolon one at)
    → and_then (behind_condition source (within source depth) one start at) (clause_of source (lower source depth) symbol.Semicolon one at)
    ≡ option_map (with_step start (view.optional condition.tree)) (clause_of source (lower source depth) symbol.RightParen two (condition.after + 1))
clauses-tested source depth one two start at condition k =
    let c : Option tree.Expr = view.optional condition.tree in
    then-is (behind_condition source (within source depth) one start at) _ c k.read
    ∙ ap (λ parts. option_map (with_step start c) (clause_of source parts symbol.RightParen (optional_declares source c ++ one) (optional_after at c + 1))) (within-parts source depth)
    ∙ ap (λ names. option_map (with_step start c) (clause_of source (lower source depth) symbol.RightParen names (optional_after at c + 1))) (sym k.scoped)
    ∙ ap (λ n. option_map (with_step start c) (clause_of source (lower source depth) symbol.RightParen two (n + 1))) (sym k.ends)

pub no-first-clause : (source : Source) (inner : Within) (old : List Declared) (at : ℕ) → start_of source inner old at ≡ None → clauses_of source inner old at ≡ None
unfolding clauses_of
no-first-clause source inner old at none = then-none _ _ none
