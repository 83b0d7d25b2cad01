-- A tree that is formed as the grammar allows is read from its symbols.
use Rattle.std.proofs.Common.{◌≡◌, ℕ, ◌≤◌, ◌<◌, false, List, [], ◌∷◌, ◌++◌, map, Option, Some, refl, sym, ◌∙◌, ap, arith}
use Rattle.dm_cond.specs.declared.symbol.Sign.{Sign}
use Rattle.dm_cond.specs.declared.symbol.Sign.TheVariants.{Plus, Minus, Complement, Not}
use Rattle.dm_cond.specs.declared.symbol.Operator.{Operator}
use Rattle.dm_cond.specs.declared.symbol.Symbol.{Symbol}
use Rattle.dm_cond.specs.declared.symbol.Symbol.TheVariants.{Close, Question, Colon, Comma, Operator as Infix}
use Rattle.dm_cond.specs.declared.frame.Frame.{Frame}
use Rattle.dm_cond.specs.declared.frame.Frame.TheVariants.{Parenthesis, Unary, Binary, Second, Third, AfterComma}
use Rattle.dm_cond.specs.Trees.{Tree, constant, paren, unary, binary, choice, comma, level, level_of, IsFormed, sign_symbol, symbols}
use Rattle.dm_cond.specs.Values.{Valued, constant_value, value_of}
use Rattle.dm_cond.specs.Machine.{ends_before, first_ends, Point, awaits, has, reduced, run, outcome, alone, behind_operator, behind_question, behind_colon, behind_comma, behind_close}
use Rattle.dm_cond.proofs.Levels.{level_between, le-true, le-false, is-zero, not-zero, first_ends-closer}
use Rattle.dm_cond.proofs.Reductions.{reduced-ends, reduced-stays}

-- the frames that a tree leaves open at its right edge, on others
spine : Tree → List Frame → List Frame
spine (constant kind number) frames = frames
spine (paren inner) frames = frames
spine (unary sign inner) frames = spine inner (Unary sign ∷ frames)
spine (binary operator left right) frames = spine right (Binary operator (value_of left) ∷ frames)
spine (choice first second third) frames = spine third (Third (value_of first) (value_of second) ∷ frames)
spine (comma left right) frames = spine right (AfterComma (value_of left) ∷ frames)

-- the value of its last primary expression
last_of : Tree → Valued
last_of (constant kind number) = constant_value kind number
last_of (paren inner) = value_of inner
last_of (unary sign inner) = last_of inner
last_of (binary operator left right) = last_of right
last_of (choice first second third) = last_of third
last_of (comma left right) = last_of right

-- completing these frames gives the tree's value
reduces : (tree : Tree) (frames : List Frame) (n : ℕ) → IsFormed tree → n ≤ level tree →
    reduced n (spine tree frames) (last_of tree) ≡ reduced n frames (value_of tree)
unfolding spine last_of value_of IsFormed
reduces (constant kind number) frames n formed h = refl
reduces (paren inner) frames n formed h = refl
reduces (unary sign inner) frames n formed h =
    let high : 12 ≤ level inner = formed.1 in
    reduces inner (Unary sign ∷ frames) n formed.0 (omega arith)
    ∙ reduced-ends n (Unary sign) frames (value_of inner) refl
reduces (binary operator left right) frames n formed h =
    let high : level_of operator < level right = formed.3 in
    reduces right (Binary operator (value_of left) ∷ frames) n formed.2 (omega arith)
    ∙ reduced-ends n (Binary operator (value_of left)) frames (value_of right) (le-true n (level_of operator) h)
reduces (choice first second third) frames n formed h =
    let high : 1 ≤ level third = formed.4 in
    reduces third (Third (value_of first) (value_of second) ∷ frames) n formed.3 (omega arith)
    ∙ reduced-ends n (Third (value_of first) (value_of second)) frames (value_of third) (le-true n 1 h)
reduces (comma left right) frames n formed h =
    let high : 1 ≤ level right = formed.2 in
    reduces right (AfterComma (value_of left) ∷ frames) n formed.1 (omega arith)
    ∙ reduced-ends n (AfterComma (value_of left)) frames (value_of right) (is-zero n h)

-- the innermost of some frames is a parenthesis or waits for the second operand of `?:`
abbrev IsEnclosed : List Frame → Type 0
IsEnclosed [] = ⊥
IsEnclosed (frame ∷ frames) = ends_before 0 frame ≡ false

-- what stands before a tree isn't completed by the tree's own operator
Waits : Tree → List Frame → Type 0
Waits (constant kind number) frames = Unit {0}
Waits (paren inner) frames = Unit {0}
Waits (unary sign inner) frames = Unit {0}
Waits (binary operator left right) frames = first_ends (level_of operator) frames ≡ false
Waits (choice first second third) frames = first_ends 2 frames ≡ false
Waits (comma left right) frames = IsEnclosed frames

-- within parentheses, and before `:`, each tree may stand
waits-enclosed : (tree : Tree) (frame : Frame) (frames : List Frame) → ends_before 0 frame ≡ false → Waits tree (frame ∷ frames)
unfolding Waits
waits-enclosed (constant kind number) frame frames e = tt
waits-enclosed (paren inner) frame frames e = tt
waits-enclosed (unary sign inner) frame frames e = tt
waits-enclosed (binary operator left right) frame frames e = first_ends-closer (frame ∷ frames) 0 (level_of operator) (omega arith) e
waits-enclosed (choice first second third) frame frames e = first_ends-closer (frame ∷ frames) 0 2 (omega arith) e
waits-enclosed (comma left right) frame frames e = e

-- a left operand stands where the whole does
waits-left : (tree : Tree) (frames : List Frame) (n : ℕ) → 2 ≤ n → n ≤ level tree → first_ends n frames ≡ false → Waits tree frames
unfolding Waits
waits-left (constant kind number) frames n h k e = tt
waits-left (paren inner) frames n h k e = tt
waits-left (unary sign inner) frames n h k e = tt
waits-left (binary operator left right) frames n h k e = first_ends-closer frames n (level_of operator) k e
waits-left (choice first second third) frames n h k e = absurd (omega arith)
waits-left (comma left right) frames n h k e = absurd (omega arith)

-- an operand behind a unary operator
waits-unary : (tree : Tree) (frames : List Frame) → 12 ≤ level tree → Waits tree frames
unfolding Waits
waits-unary (constant kind number) frames h = tt
waits-unary (paren inner) frames h = tt
waits-unary (unary sign inner) frames h = tt
waits-unary (binary operator left right) frames h = let b : level_of operator ≤ 11 = (level_between operator).1 in absurd (omega arith)
waits-unary (choice first second third) frames h = absurd (omega arith)
waits-unary (comma left right) frames h = absurd (omega arith)

-- a right operand behind a binary operator
waits-right : (tree : Tree) (operator : Operator) (left : Valued) (frames : List Frame) → level_of operator < level tree → Waits tree (Binary operator left ∷ frames)
unfolding Waits
waits-right (constant kind number) operator left frames h = tt
waits-right (paren inner) operator left frames h = tt
waits-right (unary sign inner) operator left frames h = tt
waits-right (binary other a b) operator left frames h = le-false (level_of other) (level_of operator) h
waits-right (choice first second third) operator left frames h = let b : 2 ≤ level_of operator = (level_between operator).0 in absurd (omega arith)
waits-right (comma a b) operator left frames h = absurd (omega arith)

-- the third operand of `?:`
waits-third : (tree : Tree) (first second : Valued) (frames : List Frame) → 1 ≤ level tree → Waits tree (Third first second ∷ frames)
unfolding Waits
waits-third (constant kind number) first second frames h = tt
waits-third (paren inner) first second frames h = tt
waits-third (unary sign inner) first second frames h = tt
waits-third (binary operator a b) first second frames h = let c : 2 ≤ level_of operator = (level_between operator).0 in le-false (level_of operator) 1 (omega arith)
waits-third (choice a b c) first second frames h = refl
waits-third (comma a b) first second frames h = absurd (omega arith)

-- what stands behind a comma
waits-comma : (tree : Tree) (left : Valued) (frames : List Frame) → 1 ≤ level tree → Waits tree (AfterComma left ∷ frames)
unfolding Waits
waits-comma (constant kind number) left frames h = tt
waits-comma (paren inner) left frames h = tt
waits-comma (unary sign inner) left frames h = tt
waits-comma (binary operator a b) left frames h = let c : 2 ≤ level_of operator = (level_between operator).0 in not-zero (level_of operator) (omega arith)
waits-comma (choice a b c) left frames h = refl
waits-comma (comma a b) left frames h = absurd (omega arith)

-- the symbols of two lists, and what follows
some-append : (xs ys : List Symbol) (rest : List (Option Symbol)) → map Some (xs ++ ys) ++ rest ≡ map Some xs ++ (map Some ys ++ rest)
some-append [] ys rest = refl
some-append (x ∷ xs) ys rest = ap (λ others. Some x ∷ others) (some-append xs ys rest)

-- a sign
begins : (sign : Sign) (rest : List (Option Symbol)) (frames : List Frame) → run (Some (sign_symbol sign) ∷ rest) (awaits frames) ≡ run rest (awaits (Unary sign ∷ frames))
unfolding run
begins Plus rest frames = refl
begins Minus rest frames = refl
begins Complement rest frames = refl
begins Not rest frames = refl

-- what an operand's end is to what follows it
completes : (tree : Tree) (frames : List Frame) (n : ℕ) (next : Point → Point) → IsFormed tree → n ≤ level tree → first_ends n frames ≡ false →
    next (reduced n (spine tree frames) (last_of tree)) ≡ next (has frames (value_of tree))
completes tree frames n next formed h e = ap next (reduces tree frames n formed h ∙ reduced-stays n frames (value_of tree) e)

-- enclosed frames don't end at all
enclosed-stays : (frames : List Frame) → IsEnclosed frames → first_ends 0 frames ≡ false
enclosed-stays [] h = absurd h
enclosed-stays (frame ∷ frames) h = h

-- a comma stands in enclosed frames
comma-enclosed : (frames : List Frame) (value : Valued) → IsEnclosed frames → behind_comma (has frames value) ≡ awaits (AfterComma value ∷ frames)
comma-enclosed [] value h = absurd h
comma-enclosed (frame ∷ frames) value h = refl

-- a tree in a comma's place
waits-within : (tree : Tree) (frames : List Frame) → IsEnclosed frames → Waits tree frames
waits-within tree [] h = absurd h
waits-within tree (frame ∷ frames) h = waits-enclosed tree frame frames h

-- a tree's symbols are read up to its last primary expression
reads : (tree : Tree) (frames : List Frame) (rest : List (Option Symbol)) → IsFormed tree → Waits tree frames →
    run (map Some (symbols tree) ++ rest) (awaits frames) ≡ run rest (has (spine tree frames) (last_of tree))
unfolding spine last_of IsFormed symbols Waits run
reads (constant kind number) frames rest formed w = refl
reads (paren inner) frames rest formed w =
    ap (λ others. run others (awaits (Parenthesis ∷ frames))) (some-append (symbols inner) (Close ∷ []) rest)
    ∙ reads inner (Parenthesis ∷ frames) (Some Close ∷ rest) formed (waits-enclosed inner Parenthesis frames refl)
    ∙ ap (run rest) (completes inner (Parenthesis ∷ frames) 0 behind_close formed (omega arith) refl)
reads (unary sign inner) frames rest formed w =
    begins sign (map Some (symbols inner) ++ rest) frames
    ∙ reads inner (Unary sign ∷ frames) rest formed.0 (waits-unary inner (Unary sign ∷ frames) formed.1)
reads (binary operator left right) frames rest formed w =
    ap (λ others. run others (awaits frames)) (some-append (symbols left) (Infix operator ∷ symbols right) rest)
    ∙ reads left frames (Some (Infix operator) ∷ (map Some (symbols right) ++ rest)) formed.0 (waits-left left frames (level_of operator) (level_between operator).0 formed.1 w)
    ∙ ap (run (map Some (symbols right) ++ rest)) (completes left frames (level_of operator) (behind_operator operator) formed.0 formed.1 w)
    ∙ reads right (Binary operator (value_of left) ∷ frames) rest formed.2 (waits-right right operator (value_of left) frames formed.3)
reads (choice first second third) frames rest formed w =
    let others : List Symbol = symbols second ++ (Colon ∷ symbols third) in
    ap (λ all. run all (awaits frames)) (some-append (symbols first) (Question ∷ others) rest)
    ∙ reads first frames (Some Question ∷ (map Some others ++ rest)) formed.0 (waits-left first frames 2 (omega arith) formed.1 w)
    ∙ ap (run (map Some others ++ rest)) (completes first frames 2 behind_question formed.0 formed.1 w)
    ∙ ap (λ all. run all (awaits (Second (value_of first) ∷ frames))) (some-append (symbols second) (Colon ∷ symbols third) rest)
    ∙ reads second (Second (value_of first) ∷ frames) (Some Colon ∷ (map Some (symbols third) ++ rest)) formed.2 (waits-enclosed second (Second (value_of first)) frames refl)
    ∙ ap (run (map Some (symbols third) ++ rest)) (completes second (Second (value_of first) ∷ frames) 0 behind_colon formed.2 (omega arith) refl)
    ∙ reads third (Third (value_of first) (value_of second) ∷ frames) rest formed.3 (waits-third third (value_of first) (value_of second) frames formed.4)
reads (comma left right) frames rest formed w =
    ap (λ others. run others (awaits frames)) (some-append (symbols left) (Comma ∷ symbols right) rest)
    ∙ reads left frames (Some Comma ∷ (map Some (symbols right) ++ rest)) formed.0 (waits-within left frames w)
    ∙ ap (run (map Some (symbols right) ++ rest)) (completes left frames 0 behind_comma formed.0 (omega arith) (enclosed-stays frames w) ∙ comma-enclosed frames (value_of left) w)
    ∙ reads right (AfterComma (value_of left) ∷ frames) rest formed.1 (waits-comma right (value_of left) frames formed.2)

-- at the beginning each tree but a comma may stand
waits-first : (tree : Tree) → 1 ≤ level tree → Waits tree []
unfolding Waits
waits-first (constant kind number) h = tt
waits-first (paren inner) h = tt
waits-first (unary sign inner) h = tt
waits-first (binary operator left right) h = refl
waits-first (choice first second third) h = refl
waits-first (comma left right) h = absurd (omega arith)

-- nothing follows
append-none : (xs : List (Option Symbol)) → xs ++ [] ≡ xs
append-none [] = refl
append-none (x ∷ xs) = ap (λ others. x ∷ others) (append-none xs)

-- The symbols of a conditional expression have its value as outcome.
pub outcome-symbols : (tree : Tree) → IsFormed tree → 1 ≤ level tree → outcome (run (map Some (symbols tree)) (awaits [])) ≡ Some (value_of tree)
unfolding run
outcome-symbols tree formed h =
    ap (λ all. outcome (run all (awaits []))) (sym (append-none (map Some (symbols tree))))
    ∙ ap outcome (reads tree [] [] formed (waits-first tree h))
    ∙ ap alone (completes tree [] 0 (λ point. point) formed (omega arith) refl)
