-- What is read as a whole expression is a tree that is formed as the grammar allows, with these symbols and this value.
use Rattle.std.proofs.Common.{◌≡◌, ℕ, ◌≤◌, ◌<◌, Bool, true, false, List, [], ◌∷◌, ◌++◌, map, Option, Some, None, refl, sym, ◌∙◌, ap, subst, arith, append_assoc, nat_le, ◌==◌, ◌⊎◌, inl, inr, true≢false}
use Rattle.dm_int.specs.declared.Op.{Op}
use Rattle.dm_int.specs.declared.Op.TheVariants.{Add, Sub, Mul, Div, Rem, Shl, Shr, Less, Greater, LessEq, GreaterEq, Equal, NotEqual, And, Xor, Or}
use Rattle.dm_cond.specs.declared.symbol.Sign.{Sign}
use Rattle.dm_cond.specs.declared.symbol.Sign.TheVariants.{Plus, Minus, Complement, Not}
use Rattle.dm_cond.specs.declared.symbol.Operator.{Operator}
use Rattle.dm_cond.specs.declared.symbol.Operator.TheVariants.{Integer, Both, Either}
use Rattle.dm_cond.specs.declared.symbol.Symbol.{Symbol}
use Rattle.dm_cond.specs.declared.symbol.Symbol.TheVariants.{Operand, Open, Close, Question, Colon, Comma, Complement as Tilde, Not as Exclamation, Operator as Infix}
use Rattle.dm_cond.specs.declared.frame.Frame.{Frame}
use Rattle.dm_cond.specs.declared.frame.Frame.TheVariants.{Parenthesis, Unary, Binary, Second, Third, AfterComma}
use Rattle.dm_cond.specs.Trees.{Tree, constant, paren, unary, binary, choice, comma, level, level_of, IsFormed, sign_symbol, symbols}
use Rattle.dm_cond.specs.Values.{Valued, value_of}
use Rattle.dm_cond.specs.Machine.{first_ends, Point, awaits, has, fails, reduced, step, begun, signed, sign_of, continued, run, outcome, alone, behind_operator, behind_question, behind_colon, behind_comma, behind_close}
use Rattle.dm_cond.proofs.Levels.{level_between, le-from, lt-from, zero-from}
use Rattle.dm_cond.proofs.Reductions.{reduced-ends, reduced-stays}

-- an expression that is begun, with the trees of the operands that it has
pub data Begun : Type 0 where
  in_parentheses : Begun
  behind_sign : Sign → Begun
  behind_left : Operator → Tree → Begun
  at_second : Tree → Begun
  at_third : Tree → Tree → Begun
  past_comma : Tree → Begun

-- its frame
abbrev frame_of : Begun → Frame
frame_of in_parentheses = Parenthesis
frame_of (behind_sign sign) = Unary sign
frame_of (behind_left operator left) = Binary operator (value_of left)
frame_of (at_second first) = Second (value_of first)
frame_of (at_third first second) = Third (value_of first) (value_of second)
frame_of (past_comma left) = AfterComma (value_of left)

-- the frames of those that are begun within each other, the innermost first
frames_of : List Begun → List Frame
frames_of [] = []
frames_of (begun ∷ others) = frame_of begun ∷ frames_of others

-- what it has spelled so far
abbrev opening : Begun → List Symbol
opening in_parentheses = Open ∷ []
opening (behind_sign sign) = sign_symbol sign ∷ []
opening (behind_left operator left) = symbols left ++ Infix operator ∷ []
opening (at_second first) = symbols first ++ Question ∷ []
opening (at_third first second) = symbols first ++ Question ∷ (symbols second ++ Colon ∷ [])
opening (past_comma left) = symbols left ++ Comma ∷ []

spelled : List Begun → List Symbol
spelled [] = []
spelled (begun ∷ others) = spelled others ++ opening begun

-- the levels of the trees that may stand as its last operand
abbrev Takes_level : Begun → ℕ → Type 0
Takes_level in_parentheses n = Unit {0}
Takes_level (behind_sign sign) n = 12 ≤ n
Takes_level (behind_left operator left) n = level_of operator < n
Takes_level (at_second first) n = Unit {0}
Takes_level (at_third first second) n = 1 ≤ n
Takes_level (past_comma left) n = 1 ≤ n

Accepts : List Begun → ℕ → Type 0
Accepts [] n = 1 ≤ n
Accepts (begun ∷ others) n = Takes_level begun n

-- the level of the tree that it becomes
abbrev own_level : Begun → ℕ
own_level in_parentheses = 13
own_level (behind_sign sign) = 12
own_level (behind_left operator left) = level_of operator
own_level (at_second first) = 1
own_level (at_third first second) = 1
own_level (past_comma left) = 0

-- its operands are such as the grammar allows
abbrev HasOperands : Begun → Type 0
HasOperands in_parentheses = Unit {0}
HasOperands (behind_sign sign) = Unit {0}
HasOperands (behind_left operator left) = IsFormed left × (level_of operator ≤ level left)
HasOperands (at_second first) = IsFormed first × (2 ≤ level first)
HasOperands (at_third first second) = IsFormed first × (2 ≤ level first) × IsFormed second
HasOperands (past_comma left) = IsFormed left

IsStack : List Begun → Type 0
IsStack [] = Unit {0}
IsStack (begun ∷ others) = HasOperands begun × Accepts others (own_level begun) × IsStack others

-- Frames and an operand that these trees stand for.
record Stands (read : List Symbol) (frames : List Frame) (value : Valued) (least : ℕ) : Type 0 where
  stack : List Begun
  tree : Tree
  frames_are : frames ≡ frames_of stack
  value_is : value ≡ value_of tree
  is_stack : IsStack stack
  formed : IsFormed tree
  accepted : Accepts stack (level tree)
  high : least ≤ level tree
  read_is : read ≡ spelled stack ++ symbols tree

-- after an operator of this level has completed what ends before it
record Reduced (read : List Symbol) (level : ℕ) (point : Point) : Type 0 where
  left_frames : List Frame
  left_value : Valued
  is : point ≡ has left_frames left_value
  stands : Stands read left_frames left_value level
  free : first_ends level left_frames ≡ false

-- it stays as it is
stay : (read : List Symbol) (n : ℕ) (frames : List Frame) (value : Valued) → Stands read frames value n → first_ends n frames ≡ false →
    Reduced read n (reduced n frames value)
stay read n frames value stands free = record {
  left_frames = frames;
  left_value = value;
  is = reduced-stays n frames value free;
  stands = stands;
  free = free;
}

-- the same for an equal point
along : (read : List Symbol) (n : ℕ) (p q : Point) → p ≡ q → Reduced read n q → Reduced read n p
along read n p q e r = record { left_frames = r.left_frames; left_value = r.left_value; is = e ∙ r.is; stands = r.stands; free = r.free }

-- how an operator of level n completes what is begun
completing : (n : ℕ) → n ≤ 11 → (read : List Symbol) (stack : List Begun) (tree : Tree) → IsStack stack → IsFormed tree → Accepts stack (level tree) → n ≤ level tree →
    read ≡ spelled stack ++ symbols tree → Reduced read n (reduced n (frames_of stack) (value_of tree))
unfolding IsStack Accepts frames_of spelled IsFormed symbols value_of
completing n bound read [] tree s f a h e =
    stay read n [] (value_of tree) (record { stack = []; tree = tree; frames_are = refl; value_is = refl; is_stack = s; formed = f; accepted = a; high = h; read_is = e }) refl
completing n bound read (in_parentheses ∷ others) tree s f a h e =
    stay read n _ (value_of tree) (record { stack = in_parentheses ∷ others; tree = tree; frames_are = refl; value_is = refl; is_stack = s; formed = f; accepted = a; high = h; read_is = e }) refl
completing n bound read (at_second first ∷ others) tree s f a h e =
    stay read n _ (value_of tree) (record { stack = at_second first ∷ others; tree = tree; frames_are = refl; value_is = refl; is_stack = s; formed = f; accepted = a; high = h; read_is = e }) refl
completing n bound read (behind_sign sign ∷ others) tree s f a h e =
    along read n _ _ (reduced-ends n (Unary sign) (frames_of others) (value_of tree) refl)
    (completing n bound read others (unary sign tree) s.2 (f, a) s.1 (omega arith)
    (e ∙ append_assoc (spelled others) (sign_symbol sign ∷ []) (symbols tree)))
completing n bound read (behind_left operator left ∷ others) tree s f a h e =
    let Same : Bool → Type 0 = λ b. nat_le n (level_of operator) ≡ b → Reduced read n (reduced n (Binary operator (value_of left) ∷ frames_of others) (value_of tree)) in
    elim (nat_le n (level_of operator)) as Same [
      | true ↦ λ ends. along read n _ _ (reduced-ends n (Binary operator (value_of left)) (frames_of others) (value_of tree) ends)
          (completing n bound read others (binary operator left tree) s.2 (s.0.0, s.0.1, f, a) s.1 (le-from n (level_of operator) ends)
          (e ∙ append_assoc (spelled others) (symbols left ++ Infix operator ∷ []) (symbols tree) ∙ ap (λ x. spelled others ++ x) (append_assoc (symbols left) (Infix operator ∷ []) (symbols tree))))
      | false ↦ λ stays. stay read n _ (value_of tree) (record { stack = behind_left operator left ∷ others; tree = tree; frames_are = refl; value_is = refl; is_stack = s; formed = f; accepted = a; high = h; read_is = e }) stays
    ] refl
completing n bound read (at_third first second ∷ others) tree s f a h e =
    let Same : Bool → Type 0 = λ b. nat_le n 1 ≡ b → Reduced read n (reduced n (Third (value_of first) (value_of second) ∷ frames_of others) (value_of tree)) in
    elim (nat_le n 1) as Same [
      | true ↦ λ ends. along read n _ _ (reduced-ends n (Third (value_of first) (value_of second)) (frames_of others) (value_of tree) ends)
          (completing n bound read others (choice first second tree) s.2 (s.0.0, s.0.1, s.0.2, f, a) s.1 (le-from n 1 ends)
          (e ∙ append_assoc (spelled others) (symbols first ++ Question ∷ (symbols second ++ Colon ∷ [])) (symbols tree)
          ∙ ap (λ x. spelled others ++ x) (append_assoc (symbols first) (Question ∷ (symbols second ++ Colon ∷ [])) (symbols tree) ∙ ap (λ x. symbols first ++ Question ∷ x) (append_assoc (symbols second) (Colon ∷ []) (symbols tree)))))
      | false ↦ λ stays. stay read n _ (value_of tree) (record { stack = at_third first second ∷ others; tree = tree; frames_are = refl; value_is = refl; is_stack = s; formed = f; accepted = a; high = h; read_is = e }) stays
    ] refl
completing n bound read (past_comma left ∷ others) tree s f a h e =
    let Same : Bool → Type 0 = λ b. (n == 0) ≡ b → Reduced read n (reduced n (AfterComma (value_of left) ∷ frames_of others) (value_of tree)) in
    elim (n == 0) as Same [
      | true ↦ λ ends. along read n _ _ (reduced-ends n (AfterComma (value_of left)) (frames_of others) (value_of tree) ends)
          (completing n bound read others (comma left tree) s.2 (s.0, f, a) s.1 (zero-from n ends)
          (e ∙ append_assoc (spelled others) (symbols left ++ Comma ∷ []) (symbols tree) ∙ ap (λ x. spelled others ++ x) (append_assoc (symbols left) (Comma ∷ []) (symbols tree))))
      | false ↦ λ stays. stay read n _ (value_of tree) (record { stack = past_comma left ∷ others; tree = tree; frames_are = refl; value_is = refl; is_stack = s; formed = f; accepted = a; high = h; read_is = e }) stays
    ] refl

-- How far a condition is read, with the trees that stand for it.
Reads : Point → List Symbol → Type 0
Reads (awaits frames) read = (stack : List Begun) × (frames ≡ frames_of stack) × IsStack stack × (read ≡ spelled stack)
Reads (has frames value) read = Stands read frames value 13
Reads fails read = Unit {0}

-- a primary expression may stand anywhere, and so may a unary one
accepts-primary : (stack : List Begun) → Accepts stack 13
unfolding Accepts
accepts-primary [] = omega arith
accepts-primary (in_parentheses ∷ others) = tt
accepts-primary (behind_sign sign ∷ others) = omega arith
accepts-primary (behind_left operator left ∷ others) = let b : level_of operator ≤ 11 = (level_between operator).1 in omega arith
accepts-primary (at_second first ∷ others) = tt
accepts-primary (at_third first second ∷ others) = omega arith
accepts-primary (past_comma left ∷ others) = omega arith

accepts-unary : (stack : List Begun) → Accepts stack 12
unfolding Accepts
accepts-unary [] = omega arith
accepts-unary (in_parentheses ∷ others) = tt
accepts-unary (behind_sign sign ∷ others) = omega arith
accepts-unary (behind_left operator left ∷ others) = let b : level_of operator ≤ 11 = (level_between operator).1 in omega arith
accepts-unary (at_second first ∷ others) = tt
accepts-unary (at_third first second ∷ others) = omega arith
accepts-unary (past_comma left ∷ others) = omega arith

-- what an operator of level n has left takes a tree of that level
accepts-free : (n m : ℕ) (stack : List Begun) → 2 ≤ n → (n ≤ m) ⊎ ((n ≡ 2) × (m ≡ 1)) → first_ends n (frames_of stack) ≡ false → Accepts stack m
unfolding Accepts frames_of
accepts-free n m [] h k e = omega arith
accepts-free n m (in_parentheses ∷ others) h k e = tt
accepts-free n m (behind_sign sign ∷ others) h k e = absurd (true≢false e)
accepts-free n m (behind_left operator left ∷ others) h k e =
    let l : level_of operator < n = lt-from n (level_of operator) e in
    let b : 2 ≤ level_of operator = (level_between operator).0 in
    omega arith
accepts-free n m (at_second first ∷ others) h k e = tt
accepts-free n m (at_third first second ∷ others) h k e = omega arith
accepts-free n m (past_comma left ∷ others) h k e = omega arith

-- a sign is begun
begin-sign : (sign : Sign) (frames : List Frame) (read : List Symbol) → Reads (awaits frames) read → Reads (awaits (Unary sign ∷ frames)) (read ++ sign_symbol sign ∷ [])
unfolding Reads frames_of spelled IsStack
begin-sign sign frames read (stack, e, s, r) =
    (behind_sign sign ∷ stack, ap (λ x. Unary sign ∷ x) e, (tt, accepts-unary stack, s), ap (λ x. x ++ sign_symbol sign ∷ []) r)

-- an operator on integers where an operand is to come
begin-integer : (op : Op) (frames : List Frame) (read : List Symbol) → Reads (awaits frames) read → Reads (signed frames (sign_of (Integer op))) (read ++ Infix (Integer op) ∷ [])
unfolding Reads
begin-integer Add frames read r = begin-sign Plus frames read r
begin-integer Sub frames read r = begin-sign Minus frames read r
begin-integer Mul frames read r = tt
begin-integer Div frames read r = tt
begin-integer Rem frames read r = tt
begin-integer Shl frames read r = tt
begin-integer Shr frames read r = tt
begin-integer Less frames read r = tt
begin-integer Greater frames read r = tt
begin-integer LessEq frames read r = tt
begin-integer GreaterEq frames read r = tt
begin-integer Equal frames read r = tt
begin-integer NotEqual frames read r = tt
begin-integer And frames read r = tt
begin-integer Xor frames read r = tt
begin-integer Or frames read r = tt

-- an operator where an operand is to come
begin-operator : (operator : Operator) (frames : List Frame) (read : List Symbol) → Reads (awaits frames) read → Reads (signed frames (sign_of operator)) (read ++ Infix operator ∷ [])
unfolding Reads
begin-operator (Integer op) frames read r = begin-integer op frames read r
begin-operator Both frames read r = tt
begin-operator Either frames read r = tt

-- a symbol where an operand is to come
begin : (symbol : Symbol) (frames : List Frame) (read : List Symbol) → Reads (awaits frames) read → Reads (begun frames symbol) (read ++ symbol ∷ [])
unfolding Reads frames_of spelled IsStack IsFormed symbols value_of
begin (Operand kind number) frames read (stack, e, s, r) = record {
  stack = stack;
  tree = constant kind number;
  frames_are = e;
  value_is = refl;
  is_stack = s;
  formed = tt;
  accepted = accepts-primary stack;
  high = omega arith;
  read_is = ap (λ x. x ++ Operand kind number ∷ []) r;
}
begin Open frames read (stack, e, s, r) = (in_parentheses ∷ stack, ap (λ x. Parenthesis ∷ x) e, (tt, accepts-primary stack, s), ap (λ x. x ++ Open ∷ []) r)
begin Tilde frames read r = begin-sign Complement frames read r
begin Exclamation frames read r = begin-sign Not frames read r
begin (Infix operator) frames read r = begin-operator operator frames read r
begin Close frames read r = tt
begin Question frames read r = tt
begin Colon frames read r = tt
begin Comma frames read r = tt

-- what stands for an operand is completed by an operator of level n
complete : (n : ℕ) (frames : List Frame) (value : Valued) (read : List Symbol) → n ≤ 11 → Stands read frames value 13 → Reduced read n (reduced n frames value)
complete n frames value read bound stands =
    along read n _ _ (ap (λ x. reduced n x value) stands.frames_are ∙ ap (reduced n (frames_of stands.stack)) stands.value_is)
    (completing n bound read stands.stack stands.tree stands.is_stack stands.formed stands.accepted (let h : 13 ≤ level stands.tree = stands.high in omega arith) stands.read_is)

-- the parts of what is read, with one more symbol
more : (read a b : List Symbol) (symbol : Symbol) → read ≡ a ++ b → read ++ symbol ∷ [] ≡ a ++ (b ++ symbol ∷ [])
more read a b symbol e = ap (λ x. x ++ symbol ∷ []) e ∙ append_assoc a b (symbol ∷ [])

-- a binary operator behind its left operand
take-operator : (operator : Operator) (read : List Symbol) (point : Point) → Reduced read (level_of operator) point → Reads (behind_operator operator point) (read ++ Infix operator ∷ [])
unfolding Reads frames_of spelled IsStack
take-operator operator read point r =
    let now : Stands read r.left_frames r.left_value (level_of operator) = r.stands in
    let Is : Point → Type 0 = λ p. Reads (behind_operator operator p) (read ++ Infix operator ∷ []) in
    let free : first_ends (level_of operator) (frames_of now.stack) ≡ false = ap (first_ends (level_of operator)) (sym now.frames_are) ∙ r.free in
    subst Is (sym r.is) (
      behind_left operator now.tree ∷ now.stack,
      ap (λ x. Binary operator r.left_value ∷ x) now.frames_are ∙ ap (λ v. Binary operator v ∷ frames_of now.stack) now.value_is,
      ((now.formed, now.high), accepts-free (level_of operator) (level_of operator) now.stack (level_between operator).0 (inl (omega arith)) free, now.is_stack),
      more read (spelled now.stack) (symbols now.tree) (Infix operator) now.read_is,
    )

-- `?` behind the first operand
take-question : (read : List Symbol) (point : Point) → Reduced read 2 point → Reads (behind_question point) (read ++ Question ∷ [])
unfolding Reads frames_of spelled IsStack
take-question read point r =
    let now : Stands read r.left_frames r.left_value 2 = r.stands in
    let Is : Point → Type 0 = λ p. Reads (behind_question p) (read ++ Question ∷ []) in
    let free : first_ends 2 (frames_of now.stack) ≡ false = ap (first_ends 2) (sym now.frames_are) ∙ r.free in
    subst Is (sym r.is) (
      at_second now.tree ∷ now.stack,
      ap (λ x. Second r.left_value ∷ x) now.frames_are ∙ ap (λ v. Second v ∷ frames_of now.stack) now.value_is,
      ((now.formed, now.high), accepts-free 2 1 now.stack (omega arith) (inr (refl, refl)) free, now.is_stack),
      more read (spelled now.stack) (symbols now.tree) Question now.read_is,
    )

-- `:` behind the second operand
colon-on : (read : List Symbol) (stack : List Begun) (tree : Tree) (value : Valued) → value ≡ value_of tree → IsStack stack → IsFormed tree →
    read ≡ spelled stack ++ symbols tree → Reads (behind_colon (has (frames_of stack) value)) (read ++ Colon ∷ [])
unfolding Reads frames_of spelled IsStack
colon-on read [] tree value v s f e = tt
colon-on read (in_parentheses ∷ others) tree value v s f e = tt
colon-on read (behind_sign sign ∷ others) tree value v s f e = tt
colon-on read (behind_left operator left ∷ others) tree value v s f e = tt
colon-on read (at_second first ∷ others) tree value v s f e = (
  at_third first tree ∷ others,
  ap (λ x. Third (value_of first) x ∷ frames_of others) v,
  ((s.0.0, s.0.1, f), s.1, s.2),
  more read (spelled others ++ (symbols first ++ Question ∷ [])) (symbols tree) Colon e
      ∙ append_assoc (spelled others) (symbols first ++ Question ∷ []) (symbols tree ++ Colon ∷ [])
      ∙ ap (λ x. spelled others ++ x) (append_assoc (symbols first) (Question ∷ []) (symbols tree ++ Colon ∷ [])),
)
colon-on read (at_third first second ∷ others) tree value v s f e = tt
colon-on read (past_comma left ∷ others) tree value v s f e = tt

take-colon : (read : List Symbol) (point : Point) → Reduced read 0 point → Reads (behind_colon point) (read ++ Colon ∷ [])
take-colon read point r =
    let now : Stands read r.left_frames r.left_value 0 = r.stands in
    let Is : Point → Type 0 = λ p. Reads (behind_colon p) (read ++ Colon ∷ []) in
    let InFrames : List Frame → Type 0 = λ frames. Reads (behind_colon (has frames r.left_value)) (read ++ Colon ∷ []) in
    subst Is (sym r.is) (subst InFrames (sym now.frames_are) (colon-on read now.stack now.tree r.left_value now.value_is now.is_stack now.formed now.read_is))

-- a comma, within something
comma-on : (read : List Symbol) (stack : List Begun) (tree : Tree) (value : Valued) → value ≡ value_of tree → IsStack stack → IsFormed tree → first_ends 0 (frames_of stack) ≡ false →
    read ≡ spelled stack ++ symbols tree → Reads (behind_comma (has (frames_of stack) value)) (read ++ Comma ∷ [])
unfolding Reads frames_of spelled IsStack Accepts
comma-on read [] tree value v s f free e = tt
comma-on read (in_parentheses ∷ others) tree value v s f free e = (
  past_comma tree ∷ in_parentheses ∷ others,
  ap (λ x. AfterComma x ∷ Parenthesis ∷ frames_of others) v,
  (f, tt, s),
  more read (spelled others ++ Open ∷ []) (symbols tree) Comma e,
)
comma-on read (behind_sign sign ∷ others) tree value v s f free e = absurd (true≢false free)
comma-on read (behind_left operator left ∷ others) tree value v s f free e = let l : level_of operator < 0 = lt-from 0 (level_of operator) free in absurd (omega arith)
comma-on read (at_second first ∷ others) tree value v s f free e = (
  past_comma tree ∷ at_second first ∷ others,
  ap (λ x. AfterComma x ∷ Second (value_of first) ∷ frames_of others) v,
  (f, tt, s),
  more read (spelled others ++ (symbols first ++ Question ∷ [])) (symbols tree) Comma e,
)
comma-on read (at_third first second ∷ others) tree value v s f free e = absurd (true≢false free)
comma-on read (past_comma left ∷ others) tree value v s f free e = absurd (true≢false free)

take-comma : (read : List Symbol) (point : Point) → Reduced read 0 point → Reads (behind_comma point) (read ++ Comma ∷ [])
take-comma read point r =
    let now : Stands read r.left_frames r.left_value 0 = r.stands in
    let Is : Point → Type 0 = λ p. Reads (behind_comma p) (read ++ Comma ∷ []) in
    let InFrames : List Frame → Type 0 = λ frames. Reads (behind_comma (has frames r.left_value)) (read ++ Comma ∷ []) in
    let free : first_ends 0 (frames_of now.stack) ≡ false = ap (first_ends 0) (sym now.frames_are) ∙ r.free in
    subst Is (sym r.is) (subst InFrames (sym now.frames_are) (comma-on read now.stack now.tree r.left_value now.value_is now.is_stack now.formed free now.read_is))

-- `)`
close-on : (read : List Symbol) (stack : List Begun) (tree : Tree) (value : Valued) → value ≡ value_of tree → IsStack stack → IsFormed tree →
    read ≡ spelled stack ++ symbols tree → Reads (behind_close (has (frames_of stack) value)) (read ++ Close ∷ [])
unfolding Reads frames_of spelled IsStack IsFormed symbols value_of
close-on read [] tree value v s f e = tt
close-on read (in_parentheses ∷ others) tree value v s f e = record {
  stack = others;
  tree = paren tree;
  frames_are = refl;
  value_is = v;
  is_stack = s.2;
  formed = f;
  accepted = accepts-primary others;
  high = omega arith;
  read_is = more read (spelled others ++ Open ∷ []) (symbols tree) Close e ∙ append_assoc (spelled others) (Open ∷ []) (symbols tree ++ Close ∷ []);
}
close-on read (behind_sign sign ∷ others) tree value v s f e = tt
close-on read (behind_left operator left ∷ others) tree value v s f e = tt
close-on read (at_second first ∷ others) tree value v s f e = tt
close-on read (at_third first second ∷ others) tree value v s f e = tt
close-on read (past_comma left ∷ others) tree value v s f e = tt

take-close : (read : List Symbol) (point : Point) → Reduced read 0 point → Reads (behind_close point) (read ++ Close ∷ [])
take-close read point r =
    let now : Stands read r.left_frames r.left_value 0 = r.stands in
    let Is : Point → Type 0 = λ p. Reads (behind_close p) (read ++ Close ∷ []) in
    let InFrames : List Frame → Type 0 = λ frames. Reads (behind_close (has frames r.left_value)) (read ++ Close ∷ []) in
    subst Is (sym r.is) (subst InFrames (sym now.frames_are) (close-on read now.stack now.tree r.left_value now.value_is now.is_stack now.formed now.read_is))

-- a symbol where an operand has come
continue : (symbol : Symbol) (frames : List Frame) (value : Valued) (read : List Symbol) → Stands read frames value 13 → Reads (continued frames value symbol) (read ++ symbol ∷ [])
unfolding Reads
continue (Infix operator) frames value read s = take-operator operator read _ (complete (level_of operator) frames value read (level_between operator).1 s)
continue Question frames value read s = take-question read _ (complete 2 frames value read (omega arith) s)
continue Colon frames value read s = take-colon read _ (complete 0 frames value read (omega arith) s)
continue Comma frames value read s = take-comma read _ (complete 0 frames value read (omega arith) s)
continue Close frames value read s = take-close read _ (complete 0 frames value read (omega arith) s)
continue (Operand kind number) frames value read s = tt
continue Open frames value read s = tt
continue Tilde frames value read s = tt
continue Exclamation frames value read s = tt

-- each step
step-reads : (point : Point) (symbol : Symbol) (read : List Symbol) → Reads point read → Reads (step point symbol) (read ++ symbol ∷ [])
unfolding Reads
step-reads (awaits frames) symbol read r = begin symbol frames read r
step-reads (has frames value) symbol read r = continue symbol frames value read r
step-reads fails symbol read r = tt

-- Symbols are a conditional expression of this value.
pub record Means (read : List Symbol) (value : Valued) : Type 0 where
  pub tree : Tree
  pub formed : IsFormed tree
  pub high : 1 ≤ level tree
  pub read_is : read ≡ symbols tree
  pub value_is : value ≡ value_of tree

-- where nothing waits any more
alone-on : (read : List Symbol) (stack : List Begun) (tree : Tree) (found value : Valued) → found ≡ value_of tree → IsFormed tree → Accepts stack (level tree) →
    read ≡ spelled stack ++ symbols tree → alone (has (frames_of stack) found) ≡ Some value → Means read value
unfolding frames_of spelled Accepts
alone-on read [] tree found value v f a e o = record { tree = tree; formed = f; high = a; read_is = e; value_is = some-injective value found (sym o) ∙ v }
  where
    some-injective : (x y : Valued) → Some x ≡ Some y → x ≡ y
    some-injective x y h = cc
alone-on read (begun ∷ others) tree found value v f a e o = absurd (cc)

-- the outcome at the end
outcome-reads : (point : Point) (read : List Symbol) (value : Valued) → Reads point read → outcome point ≡ Some value → Means read value
unfolding Reads
outcome-reads (awaits frames) read value r o = absurd (cc)
outcome-reads fails read value r o = absurd (cc)
outcome-reads (has frames found) read value r o =
    let end : Reduced read 0 (reduced 0 frames found) = complete 0 frames found read (omega arith) r in
    let now : Stands read end.left_frames end.left_value 0 = end.stands in
    alone-on read now.stack now.tree end.left_value value now.value_is now.formed now.accepted now.read_is
    (ap (λ x. alone (has x end.left_value)) (sym now.frames_are) ∙ ap alone (sym end.is) ∙ o)

-- the symbols of tokens, all of which stand for something
some-snoc : (read : List Symbol) (symbol : Symbol) (others : List (Option Symbol)) → map Some (read ++ symbol ∷ []) ++ others ≡ map Some read ++ Some symbol ∷ others
some-snoc [] symbol others = refl
some-snoc (x ∷ read) symbol others = ap (λ all. Some x ∷ all) (some-snoc read symbol others)

-- nothing more
append-none : (xs : List (Option Symbol)) → xs ++ [] ≡ xs
append-none [] = refl
append-none (x ∷ xs) = ap (λ others. x ∷ others) (append-none xs)

-- Tokens are a conditional expression of this value.
pub record AreExpression (tokens : List (Option Symbol)) (value : Valued) : Type 0 where
  pub tree : Tree
  pub formed : IsFormed tree
  pub high : 1 ≤ level tree
  pub tokens_are : tokens ≡ map Some (symbols tree)
  pub value_is : value ≡ value_of tree

run-reads : (tokens : List (Option Symbol)) (point : Point) (read : List Symbol) (value : Valued) → Reads point read → outcome (run tokens point) ≡ Some value →
    AreExpression (map Some read ++ tokens) value
unfolding run
run-reads [] point read value r o =
    let m : Means read value = outcome-reads point read value r o in
    record { tree = m.tree; formed = m.formed; high = m.high; tokens_are = append-none (map Some read) ∙ ap (map Some) m.read_is; value_is = m.value_is }
run-reads (Some symbol ∷ tokens) point read value r o =
    let a : AreExpression (map Some (read ++ symbol ∷ []) ++ tokens) value = run-reads tokens (step point symbol) (read ++ symbol ∷ []) value (step-reads point symbol read r) o in
    record { tree = a.tree; formed = a.formed; high = a.high; tokens_are = sym (some-snoc read symbol tokens) ∙ a.tokens_are; value_is = a.value_is }
run-reads (None ∷ tokens) point read value r o = absurd (cc)

-- What has an outcome is a conditional expression, and that is its value.
pub outcome-is : (tokens : List (Option Symbol)) (value : Valued) → outcome (run tokens (awaits [])) ≡ Some value → AreExpression tokens value
unfolding Reads frames_of spelled IsStack
outcome-is tokens value o = run-reads tokens (awaits []) [] value ([], refl, tt, refl) o
