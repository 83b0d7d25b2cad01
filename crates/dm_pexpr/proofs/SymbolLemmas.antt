-- What symbols are, by the tests on them.
use Rattle.std.proofs.Common.{◌≡◌, ℕ, ◌≤◌, ◌<◌, Bool, true, false, Some, Option, refl, sym, ap, ◌∙◌, subst, arith, unwrap_or, nat_le, ◌&&◌}
use Rattle.std.proofs.lemmas.Bool.{eq-eqb}
use Rattle.dm_syn.specs.declared.symbol.Symbol.{Symbol}
use Rattle.dm_syn.specs.declared.symbol.Symbol.TheVariants as symbol
use Rattle.dm_syn.specs.Symbols.{infix_level, is, begins_specifiers}
use Rattle.dm_syn.specs.Sources.{seen_as}
use Rattle.dm_syn.specs.Grammar.{prefix_level, is_assignment, is_specifier_word}
use Rattle.dm_pexpr.specs.Parsing.{front_kind, no_front, prefixing, suffix_kind, operating, assigning, Suffix, indexing, calling, selecting, following, counting, choosing, separating, no_suffix, goes_on}

-- a symbol is itself
pub is-same : (it : Symbol) → is it it ≡ true
is-same it = eq-eqb _ _ refl

pub suffix-infix : (it : Symbol) (level : ℕ) → infix_level it ≡ Some level → suffix_kind it ≡ operating level
suffix-infix symbol.Identifier level h = cc
suffix-infix _ level h = cc

pub suffix-assignment : (it : Symbol) → is_assignment it ≡ true → suffix_kind it ≡ assigning
suffix-assignment symbol.Identifier h = cc
suffix-assignment _ h = cc

pub front-prefix : (it : Symbol) (level : ℕ) → prefix_level it ≡ Some level → front_kind it ≡ prefixing level
front-prefix symbol.Identifier level h = cc
front-prefix _ level h = cc

pub seen-infix : (it : Symbol) (names : Bool) (level : ℕ) → infix_level it ≡ Some level → seen_as it names ≡ it
seen-infix symbol.Identifier names level h = cc
seen-infix _ names level h = refl

pub seen-assignment : (it : Symbol) (names : Bool) → is_assignment it ≡ true → seen_as it names ≡ it
seen-assignment symbol.Identifier names h = cc
seen-assignment _ names h = refl

pub seen-word : (it : Symbol) (names : Bool) → is_specifier_word it ≡ true → seen_as it names ≡ it
seen-word symbol.Identifier names h = cc
seen-word _ names h = refl

-- the levels of operators between two operands
of-some : {a b : ℕ} → Some a ≡ Some b → a ≡ b
of-some {a = a} h = ap (λ (found : Option ℕ). unwrap_or found a) h

pub infix-bounds : (it : Symbol) (level : ℕ) → infix_level it ≡ Some level → (3 ≤ level) × (level ≤ 12)
infix-bounds symbol.Ampersand level h = let e : 7 ≡ level = of-some h in (omega arith, omega arith)
infix-bounds symbol.Star level h = let e : 12 ≡ level = of-some h in (omega arith, omega arith)
infix-bounds symbol.Additive level h = let e : 11 ≡ level = of-some h in (omega arith, omega arith)
infix-bounds symbol.Multiplicative level h = let e : 12 ≡ level = of-some h in (omega arith, omega arith)
infix-bounds symbol.Shift level h = let e : 10 ≡ level = of-some h in (omega arith, omega arith)
infix-bounds symbol.Relational level h = let e : 9 ≡ level = of-some h in (omega arith, omega arith)
infix-bounds symbol.Equality level h = let e : 8 ≡ level = of-some h in (omega arith, omega arith)
infix-bounds symbol.Caret level h = let e : 6 ≡ level = of-some h in (omega arith, omega arith)
infix-bounds symbol.Bar level h = let e : 5 ≡ level = of-some h in (omega arith, omega arith)
infix-bounds symbol.And level h = let e : 4 ≡ level = of-some h in (omega arith, omega arith)
infix-bounds symbol.Or level h = let e : 3 ≡ level = of-some h in (omega arith, omega arith)
infix-bounds _ level h = absurd (cc)

-- nothing goes on behind a symbol that isn't a comma, as far as commas go
pub not-comma : (it : Symbol) → suffix_kind it ≡ no_suffix → is it symbol.Comma ≡ false
not-comma symbol.Comma h = cc
not-comma _ h = refl

-- tests on numbers
pub le-true : (m n : ℕ) → m ≤ n → nat_le m n ≡ true
le-true m n h = grind arith

pub le-false : (m n : ℕ) → n < m → nat_le m n ≡ false
le-false m n h = grind arith

-- what may stand behind an expression that is read at a level
abbrev pub Stops : ℕ → Suffix → Type 0
Stops least indexing = 15 < least
Stops least calling = 15 < least
Stops least selecting = 15 < least
Stops least following = 15 < least
Stops least counting = 15 < least
Stops least (operating level) = level < least
Stops least choosing = 2 < least
Stops least assigning = 1 < least
Stops least separating = 0 < least
Stops least no_suffix = Unit {0}

fails-first : (a b : ℕ) (rest : Bool) → b < a → (nat_le a b && rest) ≡ false
fails-first a b rest h = ap (λ (test : Bool). test && rest) (le-false a b h)

-- it doesn't go on there
pub stays : (least left : ℕ) (suffix : Suffix) → Stops least suffix → goes_on least left suffix ≡ false
stays least left indexing h = fails-first least 15 _ h
stays least left calling h = fails-first least 15 _ h
stays least left selecting h = fails-first least 15 _ h
stays least left following h = fails-first least 15 _ h
stays least left counting h = fails-first least 15 _ h
stays least left (operating level) h = fails-first least level _ h
stays least left choosing h = fails-first least 2 _ h
stays least left assigning h = fails-first least 1 _ h
stays least left separating h = fails-first least 0 _ h
stays least left no_suffix h = refl

pub stops-higher : (least higher : ℕ) (suffix : Suffix) → least ≤ higher → Stops least suffix → Stops higher suffix
stops-higher least higher indexing le h = omega (arith, h)
stops-higher least higher calling le h = omega (arith, h)
stops-higher least higher selecting le h = omega (arith, h)
stops-higher least higher following le h = omega (arith, h)
stops-higher least higher counting le h = omega (arith, h)
stops-higher least higher (operating level) le h = omega (arith, h)
stops-higher least higher choosing le h = omega (arith, h)
stops-higher least higher assigning le h = omega (arith, h)
stops-higher least higher separating le h = omega (arith, h)
stops-higher least higher no_suffix le h = tt

pub stops-nothing : (suffix : Suffix) → Stops 0 suffix → suffix ≡ no_suffix
stops-nothing indexing h = absurd (omega (arith, h))
stops-nothing calling h = absurd (omega (arith, h))
stops-nothing selecting h = absurd (omega (arith, h))
stops-nothing following h = absurd (omega (arith, h))
stops-nothing counting h = absurd (omega (arith, h))
stops-nothing (operating level) h = absurd (omega (arith, h))
stops-nothing choosing h = absurd (omega (arith, h))
stops-nothing assigning h = absurd (omega (arith, h))
stops-nothing separating h = absurd (omega (arith, h))
stops-nothing no_suffix h = refl

-- where nothing goes on, it stops at every level
pub stops-none : (least : ℕ) (suffix : Suffix) → suffix ≡ no_suffix → Stops least suffix
stops-none least suffix h = subst (Stops least) (sym h) tt

-- both tests hold
pub both : (a b c d : ℕ) → a ≤ b → c ≤ d → (nat_le a b && nat_le c d) ≡ true
both a b c d h k = ap (λ (test : Bool). test && nat_le c d) (le-true a b h) ∙ le-true c d k

-- behind the operand of a prefix operator stands what may stand behind a cast
pub casts-alike : (it : Symbol) → Stops 14 (suffix_kind it) → Stops 13 (suffix_kind it)
casts-alike symbol.LeftBracket h = omega (arith, h)
casts-alike symbol.LeftParen h = omega (arith, h)
casts-alike symbol.Dot h = omega (arith, h)
casts-alike symbol.Arrow h = omega (arith, h)
casts-alike symbol.Increment h = omega (arith, h)
casts-alike symbol.Ampersand h = omega (arith, h)
casts-alike symbol.Star h = omega (arith, h)
casts-alike symbol.Additive h = omega (arith, h)
casts-alike symbol.Multiplicative h = omega (arith, h)
casts-alike symbol.Shift h = omega (arith, h)
casts-alike symbol.Relational h = omega (arith, h)
casts-alike symbol.Equality h = omega (arith, h)
casts-alike symbol.Caret h = omega (arith, h)
casts-alike symbol.Bar h = omega (arith, h)
casts-alike symbol.And h = omega (arith, h)
casts-alike symbol.Or h = omega (arith, h)
casts-alike symbol.Question h = omega (arith, h)
casts-alike symbol.Comma h = omega (arith, h)
casts-alike symbol.Equals h = omega (arith, h)
casts-alike symbol.Compound h = omega (arith, h)
casts-alike _ h = tt

pub front-no-paren : (it : Symbol) → (front_kind it ≡ no_front → ⊥) → is it symbol.RightParen ≡ false
front-no-paren symbol.RightParen h = absurd (h refl)
front-no-paren _ h = refl

pub front-no-bracket : (it : Symbol) → (front_kind it ≡ no_front → ⊥) → is it symbol.RightBracket ≡ false
front-no-bracket symbol.RightBracket h = absurd (h refl)
front-no-bracket _ h = refl

pub front-no-specifier : (it : Symbol) → (front_kind it ≡ no_front → ⊥) → begins_specifiers it ≡ false
front-no-specifier symbol.TypedefName h = absurd (h refl)
front-no-specifier symbol.Const h = absurd (h refl)
front-no-specifier symbol.Typedef h = absurd (h refl)
front-no-specifier symbol.Storage h = absurd (h refl)
front-no-specifier symbol.TypeWord h = absurd (h refl)
front-no-specifier symbol.Struct h = absurd (h refl)
front-no-specifier symbol.Enum h = absurd (h refl)
front-no-specifier _ h = refl

-- the level of a prefix operator's operand is 14 or 13
pub by-level : (it : Symbol) (least : ℕ) → prefix_level it ≡ Some least → (P : ℕ → Type 0) → P 14 → P 13 → P least
by-level symbol.Increment least h P high low = subst P (of-some h) high
by-level symbol.Ampersand least h P high low = subst P (of-some h) low
by-level symbol.Star least h P high low = subst P (of-some h) low
by-level symbol.Additive least h P high low = subst P (of-some h) low
by-level symbol.Complement least h P high low = subst P (of-some h) low
by-level _ least h P high low = absurd (cc)

pub left-paren-is : (it : Symbol) → is it symbol.LeftParen ≡ true → it ≡ symbol.LeftParen
left-paren-is symbol.LeftParen h = refl
left-paren-is _ h = cc
