-- What a result that is there tells, and what symbols are whatever is in scope.
use Rattle.std.proofs.Common.{◌≡◌, ◌≤◌, ℕ, Bool, true, false, List, Option, Some, None, refl, sym, ap, ◌∙◌, if◌then◌else◌, nat_le, option_map}
use Rattle.dm_token.specs.Limits.{greatest_height}
use Rattle.dm_syn.specs.declared.declared.Declared.{Declared}
use Rattle.dm_syn.specs.declared.symbol.Symbol.{Symbol}
use Rattle.dm_syn.specs.declared.symbol.Symbol.TheVariants as symbol
use Rattle.dm_syn.specs.Symbols.{is, is_identifier}
use Rattle.dm_syn.specs.Sources.{Source, symbol_at, symbol_in, seen_as, names_type, spelling_at}
use Rattle.dm_pexpr.specs.Parsing.{checked, and_then}
use Rattle.dm_pexpr.proofs.SymbolLemmas.{is-same}
use Rattle.dm_pexpr.proofs.Soundness.{inside, le-from}

-- a second thing that is found behind a first
pub then-some : {A B : Type 0} (next : A → Option B) (found : Option A) (it : B) → and_then next found ≡ Some it → (one : A) × (found ≡ Some one) × (next one ≡ Some it)
then-some next None it h = absurd (cc)
then-some next (Some one) it h = (one, refl, h)

-- what is made of a thing that is found
pub map-some : {A B : Type 0} (next : A → B) (found : Option A) (it : B) → option_map next found ≡ Some it → (one : A) × (found ≡ Some one) × (next one ≡ it)
map-some next None it h = absurd (cc)
map-some next (Some one) it h = (one, refl, inside _ _ h)

low-if : {A : Type 0} (height : ℕ) (test : Bool) (one it : A) → nat_le height greatest_height ≡ test → (if test then Some one else None) ≡ Some it → (one ≡ it) × (height ≤ greatest_height)
low-if height true one it t h = (inside _ _ h, le-from height greatest_height t)
low-if height false one it t h = absurd (cc)

-- a tree that is let through isn't too high
pub checked-low : {A : Type 0} (height : ℕ) (one it : A) → checked height one ≡ Some it → (one ≡ it) × (height ≤ greatest_height)
checked-low height one it h = low-if height (nat_le height greatest_height) one it refl h

seen-back : (stands : Symbol) (names : Bool) (it : Symbol) → seen_as stands names ≡ it → is_identifier it ≡ false → stands ≡ it
seen-back symbol.Identifier true it h k = let no : true ≡ false = ap is_identifier h ∙ k in absurd (cc)
seen-back symbol.Identifier false it h k = let no : true ≡ false = ap is_identifier h ∙ k in absurd (cc)
seen-back _ names it h k = h

seen-on : (stands : Symbol) (names : Bool) (it : Symbol) → stands ≡ it → is_identifier it ≡ false → seen_as stands names ≡ it
seen-on symbol.Identifier names it h k = let no : true ≡ false = ap is_identifier h ∙ k in absurd (cc)
seen-on _ names it h k = h

-- a symbol that is no identifier stands there whatever is in scope
pub at-symbol : (source : Source) (names : List Declared) (at : ℕ) (it : Symbol) → symbol_in source names at ≡ it → is_identifier it ≡ false → symbol_at source at ≡ it
unfolding symbol_in
at-symbol source names at it h k = seen-back (symbol_at source at) (names_type source names (spelling_at source at)) it h k

pub in-symbol : (source : Source) (names : List Declared) (at : ℕ) (it : Symbol) → symbol_at source at ≡ it → is_identifier it ≡ false → symbol_in source names at ≡ it
unfolding symbol_in
in-symbol source names at it h k = seen-on (symbol_at source at) (names_type source names (spelling_at source at)) it h k

pub alike : (source : Source) (one other : List Declared) (at : ℕ) (it : Symbol) → symbol_in source one at ≡ it → is_identifier it ≡ false → symbol_in source other at ≡ it
alike source one other at it h k = in-symbol source other at it (at-symbol source one at it h k) k

-- a symbol that fails the test is another
pub is-other : (it other : Symbol) → is it other ≡ false → it ≡ other → ⊥
is-other it other h e = let no : true ≡ false = sym (is-same other) ∙ ap (λ (this : Symbol). is this other) (sym e) ∙ h in cc
