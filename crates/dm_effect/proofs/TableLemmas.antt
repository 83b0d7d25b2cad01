-- A table of quiet functions, external declaration by external declaration.
use Rattle.std.proofs.Common.{◌≡◌, ℕ, ◌<◌, ◌≤◌, max, Bool, true, false, cond, ◌&&◌, ◌||◌, not, nat_le, List, [], ◌∷◌, ◌++◌, map, take_while, Option, refl, ap, sym, ◌∙◌, arith}
use mathlib.Core.Path.{fun_ext}
use denote.Param.Weighed.{most-append}
use Rattle.std.specs.List.{list_all, list_any}
use Rattle.std.proofs.lemmas.Bool.{leb-true, leb-false, le-leb}
use Rattle.std.proofs.lemmas.List.{map-append}
use Rattle.std.proofs.lemmas.List.Sums.{take_while-cons}
use Rattle.dm_type.specs.Tables.{Table}
use Rattle.dm_tree.specs.declared.unit.CoreExternal.{CoreExternal}
use Rattle.dm_tree.specs.declared.unit.CoreUnit.{CoreUnit}
use Rattle.dm_tree.specs.Trees.{Tree, spans_of}
use Rattle.dm_tree.specs.Units.{External}
use Rattle.dm_tree.specs.Views.{view_of_external, view_of_unit}
use Rattle.dm_effect.specs.Questions.{is_quiet_since}
use Rattle.dm_effect.specs.Quiet.{ends_before, is_one_of, is_quiet, is_quiet_with, quiet_functions}
use Rattle.dm_effect.specs.Tables.{joins, end_of, AreSince, IsTable, Enters}
use Rattle.dm_effect.proofs.QuietLemmas.{quiet-behind}

-- ---- external declarations that end before a token

module _ (types : Table) (token : ℕ) where
  abbrev ended : List CoreExternal → List External
  ended externals = take_while (ends_before token) (map (view_of_external types) externals)

  ended-first : (first : CoreExternal) (b : Bool) (front : List CoreExternal) → nat_le first.span.after token ≡ b
      → ended (first ∷ front) ≡ cond b (view_of_external types first ∷ ended front) []
  ended-first first b front is =
      take_while-cons (ends_before token) (view_of_external types first) (map (view_of_external types) front) ∙ ap (λ b. cond b (view_of_external types first ∷ ended front) []) is

  -- all do, or some don't
  pub all-ended : (front : List CoreExternal) → end_of front ≤ token → ended front ≡ map (view_of_external types) front
  all-ended [] h = refl
  all-ended (first ∷ front) h =
      ended-first first true front (le-leb first.span.after token (omega (arith, h))) ∙ ap (λ rest. view_of_external types first ∷ rest) (all-ended front (omega (arith, h)))

  pub some-open : (front others : List CoreExternal) → token < end_of front → ended (front ++ others) ≡ ended front
  some-open [] others h = absurd (omega (arith, h))
  some-open (first ∷ front) others h = by (nat_le first.span.after token) refl (λ here. some-open front others (omega (arith, h, here)))
    where
      by : (b : Bool) → nat_le first.span.after token ≡ b → (first.span.after ≤ token → ended (front ++ others) ≡ ended front) → ended (first ∷ (front ++ others)) ≡ ended (first ∷ front)
      by true is rest =
          ended-first first true (front ++ others) is ∙ (ap (λ rest. view_of_external types first ∷ rest) (rest (leb-true first.span.after token is)) ∙ sym (ended-first first true front is))
      by false is rest = ended-first first false (front ++ others) is ∙ sym (ended-first first false front is)

  -- behind all of them stands one that doesn't
  pub last-open : (front : List CoreExternal) (last : CoreExternal) → token < last.span.after → ended (front ++ last ∷ []) ≡ ended front
  last-open [] last h = ended-first last false [] (not-le last.span.after token h)
    where
      not-le : (a b : ℕ) → b < a → nat_le a b ≡ false
      not-le a b less = by (nat_le a b) refl
        where
          by : (found : Bool) → nat_le a b ≡ found → nat_le a b ≡ false
          by true is = let le : a ≤ b = leb-true a b is in absurd (omega (arith, less, le))
          by false is = is
  last-open (first ∷ front) last h = by (nat_le first.span.after token) refl (last-open front last h)
    where
      by : (b : Bool) → nat_le first.span.after token ≡ b → ended (front ++ last ∷ []) ≡ ended front → ended (first ∷ (front ++ last ∷ [])) ≡ ended (first ∷ front)
      by true is rest = ended-first first true (front ++ last ∷ []) is ∙ (ap (λ rest. view_of_external types first ∷ rest) rest ∙ sym (ended-first first true front is))
      by false is rest = ended-first first false (front ++ last ∷ []) is ∙ sym (ended-first first false front is)

-- ---- the table of a unit

-- it says of a tree whether it is quiet
pub table-quiet : (types : Table) (one : CoreUnit) (since : List (Option ℕ)) → IsTable one since → (tree : Tree)
    → is_quiet_with (is_quiet_since since (spans_of tree).inner.first) tree ≡ is_quiet (view_of_unit types one) tree
table-quiet types one since table tree = ap (λ (quiet : ℕ → Bool). is_quiet_with quiet tree) (fun_ext (λ d. table.same types (spans_of tree).inner.first d))

pub none-fails : {X : Type 0} (test doubt : X → Bool) → ((x : X) → doubt x ≡ not (test x)) → (all : List X) → not (list_any doubt all) ≡ list_all test all
none-fails test doubt same [] = refl
none-fails test doubt same (x ∷ all) =
    ap (λ b. not (b || list_any doubt all)) (same x) ∙ (turned (test x) (list_any doubt all) ∙ ap (λ b. test x && b) (none-fails test doubt same all))
  where
    turned : (b c : Bool) → not (not b || c) ≡ (b && not c)
    turned true c = refl
    turned false c = refl

-- ---- one external declaration after another

or-none : (b : Bool) → (b || false) ≡ b
or-none true = refl
or-none false = refl

or-swap : (p q : Bool) → (p || q) ≡ (q || p)
or-swap true true = refl
or-swap true false = refl
or-swap false true = refl
or-swap false false = refl

pub end-behind : (front : List CoreExternal) (last : CoreExternal) → end_of (front ++ last ∷ []) ≡ max (end_of front) last.span.after
end-behind front last =
    let split = most-append (λ (one : CoreExternal). one.span.after) front (last ∷ []) in omega (arith, split)

module _ (front : List CoreExternal) (last : CoreExternal) (old new : List (Option ℕ)) (table : AreSince front old) (enters : Enters old (max (end_of front) last.span.after) last new) where
  abbrev token : ℕ
  token = max (end_of front) last.span.after

  abbrev quiet_behind : Table → ℕ → Bool
  quiet_behind types d = is_one_of (quiet_functions (map (view_of_external types) front)) d

  old-behind : (types : Table) (later d : ℕ) → end_of front ≤ later → is_quiet_since old later d ≡ quiet_behind types d
  old-behind types later d le = table.same types later d ∙ ap (λ (externals : List External). is_one_of (quiet_functions externals) d) (all-ended types later front le)

  by : (types : Table) (later d : ℕ) (b : Bool) → nat_le token later ≡ b
      → is_quiet_since new later d ≡ is_one_of (quiet_functions (ended types later (front ++ last ∷ []))) d
  by types later d true is =
      let le : token ≤ later = leb-true token later is in
      let form = (view_of_external types last).form in
      enters.same types later d
      ∙ (ap (λ b. is_quiet_since old later d || (b && joins (is_quiet_since old token) d form)) is
      ∙ (ap (λ b. b || joins (is_quiet_since old token) d form) (old-behind types later d (omega (arith, le)))
      ∙ (ap (λ (quiet : ℕ → Bool). quiet_behind types d || joins quiet d form) (fun_ext (λ f. old-behind types token f (omega arith)))
      ∙ (or-swap (quiet_behind types d) (joins (quiet_behind types) d form)
      ∙ sym (ap (λ (externals : List External). is_one_of (quiet_functions externals) d)
      (all-ended types later (front ++ last ∷ []) (let end = end-behind front last in omega (arith, end, le)) ∙ map-append (view_of_external types) front (last ∷ []))
      ∙ quiet-behind (map (view_of_external types) front) (view_of_external types last) d)))))
  by types later d false is =
      let less : later < token = leb-false token later is in
      enters.same types later d
      ∙ (ap (λ b. is_quiet_since old later d || (b && joins (is_quiet_since old token) d (view_of_external types last).form)) is
      ∙ (or-none (is_quiet_since old later d)
      ∙ (table.same types later d ∙ sym (ap (λ (externals : List External). is_one_of (quiet_functions externals) d) (unlike types later less)))))
    where
      unlike : (types : Table) (later : ℕ) → later < token → ended types later (front ++ last ∷ []) ≡ ended types later front
      unlike types later less = which (nat_le last.span.after later) refl
        where
          which : (b : Bool) → nat_le last.span.after later ≡ b → ended types later (front ++ last ∷ []) ≡ ended types later front
          which true is = let le : last.span.after ≤ later = leb-true last.span.after later is in some-open types later front (last ∷ []) (omega (arith, less, le))
          which false is = last-open types later front last (leb-false last.span.after later is)

  pub one-behind : AreSince (front ++ last ∷ []) new
  one-behind = record { same = λ types later d. by types later d (nat_le token later) refl }
