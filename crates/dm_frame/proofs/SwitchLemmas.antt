-- The labels of a statement, one after the other (6.8.1).
use Rattle.std.proofs.Common.{◌≡◌, ℕ, suc, ℤ, Bool, true, false, ◌||◌, List, [], ◌∷◌, map, length, Option, Some, None, if◌then◌else◌, rules, refl, ap, sym, subst, ◌∙◌, arith}
use Rattle.dm_type.specs.CTypes.{CType}
use Rattle.dm_type.specs.Tables.{Table}
use Rattle.dm_tree.specs.declared.tree.Core.{Core, out-Core}
use Rattle.dm_tree.specs.declared.tree.Form.TheVariants as form
use Rattle.dm_tree.specs.Trees.{Label, Spans, Tree, Trees, case, default, node}
use Rattle.dm_tree.specs.Views.{Opened, opened_form, view}
use Rattle.dm_meaning.specs.Programs.{Program, constant_of}
use Rattle.dm_meaning.specs.Statements.{from_first, has_case, has_default, is_number}
use Rattle.dm_meaning.specs.Values.{integer_value}
use Rattle.dm_value.specs.declared.value.Value as value
use Rattle.dm_value.specs.declared.value.Value.TheVariants as value_form
use Rattle.dm_value.specs.Integers.{Number}
use Rattle.dm_value.specs.Views.{view_of_value}
use Rattle.dm_frame.specs.Tasks.{TreesFit}
use Rattle.dm_program.proofs.FormLemmas.{opened-Block, opened-Break, opened-Case, opened-Continue, opened-Declare, opened-Default, opened-Do, opened-For, opened-Full, opened-If, opened-Return, opened-Switch, opened-While}
use Rattle.dm_program.proofs.SortLemmas.{Sorted, is-Block, is-Declare, is-Full, is-If, is-Switch, is-Case, is-Default, is-While, is-Do, is-For, is-Break, is-Continue, is-Return, is-inert, sorted}
use Rattle.dm_frame.proofs.BeginLemmas.{seen-as}

pub case-Case : (program : Program) (z : ℤ) (table : Table) (core a b : Core) → (out-Core core).form ≡ form.Case a b
    → has_case program z (view table core) ≡ (is_number z (constant_of program (view table a)) || has_case program z (view table b))
case-Case program z table core a b is = ap (has_case program z) (seen-as table core _ (ap (opened_form table) is ∙ opened-Case table a b))

pub case-Default : (program : Program) (z : ℤ) (table : Table) (core a : Core) → (out-Core core).form ≡ form.Default a → has_case program z (view table core) ≡ has_case program z (view table a)
case-Default program z table core a is = ap (has_case program z) (seen-as table core _ (ap (opened_form table) is ∙ opened-Default table a))

pub default-Case : (table : Table) (core a b : Core) → (out-Core core).form ≡ form.Case a b → has_default (view table core) ≡ has_default (view table b)
default-Case table core a b is = ap has_default (seen-as table core _ (ap (opened_form table) is ∙ opened-Case table a b))

pub default-Default : (table : Table) (core a : Core) → (out-Core core).form ≡ form.Default a → has_default (view table core) ≡ true
default-Default table core a is = ap has_default (seen-as table core _ (ap (opened_form table) is ∙ opened-Default table a))

-- a statement without a label has none
module _ (program : Program) (z : ℤ) (table : Table) (core : Core) (no-case : (a b : Core) → (out-Core core).form ≡ form.Case a b → ⊥) (no-default : (a : Core) → (out-Core core).form ≡ form.Default a → ⊥) where
  case-plainly : (opening : Opened) → opened_form table (out-Core core).form ≡ opening
      → ((kind : CType) (spans : Spans) (parts : Trees) → has_case program z (node opening.label kind spans parts) ≡ false) → has_case program z (view table core) ≡ false
  case-plainly opening opens none = ap (has_case program z) (seen-as table core opening opens) ∙ none _ _ _

  case-sort : Sorted table (out-Core core).form → has_case program z (view table core) ≡ false
  case-sort (is-Block items is) = case-plainly _ (ap (opened_form table) is ∙ opened-Block table items) (λ kind spans parts. refl)
  case-sort (is-Declare lengths locals is) = case-plainly _ (ap (opened_form table) is ∙ opened-Declare table lengths locals) (λ kind spans parts. refl)
  case-sort (is-Full a is) = case-plainly _ (ap (opened_form table) is ∙ opened-Full table a) (λ kind spans parts. refl)
  case-sort (is-If a b c is) = case-plainly _ (ap (opened_form table) is ∙ opened-If table a b c) (λ kind spans parts. refl)
  case-sort (is-Switch a items is) = case-plainly _ (ap (opened_form table) is ∙ opened-Switch table a items) (λ kind spans parts. refl)
  case-sort (is-While a b is) = case-plainly _ (ap (opened_form table) is ∙ opened-While table a b) (λ kind spans parts. refl)
  case-sort (is-Do a b is) = case-plainly _ (ap (opened_form table) is ∙ opened-Do table a b) (λ kind spans parts. refl)
  case-sort (is-For a b c body is) = case-plainly _ (ap (opened_form table) is ∙ opened-For table a b c body) (λ kind spans parts. refl)
  case-sort (is-Break is) = case-plainly _ (ap (opened_form table) is ∙ opened-Break table) (λ kind spans parts. refl)
  case-sort (is-Continue is) = case-plainly _ (ap (opened_form table) is ∙ opened-Continue table) (λ kind spans parts. refl)
  case-sort (is-Return a is) = case-plainly _ (ap (opened_form table) is ∙ opened-Return table a) (λ kind spans parts. refl)
  case-sort (is-Case a b is) = absurd (no-case a b is)
  case-sort (is-Default a is) = absurd (no-default a is)
  case-sort (is-inert inert) = case-plainly _ refl (inert.no_case program z)

  pub case-other : has_case program z (view table core) ≡ false
  case-other = case-sort (sorted table (out-Core core).form)

-- a statement without a label has none
module _ (table : Table) (core : Core) (no-case : (a b : Core) → (out-Core core).form ≡ form.Case a b → ⊥) (no-default : (a : Core) → (out-Core core).form ≡ form.Default a → ⊥) where
  default-plainly : (opening : Opened) → opened_form table (out-Core core).form ≡ opening
      → ((kind : CType) (spans : Spans) (parts : Trees) → has_default (node opening.label kind spans parts) ≡ false) → has_default (view table core) ≡ false
  default-plainly opening opens none = ap (has_default) (seen-as table core opening opens) ∙ none _ _ _

  default-sort : Sorted table (out-Core core).form → has_default (view table core) ≡ false
  default-sort (is-Block items is) = default-plainly _ (ap (opened_form table) is ∙ opened-Block table items) (λ kind spans parts. refl)
  default-sort (is-Declare lengths locals is) = default-plainly _ (ap (opened_form table) is ∙ opened-Declare table lengths locals) (λ kind spans parts. refl)
  default-sort (is-Full a is) = default-plainly _ (ap (opened_form table) is ∙ opened-Full table a) (λ kind spans parts. refl)
  default-sort (is-If a b c is) = default-plainly _ (ap (opened_form table) is ∙ opened-If table a b c) (λ kind spans parts. refl)
  default-sort (is-Switch a items is) = default-plainly _ (ap (opened_form table) is ∙ opened-Switch table a items) (λ kind spans parts. refl)
  default-sort (is-While a b is) = default-plainly _ (ap (opened_form table) is ∙ opened-While table a b) (λ kind spans parts. refl)
  default-sort (is-Do a b is) = default-plainly _ (ap (opened_form table) is ∙ opened-Do table a b) (λ kind spans parts. refl)
  default-sort (is-For a b c body is) = default-plainly _ (ap (opened_form table) is ∙ opened-For table a b c body) (λ kind spans parts. refl)
  default-sort (is-Break is) = default-plainly _ (ap (opened_form table) is ∙ opened-Break table) (λ kind spans parts. refl)
  default-sort (is-Continue is) = default-plainly _ (ap (opened_form table) is ∙ opened-Continue table) (λ kind spans parts. refl)
  default-sort (is-Return a is) = default-plainly _ (ap (opened_form table) is ∙ opened-Return table a) (λ kind spans parts. refl)
  default-sort (is-Case a b is) = absurd (no-case a b is)
  default-sort (is-Default a is) = absurd (no-default a is)
  default-sort (is-inert inert) = default-plainly _ refl (inert.no_default)

  pub default-other : has_default (view table core) ≡ false
  default-other = default-sort (sorted table (out-Core core).form)

-- what an integer stands for
pub view-Integer : (integer : Number) → view_of_value (value_form.Integer integer) ≡ integer_value integer.kind integer.value
view-Integer integer = search (rules, value.the_lemmas)

-- ---- the items from the first that passes a test on

pub found-first : (table : Table) (test : Tree → Bool) (items : List Core) (item : Core) (rest : List Core) → items ≡ item ∷ rest → test (view table item) ≡ true
    → from_first test (map (view table) items) ≡ Some (map (view table) items)
found-first table test items item rest e is =
    ap (λ (l : List Core). from_first test (map (view table) l)) e
    ∙ (ap (λ b. if b then Some (view table item ∷ map (view table) rest) else from_first test (map (view table) rest)) is
    ∙ ap (λ (l : List Core). Some (map (view table) l)) (sym e))

pub passed-first : (table : Table) (test : Tree → Bool) (items : List Core) (item : Core) (rest : List Core) → items ≡ item ∷ rest → test (view table item) ≡ false
    → from_first test (map (view table) items) ≡ from_first test (map (view table) rest)
passed-first table test items item rest e is =
    ap (λ (l : List Core). from_first test (map (view table) l)) e
    ∙ ap (λ b. if b then Some (view table item ∷ map (view table) rest) else from_first test (map (view table) rest)) is

pub none-first : (table : Table) (test : Tree → Bool) (items : List Core) → length items ≡ 0 → from_first test (map (view table) items) ≡ None
none-first table test [] e = refl
none-first table test (item ∷ rest) e = absurd (not-none (length rest) e)
  where
    not-none : (n : ℕ) → suc n ≡ 0 → ⊥
    not-none n e = omega (arith, e)

pub rest-fits : (table : Table) (items : List Core) (item : Core) (rest : List Core) → items ≡ item ∷ rest → TreesFit table items → TreesFit table rest
rest-fits table items item rest e fits = (subst (TreesFit table) e fits).1
