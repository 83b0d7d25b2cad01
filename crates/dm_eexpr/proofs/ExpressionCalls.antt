-- The calls of each form of expression, in their order.
use Rattle.std.specs.Prelude.{◌≡◌, ℕ, ◌+◌, ◌<◌, ◌≤◌, Bool, false, List, [], ◌∷◌, ◌++◌, map, drop, length, slice_get, Ok}
use Rattle.std.proofs.Common.{sym, ap, ◌∙◌, subst, get_or}
use Rattle.std.proofs.lemmas.List.Elements.{All-nil}
use Rattle.dm_syn.specs.declared.declaration.TypeName.{TypeName}
use Rattle.dm_syn.specs.declared.expression.Expr.{Expr}
use Rattle.dm_syn.specs.declared.expression.ExprForm.{ExprForm}
use Rattle.dm_syn.specs.declared.expression.ExprForm.TheVariants as form
use Rattle.dm_type.specs.declared.shape.Shape.{Shape}
use Rattle.dm_type.specs.CTypes.{bare}
use Rattle.dm_syn.specs.Sources.{symbol_at, spelling_at}
use Rattle.dm_syn.specs.Trees as tree
use Rattle.dm_syn.specs.Views as syntax
use Rattle.dm_tree.specs.declared.tree.Core.{Core}
use Rattle.dm_tree.specs.Trees.{Tree}
use Rattle.dm_typing.specs.declared.extent.Extent.{Extent}
use Rattle.dm_typing.specs.declared.known.Known.{Known as Held}
use Rattle.dm_typing.specs.declared.typer.Typer.{Typer}
use Rattle.dm_typing.specs.Fitting.{IsNumbered, AreNumbered}
use Rattle.dm_typing.specs.Known.{Known, Outcome, given, if_given, meaning_of}
use Rattle.dm_typing.specs.Typing.{named, constant_tree, literal_tree, typed, typed_within, typed_values, typed_index, typed_member, typed_arrow, typed_count, typed_prefix, typed_sizeof, typed_sizeof_name, typed_binary, typed_choice, typed_assignment, typed_call, typed_cast, comma_of, typed_name, TypedName}
use Rattle.dm_typing.specs.Views.{known_over, source_of, setting_of}
use Rattle.dm_edeclarator.specs.Steps.{Follows}
use Rattle.dm_edeclarator.proofs.ReachLemmas.{Reaches, begins, says, done}
use Rattle.dm_eexpr.specs.Parts.{valued, views_over}
use Rattle.dm_eexpr.proofs.AwaitLemmas.{Awaits, Pair, Triple}
use Rattle.dm_eexpr.proofs.LoopLemmas.{onward, onward-none, cut, past, values-next, values-end}
use Rattle.dm_eexpr.proofs.SplitLemmas.{name-split, constant-split, literal-split, paren-split, index-split, binary-split, conditional-split, assign-split, call-split, cast-split, member-split, arrow-split, postfix-split, prefix-split, sizeof-expr-split, sizeof-name-split, comma-split}
use Rattle.dm_eexpr.proofs.SyntaxViewLemmas.{form-name, form-constant, form-literal, form-paren}

-- ---- forms whose operands are typed one after the other

module _ (typer : Typer) (used : Bool) (known : Held) (at : Extent) where
  abbrev within : tree.Expr → List Shape → Outcome Tree
  within expr later = typed_within (setting_of typer) used (known_over later known) at.outer expr

  abbrev tree_of : Bool → Expr → Known → Outcome Tree
  tree_of used expr now = typed (setting_of typer) used now (syntax.expr expr)

  abbrev value : Expr → Known → Outcome Tree
  value expr now = valued (tree_of used expr now)

  abbrev pub member-call : (whole : Expr) (name : ℕ) → Awaits Tree known known (within (tree.member at.inner (syntax.expr whole) name))
  member-call whole name = record {
    one = λ later. tree_of used whole (known_over later known);
    next = λ later behind made. typed_member (setting_of typer) behind at name made;
    reached = begins known _ _ (λ later. member-split (setting_of typer) used (known_over later known) at (syntax.expr whole) name);
  }

  abbrev pub arrow-call : (pointing : Expr) (name : ℕ) → Awaits Tree known known (within (tree.arrow at.inner (syntax.expr pointing) name))
  arrow-call pointing name = record {
    one = λ later. value pointing (known_over later known);
    next = λ later behind made. typed_arrow (setting_of typer) behind at name made;
    reached = begins known _ _ (λ later. arrow-split (setting_of typer) used (known_over later known) at (syntax.expr pointing) name);
  }

  abbrev pub postfix-call : (operand : Expr) (operator : ℕ) → Awaits Tree known known (within (tree.postfix at.inner (syntax.expr operand) operator))
  postfix-call operand operator = record {
    one = λ later. tree_of used operand (known_over later known);
    next = λ later behind made. typed_count (setting_of typer) behind at operator false made;
    reached = begins known _ _ (λ later. postfix-split (setting_of typer) used (known_over later known) at (syntax.expr operand) operator);
  }

  abbrev pub prefix-call : (operator : ℕ) (operand : Expr) → Awaits Tree known known (within (tree.prefix at.inner operator (syntax.expr operand)))
  prefix-call operator operand = record {
    one = λ later. tree_of used operand (known_over later known);
    next = λ later behind made. typed_prefix (setting_of typer) behind at operator made (symbol_at (source_of typer) operator);
    reached = begins known _ _ (λ later. prefix-split (setting_of typer) used (known_over later known) at operator (syntax.expr operand));
  }

  abbrev pub sizeof-call : (operand : Expr) → Awaits Tree known known (within (tree.sizeof_expr at.inner (syntax.expr operand)))
  sizeof-call operand = record {
    one = λ later. tree_of false operand (known_over later known);
    next = λ later behind made. typed_sizeof (setting_of typer) behind at made;
    reached = begins known _ _ (λ later. sizeof-expr-split (setting_of typer) used (known_over later known) at (syntax.expr operand));
  }

  abbrev pub sizeof-name-call : (name : TypeName) → Awaits TypedName known known (within (tree.sizeof_name at.inner (syntax.type_name name)))
  sizeof-name-call name = record {
    one = λ later. typed_name (setting_of typer) false (known_over later known) (syntax.type_name name);
    next = λ later behind (named : TypedName). typed_sizeof_name (setting_of typer) behind at named.kind named.constants;
    reached = begins known _ _ (λ later. sizeof-name-split (setting_of typer) used (known_over later known) at (syntax.type_name name));
  }

  abbrev pub comma-call : (parts : List Expr) → Awaits (List Tree) known known (within (tree.comma at.inner (syntax.exprs (map syntax.expr parts))))
  comma-call parts = record {
    one = λ later. typed_values (setting_of typer) used (known_over later known) (syntax.exprs (map syntax.expr parts));
    next = λ later behind values. if_given (comma_of (setting_of typer) at values) 1 at.inner.first (λ made. given behind made);
    reached = begins known _ _ (λ later. comma-split (setting_of typer) used (known_over later known) at (syntax.exprs (map syntax.expr parts)));
  }

  abbrev pub index-calls : (a b : Expr) → Pair Tree Tree known known (within (tree.index at.inner (syntax.expr a) (syntax.expr b)))
  index-calls a b = record {
    one = λ later. value a (known_over later known);
    two = λ later now. value b now;
    next = λ later behind first second. typed_index (setting_of typer) behind at first second;
    reached = begins known _ _ (λ later. index-split (setting_of typer) used (known_over later known) at (syntax.expr a) (syntax.expr b));
  }

  abbrev pub binary-calls : (a : Expr) (operator : ℕ) (b : Expr) → Pair Tree Tree known known (within (tree.binary at.inner (syntax.expr a) operator (syntax.expr b)))
  binary-calls a operator b = record {
    one = λ later. value a (known_over later known);
    two = λ later now. value b now;
    next = λ later behind first second. typed_binary (setting_of typer) behind at operator first second (symbol_at (source_of typer) operator);
    reached = begins known _ _ (λ later. binary-split (setting_of typer) used (known_over later known) at (syntax.expr a) (syntax.expr b) operator);
  }

  abbrev pub assign-calls : (object : Expr) (operator : ℕ) (stored : Expr) → Pair Tree Tree known known (within (tree.assign at.inner (syntax.expr object) operator (syntax.expr stored)))
  assign-calls object operator stored = record {
    one = λ later. tree_of used object (known_over later known);
    two = λ later now. value stored now;
    next = λ later behind first second. typed_assignment (setting_of typer) behind at operator first second (symbol_at (source_of typer) operator);
    reached = begins known _ _ (λ later. assign-split (setting_of typer) used (known_over later known) at (syntax.expr object) operator (syntax.expr stored));
  }

  abbrev pub call-calls : (callee : Expr) (arguments : List Expr) → Pair Tree (List Tree) known known (within (tree.call at.inner (syntax.expr callee) (syntax.exprs (map syntax.expr arguments))))
  call-calls callee arguments = record {
    one = λ later. tree_of used callee (known_over later known);
    two = λ later now. typed_values (setting_of typer) used now (syntax.exprs (map syntax.expr arguments));
    next = λ later behind first values. typed_call (setting_of typer) behind at (syntax.expr callee) first values;
    reached = begins known _ _ (λ later. call-split (setting_of typer) used (known_over later known) at (syntax.expr callee) (syntax.exprs (map syntax.expr arguments)));
  }

  abbrev pub cast-calls : (name : TypeName) (operand : Expr) → Pair TypedName Tree known known (within (tree.cast at.inner (syntax.type_name name) (syntax.expr operand)))
  cast-calls name operand = record {
    one = λ later. typed_name (setting_of typer) used (known_over later known) (syntax.type_name name);
    two = λ later now. value operand now;
    next = λ later behind (named : TypedName) made. typed_cast (setting_of typer) behind at (bare named.kind) named.constants made;
    reached = begins known _ _ (λ later. cast-split (setting_of typer) used (known_over later known) at (syntax.type_name name) (syntax.expr operand));
  }

  abbrev pub conditional-calls : (condition a b : Expr) → Triple Tree Tree Tree known known (within (tree.conditional at.inner (syntax.expr condition) (syntax.expr a) (syntax.expr b)))
  conditional-calls condition a b = record {
    one = λ later. value condition (known_over later known);
    two = λ later now. value a now;
    three = λ later now. value b now;
    next = λ later behind first second third. typed_choice (setting_of typer) behind at first second third;
    reached = begins known _ _ (λ later. conditional-split (setting_of typer) used (known_over later known) at (syntax.expr condition) (syntax.expr a) (syntax.expr b));
  }

  -- ---- the other forms

  abbrev of_form : ExprForm → List Shape → Outcome Tree
  of_form it = within (syntax.expr_form it at.inner)

  formed : (it other : ExprForm) (expr : tree.Expr) (later : List Shape) → it ≡ other → syntax.expr_form other at.inner ≡ expr → of_form it later ≡ within expr later
  formed it other expr later is e = ap (λ f. of_form f later) is ∙ ap (λ e. within e later) e

  pub name-formed : (it : ExprForm) → it ≡ form.Name → (later : List Shape)
      → of_form it later ≡ named (setting_of typer) used (known_over later known) at (spelling_at (source_of typer) at.inner.first) (meaning_of (known_over later known) (spelling_at (source_of typer) at.inner.first))
  name-formed it is later = formed it form.Name (tree.name at.inner) later is (form-name at.inner) ∙ name-split (setting_of typer) used (known_over later known) at

  pub constant-formed : (it : ExprForm) → it ≡ form.Constant → (later : List Shape) → of_form it later ≡ given (known_over later known) (constant_tree (setting_of typer) at (slice_get typer.tokens.now at.inner.first))
  constant-formed it is later = formed it form.Constant (tree.constant at.inner) later is (form-constant at.inner) ∙ constant-split (setting_of typer) used (known_over later known) at

  pub literal-formed : (it : ExprForm) → it ≡ form.Literal → (later : List Shape) → of_form it later ≡ given (known_over later known) (literal_tree (setting_of typer) at (spelling_at (source_of typer) at.inner.first))
  literal-formed it is later = formed it form.Literal (tree.literal at.inner) later is (form-literal at.inner) ∙ literal-split (setting_of typer) used (known_over later known) at

  pub paren-formed : (it : ExprForm) (inner lent : Expr) → it ≡ form.Paren inner → lent ≡ inner → (later : List Shape) → of_form it later ≡ within (syntax.expr lent) later
  paren-formed it inner lent is same later =
      formed it (form.Paren inner) (tree.paren at.inner (syntax.expr inner)) later is (form-paren at.inner inner) ∙ paren-split (setting_of typer) used (known_over later known) at (syntax.expr inner)
      ∙ ap (λ x. within (syntax.expr x) later) (sym same)

-- ---- the values of expressions, from left to right

module _ (typer : Typer) (used : Bool) (now : Held) (exprs : List Expr) (values : List Core) (n : ℕ) where
  abbrev left : List Shape → Outcome (List Tree)
  left later = onward (views_over later values) (typed_values (setting_of typer) used (known_over later now) (syntax.exprs (map syntax.expr (drop n exprs))))

  module _ {old : Held} {whole : List Shape → Outcome (List Tree)} (reached : Reaches old now whole left) where
    abbrev pub value-call : (item : Expr) → n < length exprs → item ≡ get_or exprs n item → Awaits Tree old now whole
    value-call item inside is = record {
      one = λ later. valued (typed (setting_of typer) used (known_over later now) (syntax.expr item));
      next = λ later then_known value. onward (views_over later values ++ value ∷ []) (typed_values (setting_of typer) used then_known (syntax.exprs (map syntax.expr (drop (n + 1) exprs))));
      reached = says old now whole left _ reached
          (λ later on. ap (λ items. onward (views_over later values) (typed_values (setting_of typer) used (known_over later now) (syntax.exprs (map syntax.expr items)))) (cut exprs n item inside is)
          ∙ values-next (setting_of typer) used (known_over later now) (views_over later values) (syntax.expr item) (syntax.exprs (map syntax.expr (drop (n + 1) exprs))));
    }

    pub values-done : length exprs ≤ n → AreNumbered now.types values → Follows AreNumbered views_over (source_of typer) old now (Ok values) whole
    values-done none numbered =
        done AreNumbered views_over (source_of typer) old now whole values
        (says old now whole left _ reached
        (λ later on. ap (λ items. onward (views_over later values) (typed_values (setting_of typer) used (known_over later now) (syntax.exprs (map syntax.expr items)))) (past exprs n none)
        ∙ values-end (setting_of typer) used (known_over later now) (views_over later values)))
        numbered

pub values-begun : (typer : Typer) (used : Bool) (known : Held) (exprs : List Expr) (values : List Core) → values ≡ []
    → Reaches known known (λ later. typed_values (setting_of typer) used (known_over later known) (syntax.exprs (map syntax.expr exprs))) (left typer used known exprs values 0) × AreNumbered known.types values
values-begun typer used known exprs values none =
    let all : List Shape → Outcome (List Tree) = λ later. typed_values (setting_of typer) used (known_over later known) (syntax.exprs (map syntax.expr exprs)) in (
      begins known all (left typer used known exprs values 0) (λ later. onward-none (all later) ∙ ap (λ (values : List Core). onward (views_over later values) (all later)) (sym none)),
      subst (AreNumbered known.types) (sym none) (All-nil (IsNumbered known.types)),
    )
