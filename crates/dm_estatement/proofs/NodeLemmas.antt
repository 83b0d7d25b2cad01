-- The nodes of statements, as the definition has them.
use Rattle.std.specs.Prelude.{◌≡◌, Bool, true, ◌&&◌, nat_lt, IsTrue, List, [], ◌∷◌, ◌++◌, map, All, Option, Some, None, option_map, is_some, length, refl}
use Rattle.std.proofs.Common.{sym, ap, ◌∙◌, subst}
use Rattle.std.proofs.lemmas.Bool.{and_from}
use Rattle.std.proofs.lemmas.List.Elements.{All-head, All-tail}
use Rattle.dm_token.specs.declared.place.Span.{Span}
use Rattle.dm_type.specs.declared.shape.Shape.{Shape}
use Rattle.dm_type.specs.CTypes.{CType}
use Rattle.dm_type.specs.Tables.{Table}
use Rattle.dm_syn.specs.Sources.{Source}
use Rattle.dm_tree.specs.declared.tree.Core.{Core}
use Rattle.dm_tree.specs.declared.tree.Local.{Local}
use Rattle.dm_tree.specs.Trees.{Label, Tree}
use Rattle.dm_tree.specs.Trees as label
use Rattle.dm_tree.specs.TypeNumbers.{are_known, are_known_in_local, all_pass, passes_if_there}
use Rattle.dm_tree.specs.Views.{view, if_there}
use Rattle.dm_typing.specs.Conversions.{made}
use Rattle.dm_typing.specs.Fitting.{IsNumbered}
use Rattle.dm_typing.specs.Known.{Setting}
use Rattle.dm_typing.specs.Typing.{extent}
use Rattle.dm_typing.specs.Views.{Begins, type_over}
use Rattle.dm_typing.proofs.LaterLemmas.{begins-on, known-later}
use Rattle.dm_typing.proofs.ValueLemmas.{node-known}
use Rattle.dm_edeclarator.proofs.FitLemmas.{id-later}
use Rattle.dm_edecl.specs.Statements.{statement, full_statement, is_there, for_statement}
use Rattle.dm_edeclaration.specs.Steps.{LocalFits}
use Rattle.dm_estatement.specs.declared.within.Within.{Within}
use Rattle.dm_estatement.specs.Parts.{WithinFits, OptionalFits, full_label}

-- ---- what a statement stands within

pub within-later : (old new : Table) (within : Within) → WithinFits old within → Begins old.shapes new.shapes → WithinFits new within
within-later old new within fits more = record {
  result = id-later old new within.result more fits.result;
  statement = (id-later old new within.statement more fits.statement.0, λ later on. fits.statement.1 later (begins-on old.shapes new.shapes later more on));
}

pub loop-fits : (types : Table) (within inner : Within) → inner ≡ record within { breaks = true; continues = true } → WithinFits types within → WithinFits types inner
loop-fits types within inner is fits = subst (WithinFits types) (sym is) (record { result = fits.result; statement = fits.statement })

pub switch-fits : (types : Table) (within inner : Within) → inner ≡ record within { breaks = true } → WithinFits types within → WithinFits types inner
switch-fits types within inner is fits = subst (WithinFits types) (sym is) (record { result = fits.result; statement = fits.statement })

-- ---- nodes

-- a statement's node has the type void
pub statement-is : (setting : Setting) (types : Table) (within : Within) (later : List Shape) (span : Span) (form : Label) (parts : List Tree) → WithinFits types within → Begins types.shapes later
    → made setting.source (extent span span) form (type_over later within.statement) parts ≡ statement setting span form parts
statement-is setting types within later span form parts fits on = ap (λ type. made setting.source (extent span span) form type parts) (fits.statement.1 later on)

-- an expression statement, and the empty one
pub full-is : (types : Table) (setting : Setting) (span : Span) (value : Option Core) → statement setting span (full_label value) (if_there (option_map (view types) value)) ≡ full_statement setting span (if_there (option_map (view types) value))
full-is types setting span None = refl
full-is types setting span (Some value) = refl

-- a `for` whose parts are these
pub for-parts : (types : Table) (source : Source) (span : Span) (kind : CType) (first condition step one two three : Option Core) (body other : Core)
    → one ≡ first → two ≡ condition → three ≡ step → other ≡ body
    → made source (extent span span) (label.for_loop (is_some one) (is_some two) (is_some three)) kind
    (if_there (option_map (view types) one) ++ (if_there (option_map (view types) two) ++ (if_there (option_map (view types) three) ++ view types other ∷ [])))
    ≡ made source (extent span span) (label.for_loop (is_some first) (is_some condition) (is_some step)) kind
    (if_there (option_map (view types) first) ++ (if_there (option_map (view types) condition) ++ (if_there (option_map (view types) step) ++ view types body ∷ [])))
for-parts types source span kind first condition step one two three body other a b c d =
    ap (λ x. built x two three other) a ∙ ap (λ x. built first x three other) b ∙ ap (λ x. built first condition x other) c ∙ ap (λ x. built first condition step x) d
  where
    built : Option Core → Option Core → Option Core → Core → Tree
    built x y z last =
        made source (extent span span) (label.for_loop (is_some x) (is_some y) (is_some z)) kind
        (if_there (option_map (view types) x) ++ (if_there (option_map (view types) y) ++ (if_there (option_map (view types) z) ++ view types last ∷ [])))

-- which clauses of a `for` are there
clause-there : (types : Table) (value : Option Core) → is_some value ≡ is_there (if_there (option_map (view types) value))
clause-there types None = refl
clause-there types (Some value) = refl

pub for-is-there : (types : Table) (setting : Setting) (span : Span) (first condition step : Option Core) (body : Tree)
    → statement setting span (label.for_loop (is_some first) (is_some condition) (is_some step))
    (if_there (option_map (view types) first) ++ (if_there (option_map (view types) condition) ++ (if_there (option_map (view types) step) ++ body ∷ [])))
    ≡ for_statement setting span (if_there (option_map (view types) first)) (if_there (option_map (view types) condition)) (if_there (option_map (view types) step)) body
for-is-there types setting span first condition step body =
    ap (λ a. labelled a (is_some condition) (is_some step)) (clause-there types first)
    ∙ ap (λ b. labelled (is_there (if_there (option_map (view types) first))) b (is_some step)) (clause-there types condition)
    ∙ ap (λ d. labelled (is_there (if_there (option_map (view types) first))) (is_there (if_there (option_map (view types) condition))) d) (clause-there types step)
  where
    labelled : Bool → Bool → Bool → Tree
    labelled a b d =
        statement setting span (label.for_loop a b d)
        (if_there (option_map (view types) first) ++ (if_there (option_map (view types) condition) ++ (if_there (option_map (view types) step) ++ body ∷ [])))

-- ---- their types are numbered

pub optional-passes : (types : Table) (value : Option Core) → OptionalFits types value → passes_if_there (option_map (are_known (length types.shapes)) value) ≡ true
optional-passes types None fits = refl
optional-passes types (Some value) fits = fits

pub optional-later : (old new : Table) (value : Option Core) → OptionalFits old value → Begins old.shapes new.shapes → OptionalFits new value
optional-later old new None fits more = tt
optional-later old new (Some value) fits more = known-later old.shapes new.shapes value more fits

pub locals-pass : (types : Table) (locals : List Local) → All (LocalFits types) locals → all_pass (map (are_known_in_local (length types.shapes)) locals) ≡ true
locals-pass types [] all = refl
locals-pass types (local ∷ locals) all =
    and_from (are_known_in_local (length types.shapes) local) (all_pass (map (are_known_in_local (length types.shapes)) locals)) (All-head (LocalFits types) local locals all)
    (locals-pass types locals (All-tail (LocalFits types) local locals all))

module _ (types : Table) (within : Within) (fits : WithinFits types within) (node : Core) where
  -- with no parts, one or two
  pub bare-fits : are_known (length types.shapes) node ≡ (nat_lt within.statement (length types.shapes) && true) → IsNumbered types node
  bare-fits is = node-known (length types.shapes) within.statement node true is fits.statement.0 refl

  pub one-fits : (a : Bool) → are_known (length types.shapes) node ≡ (nat_lt within.statement (length types.shapes) && a) → IsTrue a → IsNumbered types node
  one-fits a is first = node-known (length types.shapes) within.statement node a is fits.statement.0 first

  pub two-fit : (a b : Bool) → are_known (length types.shapes) node ≡ (nat_lt within.statement (length types.shapes) && (a && b)) → IsTrue a → IsTrue b → IsNumbered types node
  two-fit a b is first second = node-known (length types.shapes) within.statement node (a && b) is fits.statement.0 (and_from a b first second)

  pub three-fit : (a b d : Bool) → are_known (length types.shapes) node ≡ (nat_lt within.statement (length types.shapes) && (a && (b && d))) → IsTrue a → IsTrue b → IsTrue d → IsNumbered types node
  three-fit a b d is first second third = node-known (length types.shapes) within.statement node (a && (b && d)) is fits.statement.0 (and_from a (b && d) first (and_from b d second third))

  pub four-fit : (a b d e : Bool) → are_known (length types.shapes) node ≡ (nat_lt within.statement (length types.shapes) && (a && (b && (d && e)))) → IsTrue a → IsTrue b → IsTrue d → IsTrue e → IsNumbered types node
  four-fit a b d e is first second third fourth =
      node-known (length types.shapes) within.statement node (a && (b && (d && e))) is fits.statement.0 (and_from a (b && (d && e)) first (and_from b (d && e) second (and_from d e third fourth)))
