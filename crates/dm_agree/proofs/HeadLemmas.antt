-- Declarations of the code.
use Rattle.std.proofs.Common.{rules, ◌≡◌, ◌↔◌, List, length, map, Option, sym, ap, ◌∙◌}
use Rattle.std.proofs.lemmas.List.{length-map}
use Rattle.dm_type.specs.Tables.{Table}
use Rattle.dm_tree.specs.declared.tree.Core.{Core}
use Rattle.dm_tree.specs.declared.tree.Core as q
use Rattle.dm_tree.specs.declared.tree.Form.{Form}
use Rattle.dm_tree.specs.declared.tree.Form.TheVariants as form
use Rattle.dm_tree.specs.declared.tree.Local.{Local}
use Rattle.dm_tree.specs.Trees as label
use Rattle.dm_tree.specs.Views.{declarators_of, opened_form, view, view_of_local}
use Rattle.dm_meaning.specs.Replaced.{relabelled, renamed_declarator}
use Rattle.dm_agree.specs.declared.moves.Block.{Block}
use Rattle.dm_agree.specs.Heads.{declaring}
use Rattle.dm_agree.specs.Moves.{moved_past}
use Rattle.dm_agree.proofs.StepLemmas.{SameDeclarators}

declaring-is : (types : Table) (f : Form) (lengths : List Core) (locals : List Local) → f ≡ form.Declare lengths locals
    → declaring (opened_form types f).label ≡ label.declare (length lengths) (declarators_of (map (view_of_local types) locals))
declaring-is types f lengths locals is =
    ap (λ one. declaring (opened_form types one).label) is
    ∙ (ap declaring opened-Declare ∙ ap (λ count. label.declare count (declarators_of (map (view_of_local types) locals))) (length-map lengths (view types)))
  where
    opened-Declare : (opened_form types (form.Declare lengths locals)).label ≡ label.declare (length (map (view types) lengths)) (declarators_of (map (view_of_local types) locals))
    opened-Declare = search (rules, q.the_lemmas)

module _ (a b : Table) (block : Option Block) (new old : Form) (lengths others : List Core) (locals declarators : List Local)
    (first : new ≡ form.Declare lengths locals) (second : old ≡ form.Declare others declarators) where
  abbrev SameLabels : Type 0
  SameLabels = declaring (opened_form a new).label ≡ relabelled (moved_past block) (declaring (opened_form b old).label)

  told : SameLabels → label.declare (length lengths) (declarators_of (map (view_of_local a) locals))
      ≡ label.declare (length others) (map (renamed_declarator (moved_past block)) (declarators_of (map (view_of_local b) declarators)))
  told e = sym (declaring-is a new lengths locals first) ∙ (e ∙ ap (relabelled (moved_past block)) (declaring-is b old others declarators second))

  pub declarators-decide : length lengths ≡ length others → SameDeclarators a b block locals declarators ↔ SameLabels
  declarators-decide counts = (
    λ e. declaring-is a new lengths locals first ∙ ((λ i. label.declare (counts i) (e i)) ∙ ap (relabelled (moved_past block)) (sym (declaring-is b old others declarators second))),
    λ e. let whole = told e in cc,
  )

  pub counts-differ : (length lengths ≡ length others → ⊥) → SameLabels → ⊥
  counts-differ differ e = let whole = told e in let counts : length lengths ≡ length others = cc in differ counts
