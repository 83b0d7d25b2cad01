-- What is behind a `for`, whose parts may be absent.
use Rattle.std.specs.Prelude.{option_map, Option, Result, Ok, Err, OnOk}
use Rattle.std.proofs.Common.{rules, ◌≡◌, ◌++◌, ℕ, List, [], ◌∷◌, refl, ap, ◌∙◌, sym}
use Rattle.dm_token.specs.declared.place.Place.{Place}
use Rattle.dm_token.specs.declared.place.Span.{Span}
use Rattle.dm_type.specs.Tables.{Table}
use Rattle.dm_tree.specs.declared.tree.Core.{Core}
use Rattle.dm_tree.specs.declared.tree.Core as core
use Rattle.dm_tree.specs.declared.tree.Form.{Form}
use Rattle.dm_tree.specs.declared.tree.Form.TheVariants as form
use Rattle.dm_tree.specs.Trees.{Tree, trees}
use Rattle.dm_tree.specs.Views.{view, if_there}
use Rattle.dm_names.specs.Declarations.{numbers_in, numbers_in_all}

behind_both : (before : List ℕ) (first second : List Tree) → numbers_in_all before (trees (first ++ second)) ≡ numbers_in_all (numbers_in_all before (trees first)) (trees second)
behind_both before [] second = refl
behind_both before (tree ∷ first) second = behind_both (numbers_in before tree) first second

behind_four : (before : List ℕ) (a b c : List Tree) (d : Tree)
    → numbers_in_all before (trees (a ++ (b ++ (c ++ d ∷ [])))) ≡ numbers_in (numbers_in_all (numbers_in_all (numbers_in_all before (trees a)) (trees b)) (trees c)) d
behind_four before a b c d =
    behind_both before a (b ++ (c ++ d ∷ []))
    ∙ behind_both (numbers_in_all before (trees a)) b (c ++ d ∷ [])
    ∙ behind_both (numbers_in_all (numbers_in_all before (trees a)) (trees b)) c (d ∷ [])

abbrev with-form : ℕ → Span → Span → Place → Form → Core
with-form kind inner outer place it = record { form = it; kind = kind; inner = inner; outer = outer; place = place }

for-at : (types : Table) (kind : ℕ) (inner outer : Span) (place : Place) (before : List ℕ) (a b c : Option Core) (body : Core)
    → numbers_in before (view types (with-form kind inner outer place (form.For a b c body)))
    ≡ numbers_in_all before (trees (if_there (option_map (view types) a) ++ (if_there (option_map (view types) b) ++ (if_there (option_map (view types) c) ++ view types body ∷ []))))
for-at types kind inner outer place before a b c body = search (rules, core.the_lemmas)

pub behind-for : (types : Table) (it : Core) (before : List ℕ) (a b c : Option Core) (body : Core) → it.form ≡ form.For a b c body
    → numbers_in (numbers_in_all (numbers_in_all (numbers_in_all before (trees (if_there (option_map (view types) a)))) (trees (if_there (option_map (view types) b)))) (trees (if_there (option_map (view types) c)))) (view types body)
    ≡ numbers_in before (view types it)
behind-for types it before a b c body is =
    sym (behind_four before (if_there (option_map (view types) a)) (if_there (option_map (view types) b)) (if_there (option_map (view types) c)) (view types body))
    ∙ sym (for-at types it.kind it.inner it.outer it.place before a b c body)
    ∙ ap (λ f. numbers_in before (view types (with-form it.kind it.inner it.outer it.place f))) (sym is)

pub on-ok : {T E : Type 0} {P Q : Type 0} (result : Result T E) → (P → Q) → OnOk result P → OnOk result Q
on-ok (Ok it) further holds = further holds
on-ok (Err other) further holds = holds
