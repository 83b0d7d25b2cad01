-- Parameters whose types are no functions.
use Rattle.std.specs.Prelude.{◌≡◌, ℕ, Bool, true, false, not, List, [], Option, Some, unwrap_or, refl}
use Rattle.std.proofs.Common.{sym, ap, ap₂, ◌∙◌}
use Rattle.dm_type.specs.declared.shape.Shape.{Shape}
use Rattle.dm_type.specs.Tables.{type_of, IsId}
use Rattle.dm_scope.specs.Scopes.{is_declared}
use Rattle.dm_syn.specs.Sources.{spelling_at}
use Rattle.dm_tree.specs.Scenes.{is_function}
use Rattle.dm_typing.specs.declared.known.Known.{Known as Held}
use Rattle.dm_typing.specs.declared.typer.Typer.{Typer}
use Rattle.dm_typing.specs.Typing.{typed_parameter, is_new_parameter, parameter_declared, adjusted}
use Rattle.dm_typing.specs.Views.{Begins, type_over, known_over, source_of, setting_of, Grows}
use Rattle.dm_typing.proofs.GivesLemmas.{obeyed, grown}
use Rattle.dm_typing.proofs.LaterLemmas.{begins-on, type-later}
use Rattle.dm_edeclarator.proofs.ReachLemmas.{Reaches}

-- its name is new, and it is declared with its type, that of an array being a pointer
pub parameter-reaches : (typer : Typer) (old mid : Held) (here kind made : ℕ) (name : Option ℕ) → Grows old mid → IsId old.types kind
    → ((later : List Shape) → is_new_parameter (setting_of typer) (known_over later old) name ≡ true) → is_function (type_of old.types kind) ≡ false
    → ((later : List Shape) → Begins mid.types.shapes later → type_over later made ≡ adjusted (type_over later kind))
    → Reaches old mid (λ later. typed_parameter (setting_of typer) (known_over later old) here (type_over later kind) name)
    (λ later. parameter_declared (setting_of typer) (known_over later mid) (type_over later made) name)
parameter-reaches typer old mid here kind made name grows inside new plain is = record {
  shapes = grows.shapes;
  is = λ later on.
      let before = begins-on old.types.shapes mid.types.shapes later grows.shapes on in
      obeyed (is_new_parameter (setting_of typer) (known_over later old) name) 2 (unwrap_or name here) _ (new later)
      ∙ obeyed (not (is_function (type_over later kind))) 5 here (parameter_declared (setting_of typer) (known_over later old) (adjusted (type_over later kind)) name)
      (ap (λ type. not (is_function type)) (type-later old.types.shapes later kind before inside) ∙ ap not plain)
      ∙ ap₂ (λ known type. parameter_declared (setting_of typer) known type name) (grown later old mid grows) (sym (is later on));
}

-- a name that is new stays so where only types are numbered
pub new-name : (typer : Typer) (old mid : Held) (name : Option ℕ) (at : ℕ) → Grows old mid
    → ((later : List Shape) → is_new_parameter (setting_of typer) (known_over later old) name ≡ true) → name ≡ Some at
    → is_declared mid.scopes (spelling_at (source_of typer) at) ≡ false
new-name typer old mid name at grows new is =
    ap (λ scopes. is_declared scopes (spelling_at (source_of typer) at)) grows.scopes
    ∙ not-true (is_declared old.scopes (spelling_at (source_of typer) at)) (sym (ap (is_new_parameter (setting_of typer) (known_over [] old)) is) ∙ new [])
  where
    not-true : (test : Bool) → not test ≡ true → test ≡ false
    not-true true h = absurd (cc)
    not-true false h = refl
