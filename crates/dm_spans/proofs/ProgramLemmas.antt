-- A typed program whose full expressions stand elsewhere, each at one place, is typed.
use Rattle.std.specs.Prelude.{◌≡◌, ℕ, Bool, true, false, List, Option, None, slice_get}
use Rattle.std.proofs.Common.{ap, sym, ◌∙◌, subst}
use Rattle.dm_int.specs.declared.Kind.{Kind}
use Rattle.dm_type.specs.CTypes.{CType, void, function as function_type}
use Rattle.dm_type.specs.Tables.{Table}
use Rattle.dm_tree.specs.Initialisers.{InitialiserFits}
use Rattle.dm_tree.specs.Scenes.{Scene}
use Rattle.dm_tree.specs.Trees.{Tree}
use Rattle.dm_tree.specs.Typing.{DefinitionFits, FunctionFits, body_scene}
use Rattle.dm_tree.specs.Units.{Declaration}
use Rattle.dm_meaning.specs.Programs.{Definition, Static, Program, declaration_of}
use Rattle.dm_sound.specs.TypedTrees.{IsSoundTable, scene_in}
use Rattle.dm_sound.specs.TypedSteps.{IsTypedScope}
use Rattle.dm_sound.specs.TypedRuns.{IsTypedFunction, IsTypedStatic, IsTypedProgram}
use Rattle.dm_spans.specs.MovedPrograms.{IsMoved, IsMovedDefinition, IsMovedStatic, IsMovedProgram}
use Rattle.dm_spans.proofs.ExpressionLemmas.{proper_too}
use Rattle.dm_spans.proofs.FactLemmas.{same_label}
use Rattle.dm_spans.proofs.StatementLemmas.{moved_same, moved_typed, moved_initialiser}

definition_too : (scene : Scene) (parameters : List ℕ) (body other : Tree) → IsMoved body other → (type : CType) → DefinitionFits scene parameters body type → DefinitionFits scene parameters other type
definition_too scene parameters body other m (function_type result types) f =
    (f.0, same_label body other (moved_same body other m) ∙ f.1, moved_typed (body_scene scene result) body other m f.2)
definition_too scene parameters body other m type f = absurd f

module _ (program other : Program) (moved : IsMovedProgram program other) where
  declared_as : (d : ℕ) → declaration_of other d ≡ declaration_of program d
  declared_as d = ap (λ ds. slice_get ds d) moved.declared

  scene_as : (result : CType) (breaks continues : Bool) (labels : Option Kind) → scene_in other result breaks continues labels ≡ scene_in program result breaks continues labels
  scene_as result breaks continues labels =
      ap (λ (ds : List Declaration). record { types = other.table; declared = ds; result = result; breaks = breaks; continues = continues; labels = labels }) moved.declared
      ∙ ap (λ (types : Table). record { types = types; declared = program.declared; result = result; breaks = breaks; continues = continues; labels = labels }) moved.table

  scope_too : IsTypedScope program → IsTypedScope other
  scope_too s = record {
    table = subst IsSoundTable (sym moved.table) s.table;
    entries = λ d entry e. s.entries d entry (sym (declared_as d) ∙ e);
    proper = λ d entry e. s.proper d entry (sym (declared_as d) ∙ e);
  }

  function_too : (old new : Definition) → IsMovedDefinition old new → IsTypedFunction program old → IsTypedFunction other new
  function_too old new m t = record {
    entry = t.entry;
    declared = ap (declaration_of other) m.function ∙ declared_as old.function ∙ t.declared;
    fits = subst (λ scene. FunctionFits scene new.parameters new.body t.entry) (sym (scene_as void false false None))
        (subst (λ parameters. FunctionFits (scene_in program void false false None) parameters new.body t.entry) (sym m.parameters)
        (t.fits.0, definition_too (scene_in program void false false None) old.parameters old.body new.body m.body t.entry.kind t.fits.1, t.fits.2));
    proper = proper_too old.body new.body (moved_same old.body new.body m.body) t.proper;
  }

  static_too : (old new : Static) → IsMovedStatic old new → IsTypedStatic program old → IsTypedStatic other new
  static_too old new m t = record {
    entry = t.entry;
    declared = ap (declaration_of other) m.declared ∙ declared_as old.declared ∙ t.declared;
    result = t.result;
    breaks = t.breaks;
    continues = t.continues;
    labels = t.labels;
    fits = subst (λ scene. InitialiserFits scene t.entry true new.initialiser new.expressions) (sym (scene_as t.result t.breaks t.continues t.labels))
        (subst (λ one. InitialiserFits (scene_in program t.result t.breaks t.continues t.labels) t.entry true one new.expressions) (sym m.initialiser)
        (moved_initialiser (scene_in program t.result t.breaks t.continues t.labels) t.entry true old.initialiser old.expressions new.expressions m.expressions t.fits));
  }

  pub program_typed : IsTypedProgram program → IsTypedProgram other
  program_typed t = record {
    scope = scope_too t.scope;
    functions = λ new among. let one = moved.functions new among in function_too one.0 new one.2 (t.functions one.0 one.1);
    statics = λ new among. let one = moved.statics new among in static_too one.0 new one.2 (t.statics one.0 one.1);
  }
