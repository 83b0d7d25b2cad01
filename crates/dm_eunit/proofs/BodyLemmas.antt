-- The body of a function definition.
use Rattle.std.specs.Prelude.{◌≡◌, ℕ, ◌&&◌, nat_lt, List, [], length, map, Option, Some, None, Result, Ok, Err, IsErrAnd, refl}
use Rattle.std.proofs.Common.{sym, ap, ◌∙◌}
use Rattle.dm_token.specs.declared.place.Span.{Span}
use Rattle.dm_token.specs.declared.stop.Stop.{Stop}
use Rattle.dm_type.specs.declared.shape.Shape.{Shape}
use Rattle.dm_type.specs.CTypes.{CType, void, function as function_type, bare}
use Rattle.dm_type.specs.Tables.{Table, IsId, type_of}
use Rattle.dm_type.specs.TableLaws.{injected}
use Rattle.dm_syn.specs.Trees.{BlockItems}
use Rattle.dm_tree.specs.declared.tree.Core.{Core}
use Rattle.dm_tree.specs.Trees.{Tree}
use Rattle.dm_tree.specs.Trees as label
use Rattle.dm_tree.specs.TypeNumbers.{are_known, all_pass}
use Rattle.dm_tree.specs.Views.{view}
use Rattle.dm_typing.specs.Conversions.{made}
use Rattle.dm_typing.specs.Fitting.{IsNumbered, AreNumbered}
use Rattle.dm_typing.specs.Known.{Setting}
use Rattle.dm_typing.specs.Typing.{extent}
use Rattle.dm_typing.specs.Views.{Begins, type_over, view_over}
use Rattle.dm_typing.proofs.LaterLemmas.{begins-on, type-later, trees-known}
use Rattle.dm_typing.proofs.ValueLemmas.{node-known}
use Rattle.dm_edeclarator.proofs.FitLemmas.{id-later}
use Rattle.dm_edecl.specs.Standing.{Standing, Progress, goes_on, further}
use Rattle.dm_edecl.specs.Statements.{statement, typed_items_in}
use Rattle.dm_edecl.specs.Units.{result_of}
use Rattle.dm_estanding.specs.declared.standing.Standing.{Standing as Held}
use Rattle.dm_estanding.specs.Proceeding.{Proceeds}
use Rattle.dm_estanding.proofs.ProceedingLemmas.{Arrives, starts, restated, passes, fails, done, relays}
use Rattle.dm_estatement.specs.declared.within.Within.{Within}
use Rattle.dm_estatement.specs.Parts.{within_over, WithinFits, trees_over}
use Rattle.dm_eunit.specs.Functions.{answer_of, block_inside}

-- ---- blocks

module _ (setting : Setting) (within : Within) (span : Span) (items : BlockItems) (now new : Held) (fits : WithinFits now.known.types within) where
  abbrev whole : List Shape → Standing → Progress Tree
  whole later inside = block_inside setting (within_over later within) span items inside

  abbrev ends : List Shape → Standing → List Tree → Progress Tree
  ends later behind trees = goes_on behind (statement setting span label.block trees)

  abbrev run : List Shape → Standing → Progress (List Tree)
  run later inside = typed_items_in setting (within_over later within) inside items

  pub block-starts : Arrives now now whole (λ later behind. further (run later behind) (ends later))
  block-starts = starts now whole (λ later behind. further (run later behind) (ends later)) (λ later before stands lawful. refl)

  pub block-fails : (fault : Stop) → Proceeds AreNumbered trees_over setting.source now new (Err fault) run → (result : Result Core Stop) → IsErrAnd result (λ e. e ≡ fault)
      → Proceeds IsNumbered view_over setting.source now new result whole
  block-fails fault p result handed =
      relays IsNumbered view_over setting.source now new whole result fault handed
      (fails AreNumbered trees_over setting.source now now new whole IsNumbered view_over run ends fault block-starts p)

  pub block-made : (trees : List Core) (core : Core) → Proceeds AreNumbered trees_over setting.source now new (Ok trees) run
      → ((types : Table) → view types core ≡ made setting.source (extent span span) label.block (type_of types within.statement) (map (view types) trees))
      → ((n : ℕ) → are_known n core ≡ (nat_lt within.statement n && all_pass (map (are_known n) trees)))
      → Proceeds IsNumbered view_over setting.source now new (Ok core) whole
  block-made trees core p viewed known =
      done IsNumbered view_over setting.source now new whole core
      (restated now new whole (λ later behind. ends later behind (trees_over later trees)) (λ later behind. goes_on behind (view_over later core))
      (passes AreNumbered trees_over setting.source now now new whole run ends trees block-starts p)
      (λ later on behind stands lawful. ap (goes_on behind) (sym (viewed (record { shapes = later; structs = [] })
      ∙ ap (λ type. made setting.source (extent span span) label.block type (trees_over later trees))
      (fits.statement.1 later (begins-on now.known.types.shapes new.known.types.shapes later p.shapes on))))))
      (node-known (length new.known.types.shapes) within.statement core (all_pass (map (are_known (length new.known.types.shapes)) trees)) (known (length new.known.types.shapes))
      (id-later now.known.types new.known.types within.statement p.shapes fits.statement.0) (trees-known new.known.types trees p.numbered))

-- ---- what a body stands within

answer-is : (type it : CType) → Some it ≡ answer_of type → it ≡ result_of type
answer-is (function_type result parameters) it h = injected it (bare result) h
answer-is type it h = absurd (cc)

none-is : (type : CType) → ◌≡◌ {A = Option CType} None (answer_of type) → void ≡ result_of type
none-is (function_type result parameters) h = absurd (cc)
none-is type h = refl

pub answer-some : (types : Table) (later : List Shape) (kind answer : ℕ) → Begins types.shapes later → IsId types kind → IsId types answer
    → Some (type_of types answer) ≡ answer_of (type_of types kind) → type_over later answer ≡ result_of (type_over later kind)
answer-some types later kind answer on inside one h =
    type-later types.shapes later answer on one ∙ answer-is (type_of types kind) (type_of types answer) h ∙ ap result_of (sym (type-later types.shapes later kind on inside))

pub answer-none : (types : Table) (later : List Shape) (kind : ℕ) → Begins types.shapes later → IsId types kind → ◌≡◌ {A = Option CType} None (answer_of (type_of types kind))
    → void ≡ result_of (type_over later kind)
answer-none types later kind on inside h = none-is (type_of types kind) h ∙ ap result_of (sym (type-later types.shapes later kind on inside))
