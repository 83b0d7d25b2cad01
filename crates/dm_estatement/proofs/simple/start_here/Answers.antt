-- A declaration is typed as in a block.
use Rattle.std.specs.Prelude.{List, [], ◌∷◌, refl}
use Rattle.std.proofs.Common.{ap}
use Rattle.dm_type.specs.declared.shape.Shape.{Shape}
use Rattle.dm_syn.specs.Views as syntax
use Rattle.dm_tree.specs.Trees.{Tree}
use Rattle.dm_typing.specs.Fitting.{IsNumbered}
use Rattle.dm_typing.specs.Views.{view_over, source_of, setting_of}
use Rattle.dm_edecl.specs.Standing.{Standing}
use Rattle.dm_edecl.specs.Statements.{declared_in, typed_start}
use Rattle.dm_estatement.specs.Parts.{optional_over, OptionalFits}
use Rattle.dm_estatement.proofs.CallLemmas.{single-fails, single-made}
use Rattle.dm_estatement.proofs.simple.start_here.Goals as goal

pub returns-in_err-made-in-Declaration : goal.returns-in_err-made-in-Declaration
returns-in_err-made-in-Declaration c =
    let setting = setting_of c.args.typer.now in
    let declaration = syntax.declaration c.in-Declaration.declaration in
    single-fails IsNumbered view_over OptionalFits optional_over (source_of c.args.typer.now) c.args.standing.now (λ (later : List Shape) (before : Standing). typed_start setting before (syntax.start c.args.start.now))
    (λ (later : List Shape) (before : Standing). declared_in setting before declaration) (λ (later : List Shape) (made : Tree). made ∷ [])
    (λ later before. ap (λ start. typed_start setting before (syntax.start start)) c.in-Declaration.is)
    c.declared_in.new.standing c.in_err-made-in-Declaration.field-0.0 c.in_err-made-in-Declaration.ensures c.from_residual.result c.from_residual.ensures.1

pub returns-in_ok-made-in-Declaration : goal.returns-in_ok-made-in-Declaration
returns-in_ok-made-in-Declaration c =
    let setting = setting_of c.args.typer.now in
    let declaration = syntax.declaration c.in-Declaration.declaration in
    single-made IsNumbered view_over OptionalFits optional_over (source_of c.args.typer.now) c.args.standing.now (λ (later : List Shape) (before : Standing). typed_start setting before (syntax.start c.args.start.now))
    (λ (later : List Shape) (before : Standing). declared_in setting before declaration) (λ (later : List Shape) (made : Tree). made ∷ [])
    (λ later before. ap (λ start. typed_start setting before (syntax.start start)) c.in-Declaration.is)
    c.declared_in.new.standing c.in_ok-made-in-Declaration.made c.in_ok-made-in-Declaration.ensures _ (λ later on. refl) c.in_ok-made-in-Declaration.ensures.numbered
