-- Each expression is typed first, and then the rule is broken.
use Rattle.std.specs.Prelude.{List, Err, map, refl}
use Rattle.dm_type.specs.declared.shape.Shape.{Shape}
use Rattle.dm_syn.specs.Views as syntax
use Rattle.dm_typing.specs.Known.{Known, broken}
use Rattle.dm_typing.specs.Views.{known_over, source_of, setting_of}
use Rattle.dm_edecl.specs.Initialising.{all_expressions_alone, misplaced}
use Rattle.dm_edeclarator.specs.Steps.{Anything}
use Rattle.dm_einitial.specs.Steps.{initial_over, InitialFits, nothing_over, dropped}
use Rattle.dm_einitial.proofs.ListLemmas.{misplaced-is}
use Rattle.dm_edeclarator.proofs.ReachLemmas.{begins, breaks, relays}
use Rattle.dm_eexpr.proofs.CycleLemmas.{single-fails, single-ends}
use Rattle.dm_einitial.proofs.lists.misplaced.Goals as goal

pub returns-in_err-all_expressions_alone : goal.returns-in_err-all_expressions_alone
returns-in_err-all_expressions_alone c =
    let setting = setting_of c.args.typer.now in
    let old = c.args.known.now in
    let items = syntax.initialisers (map syntax.initialiser c.args.items.now) in
    relays InitialFits initial_over (source_of c.args.typer.now) old c.all_expressions_alone.new.known (λ later. misplaced setting (known_over later old) c.args.span items) c.from_residual.result c.in_err-all_expressions_alone.field-0.0 c.from_residual.ensures.1
    (single-fails Anything nothing_over InitialFits initial_over (source_of c.args.typer.now) old old c.all_expressions_alone.new.known (λ later. misplaced setting (known_over later old) c.args.span items)
    (λ (later : List Shape) (known : Known). dropped (all_expressions_alone setting known items)) (λ (later : List Shape) (behind : Known) nothing. broken 8 c.args.span.first)
    (λ later. misplaced-is setting (known_over later old) c.args.span items) c.in_err-all_expressions_alone.field-0.0 c.in_err-all_expressions_alone.ensures)

pub returns : goal.returns
returns c =
    let setting = setting_of c.args.typer.now in
    let old = c.args.known.now in
    let new = c.all_expressions_alone.new.known in
    let items = syntax.initialisers (map syntax.initialiser c.args.items.now) in
    single-ends Anything nothing_over InitialFits initial_over (source_of c.args.typer.now) old new new (λ later. misplaced setting (known_over later old) c.args.span items)
    (λ (later : List Shape) (known : Known). dropped (all_expressions_alone setting known items)) (λ (later : List Shape) (behind : Known) nothing. broken 8 c.args.span.first)
    (λ later. misplaced-is setting (known_over later old) c.args.span items) c.in_ok-all_expressions_alone.field-0 (Err c.broken.result) c.in_ok-all_expressions_alone.ensures
    (breaks InitialFits initial_over (source_of c.args.typer.now) new new (λ later. broken 8 c.args.span.first) 8 c.args.span.first c.broken.result
    (begins new (λ later. broken 8 c.args.span.first) (λ later. broken 8 c.args.span.first) (λ later. refl)) c.broken.ensures)
