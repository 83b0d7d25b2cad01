-- One clause behind another.
use Rattle.std.specs.Prelude.{List, option_map, refl}
use Rattle.dm_type.specs.declared.shape.Shape.{Shape}
use Rattle.dm_syn.specs.Views as syntax
use Rattle.dm_tree.specs.Trees.{Tree}
use Rattle.dm_typing.specs.Views.{source_of, setting_of}
use Rattle.dm_edecl.specs.Standing.{Standing, goes_on, typing}
use Rattle.dm_edecl.specs.Statements.{typed_start, typed_optional_condition, typed_optional}
use Rattle.dm_estatement.specs.Parts.{optional_over, OptionalFits, clauses_over, ClausesFit, typed_clauses}
use Rattle.dm_estatement.proofs.CallLemmas.{triple-fails, triple-fails-then, triple-fails-last, triple-made}
use Rattle.dm_estatement.proofs.NodeLemmas.{optional-later}
use Rattle.dm_estatement.proofs.StepLemmas.{clauses-is}
use Rattle.dm_typing.proofs.LaterLemmas.{begins-on}
use Rattle.dm_estatement.proofs.simple.clauses_here.Goals as goal

pub returns-in_err-first : goal.returns-in_err-first
returns-in_err-first c =
    let setting = setting_of c.args.typer.now in
    let start = syntax.start c.args.start.now in
    let condition = option_map syntax.expr c.args.condition.now in
    let step = option_map syntax.expr c.args.step.now in
    triple-fails OptionalFits optional_over OptionalFits optional_over OptionalFits optional_over ClausesFit clauses_over (source_of c.args.typer.now) c.args.standing.now
    (λ (later : List Shape) (before : Standing). typed_clauses setting before start condition step) (λ (later : List Shape) (before : Standing). typed_start setting before start)
    (λ (later : List Shape) (behind : Standing). typing behind (typed_optional_condition setting behind.known condition) (λ behind it. goes_on behind it))
    (λ (later : List Shape) (behind : Standing). typing behind (typed_optional setting behind.known step) (λ behind it. goes_on behind it))
    (λ (later : List Shape) (a b d : List Tree). record { first = a; condition = b; step = d }) (λ later before. clauses-is setting before start condition step)
    c.start_here.new.standing c.in_err-first.field-0.0 c.in_err-first.ensures c.from_residual.result c.from_residual.ensures.1

pub returns-in_err-condition : goal.returns-in_err-condition
returns-in_err-condition c =
    let setting = setting_of c.args.typer.now in
    let start = syntax.start c.args.start.now in
    let condition = option_map syntax.expr c.args.condition.now in
    let step = option_map syntax.expr c.args.step.now in
    triple-fails-then OptionalFits optional_over OptionalFits optional_over OptionalFits optional_over ClausesFit clauses_over (source_of c.args.typer.now) c.args.standing.now
    (λ (later : List Shape) (before : Standing). typed_clauses setting before start condition step) (λ (later : List Shape) (before : Standing). typed_start setting before start)
    (λ (later : List Shape) (behind : Standing). typing behind (typed_optional_condition setting behind.known condition) (λ behind it. goes_on behind it))
    (λ (later : List Shape) (behind : Standing). typing behind (typed_optional setting behind.known step) (λ behind it. goes_on behind it))
    (λ (later : List Shape) (a b d : List Tree). record { first = a; condition = b; step = d }) (λ later before. clauses-is setting before start condition step)
    c.start_here.new.standing c.in_ok-first.first c.in_ok-first.ensures
    c.optional_condition_here.new.standing c.in_err-condition.field-0.0 c.in_err-condition.ensures c.from_residual-in_err-condition.result c.from_residual-in_err-condition.ensures.1

pub returns-in_err-step : goal.returns-in_err-step
returns-in_err-step c =
    let setting = setting_of c.args.typer.now in
    let start = syntax.start c.args.start.now in
    let condition = option_map syntax.expr c.args.condition.now in
    let step = option_map syntax.expr c.args.step.now in
    triple-fails-last OptionalFits optional_over OptionalFits optional_over OptionalFits optional_over ClausesFit clauses_over (source_of c.args.typer.now) c.args.standing.now
    (λ (later : List Shape) (before : Standing). typed_clauses setting before start condition step) (λ (later : List Shape) (before : Standing). typed_start setting before start)
    (λ (later : List Shape) (behind : Standing). typing behind (typed_optional_condition setting behind.known condition) (λ behind it. goes_on behind it))
    (λ (later : List Shape) (behind : Standing). typing behind (typed_optional setting behind.known step) (λ behind it. goes_on behind it))
    (λ (later : List Shape) (a b d : List Tree). record { first = a; condition = b; step = d }) (λ later before. clauses-is setting before start condition step)
    c.start_here.new.standing c.in_ok-first.first c.in_ok-first.ensures c.optional_condition_here.new.standing c.in_ok-condition.condition c.in_ok-condition.ensures
    c.optional_here.new.standing c.in_err-step.field-0.0 c.in_err-step.ensures c.from_residual-in_err-step.result c.from_residual-in_err-step.ensures.1

pub returns : goal.returns
returns c =
    let setting = setting_of c.args.typer.now in
    let start = syntax.start c.args.start.now in
    let condition = option_map syntax.expr c.args.condition.now in
    let step = option_map syntax.expr c.args.step.now in
    let one = c.start_here.new.standing.known.types in
    let two = c.optional_condition_here.new.standing.known.types in
    let three = c.optional_here.new.standing.known.types in
    triple-made OptionalFits optional_over OptionalFits optional_over OptionalFits optional_over ClausesFit clauses_over (source_of c.args.typer.now) c.args.standing.now
    (λ (later : List Shape) (before : Standing). typed_clauses setting before start condition step) (λ (later : List Shape) (before : Standing). typed_start setting before start)
    (λ (later : List Shape) (behind : Standing). typing behind (typed_optional_condition setting behind.known condition) (λ behind it. goes_on behind it))
    (λ (later : List Shape) (behind : Standing). typing behind (typed_optional setting behind.known step) (λ behind it. goes_on behind it))
    (λ (later : List Shape) (a b d : List Tree). record { first = a; condition = b; step = d }) (λ later before. clauses-is setting before start condition step)
    c.start_here.new.standing c.in_ok-first.first c.in_ok-first.ensures c.optional_condition_here.new.standing c.in_ok-condition.condition c.in_ok-condition.ensures
    c.optional_here.new.standing c.in_ok-step.step c.in_ok-step.ensures _ (λ later on. refl)
    (record {
      first = optional-later one three c.in_ok-first.first c.in_ok-first.ensures.numbered (begins-on one.shapes two.shapes three.shapes c.in_ok-condition.ensures.shapes c.in_ok-step.ensures.shapes);
      condition = optional-later two three c.in_ok-condition.condition c.in_ok-condition.ensures.numbered c.in_ok-step.ensures.shapes;
      step = c.in_ok-step.ensures.numbered;
    })
