use Rattle.std.proofs.Common.{◌∙◌}
use Rattle.dm_pexpr.specs.Parts.{source_of}
use Rattle.dm_pstmt.specs.Kinds.{an_item}
use Rattle.dm_pstmt.specs.Parsing.{within, initialiser_of}
use Rattle.dm_pstmt.proofs.DeclarationSteps.{name-scoped, plain-read, initialised-read}
use Rattle.dm_pstmt.proofs.Rows.{as-read}
use Rattle.dm_pstmt.proofs.Wholes.{gives-along}
use Rattle.dm_pstmt.proofs.declaration.item_behind.Goals as goal

pub returns-in_default : goal.returns-in_default
returns-in_default c before read p =
    let scoped = name-scoped (source_of c.args.reader.now) c.args.is_type before c.args.scope.now c.declare_name.new.scope c.args.declarator read p c.in_ok-declare_name.ensures in
    let made = c.plain.ensures (source_of c.args.reader.now) c.args.is_type before c.args.scope.now c.declare_name.new.scope read p scoped in
    as-read (an_item (source_of c.args.reader.now) c.args.is_type) (source_of c.args.reader.now) before c.declare_name.new.scope c.plain.result _ _ made
    (plain-read (source_of c.args.reader.now) (within (source_of c.args.reader.now) c.args.depth) c.args.is_type before c.args.scope.now c.declare_name.new.scope c.args.first c.args.declarator read p scoped c.in_default.ensures ∙ made.read)

pub returns : goal.returns
returns c before read p =
    let scoped = name-scoped (source_of c.args.reader.now) c.args.is_type before c.args.scope.now c.declare_name.new.scope c.args.declarator read p c.in_ok-declare_name.ensures in
    gives-along (an_item (source_of c.args.reader.now) c.args.is_type) (source_of c.args.reader.now) before c.initialiser.new.scope c.initialised.result _ _
    (initialised-read (source_of c.args.reader.now) c.args.depth c.args.is_type before c.args.scope.now c.declare_name.new.scope c.args.first c.in-Some.next c.args.declarator read p scoped c.in-Some.ensures)
    (c.initialised.ensures (source_of c.args.reader.now) c.args.is_type before c.args.scope.now c.declare_name.new.scope c.initialiser.new.scope read (initialiser_of (source_of c.args.reader.now) c.args.depth c.declare_name.new.scope c.in-Some.next) p scoped c.in_ok-value.ensures)
