-- The tokens of the unit, and each layer of these.
use Rattle.dm_token.specs.declared.stop.Stop.TheVariants as stop
use Rattle.dm_unit.specs.Loaders.{stopped_at}
use Rattle.dm_unit.specs.Units.{setting_of}
use Rattle.dm_read.proofs.ReadingLemmas.{reading-handed, not-read, not-typed, all-read, layered, loosened, loader-handed, fault-handed, fault-never}
use Rattle.dm_read.proofs.unit.read_unit.Goals as goal

pub returns-in_err-own-clause-reading : goal.returns-in_err-own-clause-reading
returns-in_err-own-clause-reading g c = λ files have.
    let setting = setting_of c.args.loader.now c.args.loader.now files c.args.unit.now in
    reading-handed setting c.args.unit.now c.args.loader.now c.args.loader.now c.from_residual.result stop.Memory c.from_residual.ensures.1 (not-read setting c.args.unit.now c.args.loader.now c.args.loader.now stop.Memory tt)

pub returns-in_err-pp-clause-reading : goal.returns-in_err-pp-clause-reading
returns-in_err-pp-clause-reading g c = λ files have.
    let setting = setting_of c.args.loader.now c.unit_tokens.new.loader files c.args.unit.now in
    reading-handed setting c.args.unit.now c.args.loader.now c.unit_tokens.new.loader c.from_residual-in_err-pp.result c.in_err-pp.field-0.0 c.from_residual-in_err-pp.ensures.1
    (not-read setting c.args.unit.now c.args.loader.now c.unit_tokens.new.loader c.in_err-pp.field-0.0 (c.in_err-pp.ensures.reading files have))

pub returns-in_err-made-clause-reading : goal.returns-in_err-made-clause-reading
returns-in_err-made-clause-reading g c = λ files have.
    let setting = setting_of c.args.loader.now c.unit_tokens.new.loader files c.args.unit.now in
    reading-handed setting c.args.unit.now c.args.loader.now c.unit_tokens.new.loader c.from_residual-in_err-made.result c.in_err-made.field-0.0 c.from_residual-in_err-made.ensures.1
    (not-typed setting c.args.unit.now c.args.loader.now c.unit_tokens.new.loader c.in_err-made.field-0.0 c.in_ok-pp.pp c.items.result.now c.items.ensures (c.in_ok-pp.ensures.reading files have)
    c.in_err-made.ensures.layers)

pub returns-clause-reading : goal.returns-clause-reading
returns-clause-reading g c = λ files have.
    let setting = setting_of c.args.loader.now c.unit_tokens.new.loader files c.args.unit.now in
    all-read setting c.args.unit.now c.args.loader.now c.unit_tokens.new.loader
    (record { unit = c.in_ok-own.own; pp = c.in_ok-pp.pp; tokens = c.in_ok-made.made.tokens; syntax = c.in_ok-made.made.syntax; core = c.in_ok-made.made.core; types = c.in_ok-made.made.types }) c.items.result.now c.in_ok-own.ensures c.items.ensures (c.in_ok-pp.ensures.reading files have) c.in_ok-made.ensures.layers

pub returns-clause-known : goal.returns-clause-known
returns-clause-known g c = λ files has.
    let setting = setting_of c.args.loader.now c.unit_tokens.new.loader files c.args.unit.now in
    all-read setting c.args.unit.now c.args.loader.now c.unit_tokens.new.loader
    (record { unit = c.in_ok-own.own; pp = c.in_ok-pp.pp; tokens = c.in_ok-made.made.tokens; syntax = c.in_ok-made.made.syntax; core = c.in_ok-made.made.core; types = c.in_ok-made.made.types }) c.items.result.now c.in_ok-own.ensures c.items.ensures (c.in_ok-pp.ensures.known files has) c.in_ok-made.ensures.layers

pub returns-clause-layers : goal.returns-clause-layers
returns-clause-layers g c =
    layered (record { unit = c.in_ok-own.own; pp = c.in_ok-pp.pp; tokens = c.in_ok-made.made.tokens; syntax = c.in_ok-made.made.syntax; core = c.in_ok-made.made.core; types = c.in_ok-made.made.types }) c.items.result.now c.items.ensures c.in_ok-made.ensures.layers

pub returns-in_err-pp-clause-loader : goal.returns-in_err-pp-clause-loader
returns-in_err-pp-clause-loader g c =
    loader-handed c.from_residual-in_err-pp.result c.in_err-pp.field-0.0 c.args.loader.now c.unit_tokens.new.loader c.from_residual-in_err-pp.ensures.1 c.in_err-pp.ensures.loader

pub returns-in_err-pp-clause-failed : goal.returns-in_err-pp-clause-failed
returns-in_err-pp-clause-failed g c = λ file. fault-handed c.from_residual-in_err-pp.result c.in_err-pp.field-0.0 file c.from_residual-in_err-pp.ensures.1 (c.in_err-pp.ensures.failed file)

pub returns-in_err-pp-clause-unknown : goal.returns-in_err-pp-clause-unknown
returns-in_err-pp-clause-unknown g c = λ file. fault-handed c.from_residual-in_err-pp.result c.in_err-pp.field-0.0 file c.from_residual-in_err-pp.ensures.1 (c.in_err-pp.ensures.unknown file)

pub returns-in_err-made-clause-loader : goal.returns-in_err-made-clause-loader
returns-in_err-made-clause-loader g c = λ not.
    loosened (stopped_at c.from_residual-in_err-made.result) c.args.loader.now c.unit_tokens.new.loader (c.in_ok-pp.ensures.loader (λ e. absurd (cc)))

pub returns-in_err-made-clause-failed : goal.returns-in_err-made-clause-failed
returns-in_err-made-clause-failed g c = λ file.
    fault-never c.items.result.now c.from_residual-in_err-made.result c.in_err-made.field-0.0 file c.from_residual-in_err-made.ensures.1 c.in_err-made.ensures.layers

pub returns-in_err-made-clause-unknown : goal.returns-in_err-made-clause-unknown
returns-in_err-made-clause-unknown g c = λ file.
    fault-never c.items.result.now c.from_residual-in_err-made.result c.in_err-made.field-0.0 file c.from_residual-in_err-made.ensures.1 c.in_err-made.ensures.layers
