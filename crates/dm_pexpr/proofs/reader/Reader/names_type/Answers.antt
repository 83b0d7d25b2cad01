use Rattle.std.proofs.Common.{false, sym, ap, ◌∙◌}
use Rattle.std.specs.Prelude.{unwrap_or}
use Rattle.dm_pexpr.specs.NameMaps.{is_type}
use Rattle.dm_pexpr.specs.Parts.{source_of}
use Rattle.dm_pexpr.proofs.ScopeLemmas.{names-latest}
use Rattle.dm_pexpr.proofs.reader.Reader.names_type.Goals as goal

pub returns-in-Some : goal.returns-in-Some
returns-in-Some c =
    sym (names-latest (source_of c.args.self.now) c.args.scope.now c.args.name.now ∙ ap (λ o. unwrap_or o (is_type c.args.self.now.typedefs.now c.args.name.now)) (sym c.in-Some.ensures))

pub returns-in-None : goal.returns-in-None
returns-in-None c =
    c.unwrap_or.ensures ∙ ap (λ o. unwrap_or o false) c.get-in-None.ensures
    ∙ sym (names-latest (source_of c.args.self.now) c.args.scope.now c.args.name.now ∙ ap (λ o. unwrap_or o (is_type c.args.self.now.typedefs.now c.args.name.now)) (sym c.in-None.ensures))
