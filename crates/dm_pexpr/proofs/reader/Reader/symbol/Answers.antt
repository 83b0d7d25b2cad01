use Rattle.std.proofs.Common.{◌≡◌, ◌<◌, length, sym, ap, ◌∙◌}
use Rattle.dm_syn.specs.declared.symbol.Symbol.TheVariants as symbol
use Rattle.dm_syn.specs.Sources.{symbol_in, seen_as, names_type, spelling_at}
use Rattle.dm_pexpr.specs.Parts.{source_of}
use Rattle.dm_pexpr.proofs.ScopeLemmas.{seen-other}
use Rattle.dm_pexpr.proofs.reader.Reader.symbol.Goals as goal

pub returns-in-Identifier-clause-value : goal.returns-in-Identifier-clause-value
unfolding symbol_in
returns-in-Identifier-clause-value c =
    let no : symbol.Identifier ≡ symbol.End → ⊥ = λ e. cc in
    let there : c.args.at < length c.args.self.now.tokens.now = c.in-Identifier.ensures.within no in
    c.seen_as.ensures ∙ ap (λ b. seen_as symbol.Identifier b) (c.is_type_at.ensures there)
    ∙ ap (λ it. seen_as it (names_type (source_of c.args.self.now) c.args.scope.now (spelling_at (source_of c.args.self.now) c.args.at))) c.in-Identifier.ensures.value

pub returns-in_default : goal.returns-in_default
unfolding symbol_in
returns-in_default c = record {
  value = c.plain_symbol-symbol.ensures.value ∙ sym (seen-other _ _ (λ e. c.in_default.not-Identifier (c.plain_symbol-symbol.ensures.value ∙ e)));
  within = c.plain_symbol-symbol.ensures.within;
}
