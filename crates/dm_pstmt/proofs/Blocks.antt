-- What a statement that begins with an opening brace is.
use Rattle.std.proofs.Common.{◌≡◌, ℕ, true, false, List, Some, None, refl, sym, ap, ◌∙◌}
use Rattle.dm_syn.specs.declared.declared.Declared.{Declared}
use Rattle.dm_syn.specs.declared.symbol.Symbol.{Symbol}
use Rattle.dm_syn.specs.declared.symbol.Symbol.TheVariants as symbol
use Rattle.dm_syn.specs.Symbols.{is}
use Rattle.dm_syn.specs.Sources.{Source, symbol_in}
use Rattle.dm_syn.specs.Trees.{Stmt}
use Rattle.dm_syn.specs.Trees as tree
use Rattle.dm_syn.specs.Spans.{stmt_span}
use Rattle.dm_syn.specs.Statements.{IsStmt, IsBlock}
use Rattle.dm_pexpr.specs.Parsing.{front_kind}
use Rattle.dm_pexpr.proofs.Expressions.{fronts}
use Rattle.dm_pstmt.proofs.Results.{alike}

-- two symbols don't stand at one place
differ : (source : Source) (one other : List Declared) (at : ℕ) (it : Symbol) → symbol_in source one at ≡ it → symbol_in source other at ≡ symbol.LeftBrace → is it symbol.LeftBrace ≡ false → ⊥
differ source one other at it h b d =
    let same : it ≡ symbol.LeftBrace = sym h ∙ alike source other one at symbol.LeftBrace b refl in
    let no : false ≡ true = sym d ∙ ap (λ (this : Symbol). is this symbol.LeftBrace) same in cc

pub is-block : (source : Source) (names any : List Declared) (it : Stmt) → IsStmt source names it → symbol_in source any (stmt_span it).first ≡ symbol.LeftBrace → IsBlock it
unfolding IsStmt
is-block source names any (tree.block span items) h b = tt
is-block source names any (tree.expression span None) h b = absurd (differ source names any span.first symbol.Semicolon h.1 b refl)
is-block source names any (tree.expression span (Some expr)) h b =
    absurd (fronts source names expr h.0.1 (ap (λ (at : ℕ). front_kind (symbol_in source names at)) h.0.0 ∙ ap front_kind (alike source any names span.first symbol.LeftBrace b refl)))
is-block source names any (tree.if_only span condition body) h b = absurd (differ source names any span.first symbol.If h.0 b refl)
is-block source names any (tree.if_else span condition body other) h b = absurd (differ source names any span.first symbol.If h.0 b refl)
is-block source names any (tree.switch span subject items) h b = absurd (differ source names any span.first symbol.Switch h.0 b refl)
is-block source names any (tree.while span condition body) h b = absurd (differ source names any span.first symbol.While h.0 b refl)
is-block source names any (tree.do_while span body condition) h b = absurd (differ source names any span.first symbol.Do h.0 b refl)
is-block source names any (tree.for_loop span start condition step body) h b = absurd (differ source names any span.first symbol.For h.0 b refl)
is-block source names any (tree.break span) h b = absurd (differ source names any span.first symbol.Break h.0 b refl)
is-block source names any (tree.continue span) h b = absurd (differ source names any span.first symbol.Continue h.0 b refl)
is-block source names any (tree.return span expr) h b = absurd (differ source names any span.first symbol.Return h.0 b refl)
