-- Well-formed external declarations lie inside the tokens, and have one at least.
use Rattle.std.proofs.Common.{◌≡◌, ℕ, ◌<◌, ◌≤◌, List, length, arith}
use Rattle.dm_syn.specs.declared.declared.Declared.{Declared}
use Rattle.dm_syn.specs.declared.symbol.Symbol.TheVariants as symbol
use Rattle.dm_syn.specs.Sources.{Source}
use Rattle.dm_syn.specs.Trees.{Declaration, Stmt, External}
use Rattle.dm_syn.specs.Trees as tree
use Rattle.dm_syn.specs.Spans.{declaration_span, stmt_span, external_span}
use Rattle.dm_syn.specs.Statements.{IsDeclaration, IsStmt, IsBlock, IsExternal}
use Rattle.dm_pexpr.proofs.Positions.{present, specifiers-on, declarator-on}
use Rattle.dm_pstmt.specs.Readings.{IsExternalAt}
use Rattle.dm_pstmt.proofs.Positions.{declaration-on, stmt-on}

declaration-inside : (source : Source) (names : List Declared) (it : Declaration) → IsDeclaration source names it → (declaration_span it).after ≤ length source.tokens
unfolding IsDeclaration
declaration-inside source names (tree.declaring span specifiers items) h =
    omega (arith, h.4, present source _ _ symbol.Semicolon h.3 (λ (it : symbol.Semicolon ≡ symbol.End). cc))

block-inside : (source : Source) (names : List Declared) (it : Stmt) → IsStmt source names it → IsBlock it → (stmt_span it).after ≤ length source.tokens
unfolding IsStmt
block-inside source names (tree.block span items) h b =
    omega (arith, h.2, present source h.1.0 _ symbol.RightBrace h.1.2 (λ (it : symbol.RightBrace ≡ symbol.End). cc))
block-inside source names (tree.expression span expr) h b = absurd b
block-inside source names (tree.if_only span condition body) h b = absurd b
block-inside source names (tree.if_else span condition body other) h b = absurd b
block-inside source names (tree.switch span subject items) h b = absurd b
block-inside source names (tree.while span condition body) h b = absurd b
block-inside source names (tree.do_while span body condition) h b = absurd b
block-inside source names (tree.for_loop span start condition step body) h b = absurd b
block-inside source names (tree.break span) h b = absurd b
block-inside source names (tree.continue span) h b = absurd b
block-inside source names (tree.return span expr) h b = absurd b

external-inside : (source : Source) (names : List Declared) (it : External) → IsExternal source names it
    → ((external_span it).first < (external_span it).after) × ((external_span it).after ≤ length source.tokens)
unfolding IsExternal
external-inside source names (tree.external span declaration) h = (
  omega (arith, h.0, h.2, declaration-on source names declaration h.1),
  omega (arith, h.2, declaration-inside source names declaration h.1),
)
external-inside source names (tree.definition span specifiers declarator body) h = (
  omega (arith, h.0, h.2, h.6, h.9, specifiers-on source names specifiers h.1, declarator-on source _ _ declarator h.3, stmt-on source _ body h.8),
  omega (arith, h.9, block-inside source _ body h.8 h.7),
)

pub stands-inside : (source : Source) (names : List Declared) (at : ℕ) (it : External) → IsExternalAt source names at it → (at < (external_span it).after) × ((external_span it).after ≤ length source.tokens)
stands-inside source names at it stands =
    let inside = external-inside source names it stands.formed.0 in (omega (arith, inside.0, stands.begins), inside.1)
