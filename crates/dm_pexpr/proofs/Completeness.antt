-- Every well-formed tree of a height up to the depth is read.
use Rattle.std.proofs.Common.{ℕ, zero, suc, ◌+◌, ◌≤◌, ap, arith}
use Rattle.dm_syn.specs.Sources.{Source}
use Rattle.dm_syn.specs.Trees.{Expr, TypeName, Specifiers, Declarator}
use Rattle.dm_syn.specs.Trees as tree
use Rattle.dm_syn.specs.Heights.{expr_height}
use Rattle.dm_pexpr.specs.Parsing.{Parts, lower}
use Rattle.dm_pexpr.proofs.SpecifierSymbols.{follows_declarator}
use Rattle.dm_pexpr.proofs.Expressions.{ReadsExprs, expr-read}
use Rattle.dm_pexpr.proofs.Declarators.{ReadsParts, name-read, name-begins, declarator-read, specifiers-high}
use Rattle.dm_pexpr.proofs.Specifiers.{specifiers-read}

-- what reads expressions, specifiers and declarators reads type names
of-parts : (source : Source) (parts : Parts) (depth : ℕ) → ReadsParts source parts depth → ReadsExprs source parts depth
of-parts source parts depth reads =
    record {
      expr = reads.expr;
      name = λ names it h d l f. name-read source parts depth reads names it h d l (ap follows_declarator f);
      begins = λ names it h. name-begins source names it h;
    }

expr-high : (it : Expr) → 1 ≤ expr_height it
unfolding expr_height
expr-high (tree.name span) = omega arith
expr-high (tree.constant span) = omega arith
expr-high (tree.literal span) = omega arith
expr-high (tree.paren span inner) = omega arith
expr-high (tree.index span left right) = omega arith
expr-high (tree.call span callee arguments) = omega arith
expr-high (tree.member span left name) = omega arith
expr-high (tree.arrow span left name) = omega arith
expr-high (tree.postfix span left operator) = omega arith
expr-high (tree.prefix span operator operand) = omega arith
expr-high (tree.sizeof_expr span operand) = omega arith
expr-high (tree.sizeof_name span name) = omega arith
expr-high (tree.cast span name operand) = omega arith
expr-high (tree.binary span left operator right) = omega arith
expr-high (tree.conditional span first second third) = omega arith
expr-high (tree.assign span left operator right) = omega arith
expr-high (tree.comma span parts) = omega arith

pub more-depth : (n depth : ℕ) → n ≤ suc depth → n ≤ depth + 1
more-depth n depth h = omega (arith, h)

pub complete : (source : Source) (depth : ℕ) → ReadsParts source (lower source depth) depth
unfolding lower
complete source zero =
    record {
      expr = λ least names it h at_least d l f. absurd (omega (arith, d, expr-high it));
      specifiers = λ names it h d l f. absurd (omega (arith, d, specifiers-high source names it h));
      declarator = λ shape names it h s some d l f. absurd (omega (arith, some));
    }
complete source (suc depth) =
    record {
      expr = λ least names it h at_least d l f.
          expr-read source (lower source depth) depth (of-parts source (lower source depth) depth (complete source depth)) least names it h at_least (more-depth _ depth d) l f;
      specifiers = λ names it h d l f. specifiers-read source (lower source depth) depth (complete source depth) names it h (more-depth _ depth d) l f;
      declarator = λ shape names it h s some d l f. declarator-read source (lower source depth) depth (complete source depth) shape names it h s (more-depth _ depth d) l f;
    }
