-- The premises of the law on units hold of an example.
use Rattle.std.specs.Prelude.{[], refl}
use Rattle.dm_syn.specs.Symbols.{symbol_of}
use Rattle.dm_syn.specs.Sources.{symbol_at, symbol_in, names_type, spelling_at}
use Rattle.dm_syn.specs.Scopes.{specifiers_declares, items_declares, item_declares, declaration_declares, external_declares}
use Rattle.dm_syn.specs.Grammar.{IsSpecifiers, IsDeclarator}
use Rattle.dm_syn.specs.Statements.{IsItem, AreMoreItems, AreItems, IsDeclaration, IsExternal}
use Rattle.dm_edecl.specs.Examples.{twice_tokens, twice}
use Rattle.dm_edecl.specs.Placing.{AreExternals}
use Rattle.dm_edecl.specs.Units.{unit_setting}

-- a declaration of one name by one word, and then another
pub twice-formed : AreExternals (unit_setting twice_tokens twice).source [] 0 twice
unfolding IsExternal IsDeclaration AreItems IsItem AreMoreItems IsSpecifiers IsDeclarator symbol_in symbol_at names_type spelling_at symbol_of specifiers_declares items_declares item_declares declaration_declares external_declares
twice-formed = (
  refl,
  (refl, (refl, (((refl, refl, tt), tt), refl), (refl, (refl, (tt, (refl, refl), refl), refl, refl), tt), refl, refl), refl),
  (
    refl,
    (refl, (refl, (((refl, refl, tt), tt), refl), (refl, (refl, (tt, (refl, refl), refl), refl, refl), tt), refl, refl), refl),
    tt,
  ),
)
