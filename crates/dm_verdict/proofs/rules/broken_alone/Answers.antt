-- The one unit is that of the index.
use Rattle.std.proofs.Common.{List, [], ◌∷◌, sym, ap, ◌∙◌, subst}
use Rattle.std.proofs.lemmas.List.Elements.{All-cons, All-nil}
use Rattle.dm_tree.specs.TypeNumbers.{IsTypedUnit}
use Rattle.dm_meaning.specs.Replaced.{Zipped}
use Rattle.dm_names.specs.declared.names.Names.{Names}
use Rattle.dm_reading.specs.declared.reading.Reading.{Reading}
use Rattle.dm_rules.specs.declared.index.Index.{Index}
use Rattle.dm_rules.specs.Indexes.{readings_of}
use Rattle.dm_meanings.specs.Named.{AreNamesOf}
use Rattle.dm_judge.specs.Units.{AreTyped}
use Rattle.dm_verdict.proofs.rules.broken_alone.Goals as goal

abbrev IsTyped : Reading → Type 0
IsTyped each = IsTypedUnit each.types each.core

pub of-requires-clause-typed : goal.of-requires-clause-typed
of-requires-clause-typed c =
    subst (λ (units : List Index). AreTyped (readings_of units)) (sym c.from_ref.ensures.value)
    (All-cons IsTyped c.args.index.now.reading.now [] c.requires (All-nil IsTyped))

pub of-requires-clause-named : goal.of-requires-clause-named
of-requires-clause-named c =
    subst (λ (units : List Index). Zipped AreNamesOf (readings_of units) c.from_ref-2.result.now) (sym c.from_ref.ensures.value)
    (subst (λ (all : List Names). Zipped AreNamesOf (c.args.index.now.reading.now ∷ []) all) (sym c.from_ref-2.ensures.value) (c.in_ok-names.ensures, tt))

pub broken_in-requires-clause-alone : goal.broken_in-requires-clause-alone
broken_in-requires-clause-alone c = ap readings_of (c.in_ok-units.ensures.indexes ∙ c.from_ref.ensures.value)
