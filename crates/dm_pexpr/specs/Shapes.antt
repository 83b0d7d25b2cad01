-- What the code's words for shapes and type specifiers stand for.
use Rattle.dm_syn.specs.Grammar as grammar
use Rattle.dm_pexpr.specs.declared.shape.Shape.{Shape}
use Rattle.dm_pexpr.specs.declared.shape.Shape.TheVariants as it
use Rattle.dm_pexpr.specs.declared.types.Types.{Types}
use Rattle.dm_pexpr.specs.declared.types.Types.TheVariants as types
use Rattle.dm_pexpr.specs.Parsing as shape

abbrev pub shape_of : Shape → shape.Shape
shape_of it.Named = shape.named
shape_of it.Abstract = shape.abstract
shape_of it.OfParameter = shape.of_parameter

abbrev pub types_of : Types → grammar.Types
types_of types.NoType = grammar.no_type
types_of types.TypeWords = grammar.type_words
types_of types.OneName = grammar.one_name
