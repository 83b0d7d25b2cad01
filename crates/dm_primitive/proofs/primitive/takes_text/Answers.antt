-- The only parameter is a pointer to const char, or it isn't.
use Rattle.std.proofs.Common.{◌≡◌, ℕ, true, false, None, Option, Bool, List, map, rules, ap, sym, subst, ◌∙◌}
use Rattle.std.specs.Option.{MatchOption}
use Rattle.dm_int.specs.declared.Kind.TheVariants.{Char}
use Rattle.dm_type.specs.Alike.{are_compatible, match_as_parameters}
use Rattle.dm_type.specs.CTypes.{all_of, const, integer, more_types, no_types, pointer}
use Rattle.dm_type.specs.Tables.{Has, Table, type_of}
use Rattle.dm_primitive.proofs.TypeLemmas.{text-matches}
use Rattle.dm_primitive.proofs.primitive.takes_text.Goals as goal

-- what the function ensures of its result
abbrev matches : Table → List ℕ → Bool
matches table parameters = match_as_parameters (all_of (map (type_of table) parameters)) (more_types (pointer (const (integer Char))) no_types)

abbrev Finds : Table → List ℕ → Option ℕ → Type 0
Finds table parameters result = MatchOption result (matches table parameters ≡ false) (λ character. (matches table parameters ≡ true) × Has table character (integer Char))

pub returns-in_err-target : goal.returns-in_err-target
returns-in_err-target c =
    let table = c.args.types.now in
    let none : c.from_residual-in_err-target.result ≡ None = search rules in
    subst (Finds table c.args.parameters.now) (sym none)
    (text-matches (type_of table) c.args.parameters.now c.in_ok-parameter.parameter c.bare.result c.in_ok-parameter.ensures c.bare.ensures.1 ∙ c.in_err-target.ensures (const (integer Char)))

pub returns-in_err-character : goal.returns-in_err-character
returns-in_err-character c =
    let table = c.args.types.now in
    let none : c.from_residual-in_err-character.result ≡ None = search rules in
    subst (Finds table c.args.parameters.now) (sym none)
    (text-matches (type_of table) c.args.parameters.now c.in_ok-parameter.parameter c.bare.result c.in_ok-parameter.ensures c.bare.ensures.1
    ∙ (ap (λ type. are_compatible type (pointer (const (integer Char)))) c.in_ok-target.ensures.0 ∙ c.in_err-character.ensures (integer Char)))

pub returns-then-is_char : goal.returns-then-is_char
returns-then-is_char c =
    let table = c.args.types.now in (
      text-matches (type_of table) c.args.parameters.now c.in_ok-parameter.parameter c.bare.result c.in_ok-parameter.ensures c.bare.ensures.1
          ∙ (ap (λ type. are_compatible type (pointer (const (integer Char)))) c.in_ok-target.ensures.0
          ∙ (ap (λ type. are_compatible type (const (integer Char))) c.in_ok-character.ensures.0
          ∙ (sym c.is_char.ensures.compatible ∙ c.if-is_char.true))),
      (c.in_ok-character.ensures.1, c.is_char.ensures.same c.if-is_char.true),
    )

pub returns-else-is_char : goal.returns-else-is_char
returns-else-is_char c =
    let table = c.args.types.now in
    text-matches (type_of table) c.args.parameters.now c.in_ok-parameter.parameter c.bare.result c.in_ok-parameter.ensures c.bare.ensures.1
    ∙ (ap (λ type. are_compatible type (pointer (const (integer Char)))) c.in_ok-target.ensures.0
    ∙ (ap (λ type. are_compatible type (const (integer Char))) c.in_ok-character.ensures.0
    ∙ (sym c.is_char.ensures.compatible ∙ c.if-is_char.false)))
