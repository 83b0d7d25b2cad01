-- What a macro's definition becomes (6.7, 6.9.1): the declaration that has its replacement list as its value.
--     Signature      the types that the declaration names
--     change_with table visible definition signature      its kind, and the texts before and behind the replacement list; none where a type
--         can't be spelled at the definition
use Rattle.std.specs.Prelude.{ℕ, Bool, List, [], ◌∷◌, ◌++◌, map, Option, Some, option_map, option_and_then, is_some, codes, if◌then◌else◌}
use Rattle.dm_token.specs.declared.expansion.Definition.{Definition}
use Rattle.dm_type.specs.CTypes.{CType}
use Rattle.dm_type.specs.Spelling.{spelling}
use Rattle.dm_type.specs.Tables.{Table, type_of}
use Rattle.dm_tree.specs.Scenes.{is_void}
use Rattle.dm_beside.specs.Places.{is_int}
use Rattle.dm_edit.specs.declared.change.As.{As}
use Rattle.dm_edit.specs.declared.change.As.TheVariants.{Function, Enumerator, Constant}
use Rattle.dm_edit.specs.declared.change.Change.{Change}
use Rattle.dm_judge.specs.declared.signature.Parameter.{Parameter as Numbered}
use Rattle.dm_judge.specs.declared.signature.Signature.{Signature as NumberedSignature}

-- ---- types

-- a parameter, and the type of what is passed for it
pub record Parameter : Type 0 where
  pub kind : CType
  pub name : List ℕ

-- the type of what comes of an expansion, and the parameters
pub record Signature : Type 0 where
  pub result : CType
  pub parameters : List Parameter

-- the same, where a table has the types by number
abbrev pub parameter_over : Table → Numbered → Parameter
parameter_over table one = record { kind = type_of table one.kind; name = one.name }

abbrev pub signature_over : Table → NumberedSignature → Signature
signature_over table one = record { result = type_of table one.result; parameters = map (parameter_over table) one.parameters }

-- ---- kinds

abbrev pub is_function : Definition → Bool
is_function definition = is_some definition.parameters

-- An enumerator has the type int (6.7.2.2p3), so a constant of another type becomes an object.
abbrev pub kind_with : Definition → CType → As
kind_with definition result = if is_function definition then Function else if is_int result then Enumerator else Constant

-- ---- functions (6.9.1)

-- the declarations of the parameters, if all their types can be spelled
abbrev pub declarations : Table → List ℕ → List Parameter → Option (List (List ℕ))
declarations table visible [] = Some []
declarations table visible (one ∷ others) =
    option_and_then (λ text. option_map (λ texts. text ∷ texts) (declarations table visible others)) (spelling table visible one.kind one.name)

-- A list of declarations, between commas. An empty one is `void` (6.7.6.3p10).
abbrev pub further : List (List ℕ) → List ℕ
further [] = []
further (text ∷ texts) = codes ", " ++ (text ++ further texts)

abbrev pub listed : List (List ℕ) → List ℕ
listed [] = codes "void"
listed (text ∷ texts) = text ++ further texts

abbrev pub declarator : List ℕ → List (List ℕ) → List ℕ
declarator name texts = name ++ (codes "(" ++ (listed texts ++ codes ")"))

-- The body's brace, and `return` if there is something to return (6.8.6.4p1).
abbrev pub opening : CType → List ℕ
opening result = if is_void result then codes " { " else codes " { return "

abbrev pub function_with : CType → List ℕ → List ℕ
function_with result declaration = codes "static inline " ++ (declaration ++ opening result)

abbrev pub function_head : Table → List ℕ → Definition → Signature → Option (List ℕ)
function_head table visible definition signature =
    option_and_then (λ texts. option_map (function_with signature.result) (spelling table visible signature.result (declarator definition.name texts)))
    (declarations table visible signature.parameters)

-- ---- enumerators (6.7.2.2) and objects (6.7.9)

abbrev pub enumerator_head : Definition → List ℕ
enumerator_head definition = codes "enum { " ++ (definition.name ++ codes " = ")

abbrev pub constant_head : Table → List ℕ → Definition → CType → Option (List ℕ)
constant_head table visible definition type =
    option_map (λ declaration. codes "static const " ++ (declaration ++ codes " = ")) (spelling table visible type definition.name)

-- ---- changes

abbrev pub head_of : As → Table → List ℕ → Definition → Signature → Option (List ℕ)
head_of Function table visible definition signature = function_head table visible definition signature
head_of Enumerator table visible definition signature = Some (enumerator_head definition)
head_of Constant table visible definition signature = constant_head table visible definition signature.result

abbrev pub tail_of : As → List ℕ
tail_of Function = codes "; }"
tail_of Enumerator = codes " };"
tail_of Constant = codes ";"

abbrev pub change_of : Definition → As → List ℕ → Change
change_of definition kind head = record { definition = definition; kind = kind; head = head; tail = tail_of kind }

abbrev pub change_with : Table → List ℕ → Definition → Signature → Option Change
change_with table visible definition signature =
    let kind = kind_with definition signature.result in
    option_map (change_of definition kind) (head_of kind table visible definition signature)
