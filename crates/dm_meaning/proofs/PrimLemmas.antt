-- A call of one of the machine's own functions gives the same answer in a memory with more objects, unless it is undefined in the smaller one.
use Rattle.std.specs.Prelude.{◌≡◌, refl, ℕ, zero, suc, Bool, true, false, List, [], ◌∷◌, Option, Some, None, option_map, Result, Ok, Err, pos, negsuc, if◌then◌else◌}
use Rattle.std.proofs.Common.{ap, sym, ◌∙◌, subst}
use Rattle.dm_int.specs.declared.Kind.TheVariants.{Char}
use Rattle.dm_type.specs.CTypes.{CType, integer}
use Rattle.dm_meaning.specs.declared.cause.Cause.{Cause}
use Rattle.dm_meaning.specs.declared.cause.Cause.TheVariants.{OtherType}
use Rattle.dm_meaning.specs.Among.{IsAmong}
use Rattle.dm_meaning.specs.Values.{At, Pointer, null, to, Value, integer_value, pointer_value, parts as compound, unset}
use Rattle.dm_meaning.specs.Objects.{Layout}
use Rattle.dm_meaning.specs.Memory.{Memory, look, contents_at}
use Rattle.dm_meaning.specs.Causes.{earliest, read_causes, path_moved, pointer_along, moved_pointer}
use Rattle.dm_meaning.specs.Primitives.{Answer, answers, stops, refuses, put_character, get_character, and_text, unless_cause, text_on, text_at, most_in, written_line, put_line, end_program, Primitive, primitives, primitive_in, is_primitive, Prim}
use Rattle.dm_meaning.specs.Extending.{HasAll, SameAnswer, SameOptionalAnswer}
use Rattle.dm_meaning.proofs.ExtendLemmas.{read_same, same_contents}

-- what is there is there
err_ok : {A B : Type 0} (a : A) (b : B) → Err a ≡ Ok b → ⊥
err_ok a b e = cc

no_cause : (causes : List Cause) (character : Value) (later : Result (List ℕ) Cause) (bytes : List ℕ) → unless_cause (earliest causes) character later ≡ Ok bytes → (causes ≡ []) × (and_text character later ≡ Ok bytes)
no_cause [] character later bytes e = (refl, e)
no_cause (cause ∷ causes) character later bytes e = absurd (err_ok _ bytes e)

and_same : (character : Value) (later other : Result (List ℕ) Cause) → ((bytes : List ℕ) → later ≡ Ok bytes → other ≡ Ok bytes) → (bytes : List ℕ) → and_text character later ≡ Ok bytes → and_text character other ≡ Ok bytes
and_same (integer_value kind (pos zero)) later other h bytes e = e
and_same (integer_value kind (pos (suc n))) (Ok found) other h bytes e = ap (and_text (integer_value kind (pos (suc n)))) (h found refl) ∙ e
and_same (integer_value kind (pos (suc n))) (Err cause) other h bytes e = absurd (err_ok cause bytes e)
and_same (integer_value kind (negsuc n)) (Ok found) other h bytes e = ap (and_text (integer_value kind (negsuc n))) (h found refl) ∙ e
and_same (integer_value kind (negsuc n)) (Err cause) other h bytes e = absurd (err_ok cause bytes e)
and_same (pointer_value p) later other h bytes e = absurd (err_ok OtherType bytes e)
and_same (compound all) later other h bytes e = absurd (err_ok OtherType bytes e)
and_same unset later other h bytes e = absurd (err_ok OtherType bytes e)

on_same : (p : Option Pointer) (next other : At → Result (List ℕ) Cause) → ((at : At) (bytes : List ℕ) → next at ≡ Ok bytes → other at ≡ Ok bytes) → (bytes : List ℕ) → text_on p next ≡ Ok bytes → text_on p other ≡ Ok bytes
on_same None next other h bytes e = absurd (err_ok _ bytes e)
on_same (Some null) next other h bytes e = absurd (err_ok _ bytes e)
on_same (Some (to at)) next other h bytes e = h at bytes e

nothing_locked : (lock : At) → IsAmong lock [] → IsAmong lock []
nothing_locked lock h = h

text_same : (layout : Layout) (memory more : Memory) → HasAll more memory → (most : ℕ) (at : At) (bytes : List ℕ) → text_at layout memory most at ≡ Ok bytes → text_at layout more most at ≡ Ok bytes
text_same layout memory more has zero at bytes e = absurd (err_ok _ bytes e)
text_same layout memory more has (suc most) at bytes e =
    let later = text_on (moved_pointer layout memory (integer Char) (to at) (pos 1)) (text_at layout memory most) in
    let here = no_cause (read_causes layout memory [] (integer Char) at) (contents_at memory at) later bytes e in
    let same = read_same layout memory more [] [] (integer Char) at has nothing_locked here.0 in
    let others = text_on (moved_pointer layout more (integer Char) (to at) (pos 1)) (text_at layout more most) in
    let moved : moved_pointer layout more (integer Char) (to at) (pos 1) ≡ moved_pointer layout memory (integer Char) (to at) (pos 1) =
    ap (λ o. pointer_along at.name (path_moved layout o (integer Char) at.path (pos 1))) same.1 in
    ap (λ cs. unless_cause (earliest cs) (contents_at more at) others) same.0
    ∙ ap (λ v. and_text v others) (same_contents memory more at same.1)
    ∙ ap (λ p. and_text (contents_at memory at) (text_on p (text_at layout more most))) moved
    ∙ and_same (contents_at memory at) later (text_on (moved_pointer layout memory (integer Char) (to at) (pos 1)) (text_at layout more most))
    (on_same (moved_pointer layout memory (integer Char) (to at) (pos 1)) (text_at layout memory most) (text_at layout more most) (text_same layout memory more has most)) bytes here.1

-- the object of a string that can be read is there
text_object : (layout : Layout) (memory more : Memory) → HasAll more memory → (most : ℕ) (at : At) (bytes : List ℕ) → text_at layout memory most at ≡ Ok bytes → look more at.name ≡ look memory at.name
text_object layout memory more has zero at bytes e = absurd (err_ok _ bytes e)
text_object layout memory more has (suc most) at bytes e =
    let later = text_on (moved_pointer layout memory (integer Char) (to at) (pos 1)) (text_at layout memory most) in
    let here = no_cause (read_causes layout memory [] (integer Char) at) (contents_at memory at) later bytes e in
    (read_same layout memory more [] [] (integer Char) at has nothing_locked here.0).1

line_same : (layout : Layout) (memory more : Memory) → HasAll more memory → (at : At) (bytes : List ℕ) → text_at layout memory (most_in layout (look memory at.name)) at ≡ Ok bytes
    → text_at layout more (most_in layout (look more at.name)) at ≡ Ok bytes
line_same layout memory more has at bytes e =
    ap (λ o. text_at layout more (most_in layout o) at) (text_object layout memory more has (most_in layout (look memory at.name)) at bytes e)
    ∙ text_same layout memory more has (most_in layout (look memory at.name)) at bytes e

written_same : (found other : Result (List ℕ) Cause) → ((bytes : List ℕ) → found ≡ Ok bytes → other ≡ Ok bytes) → (input output : List ℕ) → SameAnswer (written_line found input output) (written_line other input output)
written_same (Ok bytes) other h input output = subst (λ r. SameAnswer (written_line (Ok bytes) input output) (written_line r input output)) (sym (h bytes refl)) (refl, refl, refl)
written_same (Err cause) other h input output = tt

-- an answer is the same as itself
itself : (answer : Answer) → SameAnswer answer answer
itself (answers value input output) = (refl, refl, refl)
itself (stops status) = refl
itself (refuses cause) = tt

abbrev SameMeaning : Layout → Memory → Memory → Primitive → Type 0
SameMeaning layout memory more primitive = (arguments : List Value) (input output : List ℕ) → SameAnswer (primitive.meaning layout memory arguments input output) (primitive.meaning layout more arguments input output)

put_line_same : (layout : Layout) (memory more : Memory) → HasAll more memory → (arguments : List Value) (input output : List ℕ) → SameAnswer (put_line layout memory arguments input output) (put_line layout more arguments input output)
put_line_same layout memory more has [] input output = tt
put_line_same layout memory more has (integer_value kind z ∷ rest) input output = tt
put_line_same layout memory more has (compound all ∷ rest) input output = tt
put_line_same layout memory more has (unset ∷ rest) input output = tt
put_line_same layout memory more has (pointer_value null ∷ []) input output = tt
put_line_same layout memory more has (pointer_value null ∷ other ∷ rest) input output = tt
put_line_same layout memory more has (pointer_value (to at) ∷ other ∷ rest) input output = tt
put_line_same layout memory more has (pointer_value (to at) ∷ []) input output =
    written_same (text_at layout memory (most_in layout (look memory at.name)) at) (text_at layout more (most_in layout (look more at.name)) at) (line_same layout memory more has at) input output

abbrev AllSame : Layout → Memory → Memory → List Primitive → Type 0
AllSame layout memory more [] = Unit {0}
AllSame layout memory more (first ∷ rest) = SameMeaning layout memory more first × AllSame layout memory more rest

table_same : (layout : Layout) (memory more : Memory) → HasAll more memory → AllSame layout memory more primitives
table_same layout memory more has = (
  (λ arguments input output. itself (put_character arguments input output)),
  (
    (λ arguments input output. itself (get_character input output)),
    (put_line_same layout memory more has, ((λ arguments input output. itself (end_program arguments)), tt)),
  ),
)

in_table : (layout : Layout) (memory more : Memory) (table : List Primitive) → AllSame layout memory more table → (name : List ℕ) (kind : CType) (arguments : List Value) (input output : List ℕ)
    → SameOptionalAnswer (option_map (λ primitive. primitive.meaning layout memory arguments input output) (primitive_in table name kind))
    (option_map (λ primitive. primitive.meaning layout more arguments input output) (primitive_in table name kind))
in_table layout memory more [] h name kind arguments input output = tt
in_table layout memory more (first ∷ rest) h name kind arguments input output = pick (is_primitive name kind first) (in_table layout memory more rest h.1 name kind arguments input output)
  where
    pick : (b : Bool) → SameOptionalAnswer (option_map (λ primitive. primitive.meaning layout memory arguments input output) (primitive_in rest name kind))
        (option_map (λ primitive. primitive.meaning layout more arguments input output) (primitive_in rest name kind))
        → SameOptionalAnswer (option_map (λ primitive. primitive.meaning layout memory arguments input output) (if b then Some first else primitive_in rest name kind))
        (option_map (λ primitive. primitive.meaning layout more arguments input output) (if b then Some first else primitive_in rest name kind))
    pick true k = h.0 arguments input output
    pick false k = k

-- The answer of a call is the same, unless it is undefined in the smaller memory.
pub prim_same : (layout : Layout) (memory more : Memory) → HasAll more memory → (name : List ℕ) (kind : CType) (arguments : List Value) (input output : List ℕ)
    → SameOptionalAnswer (Prim name kind layout memory arguments input output) (Prim name kind layout more arguments input output)
prim_same layout memory more has name kind arguments input output = in_table layout memory more primitives (table_same layout memory more has) name kind arguments input output
