-- The unit of a generated project.
use Rattle.std.specs.Prelude.{ℕ, ◌%◌, ◌==◌, List, [], ◌∷◌, ◌++◌, codes, if◌then◌else◌}
use Rattle.std.specs.Fmt.{decimal}
use Rattle.std.specs.List.{concat, flat_map, range_with_len}

-- the greatest number of macros
abbrev pub greatest_count : ℕ
greatest_count = 1000

abbrev pub unit_name : List ℕ
unit_name = codes "g.c"

-- one of four texts in turn
abbrev pub by_turn : ℕ → List ℕ → List ℕ → List ℕ → List ℕ → List ℕ
by_turn i first second third fourth =
    if i % 4 == 0 then first else if i % 4 == 1 then second else if i % 4 == 2 then third else fourth

-- the definition of a macro
unfoldable pub definition_line : ℕ → List ℕ
definition_line i =
    by_turn i
    (concat (codes "#define C" ∷ decimal i ∷ codes " " ∷ decimal i ∷ codes "\n" ∷ []))
    (concat (codes "#define F" ∷ decimal i ∷ codes "(x) ((x)+" ∷ decimal i ∷ codes ")\n" ∷ []))
    (concat (codes "#define S" ∷ decimal i ∷ codes "(x) ((x)*(x))\n" ∷ []))
    (concat (codes "#define U" ∷ decimal i ∷ codes " " ∷ decimal i ∷ codes "u\n" ∷ []))

-- the function that expands it
unfoldable pub function_line : ℕ → List ℕ
function_line i =
    by_turn i
    (concat (codes "static int h" ∷ decimal i ∷ codes "(int a) { return a + C" ∷ decimal i ∷ codes "; }\n" ∷ []))
    (concat (codes "static int h" ∷ decimal i ∷ codes "(int a) { return F" ∷ decimal i ∷ codes "(a); }\n" ∷ []))
    (concat (codes "static int h" ∷ decimal i ∷ codes "(int a) { return a + S" ∷ decimal i ∷ codes "(next()); }\n" ∷ []))
    (concat (codes "static int h" ∷ decimal i ∷ codes "(int a) { return a + (int)U" ∷ decimal i ∷ codes "; }\n" ∷ []))

-- the call of that function
abbrev pub call_line : ℕ → List ℕ
call_line i = concat (codes "    t = h" ∷ decimal i ∷ codes "(t);\n" ∷ [])

-- the unit with so many macros
unfoldable pub generated_text : ℕ → List ℕ
generated_text n =
    codes "static int next(void) { return 1; }\n" ++ (flat_map definition_line (range_with_len 0 n)
    ++ (flat_map function_line (range_with_len 0 n) ++ (codes "int main(void) {\n    int t = 0;\n"
    ++ (flat_map call_line (range_with_len 0 n) ++ codes "    return t & 127;\n}\n"))))
