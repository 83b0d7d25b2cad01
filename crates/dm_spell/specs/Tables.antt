-- The tables of C's spellings, each a list of rows in a fixed order: the number of a row is its place.
use Rattle.std.specs.Prelude.{ℕ, List, [], ◌∷◌, codes}

-- the 54 punctuators (6.4.6), the six digraphs last
unfoldable pub punctuator_rows : List (List ℕ)
punctuator_rows =
    codes "[" ∷ codes "]" ∷ codes "(" ∷ codes ")" ∷ codes "{" ∷ codes "}" ∷ codes "." ∷ codes "->" ∷
    codes "++" ∷ codes "--" ∷ codes "&" ∷ codes "*" ∷ codes "+" ∷ codes "-" ∷ codes "~" ∷ codes "!" ∷
    codes "/" ∷ codes "%" ∷ codes "<<" ∷ codes ">>" ∷ codes "<" ∷ codes ">" ∷ codes "<=" ∷ codes ">=" ∷
    codes "==" ∷ codes "!=" ∷ codes "^" ∷ codes "|" ∷ codes "&&" ∷ codes "||" ∷ codes "?" ∷ codes ":" ∷
    codes ";" ∷ codes "..." ∷ codes "=" ∷ codes "*=" ∷ codes "/=" ∷ codes "%=" ∷ codes "+=" ∷ codes "-=" ∷
    codes "<<=" ∷ codes ">>=" ∷ codes "&=" ∷ codes "^=" ∷ codes "|=" ∷ codes "," ∷ codes "#" ∷ codes "##" ∷
    codes "<:" ∷ codes ":>" ∷ codes "<%" ∷ codes "%>" ∷ codes "%:" ∷ codes "%:%:" ∷ []

-- the 44 keywords (6.4.1): first those of the subset of C that is read, then the others
unfoldable pub keyword_rows : List (List ℕ)
keyword_rows =
    codes "break" ∷ codes "case" ∷ codes "char" ∷ codes "const" ∷ codes "continue" ∷ codes "default" ∷
    codes "do" ∷ codes "else" ∷ codes "enum" ∷ codes "extern" ∷ codes "for" ∷ codes "if" ∷
    codes "inline" ∷ codes "int" ∷ codes "long" ∷ codes "return" ∷ codes "short" ∷ codes "signed" ∷
    codes "sizeof" ∷ codes "static" ∷ codes "struct" ∷ codes "switch" ∷ codes "typedef" ∷ codes "unsigned" ∷
    codes "void" ∷ codes "while" ∷ codes "_Bool" ∷ codes "auto" ∷ codes "double" ∷ codes "float" ∷
    codes "goto" ∷ codes "register" ∷ codes "restrict" ∷ codes "union" ∷ codes "volatile" ∷ codes "_Alignas" ∷
    codes "_Alignof" ∷ codes "_Atomic" ∷ codes "_Complex" ∷ codes "_Generic" ∷ codes "_Imaginary" ∷ codes "_Noreturn" ∷
    codes "_Static_assert" ∷ codes "_Thread_local" ∷ []

-- the names of the twelve directives (6.10)
unfoldable pub directive_rows : List (List ℕ)
directive_rows =
    codes "include" ∷ codes "define" ∷ codes "undef" ∷ codes "if" ∷ codes "ifdef" ∷ codes "ifndef" ∷
    codes "elif" ∷ codes "else" ∷ codes "endif" ∷ codes "error" ∷ codes "pragma" ∷ codes "line" ∷ []
