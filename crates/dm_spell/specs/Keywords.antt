-- The rows of the keywords by name (6.4.1).
use Rattle.std.specs.Prelude.{◌≡◌, ℕ, Some, codes, slice_get}
use Rattle.dm_spell.specs.Tables.{keyword_rows}

-- `break`
abbrev pub break_word : ℕ
break_word = 0

-- `case`
abbrev pub case_word : ℕ
case_word = 1

-- `char`
abbrev pub char_word : ℕ
char_word = 2

-- `const`
abbrev pub const_word : ℕ
const_word = 3

-- `continue`
abbrev pub continue_word : ℕ
continue_word = 4

-- `default`
abbrev pub default_word : ℕ
default_word = 5

-- `do`
abbrev pub do_word : ℕ
do_word = 6

-- `else`
abbrev pub else_word : ℕ
else_word = 7

-- `enum`
abbrev pub enum_word : ℕ
enum_word = 8

-- `extern`
abbrev pub extern_word : ℕ
extern_word = 9

-- `for`
abbrev pub for_word : ℕ
for_word = 10

-- `if`
abbrev pub if_word : ℕ
if_word = 11

-- `inline`
abbrev pub inline_word : ℕ
inline_word = 12

-- `int`
abbrev pub int_word : ℕ
int_word = 13

-- `long`
abbrev pub long_word : ℕ
long_word = 14

-- `return`
abbrev pub return_word : ℕ
return_word = 15

-- `short`
abbrev pub short_word : ℕ
short_word = 16

-- `signed`
abbrev pub signed_word : ℕ
signed_word = 17

-- `sizeof`
abbrev pub sizeof_word : ℕ
sizeof_word = 18

-- `static`
abbrev pub static_word : ℕ
static_word = 19

-- `struct`
abbrev pub struct_word : ℕ
struct_word = 20

-- `switch`
abbrev pub switch_word : ℕ
switch_word = 21

-- `typedef`
abbrev pub typedef_word : ℕ
typedef_word = 22

-- `unsigned`
abbrev pub unsigned_word : ℕ
unsigned_word = 23

-- `void`
abbrev pub void_word : ℕ
void_word = 24

-- `while`
abbrev pub while_word : ℕ
while_word = 25

-- `_Bool`
abbrev pub bool_word : ℕ
bool_word = 26

-- `auto`
abbrev pub auto_word : ℕ
auto_word = 27

-- `double`
abbrev pub double_word : ℕ
double_word = 28

-- `float`
abbrev pub float_word : ℕ
float_word = 29

-- `goto`
abbrev pub goto_word : ℕ
goto_word = 30

-- `register`
abbrev pub register_word : ℕ
register_word = 31

-- `restrict`
abbrev pub restrict_word : ℕ
restrict_word = 32

-- `union`
abbrev pub union_word : ℕ
union_word = 33

-- `volatile`
abbrev pub volatile_word : ℕ
volatile_word = 34

-- `_Alignas`
abbrev pub alignas_word : ℕ
alignas_word = 35

-- `_Alignof`
abbrev pub alignof_word : ℕ
alignof_word = 36

-- `_Atomic`
abbrev pub atomic_word : ℕ
atomic_word = 37

-- `_Complex`
abbrev pub complex_word : ℕ
complex_word = 38

-- `_Generic`
abbrev pub generic_word : ℕ
generic_word = 39

-- `_Imaginary`
abbrev pub imaginary_word : ℕ
imaginary_word = 40

-- `_Noreturn`
abbrev pub noreturn_word : ℕ
noreturn_word = 41

-- `_Static_assert`
abbrev pub static_assert_word : ℕ
static_assert_word = 42

-- `_Thread_local`
abbrev pub thread_local_word : ℕ
thread_local_word = 43

-- the numbers are those of the rows so spelled
abbrev pub KeywordsAreSpelled : Type 0
KeywordsAreSpelled =
    (slice_get keyword_rows break_word ≡ Some (codes "break"))
    × (slice_get keyword_rows case_word ≡ Some (codes "case"))
    × (slice_get keyword_rows char_word ≡ Some (codes "char"))
    × (slice_get keyword_rows const_word ≡ Some (codes "const"))
    × (slice_get keyword_rows continue_word ≡ Some (codes "continue"))
    × (slice_get keyword_rows default_word ≡ Some (codes "default"))
    × (slice_get keyword_rows do_word ≡ Some (codes "do"))
    × (slice_get keyword_rows else_word ≡ Some (codes "else"))
    × (slice_get keyword_rows enum_word ≡ Some (codes "enum"))
    × (slice_get keyword_rows extern_word ≡ Some (codes "extern"))
    × (slice_get keyword_rows for_word ≡ Some (codes "for"))
    × (slice_get keyword_rows if_word ≡ Some (codes "if"))
    × (slice_get keyword_rows inline_word ≡ Some (codes "inline"))
    × (slice_get keyword_rows int_word ≡ Some (codes "int"))
    × (slice_get keyword_rows long_word ≡ Some (codes "long"))
    × (slice_get keyword_rows return_word ≡ Some (codes "return"))
    × (slice_get keyword_rows short_word ≡ Some (codes "short"))
    × (slice_get keyword_rows signed_word ≡ Some (codes "signed"))
    × (slice_get keyword_rows sizeof_word ≡ Some (codes "sizeof"))
    × (slice_get keyword_rows static_word ≡ Some (codes "static"))
    × (slice_get keyword_rows struct_word ≡ Some (codes "struct"))
    × (slice_get keyword_rows switch_word ≡ Some (codes "switch"))
    × (slice_get keyword_rows typedef_word ≡ Some (codes "typedef"))
    × (slice_get keyword_rows unsigned_word ≡ Some (codes "unsigned"))
    × (slice_get keyword_rows void_word ≡ Some (codes "void"))
    × (slice_get keyword_rows while_word ≡ Some (codes "while"))
    × (slice_get keyword_rows bool_word ≡ Some (codes "_Bool"))
    × (slice_get keyword_rows auto_word ≡ Some (codes "auto"))
    × (slice_get keyword_rows double_word ≡ Some (codes "double"))
    × (slice_get keyword_rows float_word ≡ Some (codes "float"))
    × (slice_get keyword_rows goto_word ≡ Some (codes "goto"))
    × (slice_get keyword_rows register_word ≡ Some (codes "register"))
    × (slice_get keyword_rows restrict_word ≡ Some (codes "restrict"))
    × (slice_get keyword_rows union_word ≡ Some (codes "union"))
    × (slice_get keyword_rows volatile_word ≡ Some (codes "volatile"))
    × (slice_get keyword_rows alignas_word ≡ Some (codes "_Alignas"))
    × (slice_get keyword_rows alignof_word ≡ Some (codes "_Alignof"))
    × (slice_get keyword_rows atomic_word ≡ Some (codes "_Atomic"))
    × (slice_get keyword_rows complex_word ≡ Some (codes "_Complex"))
    × (slice_get keyword_rows generic_word ≡ Some (codes "_Generic"))
    × (slice_get keyword_rows imaginary_word ≡ Some (codes "_Imaginary"))
    × (slice_get keyword_rows noreturn_word ≡ Some (codes "_Noreturn"))
    × (slice_get keyword_rows static_assert_word ≡ Some (codes "_Static_assert"))
    × (slice_get keyword_rows thread_local_word ≡ Some (codes "_Thread_local"))
