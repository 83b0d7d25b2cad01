-- The headers that are built in, with their texts.
use Rattle.std.specs.Prelude.{ℕ, List, [], ◌∷◌, ◌++◌, map, Option, option_and_then, slice_get, codes, bytes_eq}
use Rattle.std.specs.List.{flat_map, position_from}
use Rattle.dm_token.specs.Bytes.{newline}

-- a text of lines
abbrev pub text_of : List (List ℕ) → List ℕ
text_of lines = flat_map (λ line. line ++ newline ∷ []) lines

-- the name under which a header stands among the files, as `<stdio.h>`
abbrev pub bracketed : List ℕ → List ℕ
bracketed name = codes "<" ++ (name ++ codes ">")

abbrev pub stdio_lines : List (List ℕ)
stdio_lines =
    codes "int putchar(int c);"
    ∷ codes "int getchar(void);"
    ∷ codes "int puts(const char *s);"
    ∷ codes "typedef unsigned long size_t;"
    ∷ codes "#define EOF (-1)"
    ∷ codes "#define NULL ((void *)0)"
    ∷ []

abbrev pub stdlib_lines : List (List ℕ)
stdlib_lines =
    codes "void exit(int status);"
    ∷ codes "typedef unsigned long size_t;"
    ∷ codes "#define EXIT_SUCCESS 0"
    ∷ codes "#define EXIT_FAILURE 1"
    ∷ codes "#define NULL ((void *)0)"
    ∷ []

abbrev pub stddef_lines : List (List ℕ)
stddef_lines =
    codes "typedef unsigned long size_t;"
    ∷ codes "typedef long ptrdiff_t;"
    ∷ codes "#define NULL ((void *)0)"
    ∷ []

abbrev pub stdint_lines : List (List ℕ)
stdint_lines =
    codes "typedef signed char int8_t;"
    ∷ codes "typedef unsigned char uint8_t;"
    ∷ codes "typedef short int16_t;"
    ∷ codes "typedef unsigned short uint16_t;"
    ∷ codes "typedef int int32_t;"
    ∷ codes "typedef unsigned int uint32_t;"
    ∷ codes "typedef long int64_t;"
    ∷ codes "typedef unsigned long uint64_t;"
    ∷ codes "#define INT8_MAX 127"
    ∷ codes "#define UINT8_MAX 255"
    ∷ codes "#define INT16_MAX 32767"
    ∷ codes "#define UINT16_MAX 65535"
    ∷ codes "#define INT32_MAX 2147483647"
    ∷ codes "#define INT32_MIN (-2147483647-1)"
    ∷ codes "#define UINT32_MAX 4294967295u"
    ∷ codes "#define INT64_MAX 9223372036854775807L"
    ∷ codes "#define INT64_MIN (-9223372036854775807L-1)"
    ∷ codes "#define UINT64_MAX 18446744073709551615uL"
    ∷ []

abbrev pub limits_lines : List (List ℕ)
limits_lines =
    codes "#define CHAR_BIT 8"
    ∷ codes "#define SCHAR_MIN (-128)"
    ∷ codes "#define SCHAR_MAX 127"
    ∷ codes "#define UCHAR_MAX 255"
    ∷ codes "#define CHAR_MIN (-128)"
    ∷ codes "#define CHAR_MAX 127"
    ∷ codes "#define SHRT_MIN (-32768)"
    ∷ codes "#define SHRT_MAX 32767"
    ∷ codes "#define USHRT_MAX 65535"
    ∷ codes "#define INT_MIN (-2147483647-1)"
    ∷ codes "#define INT_MAX 2147483647"
    ∷ codes "#define UINT_MAX 4294967295u"
    ∷ codes "#define LONG_MIN (-9223372036854775807L-1)"
    ∷ codes "#define LONG_MAX 9223372036854775807L"
    ∷ codes "#define ULONG_MAX 18446744073709551615uL"
    ∷ codes "#define LLONG_MIN (-9223372036854775807LL-1)"
    ∷ codes "#define LLONG_MAX 9223372036854775807LL"
    ∷ codes "#define ULLONG_MAX 18446744073709551615uLL"
    ∷ []

abbrev pub stdbool_lines : List (List ℕ)
stdbool_lines =
    codes "#define bool _Bool"
    ∷ codes "#define true 1"
    ∷ codes "#define false 0"
    ∷ codes "#define __bool_true_false_are_defined 1"
    ∷ []

-- the headers by their numbers, each with its text
abbrev pub headers : List (List ℕ × List ℕ)
headers =
    (codes "stdio.h", text_of stdio_lines)
    ∷ (codes "stdlib.h", text_of stdlib_lines)
    ∷ (codes "stddef.h", text_of stddef_lines)
    ∷ (codes "stdint.h", text_of stdint_lines)
    ∷ (codes "limits.h", text_of limits_lines)
    ∷ (codes "stdbool.h", text_of stdbool_lines)
    ∷ []

-- the number of the header of a name, if there is one
unfoldable pub header_number : List ℕ → Option ℕ
header_number name = position_from (λ header. bytes_eq name header.0) 0 headers

-- the names of the headers among the files
abbrev pub header_names : List (List ℕ)
header_names = map (λ header. bracketed header.0) headers

-- their texts
abbrev pub header_texts : List (List ℕ)
header_texts = map (λ header. header.1) headers

-- the text of the header of a name, if there is one
abbrev pub header_text : List ℕ → Option (List ℕ)
header_text name = option_and_then (slice_get header_texts) (header_number name)
