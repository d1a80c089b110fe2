-- The kinds of bytes, and what words, signs, digits and escapes stand for (docs/LANGUAGE.md, "Tokens").
use Rattle.std.specs.Prelude.{ℕ, ◌+◌, ◌-◌, ◌*◌, ◌≡◌, ◌==◌, ◌&&◌, ◌||◌, nat_le, Bool, true, not, List, [], ◌∷◌, Option, None, Some, codes, if◌then◌else◌}
use Rattle.vale_syntax.specs.declared.token.Word.{Word}
use Rattle.vale_syntax.specs.declared.token.Word.TheVariants as w
use Rattle.vale_syntax.specs.declared.token.Sign.{Sign}
use Rattle.vale_syntax.specs.declared.token.Sign.TheVariants as s

abbrev pub is_byte : ℕ → Bool
is_byte b = nat_le b 255

-- a space, a tab, a carriage return or a line feed
abbrev pub is_blank : ℕ → Bool
is_blank b = b == 32 || b == 9 || b == 13 || b == 10

-- an ASCII letter or `_`
abbrev pub is_letter : ℕ → Bool
is_letter b = (nat_le 65 b && nat_le b 90) || (nat_le 97 b && nat_le b 122) || b == 95

abbrev pub is_digit : ℕ → Bool
is_digit b = nat_le 48 b && nat_le b 57

-- a byte of a name after its first
abbrev pub is_name_byte : ℕ → Bool
is_name_byte b = is_letter b || is_digit b

-- a byte of a comment: any but a line feed
abbrev pub is_comment_byte : ℕ → Bool
is_comment_byte b = not (b == 10)

-- a byte of a quote that stands for itself: any but `"`, `\` and a line feed
abbrev pub is_plain : ℕ → Bool
is_plain b = not (b == 34 || b == 92 || b == 10)

-- each of the bytes passes the test
abbrev pub Each : (ℕ → Bool) → List ℕ → Type 0
Each p [] = Unit {0}
Each p (b ∷ bytes) = (p b ≡ true) × Each p bytes

-- the byte that a `\` and this byte stand for: `\n` a line feed, `\t` a tab, `\\` a `\`, `\"` a `"`
abbrev pub escape_of : ℕ → Option ℕ
escape_of b = if b == 110 then Some 10 else if b == 116 then Some 9 else if b == 92 then Some 92 else if b == 34 then Some 34 else None

-- the number that digits stand for, after those of a number
abbrev pub value_behind : ℕ → List ℕ → ℕ
value_behind n [] = n
value_behind n (d ∷ digits) = value_behind (10 * n + (d - 48)) digits

-- the number that digits stand for
abbrev pub value : List ℕ → ℕ
value digits = value_behind 0 digits

abbrev pub word_text : Word → List ℕ
word_text w.Func = codes "func"
word_text w.Pure = codes "pure"
word_text w.Struct = codes "struct"
word_text w.Interface = codes "interface"
word_text w.Impl = codes "impl"
word_text w.For = codes "for"
word_text w.Iso = codes "iso"
word_text w.Imm = codes "imm"
word_text w.Set = codes "set"
word_text w.Return = codes "return"
word_text w.If = codes "if"
word_text w.Else = codes "else"
word_text w.While = codes "while"
word_text w.Foreach = codes "foreach"
word_text w.In = codes "in"
word_text w.Parallel = codes "parallel"
word_text w.Merge = codes "merge"
word_text w.And = codes "and"
word_text w.Or = codes "or"
word_text w.Not = codes "not"
word_text w.True = codes "true"
word_text w.False = codes "false"
word_text w.Int = codes "int"
word_text w.Bool = codes "bool"
word_text w.Str = codes "str"

abbrev pub sign_text : Sign → List ℕ
sign_text s.OpenBrace = codes "{"
sign_text s.CloseBrace = codes "}"
sign_text s.OpenParen = codes "("
sign_text s.CloseParen = codes ")"
sign_text s.OpenBracket = codes "["
sign_text s.CloseBracket = codes "]"
sign_text s.Comma = codes ","
sign_text s.Semicolon = codes ";"
sign_text s.Dot = codes "."
sign_text s.DotDot = codes ".."
sign_text s.Bang = codes "!"
sign_text s.Ampersand = codes "&"
sign_text s.Assign = codes "="
sign_text s.Equal = codes "=="
sign_text s.NotEqual = codes "!="
sign_text s.Less = codes "<"
sign_text s.LessEqual = codes "<="
sign_text s.Greater = codes ">"
sign_text s.GreaterEqual = codes ">="
sign_text s.Plus = codes "+"
sign_text s.Minus = codes "-"
sign_text s.Star = codes "*"
sign_text s.Slash = codes "/"
sign_text s.Percent = codes "%"
