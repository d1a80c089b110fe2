-- The text of a code with its facts: a line for each function, for each label and for each instruction.
use Rattle.std.specs.Prelude.{ℕ, ℤ, ◌+◌, List, [], ◌∷◌, ◌++◌, Option, Some, None, codes, slice_get}
use Rattle.std.specs.Fmt.{decimal, signed_decimal}
use Rattle.std.specs.List.{flat_map}
use Rattle.vale_base.specs.declared.spot.Spot.{Spot}
use Rattle.vale_code.specs.Parts.{Parts}
use Rattle.vale_code.specs.declared.func.Func.{Func}
use Rattle.vale_code.specs.declared.instr.Instr.{Instr}
use Rattle.vale_code.specs.declared.instr.Instr.TheVariants as i
use Rattle.vale_cert.specs.Known.{label_at}
use Rattle.vale_cert.specs.declared.facts.FuncFacts.{FuncFacts}
use Rattle.vale_cert.specs.declared.facts.Label.{Label}

-- ---- operands, each in decimal after a space; a list is its parts alone, a spot its line and its column

abbrev pub word : ℕ → List ℕ
word n = codes " " ++ decimal n

abbrev pub signed : ℤ → List ℕ
signed n = codes " " ++ signed_decimal n

abbrev pub words : List ℕ → List ℕ
words ns = flat_map word ns

abbrev pub spot : Spot → List ℕ
spot at = word at.line ++ word at.col

abbrev pub two_words : ℕ → ℕ → List ℕ
two_words a b = word a ++ word b

abbrev pub three_words : ℕ → ℕ → ℕ → List ℕ
three_words a b c = word a ++ two_words b c

abbrev pub four_words : ℕ → ℕ → ℕ → ℕ → List ℕ
four_words a b c d = word a ++ three_words b c d

-- the operands of an instruction, in the order of its form
abbrev pub operands : Instr → List ℕ
operands (i.Int to number) = word to ++ signed number
operands (i.Truth to choice) = two_words to choice
operands (i.Text to text) = two_words to text
operands (i.Copy to from) = two_words to from
operands (i.Move to from) = two_words to from
operands (i.Add to left right at) = three_words to left right ++ spot at
operands (i.Sub to left right at) = three_words to left right ++ spot at
operands (i.Mul to left right at) = three_words to left right ++ spot at
operands (i.Div to left right at) = three_words to left right ++ spot at
operands (i.Rem to left right at) = three_words to left right ++ spot at
operands (i.Cmp to choice left right) = four_words to choice left right
operands (i.Not to from) = two_words to from
operands (i.Join to left right at) = three_words to left right ++ spot at
operands (i.TextLen to from) = two_words to from
operands (i.Slice to from first end at) = four_words to from first end ++ spot at
operands (i.Byte to from index at) = three_words to from index ++ spot at
operands (i.TextOf to from) = two_words to from
operands (i.IsNum to from) = two_words to from
operands (i.Num to from at) = two_words to from ++ spot at
operands (i.Print from choice) = two_words from choice
operands (i.Jump target) = word target
operands (i.Unless condition target) = two_words condition target
operands i.Tick = []
operands (i.Call to func args at) = two_words to func ++ (words args ++ spot at)
operands (i.CallM to interface method object args at) = four_words to interface method object ++ (words args ++ spot at)
operands (i.CallMLive to interface method object args at) = four_words to interface method object ++ (words args ++ spot at)
operands (i.Ret from) = word from
operands i.RetVoid = []
operands (i.Make to kind args) = two_words to kind.0 ++ words args
operands (i.Borrow to from) = two_words to from
operands (i.Frozen to from) = two_words to from
operands (i.LoadOwn to object field) = three_words to object field
operands (i.Load to object field at) = three_words to object field ++ spot at
operands (i.LoadLive to object field) = three_words to object field
operands (i.ElemOwn to object index at) = three_words to object index ++ spot at
operands (i.Elem to object index at) = three_words to object index ++ spot at
operands (i.ElemLive to object index at) = three_words to object index ++ spot at
operands (i.Len to object at) = two_words to object ++ spot at
operands (i.LenLive to object) = two_words to object
operands (i.SwapOwn to object field value) = four_words to object field value
operands (i.Swap to object field value at) = four_words to object field value ++ spot at
operands (i.SwapElOwn to object index value at) = four_words to object index value ++ spot at
operands (i.SwapEl to object index value at) = four_words to object index value ++ spot at
operands (i.Push object value at) = two_words object value ++ spot at
operands (i.Pop to object at) = two_words to object ++ spot at
operands (i.Open to from) = words to ++ word from
operands (i.Destroy from at) = word from ++ spot at
operands (i.Merge to from) = two_words to from
operands (i.Freeze at) = spot at
operands (i.ThawMerge to from) = two_words to from
operands (i.ThawKeep to from) = two_words to from
operands i.ThawClear = []
operands (i.ParRange to first end func args at) = four_words to first end func ++ (words args ++ spot at)
operands (i.ParEach to array func args at) = three_words to array func ++ (words args ++ spot at)
operands (i.Upcast to from kind) = three_words to from kind.0

-- the name of an instruction's form
abbrev pub name : Instr → List ℕ
name (i.Int to number) = codes "int"
name (i.Truth to choice) = codes "truth"
name (i.Text to text) = codes "text"
name (i.Copy to from) = codes "copy"
name (i.Move to from) = codes "move"
name (i.Add to left right at) = codes "add"
name (i.Sub to left right at) = codes "sub"
name (i.Mul to left right at) = codes "mul"
name (i.Div to left right at) = codes "div"
name (i.Rem to left right at) = codes "rem"
name (i.Cmp to choice left right) = codes "cmp"
name (i.Not to from) = codes "not"
name (i.Join to left right at) = codes "join"
name (i.TextLen to from) = codes "textlen"
name (i.Slice to from first end at) = codes "slice"
name (i.Byte to from index at) = codes "byte"
name (i.TextOf to from) = codes "textof"
name (i.IsNum to from) = codes "isnum"
name (i.Num to from at) = codes "num"
name (i.Print from choice) = codes "print"
name (i.Jump target) = codes "jump"
name (i.Unless condition target) = codes "unless"
name i.Tick = codes "tick"
name (i.Call to func args at) = codes "call"
name (i.CallM to interface method object args at) = codes "callm"
name (i.CallMLive to interface method object args at) = codes "callm_live"
name (i.Ret from) = codes "ret"
name i.RetVoid = codes "retvoid"
name (i.Make to kind args) = codes "make"
name (i.Borrow to from) = codes "borrow"
name (i.Frozen to from) = codes "frozen"
name (i.LoadOwn to object field) = codes "load_own"
name (i.Load to object field at) = codes "load"
name (i.LoadLive to object field) = codes "load_live"
name (i.ElemOwn to object index at) = codes "elem_own"
name (i.Elem to object index at) = codes "elem"
name (i.ElemLive to object index at) = codes "elem_live"
name (i.Len to object at) = codes "len"
name (i.LenLive to object) = codes "len_live"
name (i.SwapOwn to object field value) = codes "swap_own"
name (i.Swap to object field value at) = codes "swap"
name (i.SwapElOwn to object index value at) = codes "swapel_own"
name (i.SwapEl to object index value at) = codes "swapel"
name (i.Push object value at) = codes "push"
name (i.Pop to object at) = codes "pop"
name (i.Open to from) = codes "open"
name (i.Destroy from at) = codes "destroy"
name (i.Merge to from) = codes "merge"
name (i.Freeze at) = codes "freeze"
name (i.ThawMerge to from) = codes "thaw_merge"
name (i.ThawKeep to from) = codes "thaw_keep"
name i.ThawClear = codes "thaw_clear"
name (i.ParRange to first end func args at) = codes "par_range"
name (i.ParEach to array func args at) = codes "par_each"
name (i.Upcast to from kind) = codes "upcast"

-- ---- lines

abbrev pub instr_line : ℕ → Instr → List ℕ
instr_line p instr = codes "  " ++ (decimal p ++ (codes " " ++ (name instr ++ (operands instr ++ codes "\n"))))

abbrev pub label_line : Option Label → List ℕ
label_line None = []
label_line (Some label) = codes "label " ++ (decimal label.at ++ codes "\n")

-- the instructions from place p on, each after the label at its place
abbrev pub body_lines : List Label → ℕ → List Instr → List ℕ
body_lines labels p [] = []
body_lines labels p (instr ∷ instrs) = label_line (label_at labels p) ++ (instr_line p instr ++ body_lines labels (p + 1) instrs)

abbrev pub text_of : Option (List ℕ) → List ℕ
text_of None = []
text_of (Some text) = text

abbrev pub labels_of : Option FuncFacts → List Label
labels_of None = []
labels_of (Some facts) = facts.labels

-- function n
abbrev pub func_lines : List (List ℕ) → ℕ → Func → List Label → List ℕ
func_lines texts n f labels = codes "func " ++ (decimal n ++ (codes " " ++ (text_of (slice_get texts f.name) ++ (codes "\n" ++ body_lines labels 0 f.body))))

-- the functions from function n on
abbrev pub funcs_lines : List (List ℕ) → List FuncFacts → ℕ → List Func → List ℕ
funcs_lines texts facts n [] = []
funcs_lines texts facts n (f ∷ fs) = func_lines texts n f (labels_of (slice_get facts n)) ++ funcs_lines texts facts (n + 1) fs

-- the text
abbrev pub listing : Parts → List FuncFacts → List ℕ
listing code facts = funcs_lines code.texts facts 0 code.funcs
