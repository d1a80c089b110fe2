-- Instructions whose operands fit.
use Rattle.vale_code.specs.declared.instr.Instr.{Instr}
use Rattle.vale_code.specs.declared.instr.Instr.TheVariants as i
use Rattle.vale_file_spec.specs.Types.{word, spot}
use Rattle.vale_file_spec.specs.Instructions.{word_signed, word_bit, two_words, three_words_spot, word_choice_two_words, four_words_spot, two_words_spot, two_words_list_spot, four_words_list_spot, word_kind_list, three_words, four_words, list_word, word_spot, three_words_list_spot, two_words_kind}

-- the operands of an instruction fit
abbrev pub OperandsFit : Instr → Type 0
OperandsFit (i.Int to number) = word_signed.Fits (to, number)
OperandsFit (i.Truth to choice) = word_bit.Fits (to, choice)
OperandsFit (i.Text to text) = two_words.Fits (to, text)
OperandsFit (i.Copy to from) = two_words.Fits (to, from)
OperandsFit (i.Move to from) = two_words.Fits (to, from)
OperandsFit (i.Add to left right at) = three_words_spot.Fits (to, (left, (right, at)))
OperandsFit (i.Sub to left right at) = three_words_spot.Fits (to, (left, (right, at)))
OperandsFit (i.Mul to left right at) = three_words_spot.Fits (to, (left, (right, at)))
OperandsFit (i.Div to left right at) = three_words_spot.Fits (to, (left, (right, at)))
OperandsFit (i.Rem to left right at) = three_words_spot.Fits (to, (left, (right, at)))
OperandsFit (i.Cmp to choice left right) = word_choice_two_words.Fits (to, (choice, (left, right)))
OperandsFit (i.Not to from) = two_words.Fits (to, from)
OperandsFit (i.Join to left right at) = three_words_spot.Fits (to, (left, (right, at)))
OperandsFit (i.TextLen to from) = two_words.Fits (to, from)
OperandsFit (i.Slice to from first end at) = four_words_spot.Fits (to, (from, (first, (end, at))))
OperandsFit (i.Byte to from index at) = three_words_spot.Fits (to, (from, (index, at)))
OperandsFit (i.TextOf to from) = two_words.Fits (to, from)
OperandsFit (i.IsNum to from) = two_words.Fits (to, from)
OperandsFit (i.Num to from at) = two_words_spot.Fits (to, (from, at))
OperandsFit (i.Print from choice) = word_bit.Fits (from, choice)
OperandsFit (i.Jump target) = word.Fits target
OperandsFit (i.Unless condition target) = two_words.Fits (condition, target)
OperandsFit i.Tick = Unit {0}
OperandsFit (i.Call to func args at) = two_words_list_spot.Fits (to, (func, (args, at)))
OperandsFit (i.CallM to interface method object args at) = four_words_list_spot.Fits (to, (interface, (method, (object, (args, at)))))
OperandsFit (i.CallMLive to interface method object args at) = four_words_list_spot.Fits (to, (interface, (method, (object, (args, at)))))
OperandsFit (i.Ret from) = word.Fits from
OperandsFit i.RetVoid = Unit {0}
OperandsFit (i.Make to kind args) = word_kind_list.Fits (to, (kind, args))
OperandsFit (i.Borrow to from) = two_words.Fits (to, from)
OperandsFit (i.Frozen to from) = two_words.Fits (to, from)
OperandsFit (i.LoadOwn to object field) = three_words.Fits (to, (object, field))
OperandsFit (i.Load to object field at) = three_words_spot.Fits (to, (object, (field, at)))
OperandsFit (i.LoadLive to object field) = three_words.Fits (to, (object, field))
OperandsFit (i.ElemOwn to object index at) = three_words_spot.Fits (to, (object, (index, at)))
OperandsFit (i.Elem to object index at) = three_words_spot.Fits (to, (object, (index, at)))
OperandsFit (i.ElemLive to object index at) = three_words_spot.Fits (to, (object, (index, at)))
OperandsFit (i.Len to object at) = two_words_spot.Fits (to, (object, at))
OperandsFit (i.LenLive to object) = two_words.Fits (to, object)
OperandsFit (i.SwapOwn to object field value) = four_words.Fits (to, (object, (field, value)))
OperandsFit (i.Swap to object field value at) = four_words_spot.Fits (to, (object, (field, (value, at))))
OperandsFit (i.SwapElOwn to object index value at) = four_words_spot.Fits (to, (object, (index, (value, at))))
OperandsFit (i.SwapEl to object index value at) = four_words_spot.Fits (to, (object, (index, (value, at))))
OperandsFit (i.Push object value at) = two_words_spot.Fits (object, (value, at))
OperandsFit (i.Pop to object at) = two_words_spot.Fits (to, (object, at))
OperandsFit (i.Open to from) = list_word.Fits (to, from)
OperandsFit (i.Destroy from at) = word_spot.Fits (from, at)
OperandsFit (i.Merge to from) = two_words.Fits (to, from)
OperandsFit (i.Freeze at) = spot.Fits at
OperandsFit (i.ThawMerge to from) = two_words.Fits (to, from)
OperandsFit (i.ThawKeep to from) = two_words.Fits (to, from)
OperandsFit i.ThawClear = Unit {0}
OperandsFit (i.ParRange to first end func args at) = four_words_list_spot.Fits (to, (first, (end, (func, (args, at)))))
OperandsFit (i.ParEach to array func args at) = three_words_list_spot.Fits (to, (array, (func, (args, at))))
OperandsFit (i.Upcast to from kind) = two_words_kind.Fits (to, (from, kind))
