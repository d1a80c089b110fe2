-- The format of each instruction: the number of its form, and its operands in their order.
use Rattle.std.specs.Prelude.{ℕ, ℤ, List, [], ◌∷◌}
use Rattle.vale_base.specs.declared.name.Kind.{Kind}
use Rattle.vale_base.specs.declared.spot.Spot.{Spot}
use Rattle.vale_code.specs.declared.instr.Instr.{Instr}
use Rattle.vale_code.specs.declared.instr.Instr.TheVariants as i
use Rattle.vale_codec.specs.Format.{Format, both, made, nothing}
use Rattle.vale_codec.specs.Numbers.{number, list_of, choice}
use Rattle.vale_file_spec.specs.Types.{word, signed, kind_number, spot}

unfoldable pub words : Format (List ℕ)
words = list_of word

unfoldable pub word_signed : Format (ℕ × ℤ)
word_signed = both word signed

unfoldable pub word_bit : Format (ℕ × ℕ)
word_bit = both word (number 1)

unfoldable pub two_words : Format (ℕ × ℕ)
two_words = both word word

unfoldable pub three_words_spot : Format (ℕ × (ℕ × (ℕ × Spot)))
three_words_spot = both word (both word (both word spot))

unfoldable pub word_choice_two_words : Format (ℕ × (ℕ × (ℕ × ℕ)))
word_choice_two_words = both word (both (number 5) (both word word))

unfoldable pub four_words_spot : Format (ℕ × (ℕ × (ℕ × (ℕ × Spot))))
four_words_spot = both word (both word (both word (both word spot)))

unfoldable pub two_words_spot : Format (ℕ × (ℕ × Spot))
two_words_spot = both word (both word spot)

unfoldable pub two_words_list_spot : Format (ℕ × (ℕ × (List ℕ × Spot)))
two_words_list_spot = both word (both word (both words spot))

unfoldable pub four_words_list_spot : Format (ℕ × (ℕ × (ℕ × (ℕ × (List ℕ × Spot)))))
four_words_list_spot = both word (both word (both word (both word (both words spot))))

unfoldable pub word_kind_list : Format (ℕ × (Kind × (List ℕ)))
word_kind_list = both word (both kind_number words)

unfoldable pub three_words : Format (ℕ × (ℕ × ℕ))
three_words = both word (both word word)

unfoldable pub four_words : Format (ℕ × (ℕ × (ℕ × ℕ)))
four_words = both word (both word (both word word))

unfoldable pub list_word : Format (List ℕ × ℕ)
list_word = both words word

unfoldable pub word_spot : Format (ℕ × Spot)
word_spot = both word spot

unfoldable pub three_words_list_spot : Format (ℕ × (ℕ × (ℕ × (List ℕ × Spot))))
three_words_list_spot = both word (both word (both word (both words spot)))

unfoldable pub two_words_kind : Format (ℕ × (ℕ × Kind))
two_words_kind = both word (both word kind_number)

abbrev pub instr_tag : Instr → ℕ
instr_tag (i.Int to number) = 0
instr_tag (i.Truth to choice) = 1
instr_tag (i.Text to text) = 2
instr_tag (i.Copy to from) = 3
instr_tag (i.Move to from) = 4
instr_tag (i.Add to left right at) = 5
instr_tag (i.Sub to left right at) = 6
instr_tag (i.Mul to left right at) = 7
instr_tag (i.Div to left right at) = 8
instr_tag (i.Rem to left right at) = 9
instr_tag (i.Cmp to choice left right) = 10
instr_tag (i.Not to from) = 11
instr_tag (i.Join to left right at) = 12
instr_tag (i.TextLen to from) = 13
instr_tag (i.Slice to from first end at) = 14
instr_tag (i.Byte to from index at) = 15
instr_tag (i.TextOf to from) = 16
instr_tag (i.IsNum to from) = 17
instr_tag (i.Num to from at) = 18
instr_tag (i.Print from choice) = 19
instr_tag (i.Jump target) = 20
instr_tag (i.Unless condition target) = 21
instr_tag i.Tick = 22
instr_tag (i.Call to func args at) = 23
instr_tag (i.CallM to interface method object args at) = 24
instr_tag (i.CallMLive to interface method object args at) = 25
instr_tag (i.Ret from) = 26
instr_tag i.RetVoid = 27
instr_tag (i.Make to kind args) = 28
instr_tag (i.Borrow to from) = 29
instr_tag (i.Frozen to from) = 30
instr_tag (i.LoadOwn to object field) = 31
instr_tag (i.Load to object field at) = 32
instr_tag (i.LoadLive to object field) = 33
instr_tag (i.ElemOwn to object index at) = 34
instr_tag (i.Elem to object index at) = 35
instr_tag (i.ElemLive to object index at) = 36
instr_tag (i.Len to object at) = 37
instr_tag (i.LenLive to object) = 38
instr_tag (i.SwapOwn to object field value) = 39
instr_tag (i.Swap to object field value at) = 40
instr_tag (i.SwapElOwn to object index value at) = 41
instr_tag (i.SwapEl to object index value at) = 42
instr_tag (i.Push object value at) = 43
instr_tag (i.Pop to object at) = 44
instr_tag (i.Open to from) = 45
instr_tag (i.Destroy from at) = 46
instr_tag (i.Merge to from) = 47
instr_tag (i.Freeze at) = 48
instr_tag (i.ThawMerge to from) = 49
instr_tag (i.ThawKeep to from) = 50
instr_tag i.ThawClear = 51
instr_tag (i.ParRange to first end func args at) = 52
instr_tag (i.ParEach to array func args at) = 53
instr_tag (i.Upcast to from kind) = 54

abbrev pub instr_payload : Instr → List ℕ
instr_payload (i.Int to number) = word_signed.write (to, number)
instr_payload (i.Truth to choice) = word_bit.write (to, choice)
instr_payload (i.Text to text) = two_words.write (to, text)
instr_payload (i.Copy to from) = two_words.write (to, from)
instr_payload (i.Move to from) = two_words.write (to, from)
instr_payload (i.Add to left right at) = three_words_spot.write (to, (left, (right, at)))
instr_payload (i.Sub to left right at) = three_words_spot.write (to, (left, (right, at)))
instr_payload (i.Mul to left right at) = three_words_spot.write (to, (left, (right, at)))
instr_payload (i.Div to left right at) = three_words_spot.write (to, (left, (right, at)))
instr_payload (i.Rem to left right at) = three_words_spot.write (to, (left, (right, at)))
instr_payload (i.Cmp to choice left right) = word_choice_two_words.write (to, (choice, (left, right)))
instr_payload (i.Not to from) = two_words.write (to, from)
instr_payload (i.Join to left right at) = three_words_spot.write (to, (left, (right, at)))
instr_payload (i.TextLen to from) = two_words.write (to, from)
instr_payload (i.Slice to from first end at) = four_words_spot.write (to, (from, (first, (end, at))))
instr_payload (i.Byte to from index at) = three_words_spot.write (to, (from, (index, at)))
instr_payload (i.TextOf to from) = two_words.write (to, from)
instr_payload (i.IsNum to from) = two_words.write (to, from)
instr_payload (i.Num to from at) = two_words_spot.write (to, (from, at))
instr_payload (i.Print from choice) = word_bit.write (from, choice)
instr_payload (i.Jump target) = word.write target
instr_payload (i.Unless condition target) = two_words.write (condition, target)
instr_payload i.Tick = []
instr_payload (i.Call to func args at) = two_words_list_spot.write (to, (func, (args, at)))
instr_payload (i.CallM to interface method object args at) = four_words_list_spot.write (to, (interface, (method, (object, (args, at)))))
instr_payload (i.CallMLive to interface method object args at) = four_words_list_spot.write (to, (interface, (method, (object, (args, at)))))
instr_payload (i.Ret from) = word.write from
instr_payload i.RetVoid = []
instr_payload (i.Make to kind args) = word_kind_list.write (to, (kind, args))
instr_payload (i.Borrow to from) = two_words.write (to, from)
instr_payload (i.Frozen to from) = two_words.write (to, from)
instr_payload (i.LoadOwn to object field) = three_words.write (to, (object, field))
instr_payload (i.Load to object field at) = three_words_spot.write (to, (object, (field, at)))
instr_payload (i.LoadLive to object field) = three_words.write (to, (object, field))
instr_payload (i.ElemOwn to object index at) = three_words_spot.write (to, (object, (index, at)))
instr_payload (i.Elem to object index at) = three_words_spot.write (to, (object, (index, at)))
instr_payload (i.ElemLive to object index at) = three_words_spot.write (to, (object, (index, at)))
instr_payload (i.Len to object at) = two_words_spot.write (to, (object, at))
instr_payload (i.LenLive to object) = two_words.write (to, object)
instr_payload (i.SwapOwn to object field value) = four_words.write (to, (object, (field, value)))
instr_payload (i.Swap to object field value at) = four_words_spot.write (to, (object, (field, (value, at))))
instr_payload (i.SwapElOwn to object index value at) = four_words_spot.write (to, (object, (index, (value, at))))
instr_payload (i.SwapEl to object index value at) = four_words_spot.write (to, (object, (index, (value, at))))
instr_payload (i.Push object value at) = two_words_spot.write (object, (value, at))
instr_payload (i.Pop to object at) = two_words_spot.write (to, (object, at))
instr_payload (i.Open to from) = list_word.write (to, from)
instr_payload (i.Destroy from at) = word_spot.write (from, at)
instr_payload (i.Merge to from) = two_words.write (to, from)
instr_payload (i.Freeze at) = spot.write at
instr_payload (i.ThawMerge to from) = two_words.write (to, from)
instr_payload (i.ThawKeep to from) = two_words.write (to, from)
instr_payload i.ThawClear = []
instr_payload (i.ParRange to first end func args at) = four_words_list_spot.write (to, (first, (end, (func, (args, at)))))
instr_payload (i.ParEach to array func args at) = three_words_list_spot.write (to, (array, (func, (args, at))))
instr_payload (i.Upcast to from kind) = two_words_kind.write (to, (from, kind))

abbrev pub instr_forms : List (Format Instr)
instr_forms =
    made word_signed (λ p. i.Int p.0 p.1) instr_payload
    ∷ made word_bit (λ p. i.Truth p.0 p.1) instr_payload
    ∷ made two_words (λ p. i.Text p.0 p.1) instr_payload
    ∷ made two_words (λ p. i.Copy p.0 p.1) instr_payload
    ∷ made two_words (λ p. i.Move p.0 p.1) instr_payload
    ∷ made three_words_spot (λ p. i.Add p.0 p.1.0 p.1.1.0 p.1.1.1) instr_payload
    ∷ made three_words_spot (λ p. i.Sub p.0 p.1.0 p.1.1.0 p.1.1.1) instr_payload
    ∷ made three_words_spot (λ p. i.Mul p.0 p.1.0 p.1.1.0 p.1.1.1) instr_payload
    ∷ made three_words_spot (λ p. i.Div p.0 p.1.0 p.1.1.0 p.1.1.1) instr_payload
    ∷ made three_words_spot (λ p. i.Rem p.0 p.1.0 p.1.1.0 p.1.1.1) instr_payload
    ∷ made word_choice_two_words (λ p. i.Cmp p.0 p.1.0 p.1.1.0 p.1.1.1) instr_payload
    ∷ made two_words (λ p. i.Not p.0 p.1) instr_payload
    ∷ made three_words_spot (λ p. i.Join p.0 p.1.0 p.1.1.0 p.1.1.1) instr_payload
    ∷ made two_words (λ p. i.TextLen p.0 p.1) instr_payload
    ∷ made four_words_spot (λ p. i.Slice p.0 p.1.0 p.1.1.0 p.1.1.1.0 p.1.1.1.1) instr_payload
    ∷ made three_words_spot (λ p. i.Byte p.0 p.1.0 p.1.1.0 p.1.1.1) instr_payload
    ∷ made two_words (λ p. i.TextOf p.0 p.1) instr_payload
    ∷ made two_words (λ p. i.IsNum p.0 p.1) instr_payload
    ∷ made two_words_spot (λ p. i.Num p.0 p.1.0 p.1.1) instr_payload
    ∷ made word_bit (λ p. i.Print p.0 p.1) instr_payload
    ∷ made word (λ p. i.Jump p) instr_payload
    ∷ made two_words (λ p. i.Unless p.0 p.1) instr_payload
    ∷ made nothing (λ _. i.Tick) instr_payload
    ∷ made two_words_list_spot (λ p. i.Call p.0 p.1.0 p.1.1.0 p.1.1.1) instr_payload
    ∷ made four_words_list_spot (λ p. i.CallM p.0 p.1.0 p.1.1.0 p.1.1.1.0 p.1.1.1.1.0 p.1.1.1.1.1) instr_payload
    ∷ made four_words_list_spot (λ p. i.CallMLive p.0 p.1.0 p.1.1.0 p.1.1.1.0 p.1.1.1.1.0 p.1.1.1.1.1) instr_payload
    ∷ made word (λ p. i.Ret p) instr_payload
    ∷ made nothing (λ _. i.RetVoid) instr_payload
    ∷ made word_kind_list (λ p. i.Make p.0 p.1.0 p.1.1) instr_payload
    ∷ made two_words (λ p. i.Borrow p.0 p.1) instr_payload
    ∷ made two_words (λ p. i.Frozen p.0 p.1) instr_payload
    ∷ made three_words (λ p. i.LoadOwn p.0 p.1.0 p.1.1) instr_payload
    ∷ made three_words_spot (λ p. i.Load p.0 p.1.0 p.1.1.0 p.1.1.1) instr_payload
    ∷ made three_words (λ p. i.LoadLive p.0 p.1.0 p.1.1) instr_payload
    ∷ made three_words_spot (λ p. i.ElemOwn p.0 p.1.0 p.1.1.0 p.1.1.1) instr_payload
    ∷ made three_words_spot (λ p. i.Elem p.0 p.1.0 p.1.1.0 p.1.1.1) instr_payload
    ∷ made three_words_spot (λ p. i.ElemLive p.0 p.1.0 p.1.1.0 p.1.1.1) instr_payload
    ∷ made two_words_spot (λ p. i.Len p.0 p.1.0 p.1.1) instr_payload
    ∷ made two_words (λ p. i.LenLive p.0 p.1) instr_payload
    ∷ made four_words (λ p. i.SwapOwn p.0 p.1.0 p.1.1.0 p.1.1.1) instr_payload
    ∷ made four_words_spot (λ p. i.Swap p.0 p.1.0 p.1.1.0 p.1.1.1.0 p.1.1.1.1) instr_payload
    ∷ made four_words_spot (λ p. i.SwapElOwn p.0 p.1.0 p.1.1.0 p.1.1.1.0 p.1.1.1.1) instr_payload
    ∷ made four_words_spot (λ p. i.SwapEl p.0 p.1.0 p.1.1.0 p.1.1.1.0 p.1.1.1.1) instr_payload
    ∷ made two_words_spot (λ p. i.Push p.0 p.1.0 p.1.1) instr_payload
    ∷ made two_words_spot (λ p. i.Pop p.0 p.1.0 p.1.1) instr_payload
    ∷ made list_word (λ p. i.Open p.0 p.1) instr_payload
    ∷ made word_spot (λ p. i.Destroy p.0 p.1) instr_payload
    ∷ made two_words (λ p. i.Merge p.0 p.1) instr_payload
    ∷ made spot (λ p. i.Freeze p) instr_payload
    ∷ made two_words (λ p. i.ThawMerge p.0 p.1) instr_payload
    ∷ made two_words (λ p. i.ThawKeep p.0 p.1) instr_payload
    ∷ made nothing (λ _. i.ThawClear) instr_payload
    ∷ made four_words_list_spot (λ p. i.ParRange p.0 p.1.0 p.1.1.0 p.1.1.1.0 p.1.1.1.1.0 p.1.1.1.1.1) instr_payload
    ∷ made three_words_list_spot (λ p. i.ParEach p.0 p.1.0 p.1.1.0 p.1.1.1.0 p.1.1.1.1) instr_payload
    ∷ made two_words_kind (λ p. i.Upcast p.0 p.1.0 p.1.1) instr_payload
    ∷ []

unfoldable pub instr : Format Instr
instr = choice 54 instr_forms instr_tag instr_payload
