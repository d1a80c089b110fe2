-- The laws of each instruction's format.
use Rattle.std.proofs.Common.{refl}
use Rattle.vale_code.specs.declared.instr.Instr.TheVariants as i
use Rattle.vale_codec.specs.Format.{both, nothing}
use Rattle.vale_codec.specs.Numbers.{number}
use Rattle.vale_file_spec.specs.Types.{word, signed, kind_number, spot}
use Rattle.vale_file_spec.specs.Instructions.{words, word_signed, word_bit, two_words, three_words_spot, word_choice_two_words, four_words_spot, two_words_spot, two_words_list_spot, four_words_list_spot, word_kind_list, three_words, four_words, list_word, word_spot, three_words_list_spot, two_words_kind, instr_tag, instr_payload, instr_forms, instr}
use Rattle.vale_codec.proofs.FormatLaws.{Lawful, nothing_lawful}
use Rattle.vale_codec.proofs.NumberLaws.{number_lawful, list_lawful, choice_lawful, made_case}
use Rattle.vale_file_spec.proofs.TypeLaws.{both_lawful, word_lawful, signed_lawful, kind_number_lawful, spot_lawful}

pub words_lawful : Lawful words
unfolding words
words_lawful = list_lawful word word_lawful

word_signed_lawful : Lawful word_signed
unfolding word_signed
word_signed_lawful = both_lawful word signed word_lawful signed_lawful

word_bit_lawful : Lawful word_bit
unfolding word_bit
word_bit_lawful = both_lawful word (number 1) word_lawful (number_lawful 1)

two_words_lawful : Lawful two_words
unfolding two_words
two_words_lawful = both_lawful word word word_lawful word_lawful

three_words_spot_lawful : Lawful three_words_spot
unfolding three_words_spot
three_words_spot_lawful = both_lawful word (both word (both word spot)) word_lawful (both_lawful word (both word spot) word_lawful (both_lawful word spot word_lawful spot_lawful))

word_choice_two_words_lawful : Lawful word_choice_two_words
unfolding word_choice_two_words
word_choice_two_words_lawful = both_lawful word (both (number 5) (both word word)) word_lawful (both_lawful (number 5) (both word word) (number_lawful 5) (both_lawful word word word_lawful word_lawful))

four_words_spot_lawful : Lawful four_words_spot
unfolding four_words_spot
four_words_spot_lawful = both_lawful word (both word (both word (both word spot))) word_lawful (both_lawful word (both word (both word spot)) word_lawful (both_lawful word (both word spot) word_lawful (both_lawful word spot word_lawful spot_lawful)))

two_words_spot_lawful : Lawful two_words_spot
unfolding two_words_spot
two_words_spot_lawful = both_lawful word (both word spot) word_lawful (both_lawful word spot word_lawful spot_lawful)

two_words_list_spot_lawful : Lawful two_words_list_spot
unfolding two_words_list_spot
two_words_list_spot_lawful = both_lawful word (both word (both words spot)) word_lawful (both_lawful word (both words spot) word_lawful (both_lawful words spot words_lawful spot_lawful))

four_words_list_spot_lawful : Lawful four_words_list_spot
unfolding four_words_list_spot
four_words_list_spot_lawful = both_lawful word (both word (both word (both word (both words spot)))) word_lawful (both_lawful word (both word (both word (both words spot))) word_lawful (both_lawful word (both word (both words spot)) word_lawful (both_lawful word (both words spot) word_lawful (both_lawful words spot words_lawful spot_lawful))))

word_kind_list_lawful : Lawful word_kind_list
unfolding word_kind_list
word_kind_list_lawful = both_lawful word (both kind_number words) word_lawful (both_lawful kind_number words kind_number_lawful words_lawful)

three_words_lawful : Lawful three_words
unfolding three_words
three_words_lawful = both_lawful word (both word word) word_lawful (both_lawful word word word_lawful word_lawful)

four_words_lawful : Lawful four_words
unfolding four_words
four_words_lawful = both_lawful word (both word (both word word)) word_lawful (both_lawful word (both word word) word_lawful (both_lawful word word word_lawful word_lawful))

list_word_lawful : Lawful list_word
unfolding list_word
list_word_lawful = both_lawful words word words_lawful word_lawful

word_spot_lawful : Lawful word_spot
unfolding word_spot
word_spot_lawful = both_lawful word spot word_lawful spot_lawful

three_words_list_spot_lawful : Lawful three_words_list_spot
unfolding three_words_list_spot
three_words_list_spot_lawful = both_lawful word (both word (both word (both words spot))) word_lawful (both_lawful word (both word (both words spot)) word_lawful (both_lawful word (both words spot) word_lawful (both_lawful words spot words_lawful spot_lawful)))

two_words_kind_lawful : Lawful two_words_kind
unfolding two_words_kind
two_words_kind_lawful = both_lawful word (both word kind_number) word_lawful (both_lawful word kind_number word_lawful kind_number_lawful)

pub instr_lawful : Lawful instr
unfolding instr
instr_lawful = choice_lawful 54 instr_forms instr_tag instr_payload (
  made_case word_signed (λ p. i.Int p.0 p.1) instr_tag instr_payload 0 word_signed_lawful (λ _. refl) (λ _. refl),
  (
    made_case word_bit (λ p. i.Truth p.0 p.1) instr_tag instr_payload 1 word_bit_lawful (λ _. refl) (λ _. refl),
    (
      made_case two_words (λ p. i.Text p.0 p.1) instr_tag instr_payload 2 two_words_lawful (λ _. refl) (λ _. refl),
      (
        made_case two_words (λ p. i.Copy p.0 p.1) instr_tag instr_payload 3 two_words_lawful (λ _. refl) (λ _. refl),
        (
          made_case two_words (λ p. i.Move p.0 p.1) instr_tag instr_payload 4 two_words_lawful (λ _. refl) (λ _. refl),
          (
            made_case three_words_spot (λ p. i.Add p.0 p.1.0 p.1.1.0 p.1.1.1) instr_tag instr_payload 5 three_words_spot_lawful (λ _. refl) (λ _. refl),
            (
              made_case three_words_spot (λ p. i.Sub p.0 p.1.0 p.1.1.0 p.1.1.1) instr_tag instr_payload 6 three_words_spot_lawful (λ _. refl) (λ _. refl),
              (
                made_case three_words_spot (λ p. i.Mul p.0 p.1.0 p.1.1.0 p.1.1.1) instr_tag instr_payload 7 three_words_spot_lawful (λ _. refl) (λ _. refl),
                (
                  made_case three_words_spot (λ p. i.Div p.0 p.1.0 p.1.1.0 p.1.1.1) instr_tag instr_payload 8 three_words_spot_lawful (λ _. refl) (λ _. refl),
                  (
                    made_case three_words_spot (λ p. i.Rem p.0 p.1.0 p.1.1.0 p.1.1.1) instr_tag instr_payload 9 three_words_spot_lawful (λ _. refl) (λ _. refl),
                    (
                      made_case word_choice_two_words (λ p. i.Cmp p.0 p.1.0 p.1.1.0 p.1.1.1) instr_tag instr_payload 10 word_choice_two_words_lawful (λ _. refl) (λ _. refl),
                      (
                        made_case two_words (λ p. i.Not p.0 p.1) instr_tag instr_payload 11 two_words_lawful (λ _. refl) (λ _. refl),
                        (
                          made_case three_words_spot (λ p. i.Join p.0 p.1.0 p.1.1.0 p.1.1.1) instr_tag instr_payload 12 three_words_spot_lawful (λ _. refl) (λ _. refl),
                          (
                            made_case two_words (λ p. i.TextLen p.0 p.1) instr_tag instr_payload 13 two_words_lawful (λ _. refl) (λ _. refl),
                            (
                              made_case four_words_spot (λ p. i.Slice p.0 p.1.0 p.1.1.0 p.1.1.1.0 p.1.1.1.1) instr_tag instr_payload 14 four_words_spot_lawful (λ _. refl) (λ _. refl),
                              (
                                made_case three_words_spot (λ p. i.Byte p.0 p.1.0 p.1.1.0 p.1.1.1) instr_tag instr_payload 15 three_words_spot_lawful (λ _. refl) (λ _. refl),
                                (
                                  made_case two_words (λ p. i.TextOf p.0 p.1) instr_tag instr_payload 16 two_words_lawful (λ _. refl) (λ _. refl),
                                  (
                                    made_case two_words (λ p. i.IsNum p.0 p.1) instr_tag instr_payload 17 two_words_lawful (λ _. refl) (λ _. refl),
                                    (
                                      made_case two_words_spot (λ p. i.Num p.0 p.1.0 p.1.1) instr_tag instr_payload 18 two_words_spot_lawful (λ _. refl) (λ _. refl),
                                      (
                                        made_case word_bit (λ p. i.Print p.0 p.1) instr_tag instr_payload 19 word_bit_lawful (λ _. refl) (λ _. refl),
                                        (
                                          made_case word (λ p. i.Jump p) instr_tag instr_payload 20 word_lawful (λ _. refl) (λ _. refl),
                                          (
                                            made_case two_words (λ p. i.Unless p.0 p.1) instr_tag instr_payload 21 two_words_lawful (λ _. refl) (λ _. refl),
                                            (
                                              made_case nothing (λ _. i.Tick) instr_tag instr_payload 22 nothing_lawful (λ _. refl) (λ _. refl),
                                              (
                                                made_case two_words_list_spot (λ p. i.Call p.0 p.1.0 p.1.1.0 p.1.1.1) instr_tag instr_payload 23 two_words_list_spot_lawful (λ _. refl) (λ _. refl),
                                                (
                                                  made_case four_words_list_spot (λ p. i.CallM p.0 p.1.0 p.1.1.0 p.1.1.1.0 p.1.1.1.1.0 p.1.1.1.1.1) instr_tag instr_payload 24 four_words_list_spot_lawful (λ _. refl) (λ _. refl),
                                                  (
                                                    made_case four_words_list_spot (λ p. i.CallMLive p.0 p.1.0 p.1.1.0 p.1.1.1.0 p.1.1.1.1.0 p.1.1.1.1.1) instr_tag instr_payload 25 four_words_list_spot_lawful (λ _. refl) (λ _. refl),
                                                    (
                                                      made_case word (λ p. i.Ret p) instr_tag instr_payload 26 word_lawful (λ _. refl) (λ _. refl),
                                                      (
                                                        made_case nothing (λ _. i.RetVoid) instr_tag instr_payload 27 nothing_lawful (λ _. refl) (λ _. refl),
                                                        (
                                                          made_case word_kind_list (λ p. i.Make p.0 p.1.0 p.1.1) instr_tag instr_payload 28 word_kind_list_lawful (λ _. refl) (λ _. refl),
                                                          (
                                                            made_case two_words (λ p. i.Borrow p.0 p.1) instr_tag instr_payload 29 two_words_lawful (λ _. refl) (λ _. refl),
                                                            (
                                                              made_case two_words (λ p. i.Frozen p.0 p.1) instr_tag instr_payload 30 two_words_lawful (λ _. refl) (λ _. refl),
                                                              (
                                                                made_case three_words (λ p. i.LoadOwn p.0 p.1.0 p.1.1) instr_tag instr_payload 31 three_words_lawful (λ _. refl) (λ _. refl),
                                                                (
                                                                  made_case three_words_spot (λ p. i.Load p.0 p.1.0 p.1.1.0 p.1.1.1) instr_tag instr_payload 32 three_words_spot_lawful (λ _. refl) (λ _. refl),
                                                                  (
                                                                    made_case three_words (λ p. i.LoadLive p.0 p.1.0 p.1.1) instr_tag instr_payload 33 three_words_lawful (λ _. refl) (λ _. refl),
                                                                    (
                                                                      made_case three_words_spot (λ p. i.ElemOwn p.0 p.1.0 p.1.1.0 p.1.1.1) instr_tag instr_payload 34 three_words_spot_lawful (λ _. refl) (λ _. refl),
                                                                      (
                                                                        made_case three_words_spot (λ p. i.Elem p.0 p.1.0 p.1.1.0 p.1.1.1) instr_tag instr_payload 35 three_words_spot_lawful (λ _. refl) (λ _. refl),
                                                                        (
                                                                          made_case three_words_spot (λ p. i.ElemLive p.0 p.1.0 p.1.1.0 p.1.1.1) instr_tag instr_payload 36 three_words_spot_lawful (λ _. refl) (λ _. refl),
                                                                          (
                                                                            made_case two_words_spot (λ p. i.Len p.0 p.1.0 p.1.1) instr_tag instr_payload 37 two_words_spot_lawful (λ _. refl) (λ _. refl),
                                                                            (
                                                                              made_case two_words (λ p. i.LenLive p.0 p.1) instr_tag instr_payload 38 two_words_lawful (λ _. refl) (λ _. refl),
                                                                              (
                                                                                made_case four_words (λ p. i.SwapOwn p.0 p.1.0 p.1.1.0 p.1.1.1) instr_tag instr_payload 39 four_words_lawful (λ _. refl) (λ _. refl),
                                                                                (
                                                                                  made_case four_words_spot (λ p. i.Swap p.0 p.1.0 p.1.1.0 p.1.1.1.0 p.1.1.1.1) instr_tag instr_payload 40 four_words_spot_lawful (λ _. refl) (λ _. refl),
                                                                                  (
                                                                                    made_case four_words_spot (λ p. i.SwapElOwn p.0 p.1.0 p.1.1.0 p.1.1.1.0 p.1.1.1.1) instr_tag instr_payload 41 four_words_spot_lawful (λ _. refl) (λ _. refl),
                                                                                    (
                                                                                      made_case four_words_spot (λ p. i.SwapEl p.0 p.1.0 p.1.1.0 p.1.1.1.0 p.1.1.1.1) instr_tag instr_payload 42 four_words_spot_lawful (λ _. refl) (λ _. refl),
                                                                                      (
                                                                                        made_case two_words_spot (λ p. i.Push p.0 p.1.0 p.1.1) instr_tag instr_payload 43 two_words_spot_lawful (λ _. refl) (λ _. refl),
                                                                                        (
                                                                                          made_case two_words_spot (λ p. i.Pop p.0 p.1.0 p.1.1) instr_tag instr_payload 44 two_words_spot_lawful (λ _. refl) (λ _. refl),
                                                                                          (
                                                                                            made_case list_word (λ p. i.Open p.0 p.1) instr_tag instr_payload 45 list_word_lawful (λ _. refl) (λ _. refl),
                                                                                            (
                                                                                              made_case word_spot (λ p. i.Destroy p.0 p.1) instr_tag instr_payload 46 word_spot_lawful (λ _. refl) (λ _. refl),
                                                                                              (
                                                                                                made_case two_words (λ p. i.Merge p.0 p.1) instr_tag instr_payload 47 two_words_lawful (λ _. refl) (λ _. refl),
                                                                                                (
                                                                                                  made_case spot (λ p. i.Freeze p) instr_tag instr_payload 48 spot_lawful (λ _. refl) (λ _. refl),
                                                                                                  (
                                                                                                    made_case two_words (λ p. i.ThawMerge p.0 p.1) instr_tag instr_payload 49 two_words_lawful (λ _. refl) (λ _. refl),
                                                                                                    (
                                                                                                      made_case two_words (λ p. i.ThawKeep p.0 p.1) instr_tag instr_payload 50 two_words_lawful (λ _. refl) (λ _. refl),
                                                                                                      (
                                                                                                        made_case nothing (λ _. i.ThawClear) instr_tag instr_payload 51 nothing_lawful (λ _. refl) (λ _. refl),
                                                                                                        (
                                                                                                          made_case four_words_list_spot (λ p. i.ParRange p.0 p.1.0 p.1.1.0 p.1.1.1.0 p.1.1.1.1.0 p.1.1.1.1.1) instr_tag instr_payload 52 four_words_list_spot_lawful (λ _. refl) (λ _. refl),
                                                                                                          (
                                                                                                            made_case three_words_list_spot (λ p. i.ParEach p.0 p.1.0 p.1.1.0 p.1.1.1.0 p.1.1.1.1) instr_tag instr_payload 53 three_words_list_spot_lawful (λ _. refl) (λ _. refl),
                                                                                                            (made_case two_words_kind (λ p. i.Upcast p.0 p.1.0 p.1.1) instr_tag instr_payload 54 two_words_kind_lawful (λ _. refl) (λ _. refl), tt),
                                                                                                          ),
                                                                                                        ),
                                                                                                      ),
                                                                                                    ),
                                                                                                  ),
                                                                                                ),
                                                                                              ),
                                                                                            ),
                                                                                          ),
                                                                                        ),
                                                                                      ),
                                                                                    ),
                                                                                  ),
                                                                                ),
                                                                              ),
                                                                            ),
                                                                          ),
                                                                        ),
                                                                      ),
                                                                    ),
                                                                  ),
                                                                ),
                                                              ),
                                                            ),
                                                          ),
                                                        ),
                                                      ),
                                                    ),
                                                  ),
                                                ),
                                              ),
                                            ),
                                          ),
                                        ),
                                      ),
                                    ),
                                  ),
                                ),
                              ),
                            ),
                          ),
                        ),
                      ),
                    ),
                  ),
                ),
              ),
            ),
          ),
        ),
      ),
    ),
  ),
)
