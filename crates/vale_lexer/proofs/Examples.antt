-- Texts with their tokens and spots, and with their first faults.
use Rattle.std.proofs.Common.{◌≡◌, ◌≤◌, ◌<◌, ◌+◌, ℕ, zero, suc, List, [], ◌∷◌, ◌++◌, length, replicate, codes, pos, refl, sym, ap, subst, ◌∙◌, arith, append-nil, length-append}
use Rattle.std.proofs.lemmas.List.{length-replicate}
use Rattle.vale_base.specs.declared.spot.Spot.{Spot}
use Rattle.vale_base.specs.Limits.{text_limit}
use Rattle.vale_syntax.specs.Bytes.{Each, is_comment_byte}
use Rattle.vale_syntax.specs.Cut.{Quoted, empty, plain, IsLongest, long_quote, too_large, start, behind, Cuts, none, token, cut, LexFaultAt}
use Rattle.vale_syntax.specs.declared.token.Word.TheVariants as w
use Rattle.vale_syntax.specs.declared.token.Sign.TheVariants as s
use Rattle.vale_syntax.specs.declared.token.Token.{Token}
use Rattle.vale_syntax.specs.declared.token.Tokens.{Tokens}
use Rattle.vale_syntax.specs.declared.token.TokenKind.{TokenKind}
use Rattle.vale_syntax.specs.declared.token.TokenKind.TheVariants as k
use Rattle.vale_lexer.specs.Next.{word_of, scan, next}
use Rattle.vale_lexer.proofs.Goes.{behind_line}
use Rattle.vale_lexer.proofs.Runs.{each_append, quoted_line}
use Rattle.vale_lexer.proofs.Tells.{quote_longest}
use Rattle.vale_lexer.proofs.Walk.{walked}

abbrev spot : ℕ → ℕ → Spot
spot line col = record { line = line; col = col }

-- a token in the first line, and in another
abbrev on : ℕ → ℕ → TokenKind → Token
on line col kind = record { kind = kind; at = spot line col }

abbrev tokens : List Token → Spot → Tokens
tokens list end = record { list = list; end = end }

empty_text : cut [] (tokens [] (spot 1 1))
unfolding next
empty_text = walked 1 []

least_program : cut (codes "func main() { }") (tokens (on 1 1 (k.Word w.Func) ∷ on 1 6 (k.Name (codes "main")) ∷ on 1 10 (k.Sign s.OpenParen) ∷ on 1 11 (k.Sign s.CloseParen) ∷ on 1 13 (k.Sign s.OpenBrace) ∷ on 1 15 (k.Sign s.CloseBrace) ∷ []) (spot 1 16))
unfolding next scan word_of
least_program = walked 16 (codes "func main() { }")

-- "a\n\t\\\"b"
each_escape : cut (34 ∷ 97 ∷ 92 ∷ 110 ∷ 92 ∷ 116 ∷ 92 ∷ 92 ∷ 92 ∷ 34 ∷ 98 ∷ 34 ∷ []) (tokens (on 1 1 (k.Quote (97 ∷ 10 ∷ 9 ∷ 92 ∷ 34 ∷ 98 ∷ [])) ∷ []) (spot 1 13))
unfolding next scan word_of
each_escape = walked 2 (34 ∷ 97 ∷ 92 ∷ 110 ∷ 92 ∷ 116 ∷ 92 ∷ 92 ∷ 92 ∷ 34 ∷ 98 ∷ 34 ∷ [])

comment_at_the_end : cut (codes "a // b") (tokens (on 1 1 (k.Name (codes "a")) ∷ []) (spot 1 7))
unfolding next scan word_of
comment_at_the_end = walked 4 (codes "a // b")

-- a line feed after a comment, a tab and a carriage return
comment_and_lines : cut (codes "//x" ++ 10 ∷ 9 ∷ 98 ∷ 13 ∷ 10 ∷ 99 ∷ []) (tokens (on 2 2 (k.Name (codes "b")) ∷ on 3 1 (k.Name (codes "c")) ∷ []) (spot 3 2))
unfolding next scan word_of
comment_and_lines = walked 8 (codes "//x" ++ 10 ∷ 9 ∷ 98 ∷ 13 ∷ 10 ∷ 99 ∷ [])

range : cut (codes "0..10.") (tokens (on 1 1 (k.Number (pos 0)) ∷ on 1 2 (k.Sign s.DotDot) ∷ on 1 4 (k.Number (pos 10)) ∷ on 1 6 (k.Sign s.Dot) ∷ []) (spot 1 7))
unfolding next scan word_of
range = walked 6 (codes "0..10.")

longest_signs : cut (codes "<=<!=!===>=") (tokens (on 1 1 (k.Sign s.LessEqual) ∷ on 1 3 (k.Sign s.Less) ∷ on 1 4 (k.Sign s.NotEqual) ∷ on 1 6 (k.Sign s.NotEqual) ∷ on 1 8 (k.Sign s.Equal) ∷ on 1 10 (k.Sign s.GreaterEqual) ∷ []) (spot 1 12))
unfolding next scan word_of
longest_signs = walked 8 (codes "<=<!=!===>=")

names_and_words : cut (codes "iffy if _1 1a") (tokens (on 1 1 (k.Name (codes "iffy")) ∷ on 1 6 (k.Word w.If) ∷ on 1 9 (k.Name (codes "_1")) ∷ on 1 12 (k.Number (pos 1)) ∷ on 1 13 (k.Name (codes "a")) ∷ []) (spot 1 14))
unfolding next scan word_of
names_and_words = walked 10 (codes "iffy if _1 1a")

numbers : cut (codes "007 9223372036854775807") (tokens (on 1 1 (k.Number (pos 7)) ∷ on 1 5 (k.Number (pos 9223372036854775807)) ∷ []) (spot 1 24))
unfolding next scan word_of
numbers = walked 4 (codes "007 9223372036854775807")

no_token_at_colon : LexFaultAt (codes "a:b") 2 (spot 1 2)
unfolding next scan word_of
no_token_at_colon = walked 2 (codes "a:b")

no_token_at_sign : LexFaultAt (codes "func main() { @ }") 2 (spot 1 15)
unfolding next scan word_of
no_token_at_sign = walked 20 (codes "func main() { @ }")

large_number : LexFaultAt (codes "func main() { x = 9223372036854775808; }") 3 (spot 1 19)
unfolding next scan word_of
large_number = walked 20 (codes "func main() { x = 9223372036854775808; }")

twenty_digits : LexFaultAt (codes "10000000000000000000") 3 (spot 1 1)
unfolding next scan word_of
twenty_digits = walked 1 (codes "10000000000000000000")

-- func main() { print("a); }
no_end_of_quote : LexFaultAt (codes "func main() { print(" ++ 34 ∷ codes "a); }") 4 (spot 1 21)
unfolding next scan word_of
no_end_of_quote = walked 20 (codes "func main() { print(" ++ 34 ∷ codes "a); }")

-- "a\q and a line feed
no_escape_before_the_line_feed : LexFaultAt (34 ∷ 97 ∷ 92 ∷ 113 ∷ 10 ∷ []) 2 (spot 1 3)
unfolding next scan word_of
no_escape_before_the_line_feed = walked 1 (34 ∷ 97 ∷ 92 ∷ 113 ∷ 10 ∷ [])

-- "a, a line feed and \q"
no_escape_behind_the_line_feed : LexFaultAt (34 ∷ 97 ∷ 10 ∷ 92 ∷ 113 ∷ 34 ∷ []) 4 (spot 1 1)
unfolding next scan word_of
no_escape_behind_the_line_feed = walked 1 (34 ∷ 97 ∷ 10 ∷ 92 ∷ 113 ∷ 34 ∷ [])

-- "a\ and the end
slash_at_the_end : LexFaultAt (34 ∷ 97 ∷ 92 ∷ []) 2 (spot 1 3)
unfolding next scan word_of
slash_at_the_end = walked 1 (34 ∷ 97 ∷ 92 ∷ [])

-- ---- long quotes

quoted_copies : (n : ℕ) → Quoted (replicate n 97) (replicate n 97)
quoted_copies zero = empty
quoted_copies (suc n) = plain refl (quoted_copies n)

abbrev copies_piece : ℕ → List ℕ
copies_piece n = 34 ∷ replicate n 97 ++ 34 ∷ []

copies_longest : (n : ℕ) → IsLongest (copies_piece n) []
copies_longest n = quote_longest (replicate n 97 ++ 34 ∷ []) (replicate n 97) (replicate n 97) [] refl (quoted_copies n)

copies_line : (n : ℕ) → behind start (copies_piece n) ≡ spot 1 (n + 3)
copies_line n =
    let line : Each is_comment_byte (copies_piece n) = (refl, each_append is_comment_byte (replicate n 97) (34 ∷ []) (quoted_line (quoted_copies n)) (refl, tt)) in
    let count : 1 + length (copies_piece n) ≡ n + 3 = omega (arith, length-append {A = ℕ} (replicate n 97) (34 ∷ []), length-replicate {A = ℕ} n 97) in
    behind_line start (copies_piece n) line ∙ ap (spot 1) count

quote_of_copies : (n : ℕ) → n ≤ text_limit → cut (copies_piece n) (tokens (on 1 1 (k.Quote (replicate n 97)) ∷ []) (spot 1 (n + 3)))
quote_of_copies n few =
    let short : length (replicate n 97) ≤ text_limit = omega (arith, length-replicate {A = ℕ} n 97) in
    token (copies_piece n) [] (sym (append-nil (copies_piece n))) ((replicate n 97, refl, quoted_copies n), short) (copies_longest n) refl
    (subst (λ (x : Spot). Cuts (behind start (copies_piece n)) [] [] x []) (copies_line n) none)

too_many_copies : (n : ℕ) → text_limit < n → LexFaultAt (copies_piece n) 3 start
too_many_copies n many =
    let long : text_limit < length (replicate n 97) = omega (arith, length-replicate {A = ℕ} n 97) in
    record {
      before = [];
      from = start;
      rest = copies_piece n;
      cuts = none;
      wrong = too_large (copies_piece n) [] (sym (append-nil (copies_piece n))) (long_quote (replicate n 97) (replicate n 97, refl, quoted_copies n) long) (copies_longest n);
    }

longest_quote : cut (copies_piece 65536) (tokens (on 1 1 (k.Quote (replicate 65536 97)) ∷ []) (spot 1 65539))
longest_quote = quote_of_copies 65536 (omega arith)

too_long_quote : LexFaultAt (copies_piece 65537) 3 start
too_long_quote = too_many_copies 65537 (omega arith)
