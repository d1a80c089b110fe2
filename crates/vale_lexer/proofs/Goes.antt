-- How far a text is cut.
use Rattle.std.proofs.Common.{◌≡◌, ◌<◌, ◌≤◌, ◌+◌, ◌-◌, ◌^◌, ℕ, suc, Bool, true, false, cond, eqb, not, List, [], ◌∷◌, ◌++◌, length, drop, refl, sym, ap, subst, ◌∙◌, arith, append_assoc, append-nil, add-zero, length-append}
use Rattle.std.proofs.Math.Seq.{drop-append_seam}
use Rattle.vale_base.specs.declared.spot.Spot.{Spot}
use Rattle.vale_syntax.specs.Bytes.{Each, is_comment_byte}
use Rattle.vale_syntax.specs.Cut.{IsGap, IsLongest, IsWrong, step, behind, start, Cuts, none, gap, token, cut, LexFaultAt}
use Rattle.vale_syntax.specs.declared.token.Token.{Token}
use Rattle.vale_lexer.specs.declared.pieces.Piece.{Piece}
use Rattle.vale_lexer.specs.declared.pieces.Piece.TheVariants as p
use Rattle.vale_lexer.specs.Next.{next}
use Rattle.vale_lexer.proofs.Sorted.{Means-piece, IsGap-piece, IsPiece-some}
use Rattle.vale_lexer.proofs.Tells.{IsFront, Tells, next_tells}

-- the text is cut into these tokens up to a place: what cuts the rest cuts the text
pub record Goes (text : List ℕ) (list : List Token) (at : Spot) (rest : List ℕ) : Type 0 where
  pub sound : (ts : List Token) (end : Spot) (left : List ℕ) → Cuts at rest ts end left → Cuts start text (list ++ ts) end left

-- the spot so many bytes further in the line
abbrev pub along : Spot → ℕ → Spot
along at n = record { line = at.line; col = at.col + n }

step_line : (at : Spot) (b : ℕ) (t : Bool) → eqb b 10 ≡ t → is_comment_byte b ≡ true → step at b ≡ along at 1
step_line at b true e is = let never : false ≡ true = ap not (sym e) ∙ is in absurd cc
step_line at b false e is = rw e refl

pub behind_line : (at : Spot) (piece : List ℕ) → Each is_comment_byte piece → behind at piece ≡ along at (length piece)
behind_line at [] each = ap (λ (c : ℕ). let s : Spot = record { line = at.line; col = c } in s) (sym (add-zero at.col))
behind_line at (b ∷ piece) each =
    let sum : (at.col + 1) + length piece ≡ at.col + suc (length piece) = omega arith in
    ap (λ (x : Spot). behind x piece) (step_line at b (eqb b 10) refl each.0)
    ∙ (behind_line (along at 1) piece each.1 ∙ ap (λ (c : ℕ). let s : Spot = record { line = at.line; col = c } in s) sum)

pub Goes-start : (text : List ℕ) → Goes text [] start text
Goes-start text = record { sound = λ ts end left c. c }

-- after one byte that is a blank
pub record Blanked (text : List ℕ) (list : List Token) (at : Spot) (rest : List ℕ) (b : ℕ) : Type 0 where
  pub goes : Goes text list (step at b) (drop 1 rest)
  pub within : 1 ≤ length rest

blanked_by : (text : List ℕ) (list : List Token) (at : Spot) (rest : List ℕ) (b : ℕ) (after : List ℕ) → rest ≡ b ∷ after → IsGap (b ∷ []) → IsLongest (b ∷ []) after → Goes text list at rest → Blanked text list at rest b
blanked_by text list at rest b after e g lg goes =
    subst (λ (r : List ℕ). Goes text list at r → Blanked text list at r b) (sym e)
    (λ h. record { goes = record { sound = λ ts end left c. h.sound ts end left (gap (b ∷ []) after refl g lg c) }; within = omega arith }) goes

pub Goes-blank : (text : List ℕ) (list : List Token) (at : Spot) (rest : List ℕ) (b : ℕ) → Goes text list at rest → p.Blank b ≡ next rest → Blanked text list at rest b
Goes-blank text list at rest b goes e =
    let (after, whole, g, lg) = subst (λ (x : Piece). Tells rest x) (sym e) (next_tells rest) in
    blanked_by text list at rest b after whole g lg goes

-- after so many bytes of one line
pub record Passed (text : List ℕ) (list : List Token) (at : Spot) (rest : List ℕ) (n : ℕ) : Type 0 where
  pub goes : Goes text list (along at n) (drop n rest)
  pub within : n ≤ length rest
  pub some : 0 < n

passed_by : (text : List ℕ) (list : List Token) (at : Spot) (rest : List ℕ) (n : ℕ) (f : IsFront rest n) → 0 < length f.piece
    → ((ts : List Token) (end : Spot) (left : List ℕ) → Cuts (behind at f.piece) f.after ts end left → Cuts start text (list ++ ts) end left) → Passed text list at rest n
passed_by text list at rest n f some sound =
    let spot : behind at f.piece ≡ along at n = behind_line at f.piece f.line ∙ ap (along at) f.count in
    let after : drop n rest ≡ f.after = ap (λ (m : ℕ). drop m rest) (sym f.count) ∙ (ap (λ (r : List ℕ). drop (length f.piece) r) f.whole ∙ drop-append_seam f.piece f.after) in
    record {
      goes = record { sound = λ ts end left c. sound ts end left (subst (λ (x : Spot). Cuts x f.after ts end left) (sym spot) (subst (λ (r : List ℕ). Cuts (along at n) r ts end left) after c)) };
      within = omega (arith, f.count, ap length f.whole, length-append f.piece f.after);
      some = omega (arith, f.count, some);
    }

pub Goes-comment : (text : List ℕ) (list : List Token) (at : Spot) (rest : List ℕ) (n : ℕ) → Goes text list at rest → p.Comment n ≡ next rest → Passed text list at rest n
Goes-comment text list at rest n goes e =
    let (f, g, lg) = subst (λ (x : Piece). Tells rest x) (sym e) (next_tells rest) in
    passed_by text list at rest n f (IsPiece-some f.piece (IsGap-piece f.piece g)) (λ ts end left c. goes.sound ts end left (gap f.piece f.after f.whole g lg c))

pub Goes-token : (text : List ℕ) (list : List Token) (at : Spot) (rest : List ℕ) (n : ℕ) (t : Token) → Goes text list at rest → p.Token t.kind n ≡ next rest → t.at ≡ at → Passed text (list ++ t ∷ []) at rest n
Goes-token text list at rest n t goes e s =
    let (f, m, lg) = subst (λ (x : Piece). Tells rest x) (sym e) (next_tells rest) in
    passed_by text (list ++ t ∷ []) at rest n f (IsPiece-some f.piece (Means-piece f.piece t.kind m))
    (λ ts end left c. rw (append_assoc list (t ∷ []) ts) (goes.sound (t ∷ ts) end left (token f.piece f.after f.whole m lg s c)))

-- at the end these are the tokens
pub Goes-end : (text : List ℕ) (list : List Token) (at : Spot) (rest : List ℕ) → Goes text list at rest → p.End ≡ next rest → cut text (record { list = list; end = at })
Goes-end text list at rest goes e =
    let nil : rest ≡ [] = subst (λ (x : Piece). Tells rest x) (sym e) (next_tells rest) in
    rw append-nil at (goes.sound [] at [] (subst (λ (r : List ℕ). Cuts at r [] at []) (sym nil) none))

-- where something is wrong it is the text's first fault
pub record Faulted (text : List ℕ) (at : Spot) (rest : List ℕ) (code n : ℕ) : Type 0 where
  pub fault : LexFaultAt text code (along at n)
  pub within : n ≤ length rest

pub Goes-fault : (text : List ℕ) (list : List Token) (at : Spot) (rest : List ℕ) (code n : ℕ) → Goes text list at rest → p.Fault code n ≡ next rest → Faulted text at rest code n
Goes-fault text list at rest code n goes e =
    let (f, wrong) = subst (λ (x : Piece). Tells rest x) (sym e) (next_tells rest) in
    let spot : behind at f.piece ≡ along at n = behind_line at f.piece f.line ∙ ap (along at) f.count in
    record {
      fault = record { before = list ++ []; from = at; rest = rest; cuts = goes.sound [] at rest none; wrong = subst (λ (x : Spot). IsWrong at rest code x) spot (wrong at) };
      within = omega (arith, f.count, ap length f.whole, length-append f.piece f.after);
    }

-- after a byte the lines and columns are still few
pub record Few (at : Spot) (n : ℕ) : Type 0 where
  pub lines : at.line + (n - 1) < 2 ^ 32
  pub cols : at.col + (n - 1) < 2 ^ 32

few_by : (at : Spot) (n : ℕ) (t : Bool) → 1 ≤ n → at.line + n < 2 ^ 32 → at.col + n < 2 ^ 32
    → Few (cond t (record { line = at.line + 1; col = 1 }) (record { line = at.line; col = at.col + 1 })) n
few_by at n true some lines cols = record { lines = omega arith; cols = omega arith }
few_by at n false some lines cols = record { lines = omega arith; cols = omega arith }

pub step_few : (at : Spot) (b n : ℕ) → 1 ≤ n → at.line + n < 2 ^ 32 → at.col + n < 2 ^ 32 → Few (step at b) n
step_few at b n some lines cols = few_by at n (eqb b 10) some lines cols
