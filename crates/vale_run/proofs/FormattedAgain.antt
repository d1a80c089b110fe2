-- `fmt` of what `fmt` printed prints the same.
use Rattle.std.proofs.Common.{◌≡◌, ◌≤◌, ℕ, List, [], length, refl, sym, ap, subst, ◌∙◌, arith}
use Rattle.vale_base.specs.Limits.{program_limit}
use Rattle.vale_base.specs.declared.spot.Spot.{Spot}
use Rattle.vale_syntax.specs.Canon.{canon}
use Rattle.vale_syntax.specs.Grammar.{spells}
use Rattle.vale_syntax.specs.declared.token.Tokens.{Tokens}
use Rattle.vale_lexer.proofs.OneCut.{one_tokens}
use Rattle.vale_format.specs.Format.{IsFixed}
use Rattle.vale_format.proofs.Fixed.{formatted_fixed}
use Rattle.vale_run.specs.Formatted.{StaysFormatted}
use Rattle.vale_front.specs.Front.{Unread, too_long, no_tokens, no_tree}
use Rattle.vale_run.specs.Effects.{Effect, prints}
use Rattle.vale_run.specs.Means.{FormatsTo, refused_format, formats}

-- a text that is its own canonical text isn't refused
not_refused : (out : List ℕ) → length out ≤ program_limit → IsFixed out → (code : ℕ) (at : Spot) → Unread out code at → ⊥
not_refused out within f code at (too_long l c s) = omega arith
not_refused out within f code at (no_tokens l none e) = none f.itself.tokens f.itself.cuts
not_refused out within f code at (no_tree l tokens cuts none e) =
    let one : tokens ≡ f.itself.tokens = one_tokens out tokens f.itself.tokens cuts f.itself.cuts in
    none f.itself.tree (subst (λ (z : Tokens). spells f.itself.tree z.list) (sym one) f.itself.spelled)

printed_again : (out : List ℕ) → length out ≤ program_limit → IsFixed out → FormatsTo out (prints out)
printed_again out within f =
    formats f.itself.tree (record { within = within; tokens = f.itself.tokens; cuts = f.itself.cuts; spelled = f.itself.spelled }) (ap prints f.itself.canonical)

printed_alone : (out : List ℕ) → length out ≤ program_limit → IsFixed out → (e : Effect) → FormatsTo out e → e ≡ prints out
printed_alone out within f e (refused_format code at why is) = absurd (not_refused out within f code at why)
printed_alone out within f e (formats t reads is) =
    is ∙ ap prints (f.only (canon t) (record { tokens = reads.tokens; tree = t; cuts = reads.cuts; spelled = reads.spelled; canonical = refl }))

-- what is printed
printed_bytes : Effect → List ℕ
printed_bytes (prints out) = out
printed_bytes _ = []

pub stays_formatted : StaysFormatted
unfolding printed_bytes
stays_formatted text out (refused_format code at why is) within = absurd (cc is)
stays_formatted text out (formats t reads is) within =
    let f : IsFixed out = formatted_fixed text out (record { tokens = reads.tokens; tree = t; cuts = reads.cuts; spelled = reads.spelled; canonical = ap printed_bytes is }) in
    (printed_again out within f, printed_alone out within f)
