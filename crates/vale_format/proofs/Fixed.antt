-- What is formatted once stays as it is.
use Rattle.std.proofs.Common.{◌≡◌, ℕ, List, sym, ap, subst, ◌∙◌}
use Rattle.vale_syntax.specs.Canon.{canon}
use Rattle.vale_syntax.specs.Cut.{cut}
use Rattle.vale_syntax.specs.Round.{IsReadBack}
use Rattle.vale_syntax.specs.Tree.{Tree}
use Rattle.vale_format.specs.Format.{IsFormatOf, IsFixed}
use Rattle.vale_format.proofs.Round.{read_back}

fixed_by : (t : Tree) (text : List ℕ) → text ≡ canon t → IsReadBack t → IsFixed text
fixed_by t text e r =
    let same : text ≡ canon r.tree = e ∙ sym r.fixed in
    record {
      itself = record { tokens = r.tokens; tree = r.tree; cuts = subst (λ (z : List ℕ). cut z r.tokens) (sym e) r.cuts; spelled = r.spelled; canonical = same };
      only = λ other f.
          let one = r.only f.tokens f.tree (subst (λ (z : List ℕ). cut z f.tokens) e f.cuts) f.spelled in
          f.canonical ∙ (ap canon one.1 ∙ sym same);
    }

pub formatted_fixed : (source text : List ℕ) → IsFormatOf source text → IsFixed text
formatted_fixed source text f = fixed_by f.tree text f.canonical (read_back source f.tokens f.tree f.cuts f.spelled)
