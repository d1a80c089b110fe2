-- A slice of bytes is a text of bytes.
use Rattle.std.proofs.Common.{◌≡◌, ◌<◌, ℕ, suc, List, [], ◌∷◌, get_or, true, refl, ap, ◌∙◌, arith}
use Rattle.std.specs.Prelude.{◌&&◌}
use Rattle.std.specs.List.{list_all}
use Rattle.vale_syntax.specs.Bytes.{is_byte}

pub all_bytes : (text : List ℕ) → ((k : ℕ) → get_or text k 0 < 256) → list_all is_byte text ≡ true
all_bytes [] h = refl
all_bytes (b ∷ bs) h =
    let first : is_byte b ≡ true = grind (arith, h 0) in
    ap (λ x. x && list_all is_byte bs) first ∙ all_bytes bs (λ k. h (suc k))
