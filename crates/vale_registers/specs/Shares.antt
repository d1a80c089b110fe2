-- Shares as the texts that they are of.
use Rattle.std.specs.Prelude.{◌≡◌, ◌<◌, ℕ, List, [], length, map}
use Rattle.vale_registers.specs.Texts.{text_at}
use Rattle.vale_registers.specs.declared.row.Share.{Share}
use Rattle.vale_registers.specs.declared.row.Share.TheVariants as share

abbrev pub share_text : Share → List ℕ
share_text share.Blank = []
share_text (share.Of rc) = rc.value

abbrev pub texts_in : List Share → List (List ℕ)
texts_in shares = map share_text shares

-- there is a text of a register, and none is another
pub record IsReached (register : ℕ) (old new : List Share) : Type 0 where
  pub long : register < length new
  pub same : (i : ℕ) → text_at (texts_in new) i ≡ text_at (texts_in old) i
