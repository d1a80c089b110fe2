-- The input that a run may have.
use Rattle.std.specs.Prelude.{◌≡◌, ℕ, Bool, true, ◌&&◌, nat_le, List, length, Ok}
use Rattle.std.specs.List.{list_all}
use Rattle.vale_base.specs.Limits.{width_limit}
use Rattle.vale_state_spec.specs.State.{Given, no_input, numbers, lines}
use Rattle.vale_syntax.specs.Bytes.{is_byte}
use Rattle.vale_text.specs.Operations.{is_int}
use Rattle.vale_model.specs.Input.{Form, taken}
use Rattle.vale_lowering.specs.Texts.{is_lawful_text}

-- Its numbers are ints, its lines are texts that a `str` may have, and there are no more of them than an array may have.
abbrev pub is_lawful_input : Given → Bool
is_lawful_input no_input = true
is_lawful_input (numbers zs) = list_all is_int zs && nat_le (length zs) width_limit
is_lawful_input (lines texts) = list_all is_lawful_text texts && nat_le (length texts) width_limit

-- What `main` takes from bytes is lawful, whatever form it has.
abbrev pub TakesLawfulInput : Type 0
TakesLawfulInput = (form : Form) (bytes : List ℕ) (input : Given) → list_all is_byte bytes ≡ true → taken form bytes ≡ Ok input → is_lawful_input input ≡ true
