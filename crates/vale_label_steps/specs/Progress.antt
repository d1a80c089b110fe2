-- How far the labels of a function have come.
use Rattle.std.specs.Prelude.{ℕ, ◌+◌, List, ◌++◌, length}
use Rattle.vale_cert.specs.declared.facts.Label.{Label}
use Rattle.vale_lower_facts.specs.Slots.{Last}
use Rattle.vale_lower_facts.specs.Marks.{Marks, labels_from}
use Rattle.vale_label_steps.specs.declared.labels.Labels.{Labels}

-- the labels so far and the place of the next instruction, in a function with so many registers and this last one
pub record Progress : Type 0 where
  pub last : Last
  pub registers : ℕ
  pub labels : List Label
  pub place : ℕ

unfoldable pub progress : Labels → Progress
progress l = record { last = record { register = l.last; ty = l.result_type }; registers = l.registers; labels = l.labels.items; place = l.place }

-- after instructions with these marks
unfoldable pub with_marks : Marks → Progress → Progress
with_marks ms p = record { last = p.last; registers = p.registers; labels = p.labels ++ labels_from p.last p.registers p.place ms; place = p.place + length ms }
