use Rattle.std.proofs.Common.{◌≡◌, ◌≤◌, ◌^◌, take, true}
use Rattle.std.specs.Str.Parse.{digits_value}
use Rattle.std.specs.List.{list_all}
use Rattle.vale_text.specs.Operations.{is_digit}
use Rattle.vale_text.proofs.numerals.size.Given as goal

abbrev pub invariant-loop-digit : goal.invariant-loop-digit
invariant-loop-digit l = record {
  small : l.size ≤ 2 ^ 63;
  same : l.size ≡ digits_value 10 (take l.digit-index l.digits);
  digits : list_all is_digit (take l.digit-index l.digits) ≡ true;
}
