-- What is said by an answer that is the first fault or none.
use Rattle.std.proofs.Common.{◌≡◌, refl}
use Rattle.std.specs.Prelude.{Result, Ok, Err, OnOk, IfErr}
use Rattle.vale_syntax.specs.declared.fault.Fault.{Fault}
use Rattle.vale_rules_spec.specs.Judged.{Judged, fine, faulty, first, IsFine, IsFirstFault}

pub ok_is_fine : (j : Judged (Unit {0})) (r : Result (Unit {0}) Fault) → r ≡ first j → OnOk r (IsFine j tt)
ok_is_fine (fine a) (Ok x) e = refl
ok_is_fine (faulty f fs) (Ok x) e = cc
ok_is_fine j (Err f) e = tt

pub fault_is_first : (j : Judged (Unit {0})) (r : Result (Unit {0}) Fault) → r ≡ first j → IfErr r (λ f. IsFirstFault j f)
fault_is_first j (Ok x) e = tt
fault_is_first (fine a) (Err f) e = cc
fault_is_first (faulty g gs) (Err f) e = cc
