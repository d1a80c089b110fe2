-- Functions and methods are called: what is held after it is as the certificate knows.
use Rattle.std.proofs.Common.{◌≡◌, ℕ, ◌+◌, List, ◌∷◌, map, Option, Some, None, Bool, true, false, ◌==◌, refl, sym, ap, ◌∙◌, subst, arith}
use Rattle.std.specs.Prelude.{slice_get}
use Rattle.std.proofs.lemmas.Bool.{and_parts}
use Rattle.vale_state_spec.specs.State.{State}
use Rattle.vale_state_spec.specs.World.{Value}
use Rattle.vale_base.specs.declared.spot.Spot.{Spot}
use Rattle.vale_code.specs.Act.{act}
use Rattle.vale_code.specs.Enter.{Form, Plain, form_of, if_called, enter}
use Rattle.vale_code.specs.Frames.{Running, Config, Next}
use Rattle.vale_code.specs.Instructions.{behind, with_read}
use Rattle.vale_code.specs.Kinds.{result_to, text_at}
use Rattle.vale_code.specs.Parts.{Parts}
use Rattle.vale_code.specs.Registers.{Registers, Read, give_all}
use Rattle.vale_code.specs.declared.func.Func.{Func}
use Rattle.vale_code.specs.declared.instr.Instr.TheVariants as i
use Rattle.vale_code.specs.declared.ty.Ty.{Ty}
use Rattle.vale_code.specs.declared.ty.Ty.TheVariants as t
use Rattle.vale_cert.specs.Certificate.{Certified}
use Rattle.vale_cert.specs.Known.{fact_of, is_free}
use Rattle.vale_cert.specs.Rules as rules
use Rattle.vale_cert.specs.Rules.{Effect, comes_back, passes_all, all_fine}
use Rattle.vale_cert.specs.Walk.{goes_on}
use Rattle.vale_cert.specs.declared.facts.FuncFacts.{FuncFacts}
use Rattle.vale_cert.specs.declared.facts.RegFact.TheVariants.{Held}
use Rattle.vale_cert.proofs.Going.{Place, row, fits_here}
use Rattle.vale_region_laws.specs.Holding.{Marks, in_frames}
use Rattle.vale_region_laws.specs.Regions.{Each, NoDeeper}
use Rattle.vale_region_laws.specs.Regions as how
use Rattle.vale_region_laws.proofs.Leaving.{rest_stands, waits_here}
use Rattle.vale_region_laws.proofs.Passing.{all_pass}
use Rattle.vale_region_laws.proofs.Standing.{standing_no_deeper}
use Rattle.vale_region_cert.specs.Joined.{RegionsFit, RegionsNext}
use Rattle.vale_region_cert.specs.Told.{held_by_type, IsTold, Told, passed_as, resumed}
use Rattle.vale_region_cert.proofs.Around.{marks, hs, base, told_here, deep_here, waits}
use Rattle.vale_region_cert.proofs.Frames.{with_known, enters, same_func}
use Rattle.vale_region_cert.proofs.Giving.{giving}
use Rattle.vale_region_cert.proofs.Told.{told_set}

passed_told : (ty : Ty) (a c : ℕ) → a ≡ c → IsTold (held_by_type ty a) (Some (passed_as c ty))
passed_told t.Void a c e = tt
passed_told t.Int a c e = tt
passed_told t.Truth a c e = tt
passed_told t.Text a c e = tt
passed_told (t.Own k) a c e = sym (ap (λ a. Some (how.Held a)) e)
passed_told (t.Ref k) a c e = sym (ap (λ a. Some (how.Held a)) e)
passed_told (t.Iso k) a c e = sym (ap (λ a. Some (how.Held a)) e)
passed_told (t.Frozen k) a c e = sym (ap (λ a. Some (how.Seen a)) e)

-- what is known once the result of a call has come
pub back_told : (b depth c : ℕ) → b + depth ≡ c → (rt : Ty) (to : ℕ) (R : Effect) (ns : Marks) → Told b R.after ns → Told b (comes_back depth rt to R).after (resumed (result_to rt to) rt c ns)
back_told b depth c deep t.Void to R ns k = k
back_told b depth c deep t.Int to R ns k = told_set b R.after ns to (Held t.Int depth false) (Some (how.Held c)) (passed_told t.Int (b + depth) c deep) k
back_told b depth c deep t.Truth to R ns k = told_set b R.after ns to (Held t.Truth depth false) (Some (how.Held c)) (passed_told t.Truth (b + depth) c deep) k
back_told b depth c deep t.Text to R ns k = told_set b R.after ns to (Held t.Text depth false) (Some (how.Held c)) (passed_told t.Text (b + depth) c deep) k
back_told b depth c deep (t.Own q) to R ns k = told_set b R.after ns to (Held (t.Own q) depth false) (Some (how.Held c)) (passed_told (t.Own q) (b + depth) c deep) k
back_told b depth c deep (t.Ref q) to R ns k = told_set b R.after ns to (Held (t.Ref q) depth false) (Some (how.Held c)) (passed_told (t.Ref q) (b + depth) c deep) k
back_told b depth c deep (t.Iso q) to R ns k = told_set b R.after ns to (Held (t.Iso q) depth false) (Some (how.Held c)) (passed_told (t.Iso q) (b + depth) c deep) k
back_told b depth c deep (t.Frozen q) to R ns k = told_set b R.after ns to (Held (t.Frozen q) depth false) (Some (how.Seen c)) (passed_told (t.Frozen q) (b + depth) c deep) k

pub back_kept : (depth : ℕ) (rt : Ty) (to : ℕ) (R : Effect) → (comes_back depth rt to R).kept.types ≡ true → (comes_back depth rt to R).kept.present ≡ true → (comes_back depth rt to R).kept.depths ≡ true → (R.kept.types ≡ true) × (R.kept.present ≡ true) × (R.kept.depths ≡ true)
back_kept depth t.Void to R e g q = (e, g, q)
back_kept depth rt to R e g q = (e, (and_parts R.kept.present (is_free (fact_of R.after to)) g).0, q)

module _ (code : Parts) (facts : List FuncFacts) (cert : Certified code facts) (last : Config → State) (P : Place code facts) (x : RegionsFit code facts (record { top = Running P.f; below = P.below; state = P.s })) where
  open P use {ty, f, below, s, F, under_it, heap, owned, instr, instrs, here, S}

  abbrev ms : Marks
  ms = marks code facts P x

  abbrev b : ℕ
  b = base code facts P x

  pub low : Each (NoDeeper s.regions) (in_frames x.fits.marks below)
  low = standing_no_deeper s.regions s.regions s.regions (omega arith) (in_frames x.fits.marks below) (rest_stands code last f below s x.fits)

  read_is : (y : Option Read) (r : Read) (go : List Value → Registers → Next) → y ≡ Some r → RegionsNext code facts (go r.values r.after) → RegionsNext code facts (with_read y s go)
  read_is y r go e h = subst (λ y. RegionsNext code facts (with_read y s go)) (sym e) h

  abbrev calls_it : ℕ → ℕ → List ℕ → Spot → Form → Func → Next
  calls_it to g args at form func = if_called form s (with_read (give_all func.params args f.registers) s (λ vs regs.
      enter g form func (record { what = text_at code func.name; at = at }) (result_to func.result to) vs (behind f regs ∷ below) s))

  called_plain : goes_on instr ≡ true → (to g : ℕ) (args : List ℕ) (at : Spot) (func : Func) → slice_get code.funcs g ≡ Some func → form_of func.form ≡ Some Plain
      → (comes_back S.known.depth func.result to (passes_all S.known.depth func.params args (all_fine S.known.regs))).kept.types ≡ true
      → (comes_back S.known.depth func.result to (passes_all S.known.depth func.params args (all_fine S.known.regs))).kept.present ≡ true
      → (comes_back S.known.depth func.result to (passes_all S.known.depth func.params args (all_fine S.known.regs))).kept.depths ≡ true
      → (row code facts P).after ≡ (comes_back S.known.depth func.result to (passes_all S.known.depth func.params args (all_fine S.known.regs))).after
      → RegionsNext code facts (calls_it to g args at Plain func)
  called_plain on to g args at func found is e g' q after =
      let R = passes_all S.known.depth func.params args (all_fine S.known.regs) in
      let kept = back_kept S.known.depth func.result to R e g' q in
      let give = giving code s.world b S.known.depth s.regions (deep_here code facts P x) func.params args (all_fine S.known.regs) ms f.registers (fits_here code facts P) (told_here code facts P x) x.fits.stack.0 kept.0 kept.1 kept.2 in
      let all = all_pass s false func.params args ms f.registers (map (passed_as s.regions) func.params) give.values give.marks give.after x.fits.home (hs code facts P x) give.pass x.fits.stack.0 low x.fits.fits in
      read_is (give_all func.params args f.registers) (record { values = give.values; after = give.after }) _ all.given
      (enters code facts cert g Plain func (record { what = text_at code func.name; at = at }) (result_to func.result to) give.values (behind f give.after ∷ below) s all.home_after (record { depth = s.regions; marks = give.marks } ∷ x.fits.marks) found is tt refl
      (waits_here code last f below s x.fits give.marks give.after all.marks) all.fits
      (waits code facts P x on (result_to func.result to) func.result give.marks give.after
      (subst (λ K. Told b K (resumed (result_to func.result to) func.result s.regions give.marks)) (sym after) (back_told b S.known.depth s.regions (deep_here code facts P x) func.result to R give.marks give.told))))

  by_form : goes_on instr ≡ true → (to g : ℕ) (args : List ℕ) (at : Spot) (func : Func) → slice_get code.funcs g ≡ Some func → (form : Form) → form_of func.form ≡ Some form → (b : Bool) → (func.form == 0) ≡ b
      → (rules.call_by_form b S.known.depth S.known.regs func to args).kept.types ≡ true → (rules.call_by_form b S.known.depth S.known.regs func to args).kept.present ≡ true → (rules.call_by_form b S.known.depth S.known.regs func to args).kept.depths ≡ true
      → (row code facts P).after ≡ (rules.call_by_form b S.known.depth S.known.regs func to args).after → RegionsNext code facts (calls_it to g args at form func)
  by_form on to g args at func found form is false z e g' q after = let y : ⊥ = cc in absurd y
  by_form on to g args at func found form is true z e g' q after =
      let plain : func.form ≡ 0 = grind arith in
      let q1 : Some Plain ≡ Some form = sym (ap form_of plain) ∙ is in
      let same : Plain ≡ form = cc in
      subst (λ form. RegionsNext code facts (calls_it to g args at form func)) same (called_plain on to g args at func found (ap form_of plain) e g' q after)

  pub calling : goes_on instr ≡ true → (to g : ℕ) (args : List ℕ) (at : Spot) (o : Option Func) → slice_get code.funcs g ≡ o
      → (rules.calls S.known.depth S.known.regs o to args).kept.types ≡ true → (rules.calls S.known.depth S.known.regs o to args).kept.present ≡ true → (rules.calls S.known.depth S.known.regs o to args).kept.depths ≡ true
      → (row code facts P).after ≡ (rules.calls S.known.depth S.known.regs o to args).after → RegionsNext code facts (act code last f below s (i.Call to g args at))
  calling on to g args at None found e g' q after = let y : ⊥ = cc in absurd y
  calling on to g args at (Some callee) found e g' q after = with_known code facts g s _ (λ form func is_func is.
      subst (λ func. RegionsNext code facts (calls_it to g args at form func)) (same_func code g callee func found is_func)
      (by_form on to g args at callee found form (subst (λ func. form_of func.form ≡ Some form) (sym (same_func code g callee func found is_func)) is) (callee.form == 0) refl e g' q after))
