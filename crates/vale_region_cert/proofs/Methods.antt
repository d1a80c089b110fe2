-- A method is called: its object's function gets the object, and the other arguments.
use Rattle.std.proofs.Common.{◌≡◌, ℕ, List, [], ◌∷◌, map, Option, Some, None, Bool, true, false, not, ◌&&◌, ◌==◌, refl, sym, ap, ◌∙◌, subst, arith}
use Rattle.std.specs.Prelude.{slice_get}
use Rattle.std.proofs.lemmas.Bool.{and_parts}
use Rattle.vale_state_spec.specs.State.{State, name_of, found_or_dead, look_up, look}
use Rattle.vale_state_spec.specs.World.{Value, Ref, Object}
use Rattle.vale_base.specs.declared.name.Kind.{Kind}
use Rattle.vale_base.specs.declared.spot.Spot.{Spot}
use Rattle.vale_base.specs.declared.trap.TrapKind.TheVariants.{DeadReference}
use Rattle.vale_code.specs.Act.{act, on_looked, without_first, call_of_object}
use Rattle.vale_code.specs.Enter.{Form, Plain, form_of, if_called, enter}
use Rattle.vale_code.specs.Frames.{Running, Config, Next, trap}
use Rattle.vale_code.specs.Instructions.{behind, with_read, with_value, with_choice}
use Rattle.vale_code.specs.Kinds.{kind_of, method_in, result_to, text_at, same_type}
use Rattle.vale_code.specs.Parts.{Parts}
use Rattle.vale_code.specs.Registers.{Read, read, and_then, given_value, after_giving, give_all, as_frozen, named}
use Rattle.vale_code.specs.declared.func.Func.{Func}
use Rattle.vale_code.specs.declared.func.Impl.{Impl}
use Rattle.vale_code.specs.declared.instr.Instr.TheVariants as i
use Rattle.vale_code.specs.declared.kind.MethodInfo.{MethodInfo}
use Rattle.vale_code.specs.declared.ty.Ty.{Ty}
use Rattle.vale_code.specs.declared.ty.Ty.TheVariants as t
use Rattle.vale_cert.specs.Certificate.{Certified}
use Rattle.vale_cert.specs.Known.{fact_of, is_there, has}
use Rattle.vale_cert.specs.Numbers.{method_from}
use Rattle.vale_cert.specs.Objects.{method_of}
use Rattle.vale_cert.specs.Rules as rules
use Rattle.vale_cert.specs.Rules.{Effect, comes_back, passes_all, passed, all_fine, finds_alive, gives_frozen, is_usable}
use Rattle.vale_cert.specs.Shape.{receives, same_params, same_types, implements_method, form_for, takes_receiver}
use Rattle.vale_cert.specs.Walk.{goes_on}
use Rattle.vale_cert.specs.declared.facts.FuncFacts.{FuncFacts}
use Rattle.vale_cert.proofs.Arguments.{passes_kept}
use Rattle.vale_cert.proofs.Calls.{Received, received_ref, received_frozen, sees_interface}
use Rattle.vale_cert.proofs.Fit.{value_has, type_is, reg_value}
use Rattle.vale_cert.proofs.Going.{Place, row}
use Rattle.vale_cert.proofs.Heap.{object_at}
use Rattle.vale_cert.proofs.KindLaws.{receiver, method_found, types_are}
use Rattle.vale_cert.proofs.Reading.{found_fits}
use Rattle.vale_region_laws.specs.Configs.{in_args}
use Rattle.vale_region_laws.specs.Holding.{Marks, in_registers}
use Rattle.vale_region_laws.proofs.Leaving.{waits_here}
use Rattle.vale_region_laws.proofs.Passing.{All, all_pass}
use Rattle.vale_region_laws.proofs.States.{FitsAt}
use Rattle.vale_region_cert.specs.Joined.{FramesTold, RegionsFit, RegionsNext}
use Rattle.vale_region_cert.specs.Told.{Told, passed_as, resumed}
use Rattle.vale_region_cert.proofs.Around.{marks, hs, base, deep_here, waits}
use Rattle.vale_region_cert.proofs.Calls.{back_told, back_kept, low}
use Rattle.vale_region_cert.proofs.Frames.{with_known, enters}
use Rattle.vale_region_cert.proofs.Giving.{Gives, giving}
use Rattle.vale_region_cert.proofs.Reading.{found_told}

and_then_parts : (u : Value) (A : Option Read) (r : Read) → and_then (Some u) A ≡ Some r → (vs : List Value) × (A ≡ Some (record { values = vs; after = r.after })) × (r.values ≡ u ∷ vs)
and_then_parts u None r e = let y : ⊥ = cc in absurd y
and_then_parts u (Some q) r e = let y : record { values = u ∷ q.values; after = q.after } ≡ r = cc in (q.values, ap (λ r. Some (record { values = q.values; after = r.after })) y, sym (ap (λ r. r.values) y))

module _ (code : Parts) (facts : List FuncFacts) (cert : Certified code facts) (last : Config → State) (P : Place code facts) (x : RegionsFit code facts (record { top = Running P.f; below = P.below; state = P.s })) where
  open P use {ty, f, below, s, F, under_it, heap, owned, instr, instrs, here, S}

  abbrev ms : Marks
  ms = marks code facts P x

  abbrev b : ℕ
  b = base code facts P x

  abbrev found_row : ℕ → Effect
  found_row a = all_fine (finds_alive S.known.depth S.known.regs a)

  abbrev calls_it : ℕ → ℕ → ℕ → List ℕ → Spot → Form → Func → Next
  calls_it n to g args at form func = if_called form s (with_read (give_all (without_first func.params) args f.registers) s (λ vs regs.
      enter g form func (record { what = text_at code func.name; at = at }) (result_to func.result to) (Ref n ∷ vs) (behind f regs ∷ below) s))

  module _ (on : goes_on instr ≡ true) (to method a : ℕ) (kind : Kind) (args : List ℕ) (at : Spot) (m : MethodInfo) (first : Ty) (tys : List Ty) (is_method : method_from (kind_of code kind) method ≡ Some m) (impure : m.is_pure ≡ false) (params : m.params ≡ first ∷ tys)
      (got : Received code facts P kind tys a args (passed S.known.depth a first (found_row a))) (gives_it : given_value first (read f.registers a) ≡ Some (Ref got.name)) (same_regs : after_giving first a (read f.registers a) f.registers ≡ f.registers)
      (e : (comes_back S.known.depth m.result to (passes_all S.known.depth (first ∷ tys) (a ∷ args) (found_row a))).kept.types ≡ true) (g : (comes_back S.known.depth m.result to (passes_all S.known.depth (first ∷ tys) (a ∷ args) (found_row a))).kept.present ≡ true)
      (q : (comes_back S.known.depth m.result to (passes_all S.known.depth (first ∷ tys) (a ∷ args) (found_row a))).kept.depths ≡ true)
      (after : (row code facts P).after ≡ (comes_back S.known.depth m.result to (passes_all S.known.depth (first ∷ tys) (a ∷ args) (found_row a))).after) where
    abbrev R : Effect
    R = passes_all S.known.depth (first ∷ tys) (a ∷ args) (found_row a)

    kept_here : (R.kept.types ≡ true) × (R.kept.present ≡ true) × (R.kept.depths ≡ true)
    kept_here = back_kept S.known.depth m.result to R e g q

    give : Gives code s.world b S.known.depth s.regions (deep_here code facts P x) (first ∷ tys) (a ∷ args) (found_row a) ms f.registers
    give = giving code s.world b S.known.depth s.regions (deep_here code facts P x) (first ∷ tys) (a ∷ args) (found_row a) ms f.registers (found_fits code facts P a) (found_told code facts cert last P x a) x.fits.stack.0 kept_here.0 kept_here.1 kept_here.2

    all : All s (first ∷ tys) (a ∷ args) f.registers (map (passed_as s.regions) (first ∷ tys)) give.values give.marks give.after (hs code facts P x)
    all = all_pass s false (first ∷ tys) (a ∷ args) ms f.registers (map (passed_as s.regions) (first ∷ tys)) give.values give.marks give.after x.fits.home (hs code facts P x) give.pass x.fits.stack.0 (low code facts cert last P x) x.fits.fits

    parts : (vs : List Value) × (give_all tys args (after_giving first a (read f.registers a) f.registers) ≡ Some (record { values = vs; after = give.after })) × (give.values ≡ Ref got.name ∷ vs)
    parts = and_then_parts (Ref got.name) (give_all tys args (after_giving first a (read f.registers a) f.registers)) (record { values = give.values; after = give.after })
        (subst (λ o. and_then o (give_all tys args (after_giving first a (read f.registers a) f.registers)) ≡ Some (record { values = give.values; after = give.after })) gives_it all.given)

    given_rest : give_all tys args f.registers ≡ Some (record { values = parts.0; after = give.after })
    given_rest = subst (λ regs. give_all tys args regs ≡ Some (record { values = parts.0; after = give.after })) same_regs parts.1

    fits_all : FitsAt all.home_after (in_args (map (passed_as s.regions) (first ∷ tys)) (Ref got.name ∷ parts.0) (in_registers give.marks give.after (hs code facts P x))) s
    fits_all = subst (λ vs. FitsAt all.home_after (in_args (map (passed_as s.regions) (first ∷ tys)) vs (in_registers give.marks give.after (hs code facts P x))) s) parts.2 all.fits

    -- the receiver of the function is held as that of the method
    as_received : (impl : Impl) (u y : Ty) → receives impl u y ≡ true → passed_as s.regions u ≡ passed_as s.regions y
    as_received impl (t.Ref k) (t.Ref l) h = refl
    as_received impl (t.Frozen k) (t.Frozen l) h = refl
    as_received impl _ _ h = let y : ⊥ = cc in absurd y

    method_entered : (impl : Impl) (g : ℕ) (func : Func) → slice_get code.funcs g ≡ Some func → implements_method impl m (Some func) ≡ true → (form : Form) → form_of func.form ≡ Some form → RegionsNext code facts (calls_it got.name to g args at form func)
    method_entered impl g func found lawful form is = by_params func.params refl (and_parts (func.form == form_for m.is_pure) (same_params impl m.params func.params) p.0).1
      where
        p : (((func.form == form_for m.is_pure) && same_params impl m.params func.params) ≡ true) × (same_type m.result func.result ≡ true)
        p = and_parts ((func.form == form_for m.is_pure) && same_params impl m.params func.params) (same_type m.result func.result) lawful

        plain : func.form ≡ 0
        plain = let y : (func.form == 0) ≡ true = subst (λ b. (func.form == form_for b) ≡ true) impure (and_parts (func.form == form_for m.is_pure) (same_params impl m.params func.params) p.0).0 in grind arith

        same_form : Plain ≡ form
        same_form = let y : Some Plain ≡ Some form = sym (ap form_of plain) ∙ is in let z : Plain ≡ form = cc in z

        result : m.result ≡ func.result
        result = type_is m.result func.result p.1

        by_params : (ps : List Ty) → func.params ≡ ps → same_params impl m.params func.params ≡ true → RegionsNext code facts (calls_it got.name to g args at form func)
        by_params [] h l = let y : same_params impl (first ∷ tys) [] ≡ true = subst (λ ps. same_params impl ps [] ≡ true) params (subst (λ ps. same_params impl m.params ps ≡ true) h l) in let z : ⊥ = cc in absurd z
        by_params (y ∷ ys) h l =
            let r = and_parts (receives impl first y) (same_types tys ys) (subst (λ ps. same_params impl ps (y ∷ ys) ≡ true) params (subst (λ ps. same_params impl m.params ps ≡ true) h l)) in
            let like = types_are tys ys r.1 in
            let hows : map (passed_as s.regions) (first ∷ tys) ≡ map (passed_as s.regions) func.params =
            ap (λ h. h ∷ map (passed_as s.regions) tys) (as_received impl first y r.0) ∙ ap (λ tys. passed_as s.regions y ∷ map (passed_as s.regions) tys) like ∙ ap (map (passed_as s.regions)) (sym h) in
            let rest : give_all (without_first func.params) args f.registers ≡ Some (record { values = parts.0; after = give.after }) = ap (λ ps. give_all (without_first ps) args f.registers) h ∙ ap (λ tys. give_all tys args f.registers) (sym like) ∙ given_rest in
            subst (λ form. RegionsNext code facts (calls_it got.name to g args at form func)) same_form
            (subst (λ o. RegionsNext code facts (with_read o s (λ vs regs. enter g Plain func (record { what = text_at code func.name; at = at }) (result_to func.result to) (Ref got.name ∷ vs) (behind f regs ∷ below) s))) (sym rest)
            (enters code facts cert g Plain func (record { what = text_at code func.name; at = at }) (result_to func.result to) (Ref got.name ∷ parts.0) (behind f give.after ∷ below) s all.home_after (record { depth = s.regions; marks = give.marks } ∷ x.fits.marks) found (ap form_of plain) tt refl
            (waits_here code last f below s x.fits give.marks give.after all.marks)
            (subst (λ hows. FitsAt all.home_after (in_args hows (Ref got.name ∷ parts.0) (in_registers give.marks give.after (hs code facts P x))) s) hows fits_all)
            (subst (λ rt. FramesTold code facts (result_to rt to) rt (record { depth = s.regions; marks = give.marks } ∷ x.fits.marks) (behind f give.after ∷ below)) result
            (waits code facts P x on (result_to m.result to) m.result give.marks give.after
            (subst (λ K. Told b K (resumed (result_to m.result to) m.result s.regions give.marks)) (sym after) (back_told b S.known.depth s.regions (deep_here code facts P x) m.result to R give.marks give.told))))))

    pub dispatched : RegionsNext code facts (with_value (read f.registers a) s (λ v. on_looked (look v s) s (trap DeadReference at (Running f ∷ below) s) (λ n o. with_choice (method_in code.impls kind.0 method o.kind) s (λ g. call_of_object code last f below s n to g args at))))
    dispatched =
        subst (λ o. RegionsNext code facts (with_value o s (λ v. on_looked (look v s) s (trap DeadReference at (Running f ∷ below) s) (λ n o. with_choice (method_in code.impls kind.0 method o.kind) s (λ g. call_of_object code last f below s n to g args at))))) (sym got.is)
        (subst (λ y. RegionsNext code facts (on_looked (look_up y s) s (trap DeadReference at (Running f ∷ below) s) (λ n o. with_choice (method_in code.impls kind.0 method o.kind) s (λ g. call_of_object code last f below s n to g args at)))) (sym got.named_it)
        (from (object_at s.world got.name) refl))
      where
        from : (y : Option Object) → object_at s.world got.name ≡ y → RegionsNext code facts (on_looked (found_or_dead got.name y) s (trap DeadReference at (Running f ∷ below) s) (λ n o. with_choice (method_in code.impls kind.0 method o.kind) s (λ g. call_of_object code last f below s n to g args at)))
        from None h = tt
        from (Some o) h =
            let M = method_found code facts cert kind o.kind method m is_method (sees_interface code facts P kind method got.name m o is_method h (got.names.fits o h)) in
            subst (λ y. RegionsNext code facts (with_choice y s (λ g. call_of_object code last f below s got.name to g args at))) (sym M.dispatch)
            (with_known code facts M.g s _ (λ form func found is. method_entered M.impl M.g func found (subst (λ h. implements_method M.impl m h ≡ true) found M.lawful) form is))

  abbrev dispatches_it : ℕ → ℕ → ℕ → ℕ → List ℕ → Spot → Next
  dispatches_it to interface method a args at = act code last f below s (i.CallM to interface method a args at)

  by_params : goes_on instr ≡ true → (to interface method a : ℕ) (args : List ℕ) (at : Spot) (m : MethodInfo) → method_of code interface method ≡ Some m → m.is_pure ≡ false
      → (ps : List Ty) → m.params ≡ ps → takes_receiver interface m.is_pure ps ≡ true
      → (comes_back S.known.depth m.result to (passes_all S.known.depth ps (a ∷ args) (found_row a))).kept.types ≡ true → (comes_back S.known.depth m.result to (passes_all S.known.depth ps (a ∷ args) (found_row a))).kept.present ≡ true
      → (comes_back S.known.depth m.result to (passes_all S.known.depth ps (a ∷ args) (found_row a))).kept.depths ≡ true
      → (row code facts P).after ≡ (comes_back S.known.depth m.result to (passes_all S.known.depth ps (a ∷ args) (found_row a))).after → RegionsNext code facts (dispatches_it to interface method a args at)
  by_params on to interface method a args at m is_method impure (t.Ref k ∷ tys) params r e g q after =
      let ok = back_kept S.known.depth m.result to (passes_all S.known.depth tys args (passed S.known.depth a (t.Ref k) (found_row a))) e g q in
      let one = passes_kept code s.world S.known.depth tys args (passed S.known.depth a (t.Ref k) (found_row a)) ok.0 ok.1 in
      let v = reg_value code s.world (finds_alive S.known.depth S.known.regs a) f.registers a (t.Ref k) (found_fits code facts P a) (and_parts true (has (t.Ref k) (fact_of (finds_alive S.known.depth S.known.regs a) a)) one.0).1 (and_parts true (is_there (fact_of (finds_alive S.known.depth S.known.regs a) a)) one.1).1 in
      let got = received_ref code facts P (record { 0 = interface }) k tys a args (and_parts (k.0 == interface) (not m.is_pure) r).0 ok.0 ok.1 in
      let w = ref_is v.0 k got.value got.name v.1 v.2.shape got.is got.named_it in
      dispatched on to method a (record { 0 = interface }) args at m (t.Ref k) tys is_method impure params got w.0 w.1 e g q after
    where
      ref_is : (v : Value) (k : Kind) (value : Value) (n : ℕ) → read f.registers a ≡ Some v → value_has (t.Ref k) v ≡ true → read f.registers a ≡ Some value → name_of value ≡ Some n → (read f.registers a ≡ Some (Ref n)) × (after_giving (t.Ref k) a (read f.registers a) f.registers ≡ f.registers)
      ref_is (Ref j) k value n e h is named =
          let y : Some (Ref j) ≡ Some value = sym e ∙ is in let z : Ref j ≡ value = cc in
          let w : Some j ≡ Some n = ap name_of z ∙ named in let u : j ≡ n = cc in
          (e ∙ ap (λ j. Some (Ref j)) u, ap (λ o. after_giving (t.Ref k) a o f.registers) e)
      ref_is _ k value n e h is named = let y : ⊥ = cc in absurd y
  by_params on to interface method a args at m is_method impure (t.Frozen k ∷ tys) params r e g q after =
      let ok = back_kept S.known.depth m.result to (passes_all S.known.depth tys args (passed S.known.depth a (t.Frozen k) (found_row a))) e g q in
      let got = received_frozen code facts P (record { 0 = interface }) k tys a args r ok.0 ok.1 in
      dispatched on to method a (record { 0 = interface }) args at m (t.Frozen k) tys is_method impure params got (ap (λ o. as_frozen (named o)) got.is ∙ ap as_frozen got.named_it) refl e g q after
  by_params on to interface method a args at m is_method impure _ params r e g q after = let y : ⊥ = cc in absurd y

  by_purity : goes_on instr ≡ true → (to interface method a : ℕ) (args : List ℕ) (at : Spot) (m : MethodInfo) → method_of code interface method ≡ Some m → (p : Bool) → m.is_pure ≡ p
      → (rules.method_by_purity p S.known.depth S.known.regs m to a args).kept.types ≡ true → (rules.method_by_purity p S.known.depth S.known.regs m to a args).kept.present ≡ true → (rules.method_by_purity p S.known.depth S.known.regs m to a args).kept.depths ≡ true
      → (row code facts P).after ≡ (rules.method_by_purity p S.known.depth S.known.regs m to a args).after → RegionsNext code facts (dispatches_it to interface method a args at)
  by_purity on to interface method a args at m is_method true impure e g q after = let y : ⊥ = cc in absurd y
  by_purity on to interface method a args at m is_method false impure e g q after =
      by_params on to interface method a args at m is_method impure m.params refl (receiver code facts cert (record { 0 = interface }) method m is_method) e g q after

  pub method_called : goes_on instr ≡ true → (to interface method a : ℕ) (args : List ℕ) (at : Spot) (o : Option MethodInfo) → method_of code interface method ≡ o
      → (rules.calls_method S.known.depth S.known.regs o to a args).kept.types ≡ true → (rules.calls_method S.known.depth S.known.regs o to a args).kept.present ≡ true → (rules.calls_method S.known.depth S.known.regs o to a args).kept.depths ≡ true
      → (row code facts P).after ≡ (rules.calls_method S.known.depth S.known.regs o to a args).after → RegionsNext code facts (dispatches_it to interface method a args at)
  method_called on to interface method a args at None h e g q after = let y : ⊥ = cc in absurd y
  method_called on to interface method a args at (Some m) h e g q after = by_purity on to interface method a args at m h m.is_pure refl e g q after
