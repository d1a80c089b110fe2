-- A function or a method is called.
use Rattle.std.proofs.Common.{◌≡◌, ℕ, List, [], ◌∷◌, length, Option, Some, None, Bool, true, false, not, ◌&&◌, ◌||◌, ◌==◌, refl, sym, ap, ◌∙◌, subst, arith}
use Rattle.std.specs.Prelude.{slice_get}
use Rattle.std.proofs.lemmas.Bool.{and_parts}
use Rattle.vale_state_spec.specs.State.{look, look_up, found_or_dead, name_of}
use Rattle.vale_state_spec.specs.World.{Value, Int, Truth, Text, Own, Ref, Iso, Object, World}
use Rattle.vale_base.specs.declared.name.Kind.{Kind}
use Rattle.vale_base.specs.declared.spot.Spot.{Spot}
use Rattle.vale_base.specs.declared.trap.FrameAt.{FrameAt}
use Rattle.vale_base.specs.declared.trap.TrapKind.TheVariants.{DeadReference}
use Rattle.vale_code.specs.Act.{on_looked, without_first}
use Rattle.vale_code.specs.Enter.{Form, Plain, form_of, with_func, with_form, enter, if_called}
use Rattle.vale_code.specs.Frames.{Running, Next, on, trap, resume}
use Rattle.vale_code.specs.Instructions.{behind, with_value, with_read, with_choice}
use Rattle.vale_code.specs.Kinds.{method_in, same_type, text_at, result_to, kind_of}
use Rattle.vale_code.specs.Parts.{Parts}
use Rattle.vale_code.specs.Registers.{Registers, read, put, kept, give_all, after_giving, after_keeping, as_frozen, named}
use Rattle.vale_code.specs.declared.func.Func.{Func}
use Rattle.vale_code.specs.declared.func.Impl.{Impl}
use Rattle.vale_code.specs.declared.kind.KindInfo.{KindInfo}
use Rattle.vale_code.specs.declared.kind.KindInfo.TheVariants as k
use Rattle.vale_code.specs.declared.kind.MethodInfo.{MethodInfo}
use Rattle.vale_code.specs.declared.ty.Ty.{Ty}
use Rattle.vale_code.specs.declared.ty.Ty.TheVariants as t
use Rattle.vale_cert.specs.Certificate.{Certified}
use Rattle.vale_cert.specs.Numbers.{method_from}
use Rattle.vale_cert.specs.Objects.{method_of, cells_of, is_implemented}
use Rattle.vale_cert.specs.Rules as rules
use Rattle.vale_cert.specs.Rules.{finds_alive, leads, Effect, passed, passes_all, all_fine, comes_back}
use Rattle.vale_cert.specs.Shape.{receives, same_params, same_types, implements_method, form_for, takes_receiver}
use Rattle.vale_cert.specs.Walk.{after, goes_on}
use Rattle.vale_cert.specs.declared.facts.FuncFacts.{FuncFacts}
use Rattle.vale_cert.specs.declared.facts.RegFact.TheVariants.{Held}
use Rattle.vale_cert.proofs.Cells.{leading, name_there}
use Rattle.vale_cert.proofs.Fit.{value_has, kind_is, type_is, kind_fits, NameFits, Has, RegsFit, regs_later, put_fits, ArgsFit}
use Rattle.vale_cert.proofs.Heap.{object_at, same}
use Rattle.vale_cert.proofs.KindLaws.{receiver, method_found, types_are}
use Rattle.vale_cert.proofs.Arguments.{passing, passing_all, AllPassed, passes_kept}
use Rattle.vale_cert.proofs.Standing.{Returns, Quiet, FrameFits, StackFits, NextFits, a_trap, entered, names_it}
use Rattle.vale_cert.proofs.Going.{Place, fits_here, next_active, row}
use Rattle.vale_cert.proofs.Reading.{found_fits}

module _ (code : Parts) (facts : List FuncFacts) (P : Place code facts) where
  open P use {ty, f, below, s, F, under_it, heap, owned, instr, instrs, here, S}

  -- a function is called
  module _ (cert : Certified code facts) (on_to : goes_on instr ≡ true) (to g : ℕ) (args : List ℕ) (at : Spot) where
    abbrev frame_of : Func → FrameAt
    frame_of callee = record { what = text_at code callee.name; at = at }

    abbrev calls_it : Form → Func → Next
    calls_it form callee =
        if_called form s (with_read (give_all callee.params args f.registers) s (λ vs regs.
        enter g form callee (frame_of callee) (result_to callee.result to) vs (behind f regs ∷ below) s))

    -- the result of the callee comes back
    back : (rt : Ty) (R : Effect) (regs : Registers) (w : World) (o : Option Value) → (row code facts P).after ≡ (comes_back S.known.depth rt to R).after → RegsFit code w R.after regs → Returns code w rt o → FrameFits code facts w ty (resume (result_to rt to) o (behind f regs))
    back t.Void R regs w o e fits h = next_active code facts P on_to w regs (subst (λ x. RegsFit code w x regs) (sym e) fits)
    back rt R regs w o e fits h =
        subst (λ o. FrameFits code facts w ty (resume (Some to) o (behind f regs))) (sym h.1)
        (next_active code facts P on_to w (put regs to (Some h.0)) (subst (λ x. RegsFit code w x (put regs to (Some h.0))) (sym e) (put_fits code w R.after regs to (Held rt S.known.depth false) (Some h.0) (h.0, refl, h.2) fits)))

    -- the frame that waits for it
    waiting : (rt : Ty) (R : Effect) (regs : Registers) → (row code facts P).after ≡ (comes_back S.known.depth rt to R).after → RegsFit code s.world R.after regs → StackFits code facts s.world rt (result_to rt to) (behind f regs ∷ below)
    waiting rt R regs e fits = (ty, (λ w o l h. back rt R regs w o e (regs_later code s.world w R.after regs l fits) h), under_it)

    back_kept : (rt : Ty) (R : Effect) → (comes_back S.known.depth rt to R).kept.types ≡ true → (comes_back S.known.depth rt to R).kept.present ≡ true → (R.kept.types ≡ true) × (R.kept.present ≡ true)
    back_kept t.Void R e h = (e, h)
    back_kept rt R e h = (e, (and_parts _ _ h).0)

    called_plain : (callee : Func) → slice_get code.funcs g ≡ Some callee → callee.form ≡ 0
        → (comes_back S.known.depth callee.result to (passes_all S.known.depth callee.params args (all_fine S.known.regs))).kept.types ≡ true
        → (comes_back S.known.depth callee.result to (passes_all S.known.depth callee.params args (all_fine S.known.regs))).kept.present ≡ true
        → (row code facts P).after ≡ (comes_back S.known.depth callee.result to (passes_all S.known.depth callee.params args (all_fine S.known.regs))).after
        → NextFits code facts (with_form (form_of callee.form) callee s calls_it)
    called_plain callee found plain e h same =
        let kept = back_kept callee.result (passes_all S.known.depth callee.params args (all_fine S.known.regs)) e h in
        let p = passing_all code s.world S.known.depth callee.params args (all_fine S.known.regs) f.registers (fits_here code facts P) kept.0 kept.1 in
        subst (λ n. NextFits code facts (with_form (form_of n) callee s calls_it)) (sym plain)
        (subst (λ o. NextFits code facts (with_read o s (λ vs regs. enter g Plain callee (frame_of callee) (result_to callee.result to) vs (behind f regs ∷ below) s))) (sym p.given)
        (entered code facts cert g Plain callee (frame_of callee) (result_to callee.result to) p.got.values (behind f p.got.after ∷ below) s found tt (subst (λ n. Quiet (form_of n)) (sym plain) tt) p.has
        (waiting callee.result (passes_all S.known.depth callee.params args (all_fine S.known.regs)) p.got.after same p.fits) heap (λ n. let x = p.owned n in let y = owned n in omega (arith, x, y))))

    by_form : (callee : Func) (b : Bool) → (callee.form == 0) ≡ b → slice_get code.funcs g ≡ Some callee
        → (rules.call_by_form b S.known.depth S.known.regs callee to args).kept.types ≡ true
        → (rules.call_by_form b S.known.depth S.known.regs callee to args).kept.present ≡ true
        → (row code facts P).after ≡ (rules.call_by_form b S.known.depth S.known.regs callee to args).after
        → NextFits code facts (with_form (form_of callee.form) callee s calls_it)
    by_form callee false q found e h same = let x : ⊥ = cc in absurd x
    by_form callee true q found e h same = called_plain callee found (let x : callee.form ≡ 0 = grind arith in x) e h same

    pub calling : (o : Option Func) → slice_get code.funcs g ≡ o
        → (rules.calls S.known.depth S.known.regs o to args).kept.types ≡ true
        → (rules.calls S.known.depth S.known.regs o to args).kept.present ≡ true
        → (row code facts P).after ≡ (rules.calls S.known.depth S.known.regs o to args).after
        → NextFits code facts (with_func o s calls_it)
    calling None found e h same = let x : ⊥ = cc in absurd x
    calling (Some callee) found e h same = by_form callee (callee.form == 0) refl found e h same

  -- ---- methods

  -- the object that a method is called of, and the other arguments
  pub record Received (kind : Kind) (tys : List Ty) (a : ℕ) (args : List ℕ) (R : Effect) : Type 0 where
    pub value : Value
    pub name : ℕ
    pub is : read f.registers a ≡ Some value
    pub named_it : name_of value ≡ Some name
    pub names : NameFits code s.world kind name
    pub rest : AllPassed code s.world S.known.depth tys args R f.registers

  abbrev pub found_row : ℕ → Effect
  found_row a = all_fine (finds_alive S.known.depth S.known.regs a)

  pub received_ref : (kind q : Kind) (tys : List Ty) (a : ℕ) (args : List ℕ) → (q.0 == kind.0) ≡ true → (passes_all S.known.depth tys args (passed S.known.depth a (t.Ref q) (found_row a))).kept.types ≡ true
      → (passes_all S.known.depth tys args (passed S.known.depth a (t.Ref q) (found_row a))).kept.present ≡ true → Received kind tys a args (passed S.known.depth a (t.Ref q) (found_row a))
  received_ref kind q tys a args same_kind e g =
      let narrowed = passed S.known.depth a (t.Ref q) (found_row a) in
      let ok = passes_kept code s.world S.known.depth tys args narrowed e g in
      let P = passing code s.world S.known.depth a (t.Ref q) (found_row a) f.registers (found_fits code facts P a) ok.0 ok.1 in
      let n = name_there (t.Ref q) P.value q refl P.has.shape in
      let rest = passing_all code s.world S.known.depth tys args narrowed (after_giving (t.Ref q) a (read f.registers a) f.registers) P.fits e g in
      record {
        value = P.value;
        name = n.0;
        is = P.given;
        named_it = n.1;
        names = subst (λ k. NameFits code s.world k n.0) (kind_is q kind same_kind) (P.has.leads q n.0 refl n.1);
        rest = subst (λ r. AllPassed code s.world S.known.depth tys args narrowed r) (ap (λ o. after_keeping a o f.registers) P.given ∙ not_kept P.value P.has.shape) rest;
      }
    where
      not_kept : (v : Value) → value_has (t.Ref q) v ≡ true → kept a v f.registers ≡ f.registers
      not_kept (Ref n) e = refl
      not_kept _ e = let x : ⊥ = cc in absurd x

  -- what a frozen receiver was before
  as_it_was : (o : Option Value) (v : Value) → as_frozen (named o) ≡ Some v → (u : Value) × (n : ℕ) × (o ≡ Some u) × (name_of u ≡ Some n) × (name_of v ≡ Some n)
  as_it_was None v e = let x : ⊥ = cc in absurd x
  as_it_was (Some (Own n)) v e = (Own n, n, refl, refl, let y : Ref n ≡ v = cc in sym (ap name_of y))
  as_it_was (Some (Ref n)) v e = (Ref n, n, refl, refl, let y : Ref n ≡ v = cc in sym (ap name_of y))
  as_it_was (Some (Iso n)) v e = (Iso n, n, refl, refl, let y : Ref n ≡ v = cc in sym (ap name_of y))
  as_it_was (Some (Int z)) v e = let x : ⊥ = cc in absurd x
  as_it_was (Some (Truth b)) v e = let x : ⊥ = cc in absurd x
  as_it_was (Some (Text b)) v e = let x : ⊥ = cc in absurd x

  pub received_frozen : (kind q : Kind) (tys : List Ty) (a : ℕ) (args : List ℕ) → (q.0 == kind.0) ≡ true → (passes_all S.known.depth tys args (passed S.known.depth a (t.Frozen q) (found_row a))).kept.types ≡ true
      → (passes_all S.known.depth tys args (passed S.known.depth a (t.Frozen q) (found_row a))).kept.present ≡ true → Received kind tys a args (passed S.known.depth a (t.Frozen q) (found_row a))
  received_frozen kind q tys a args same_kind e g =
      let narrowed = passed S.known.depth a (t.Frozen q) (found_row a) in
      let ok = passes_kept code s.world S.known.depth tys args narrowed e g in
      let P = passing code s.world S.known.depth a (t.Frozen q) (found_row a) f.registers (found_fits code facts P a) ok.0 ok.1 in
      let w = as_it_was (read f.registers a) P.value P.given in
      let rest = passing_all code s.world S.known.depth tys args narrowed f.registers P.fits e g in
      record { value = w.0; name = w.1; is = w.2; named_it = w.3; names = subst (λ k. NameFits code s.world k w.1) (kind_is q kind same_kind) (P.has.leads q w.1 refl w.4); rest = rest }

  -- the object's function gets it
  receives_has : (impl : Impl) (n : ℕ) (o : Object) (x y : Ty) → object_at s.world n ≡ Some o → (impl.of.0 == o.kind.0) ≡ true → receives impl x y ≡ true → Has code s.world y (Ref n)
  receives_has impl n o (t.Ref q) (t.Ref b) lives of e =
      let same_kind : b ≡ o.kind = kind_is b impl.of (and_parts (q.0 == impl.interface.0) (b.0 == impl.of.0) e).1 ∙ kind_is impl.of o.kind of in
      leading code s.world (t.Ref b) (Ref n) b n refl refl refl (subst (λ k. NameFits code s.world k n) (sym same_kind) (names_it code facts s.world n o lives))
  receives_has impl n o (t.Frozen q) (t.Frozen b) lives of e =
      let same_kind : b ≡ o.kind = kind_is b impl.of (and_parts (q.0 == impl.interface.0) (b.0 == impl.of.0) e).1 ∙ kind_is impl.of o.kind of in
      leading code s.world (t.Frozen b) (Ref n) b n refl refl refl (subst (λ k. NameFits code s.world k n) (sym same_kind) (names_it code facts s.world n o lives))
  receives_has impl n o _ _ lives of e = let x : ⊥ = cc in absurd x

  params_fit : (impl : Impl) (n : ℕ) (o : Object) (x : Ty) (tys ps : List Ty) (vs : List Value) → object_at s.world n ≡ Some o → (impl.of.0 == o.kind.0) ≡ true → same_params impl (x ∷ tys) ps ≡ true → ArgsFit code s.world tys vs
      → ArgsFit code s.world ps (Ref n ∷ vs) × (without_first ps ≡ tys)
  params_fit impl n o x tys [] vs lives of e h = let y : ⊥ = cc in absurd y
  params_fit impl n o x tys (y ∷ ys) vs lives of e h =
      let p = and_parts (receives impl x y) (same_types tys ys) e in
      let like = types_are tys ys p.1 in
      ((receives_has impl n o x y lives of p.0, subst (λ ys. ArgsFit code s.world ys vs) like h), sym like)

  -- what is seen as an interface implements it
  pub sees_interface : (kind : Kind) (method n : ℕ) (m : MethodInfo) (o : Object) → method_from (kind_of code kind) method ≡ Some m → object_at s.world n ≡ Some o → kind_fits code o.kind kind ≡ true → is_implemented code.impls kind o.kind ≡ true
  sees_interface kind method n m o e lives fits = from (o.kind.0 == kind.0) refl
    where
      no_object : (info : Option KindInfo) (count : ℕ) (tys : List Ty) → method_from info method ≡ Some m → cells_of info count ≡ Some tys → ⊥
      no_object (Some (k.Interface name methods)) count tys e h = let x : ⊥ = cc in x
      no_object (Some (k.Struct name destructor fields)) count tys e h = let x : ⊥ = cc in x
      no_object (Some (k.Array item)) count tys e h = let x : ⊥ = cc in x
      no_object None count tys e h = let x : ⊥ = cc in x

      right : (a b : Bool) → a ≡ false → (a || b) ≡ true → b ≡ true
      right false b e h = h
      right true b e h = let x : ⊥ = cc in absurd x

      from : (b : Bool) → (o.kind.0 == kind.0) ≡ b → is_implemented code.impls kind o.kind ≡ true
      from true q =
          let it = heap n o lives in
          absurd (no_object (kind_of code kind) (length o.values) it.tys e (subst (λ k. cells_of (kind_of code k) (length o.values) ≡ Some it.tys) (kind_is o.kind kind q) it.cells))
      from false q = right (o.kind.0 == kind.0) (is_implemented code.impls kind o.kind) q fits

  module _ (cert : Certified code facts) (on : goes_on instr ≡ true) (to method a : ℕ) (kind : Kind) (args : List ℕ) (at : Spot) (m : MethodInfo) (x : Ty) (tys : List Ty)
      (is_method : method_from (kind_of code kind) method ≡ Some m) (impure : m.is_pure ≡ false) (params : m.params ≡ x ∷ tys) (got : Received kind tys a args (passed S.known.depth a x (found_row a)))
      (after : (row code facts P).after ≡ (comes_back S.known.depth m.result to (passes_all S.known.depth tys args (passed S.known.depth a x (found_row a)))).after) where
    abbrev calls_of : ℕ → ℕ → Form → Func → Next
    calls_of n g form func =
        if_called form s (with_read (give_all (without_first func.params) args f.registers) s (λ vs regs.
        enter g form func (record { what = text_at code func.name; at = at }) (result_to func.result to) (Ref n ∷ vs) (behind f regs ∷ below) s))

    method_entered : (impl : Impl) (o : Object) (g : ℕ) (h : Option Func) → object_at s.world got.name ≡ Some o → (impl.of.0 == o.kind.0) ≡ true → slice_get code.funcs g ≡ h → implements_method impl m h ≡ true → NextFits code facts (with_func h s (calls_of got.name g))
    method_entered impl o g None lives of q e = let y : ⊥ = cc in absurd y
    method_entered impl o g (Some func) lives of q e =
        let p = and_parts ((func.form == form_for m.is_pure) && same_params impl m.params func.params) (same_type m.result func.result) e in
        let r = and_parts (func.form == form_for m.is_pure) (same_params impl m.params func.params) p.0 in
        let plain : func.form ≡ 0 = let y : (func.form == 0) ≡ true = subst (λ b. (func.form == form_for b) ≡ true) impure r.0 in grind arith in
        let fit = params_fit impl got.name o x tys func.params got.rest.got.values lives of (subst (λ ps. same_params impl ps func.params ≡ true) params r.1) got.rest.has in
        let result = type_is m.result func.result p.1 in
        subst (λ n. NextFits code facts (with_form (form_of n) func s (calls_of got.name g))) (sym plain)
        (subst (λ o. NextFits code facts (with_read o s (λ vs regs. enter g Plain func (record { what = text_at code func.name; at = at }) (result_to func.result to) (Ref got.name ∷ vs) (behind f regs ∷ below) s))) (sym (ap (λ ps. give_all ps args f.registers) fit.1 ∙ got.rest.given))
        (entered code facts cert g Plain func (record { what = text_at code func.name; at = at }) (result_to func.result to) (Ref got.name ∷ got.rest.got.values) (behind f got.rest.got.after ∷ below) s q tt (subst (λ n. Quiet (form_of n)) (sym plain) tt) fit.0
        (subst (λ rt. StackFits code facts s.world rt (result_to rt to) (behind f got.rest.got.after ∷ below)) result (waiting cert on to g args at m.result (passes_all S.known.depth tys args (passed S.known.depth a x (found_row a))) got.rest.got.after after got.rest.fits))
        heap (λ n. let y = got.rest.owned n in let z = owned n in omega (arith, y, z))))

    dispatched : NextFits code facts (with_value (read f.registers a) s (λ v. on_looked (look v s) s (trap DeadReference at (Running f ∷ below) s) (λ n o. with_choice (method_in code.impls kind.0 method o.kind) s (λ g. with_func (slice_get code.funcs g) s (calls_of n g)))))
    dispatched =
        subst (λ o. NextFits code facts (with_value o s (λ v. on_looked (look v s) s (trap DeadReference at (Running f ∷ below) s) (λ n o. with_choice (method_in code.impls kind.0 method o.kind) s (λ g. with_func (slice_get code.funcs g) s (calls_of n g)))))) (sym got.is)
        (subst (λ y. NextFits code facts (on_looked (look_up y s) s (trap DeadReference at (Running f ∷ below) s) (λ n o. with_choice (method_in code.impls kind.0 method o.kind) s (λ g. with_func (slice_get code.funcs g) s (calls_of n g))))) (sym got.named_it)
        (from (object_at s.world got.name) refl))
      where
        from : (y : Option Object) → object_at s.world got.name ≡ y → NextFits code facts (on_looked (found_or_dead got.name y) s (trap DeadReference at (Running f ∷ below) s) (λ n o. with_choice (method_in code.impls kind.0 method o.kind) s (λ g. with_func (slice_get code.funcs g) s (calls_of n g))))
        from None q = a_trap code facts DeadReference at (Running f ∷ below) s
        from (Some o) q =
            let M = method_found code facts cert kind o.kind method m is_method (sees_interface kind method got.name m o is_method q (got.names.fits o q)) in
            subst (λ y. NextFits code facts (with_choice y s (λ g. with_func (slice_get code.funcs g) s (calls_of got.name g)))) (sym M.dispatch)
            (method_entered M.impl o M.g (slice_get code.funcs M.g) q M.of_is refl M.lawful)

  abbrev dispatches_it : ℕ → ℕ → ℕ → ℕ → List ℕ → Spot → Next
  dispatches_it to interface method a args at =
      with_value (read f.registers a) s (λ v. on_looked (look v s) s (trap DeadReference at (Running f ∷ below) s) (λ n o. with_choice (method_in code.impls interface method o.kind) s (λ g. with_func (slice_get code.funcs g) s (λ form func.
      if_called form s (with_read (give_all (without_first func.params) args f.registers) s (λ vs regs.
      enter g form func (record { what = text_at code func.name; at = at }) (result_to func.result to) (Ref n ∷ vs) (behind f regs ∷ below) s))))))

  by_params : (cert : Certified code facts) → goes_on instr ≡ true → (to interface method a : ℕ) (args : List ℕ) (at : Spot) (m : MethodInfo) → method_of code interface method ≡ Some m → m.is_pure ≡ false
      → (ps : List Ty) → m.params ≡ ps → takes_receiver interface m.is_pure ps ≡ true
      → (comes_back S.known.depth m.result to (passes_all S.known.depth ps (a ∷ args) (found_row a))).kept.types ≡ true → (comes_back S.known.depth m.result to (passes_all S.known.depth ps (a ∷ args) (found_row a))).kept.present ≡ true
      → (row code facts P).after ≡ (comes_back S.known.depth m.result to (passes_all S.known.depth ps (a ∷ args) (found_row a))).after → NextFits code facts (dispatches_it to interface method a args at)
  by_params cert on to interface method a args at m is_method impure (t.Ref q ∷ tys) params r e g after =
      let ok = back_kept cert on to 0 args at m.result (passes_all S.known.depth tys args (passed S.known.depth a (t.Ref q) (found_row a))) e g in
      dispatched cert on to method a (record { 0 = interface }) args at m (t.Ref q) tys is_method impure params (received_ref (record { 0 = interface }) q tys a args (and_parts (q.0 == interface) (not m.is_pure) r).0 ok.0 ok.1) after
  by_params cert on to interface method a args at m is_method impure (t.Frozen q ∷ tys) params r e g after =
      let ok = back_kept cert on to 0 args at m.result (passes_all S.known.depth tys args (passed S.known.depth a (t.Frozen q) (found_row a))) e g in
      dispatched cert on to method a (record { 0 = interface }) args at m (t.Frozen q) tys is_method impure params (received_frozen (record { 0 = interface }) q tys a args r ok.0 ok.1) after
  by_params cert on to interface method a args at m is_method impure _ params r e g after = let y : ⊥ = cc in absurd y

  by_purity : (cert : Certified code facts) → goes_on instr ≡ true → (to interface method a : ℕ) (args : List ℕ) (at : Spot) (m : MethodInfo) → method_of code interface method ≡ Some m → (b : Bool) → m.is_pure ≡ b
      → (rules.method_by_purity b S.known.depth S.known.regs m to a args).kept.types ≡ true → (rules.method_by_purity b S.known.depth S.known.regs m to a args).kept.present ≡ true
      → (row code facts P).after ≡ (rules.method_by_purity b S.known.depth S.known.regs m to a args).after → NextFits code facts (dispatches_it to interface method a args at)
  by_purity cert on to interface method a args at m is_method true impure e g after = let y : ⊥ = cc in absurd y
  by_purity cert on to interface method a args at m is_method false impure e g after =
      by_params cert on to interface method a args at m is_method impure m.params refl (receiver code facts cert (record { 0 = interface }) method m is_method) e g after

  pub method_called : (cert : Certified code facts) → goes_on instr ≡ true → (to interface method a : ℕ) (args : List ℕ) (at : Spot) (o : Option MethodInfo) → method_of code interface method ≡ o
      → (rules.calls_method S.known.depth S.known.regs o to a args).kept.types ≡ true → (rules.calls_method S.known.depth S.known.regs o to a args).kept.present ≡ true
      → (row code facts P).after ≡ (rules.calls_method S.known.depth S.known.regs o to a args).after → NextFits code facts (dispatches_it to interface method a args at)
  method_called cert on to interface method a args at None q e g after = let y : ⊥ = cc in absurd y
  method_called cert on to interface method a args at (Some m) q e g after = by_purity cert on to interface method a args at m q m.is_pure refl e g after
