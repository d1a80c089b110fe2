-- Certified code never goes wrong: one instruction, and each step.
use Rattle.std.proofs.Common.{◌≡◌, ◌≢◌, ℕ, zero, suc, ◌<◌, List, [], ◌∷◌, ◌++◌, length, Option, Some, None, Bool, true, false, not, refl, sym, ap, ◌∙◌, subst, arith, length-append}
use Rattle.std.specs.Prelude.{slice_get}
use Rattle.std.specs.List.{list_all}
use Rattle.std.proofs.lemmas.Bool.{and_parts}
use Rattle.std.proofs.lemmas.Option.{slice_get-get_or}
use Rattle.std.proofs.Math.Seq.{get_or-append_seam}
use Rattle.vale_state_spec.specs.Outcome.{Wrong}
use Rattle.vale_state_spec.specs.State.{State, print}
use Rattle.vale_state_spec.specs.World.{Value, Int, Truth, Text, Ref}
use Rattle.vale_text.specs.Steps as step
use Rattle.vale_code.specs.Act.{act, act_if, step_of, step_by}
use Rattle.vale_code.specs.Enter.{function, leave_function}
use Rattle.vale_code.specs.Frames.{Active, Frame, Running, Dropping, Looping, Alone, Config, Next, On, Over}
use Rattle.vale_code.specs.Instructions.{onward, with_value, with_truth, with_choice, copied, gets, certain, fetch, jump_unless, is_free, text_length}
use Rattle.vale_code.specs.Kinds.{kind_of}
use Rattle.vale_code.specs.Parts.{Parts}
use Rattle.vale_code.specs.Registers.{read, put}
use Rattle.vale_code.specs.Run.{Ending, exec_by, then_go}
use Rattle.vale_code.specs.declared.instr.Instr.{Instr}
use Rattle.vale_code.specs.declared.instr.Instr.TheVariants as i
use Rattle.vale_code.specs.declared.ty.Ty.{Ty}
use Rattle.vale_code.specs.declared.ty.Ty.TheVariants as t
use Rattle.vale_cert.specs.Certificate.{Certified}
use Rattle.vale_cert.specs.Known as known
use Rattle.vale_cert.specs.Known.{fact_of, has, is_there}
use Rattle.vale_cert.specs.Numbers.{numbers}
use Rattle.vale_cert.specs.Objects.{method_of}
use Rattle.vale_cert.specs.Rules.{after_taking, finds_alive, copy_of, is_copied, is_comparable, is_ordered, are_alike, is_printable, is_short}
use Rattle.vale_cert.specs.Types.{is_owned, is_void}
use Rattle.vale_cert.specs.Walk.{walk}
use Rattle.vale_cert.specs.declared.facts.FuncFacts.{FuncFacts}
use Rattle.vale_cert.specs.declared.facts.RegFact.{RegFact}
use Rattle.vale_cert.specs.declared.facts.RegFact.TheVariants.{Empty, Held}
use Rattle.vale_cert.proofs.Fit.{value_has, type_is, Has, Holds, WorldFits, owns_nothing, put_fits, reg_value}
use Rattle.vale_cert.proofs.Heap.{own, own_in, in_regs, in_frame, put_owns}
use Rattle.vale_cert.proofs.Values.{add_answers, sub_answers, mul_answers, div_answers, rem_answers, opposite_answers, compare_answers, truth_is, comparison_is, join_answers, slice_answers, byte_answers, number_answers, length_answers, text_of_answers, is_number_answers, print_answers, as_truth}
use Rattle.vale_cert.proofs.Walks.{Stepped, stepped}
use Rattle.vale_cert.proofs.Arguments.{not_is}
use Rattle.vale_cert.proofs.Standing.{Returns, dest_of, ActiveFits, FrameFits, StackFits, OwnedBeside, ConfigFits, NextFits, with_tick, drops_on}
use Rattle.vale_cert.proofs.Going.{Place, answering, binary, fits_here, nothing, reading, setting, stays_on, sure, surely, unary}
use Rattle.vale_cert.proofs.Leaving.{jumping, leaving}
use Rattle.vale_cert.proofs.Calls.{calling, method_called}
use Rattle.vale_cert.proofs.Reading.{elem_found, elem_own, len_found, load_found, load_own}
use Rattle.vale_cert.proofs.Moving.{borrowing, dropping, moving, upcasting}
use Rattle.vale_cert.proofs.Writing.{popping, pushing, swap_element_found, swap_element_own, swap_found_at, swap_own}
use Rattle.vale_cert.proofs.Making.{making, opening}

module _ (code : Parts) (facts : List FuncFacts) where
  -- ---- one instruction

  module _ (last : Config → State) (ty : Ty) (f : Active) (below : List Frame) (s : State) (F : ActiveFits code facts s.world ty f) (under_it : StackFits code facts s.world ty f.dest below)
      (heap : WorldFits code s.world) (owned : OwnedBeside code facts s.world (λ n. in_regs n f.registers) below) where
    abbrev before : (instr : Instr) (instrs : List Instr) → F.rest ≡ instr ∷ instrs → Stepped code F.func F.of.labels F.is_judged.base f.place instr instrs (Some F.known) → Place code facts
    before instr instrs here S = record { ty = ty; f = f; below = below; s = s; F = F; under_it = under_it; heap = heap; owned = owned; instr = instr; instrs = instrs; here = here; S = S }

    -- ---- copies, what is printed, comparisons

    copied_same : (of : Ty) (v : Value) → not (is_owned of) ≡ true → value_has of v ≡ true → copied v ≡ Some v
    copied_same t.Int (Int z) e h = refl
    copied_same t.Truth (Truth b) e h = refl
    copied_same t.Text (Text b) e h = refl
    copied_same (t.Ref kind) (Ref n) e h = refl
    copied_same (t.Frozen kind) (Ref n) e h = refl
    copied_same _ _ e h = let x : ⊥ = cc in absurd x

    a_copy : (depth : ℕ) (fact : RegFact) (o : Option Value) → is_copied fact ≡ true → is_there fact ≡ true → Holds code s.world fact o → (v : Value) × (o ≡ Some v) × (copied v ≡ Some v) × Holds code s.world (copy_of depth fact) (Some v) × ((n : ℕ) → own n v ≡ 0)
    a_copy depth Empty o e there h = let x : ⊥ = cc in absurd x
    a_copy depth (Held u d l) o e there h = (h.0, h.1, copied_same u h.0 e h.2.shape, (h.0, refl, h.2), λ n. owns_nothing n u h.0 (not_is (is_owned u) e) h.2.shape)

    printable : (fact : RegFact) (o : Option Value) → is_printable fact ≡ true → is_there fact ≡ true → Holds code s.world fact o → (u : Ty) × ((v : Value) × (o ≡ Some v) × (Rattle.vale_cert.specs.Types.is_copy u ≡ true) × (value_has u v ≡ true))
    printable Empty o e there h = let x : ⊥ = cc in absurd x
    printable (Held u d l) o e there h = (u, (h.0, h.1, e, h.2.shape))

    record Compared (choice : ℕ) (o p : Option Value) : Type 0 where
      of : Ty
      left : Value
      right : Value
      left_is : o ≡ Some left
      right_is : p ≡ Some right
      ordered : is_ordered choice of ≡ true
      left_has : value_has of left ≡ true
      right_has : value_has of right ≡ true

    compared : (choice : ℕ) (x y : RegFact) (o p : Option Value) → is_comparable choice x ≡ true → are_alike x y ≡ true → is_there x ≡ true → is_there y ≡ true → Holds code s.world x o → Holds code s.world y p → Compared choice o p
    compared choice Empty y o p e alike there too h g = let x : ⊥ = cc in absurd x
    compared choice (Held u d l) Empty o p e alike there too h g = let x : ⊥ = cc in absurd x
    compared choice (Held u d l) (Held w m n) o p e alike there too h g =
        record { of = u; left = h.0; right = g.0; left_is = h.1; right_is = g.1; ordered = e; left_has = h.2.shape; right_has = subst (λ x. value_has x g.0 ≡ true) (type_is w u alike) g.2.shape }

    returned : (rt : Ty) (v : Value) → Has code s.world rt v → Returns code s.world rt (Some v)
    returned t.Void v h = let y = h.shape in let x : ⊥ = cc in absurd x
    returned rt v h = (v, refl, h)

    returned_nothing : (rt : Ty) → is_void rt ≡ true → Returns code s.world rt None
    returned_nothing t.Void h = refl
    returned_nothing _ h = let x : ⊥ = cc in absurd x

    -- ---- the instructions

    acts : Certified code facts → (instr : Instr) (instrs : List Instr) → F.rest ≡ instr ∷ instrs → Stepped code F.func F.of.labels F.is_judged.base f.place instr instrs (Some F.known) → numbers code F.func.registers instr ≡ true → NextFits code facts (act code last f below s instr)
    acts cert (i.Int to n) is e S num = setting code facts (before (i.Int to n) is e S) refl t.Int to S.known.depth (Int n) refl refl refl
    acts cert (i.Truth to choice) is e S num =
        let b = truth_is choice (and_parts _ _ num).1 in
        subst (λ o. NextFits code facts (with_choice o s (λ b. onward f (put f.registers to (Some (Truth b))) below s))) (sym b.1)
        (setting code facts (before (i.Truth to choice) is e S) refl t.Truth to S.known.depth (Truth b.0) refl refl refl)
    acts cert (i.Text to n) is e S num = from (slice_get code.texts n) S.keeps.types
      where
        from : (o : Option (List ℕ)) → is_short o ≡ true → NextFits code facts (with_choice o s (λ t. onward f (put f.registers to (Some (Text t))) below s))
        from None h = let x : ⊥ = cc in absurd x
        from (Some text) h = setting code facts (before (i.Text to n) is e S) refl t.Text to S.known.depth (Text text) refl refl refl
    acts cert (i.Copy to a) is e S num =
        let c = a_copy S.known.depth (fact_of S.known.regs a) (read f.registers a) S.keeps.types (and_parts _ _ S.keeps.present).0 ((fits_here code facts (before (i.Copy to a) is e S)).each a) in
        subst (λ o. NextFits code facts (with_value o s (λ v. gets f to (copied v) f.registers below s))) (sym c.1)
        (subst (λ o. NextFits code facts (gets f to o f.registers below s)) (sym c.2)
        (stays_on code facts (before (i.Copy to a) is e S) refl (put f.registers to (Some c.0)) s refl (put_fits code s.world S.known.regs f.registers to (copy_of S.known.depth (fact_of S.known.regs a)) (Some c.0) c.3 (fits_here code facts (before (i.Copy to a) is e S)))
        (λ n. let x = put_owns n f.registers to (Some c.0) in let y = c.4 n in omega (arith, x, y))))
    acts cert (i.Add to a b at) is e S num = binary code facts (before (i.Add to a b at) is e S) refl t.Int t.Int t.Int to a b at (λ v w. step.add v w s) refl S.keeps.types S.keeps.present refl (λ v w. add_answers v w s)
    acts cert (i.Sub to a b at) is e S num = binary code facts (before (i.Sub to a b at) is e S) refl t.Int t.Int t.Int to a b at (λ v w. step.sub v w s) refl S.keeps.types S.keeps.present refl (λ v w. sub_answers v w s)
    acts cert (i.Mul to a b at) is e S num = binary code facts (before (i.Mul to a b at) is e S) refl t.Int t.Int t.Int to a b at (λ v w. step.mul v w s) refl S.keeps.types S.keeps.present refl (λ v w. mul_answers v w s)
    acts cert (i.Div to a b at) is e S num = binary code facts (before (i.Div to a b at) is e S) refl t.Int t.Int t.Int to a b at (λ v w. step.div v w s) refl S.keeps.types S.keeps.present refl (λ v w. div_answers v w s)
    acts cert (i.Rem to a b at) is e S num = binary code facts (before (i.Rem to a b at) is e S) refl t.Int t.Int t.Int to a b at (λ v w. step.rem v w s) refl S.keeps.types S.keeps.present refl (λ v w. rem_answers v w s)
    acts cert (i.Cmp to choice a b) is e S num =
        let q = comparison_is choice (and_parts _ _ num).1 in
        let types = and_parts _ _ S.keeps.types in let each = and_parts _ _ types.0 in let there = and_parts _ _ (and_parts _ _ S.keeps.present).0 in
        let fits = fits_here code facts (before (i.Cmp to choice a b) is e S) in
        let c = compared choice (fact_of S.known.regs a) (fact_of S.known.regs b) (read f.registers a) (read f.registers b) each.0 types.1 there.0 there.1 (fits.each a) (fits.each b) in
        subst (λ o. NextFits code facts (with_choice o s (λ c. with_value (read f.registers a) s (λ v. with_value (read f.registers b) s (λ w. certain f (Some to) f.registers below s (step.compare c v w s)))))) (sym q.1)
        (subst (λ o. NextFits code facts (with_value o s (λ v. with_value (read f.registers b) s (λ w. certain f (Some to) f.registers below s (step.compare q.0 v w s))))) (sym c.left_is)
        (subst (λ o. NextFits code facts (with_value o s (λ w. certain f (Some to) f.registers below s (step.compare q.0 c.left w s)))) (sym c.right_is)
        (surely code facts (before (i.Cmp to choice a b) is e S) refl t.Truth to S.known.depth (step.compare q.0 c.left c.right s) refl refl (compare_answers choice q.0 c.of c.left c.right s q.1 c.ordered c.left_has c.right_has))))
    acts cert (i.Not to a) is e S num = sure code facts (before (i.Not to a) is e S) refl t.Truth t.Truth to a (λ v. step.opposite v s) refl S.keeps.types S.keeps.present refl (λ v. opposite_answers v s)
    acts cert (i.Join to a b at) is e S num = binary code facts (before (i.Join to a b at) is e S) refl t.Text t.Text t.Text to a b at (λ v w. step.join v w s) refl S.keeps.types S.keeps.present refl (λ v w. join_answers v w s)
    acts cert (i.TextLen to a) is e S num = sure code facts (before (i.TextLen to a) is e S) refl t.Text t.Int to a (λ v. text_length v s) refl S.keeps.types S.keeps.present refl (λ v. length_answers v s)
    acts cert (i.Slice to a x y at) is e S num =
        let types = and_parts _ _ S.keeps.types in let first = and_parts _ _ types.0 in
        let present = and_parts _ _ (and_parts _ _ S.keeps.present).0 in let there = and_parts _ _ present.0 in
        reading code facts (before (i.Slice to a x y at) is e S) a t.Text _ first.0 there.0 (λ v g.
        reading code facts (before (i.Slice to a x y at) is e S) x t.Int _ first.1 there.1 (λ u q.
        reading code facts (before (i.Slice to a x y at) is e S) y t.Int _ types.1 present.1 (λ w r.
        answering code facts (before (i.Slice to a x y at) is e S) refl t.Text to S.known.depth at (step.slice v u w s) refl refl (slice_answers v u w s g.shape q.shape r.shape))))
    acts cert (i.Byte to a x at) is e S num = binary code facts (before (i.Byte to a x at) is e S) refl t.Text t.Int t.Int to a x at (λ v w. step.byte v w s) refl S.keeps.types S.keeps.present refl (λ v w. byte_answers v w s)
    acts cert (i.TextOf to a) is e S num = sure code facts (before (i.TextOf to a) is e S) refl t.Int t.Text to a (λ v. step.text_of v s) refl S.keeps.types S.keeps.present refl (λ v. text_of_answers v s)
    acts cert (i.IsNum to a) is e S num = sure code facts (before (i.IsNum to a) is e S) refl t.Text t.Truth to a (λ v. step.is_number v s) refl S.keeps.types S.keeps.present refl (λ v. is_number_answers v s)
    acts cert (i.Num to a at) is e S num = unary code facts (before (i.Num to a at) is e S) refl t.Text t.Int to a at (λ v. step.number v s) refl S.keeps.types S.keeps.present refl (λ v. number_answers v s)
    acts cert (i.Print a choice) is e S num =
        let b = truth_is choice (and_parts _ _ num).1 in
        let p = printable (fact_of S.known.regs a) (read f.registers a) S.keeps.types S.keeps.present ((fits_here code facts (before (i.Print a choice) is e S)).each a) in
        subst (λ o. NextFits code facts (with_choice o s (λ line. with_value (read f.registers a) s (λ v. certain f None f.registers below s (print line v s))))) (sym b.1)
        (subst (λ o. NextFits code facts (with_value o s (λ v. certain f None f.registers below s (print b.0 v s)))) (sym p.1.1)
        (nothing code facts (before (i.Print a choice) is e S) refl (print b.0 p.1.0 s) refl (print_answers b.0 p.0 p.1.0 s p.1.2 p.1.3)))
    acts cert (i.Jump q) is e S num = jumping code facts (before (i.Jump q) is e S) q refl refl
    acts cert (i.Unless a q) is e S num =
        let v = reg_value code s.world S.known.regs f.registers a t.Truth (fits_here code facts (before (i.Unless a q) is e S)) S.keeps.types S.keeps.present in
        subst (λ o. NextFits code facts (with_truth o s (jump_unless code f q below s))) (sym v.1)
        (as_truth v.0 (λ v. NextFits code facts (with_truth (Some v) s (jump_unless code f q below s))) v.2.shape from)
      where
        from : (b : Bool) → NextFits code facts (jump_unless code f q below s b)
        from true = stays_on code facts (before (i.Unless a q) is e S) refl f.registers s refl (fits_here code facts (before (i.Unless a q) is e S)) (λ n. omega arith)
        from false = jumping code facts (before (i.Unless a q) is e S) q refl refl
    acts cert i.Tick is e S num = with_tick code facts s _ (λ u same_world. stays_on code facts (before i.Tick is e S) refl f.registers u same_world (fits_here code facts (before i.Tick is e S)) (λ n. omega arith))
    acts cert (i.Call to g args at) is e S num = calling code facts (before (i.Call to g args at) is e S) cert refl to g args at (slice_get code.funcs g) refl S.keeps.types S.keeps.present refl
    acts cert (i.Ret a) is e S num =
        let v = reg_value code s.world S.known.regs f.registers a F.func.result (fits_here code facts (before (i.Ret a) is e S)) (and_parts (not (is_void F.func.result)) (has F.func.result (fact_of S.known.regs a)) S.keeps.types).1 (and_parts _ _ S.keeps.present).0 in
        subst (λ o. NextFits code facts (with_value o s (λ v. function code f.function s (λ form func. leave_function form f.dest (Some v) below s)))) (sym v.1)
        (leaving code facts (before (i.Ret a) is e S) (Some v.0) (returned F.func.result v.0 v.2) (λ n. let x = put_owns n f.registers a None in let y = ap (λ o. own_in n o) v.1 in omega (arith, x, y)))
    acts cert i.RetVoid is e S num = leaving code facts (before i.RetVoid is e S) None (returned_nothing F.func.result S.keeps.types) (λ n. omega arith)
    acts cert (i.Move to a) is e S num = moving code facts (before (i.Move to a) is e S) refl to a S.keeps.types S.keeps.present refl
    acts cert (i.Borrow to a) is e S num = borrowing code facts (before (i.Borrow to a) is e S) refl to a S.keeps.types S.keeps.present refl
    acts cert (i.Destroy a at) is e S num = dropping code facts (before (i.Destroy a at) is e S) cert refl a at S.keeps.types S.keeps.present refl
    acts cert (i.LoadOwn to a field) is e S num = load_own code facts (before (i.LoadOwn to a field) is e S) cert refl to a field S.keeps.types S.keeps.present refl
    acts cert (i.Load to a field at) is e S num = load_found code facts (before (i.Load to a field at) is e S) cert refl to a field at S.keeps.types S.keeps.present refl
    acts cert (i.ElemOwn to a x at) is e S num = elem_own code facts (before (i.ElemOwn to a x at) is e S) cert refl to a x at S.keeps.types S.keeps.present refl
    acts cert (i.Elem to a x at) is e S num = elem_found code facts (before (i.Elem to a x at) is e S) cert refl to a x at S.keeps.types S.keeps.present refl
    acts cert (i.Len to a at) is e S num =
        len_found code facts (before (i.Len to a at) is e S) cert refl to a at S.keeps.types (and_parts (is_there (fact_of S.known.regs a)) (known.is_free (fact_of (finds_alive S.known.depth S.known.regs a) to)) S.keeps.present).0 refl
    acts cert (i.SwapOwn to a field b) is e S num = swap_own code facts (before (i.SwapOwn to a field b) is e S) cert refl to a field b S.keeps.types S.keeps.present refl
    acts cert (i.Swap to a field b at) is e S num = swap_found_at code facts (before (i.Swap to a field b at) is e S) cert refl to a field b at S.keeps.types S.keeps.present refl
    acts cert (i.SwapElOwn to a x b at) is e S num = swap_element_own code facts (before (i.SwapElOwn to a x b at) is e S) cert refl to a x b at S.keeps.types S.keeps.present refl
    acts cert (i.SwapEl to a x b at) is e S num = swap_element_found code facts (before (i.SwapEl to a x b at) is e S) cert refl to a x b at S.keeps.types S.keeps.present refl
    acts cert (i.Push a b at) is e S num = pushing code facts (before (i.Push a b at) is e S) cert refl a b at S.keeps.types S.keeps.present refl
    acts cert (i.Pop to a at) is e S num = popping code facts (before (i.Pop to a at) is e S) cert refl to a at S.keeps.types S.keeps.present refl
    acts cert (i.Make to kind args) is e S num = making code facts (before (i.Make to kind args) is e S) refl to kind args (kind_of code kind) refl S.keeps.types S.keeps.present refl
    acts cert (i.Open tos a) is e S num = opening code facts (before (i.Open tos a) is e S) cert refl tos a S.keeps.types S.keeps.present refl
    acts cert (i.Upcast to a kind) is e S num =
        upcasting code facts (before (i.Upcast to a kind) is e S) cert refl to a kind (fact_of S.known.regs a) ((fits_here code facts (before (i.Upcast to a kind) is e S)).each a) S.keeps.types
        (and_parts (is_there (fact_of S.known.regs a)) (known.is_free (fact_of (after_taking S.known.regs a (fact_of S.known.regs a)) to)) S.keeps.present).0 refl
    acts cert (i.CallM to interface method a args at) is e S num =
        method_called code facts (before (i.CallM to interface method a args at) is e S) cert refl to interface method a args at (method_of code interface method) refl S.keeps.types S.keeps.present refl
    acts cert _ is e S num = let x : false ≡ true = S.keeps.types in absurd (let y : ⊥ = cc in y)

    numbers_at : (before : List Instr) (instr : Instr) (instrs : List Instr) → list_all (numbers code F.func.registers) (before ++ instr ∷ instrs) ≡ true → numbers code F.func.registers instr ≡ true
    numbers_at [] instr instrs e = (and_parts _ _ e).0
    numbers_at (x ∷ before) instr instrs e = numbers_at before instr instrs (and_parts _ _ e).1

    -- a step leads on to what fits, or ends otherwise than wrong
    step_fits : Certified code facts → NextFits code facts (step_of code last (Running f) below s)
    step_fits cert = from F.rest refl F.walks
      where
        from : (is : List Instr) → F.rest ≡ is → walk code F.func F.of.labels F.is_judged.base f.place is F.came (Some F.known) ≡ None → NextFits code facts (step_of code last (Running f) below s)
        from [] e w =
            let whole : F.func.body ≡ F.before ++ [] = F.split ∙ ap (λ l. F.before ++ l) e in
            let long : length F.func.body ≡ length (F.before ++ []) = ap length whole in
            absurd (omega (arith, long, length-append F.before [], F.at, F.inside))
        from (instr ∷ instrs) e w =
            let whole : F.func.body ≡ F.before ++ instr ∷ instrs = F.split ∙ ap (λ l. F.before ++ l) e in
            let within : length F.before < length (F.before ++ instr ∷ instrs) = omega (arith, length-append F.before (instr ∷ instrs)) in
            let here : slice_get (F.before ++ instr ∷ instrs) (length F.before) ≡ Some instr = slice_get-get_or (F.before ++ instr ∷ instrs) (length F.before) instr within ∙ ap Some (get_or-append_seam F.before instr instrs instr) in
            let fetched : fetch code f.function f.place ≡ Some instr =
            ap (λ o. Rattle.vale_code.specs.Instructions.instruction_in o f.place) F.found ∙ ap (λ l. slice_get l f.place) whole ∙ ap (λ n. slice_get (F.before ++ instr ∷ instrs) n) (sym F.at) ∙ here in
            subst (λ o. NextFits code facts (act_if code last f below s o)) (sym fetched)
            (acts cert instr instrs e (stepped code F.func F.of.labels F.is_judged.base f.place instr instrs F.came (Some F.known) w)
            (numbers_at F.before instr instrs (subst (λ l. list_all (numbers code F.func.registers) l ≡ true) whole F.is_judged.numbered)))

  pub config_step : Certified code facts → (last : Config → State) (ty : Ty) (top : Frame) (below : List Frame) (s : State) → FrameFits code facts s.world ty top → StackFits code facts s.world ty (dest_of top) below → WorldFits code s.world
      → OwnedBeside code facts s.world (λ n. in_frame n top) below → NextFits code facts (step_of code last top below s)
  config_step cert last ty (Running f) below s fits st heap owned = step_fits last ty f below s fits st heap owned cert
  config_step cert last ty (Dropping f) below s fits st heap owned = drops_on code facts cert f.rest f below s (subst (λ ty. StackFits code facts s.world ty None below) fits st) heap owned
  config_step cert last ty (Looping f) below s fits st heap owned = absurd fits
  config_step cert last ty (Alone v) below s fits st heap owned = absurd fits

  pub never_wrong : Certified code facts → (last : Config → State) (n : ℕ) (c : Config) (e : Ending) → ConfigFits code facts c → exec_by code last n c ≡ Some e → e.end ≢ Wrong
  never_wrong cert last zero c e fits h = let x : ⊥ = cc in absurd x
  never_wrong cert last (suc n) c e fits h = from (step_by code last c) (config_step cert last fits.ty c.top c.below c.state fits.top fits.below fits.heap fits.owned) h (λ d g q. never_wrong cert last n d e g q)
    where
      from : (x : Next) → NextFits code facts x → then_go x (exec_by code last n) ≡ Some e → ((d : Config) → ConfigFits code facts d → exec_by code last n d ≡ Some e → e.end ≢ Wrong) → e.end ≢ Wrong
      from (On d) g q rest = rest d g q
      from (Over end v u) g q rest = λ w. g (let x : end ≡ Wrong = cc in x)
