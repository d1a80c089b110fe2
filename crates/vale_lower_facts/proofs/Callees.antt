-- How the walk goes through calls.
use Rattle.std.proofs.Common.{◌≡◌, ℕ, zero, suc, ◌+◌, ◌<◌, ◌≤◌, List, [], ◌∷◌, length, map, Some, Bool, true, false, ◌&&◌, ◌||◌, if◌then◌else◌, max, refl, sym, ap, ◌∙◌, subst, arith}
use Rattle.std.specs.Prelude.{slice_get, slice_set, nat_lt}
use Rattle.std.specs.List.{list_all}
use Rattle.std.proofs.lemmas.Bool.{and_parts, and_from, lt-ltb, eq-eqb}
use Rattle.std.proofs.lemmas.Option.{slice_get_within}
use Rattle.vale_base.specs.declared.spot.Spot.{Spot}
use Rattle.vale_syntax.specs.declared.built_in.BuiltIn.{BuiltIn}
use Rattle.vale_syntax.specs.declared.built_in.BuiltIn.TheVariants as b
use Rattle.vale_syntax.specs.declared.tree.NameAt.{NameAt}
use Rattle.vale_rules_spec.specs.Declarations.{head_params}
use Rattle.vale_rules_spec.specs.Types.{Ty}
use Rattle.vale_rules_spec.specs.Types as y
use Rattle.vale_rules_spec.specs.TypeRules.{is_int, is_array_ref, takes_arguments, built_in_gives, param_types}
use Rattle.vale_rules_spec.specs.Typed.{Expr, Exprs, no_exprs, more_exprs, type, types, Function}
use Rattle.vale_model.specs.Kinds.{head_of}
use Rattle.vale_model.specs.Parts.{first_function, has_name}
use Rattle.vale_code.specs.Operands.{room_of, room_for}
use Rattle.vale_code.specs.declared.instr.Instr.{Instr}
use Rattle.vale_code.specs.declared.instr.Instr.TheVariants as i
use Rattle.vale_code.specs.declared.ty.Ty.{Ty as CodeTy}
use Rattle.vale_code.specs.declared.ty.Ty.TheVariants as t
use Rattle.vale_cert.specs.Known.{Known, fact_of}
use Rattle.vale_cert.specs.Rules.{Effect, gets, passes_all, comes_back, all_fine, calls, call_by_form}
use Rattle.vale_cert.specs.declared.facts.RegFact.TheVariants.{Held}
use Rattle.vale_served_spec.specs.Served.{type_is_served, built_in_is_served}
use Rattle.vale_lowering.specs.Instructions.{registers_from, built_in_code}
use Rattle.vale_lowering.specs.Lowered.{count, call_code}
use Rattle.vale_lowering.specs.Scopes.{code_type, agree, may_be_called, number_of_function, result_type}
use Rattle.vale_lower_facts.specs.Slots.{waits, holds, Stand, with_slot, given, type_at}
use Rattle.vale_lower_facts.specs.Marks.{mark, marked, with_args}
use Rattle.vale_lower_facts.specs.WellTyped.{IsBuiltIn, IsCalled}
use Rattle.vale_lower_facts.proofs.Stands.{Site, Covers, covers_less, covers_write, covers_kept, is_plain, plain_free, plain_less, plain_given, Below, below_slot}
use Rattle.vale_lower_facts.proofs.Runs.{row_at, Does, Runs, single}
use Rattle.vale_lower_facts.proofs.Rows.{Fine, all_kept, Stored, all_passed, numbered, print_runs, len_runs, text_of_runs, slice_runs, byte_runs, is_num_runs, num_runs}
use Rattle.vale_lower_facts.proofs.Names.{copies_too, IsFunc, Context, says_args, arg_here}
use Rattle.vale_lower_facts.proofs.Operators.{int_type, chosen_marked}

-- ---- types of arguments

str_type : (x : Ty) → y.same x y.str ≡ true → x ≡ y.str
str_type y.str e = refl
str_type _ e = let f : ⊥ = cc in absurd f

measured : (x : Ty) → (y.same x y.str || is_array_ref x) ≡ true → type_is_served x ≡ true → x ≡ y.str
measured y.str e c = refl
measured y.void e c = absurd (cc)
measured y.int e c = absurd (cc)
measured y.bool e c = absurd (cc)
measured (y.kind m) e c = absurd (cc)
measured (y.array x) e c = absurd (cc)
measured (y.ref x) e c = absurd (cc)
measured (y.imm x) e c = absurd (cc)
measured (y.iso x) e c = absurd (cc)

pub agree_with_itself : (b : Bool) → agree b b ≡ true
agree_with_itself true = refl
agree_with_itself false = refl

pub count_types : (es : Exprs) → count es ≡ length (types es)
count_types no_exprs = refl
count_types (more_exprs e es) = ap suc (count_types es)

module _ (k : Site) where
  -- ---- built-in functions

  abbrev BuiltInRuns : BuiltIn → Exprs → Ty → Spot → ℕ → ℕ → Stand → Bool → Type 0
  BuiltInRuns f es x at p h s due =
      Runs k p (built_in_code f (count es) (y.is_copy x) at h) (marked due (with_args es h s) (built_in_code f (count es) (y.is_copy x) at h)) due (with_args es h s) false (given (y.is_copy x) h x s)

  module _ (at : Spot) (p h : ℕ) (s : Stand) (due : Bool) (below : Below k h s) where
    -- the types of the first arguments
    first_arg : (e : Expr) (es : Exprs) (ty : CodeTy) → code_type (type e) ≡ ty → type_at k.last (with_args (more_exprs e es) h s) h ≡ Some ty
    first_arg e es ty q = arg_here k e es h below ∙ ap Some q

    second_arg : (e f : Expr) (es : Exprs) (ty : CodeTy) → code_type (type f) ≡ ty → type_at k.last (with_args (more_exprs e (more_exprs f es)) h s) (h + 1) ≡ Some ty
    second_arg e f es ty q = arg_here k f es (h + 1) (below_slot k (waits h (type e)) below) ∙ ap Some q

    third_arg : (e f g : Expr) (es : Exprs) (ty : CodeTy) → code_type (type g) ≡ ty → type_at k.last (with_args (more_exprs e (more_exprs f (more_exprs g es))) h s) (h + 1 + 1) ≡ Some ty
    third_arg e f g es ty q = arg_here k g es (h + 1 + 1) (below_slot k (waits (h + 1) (type f)) (below_slot k (waits h (type e)) below)) ∙ ap Some q

    built_in_typed : (f : BuiltIn) (es : Exprs) → built_in_is_served f ≡ true → list_all type_is_served (types es) ≡ true → takes_arguments [] f (types es) ≡ true → BuiltInRuns f es (built_in_gives f (types es)) at p h s due
    built_in_typed b.Print (more_exprs e no_exprs) c cs ok = print_runs k h 0 (code_type (type e)) (omega arith) (copies_too (type e) ok) (first_arg e no_exprs (code_type (type e)) refl) (says_args k (more_exprs e no_exprs) h below)
    built_in_typed b.Print no_exprs c cs ok = absurd (cc)
    built_in_typed b.Print (more_exprs e (more_exprs f es)) c cs ok = absurd (cc)
    built_in_typed b.Println (more_exprs e no_exprs) c cs ok = print_runs k h 1 (code_type (type e)) (omega arith) (copies_too (type e) ok) (first_arg e no_exprs (code_type (type e)) refl) (says_args k (more_exprs e no_exprs) h below)
    built_in_typed b.Println no_exprs c cs ok = absurd (cc)
    built_in_typed b.Println (more_exprs e (more_exprs f es)) c cs ok = absurd (cc)
    built_in_typed b.Len (more_exprs e no_exprs) c cs ok =
        len_runs k h h (first_arg e no_exprs t.Text (ap code_type (measured (type e) ok (and_parts (type_is_served (type e)) true cs).0))) (says_args k (more_exprs e no_exprs) h below)
    built_in_typed b.Len no_exprs c cs ok = absurd (cc)
    built_in_typed b.Len (more_exprs e (more_exprs f es)) c cs ok = absurd (cc)
    built_in_typed b.Text (more_exprs e no_exprs) c cs ok = text_of_runs k h h (first_arg e no_exprs t.Int (ap code_type (int_type (type e) ok))) (says_args k (more_exprs e no_exprs) h below)
    built_in_typed b.Text no_exprs c cs ok = absurd (cc)
    built_in_typed b.Text (more_exprs e (more_exprs f es)) c cs ok = absurd (cc)
    built_in_typed b.Slice (more_exprs e (more_exprs f (more_exprs g no_exprs))) c cs ok =
        let two = and_parts (y.same (type e) y.str && is_int (type f)) (is_int (type g)) ok in
        let one = and_parts (y.same (type e) y.str) (is_int (type f)) two.0 in
        slice_runs k h h (h + 1) (h + 1 + 1) at
        (first_arg e (more_exprs f (more_exprs g no_exprs)) t.Text (ap code_type (str_type (type e) one.0)))
        (second_arg e f (more_exprs g no_exprs) t.Int (ap code_type (int_type (type f) one.1)))
        (third_arg e f g no_exprs t.Int (ap code_type (int_type (type g) two.1)))
        (says_args k (more_exprs e (more_exprs f (more_exprs g no_exprs))) h below)
    built_in_typed b.Slice no_exprs c cs ok = absurd (cc)
    built_in_typed b.Slice (more_exprs e no_exprs) c cs ok = absurd (cc)
    built_in_typed b.Slice (more_exprs e (more_exprs f no_exprs)) c cs ok = absurd (cc)
    built_in_typed b.Slice (more_exprs e (more_exprs f (more_exprs g (more_exprs j es)))) c cs ok = absurd (cc)
    built_in_typed b.Byte (more_exprs e (more_exprs f no_exprs)) c cs ok =
        let one = and_parts (y.same (type e) y.str) (is_int (type f)) ok in
        byte_runs k h h (h + 1) at
        (first_arg e (more_exprs f no_exprs) t.Text (ap code_type (str_type (type e) one.0)))
        (second_arg e f no_exprs t.Int (ap code_type (int_type (type f) one.1)))
        (says_args k (more_exprs e (more_exprs f no_exprs)) h below)
    built_in_typed b.Byte no_exprs c cs ok = absurd (cc)
    built_in_typed b.Byte (more_exprs e no_exprs) c cs ok = absurd (cc)
    built_in_typed b.Byte (more_exprs e (more_exprs f (more_exprs g es))) c cs ok = absurd (cc)
    built_in_typed b.IsNumber (more_exprs e no_exprs) c cs ok = is_num_runs k h h (first_arg e no_exprs t.Text (ap code_type (str_type (type e) ok))) (says_args k (more_exprs e no_exprs) h below)
    built_in_typed b.IsNumber no_exprs c cs ok = absurd (cc)
    built_in_typed b.IsNumber (more_exprs e (more_exprs f es)) c cs ok = absurd (cc)
    built_in_typed b.Number (more_exprs e no_exprs) c cs ok = num_runs k h h at (first_arg e no_exprs t.Text (ap code_type (str_type (type e) ok))) (says_args k (more_exprs e no_exprs) h below)
    built_in_typed b.Number no_exprs c cs ok = absurd (cc)
    built_in_typed b.Number (more_exprs e (more_exprs f es)) c cs ok = absurd (cc)
    built_in_typed b.Drop es c cs ok = absurd (cc)
    built_in_typed b.Push es c cs ok = absurd (cc)
    built_in_typed b.Pop es c cs ok = absurd (cc)

    pub built_in_runs : (f : BuiltIn) (es : Exprs) (x : Ty) → built_in_is_served f ≡ true → list_all type_is_served (types es) ≡ true → IsBuiltIn f (types es) x → BuiltInRuns f es x at p h s due
    built_in_runs f es x c cs su = subst (λ x. BuiltInRuns f es x at p h s due) (sym su.given) (built_in_typed f es c cs su.taken)

  -- ---- functions of the program

  stored : (known : Known) (es : Exprs) (h : ℕ) (s : Stand) → Below k h s → Covers k known (with_args es h s) → room_of (registers_from h (count es)) ≤ k.func.registers → Stored k known.regs h (types es)
  stored known no_exprs h s b c room = tt
  stored known (more_exprs e es) h s b c room = (
    c.held h (code_type (type e)) (omega (arith, room)) (arg_here k e es h b),
    stored known es (h + 1) (with_slot (waits h (type e)) s) (below_slot k (waits h (type e)) b) c (omega (arith, room)),
  )

  -- what comes back from a call
  record Back (to : ℕ) (x : Ty) (known : Known) (s : Stand) (row : Effect) : Type 0 where
    fine : Fine row.kept
    covers : Covers k (record { depth = known.depth; regs = row.after }) (given (y.is_copy x) to x s)

  gets_back : (to : ℕ) (x : Ty) (known : Known) (s : Stand) (row : Effect) → y.is_copy x ≡ true → comes_back known.depth (code_type x) to row ≡ gets known.depth row.after to (code_type x) row.kept → Fine row.kept → row.after ≡ known.regs → Covers k known s → Back to x known s (comes_back known.depth (code_type x) to row)
  gets_back to x known s row copy e f same c =
      subst (Back to x known s) (sym e)
      (record {
        fine = record { types = f.types; present = and_from _ _ f.present (plain_free (fact_of row.after to) (subst (λ r. is_plain (fact_of r to) ≡ true) (sym same) (c.plain to))); depths = f.depths };
        covers =
            subst (λ g. Covers k (record { depth = known.depth; regs = slice_set row.after to (Held (code_type x) known.depth false) }) (given g to x s)) (sym copy)
            (subst (λ r. Covers k (record { depth = known.depth; regs = slice_set r to (Held (code_type x) known.depth false) }) (with_slot (holds to x) s)) (sym same) (covers_write k (holds to x) (copies_too x copy) c));
      })

  comes_does : (to : ℕ) (x : Ty) (known : Known) (s : Stand) (row : Effect) → type_is_served x ≡ true → Fine row.kept → row.after ≡ known.regs → Covers k known s → Back to x known s (comes_back known.depth (code_type x) to row)
  comes_does to y.int known s row cov f same c = gets_back to y.int known s row refl refl f same c
  comes_does to y.bool known s row cov f same c = gets_back to y.bool known s row refl refl f same c
  comes_does to y.str known s row cov f same c = gets_back to y.str known s row refl refl f same c
  comes_does to y.void known s row cov f same c = record { fine = f; covers = subst (λ r. Covers k (record { depth = known.depth; regs = r }) s) (sym same) (covers_kept k c) }
  comes_does to (y.kind m) known s row cov f same c = absurd (cc)
  comes_does to (y.array x) known s row cov f same c = absurd (cc)
  comes_does to (y.ref x) known s row cov f same c = absurd (cc)
  comes_does to (y.imm x) known s row cov f same c = absurd (cc)
  comes_does to (y.iso x) known s row cov f same c = absurd (cc)

  module _ (n : ℕ) (f : Function) (fc : IsFunc (slice_get k.code.funcs n) f) (es : Exprs) (taken : types es ≡ param_types (head_params (head_of f))) (at : Spot) (h : ℕ) (s : Stand) (below : Below k h s) where
    abbrev instr : Instr
    instr = i.Call h n (registers_from h (count es)) at

    abbrev passing : Known → Effect
    passing known = passes_all known.depth (map code_type (types es)) (registers_from h (length (types es))) (all_fine known.regs)

    passing_is : (known : Known) → passes_all known.depth fc.func.params (registers_from h (count es)) (all_fine known.regs) ≡ passing known
    passing_is known =
        ap (λ ps. passes_all known.depth ps (registers_from h (count es)) (all_fine known.regs)) (fc.params ∙ ap (map code_type) (sym taken))
        ∙ ap (λ m. passes_all known.depth (map code_type (types es)) (registers_from h m) (all_fine known.regs)) (count_types es)

    row_is : (known : Known) → row_at k instr known ≡ comes_back known.depth (code_type (result_type f)) h (passing known)
    row_is known =
        ap (λ o. calls known.depth known.regs o h (registers_from h (count es))) fc.is
        ∙ ap (λ b. call_by_form b known.depth known.regs fc.func h (registers_from h (count es))) (eq-eqb fc.func.form 0 fc.form)
        ∙ ap (λ r. comes_back known.depth r h (passes_all known.depth fc.func.params (registers_from h (count es)) (all_fine known.regs))) fc.result
        ∙ ap (comes_back known.depth (code_type (result_type f)) h) (passing_is known)

    copies : list_all y.is_copy (types es) ≡ true
    copies = ap (list_all y.is_copy) taken ∙ fc.copies

    call_does : room_for instr ≤ k.func.registers → (known : Known) → Covers k known (with_args es h s) → Does k instr known (given (y.is_copy (result_type f)) h (result_type f) s)
    call_does room known c =
        let p = all_passed k known.depth known.regs h (types es) (all_fine known.regs) copies (stored known es h s below c (omega (arith, room))) refl all_kept in
        let q = comes_does h (result_type f) known s (passing known) fc.covered p.0 p.1 (covers_less k c (says_args k es h below)) in
        record {
          types = ap (λ r. r.kept.types) (row_is known) ∙ q.fine.types;
          present = ap (λ r. r.kept.present) (row_is known) ∙ q.fine.present;
          depths = ap (λ r. r.kept.depths) (row_is known) ∙ q.fine.depths;
          covers = subst (λ r. Covers k (record { depth = known.depth; regs = r.after }) (given (y.is_copy (result_type f)) h (result_type f) s)) (sym (row_is known)) q.covers;
        }

    call_single : {p : ℕ} {due : Bool} → Runs k p (instr ∷ []) (mark due (with_args es h s) ∷ []) due (with_args es h s) false (given (y.is_copy (result_type f)) h (result_type f) s)
    call_single = single k instr refl refl (numbered k instr (lt-ltb n (length k.code.funcs) (slice_get_within k.code.funcs n fc.func fc.is))) call_does (λ p. plain_given k (y.is_copy (result_type f)) h (result_type f) (λ q. copies_too (result_type f) q) (plain_less k (says_args k es h below) p))

  pub call_runs : (c : Context k) (n : NameAt) (es : Exprs) (x : Ty) (p h : ℕ) (s : Stand) (due : Bool) → IsCalled c.around.functions n (types es) x → Below k h s
      → Runs k p (call_code c.around (y.is_copy x) n (count es) h) (marked due (with_args es h s) (call_code c.around (y.is_copy x) n (count es) h)) due (with_args es h s) false (given (y.is_copy x) h x s)
  call_runs c n es x p h s due su below =
      let fc = c.called n.name.0 su.is su.found in
      chosen_marked k (i.Call h (number_of_function (has_name n.name.0) c.around.functions) (registers_from h (count es)) n.at ∷ [])
      (may_be_called (y.is_copy x) (first_function (has_name n.name.0) c.around.functions)) h
      (ap (may_be_called (y.is_copy x)) su.found ∙ ap (λ b. if b then false else agree (y.is_copy x) (y.is_copy (result_type su.is))) fc.plain
      ∙ ap (λ z. agree (y.is_copy z) (y.is_copy (result_type su.is))) su.given ∙ agree_with_itself (y.is_copy (result_type su.is)))
      (subst (λ x. Runs k p (i.Call h (number_of_function (has_name n.name.0) c.around.functions) (registers_from h (count es)) n.at ∷ []) (mark due (with_args es h s) ∷ []) due (with_args es h s) false (given (y.is_copy x) h x s))
      (sym su.given)
      (call_single (number_of_function (has_name n.name.0) c.around.functions) su.is fc es su.taken n.at h s below))

  -- the arguments are copy values
  pub args_copy : (c : Context k) (n : NameAt) (es : Exprs) (x : Ty) → IsCalled c.around.functions n (types es) x → list_all y.is_copy (types es) ≡ true
  args_copy c n es x su = ap (list_all y.is_copy) su.taken ∙ (c.called n.name.0 su.is su.found).copies

-- those of a built-in function too
copy_str : (x : Ty) → y.same x y.str ≡ true → y.is_copy x ≡ true
copy_str x e = ap y.is_copy (str_type x e)

copy_int : (x : Ty) → is_int x ≡ true → y.is_copy x ≡ true
copy_int x e = ap y.is_copy (int_type x e)

pub built_in_copies : (f : BuiltIn) (tys : List Ty) → built_in_is_served f ≡ true → list_all type_is_served tys ≡ true → takes_arguments [] f tys ≡ true → list_all y.is_copy tys ≡ true
built_in_copies b.Print (x ∷ []) c cs ok = and_from _ _ ok refl
built_in_copies b.Println (x ∷ []) c cs ok = and_from _ _ ok refl
built_in_copies b.Len (x ∷ []) c cs ok = and_from _ _ (ap y.is_copy (measured x ok (and_parts (type_is_served x) true cs).0)) refl
built_in_copies b.Text (x ∷ []) c cs ok = and_from _ _ (copy_int x ok) refl
built_in_copies b.Slice (x ∷ z ∷ w ∷ []) c cs ok =
    let two = and_parts (y.same x y.str && is_int z) (is_int w) ok in
    let one = and_parts (y.same x y.str) (is_int z) two.0 in
    and_from _ _ (copy_str x one.0) (and_from _ _ (copy_int z one.1) (and_from _ _ (copy_int w two.1) refl))
built_in_copies b.Byte (x ∷ z ∷ []) c cs ok =
    let one = and_parts (y.same x y.str) (is_int z) ok in
    and_from _ _ (copy_str x one.0) (and_from _ _ (copy_int z one.1) refl)
built_in_copies b.IsNumber (x ∷ []) c cs ok = and_from _ _ (copy_str x ok) refl
built_in_copies b.Number (x ∷ []) c cs ok = and_from _ _ (copy_str x ok) refl
built_in_copies _ _ c cs ok = let f : ⊥ = cc in absurd f
