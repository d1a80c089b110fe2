-- A function jumps, or is left.
use Rattle.std.proofs.Common.{◌≡◌, ℕ, ◌+◌, ◌≤◌, List, [], ◌∷◌, Option, Some, None, Bool, true, false, refl, sym, ap, ◌∙◌, subst, arith}
use Rattle.vale_state_spec.specs.State.{State}
use Rattle.vale_state_spec.specs.World.{Value}
use Rattle.vale_code.specs.Enter.{Form, Plain, Pure, Iteration, Destructor, form_of, function, with_func, with_form, leave_function}
use Rattle.vale_code.specs.Frames.{leave}
use Rattle.vale_code.specs.Instructions.{jump, jump_by, is_free, at_place}
use Rattle.vale_code.specs.Parts.{Parts}
use Rattle.vale_code.specs.declared.instr.Instr.{Instr}
use Rattle.vale_cert.specs.Known.{Known, entry, label_at, is_label, may_enter, stated}
use Rattle.vale_cert.specs.Walk.{after, enters, has_target, known_after, walk, target_of}
use Rattle.vale_cert.specs.declared.facts.FuncFacts.{FuncFacts}
use Rattle.vale_cert.specs.declared.facts.Label.{Label}
use Rattle.vale_cert.proofs.Fit.{RegsFit, WorldFits}
use Rattle.vale_cert.proofs.Placed.{known_labelled}
use Rattle.vale_cert.proofs.Heap.{own_in, in_regs}
use Rattle.vale_cert.proofs.Walks.{comes}
use Rattle.vale_cert.proofs.Standing.{Returns, Quiet, StackFits, OwnedBeside, NextFits, with_tick, left_fits}
use Rattle.vale_cert.proofs.Going.{Place, fits_here, row}

module _ (code : Parts) (facts : List FuncFacts) (P : Place code facts) where
  open P use {ty, f, below, s, F, under_it, heap, owned, instr, instrs, here, S}

  -- a jump to a label
  landing : (q : ℕ) (u : State) → u.world ≡ s.world → target_of instr ≡ Some q → (row code facts P).after ≡ S.known.regs → NextFits code facts (at_place f q below u)
  landing q u same_world target e = from (label_at F.of.labels q) refl
    where
      is_there_label : is_label (label_at F.of.labels q) ≡ true
      is_there_label = subst (λ o. has_target code F.func F.of.labels F.is_judged.base o ≡ true) target S.keeps.target

      may : may_enter (label_at F.of.labels q) (after code F.func F.of.labels F.is_judged.base instr S.known) ≡ true
      may = subst (λ o. enters code F.func F.of.labels F.is_judged.base o (after code F.func F.of.labels F.is_judged.base instr S.known) ≡ true) target S.keeps.enters_target

      -- a label replaces what was known
      again : (is : List Instr) (came : Bool) (o : Option Known) → walk code F.func F.of.labels F.is_judged.base q is came o ≡ None → (l : Label) → label_at F.of.labels q ≡ Some l → walk code F.func F.of.labels F.is_judged.base q is came (Some (after code F.func F.of.labels F.is_judged.base instr S.known)) ≡ None
      again [] came o w l g = refl
      again (i ∷ is) came o w l g =
          subst (λ x. Rattle.vale_cert.specs.Walk.if_known code F.func F.of.labels F.is_judged.base q x (λ known. Rattle.vale_cert.specs.Walk.or_else (Rattle.vale_cert.specs.Walk.fault_of (F.is_judged.base + q) (Rattle.vale_cert.specs.Walk.broken (Rattle.vale_cert.specs.Walk.rules code F.func F.of.labels F.is_judged.base q came i known))) (walk code F.func F.of.labels F.is_judged.base (q + 1) is true (known_after code F.func F.of.labels F.is_judged.base i known))) ≡ None)
          (ap (λ x. stated x o) g ∙ sym (ap (λ x. stated x (Some (after code F.func F.of.labels F.is_judged.base instr S.known))) g)) w

      from : (o : Option Label) → label_at F.of.labels q ≡ o → NextFits code facts (at_place f q below u)
      from None g = absurd (let x : is_label None ≡ true = subst (λ o. is_label o ≡ true) g is_there_label in let y : ⊥ = cc in y)
      from (Some l) g =
          let inside = F.is_judged.within q l g in
          let c = comes code F.func F.of.labels F.is_judged.base q 0 F.func.body F.is_judged.came (Some (entry F.func F.of)) (omega arith) (omega (arith, inside)) F.is_judged.walks in
          record {
            ty = ty;
            top = record {
              func = F.func;
              of = F.of;
              found = F.found;
              certified = F.certified;
              quiet = F.quiet;
              is_judged = F.is_judged;
              returns = F.returns;
              known = after code F.func F.of.labels F.is_judged.base instr S.known;
              states = known_labelled code F.func F.of q l inside g ∙ sym (ap (λ x. stated x (Some (after code F.func F.of.labels F.is_judged.base instr S.known))) g);
              fits = subst (λ x. RegsFit code u.world x f.registers) (sym e) (subst (λ w. RegsFit code w S.known.regs f.registers) (sym same_world) (fits_here code facts P));
              enters_here = may;
              before = c.before;
              rest = c.rest;
              split = c.split;
              at = omega (arith, c.at);
              inside = inside;
              came = c.came;
              walks = again c.rest c.came c.known c.walks l g;
            };
            below = subst (λ w. StackFits code facts w ty f.dest below) (sym same_world) under_it;
            heap = subst (λ w. WorldFits code w) (sym same_world) heap;
            owned = subst (λ w. OwnedBeside code facts w (λ n. in_regs n f.registers) below) (sym same_world) owned;
          }

  pub jumping : (q : ℕ) → target_of instr ≡ Some q → (row code facts P).after ≡ S.known.regs → NextFits code facts (jump code f q below s)
  jumping q target e = from (is_free code f q)
    where
      from : (b : Bool) → NextFits code facts (jump_by b f q below s)
      from true = landing q s refl target e
      from false = with_tick code facts s _ (λ u same_world. landing q u same_world target e)

  -- leaving the function
  pub leaving : (v : Option Value) → Returns code s.world F.func.result v → ((n : ℕ) → own_in n v ≤ in_regs n f.registers) → NextFits code facts (function code f.function s (λ form func. leave_function form f.dest v below s))
  leaving v h fewer = subst (λ o. NextFits code facts (with_func o s (λ form func. leave_function form f.dest v below s))) (sym F.found) (by_form (form_of F.func.form) F.quiet)
    where
      left : NextFits code facts (leave below f.dest v s)
      left = left_fits code facts ty f.dest v below s under_it (subst (λ r. Returns code s.world r v) F.returns h) heap (λ n. let x = owned n in let y = fewer n in omega (arith, x, y))

      by_form : (o : Option Form) → Quiet o → NextFits code facts (with_form o F.func s (λ form func. leave_function form f.dest v below s))
      by_form (Some Plain) q = left
      by_form (Some Destructor) q = left
      by_form (Some Pure) q = absurd q
      by_form (Some Iteration) q = absurd q
      by_form None q = absurd q
