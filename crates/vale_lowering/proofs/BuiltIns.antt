-- Built-in functions run as they mean.
use Rattle.std.proofs.Common.{◌≡◌, ℕ, ◌+◌, ◌≤◌, List, [], ◌∷◌, length, Some, None, Bool, true, false, refl, ap, ◌∙◌, subst, ◌⊎◌, inl, inr, arith}
use Rattle.vale_state_spec.specs.State.{State, Answer, fails, print, len}
use Rattle.vale_state_spec.specs.World.{Value}
use Rattle.vale_base.specs.declared.spot.Spot.{Spot}
use Rattle.vale_text.specs.Steps as o
use Rattle.vale_syntax.specs.declared.built_in.BuiltIn.{BuiltIn}
use Rattle.vale_syntax.specs.declared.built_in.BuiltIn.TheVariants as b
use Rattle.vale_model.specs.Runs.{Locals, answered}
use Rattle.vale_model.specs.Destruction.{Again}
use Rattle.vale_model.specs.Expressions.{built_in_run}
use Rattle.vale_code.specs.Instructions as steps
use Rattle.vale_code.specs.Instructions.{fetch, with_value, text_length}
use Rattle.vale_code.specs.Parts.{Parts}
use Rattle.vale_code.specs.Registers.{Registers, read}
use Rattle.vale_code.specs.declared.instr.Instr.{Instr}
use Rattle.vale_code.specs.declared.instr.Instr.TheVariants as i
use Rattle.vale_lowering.specs.Instructions.{stuck, built_in_code}
use Rattle.vale_lowering.specs.Scopes.{Scope}
use Rattle.vale_lowering.proofs.Registers.{IsPlain, ArePlain, Base, Falls, Agrees, agrees_down, with_all, with_all_below, Stand}
use Rattle.vale_lowering.proofs.Reaches.{Where, active, conf, calls_in, Reaches, StepFits, HasAt, In, does, wrongs, is_stuck, answers, surely, surely_nothing}
use Rattle.vale_lowering.proofs.Operations as fit
use Rattle.vale_lowering.proofs.Operators.{reads_two, reads_one}

module _ (code : Parts) (k : Where) (n : ℕ) (again : Again) (p h : ℕ) (s : Scope) (base : Base) (l : Locals) (regs : Registers) (w : State) (at : Spot) (fa : Falls h s) (few : w.left ≤ n) where
  -- what a call of the function owes
  abbrev Owed : BuiltIn → List Value → Bool → Type 0
  Owed f vs gives =
      ArePlain vs → Stand h vs regs → Agrees (h + length vs) s l (with_all h vs base) regs → HasAt code k.function p (built_in_code f (length vs) gives at h) →
      Reaches code k n (p + length (built_in_code f (length vs) gives at h)) (In gives h s base) (conf k p regs w) (built_in_run again at f vs (calls_in k) l w)

  none_here : (f : BuiltIn) (vs : List Value) (gives : Bool) → built_in_code f (length vs) gives at h ≡ stuck h → Owed f vs gives
  none_here f vs gives e pvs st ag has =
      is_stuck code k n p _ h (In gives h s base) regs w _ (subst (λ c. HasAt code k.function p c) e has)

  -- an instruction that has no trap
  sure : (vs : List Value) (x : Instr) (a : Answer) → StepFits true w a → Agrees (h + length vs) s l (with_all h vs base) regs → fetch code k.function p ≡ Some x → does code k n p regs w x ≡ steps.certain (active k p regs) (Some h) regs k.below w a → Reaches code k n (p + 1) (In true h s base) (conf k p regs w) (answered at a (calls_in k) l w)
  sure vs x a fits ag e d = surely code k n p h (h + length vs) s base (with_all h vs base) l regs w x at a fa (with_all_below h vs base) (omega arith) ag few fits e d

  -- one that may trap
  may : (vs : List Value) (x : Instr) (a : Answer) → StepFits true w a → Agrees (h + length vs) s l (with_all h vs base) regs → fetch code k.function p ≡ Some x → does code k n p regs w x ≡ steps.answered (active k p regs) (Some h) regs at k.below w a → Reaches code k n (p + 1) (In true h s base) (conf k p regs w) (answered at a (calls_in k) l w)
  may vs x a fits ag e d = answers code k n p h (h + length vs) s base (with_all h vs base) l regs w x at a fa (with_all_below h vs base) (omega arith) ag few fits e d

  prints : (line : Bool) (v : Value) (x : Instr) → IsPlain v → Agrees (h + 1) s l (with_all h (v ∷ []) base) regs → fetch code k.function p ≡ Some x → does code k n p regs w x ≡ steps.certain (active k p regs) None regs k.below w (print line v w) → Reaches code k n (p + 1) (In false h s base) (conf k p regs w) (answered at (print line v w) (calls_in k) l w)
  prints line v x pv ag e d =
      surely_nothing code k n p h h s base l regs w x at (print line v w) (agrees_down s l base (with_all h (v ∷ []) base) h (h + 1) regs (omega arith) (with_all_below h (v ∷ []) base) ag) few (fit.print_fits w line v) e d

  lengths : (v : Value) → IsPlain v → (text_length v w ≡ len v w) ⊎ (text_length v w ≡ fails) → Agrees (h + 1) s l (with_all h (v ∷ []) base) regs → read regs h ≡ Some v → fetch code k.function p ≡ Some (i.TextLen h h) → Reaches code k n (p + 1) (In true h s base) (conf k p regs w) (answered at (len v w) (calls_in k) l w)
  lengths v pv (inl is) ag r e =
      subst (λ a. Reaches code k n (p + 1) (In true h s base) (conf k p regs w) (answered at a (calls_in k) l w)) is
      (sure (v ∷ []) (i.TextLen h h) (text_length v w) (fit.length_fits w v pv) ag e (reads_one regs w h v (λ v. steps.certain (active k p regs) (Some h) regs k.below w (text_length v w)) r))
  lengths v pv (inr is) ag r e =
      wrongs code k n p (p + 1) (In true h s base) regs w (i.TextLen h h) (answered at (len v w) (calls_in k) l w) w None e
      (reads_one regs w h v (λ v. steps.certain (active k p regs) (Some h) regs k.below w (text_length v w)) r ∙ ap (λ a. steps.certain (active k p regs) (Some h) regs k.below w a) is)

  pub built_ins : (f : BuiltIn) (vs : List Value) (gives : Bool) → Owed f vs gives
  built_ins b.Print (v ∷ []) false pvs st ag has = prints false v (i.Print h 0) pvs.0 ag has.0 (reads_one regs w h v (λ v. steps.certain (active k p regs) None regs k.below w (print false v w)) st.0)
  built_ins b.Print [] gives pvs st ag has = none_here b.Print [] gives refl pvs st ag has
  built_ins b.Print (v ∷ []) true pvs st ag has = none_here b.Print (v ∷ []) true refl pvs st ag has
  built_ins b.Print (v ∷ u ∷ vs) gives pvs st ag has = none_here b.Print (v ∷ u ∷ vs) gives refl pvs st ag has
  built_ins b.Println (v ∷ []) false pvs st ag has = prints true v (i.Print h 1) pvs.0 ag has.0 (reads_one regs w h v (λ v. steps.certain (active k p regs) None regs k.below w (print true v w)) st.0)
  built_ins b.Println [] gives pvs st ag has = none_here b.Println [] gives refl pvs st ag has
  built_ins b.Println (v ∷ []) true pvs st ag has = none_here b.Println (v ∷ []) true refl pvs st ag has
  built_ins b.Println (v ∷ u ∷ vs) gives pvs st ag has = none_here b.Println (v ∷ u ∷ vs) gives refl pvs st ag has
  built_ins b.Drop vs gives pvs st ag has = none_here b.Drop vs gives refl pvs st ag has
  built_ins b.Push vs gives pvs st ag has = none_here b.Push vs gives refl pvs st ag has
  built_ins b.Pop vs gives pvs st ag has = none_here b.Pop vs gives refl pvs st ag has
  built_ins b.Len (v ∷ []) true pvs st ag has = lengths v pvs.0 (fit.lengths w v) ag st.0 has.0
  built_ins b.Len [] gives pvs st ag has = none_here b.Len [] gives refl pvs st ag has
  built_ins b.Len (v ∷ []) false pvs st ag has = none_here b.Len (v ∷ []) false refl pvs st ag has
  built_ins b.Len (v ∷ u ∷ vs) gives pvs st ag has = none_here b.Len (v ∷ u ∷ vs) gives refl pvs st ag has
  built_ins b.Text (v ∷ []) true pvs st ag has = sure (v ∷ []) (i.TextOf h h) (o.text_of v w) (fit.text_of_fits w v pvs.0) ag has.0 (reads_one regs w h v (λ v. steps.certain (active k p regs) (Some h) regs k.below w (o.text_of v w)) st.0)
  built_ins b.Text [] gives pvs st ag has = none_here b.Text [] gives refl pvs st ag has
  built_ins b.Text (v ∷ []) false pvs st ag has = none_here b.Text (v ∷ []) false refl pvs st ag has
  built_ins b.Text (v ∷ u ∷ vs) gives pvs st ag has = none_here b.Text (v ∷ u ∷ vs) gives refl pvs st ag has
  built_ins b.IsNumber (v ∷ []) true pvs st ag has = sure (v ∷ []) (i.IsNum h h) (o.is_number v w) (fit.is_number_fits w v pvs.0) ag has.0 (reads_one regs w h v (λ v. steps.certain (active k p regs) (Some h) regs k.below w (o.is_number v w)) st.0)
  built_ins b.IsNumber [] gives pvs st ag has = none_here b.IsNumber [] gives refl pvs st ag has
  built_ins b.IsNumber (v ∷ []) false pvs st ag has = none_here b.IsNumber (v ∷ []) false refl pvs st ag has
  built_ins b.IsNumber (v ∷ u ∷ vs) gives pvs st ag has = none_here b.IsNumber (v ∷ u ∷ vs) gives refl pvs st ag has
  built_ins b.Number (v ∷ []) true pvs st ag has = may (v ∷ []) (i.Num h h at) (o.number v w) (fit.number_fits w v pvs.0) ag has.0 (reads_one regs w h v (λ v. steps.answered (active k p regs) (Some h) regs at k.below w (o.number v w)) st.0)
  built_ins b.Number [] gives pvs st ag has = none_here b.Number [] gives refl pvs st ag has
  built_ins b.Number (v ∷ []) false pvs st ag has = none_here b.Number (v ∷ []) false refl pvs st ag has
  built_ins b.Number (v ∷ u ∷ vs) gives pvs st ag has = none_here b.Number (v ∷ u ∷ vs) gives refl pvs st ag has
  built_ins b.Byte (v ∷ u ∷ []) true pvs st ag has = may (v ∷ u ∷ []) (i.Byte h h (h + 1) at) (o.byte v u w) (fit.byte_fits w v u pvs.0 pvs.1.0) ag has.0 (reads_two regs w h (h + 1) v u (λ v u. steps.answered (active k p regs) (Some h) regs at k.below w (o.byte v u w)) st.0 st.1.0)
  built_ins b.Byte [] gives pvs st ag has = none_here b.Byte [] gives refl pvs st ag has
  built_ins b.Byte (v ∷ []) gives pvs st ag has = none_here b.Byte (v ∷ []) gives refl pvs st ag has
  built_ins b.Byte (v ∷ u ∷ []) false pvs st ag has = none_here b.Byte (v ∷ u ∷ []) false refl pvs st ag has
  built_ins b.Byte (v ∷ u ∷ x ∷ vs) gives pvs st ag has = none_here b.Byte (v ∷ u ∷ x ∷ vs) gives refl pvs st ag has
  built_ins b.Slice (v ∷ a ∷ c ∷ []) true pvs st ag has =
      may (v ∷ a ∷ c ∷ []) (i.Slice h h (h + 1) (h + 1 + 1) at) (o.slice v a c w) (fit.slice_fits w v a c pvs.0 pvs.1.0 pvs.1.1.0) ag has.0
      (reads_one regs w h v (λ v. with_value (read regs (h + 1)) w (λ a. with_value (read regs (h + 1 + 1)) w (λ c. steps.answered (active k p regs) (Some h) regs at k.below w (o.slice v a c w)))) st.0
      ∙ reads_two regs w (h + 1) (h + 1 + 1) a c (λ a c. steps.answered (active k p regs) (Some h) regs at k.below w (o.slice v a c w)) st.1.0 st.1.1.0)
  built_ins b.Slice [] gives pvs st ag has = none_here b.Slice [] gives refl pvs st ag has
  built_ins b.Slice (v ∷ []) gives pvs st ag has = none_here b.Slice (v ∷ []) gives refl pvs st ag has
  built_ins b.Slice (v ∷ u ∷ []) gives pvs st ag has = none_here b.Slice (v ∷ u ∷ []) gives refl pvs st ag has
  built_ins b.Slice (v ∷ a ∷ c ∷ []) false pvs st ag has = none_here b.Slice (v ∷ a ∷ c ∷ []) false refl pvs st ag has
  built_ins b.Slice (v ∷ a ∷ c ∷ d ∷ vs) gives pvs st ag has = none_here b.Slice (v ∷ a ∷ c ∷ d ∷ vs) gives refl pvs st ag has
