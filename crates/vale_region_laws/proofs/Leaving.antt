-- Instructions that leave the function that is under way, or put a frame on it: its end, a destruction, a call, a loop.
use Rattle.std.proofs.Common.{◌≡◌, ◌≢◌, ◌≤◌, ℕ, zero, suc, List, [], ◌∷◌, Option, Some, None, ◌⊎◌, inl, inr, refl, sym, ◌∙◌, subst, arith}
use Rattle.vale_state_spec.specs.State.{State}
use Rattle.vale_state_spec.specs.World.{Value, Ref, Freeze}
use Rattle.vale_base.specs.declared.spot.Spot.{Spot}
use Rattle.vale_code.specs.Act.{act, called}
use Rattle.vale_code.specs.Enter.{Form, Plain, Pure, Iteration, Destructor, leave_function}
use Rattle.vale_code.specs.Frames.{Active, Frame, Running, Config, Next}
use Rattle.vale_code.specs.Instructions.{behind, with_value}
use Rattle.vale_code.specs.Kinds.{result_to}
use Rattle.vale_code.specs.Parts.{Parts}
use Rattle.vale_code.specs.Registers.{Registers, read, put}
use Rattle.vale_code.specs.declared.func.Func.{Func}
use Rattle.vale_code.specs.declared.instr.Instr.TheVariants as i
use Rattle.vale_region_laws.specs.Asks.{EndAsks}
use Rattle.vale_region_laws.specs.Configs.{IsUnder, Standing, MarkUnder, base_of, form_at, StackFits, ConfigFits, NextFits, in_args}
use Rattle.vale_region_laws.specs.Holding.{Marks, mark, put_mark, held_as, in_register, in_registers, in_frames}
use Rattle.vale_region_laws.specs.Passing.{IsPlain}
use Rattle.vale_region_laws.specs.Regions.{Each, Homes, How, Held, Seen, Holder, holding, NoDeeper, HoldsNoIso}
use Rattle.vale_region_laws.proofs.Dropping.{with_known, destroy_fits}
use Rattle.vale_region_laws.proofs.Frames.{enter_fits, leave_held, leave_seen, leave_without, pure_ends, pure_ends_without, iteration_ends, iteration_ends_without}
use Rattle.vale_region_laws.proofs.Holding.{take_fits, add_fits, plain_owns, plain_held}
use Rattle.vale_region_laws.proofs.Looping.{Behind, behind_same, drop_fits}
use Rattle.vale_region_laws.proofs.Standing.{standing_deeper, standing_registers, standing_no_deeper, stack_stands, base_out}
use Rattle.vale_region_laws.proofs.States.{FitsAt}

-- ---- registers are let go

pub registers_behind : (ms : Marks) (regs : Registers) (hs : List Holder) → Behind (in_registers ms regs hs) hs
registers_behind [] regs hs = behind_same hs
registers_behind (m ∷ ms) [] hs = behind_same hs
registers_behind (m ∷ ms) (x ∷ regs) hs = at m x (registers_behind ms regs hs)
  where
    at : (m : Option How) (x : Option Value) → Behind (in_registers ms regs hs) hs → Behind (in_register m x (in_registers ms regs hs)) hs
    at None x b = b
    at (Some h) None b = b
    at (Some h) (Some v) b = record { counts = λ n. let y = b.counts n in omega (arith, y); each = λ P y. b.each P y.1 }

pub after_first : (h : Holder) (before after : List Holder) → Behind before after → Behind (h ∷ before) (h ∷ after)
after_first h before after b = record { counts = λ n. let y = b.counts n in omega (arith, y); each = λ P y. (y.0, b.each P y.1) }

same_form : (code : Parts) (g : ℕ) (a b : Form) → form_at code g ≡ Some a → form_at code g ≡ Some b → a ≡ b
same_form code g a b e h = let x : Some a ≡ Some b = sym e ∙ h in let y : a ≡ b = cc in y

pub mark_none : (r b : ℕ) (a : ℕ) (ms : Marks) → Each (MarkUnder r b) ms → Each (MarkUnder r b) (put_mark ms a None)
mark_none r b zero [] x = (tt, tt)
mark_none r b (suc a) [] x = (tt, mark_none r b a [] x)
mark_none r b zero (m ∷ ms) x = (tt, x.1)
mark_none r b (suc a) (m ∷ ms) x = (x.0, mark_none r b a ms x.1)

module _ (code : Parts) (last : Config → State) (f : Active) (below : List Frame) (s : State) (x : ConfigFits code (record { top = Running f; below = below; state = s })) where
  abbrev marks : Marks
  marks = x.top.marks

  abbrev hs : List Holder
  hs = in_frames x.marks below

  pub one_is : (y : Option Value) (v : Value) (go : Value → Next) → y ≡ Some v → NextFits code (go v) → NextFits code (with_value y s go)
  one_is y v go e h = subst (λ y. NextFits code (with_value y s go)) (sym e) h

  -- the function waits below another frame, at its own depth
  pub waits_here : (ns : Marks) (regs : Registers) → Each (MarkUnder s.regions s.regions) ns → StackFits code s.regions s.regions (record { depth = s.regions; marks = ns } ∷ x.marks) (behind f regs ∷ below)
  waits_here ns regs u = (refl, u, x.stack.1, x.stack.2, x.stack.3, x.stack.4, omega arith, x.stack.5)

  pub waits_for : (b : ℕ) → s.regions ≤ b → (ns : Marks) (regs : Registers) → Each (MarkUnder s.regions s.regions) ns → StackFits code s.regions b (record { depth = s.regions; marks = ns } ∷ x.marks) (behind f regs ∷ below)
  waits_for b le ns regs u = (refl, u, x.stack.1, x.stack.2, x.stack.3, x.stack.4, le, x.stack.5)

  -- what lies below it stands so deep
  pub rest_stands : Standing s.regions s.regions (in_frames x.marks below)
  rest_stands = standing_deeper x.stack.2 (base_of x.stack.1 x.stack.2) s.regions s.regions (let y = base_out x.stack.1 x.stack.2 in let z = x.stack.4 in omega (arith, y, z)) x.stack.4 (in_frames x.marks below)
      (stack_stands code x.stack.2 (base_of x.stack.1 x.stack.2) x.marks below x.stack.5)

  pub none_deeper : (ns : Marks) (regs : Registers) → Each (MarkUnder s.regions s.regions) ns → Each (NoDeeper s.regions) (in_registers ns regs (in_frames x.marks below))
  none_deeper ns regs u = standing_no_deeper s.regions s.regions s.regions (omega arith) _ (standing_registers s.regions s.regions ns regs (in_frames x.marks below) u rest_stands)

  -- ---- destruction

  pub destroy_next : (a : ℕ) (at : Spot) (v : Value) → mark x.top.marks a ≡ Some (Held s.regions) → read f.registers a ≡ Some v → NextFits code (act code last f below s (i.Destroy a at))
  destroy_next a at v m e = one_is _ v _ e
      (destroy_fits code v at (behind f (put f.registers a None) ∷ below) s x.home (record { depth = s.regions; marks = put_mark x.top.marks a None } ∷ x.marks)
      (waits_here (put_mark x.top.marks a None) (put f.registers a None) (mark_none s.regions s.regions a x.top.marks x.stack.0))
      (take_fits x.home (in_frames x.marks below) s a (Held s.regions) v x.top.marks f.registers None m e x.fits))

  -- ---- the end of a function: at depth 0, where so many freezes are open as at its begin

  -- what comes out, alone
  pub value_alone : (a : ℕ) (how : How) (v : Value) → mark x.top.marks a ≡ Some how → read f.registers a ≡ Some v → FitsAt x.home (held_as how v ∷ in_frames x.marks below) s
  value_alone a how v m e = drop_fits x.home _ _ s (after_first (held_as how v) _ _ (registers_behind (put_mark x.top.marks a None) (put f.registers a None) (in_frames x.marks below)))
      (take_fits x.home (in_frames x.marks below) s a how v x.top.marks f.registers None m e x.fits)

  pub nothing_left : FitsAt x.home (in_frames x.marks below) s
  nothing_left = drop_fits x.home _ _ s (registers_behind x.top.marks f.registers (in_frames x.marks below)) x.fits

  pub ret_next : (a : ℕ) (v : Value) → base_of x.stack.1 x.stack.2 ≡ s.regions → (mark x.top.marks a ≡ Some (Held s.regions)) ⊎ IsPlain v → read f.registers a ≡ Some v
      → ((n : ℕ) → v ≡ Ref n → (x.stack.1 ≡ Plain) ⊎ (x.stack.1 ≡ Destructor)) → EndAsks code f s x.top.marks x.stack.1 x.stack.2 x.stack.1 v
      → NextFits code (act code last f below s (i.Ret a))
  ret_next a v base m e refs well = one_is _ v _ e (with_known code f.function s _ (λ form func is found.
      by form (same_form code f.function x.stack.1 form x.stack.3 is) x.stack.2 (subst (λ form. base_of form x.stack.2 ≡ s.regions) (same_form code f.function x.stack.1 form x.stack.3 is) base)
      (subst (λ form. StackFits code x.stack.2 (base_of form x.stack.2) x.marks below) (same_form code f.function x.stack.1 form x.stack.3 is) x.stack.5)))
    where
      alone : FitsAt x.home (holding s.regions v ∷ in_frames x.marks below) s
      alone = by_mark m
        where
          by_mark : (mark x.top.marks a ≡ Some (Held s.regions)) ⊎ IsPlain v → FitsAt x.home (holding s.regions v ∷ in_frames x.marks below) s
          by_mark (inl m) = value_alone a (Held s.regions) v m e
          by_mark (inr is) = add_fits x.home [] s (Held s.regions) v (in_frames x.marks below) (plain_owns v is) (omega arith, plain_held x.home s.world s.regions v is) nothing_left

      not_plain : (form : Form) → x.stack.1 ≡ form → (form ≡ Plain → ⊥) → (form ≡ Destructor → ⊥) → (n : ℕ) → v ≢ Ref n
      not_plain form is p d n g = at (refs n g)
        where
          at : (x.stack.1 ≡ Plain) ⊎ (x.stack.1 ≡ Destructor) → ⊥
          at (inl h) = p (sym is ∙ h)
          at (inr h) = d (sym is ∙ h)

      by : (form : Form) → x.stack.1 ≡ form → (out : ℕ) → base_of form out ≡ s.regions → StackFits code out (base_of form out) x.marks below → NextFits code (leave_function form f.dest (Some v) below s)
      by Plain is out b stack = leave_held code out out below s x.home x.marks f.dest v (sym b) stack (subst (λ c. FitsAt x.home (holding c v ∷ in_frames x.marks below) s) (sym b) alone)
      by Destructor is out b stack = leave_held code out out below s x.home x.marks f.dest v (sym b) stack (subst (λ c. FitsAt x.home (holding c v ∷ in_frames x.marks below) s) (sym b) alone)
      by Pure is out b stack = pure_ends code out below s x.home x.marks (sym b) stack f.dest v (not_plain Pure is (λ h. let y : ⊥ = cc in y) (λ h. let y : ⊥ = cc in y)) (subst (λ c. FitsAt x.home (holding c v ∷ in_frames x.marks below) s) (sym b) alone)
      by Iteration is out b stack = iteration_ends code out below s x.home x.marks (sym b) stack f.dest v (not_plain Iteration is (λ h. let y : ⊥ = cc in y) (λ h. let y : ⊥ = cc in y))
          (λ n g. subst (λ c. HoldsNoIso s.world (Freeze c)) (sym b) (subst (λ v. EndAsks code f s x.top.marks x.stack.1 x.stack.2 Iteration v) g (subst (λ form. EndAsks code f s x.top.marks x.stack.1 x.stack.2 form v) is well))) (subst (λ c. FitsAt x.home (holding c v ∷ in_frames x.marks below) s) (sym b) alone)

  pub retvoid_next : base_of x.stack.1 x.stack.2 ≡ s.regions → NextFits code (act code last f below s i.RetVoid)
  retvoid_next base = with_known code f.function s _ (λ form func is found.
      by form x.stack.2 (subst (λ form. base_of form x.stack.2 ≡ s.regions) (same_form code f.function x.stack.1 form x.stack.3 is) base)
      (subst (λ form. StackFits code x.stack.2 (base_of form x.stack.2) x.marks below) (same_form code f.function x.stack.1 form x.stack.3 is) x.stack.5))
    where
      by : (form : Form) (out : ℕ) → base_of form out ≡ s.regions → StackFits code out (base_of form out) x.marks below → NextFits code (leave_function form f.dest None below s)
      by Plain out b stack = leave_without code out out below s x.home x.marks f.dest (sym b) stack nothing_left
      by Destructor out b stack = leave_without code out out below s x.home x.marks f.dest (sym b) stack nothing_left
      by Pure out b stack = pure_ends_without code out below s x.home x.marks (sym b) stack f.dest nothing_left
      by Iteration out b stack = iteration_ends_without code out below s x.home x.marks (sym b) stack f.dest nothing_left

  -- a plain function returns an `&imm`
  pub ret_seen_next : (a b : ℕ) (v : Value) → x.stack.1 ≡ Plain → x.stack.2 ≡ s.regions → mark x.top.marks a ≡ Some (Seen b) → b ≤ s.regions → read f.registers a ≡ Some v → NextFits code (act code last f below s (i.Ret a))
  ret_seen_next a b v plain base m le e = one_is _ v _ e (with_known code f.function s _ (λ form func is found. by form (sym plain ∙ same_form code f.function x.stack.1 form x.stack.3 is)))
    where
      fits_at : FitsAt x.home (held_as (Seen s.regions) v ∷ in_frames x.marks below) s
      fits_at = let y = value_alone a (Seen b) v m e in
          Rattle.vale_region_laws.proofs.Moving.held_fits x.home _ (held_as (Seen s.regions) v ∷ in_frames x.marks below) s.world s.regions (λ n. omega arith)
          ((omega arith, Rattle.vale_region_laws.proofs.Moving.deeper_seen x.home s.world b s.regions v le y.holders.0.1), y.holders.1) y

      stack_here : StackFits code x.stack.2 x.stack.2 x.marks below
      stack_here = subst (λ form. StackFits code x.stack.2 (base_of form x.stack.2) x.marks below) plain x.stack.5

      by : (form : Form) → Plain ≡ form → NextFits code (leave_function form f.dest (Some v) below s)
      by Plain is = leave_seen code x.stack.2 below s x.home x.marks f.dest v (sym base) stack_here (subst (λ c. FitsAt x.home (held_as (Seen c) v ∷ in_frames x.marks below) s) (sym base) fits_at)
      by Pure is = let y : ⊥ = cc in absurd y
      by Iteration is = let y : ⊥ = cc in absurd y
      by Destructor is = let y : ⊥ = cc in absurd y

  -- ---- calls, where the arguments were taken out of the registers

  -- what a caller's argument may be for a function of this form
  pub called_next : (g : ℕ) (form : Form) (func : Func) (to : ℕ) (at : Spot) (ps : List How) (vs : List Value) (ns : Marks) (regs : Registers) (home : Homes)
      → form_at code g ≡ Some form → Each (MarkUnder s.regions s.regions) ns → Each (IsUnder s.regions (base_of form s.regions)) ps
      → FitsAt home (in_args ps vs (in_registers ns regs (in_frames x.marks below))) s
      → NextFits code (called code last f below s g form func to at vs regs)
  called_next g form func to at ps vs ns regs home is u v fits =
      enter_fits code g form func _ (result_to func.result to) ps vs (behind f regs ∷ below) s home (record { depth = s.regions; marks = ns } ∷ x.marks) is
      (waits_for (base_of form s.regions) (base_out form s.regions) ns regs u) v fits
