-- A function under way, before an instruction whose rules are kept: how its registers are held, and how it goes on.
use Rattle.std.proofs.Common.{◌≡◌, ℕ, zero, suc, ◌+◌, List, [], ◌∷◌, Option, Some, None, Bool, true, false, not, ◌||◌, ◌==◌, refl, sym, ap, ◌∙◌, subst, arith}
use Rattle.std.specs.Prelude.{slice_get}
use Rattle.vale_state_spec.specs.State.{State}
use Rattle.vale_code.specs.Enter.{Form, Plain, Pure, Iteration, Destructor, form_of}
use Rattle.vale_code.specs.Frames.{Active, Frame, Running, Dropping, Looping, Alone, Next, On, Over}
use Rattle.vale_code.specs.Instructions.{behind}
use Rattle.vale_code.specs.Parts.{Parts}
use Rattle.vale_code.specs.Registers.{Registers}
use Rattle.vale_code.specs.declared.ty.Ty.{Ty}
use Rattle.vale_code.specs.declared.ty.Ty.TheVariants as t
use Rattle.vale_cert.specs.Known.{Known}
use Rattle.vale_cert.specs.Places.{known_in}
use Rattle.vale_cert.specs.Rules.{is_bound, is_usable}
use Rattle.vale_cert.specs.Walk.{after, goes_on}
use Rattle.vale_cert.specs.declared.facts.FuncFacts.{FuncFacts}
use Rattle.vale_cert.specs.declared.facts.RegFact.{RegFact}
use Rattle.vale_cert.specs.declared.facts.RegFact.TheVariants.{Held}
use Rattle.vale_cert.proofs.Going.{Place, row, states_next, enters_next}
use Rattle.vale_cert.proofs.Placed.{known_there}
use Rattle.vale_cert.proofs.Standing.{Quiet}
use Rattle.vale_region_laws.specs.Configs.{IsUnder, MarkUnder, base_of, form_at, StackFits, TopFits}
use Rattle.vale_region_laws.specs.Holding.{Marks, mark, in_registers, in_frames}
use Rattle.vale_region_laws.specs.Regions.{Each, Homes, How, Holder, Fits, scene}
use Rattle.vale_region_laws.specs.Regions as how
use Rattle.vale_region_laws.proofs.Acts.{Around, TopFits as ActTop, NextFits_}
use Rattle.vale_region_cert.specs.Joined.{out_of, FramesTold, RegionsFit, RegionsNext}
use Rattle.vale_region_cert.specs.Told.{mark_of, IsTold, Told, resumed}
use Rattle.vale_region_cert.proofs.Frames.{Landed, landed, same_func, IsQuiet, quiet_base}

quiet_form : (form : Form) → Quiet (Some form) → IsQuiet form
quiet_form Plain q = tt
quiet_form Destructor q = tt
quiet_form Pure q = absurd q
quiet_form Iteration q = absurd q

-- a mark lies no deeper than so many open freezes
pub mark_low : (c a : ℕ) (ms : Marks) (how : How) → Each (MarkUnder c c) ms → mark ms a ≡ Some how → IsUnder c c how
mark_low c a [] how u e = let x : ⊥ = cc in absurd x
mark_low c zero (m ∷ ms) how u e = let q : MarkUnder c c (Some how) = subst (MarkUnder c c) e u.0 in q
mark_low c (suc a) (m ∷ ms) how u e = mark_low c a ms how u.1 e

module _ (code : Parts) (facts : List FuncFacts) (P : Place code facts) (x : RegionsFit code facts (record { top = Running P.f; below = P.below; state = P.s })) where
  open P use {ty, f, below, s, F, under_it, heap, owned, instr, instrs, here, S}

  abbrev pub marks : Marks
  marks = x.fits.top.marks

  abbrev pub hs : List Holder
  hs = in_frames x.fits.marks below

  abbrev pub base : ℕ
  base = base_of x.told.0.form (out_of x.fits.marks)

  abbrev pub known_next : Known
  known_next = after code F.func F.of.labels F.is_judged.base instr S.known

  same_known : x.told.0.known ≡ S.known
  same_known =
      let e : Some x.told.0.known ≡ Some S.known = sym x.told.0.states ∙ known_there code facts f.function f.place F.func F.of F.found F.certified ∙ F.states ∙ S.is in
      let y : x.told.0.known ≡ S.known = cc in y

  -- what is known of registers is told of their marks
  pub told_here : Told base S.known.regs marks
  told_here = subst (λ k. Told base k.regs marks) same_known x.told.0.told

  pub deep_here : base + S.known.depth ≡ s.regions
  deep_here = ap (λ k. base + k.depth) (sym same_known) ∙ sym x.told.0.deep ∙ x.fits.depth

  pub same_function : x.told.0.func ≡ F.func
  same_function = same_func code f.function x.told.0.func F.func x.told.0.found F.found

  pub quiet : IsQuiet x.told.0.form
  quiet = quiet_form x.told.0.form (subst Quiet (sym (ap (λ func. form_of func.form) same_function) ∙ x.told.0.is_form) F.quiet)

  pub base_is : base ≡ out_of x.fits.marks
  base_is = quiet_base x.told.0.form (out_of x.fits.marks) quiet

  pub landed_next : goes_on instr ≡ true → Landed code F.func F.of (f.place + 1) known_next
  landed_next on = landed code F.func F.of (f.place + 1) known_next (states_next code facts P on) (enters_next code facts P on)

  -- the function at another place, with other registers, over the same frames
  pub frames_told : (p : ℕ) → Landed code F.func F.of p known_next → (dest : Option ℕ) (ty : Ty) (ns : Marks) → Told base (row code facts P).after (resumed dest ty s.regions ns)
      → (g : Active) → g.function ≡ f.function → g.dest ≡ f.dest → g.place ≡ p → FramesTold code facts dest ty (record { depth = s.regions; marks = ns } ∷ x.fits.marks) (Running g ∷ below)
  frames_told p l dest ty ns h g e d q = (
    record {
      func = x.told.0.func;
      form = x.told.0.form;
      known = l.known;
      found = subst (λ n. slice_get code.funcs n ≡ Some x.told.0.func) (sym e) x.told.0.found;
      is_form = x.told.0.is_form;
      states = subst (λ n. known_in code facts n g.place ≡ Some l.known) (sym e) (subst (λ n. known_in code facts f.function n ≡ Some l.known) (sym q) (known_there code facts f.function p F.func F.of F.found F.certified ∙ l.states));
      deep = sym (ap (λ n. base + n) l.depth ∙ deep_here);
      told = l.told base (resumed dest ty s.regions ns) h;
    },
    subst (λ d. FramesTold code facts d x.told.0.func.result x.fits.marks below) (sym d) x.told.1,
  )

  abbrev pub around : ℕ → Around
  around p = record { function = f.function; dest = f.dest; place = p; below = below; opened = s.regions }

  -- the function goes on at a place
  pub comes : (p : ℕ) → Landed code F.func F.of p known_next → (ns : Marks) (next : Next) → Each (MarkUnder s.regions s.regions) ns → Told base (row code facts P).after ns → NextFits_ (around p) ns hs next → RegionsNext code facts next
  comes p l ns (Over end v w) u told h = tt
  comes p l ns (On e) u told h = at e.top e.below e.state h
    where
      at : (top : Frame) (fs : List Frame) (w : State) → ActTop (around p) ns hs top fs w → RegionsFit code facts (record { top = top; below = fs; state = w })
      at (Running g) fs w h = record {
        fits = record {
          home = h.0;
          top = record { depth = w.regions; marks = ns };
          marks = x.fits.marks;
          depth = refl;
          stack = subst (λ c. TopFits code (record { depth = w.regions; marks = ns }) x.fits.marks (Running g) fs c) (sym h.6)
              (u, x.fits.stack.1, x.fits.stack.2, ap (form_at code) h.2 ∙ x.fits.stack.3, x.fits.stack.4, subst (λ fs. StackFits code x.fits.stack.2 (base_of x.fits.stack.1 x.fits.stack.2) x.fits.marks fs) (sym h.5) x.fits.stack.5);
          fits = subst (λ fs. Fits (scene h.0 (in_registers ns g.registers (in_frames x.fits.marks fs)) w.world w.regions)) (sym h.5) h.1;
        };
        told = subst (λ c. FramesTold code facts None t.Void (record { depth = c; marks = ns } ∷ x.fits.marks) (Running g ∷ fs)) (sym h.6)
            (subst (λ fs. FramesTold code facts None t.Void (record { depth = s.regions; marks = ns } ∷ x.fits.marks) (Running g ∷ fs)) (sym h.5) (frames_told p l None t.Void ns told g h.2 h.3 h.4));
      }
      at (Dropping g) fs w h = absurd h
      at (Looping g) fs w h = absurd h
      at (Alone v) fs w h = absurd h

  -- at the next place
  pub goes : goes_on instr ≡ true → (ns : Marks) (next : Next) → Each (MarkUnder s.regions s.regions) ns → Told base (row code facts P).after ns → NextFits_ (around (f.place + 1)) ns hs next → RegionsNext code facts next
  goes on ns next u told h = comes (f.place + 1) (landed_next on) ns next u told h

  -- it waits below another frame, which gives a value of this type to this register
  pub waits : goes_on instr ≡ true → (dest : Option ℕ) (ty : Ty) (ns : Marks) (regs : Registers) → Told base (row code facts P).after (resumed dest ty s.regions ns)
      → FramesTold code facts dest ty (record { depth = s.regions; marks = ns } ∷ x.fits.marks) (behind f regs ∷ below)
  waits on dest ty ns regs h = frames_told (f.place + 1) (landed_next on) dest ty ns h (record f { place = f.place + 1; registers = regs }) refl refl refl

  -- ---- operands

  -- an owner, an isolate or a reference `&X`, used at its own depth
  pub bound_here : (fact : RegFact) (ty : Ty) (d : ℕ) (live : Bool) (m : Option How) → fact ≡ Held ty d live → is_bound ty ≡ true → is_usable S.known.depth fact ≡ true → IsTold (mark_of base fact) m → m ≡ Some (how.Held s.regions)
  bound_here fact ty d live m is bound usable h = from ty bound (subst (λ fact. is_usable S.known.depth fact ≡ true) is usable) (subst (λ fact. IsTold (mark_of base fact) m) is h)
    where
      same_depth : (b : Bool) → b ≡ true → (not b || (d == S.known.depth)) ≡ true → d ≡ S.known.depth
      same_depth true e h = let y : (d == S.known.depth) ≡ true = h in grind arith
      same_depth false e h = let y : ⊥ = cc in absurd y

      deep : d ≡ S.known.depth → base + d ≡ s.regions
      deep e = ap (λ d. base + d) e ∙ deep_here

      from : (ty : Ty) → is_bound ty ≡ true → (not (is_bound ty) || (d == S.known.depth)) ≡ true → IsTold (mark_of base (Held ty d live)) m → m ≡ Some (how.Held s.regions)
      from (t.Own k) e u h = h ∙ ap (λ a. Some (how.Held a)) (deep (same_depth true refl u))
      from (t.Ref k) e u h = h ∙ ap (λ a. Some (how.Held a)) (deep (same_depth true refl u))
      from (t.Iso k) e u h = h ∙ ap (λ a. Some (how.Held a)) (deep (same_depth true refl u))
      from _ e u h = let y : ⊥ = cc in absurd y
