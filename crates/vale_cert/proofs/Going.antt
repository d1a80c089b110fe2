-- A function goes on after an instruction of its own: what is known of its registers fits them.
use Rattle.std.proofs.Common.{◌≡◌, ℕ, ◌+◌, ◌<◌, ◌≤◌, List, [], ◌∷◌, ◌++◌, length, Option, Some, None, Bool, true, false, ◌&&◌, if◌then◌else◌, nat_lt, refl, sym, ap, ◌∙◌, subst, arith, length-append, append_assoc}
use Rattle.std.specs.Prelude.{slice_set}
use Rattle.std.proofs.lemmas.Bool.{and_parts}
use Rattle.vale_state_spec.specs.State.{State, Answer, gives, traps, fails}
use Rattle.vale_state_spec.specs.World.{Value, World}
use Rattle.vale_base.specs.declared.spot.Spot.{Spot}
use Rattle.vale_code.specs.Frames.{Active, Frame, Running, Next, on}
use Rattle.vale_code.specs.Instructions.{onward, with_value, answered, certain}
use Rattle.vale_code.specs.Parts.{Parts}
use Rattle.vale_code.specs.Registers.{Registers, read, put}
use Rattle.vale_code.specs.declared.instr.Instr.{Instr}
use Rattle.vale_code.specs.declared.ty.Ty.{Ty}
use Rattle.vale_cert.specs.Known as known
use Rattle.vale_cert.specs.Known.{label_at, may_enter, stated, fact_of, has, is_there}
use Rattle.vale_cert.specs.Places.{known_at}
use Rattle.vale_cert.specs.Rules.{Effect}
use Rattle.vale_cert.specs.Walk.{effect_of, after, enters, next_of, is_place, known_after, walk, goes_on}
use Rattle.vale_cert.specs.declared.facts.FuncFacts.{FuncFacts}
use Rattle.vale_cert.specs.declared.facts.Label.{Label}
use Rattle.vale_cert.specs.declared.facts.RegFact.{RegFact}
use Rattle.vale_cert.specs.declared.facts.RegFact.TheVariants.{Held}
use Rattle.vale_cert.proofs.Fit.{value_has, kind_seen, Has, RegsFit, WorldFits, has_plain, owns_nothing, put_fits, agree_fits, reg_value}
use Rattle.vale_cert.proofs.Placed as placed
use Rattle.vale_cert.proofs.Heap.{Later, later_same, own, in_regs, put_owns}
use Rattle.vale_cert.proofs.Values.{Answers, Surely, SurelyNothing}
use Rattle.vale_cert.proofs.Walks.{Stepped}
use Rattle.vale_cert.proofs.Arguments.{not_owned}
use Rattle.vale_cert.proofs.Standing.{ActiveFits, StackFits, stack_later, OwnedBeside, NextFits, a_trap}

module _ (code : Parts) (facts : List FuncFacts) where
  -- a function under way before an instruction whose rules are kept
  pub record Place : Type 0 where
    pub ty : Ty
    pub f : Active
    pub below : List Frame
    pub s : State
    pub F : ActiveFits code facts s.world ty f
    pub under_it : StackFits code facts s.world ty f.dest below
    pub heap : WorldFits code s.world
    pub owned : OwnedBeside code facts s.world (λ n. in_regs n f.registers) below
    pub instr : Instr
    pub instrs : List Instr
    pub here : F.rest ≡ instr ∷ instrs
    pub S : Stepped code F.func F.of.labels F.is_judged.base f.place instr instrs (Some F.known)

module _ (code : Parts) (facts : List FuncFacts) (P : Place code facts) where
  open P use {ty, f, below, s, F, under_it, heap, owned, instr, instrs, here, S}

  abbrev pub row : Effect
  row = effect_of code F.func F.of.labels F.is_judged.base instr S.known

  -- the registers fit what is known, where a label stands too
  pub fits_here : RegsFit code s.world S.known.regs f.registers
  fits_here = from (label_at F.of.labels f.place) F.enters_here S.is
    where
      from : (o : Option Label) → may_enter o F.known ≡ true → stated o (Some F.known) ≡ Some S.known → RegsFit code s.world S.known.regs f.registers
      from None e q = let same : F.known ≡ S.known = cc in subst (λ x. RegsFit code s.world x.regs f.registers) same F.fits
      from (Some l) e q =
          let same : record { depth = l.depth; regs = l.regs } ≡ S.known = cc in
          subst (λ x. RegsFit code s.world x.regs f.registers) same (agree_fits code s.world l.regs F.known.regs f.registers (and_parts _ _ e).1 F.fits)

  next_place : goes_on instr ≡ true → next_of code F.func F.of.labels F.is_judged.base f.place instr ≡ Some (f.place + 1)
  next_place on = ap (λ b. if b then Some (f.place + 1) else None) on

  pub inside_next : goes_on instr ≡ true → f.place + 1 < length F.func.body
  inside_next on = let x : nat_lt (f.place + 1) (length F.func.body) ≡ true = subst (λ o. is_place code F.func F.of.labels F.is_judged.base o ≡ true) (next_place on) S.keeps.next in grind arith

  -- what is known at its place
  pub states_next : goes_on instr ≡ true → known_at code F.func F.of (f.place + 1) ≡ stated (label_at F.of.labels (f.place + 1)) (Some (after code F.func F.of.labels F.is_judged.base instr S.known))
  states_next on =
      placed.known_next code F.func F.of f.place F.before instr instrs S.known (F.split ∙ ap (λ l. F.before ++ l) here) F.at (inside_next on) (F.states ∙ S.is)
      ∙ ap (λ o. stated (label_at F.of.labels (f.place + 1)) o) (ap (λ b. if b then Some (after code F.func F.of.labels F.is_judged.base instr S.known) else None) on)

  pub enters_next : goes_on instr ≡ true → may_enter (label_at F.of.labels (f.place + 1)) (after code F.func F.of.labels F.is_judged.base instr S.known) ≡ true
  enters_next on = subst (λ o. enters code F.func F.of.labels F.is_judged.base o (after code F.func F.of.labels F.is_judged.base instr S.known) ≡ true) (next_place on) S.keeps.enters_next

  -- the next instruction of the same function
  pub next_active : goes_on instr ≡ true → (w : World) (regs : Registers) → RegsFit code w row.after regs → ActiveFits code facts w ty (record f { place = f.place + 1; registers = regs })
  next_active on w regs fits = record {
    func = F.func;
    of = F.of;
    found = F.found;
    certified = F.certified;
    quiet = F.quiet;
    is_judged = F.is_judged;
    returns = F.returns;
    known = after code F.func F.of.labels F.is_judged.base instr S.known;
    states = states_next on;
    fits = fits;
    enters_here = enters_next on;
    before = F.before ++ instr ∷ [];
    rest = instrs;
    split = F.split ∙ ap (λ l. F.before ++ l) here ∙ sym (append_assoc F.before (instr ∷ []) instrs);
    at = length-append F.before (instr ∷ []) ∙ ap (λ n. n + 1) F.at;
    inside = inside_next on;
    came = true;
    walks = subst (λ o. walk code F.func F.of.labels F.is_judged.base (f.place + 1) instrs true o ≡ None) known_next S.rest;
  }
    where
      known_next : known_after code F.func F.of.labels F.is_judged.base instr S.known ≡ Some (after code F.func F.of.labels F.is_judged.base instr S.known)
      known_next = ap (λ b. if b then Some (after code F.func F.of.labels F.is_judged.base instr S.known) else None) on

  -- on over a later heap
  pub goes : goes_on instr ≡ true → (regs : Registers) (u : State) → RegsFit code u.world row.after regs → Later s.world u.world → WorldFits code u.world → OwnedBeside code facts u.world (λ n. in_regs n regs) below → NextFits code facts (onward f regs below u)
  goes on regs u fits later heap owned = record { ty = ty; top = next_active on u.world regs fits; below = stack_later code facts s.world u.world ty f.dest below later under_it; heap = heap; owned = owned }

  -- on over the same heap, with nothing owned that wasn't
  pub stays_on : goes_on instr ≡ true → (regs : Registers) (u : State) → u.world ≡ s.world → RegsFit code s.world row.after regs → ((n : ℕ) → in_regs n regs ≤ in_regs n f.registers) → NextFits code facts (onward f regs below u)
  stays_on on regs u e fits fewer =
      goes on regs u (subst (λ w. RegsFit code w row.after regs) (sym e) fits) (subst (λ w. Later s.world w) (sym e) (later_same s.world)) (subst (λ w. WorldFits code w) (sym e) heap)
      (subst (λ w. OwnedBeside code facts w (λ n. in_regs n regs) below) (sym e) (λ n. let x = owned n in let y = fewer n in omega (arith, x, y)))

  -- a value that owns nothing comes into a register, over these known registers
  pub results : goes_on instr ≡ true → (K : List RegFact) → RegsFit code s.world K f.registers → (result : Ty) (to depth : ℕ) (live : Bool) (v : Value) (u : State) → row.after ≡ slice_set K to (Held result depth live)
      → Has code s.world result v → ((n : ℕ) → own n v ≡ 0) → u.world ≡ s.world → NextFits code facts (onward f (put f.registers to (Some v)) below u)
  results on K fits result to depth live v u e has none same_world =
      stays_on on (put f.registers to (Some v)) u same_world
      (subst (λ x. RegsFit code s.world x (put f.registers to (Some v))) (sym e) (put_fits code s.world K f.registers to (Held result depth live) (Some v) (v, refl, has) fits))
      (λ n. let x = put_owns n f.registers to (Some v) in let y = none n in omega (arith, x, y))

  -- the same of a number, a truth or a text
  plain_result : goes_on instr ≡ true → (result : Ty) (to depth : ℕ) (v : Value) (u : State) → row.after ≡ slice_set S.known.regs to (Held result depth false) → kind_seen result ≡ None → value_has result v ≡ true → u.world ≡ s.world
      → NextFits code facts (onward f (put f.registers to (Some v)) below u)
  plain_result on result to depth v u e none h same_world =
      results on S.known.regs fits_here result to depth false v u e (has_plain code s.world result v none h) (λ n. owns_nothing n result v (not_owned result none) h) same_world

  pub answering : goes_on instr ≡ true → (result : Ty) (to depth : ℕ) (at : Spot) (a : Answer) → row.after ≡ slice_set S.known.regs to (Held result depth false) → kind_seen result ≡ None → Answers s.world result a → NextFits code facts (answered f (Some to) f.registers at below s a)
  answering on result to depth at (gives None u) e none h = absurd h
  answering on result to depth at (gives (Some v) u) e none h = plain_result on result to depth v u e none h.0 h.1
  answering on result to depth at (traps why) e none h = a_trap code facts why at (Running f ∷ below) s
  answering on result to depth at fails e none h = absurd h

  pub surely : goes_on instr ≡ true → (result : Ty) (to depth : ℕ) (a : Answer) → row.after ≡ slice_set S.known.regs to (Held result depth false) → kind_seen result ≡ None → Surely s.world result a → NextFits code facts (certain f (Some to) f.registers below s a)
  surely on result to depth (gives None u) e none h = absurd h
  surely on result to depth (gives (Some v) u) e none h = plain_result on result to depth v u e none h.0 h.1
  surely on result to depth (traps why) e none h = absurd h
  surely on result to depth fails e none h = absurd h

  pub setting : goes_on instr ≡ true → (result : Ty) (to depth : ℕ) (v : Value) → row.after ≡ slice_set S.known.regs to (Held result depth false) → kind_seen result ≡ None → value_has result v ≡ true → NextFits code facts (onward f (put f.registers to (Some v)) below s)
  setting on result to depth v e none h = plain_result on result to depth v s e none h refl

  pub nothing : goes_on instr ≡ true → (a : Answer) → row.after ≡ S.known.regs → SurelyNothing s.world a → NextFits code facts (certain f None f.registers below s a)
  nothing on (gives None u) e h = stays_on on f.registers u h (subst (λ x. RegsFit code s.world x f.registers) (sym e) fits_here) (λ n. omega arith)
  nothing on (gives (Some v) u) e h = absurd h
  nothing on (traps why) e h = absurd h
  nothing on fails e h = absurd h

  -- a value that is read
  pub reading : (a : ℕ) (of : Ty) (go : Value → Next) → has of (fact_of S.known.regs a) ≡ true → is_there (fact_of S.known.regs a) ≡ true → ((v : Value) → Has code s.world of v → NextFits code facts (go v)) → NextFits code facts (with_value (read f.registers a) s go)
  reading a of go e there each =
      let v = reg_value code s.world S.known.regs f.registers a of fits_here e there in
      subst (λ o. NextFits code facts (with_value o s go)) (sym v.1) (each v.0 v.2)

  -- ---- one and two operands

  pub unary : goes_on instr ≡ true → (of result : Ty) (to a : ℕ) (at : Spot) (op : Value → Answer) → row.after ≡ slice_set S.known.regs to (Held result S.known.depth false)
      → has of (fact_of S.known.regs a) ≡ true → (is_there (fact_of S.known.regs a) && known.is_free (fact_of S.known.regs to)) ≡ true
      → kind_seen result ≡ None → ((v : Value) → value_has of v ≡ true → Answers s.world result (op v))
      → NextFits code facts (with_value (read f.registers a) s (λ v. answered f (Some to) f.registers at below s (op v)))
  unary on of result to a at op e h there none each = reading a of _ h (and_parts _ _ there).0 (λ v g. answering on result to S.known.depth at (op v) e none (each v g.shape))

  pub sure : goes_on instr ≡ true → (of result : Ty) (to a : ℕ) (op : Value → Answer) → row.after ≡ slice_set S.known.regs to (Held result S.known.depth false)
      → has of (fact_of S.known.regs a) ≡ true → (is_there (fact_of S.known.regs a) && known.is_free (fact_of S.known.regs to)) ≡ true
      → kind_seen result ≡ None → ((v : Value) → value_has of v ≡ true → Surely s.world result (op v))
      → NextFits code facts (with_value (read f.registers a) s (λ v. certain f (Some to) f.registers below s (op v)))
  sure on of result to a op e h there none each = reading a of _ h (and_parts _ _ there).0 (λ v g. surely on result to S.known.depth (op v) e none (each v g.shape))

  pub binary : goes_on instr ≡ true → (of with_it result : Ty) (to a b : ℕ) (at : Spot) (op : Value → Value → Answer) → row.after ≡ slice_set S.known.regs to (Held result S.known.depth false)
      → (has of (fact_of S.known.regs a) && has with_it (fact_of S.known.regs b)) ≡ true
      → ((is_there (fact_of S.known.regs a) && is_there (fact_of S.known.regs b)) && known.is_free (fact_of S.known.regs to)) ≡ true
      → kind_seen result ≡ None → ((v w : Value) → value_has of v ≡ true → value_has with_it w ≡ true → Answers s.world result (op v w))
      → NextFits code facts (with_value (read f.registers a) s (λ v. with_value (read f.registers b) s (λ w. answered f (Some to) f.registers at below s (op v w))))
  binary on of with_it result to a b at op e h there none each =
      let x = and_parts _ _ h in let y = and_parts _ _ (and_parts _ _ there).0 in
      reading a of _ x.0 y.0 (λ v g. reading b with_it _ x.1 y.1 (λ w q. answering on result to S.known.depth at (op v w) e none (each v w g.shape q.shape)))
