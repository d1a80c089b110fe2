-- What the machine relies on holds of certified code that has no kinds.
use Rattle.std.proofs.Common.{◌≡◌, ◌≢◌, ℕ, zero, suc, ◌<◌, List, [], ◌∷◌, length, Option, Some, None, Bool, true, false, ◌&&◌, ◌||◌, ◌==◌, nat_lt, nat_le, refl, subst, arith}
use Rattle.std.specs.Prelude.{slice_get}
use Rattle.std.specs.List.{list_all}
use Rattle.std.proofs.lemmas.Bool.{and_parts}
use Rattle.std.proofs.lemmas.Bool.Decides.{nat_tests}
use Rattle.vale_state_spec.specs.Outcome.{End, Wrong}
use Rattle.vale_state_spec.specs.State.{State}
use Rattle.vale_state_spec.specs.World.{Value}
use Rattle.vale_code.specs.Frames.{Config, Next, On, Over}
use Rattle.vale_code.specs.Kinds.{result_to}
use Rattle.vale_code.specs.Operands.{reads, writes}
use Rattle.vale_code.specs.Parts.{Parts}
use Rattle.vale_code.specs.Run.{exec, then_go, go_on, step, steps, last_state}
use Rattle.vale_code.specs.declared.func.Func.{Func}
use Rattle.vale_code.specs.declared.instr.Instr.{Instr}
use Rattle.vale_code.specs.declared.instr.Instr.TheVariants as i
use Rattle.vale_code.specs.declared.ty.Ty.{Ty}
use Rattle.vale_code.specs.declared.ty.Ty.TheVariants as t
use Rattle.vale_cert.specs.Certificate.{Certified}
use Rattle.vale_cert.specs.Numbers.{numbers, are_registers, is_void_function, is_void_call, in_tables}
use Rattle.vale_cert.specs.Types.{is_void}
use Rattle.vale_cert.specs.Rules.{effect, call_by_form, calls}
use Rattle.vale_cert.specs.declared.facts.FuncFacts.{FuncFacts}
use Rattle.vale_cert.specs.declared.facts.RegFact.{RegFact}
use Rattle.vale_cert.proofs.Safe.{never_wrong}
use Rattle.vale_cert.proofs.Standing.{ConfigFits}
use Rattle.vale_cert.proofs.Walks.{judged, lawful}
use Rattle.vale_registers.specs.Cells.{HasRegister}
use Rattle.vale_turn.specs.Served.{register_of, IsFit}
use Rattle.vale_machine.specs.Calls.{IsCallable}
use Rattle.vale_machine.specs.Lawful.{CallsWell, IsRunnable}
use Rattle.vale_machine.proofs.Plainly.{served_here}

-- ---- what lies at a place

all_at : (test : Instr → Bool) (is : List Instr) (p : ℕ) (instr : Instr) → list_all test is ≡ true → slice_get is p ≡ Some instr → test instr ≡ true
all_at test [] p instr e h = absurd (let x : ⊥ = cc in x)
all_at test (x ∷ is) zero instr e h = let same : x ≡ instr = cc in subst (λ y. test y ≡ true) same (and_parts _ _ e).0
all_at test (x ∷ is) (suc p) instr e h = all_at test is p instr (and_parts _ _ e).1 h

within : (r n : ℕ) → nat_lt r n ≡ true → r < n
within r n e = grind (arith, nat_tests)

one : (a b : Bool) → (a && b) ≡ true → a ≡ true
one a b e = (and_parts a b e).0

-- which registers lie among those of the function
registers : (code : Parts) (n : ℕ) (instr : Instr) → numbers code n instr ≡ true → (are_registers n (reads instr) ≡ true) × ((is_void_call code instr || are_registers n (writes instr)) ≡ true)
registers code n instr e = and_parts (are_registers n (reads instr)) (is_void_call code instr || are_registers n (writes instr)) (one (are_registers n (reads instr) && (is_void_call code instr || are_registers n (writes instr))) (in_tables code instr) e)

written : (code : Parts) (n : ℕ) (instr : Instr) (to : ℕ) → numbers code n instr ≡ true → is_void_call code instr ≡ false → writes instr ≡ to ∷ [] → nat_lt to n ≡ true
written code n instr to e call is =
    one (nat_lt to n) true (subst (λ l. are_registers n l ≡ true) is (subst (λ b. (b || are_registers n (writes instr)) ≡ true) call (registers code n instr e).1))

room : (code : Parts) (n : ℕ) (instr : Instr) → numbers code n instr ≡ true → HasRegister (register_of instr) n
room code n (i.Int to m) e = within to n (written code n (i.Int to m) to e refl refl)
room code n (i.Truth to choice) e = within to n (written code n (i.Truth to choice) to e refl refl)
room code n (i.Text to text) e = within to n (written code n (i.Text to text) to e refl refl)
room code n (i.Copy to a) e = within to n (written code n (i.Copy to a) to e refl refl)
room code n (i.Add to a b at) e = within to n (written code n (i.Add to a b at) to e refl refl)
room code n (i.Sub to a b at) e = within to n (written code n (i.Sub to a b at) to e refl refl)
room code n (i.Mul to a b at) e = within to n (written code n (i.Mul to a b at) to e refl refl)
room code n (i.Div to a b at) e = within to n (written code n (i.Div to a b at) to e refl refl)
room code n (i.Rem to a b at) e = within to n (written code n (i.Rem to a b at) to e refl refl)
room code n (i.Cmp to choice a b) e = within to n (written code n (i.Cmp to choice a b) to e refl refl)
room code n (i.Not to a) e = within to n (written code n (i.Not to a) to e refl refl)
room code n (i.Join to a b at) e = within to n (written code n (i.Join to a b at) to e refl refl)
room code n (i.TextLen to a) e = within to n (written code n (i.TextLen to a) to e refl refl)
room code n (i.Slice to a x y at) e = within to n (written code n (i.Slice to a x y at) to e refl refl)
room code n (i.Byte to a x at) e = within to n (written code n (i.Byte to a x at) to e refl refl)
room code n (i.TextOf to a) e = within to n (written code n (i.TextOf to a) to e refl refl)
room code n (i.IsNum to a) e = within to n (written code n (i.IsNum to a) to e refl refl)
room code n (i.Num to a at) e = within to n (written code n (i.Num to a at) to e refl refl)
room code n (i.Ret a) e = within a n (one (nat_lt a n) true (registers code n (i.Ret a) e).0)
room code n _ e = tt

result_room : (ty : Ty) (to n : ℕ) → (is_void ty || are_registers n (to ∷ [])) ≡ true → HasRegister (result_to ty to) n
result_room t.Void to n e = tt
result_room t.Int to n e = within to n (one (nat_lt to n) true e)
result_room t.Truth to n e = within to n (one (nat_lt to n) true e)
result_room t.Text to n e = within to n (one (nat_lt to n) true e)
result_room (t.Own k) to n e = within to n (one (nat_lt to n) true e)
result_room (t.Ref k) to n e = within to n (one (nat_lt to n) true e)
result_room (t.Frozen k) to n e = within to n (one (nat_lt to n) true e)
result_room (t.Iso k) to n e = within to n (one (nat_lt to n) true e)

module _ (code : Parts) (facts : List FuncFacts) (cert : Certified code facts) where
  callable : (ty : Ty) (depth : ℕ) (regs : List RegFact) (n to g : ℕ) (args : List ℕ) → (calls depth regs (slice_get code.funcs g) to args).kept.types ≡ true
      → (is_void_function (slice_get code.funcs g) || are_registers n (to ∷ [])) ≡ true → IsCallable code g to n
  callable ty depth regs n to g args e h = at (slice_get code.funcs g) refl e h
    where
      plainly : (callee : Func) (b : Bool) → (callee.form == 0) ≡ b → (call_by_form b depth regs callee to args).kept.types ≡ true → callee.form ≡ 0
      plainly callee false q k = absurd (let x : ⊥ = cc in x)
      plainly callee true q k = grind (arith, nat_tests)

      at : (o : Option Func) → slice_get code.funcs g ≡ o → (calls depth regs o to args).kept.types ≡ true → (is_void_function o || are_registers n (to ∷ [])) ≡ true → IsCallable code g to n
      at None q k m = absurd (let x : ⊥ = cc in x)
      at (Some callee) q k m = record {
        func = callee;
        found = q;
        plain = plainly callee (callee.form == 0) refl k;
        params = (let x : nat_le (length callee.params) callee.registers ≡ true = one _ _ (one _ _ (lawful code facts cert g callee q).body) in grind (arith, nat_tests));
        room = result_room callee.result to n m;
      }

  calls_well : (ty : Ty) (depth : ℕ) (regs : List RegFact) (n : ℕ) (instr : Instr) → (effect code ty depth regs instr).kept.types ≡ true → numbers code n instr ≡ true → CallsWell code instr n
  calls_well ty depth regs n (i.Call to g args at) e h = callable ty depth regs n to g args e (registers code n (i.Call to g args at) h).1
  calls_well ty depth regs n _ e h = tt

  pub runnable : code.kinds ≡ [] → IsRunnable code
  runnable none = record { fits = λ f p func instr found at. (fits f p func instr found at).0; calls = λ f p func instr found at. (fits f p func instr found at).1 }
    where
      fits : (function place : ℕ) (func : Func) (instr : Instr) → slice_get code.funcs function ≡ Some func → slice_get func.body place ≡ Some instr → IsFit instr func.registers × CallsWell code instr func.registers
      fits function place func instr found at =
          let j = judged code facts cert function func found in
          let k = served_here code none facts cert func j.0 j.1 place instr (lawful code facts cert function func found).head at in
          let numbered = all_at (numbers code func.registers) func.body place instr j.1.numbered at in
          (record { served = k.served; room = room code func.registers instr numbered }, calls_well func.result k.known.depth k.known.regs func.registers instr k.types numbered)

  -- ---- safety

  ends_so : (n : ℕ) (c : Config) (end : End) (v : Option Value) (s : State) → steps code n c ≡ Over end v s → exec code n c ≡ Some (record { end = end; value = v; state = s })
  ends_so zero c end v s e = absurd (let x : ⊥ = cc in x)
  ends_so (suc n) c end v s e = from (step code c) e (λ d h. ends_so n d end v s h)
    where
      from : (x : Next) → go_on x (steps code n) ≡ Over end v s → ((d : Config) → steps code n d ≡ Over end v s → exec code n d ≡ Some (record { end = end; value = v; state = s })) → then_go x (exec code n) ≡ Some (record { end = end; value = v; state = s })
      from (On d) h rest = rest d h
      from (Over g w u) h rest = cc

  pub safe : (c : Config) → ConfigFits code facts c → (n : ℕ) (v : Option Value) (s : State) → steps code n c ≢ Over Wrong v s
  safe c fits n v s h = never_wrong code facts cert (last_state code) n c (record { end = Wrong; value = v; state = s }) fits (ends_so n c Wrong v s h) refl
