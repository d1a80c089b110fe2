-- A jump is set after what it passes was emitted.
use Rattle.std.proofs.Common.{◌≡◌, ℕ, ◌+◌, List, [], ◌∷◌, ◌++◌, length, refl, sym, ap, ◌∙◌, arith, append_assoc, length-append}
use Rattle.std.specs.Prelude.{slice_set}
use Rattle.std.proofs.Math.Seq.{set-append_seam}
use Rattle.vale_code.specs.declared.instr.Instr.{Instr}
use Rattle.vale_code.specs.declared.instr.Instr.TheVariants as i
use Rattle.vale_lowering.specs.Instructions.{if_code, and_code, loop_code}
use Rattle.vale_lower_code.specs.Sides.{side_end, side_code}

-- a test, what is held, and a block after it; then the jump of the side is held too
pub set_side : (base test : List Instr) (a : ℕ → List Instr) (c1 c2 c3 : List Instr) (x y : Instr) (n1 h end : ℕ)
    → c1 ≡ base ++ test → n1 ≡ length c1 → c2 ≡ c1 ++ x ∷ [] → c3 ≡ c2 ++ a (length c2) → y ≡ i.Jump end
    → slice_set (c3 ++ y ∷ []) n1 (i.Unless h (length c3 + 1)) ≡ base ++ side_code (length base) h test a end
set_side base test a c1 c2 c3 x y n1 h end e1 m1 e2 e3 ey =
    let l1 = ap length e1 ∙ length-append base test in
    let l2 = ap length e2 ∙ length-append c1 (x ∷ []) in
    let q2 : length c2 ≡ length base + length test + 1 = omega arith in
    let one : List Instr = a (length base + length test + 1) in
    let f3 : c3 ≡ c2 ++ one = e3 ∙ ap (λ n. c2 ++ a n) q2 in
    let l3 = ap length f3 ∙ length-append c2 one in
    let q3 : length c3 + 1 ≡ side_end (length base) test a + 1 = omega arith in
    let all : c3 ++ y ∷ [] ≡ c1 ++ x ∷ (one ++ i.Jump end ∷ []) = ap (λ z. z ++ y ∷ []) (f3 ∙ ap (λ z. z ++ one) e2) ∙ simp (append_assoc, ey) in
    ap (λ n. slice_set (c3 ++ y ∷ []) n1 (i.Unless h n)) q3
    ∙ ap (λ z. slice_set z n1 (i.Unless h (side_end (length base) test a + 1))) all
    ∙ ap (λ n. slice_set (c1 ++ x ∷ (one ++ i.Jump end ∷ [])) n (i.Unless h (side_end (length base) test a + 1))) m1
    ∙ set-append_seam c1 x (one ++ i.Jump end ∷ []) (i.Unless h (side_end (length base) test a + 1))
    ∙ ap (λ z. z ++ i.Unless h (side_end (length base) test a + 1) ∷ (one ++ i.Jump end ∷ [])) e1
    ∙ append_assoc base test (i.Unless h (side_end (length base) test a + 1) ∷ (one ++ i.Jump end ∷ []))

-- where the jump of that side stands
pub side_end_is : (base test : List Instr) (a : ℕ → List Instr) (c1 c2 c3 : List Instr) (x : Instr)
    → c1 ≡ base ++ test → c2 ≡ c1 ++ x ∷ [] → c3 ≡ c2 ++ a (length c2) → length c3 ≡ side_end (length base) test a
side_end_is base test a c1 c2 c3 x e1 e2 e3 =
    let l1 = ap length e1 ∙ length-append base test in
    let l2 = ap length e2 ∙ length-append c1 (x ∷ []) in
    let q2 : length c2 ≡ length base + length test + 1 = omega arith in
    let f3 : c3 ≡ c2 ++ a (length base + length test + 1) = e3 ∙ ap (λ n. c2 ++ a n) q2 in
    let l3 = ap length f3 ∙ length-append c2 (a (length base + length test + 1)) in
    omega arith

-- what is done only where h is true
pub set_and : (base : List Instr) (a : ℕ → List Instr) (c1 c2 : List Instr) (x : Instr) (n0 n2 h : ℕ)
    → n0 ≡ length base → c1 ≡ base ++ x ∷ [] → c2 ≡ c1 ++ a (length c1) → n2 ≡ length c2
    → slice_set c2 n0 (i.Unless h n2) ≡ base ++ and_code (length base) h a
set_and base a c1 c2 x n0 n2 h m0 e1 e2 m2 =
    let l1 = ap length e1 ∙ length-append base (x ∷ []) in
    let q1 : length c1 ≡ length base + 1 = omega arith in
    let one : List Instr = a (length base + 1) in
    let f2 : c2 ≡ c1 ++ one = e2 ∙ ap (λ n. c1 ++ a n) q1 in
    let l2 = ap length f2 ∙ length-append c1 one in
    let q2 : n2 ≡ length base + 1 + length one = omega arith in
    let all : c2 ≡ base ++ x ∷ one = f2 ∙ ap (λ z. z ++ one) e1 ∙ append_assoc base (x ∷ []) one in
    ap (λ n. slice_set c2 n0 (i.Unless h n)) q2
    ∙ ap (λ z. slice_set z n0 (i.Unless h (length base + 1 + length one))) all
    ∙ ap (λ n. slice_set (base ++ x ∷ one) n (i.Unless h (length base + 1 + length one))) m0
    ∙ set-append_seam base x one (i.Unless h (length base + 1 + length one))

-- what is done only where h is false
pub set_or : (base : List Instr) (a : ℕ → List Instr) (c1 c2 c3 : List Instr) (x : Instr) (n1 n3 over h : ℕ)
    → over ≡ length base + 1 + 1 → c1 ≡ base ++ i.Unless h over ∷ [] → n1 ≡ length c1 → c2 ≡ c1 ++ x ∷ [] → c3 ≡ c2 ++ a (length c2) → n3 ≡ length c3
    → slice_set c3 n1 (i.Jump n3) ≡ base ++ if_code (length base) h [] (λ place. []) a
set_or base a c1 c2 c3 x n1 n3 over h mo e1 m1 e2 e3 m3 =
    let l1 = ap length e1 ∙ length-append base (i.Unless h over ∷ []) in
    let l2 = ap length e2 ∙ length-append c1 (x ∷ []) in
    let other : ℕ = length base + 0 + 1 + 0 + 1 in
    let q2 : length c2 ≡ other = omega arith in
    let two : List Instr = a other in
    let f3 : c3 ≡ c2 ++ two = e3 ∙ ap (λ n. c2 ++ a n) q2 in
    let l3 = ap length f3 ∙ length-append c2 two in
    let q3 : n3 ≡ other + length two = omega arith in
    let qo : over ≡ other = omega arith in
    let all : c3 ≡ c1 ++ x ∷ two = f3 ∙ ap (λ z. z ++ two) e2 ∙ append_assoc c1 (x ∷ []) two in
    ap (λ n. slice_set c3 n1 (i.Jump n)) q3
    ∙ ap (λ z. slice_set z n1 (i.Jump (other + length two))) all
    ∙ ap (λ n. slice_set (c1 ++ x ∷ two) n (i.Jump (other + length two))) m1
    ∙ set-append_seam c1 x two (i.Jump (other + length two))
    ∙ ap (λ z. z ++ i.Jump (other + length two) ∷ two) e1
    ∙ append_assoc base (i.Unless h over ∷ []) (i.Jump (other + length two) ∷ two)
    ∙ ap (λ n. base ++ i.Unless h n ∷ (i.Jump (other + length two) ∷ two)) qo

pub set_or_from : (base : List Instr) (a : ℕ → List Instr) (c2 c3 : List Instr) (n1 h : ℕ)
    → c2 ≡ base ++ i.Unless h (length base + 1 + 1) ∷ i.Jump 0 ∷ [] → n1 ≡ length base + 1 → c3 ≡ c2 ++ a (length c2)
    → slice_set c3 n1 (i.Jump (length c3)) ≡ base ++ if_code (length base) h [] (λ place. []) a
set_or_from base a c2 c3 n1 h e2 m1 e3 =
    let c1 : List Instr = base ++ i.Unless h (length base + 1 + 1) ∷ [] in
    let l1 : length c1 ≡ length base + 1 = length-append base (i.Unless h (length base + 1 + 1) ∷ []) in
    set_or base a c1 c2 c3 (i.Jump 0) n1 (length c3) (length base + 1 + 1) h refl refl (m1 ∙ sym l1) (e2 ∙ sym (append_assoc base (i.Unless h (length base + 1 + 1) ∷ []) (i.Jump 0 ∷ []))) e3 refl

-- the first jump of a loop
pub set_loop : (base : List Instr) (t b : ℕ → List Instr) (c1 c2 c3 c4 : List Instr) (x : Instr) (n0 n3 h : ℕ)
    → n0 ≡ length base → c1 ≡ base ++ x ∷ [] → c2 ≡ c1 ++ i.Tick ∷ [] → c3 ≡ c2 ++ b (length c2) → n3 ≡ length c3 → c4 ≡ c3 ++ t (length c3)
    → slice_set (c4 ++ i.Unless h (length c4 + 1 + 1) ∷ i.Jump (n0 + 1) ∷ []) n0 (i.Jump n3) ≡ base ++ loop_code (length base) h t b
set_loop base t b c1 c2 c3 c4 x n0 n3 h m0 e1 e2 e3 m3 e4 =
    let p : ℕ = length base in
    let l1 = ap length e1 ∙ length-append base (x ∷ []) in
    let l2 = ap length e2 ∙ length-append c1 (i.Tick ∷ []) in
    let q2 : length c2 ≡ p + 2 = omega arith in
    let body : List Instr = b (p + 2) in
    let f3 : c3 ≡ c2 ++ body = e3 ∙ ap (λ n. c2 ++ b n) q2 in
    let l3 = ap length f3 ∙ length-append c2 body in
    let start : ℕ = p + 2 + length body in
    let q3 : length c3 ≡ start = omega arith in
    let test : List Instr = t start in
    let f4 : c4 ≡ c3 ++ test = e4 ∙ ap (λ n. c3 ++ t n) q3 in
    let l4 = ap length f4 ∙ length-append c3 test in
    let q4 : length c4 + 1 + 1 ≡ start + length test + 2 = omega arith in
    let q5 : n0 + 1 ≡ p + 1 = omega arith in
    let q6 : n3 ≡ start = m3 ∙ q3 in
    let tail : List Instr = i.Unless h (start + length test + 2) ∷ i.Jump (p + 1) ∷ [] in
    let ends : c4 ++ i.Unless h (length c4 + 1 + 1) ∷ i.Jump (n0 + 1) ∷ [] ≡ c4 ++ tail = ap (λ n. c4 ++ i.Unless h n ∷ i.Jump (n0 + 1) ∷ []) q4 ∙ ap (λ n. c4 ++ i.Unless h (start + length test + 2) ∷ i.Jump n ∷ []) q5 in
    let parts : c4 ≡ (((base ++ x ∷ []) ++ i.Tick ∷ []) ++ body) ++ test = f4 ∙ ap (λ z. z ++ test) (f3 ∙ ap (λ z. z ++ body) (e2 ∙ ap (λ z. z ++ i.Tick ∷ []) e1)) in
    let flat : ((((base ++ x ∷ []) ++ i.Tick ∷ []) ++ body) ++ test) ++ tail ≡ base ++ x ∷ (i.Tick ∷ (body ++ (test ++ tail))) = simp append_assoc in
    let all : c4 ++ i.Unless h (length c4 + 1 + 1) ∷ i.Jump (n0 + 1) ∷ [] ≡ base ++ x ∷ (i.Tick ∷ (body ++ (test ++ tail))) = ends ∙ ap (λ z. z ++ tail) parts ∙ flat in
    ap (λ z. slice_set z n0 (i.Jump n3)) all
    ∙ ap (λ n. slice_set (base ++ x ∷ (i.Tick ∷ (body ++ (test ++ tail)))) n (i.Jump n3)) m0
    ∙ ap (λ n. slice_set (base ++ x ∷ (i.Tick ∷ (body ++ (test ++ tail)))) p (i.Jump n)) q6
    ∙ set-append_seam base x (i.Tick ∷ (body ++ (test ++ tail))) (i.Jump start)
