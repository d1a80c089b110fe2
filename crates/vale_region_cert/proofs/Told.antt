-- What is told of registers after one was written, at a label, and at a function's entry.
use Rattle.std.proofs.Common.{◌≡◌, ℕ, zero, suc, ◌+◌, List, [], ◌∷◌, ◌++◌, map, replicate, Option, Some, None, true, ◌==◌, sym, ap, subst, arith}
use Rattle.std.specs.Prelude.{slice_set}
use Rattle.std.proofs.lemmas.Bool.{and_parts}
use Rattle.vale_state_spec.specs.World.{Value, Int, Truth, Text, Own, Ref, Iso}
use Rattle.vale_code.specs.declared.ty.Ty.{Ty}
use Rattle.vale_code.specs.declared.ty.Ty.TheVariants as t
use Rattle.vale_cert.specs.Known.{fact_of, params_from, agrees, agree}
use Rattle.vale_cert.specs.Rules.{after_passing}
use Rattle.vale_cert.specs.declared.facts.RegFact.{RegFact}
use Rattle.vale_cert.specs.declared.facts.RegFact.TheVariants.{Empty, Held}
use Rattle.vale_cert.proofs.Fit.{value_has, type_is}
use Rattle.vale_region_laws.specs.Holding.{Marks, mark, put_mark, taken}
use Rattle.vale_region_laws.specs.Regions.{How}
use Rattle.vale_region_laws.specs.Regions as how
use Rattle.vale_region_cert.specs.Told.{held_by_type, mark_of, IsTold, Told, passed_as}

pub told_none : (b : ℕ) (m : Option How) → IsTold (mark_of b Empty) m
told_none b m = tt

module _ (b : ℕ) where
  set_each : (facts : List RegFact) (ms : Marks) (to r : ℕ) (fact : RegFact) (m : Option How) → IsTold (mark_of b fact) m → ((q : ℕ) → IsTold (mark_of b (fact_of facts q)) (mark ms q))
      → IsTold (mark_of b (fact_of (slice_set facts to fact) r)) (mark (put_mark ms to m) r)
  set_each [] ms to r fact m h each = tt
  set_each (x ∷ facts) [] zero zero fact m h each = h
  set_each (x ∷ facts) [] zero (suc r) fact m h each = each (suc r)
  set_each (x ∷ facts) [] (suc to) zero fact m h each = each zero
  set_each (x ∷ facts) [] (suc to) (suc r) fact m h each = set_each facts [] to r fact m h (λ q. each (suc q))
  set_each (x ∷ facts) (y ∷ ms) zero zero fact m h each = h
  set_each (x ∷ facts) (y ∷ ms) zero (suc r) fact m h each = each (suc r)
  set_each (x ∷ facts) (y ∷ ms) (suc to) zero fact m h each = each zero
  set_each (x ∷ facts) (y ∷ ms) (suc to) (suc r) fact m h each = set_each facts ms to r fact m h (λ q. each (suc q))

  pub told_set : (facts : List RegFact) (ms : Marks) (to : ℕ) (fact : RegFact) (m : Option How) → IsTold (mark_of b fact) m → Told b facts ms → Told b (slice_set facts to fact) (put_mark ms to m)
  told_set facts ms to fact m h x = record { each = λ r. set_each facts ms to r fact m h x.each }

  pub told_empty : (facts : List RegFact) (ms : Marks) (a : ℕ) → Told b facts ms → Told b (slice_set facts a Empty) (put_mark ms a None)
  told_empty facts ms a x = told_set facts ms a Empty None tt x

  -- a value was taken out
  pub told_taken : (facts : List RegFact) (ms : Marks) (a : ℕ) (ty : Ty) (v : Value) → value_has ty v ≡ true → Told b facts ms → Told b (after_passing facts a ty) (taken a v ms)
  told_taken facts ms a (t.Own k) (Own n) e x = told_empty facts ms a x
  told_taken facts ms a (t.Iso k) (Iso n) e x = told_empty facts ms a x
  told_taken facts ms a (t.Ref k) (Ref n) e x = x
  told_taken facts ms a (t.Frozen k) (Ref n) e x = x
  told_taken facts ms a t.Int (Int n) e x = x
  told_taken facts ms a t.Truth (Truth n) e x = x
  told_taken facts ms a t.Text (Text n) e x = x
  told_taken facts ms a _ _ e x = let y : ⊥ = cc in absurd y

  -- a register of which what is known stays told
  same_each : (facts : List RegFact) (ms : Marks) (a r : ℕ) (fact : RegFact) → IsTold (mark_of b fact) (mark ms a) → ((q : ℕ) → IsTold (mark_of b (fact_of facts q)) (mark ms q)) → IsTold (mark_of b (fact_of (slice_set facts a fact) r)) (mark ms r)
  same_each [] ms a r fact h each = tt
  same_each (x ∷ facts) ms zero zero fact h each = h
  same_each (x ∷ facts) ms zero (suc r) fact h each = each (suc r)
  same_each (x ∷ facts) ms (suc a) zero fact h each = each zero
  same_each (x ∷ facts) [] (suc a) (suc r) fact h each = same_each facts [] a r fact h (λ q. each (suc q))
  same_each (x ∷ facts) (y ∷ ms) (suc a) (suc r) fact h each = same_each facts ms a r fact h (λ q. each (suc q))

  pub told_same : (facts : List RegFact) (ms : Marks) (a : ℕ) (fact : RegFact) → IsTold (mark_of b fact) (mark ms a) → Told b facts ms → Told b (slice_set facts a fact) ms
  told_same facts ms a fact h x = record { each = λ r. same_each facts ms a r fact h x.each }

  -- ---- labels

  agrees_told : (stated fact : RegFact) (m : Option How) → agrees stated fact ≡ true → IsTold (mark_of b fact) m → IsTold (mark_of b stated) m
  agrees_told Empty fact m e h = tt
  agrees_told (Held ty depth live) Empty m e h = let x : ⊥ = cc in absurd x
  agrees_told (Held ty depth live) (Held u d l) m e h =
      let p = and_parts _ _ e in let q = and_parts (Rattle.vale_code.specs.Kinds.same_type ty u) (depth == d) p.0 in
      let like = type_is ty u q.0 in let deep : depth ≡ d = let y : (depth == d) ≡ true = q.1 in grind arith in
      subst (λ ty. IsTold (held_by_type ty (b + depth)) m) (sym like) (subst (λ d. IsTold (held_by_type u (b + d)) m) (sym deep) h)

  agree_each : (stated facts : List RegFact) (ms : Marks) (r : ℕ) → agree stated facts ≡ true → ((q : ℕ) → IsTold (mark_of b (fact_of facts q)) (mark ms q)) → IsTold (mark_of b (fact_of stated r)) (mark ms r)
  agree_each [] facts ms r e each = tt
  agree_each (x ∷ stated) [] ms r e each = let y : ⊥ = cc in absurd y
  agree_each (x ∷ stated) (y ∷ facts) ms zero e each = agrees_told x y (mark ms zero) (and_parts _ _ e).0 (each zero)
  agree_each (x ∷ stated) (y ∷ facts) [] (suc r) e each = agree_each stated facts [] r (and_parts _ _ e).1 (λ q. each (suc q))
  agree_each (x ∷ stated) (y ∷ facts) (m ∷ ms) (suc r) e each = agree_each stated facts ms r (and_parts _ _ e).1 (λ q. each (suc q))

  pub told_stated : (stated facts : List RegFact) (ms : Marks) → agree stated facts ≡ true → Told b facts ms → Told b stated ms
  told_stated stated facts ms e x = record { each = λ r. agree_each stated facts ms r e x.each }

-- ---- a function's entry

empty_told : (c n r : ℕ) (m : Option How) → IsTold (mark_of c (fact_of (replicate n Empty) r)) m
empty_told c zero r m = tt
empty_told c (suc n) zero m = tt
empty_told c (suc n) (suc r) m = empty_told c n r m

param_told : (c : ℕ) (ty : Ty) → IsTold (held_by_type ty (c + 0)) (Some (passed_as c ty))
param_told c (t.Own k) = let e : c ≡ c + 0 = omega arith in ap (λ a. Some (how.Held a)) e
param_told c (t.Ref k) = let e : c ≡ c + 0 = omega arith in ap (λ a. Some (how.Held a)) e
param_told c (t.Iso k) = let e : c ≡ c + 0 = omega arith in ap (λ a. Some (how.Held a)) e
param_told c (t.Frozen k) = let e : c ≡ c + 0 = omega arith in ap (λ a. Some (how.Seen a)) e
param_told c t.Void = tt
param_told c t.Int = tt
param_told c t.Truth = tt
param_told c t.Text = tt

params_told : (c n m : ℕ) (live : List ℕ) (tys : List Ty) (r : ℕ) → IsTold (mark_of c (fact_of (params_from n live tys ++ replicate m Empty) r)) (mark (map Some (map (passed_as c) tys)) r)
params_told c n m live [] r = empty_told c m r _
params_told c n m live (ty ∷ tys) zero = param_told c ty
params_told c n m live (ty ∷ tys) (suc r) = params_told c (n + 1) m live tys r

pub entry_told : (c m : ℕ) (live : List ℕ) (tys : List Ty) → Told c (params_from 0 live tys ++ replicate m Empty) (map Some (map (passed_as c) tys))
entry_told c m live tys = record { each = λ r. params_told c 0 m live tys r }
