-- Objects are made, and taken apart.
use Rattle.std.proofs.Common.{◌≡◌, ℕ, suc, ◌+◌, ◌≤◌, List, [], ◌∷◌, length, replicate, Option, Some, None, true, false, if◌then◌else◌, nat_le, refl, sym, ap, ◌∙◌, subst, arith}
use Rattle.std.specs.Prelude.{slice_set}
use Rattle.std.proofs.lemmas.Bool.{and_parts, eq-eqb}
use Rattle.vale_base.specs.Limits.{width_limit}
use Rattle.vale_state_spec.specs.State.{State, born}
use Rattle.vale_state_spec.specs.State.{make, object_of, dies}
use Rattle.vale_state_spec.specs.World.{Value, Own, Freeze, Object, World, next_name, born as world_with, died}
use Rattle.vale_base.specs.declared.name.Kind.{Kind}
use Rattle.vale_code.specs.Frames.{Next, on, wrong, after_tick}
use Rattle.vale_code.specs.Instructions.{with_registers, onward, with_owner, with_read, with_choice, certain}
use Rattle.vale_code.specs.Kinds.{holds_values, kind_of}
use Rattle.vale_code.specs.Parts.{Parts}
use Rattle.vale_code.specs.Registers.{Registers, read, put, put_all, kept, read_all}
use Rattle.vale_code.specs.declared.kind.Field.{Field}
use Rattle.vale_code.specs.declared.kind.KindInfo.{KindInfo}
use Rattle.vale_code.specs.declared.kind.KindInfo.TheVariants as k
use Rattle.vale_code.specs.declared.ty.Ty.{Ty}
use Rattle.vale_code.specs.declared.ty.Ty.TheVariants as t
use Rattle.vale_cert.specs.Certificate.{Certified}
use Rattle.vale_cert.specs.Known as known
use Rattle.vale_cert.specs.Known.{fact_of, has}
use Rattle.vale_cert.specs.Objects.{types_of, cells_of, owner_kind}
use Rattle.vale_cert.specs.Rules as rules
use Rattle.vale_cert.specs.Rules.{owns, puts_all, opens_of, fields_by, leads, is_usable, taken, takes_all, Effect}
use Rattle.vale_cert.specs.Walk.{after, goes_on}
use Rattle.vale_cert.specs.declared.facts.FuncFacts.{FuncFacts}
use Rattle.vale_cert.specs.declared.facts.RegFact.{RegFact}
use Rattle.vale_cert.specs.declared.facts.RegFact.TheVariants.{Empty, Held}
use Rattle.vale_cert.specs.declared.rules.Kept.{Kept}
use Rattle.vale_cert.proofs.Cells.{leading, args_length, struct_values, born_fits, died_fits}
use Rattle.vale_cert.proofs.Fit.{RegsFit, WorldFits, regs_later, put_fits, ArgsFit}
use Rattle.vale_cert.proofs.Heap.{object_at, Later, born_at, state_born, later_died, later_born, same, own_in, in_regs, in_values, put_owns, world_set, world_born, alive_born, alive_died}
use Rattle.vale_cert.proofs.Arguments.{taking_all, takes_kept}
use Rattle.vale_cert.proofs.Standing.{OwnedBeside, NextFits, with_tick, names_it}
use Rattle.vale_cert.proofs.Going.{Place, fits_here, goes, row}
use Rattle.vale_cert.proofs.Reading.{owner_found}

module _ (code : Parts) (facts : List FuncFacts) (P : Place code facts) where
  open P use {ty, f, below, s, F, under_it, heap, owned, instr, instrs, here, S}

  -- ---- objects are made and taken apart

  takes_length : (tys : List Ty) (args : List ℕ) (R : Effect) → (takes_all S.known.depth tys args R).kept.types ≡ true → length tys ≡ length args
  takes_length [] [] R e = refl
  takes_length [] (a ∷ more) R e = let x : ⊥ = cc in absurd x
  takes_length (u ∷ tys) [] R e = let x : ⊥ = cc in absurd x
  takes_length (u ∷ tys) (a ∷ more) R e = ap suc (takes_length tys more (taken S.known.depth a u R) e)

  fields_length : (fields : List Field) → length (types_of fields) ≡ length fields
  fields_length [] = refl
  fields_length (x ∷ fields) = ap suc (fields_length fields)

  -- the new object has the next name
  object_made : goes_on instr ≡ true → (kind : Kind) (tys : List Ty) (to : ℕ) (K : List RegFact) (regs : Registers) (vs : List Value) (u : State) → u.world ≡ s.world → cells_of (kind_of code kind) (length vs) ≡ Some tys → ArgsFit code s.world tys vs
      → RegsFit code s.world K regs → ((n : ℕ) → in_values n vs + in_regs n regs ≤ in_regs n f.registers) → (row code facts P).after ≡ slice_set K to (Held (t.Own kind) S.known.depth false)
      → NextFits code facts (onward f (put regs to (Some (Own (next_name u.world)))) below (born kind vs u))
  object_made on kind tys to K regs vs u e cells has fits fewer after =
      subst (λ m. NextFits code facts (onward f (put regs to (Some (Own m))) below (born kind vs u))) (sym (ap (λ w. next_name w) e))
      (goes code facts P on (put regs to (Some (Own m))) (born kind vs u) (subst (λ w. RegsFit code w (row code facts P).after (put regs to (Some (Own m)))) (sym same_world) there) (subst (λ w. Later s.world w) (sym same_world) later)
      (subst (λ w. WorldFits code w) (sym same_world) (born_fits code s.world o later heap (record { tys = tys; cells = cells; values = has })))
      (subst (λ w. OwnedBeside code facts w (λ n. in_regs n (put regs to (Some (Own m)))) below) (sym same_world) counts))
    where
      o : Object
      o = record { region = Freeze u.regions; kind = kind; values = vs }

      m : ℕ
      m = next_name s.world

      W : World
      W = world_with s.world o

      same_world : (born kind vs u).world ≡ W
      same_world = state_born kind vs u ∙ ap (λ x. world_with x o) e

      later : Later s.world W
      later = later_born s.world o

      there : RegsFit code W (row code facts P).after (put regs to (Some (Own m)))
      there = subst (λ x. RegsFit code W x (put regs to (Some (Own m)))) (sym after)
          (put_fits code W K regs to (Held (t.Own kind) S.known.depth false) (Some (Own m))
          (Own m, refl, leading code W (t.Own kind) (Own m) kind m refl refl refl (names_it code facts W m o (born_at s.world o))) (regs_later code s.world W K regs later fits))

      counts : OwnedBeside code facts W (λ n. in_regs n (put regs to (Some (Own m)))) below
      counts n = let x = owned n in let y = put_owns n regs to (Some (Own m)) in let z = fewer n in let q = world_born n s.world o in let r = alive_born n s.world o in omega (arith, x, y, z, q, r)

  abbrev makes_it : Kind → ℕ → List ℕ → Next
  makes_it kind to args = with_read (read_all args f.registers) s (λ vs regs. after_tick s (λ u. certain f (Some to) regs below u (make kind vs u)))

  made_of : goes_on instr ≡ true → (to : ℕ) (kind : Kind) (args : List ℕ) (tys : List Ty) (kept : Kept) → cells_of (kind_of code kind) (length args) ≡ Some tys
      → (owns S.known.depth kind to (takes_all S.known.depth tys args (record { kept = kept; after = S.known.regs }))).kept.types ≡ true
      → (owns S.known.depth kind to (takes_all S.known.depth tys args (record { kept = kept; after = S.known.regs }))).kept.present ≡ true
      → (row code facts P).after ≡ (owns S.known.depth kind to (takes_all S.known.depth tys args (record { kept = kept; after = S.known.regs }))).after
      → NextFits code facts (makes_it kind to args)
  made_of on to kind args tys kept cells e g after =
      let R : Effect = record { kept = kept; after = S.known.regs } in
      let T = taking_all code s.world S.known.depth tys args R f.registers (fits_here code facts P) e (and_parts (takes_all S.known.depth tys args R).kept.present (known.is_free (fact_of (takes_all S.known.depth tys args R).after to)) g).0 in
      let long : length T.got.values ≡ length args = sym (args_length code s.world tys T.got.values T.has) ∙ takes_length tys args R e in
      subst (λ o. NextFits code facts (with_read o s (λ vs regs. after_tick s (λ u. certain f (Some to) regs below u (make kind vs u))))) (sym T.given)
      (with_tick code facts s _ (λ u same_world. object_made on kind tys to (takes_all S.known.depth tys args R).after T.got.after T.got.values u same_world (ap (λ n. cells_of (kind_of code kind) n) long ∙ cells) T.has T.fits T.owned after))

  pub making : goes_on instr ≡ true → (to : ℕ) (kind : Kind) (args : List ℕ) (info : Option KindInfo) → kind_of code kind ≡ info
      → (rules.makes S.known.depth S.known.regs info kind to args).kept.types ≡ true → (rules.makes S.known.depth S.known.regs info kind to args).kept.present ≡ true
      → (row code facts P).after ≡ (rules.makes S.known.depth S.known.regs info kind to args).after → NextFits code facts (if holds_values info (length args) then makes_it kind to args else wrong s)
  making on to kind args None q e g after = let x : ⊥ = cc in absurd x
  making on to kind args (Some (k.Interface name methods)) q e g after = let x : ⊥ = cc in absurd x
  making on to kind args (Some (k.Struct name destructor fields)) q e g after =
      let R : Effect = record { kept = rules.if_types true; after = S.known.regs } in
      let many : length fields ≡ length args = sym (fields_length fields) ∙ takes_length (types_of fields) args R e in
      subst (λ b. NextFits code facts (if b then makes_it kind to args else wrong s)) (sym (eq-eqb (length fields) (length args) many))
      (made_of on to kind args (types_of fields) (rules.if_types true) (ap (λ i. cells_of i (length args)) q) e g after)
  making on to kind args (Some (k.Array item)) q e g after =
      let R : Effect = record { kept = rules.if_types (nat_le (length args) width_limit); after = S.known.regs } in
      let tys = replicate (length args) item in
      let few = (takes_kept code s.world S.known.depth tys args R e (and_parts (takes_all S.known.depth tys args R).kept.present (known.is_free (fact_of (takes_all S.known.depth tys args R).after to)) g).0).0 in
      subst (λ b. NextFits code facts (if b then makes_it kind to args else wrong s)) (sym few)
      (made_of on to kind args tys (rules.if_types (nat_le (length args) width_limit)) (ap (λ i. cells_of i (length args)) q) e g after)

  pub record PutAll (tys : List Ty) (tos : List ℕ) (R : Effect) (regs : Registers) (vs : List Value) : Type 0 where
    pub got : Registers
    pub is : put_all tos vs regs ≡ Some got
    pub fits : RegsFit code s.world (puts_all S.known.depth tys tos R).after got
    pub fewer : (n : ℕ) → in_regs n got ≤ in_regs n regs + in_values n vs

  pub putting : (tys : List Ty) (tos : List ℕ) (R : Effect) (regs : Registers) (vs : List Value) → RegsFit code s.world R.after regs → ArgsFit code s.world tys vs → (puts_all S.known.depth tys tos R).kept.types ≡ true → PutAll tys tos R regs vs
  putting [] [] R regs [] fits h e = record { got = regs; is = refl; fits = fits; fewer = λ n. omega arith }
  putting [] [] R regs (v ∷ vs) fits h e = absurd h
  putting [] (to ∷ more) R regs vs fits h e = let x : ⊥ = cc in absurd x
  putting (u ∷ tys) [] R regs vs fits h e = let x : ⊥ = cc in absurd x
  putting (u ∷ tys) (to ∷ more) R regs [] fits h e = absurd h
  putting (u ∷ tys) (to ∷ more) R regs (v ∷ vs) fits h e =
      let r = putting tys more (rules.gets S.known.depth R.after to u R.kept) (put regs to (Some v)) vs (put_fits code s.world R.after regs to (Held u S.known.depth false) (Some v) (v, refl, h.0) fits) h.1 e in
      record { got = r.got; is = r.is; fits = r.fits; fewer = λ n. let x = r.fewer n in let y = put_owns n regs to (Some v) in omega (arith, x, y) }

  puts_types : (tys : List Ty) (tos : List ℕ) (R : Effect) → (puts_all S.known.depth tys tos R).kept.types ≡ true → R.kept.types ≡ true
  puts_types [] [] R e = e
  puts_types [] (to ∷ more) R e = let x : ⊥ = cc in absurd x
  puts_types (u ∷ tys) [] R e = let x : ⊥ = cc in absurd x
  puts_types (u ∷ tys) (to ∷ more) R e = puts_types tys more (rules.gets S.known.depth R.after to u R.kept) e

  puts_present : (tys : List Ty) (tos : List ℕ) (R : Effect) → (puts_all S.known.depth tys tos R).kept.present ≡ true → R.kept.present ≡ true
  puts_present [] [] R e = e
  puts_present [] (to ∷ more) R e = e
  puts_present (u ∷ tys) [] R e = e
  puts_present (u ∷ tys) (to ∷ more) R e = (and_parts R.kept.present (known.is_free (fact_of R.after to)) (puts_present tys more (rules.gets S.known.depth R.after to u R.kept) e)).0

  pub opens_parts : (c : Option (List Ty)) (tos : List ℕ) (R : Effect) → (opens_of S.known.depth c tos R).kept.types ≡ true → (opens_of S.known.depth c tos R).kept.present ≡ true → (R.kept.types ≡ true) × (R.kept.present ≡ true)
  opens_parts None tos R e g = (e, g)
  opens_parts (Some tys) tos R e g = (puts_types tys tos R e, puts_present tys tos R g)

  pub opening : Certified code facts → goes_on instr ≡ true → (tos : List ℕ) (a : ℕ) → (rules.opens code S.known.depth S.known.regs tos a).kept.types ≡ true → (rules.opens code S.known.depth S.known.regs tos a).kept.present ≡ true
      → (row code facts P).after ≡ (rules.opens code S.known.depth S.known.regs tos a).after
      → NextFits code facts (with_owner (read f.registers a) s (λ n. with_choice (object_of n s) s (λ o. with_registers (put_all tos o.values (put f.registers a None)) s (λ regs. after_tick s (λ u. onward f regs below (dies n u))))))
  opening cert on tos a e g after =
      let fact = fact_of S.known.regs a in
      let c = fields_by code (owner_kind fact) in
      let R : Effect = record { kept = leads (is_usable S.known.depth fact) fact c; after = slice_set S.known.regs a Empty } in
      let ok = opens_parts c tos R e g in
      let w = owner_found code facts P (fields_by code) a (is_usable S.known.depth fact) refl ok.0 ok.1 in
      let types : (puts_all S.known.depth w.cell tos R).kept.types ≡ true = subst (λ c. (opens_of S.known.depth c tos R).kept.types ≡ true) w.cell_is e in
      let P = putting w.cell tos R (put f.registers a None) w.object.values (put_fits code s.world S.known.regs f.registers a Empty None tt (fits_here code facts P)) (struct_values code facts cert s.world heap w.kind w.cell w.name w.object w.cell_of w.names w.lives) types in
      subst (λ o. NextFits code facts (with_owner o s (λ n. with_choice (object_of n s) s (λ o. with_registers (put_all tos o.values (put f.registers a None)) s (λ regs. after_tick s (λ u. onward f regs below (dies n u))))))) (sym w.is)
      (subst (λ x. NextFits code facts (with_choice x s (λ o. with_registers (put_all tos o.values (put f.registers a None)) s (λ regs. after_tick s (λ u. onward f regs below (dies w.name u)))))) (sym w.lives)
      (subst (λ x. NextFits code facts (with_registers x s (λ regs. after_tick s (λ u. onward f regs below (dies w.name u))))) (sym P.is)
      (with_tick code facts s _ (λ u same_world. dead_now w.name w.object w.lives P.got (dies w.name u) (ap (λ x. died x w.name) same_world)
      (subst (λ x. RegsFit code s.world x P.got) (sym (after ∙ ap (λ c. (opens_of S.known.depth c tos R).after) w.cell_is)) P.fits)
      (λ n. let x = P.fewer n in let y = put_owns n f.registers a None in let z = ap (λ o. own_in n o) w.is in omega (arith, x, y, z))))))
    where
      dead_now : (n : ℕ) (o : Object) → object_at s.world n ≡ Some o → (regs : Registers) (u : State) → u.world ≡ died s.world n → RegsFit code s.world (row code facts P).after regs → ((m : ℕ) → in_regs m regs + same m n ≤ in_regs m f.registers + in_values m o.values) → NextFits code facts (onward f regs below u)
      dead_now n o lives regs u q fits fewer =
          goes code facts P on regs u (subst (λ w. RegsFit code w (row code facts P).after regs) (sym q) (regs_later code s.world (died s.world n) (row code facts P).after regs (later_died s.world n) fits)) (subst (λ w. Later s.world w) (sym q) (later_died s.world n))
          (subst (λ w. WorldFits code w) (sym q) (died_fits code s.world n (later_died s.world n) heap))
          (subst (λ w. OwnedBeside code facts w (λ m. in_regs m regs) below) (sym q) (λ m. let x = owned m in let y = fewer m in let z = world_set m s.world n o None lives in let r = alive_died m s.world n o lives in omega (arith, x, y, z, r)))
