-- Objects are made and taken apart: what is held after it is as the certificate knows.
use Rattle.std.proofs.Common.{◌≡◌, ℕ, zero, suc, ◌+◌, List, [], ◌∷◌, length, replicate, Option, Some, None, true, false, nat_le, refl, sym, ap, ◌∙◌, subst}
use Rattle.std.specs.Prelude.{slice_set}
use Rattle.std.proofs.lemmas.Bool.{and_parts}
use Rattle.vale_base.specs.Limits.{width_limit}
use Rattle.vale_state_spec.specs.State.{State}
use Rattle.vale_base.specs.declared.name.Kind.{Kind}
use Rattle.vale_code.specs.Act.{act}
use Rattle.vale_code.specs.Frames.{Running, Config}
use Rattle.vale_code.specs.Kinds.{kind_of}
use Rattle.vale_code.specs.Parts.{Parts}
use Rattle.vale_code.specs.Registers.{put}
use Rattle.vale_code.specs.declared.instr.Instr.TheVariants as i
use Rattle.vale_code.specs.declared.kind.KindInfo.{KindInfo}
use Rattle.vale_code.specs.declared.kind.KindInfo.TheVariants as k
use Rattle.vale_code.specs.declared.ty.Ty.{Ty}
use Rattle.vale_code.specs.declared.ty.Ty.TheVariants as t
use Rattle.vale_cert.specs.Certificate.{Certified}
use Rattle.vale_cert.specs.Known.{fact_of, is_free}
use Rattle.vale_cert.specs.Objects.{types_of, cells_of, fields_of, has_room, owner_kind}
use Rattle.vale_cert.specs.Rules as rules
use Rattle.vale_cert.specs.Rules.{Effect, owns, takes_all, puts_all, opens_of, fields_by, leads, is_usable, gets}
use Rattle.vale_cert.specs.Types.{is_frozen, is_isolate}
use Rattle.vale_cert.specs.Walk.{goes_on}
use Rattle.vale_cert.specs.declared.facts.FuncFacts.{FuncFacts}
use Rattle.vale_cert.specs.declared.facts.RegFact.TheVariants.{Empty, Held}
use Rattle.vale_cert.specs.declared.rules.Kept.{Kept}
use Rattle.vale_cert.proofs.Cells.{struct_values}
use Rattle.vale_cert.proofs.Fit.{put_fits}
use Rattle.vale_cert.proofs.Going.{Place, row, fits_here}
use Rattle.vale_cert.proofs.Making.{putting, opens_parts}
use Rattle.vale_cert.proofs.Reading.{owner_found}
use Rattle.vale_region_laws.specs.Holding.{Marks, put_mark}
use Rattle.vale_region_laws.specs.Regions.{Each, How}
use Rattle.vale_region_laws.specs.Regions as how
use Rattle.vale_region_laws.proofs.Acts.{opened_next}
use Rattle.vale_region_laws.proofs.Looping.{drop_fits}
use Rattle.vale_region_laws.proofs.Making.{make_next}
use Rattle.vale_region_laws.proofs.Passing.{none_put}
use Rattle.vale_region_laws.proofs.Whole.{marks_put, put_all_fits, marks_put_under}
use Rattle.vale_region_cert.specs.Joined.{RegionsFit, RegionsNext}
use Rattle.vale_region_cert.specs.Told.{held_by_type, IsTold, Told}
use Rattle.vale_region_cert.proofs.Around.{marks, hs, base, told_here, deep_here, goes}
use Rattle.vale_region_cert.proofs.Giving.{storing}
use Rattle.vale_region_cert.proofs.Lawful.{fields_lawful, item_lawful}
use Rattle.vale_region_cert.proofs.Reading.{owner_marked}
use Rattle.vale_region_cert.proofs.Simple.{gets_held}
use Rattle.vale_region_cert.proofs.Told.{told_set, told_empty}

all_same : (n : ℕ) (ty : Ty) → is_frozen ty ≡ false → Each (λ ty. is_frozen ty ≡ false) (replicate n ty)
all_same zero ty e = tt
all_same (suc n) ty e = (e, all_same n ty e)

none_frozen : (tys : List Ty) → Each (λ ty. (is_frozen ty ≡ false) × (is_isolate ty ≡ false)) tys → Each (λ ty. is_frozen ty ≡ false) tys
none_frozen [] h = tt
none_frozen (ty ∷ tys) h = (h.0.0, none_frozen tys h.1)

held_told : (ty : Ty) (a c : ℕ) → a ≡ c → is_frozen ty ≡ false → IsTold (held_by_type ty a) (Some (how.Held c))
held_told t.Void a c e fz = tt
held_told t.Int a c e fz = tt
held_told t.Truth a c e fz = tt
held_told t.Text a c e fz = tt
held_told (t.Own k) a c e fz = sym (ap (λ a. Some (how.Held a)) e)
held_told (t.Ref k) a c e fz = sym (ap (λ a. Some (how.Held a)) e)
held_told (t.Iso k) a c e fz = sym (ap (λ a. Some (how.Held a)) e)
held_told (t.Frozen k) a c e fz = let y : ⊥ = cc in absurd y

module _ (code : Parts) (facts : List FuncFacts) (cert : Certified code facts) (last : Config → State) (P : Place code facts) (x : RegionsFit code facts (record { top = Running P.f; below = P.below; state = P.s })) where
  open P use {ty, f, below, s, F, under_it, heap, owned, instr, instrs, here, S}

  abbrev ms : Marks
  ms = marks code facts P x

  abbrev b : ℕ
  b = base code facts P x

  told : Told b S.known.regs ms
  told = told_here code facts P x

  made_of : goes_on instr ≡ true → (to : ℕ) (kind : Kind) (args : List ℕ) (tys : List Ty) (kept : Kept) → Each (λ ty. is_frozen ty ≡ false) tys
      → (owns S.known.depth kind to (takes_all S.known.depth tys args (record { kept = kept; after = S.known.regs }))).kept.types ≡ true
      → (owns S.known.depth kind to (takes_all S.known.depth tys args (record { kept = kept; after = S.known.regs }))).kept.present ≡ true
      → (owns S.known.depth kind to (takes_all S.known.depth tys args (record { kept = kept; after = S.known.regs }))).kept.depths ≡ true
      → (row code facts P).after ≡ (owns S.known.depth kind to (takes_all S.known.depth tys args (record { kept = kept; after = S.known.regs }))).after
      → RegionsNext code facts (act code last f below s (i.Make to kind args))
  made_of on to kind args tys kept fz e g q after =
      let R : Effect = record { kept = kept; after = S.known.regs } in
      let T = takes_all S.known.depth tys args R in
      let st = storing code s.world b S.known.depth s.regions (deep_here code facts P x) tys args R ms f.registers fz (fits_here code facts P) told x.fits.stack.0 e (and_parts T.kept.present (is_free (fact_of T.after to)) g).0 q in
      gets_held code facts last P x on T.after st.marks st.told st.under to (t.Own kind) false _ after refl
      (make_next code last f below s x.fits.home (hs code facts P x) ms x.fits.fits to kind args st.values st.marks st.after st.all)

  pub making : goes_on instr ≡ true → (to : ℕ) (kind : Kind) (args : List ℕ) (info : Option KindInfo) → kind_of code kind ≡ info
      → (rules.makes S.known.depth S.known.regs info kind to args).kept.types ≡ true → (rules.makes S.known.depth S.known.regs info kind to args).kept.present ≡ true → (rules.makes S.known.depth S.known.regs info kind to args).kept.depths ≡ true
      → (row code facts P).after ≡ (rules.makes S.known.depth S.known.regs info kind to args).after → RegionsNext code facts (act code last f below s (i.Make to kind args))
  making on to kind args None h e g q after = let y : ⊥ = cc in absurd y
  making on to kind args (Some (k.Interface name methods)) h e g q after = let y : ⊥ = cc in absurd y
  making on to kind args (Some (k.Struct name destructor fields)) h e g q after =
      made_of on to kind args (types_of fields) (rules.if_types true) (none_frozen (types_of fields) (fields_lawful code facts cert kind (types_of fields) (ap fields_of h))) e g q after
  making on to kind args (Some (k.Array item)) h e g q after =
      made_of on to kind args (replicate (length args) item) (rules.if_types (nat_le (length args) width_limit)) (all_same (length args) item (item_lawful code facts cert kind item (ap Rattle.vale_cert.specs.Objects.item_in h))) e g q after

  puts_told : (tys : List Ty) (tos : List ℕ) (R : Effect) (ns : Marks) → Each (λ ty. is_frozen ty ≡ false) tys → Told b R.after ns → (puts_all S.known.depth tys tos R).kept.types ≡ true → Told b (puts_all S.known.depth tys tos R).after (marks_put s.regions tos ns)
  puts_told [] [] R ns fz k e = k
  puts_told [] (to ∷ more) R ns fz k e = let y : ⊥ = cc in absurd y
  puts_told (u ∷ tys) [] R ns fz k e = let y : ⊥ = cc in absurd y
  puts_told (u ∷ tys) (to ∷ more) R ns fz k e =
      puts_told tys more (gets S.known.depth R.after to u R.kept) (put_mark ns to (Some (how.Held s.regions))) fz.1
      (told_set b R.after ns to (Held u S.known.depth false) (Some (how.Held s.regions)) (held_told u (b + S.known.depth) s.regions (deep_here code facts P x) fz.0) k) e

  puts_depths : (tys : List Ty) (tos : List ℕ) (R : Effect) → (puts_all S.known.depth tys tos R).kept.depths ≡ true → R.kept.depths ≡ true
  puts_depths [] [] R e = e
  puts_depths [] (to ∷ more) R e = e
  puts_depths (u ∷ tys) [] R e = e
  puts_depths (u ∷ tys) (to ∷ more) R e = puts_depths tys more (gets S.known.depth R.after to u R.kept) e

  pub opens_depths : (c : Option (List Ty)) (tos : List ℕ) (R : Effect) → (opens_of S.known.depth c tos R).kept.depths ≡ true → R.kept.depths ≡ true
  opens_depths None tos R e = e
  opens_depths (Some tys) tos R e = puts_depths tys tos R e

  fields_from : (kind : Kind) (tys : List Ty) → fields_by code (Some kind) ≡ Some tys → fields_of (kind_of code kind) ≡ Some tys
  fields_from kind tys e = e

  pub opening : goes_on instr ≡ true → (tos : List ℕ) (a : ℕ) → (rules.opens code S.known.depth S.known.regs tos a).kept.types ≡ true → (rules.opens code S.known.depth S.known.regs tos a).kept.present ≡ true
      → (rules.opens code S.known.depth S.known.regs tos a).kept.depths ≡ true → (row code facts P).after ≡ (rules.opens code S.known.depth S.known.regs tos a).after → RegionsNext code facts (act code last f below s (i.Open tos a))
  opening on tos a e g q after =
      let fact = fact_of S.known.regs a in
      let c = fields_by code (owner_kind fact) in
      let R : Effect = record { kept = leads (is_usable S.known.depth fact) fact c; after = slice_set S.known.regs a Empty } in
      let ok = opens_parts code facts P c tos R e g in
      let w = owner_found code facts P (fields_by code) a (is_usable S.known.depth fact) refl ok.0 ok.1 in
      let types : (puts_all S.known.depth w.cell tos R).kept.types ≡ true = subst (λ c. (opens_of S.known.depth c tos R).kept.types ≡ true) w.cell_is e in
      let N = putting code facts P w.cell tos R (put f.registers a None) w.object.values (put_fits code s.world S.known.regs f.registers a Empty None tt (fits_here code facts P)) (struct_values code facts cert s.world heap w.kind w.cell w.name w.object w.cell_of w.names w.lives) types in
      let fz = none_frozen w.cell (fields_lawful code facts cert w.kind w.cell (fields_from w.kind w.cell w.cell_of)) in
      let ns = marks_put s.regions tos (put_mark ms a None) in
      goes code facts P x on ns _ (marks_put_under s.regions tos (put_mark ms a None) (none_put s.regions s.regions a ms x.fits.stack.0))
      (subst (λ K. Told b K ns) (sym (after ∙ ap (λ c. (opens_of S.known.depth c tos R).after) w.cell_is)) (puts_told w.cell tos R (put_mark ms a None) fz (told_empty b S.known.regs ms a told) types))
      (opened_next code last f below s x.fits.home (hs code facts P x) ms x.fits.fits tos a w.name w.object N.got ns (owner_marked code facts cert last P x a w.kind w.via (opens_depths c tos R q)) w.is w.lives N.is
      (λ u h. drop_fits x.fits.home _ _ u (put_all_fits s.regions tos w.object.values (put_mark ms a None) (put f.registers a None) N.got (hs code facts P x) N.is) h))
