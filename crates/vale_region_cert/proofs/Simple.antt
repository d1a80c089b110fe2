-- Instructions on values in registers: what comes of them is held as the certificate knows.
use Rattle.std.proofs.Common.{◌≡◌, ◌≤◌, ℕ, zero, suc, ◌+◌, List, [], ◌∷◌, ◌++◌, Option, Some, None, Bool, true, false, not, ◌⊎◌, inl, inr, refl, sym, ap, ◌∙◌, subst, arith}
use Rattle.std.specs.Prelude.{slice_get, slice_set}
use Rattle.vale_state_spec.specs.State.{State, Answer, spend_of, print_text, printed}
use Rattle.vale_state_spec.specs.World.{Value, Int, Truth, Text, Own, Ref, Iso}
use Rattle.vale_base.specs.declared.name.Kind.{Kind}
use Rattle.vale_base.specs.declared.spot.Spot.{Spot}
use Rattle.vale_code.specs.Destroy.{destroy}
use Rattle.vale_code.specs.Enter.{Form, Plain, Pure, Iteration, Destructor, form_of, function, leave_function}
use Rattle.vale_code.specs.Frames.{Active, Frame, Running, Config, Next, On, Over, ticked, leave}
use Rattle.vale_code.specs.Instructions.{onward, behind, with_value, with_truth, with_choice, answered, certain, gets, copied, moved, borrowed, at_place, jump, jump_by, jump_unless, is_free}
use Rattle.vale_code.specs.Parts.{Parts}
use Rattle.vale_code.specs.Registers.{read, put}
use Rattle.vale_code.specs.declared.func.Func.{Func}
use Rattle.vale_code.specs.declared.ty.Ty.{Ty}
use Rattle.vale_code.specs.declared.ty.Ty.TheVariants as t
use Rattle.vale_cert.specs.Certificate.{Certified}
use Rattle.vale_cert.specs.Known.{Known, fact_of, is_there, has, label_at, is_label, may_enter}
use Rattle.vale_cert.specs.Objects.{owner_kind}
use Rattle.vale_cert.specs.Rules.{is_bound, is_usable, is_copied, copy_of, is_moved, moved_to, lent_to}
use Rattle.vale_cert.specs.Types.{is_owned, is_frozen}
use Rattle.vale_cert.specs.Walk.{after, enters, goes_on, has_target, target_of}
use Rattle.vale_cert.specs.declared.facts.FuncFacts.{FuncFacts}
use Rattle.vale_cert.specs.declared.facts.Label.{Label}
use Rattle.vale_cert.specs.declared.facts.RegFact.{RegFact}
use Rattle.vale_cert.specs.declared.facts.RegFact.TheVariants.{Empty, Held}
use Rattle.vale_cert.proofs.Fit.{value_has, Holds}
use Rattle.vale_cert.proofs.Going.{Place, row, fits_here}
use Rattle.vale_cert.proofs.Placed.{known_labelled}
use Rattle.vale_region_laws.specs.Configs.{MarkUnder, StackFits}
use Rattle.vale_region_laws.specs.Holding.{Marks, mark, put_mark, taken, in_registers, held_as, in_frames}
use Rattle.vale_region_laws.specs.Passing.{IsPlain}
use Rattle.vale_region_laws.specs.Regions.{Each, How, Holder}
use Rattle.vale_region_laws.specs.Regions as how
use Rattle.vale_region_laws.proofs.Acts.{NextFits_, copy_held_next, copy_seen_next, move_next, borrow_next, answers_next, surely_next, plain_next, stays_next}
use Rattle.vale_region_laws.proofs.Frames.{mark_put}
use Rattle.vale_region_laws.proofs.Holding.{take_fits}
use Rattle.vale_region_laws.proofs.Leaving.{waits_here, nothing_left, mark_none}
use Rattle.vale_region_laws.proofs.Passing.{none_put}
use Rattle.vale_region_laws.proofs.Plain.{PlainOut}
use Rattle.vale_region_laws.proofs.States.{Gives}
use Rattle.vale_region_cert.specs.Joined.{out_of, RegionsFit, RegionsNext}
use Rattle.vale_region_cert.specs.Told.{held_by_type, mark_of, IsTold, Told}
use Rattle.vale_region_cert.proofs.Around.{mark_low, marks, hs, base, known_next, told_here, deep_here, same_function, base_is, around, comes, goes, waits, bound_here}
use Rattle.vale_region_cert.proofs.Frames.{Landed, with_known, leave_without, leave_with, destroys_it, IsQuiet}
use Rattle.vale_region_cert.proofs.Told.{told_set, told_empty}

module _ (code : Parts) (facts : List FuncFacts) (s : State) where
  pub any_value : (o : Option Value) (go : Value → Next) → ((v : Value) → RegionsNext code facts (go v)) → RegionsNext code facts (with_value o s go)
  any_value None go each = tt
  any_value (Some v) go each = each v

  pub any_two : (o u : Option Value) (go : Value → Value → Next) → ((v w : Value) → RegionsNext code facts (go v w)) → RegionsNext code facts (with_value o s (λ v. with_value u s (λ w. go v w)))
  any_two o u go each = any_value o _ (λ v. any_value u _ (λ w. each v w))

  pub any_choice : {A : Type 0} (o : Option A) (go : A → Next) → ((a : A) → RegionsNext code facts (go a)) → RegionsNext code facts (with_choice o s go)
  any_choice None go each = tt
  any_choice (Some a) go each = each a

  pub value_is : (o : Option Value) (v : Value) (go : Value → Next) → o ≡ Some v → RegionsNext code facts (go v) → RegionsNext code facts (with_value o s go)
  value_is o v go e h = subst (λ o. RegionsNext code facts (with_value o s go)) (sym e) h

module _ (code : Parts) (facts : List FuncFacts) (last : Config → State) (P : Place code facts) (x : RegionsFit code facts (record { top = Running P.f; below = P.below; state = P.s })) where
  open P use {ty, f, below, s, F, under_it, heap, owned, instr, instrs, here, S}

  abbrev ms : Marks
  ms = marks code facts P x

  abbrev others : List Holder
  others = hs code facts P x

  abbrev b : ℕ
  b = base code facts P x

  told : Told b S.known.regs ms
  told = told_here code facts P x

  deep : b + S.known.depth ≡ s.regions
  deep = deep_here code facts P x

  -- ---- values that lead nowhere

  none_told : (ty : Ty) (m : Option How) → held_by_type ty (b + S.known.depth) ≡ None → IsTold (held_by_type ty (b + S.known.depth)) m
  none_told ty m e = subst (λ h. IsTold h m) (sym e) tt

  -- over these known registers
  pub gets_plain : goes_on instr ≡ true → (K : List RegFact) → Told b K ms → (to : ℕ) (result : Ty) (next : Next) → (row code facts P).after ≡ slice_set K to (Held result S.known.depth false) → held_by_type result (b + S.known.depth) ≡ None
      → NextFits_ (around code facts P x (f.place + 1)) (put_mark ms to (Some (how.Held s.regions))) others next → RegionsNext code facts next
  gets_plain on K k to result next after none h =
      goes code facts P x on (put_mark ms to (Some (how.Held s.regions))) next (mark_put code s.regions to (how.Held s.regions) ms (omega arith) x.fits.stack.0)
      (subst (λ K. Told b K (put_mark ms to (Some (how.Held s.regions)))) (sym after) (told_set b K ms to (Held result S.known.depth false) (Some (how.Held s.regions)) (none_told result (Some (how.Held s.regions)) none) k)) h

  pub computes : goes_on instr ≡ true → (to : ℕ) (result : Ty) (at : Spot) (a : Answer) → (row code facts P).after ≡ slice_set S.known.regs to (Held result S.known.depth false) → held_by_type result (b + S.known.depth) ≡ None → Gives (PlainOut s) a
      → RegionsNext code facts (answered f (Some to) f.registers at below s a)
  computes on to result at a after none p = gets_plain on S.known.regs told to result _ after none (answers_next code last f below s x.fits.home others ms x.fits.fits to at a p)

  pub surely : goes_on instr ≡ true → (to : ℕ) (result : Ty) (a : Answer) → (row code facts P).after ≡ slice_set S.known.regs to (Held result S.known.depth false) → held_by_type result (b + S.known.depth) ≡ None → Gives (PlainOut s) a
      → RegionsNext code facts (certain f (Some to) f.registers below s a)
  surely on to result a after none p = gets_plain on S.known.regs told to result _ after none (surely_next code last f below s x.fits.home others ms x.fits.fits to a p)

  pub sets : goes_on instr ≡ true → (to : ℕ) (result : Ty) (v : Value) → (row code facts P).after ≡ slice_set S.known.regs to (Held result S.known.depth false) → held_by_type result (b + S.known.depth) ≡ None → IsPlain v
      → RegionsNext code facts (onward f (put f.registers to (Some v)) below s)
  sets on to result v after none p = gets_plain on S.known.regs told to result (onward f (put f.registers to (Some v)) below s) after none (plain_next code last f below s x.fits.home others ms x.fits.fits to v p)

  -- the registers stay
  pub stays : goes_on instr ≡ true → (u : State) → u.world ≡ s.world → u.regions ≡ s.regions → (row code facts P).after ≡ S.known.regs → RegionsNext code facts (onward f f.registers below u)
  stays on u w e after =
      goes code facts P x on ms (onward f f.registers below u) x.fits.stack.0 (subst (λ K. Told b K ms) (sym after) told) (stays_next code last f below s x.fits.home others ms x.fits.fits u w e (f.place + 1))

  pub prints : goes_on instr ≡ true → (line : Bool) (o : Option (List ℕ)) → (row code facts P).after ≡ S.known.regs → RegionsNext code facts (certain f None f.registers below s (print_text line o s))
  prints on line None after = tt
  prints on true (Some bytes) after = stays on (printed (bytes ++ 10 ∷ []) s) refl refl after
  prints on false (Some bytes) after = stays on (printed bytes s) refl refl after

  -- ---- jumps

  landing : (q : ℕ) (u : State) → u.world ≡ s.world → u.regions ≡ s.regions → target_of instr ≡ Some q → (row code facts P).after ≡ S.known.regs → RegionsNext code facts (at_place f q below u)
  landing q u w e target after = from (label_at F.of.labels q) refl
    where
      is_there_label : is_label (label_at F.of.labels q) ≡ true
      is_there_label = subst (λ o. has_target code F.func F.of.labels F.is_judged.base o ≡ true) target S.keeps.target

      may : may_enter (label_at F.of.labels q) (known_next code facts P x) ≡ true
      may = subst (λ o. enters code F.func F.of.labels F.is_judged.base o (known_next code facts P x) ≡ true) target S.keeps.enters_target

      from : (o : Option Label) → label_at F.of.labels q ≡ o → RegionsNext code facts (at_place f q below u)
      from None g = absurd (let x : is_label None ≡ true = subst (λ o. is_label o ≡ true) g is_there_label in let y : ⊥ = cc in y)
      from (Some l) g =
          let l_is = known_labelled code F.func F.of q l (F.is_judged.within q l g) g in
          let states = l_is ∙ sym (ap (λ o. Rattle.vale_cert.specs.Known.stated o (Some (known_next code facts P x))) g) in
          comes code facts P x q (Rattle.vale_region_cert.proofs.Frames.landed code F.func F.of q (known_next code facts P x) states may) ms (at_place f q below u) x.fits.stack.0
          (subst (λ K. Told b K ms) (sym after) told) (stays_next code last f below s x.fits.home others ms x.fits.fits u w e q)

  pub jumps : (q : ℕ) → target_of instr ≡ Some q → (row code facts P).after ≡ S.known.regs → RegionsNext code facts (jump code f q below s)
  jumps q target after = from (is_free code f q)
    where
      ticking : (n : ℕ) → RegionsNext code facts (ticked (spend_of n s) s (λ t. at_place f q below t))
      ticking zero = tt
      ticking (suc n) = landing q (record s { left = n; spent = s.spent + 1 }) refl refl target after

      from : (free : Bool) → RegionsNext code facts (jump_by free f q below s)
      from true = landing q s refl refl target after
      from false = ticking s.left

  pub branches : goes_on instr ≡ true → (o : Option Value) (q : ℕ) → target_of instr ≡ Some q → (row code facts P).after ≡ S.known.regs → RegionsNext code facts (with_truth o s (jump_unless code f q below s))
  branches on None q target after = tt
  branches on (Some (Truth true)) q target after = stays on s refl refl after
  branches on (Some (Truth false)) q target after = jumps q target after
  branches on (Some (Int z)) q target after = tt
  branches on (Some (Text z)) q target after = tt
  branches on (Some (Own z)) q target after = tt
  branches on (Some (Ref z)) q target after = tt
  branches on (Some (Iso z)) q target after = tt

  -- ---- values that lead somewhere

  held_here : (ty : Ty) (live : Bool) → held_by_type ty s.regions ≡ held_by_type ty (b + S.known.depth)
  held_here ty live = ap (λ a. held_by_type ty a) (sym deep)

  -- a value comes that is held here
  pub gets_held : goes_on instr ≡ true → (K : List RegFact) (ns : Marks) → Told b K ns → Each (MarkUnder s.regions s.regions) ns → (to : ℕ) (result : Ty) (live : Bool) (next : Next) → (row code facts P).after ≡ slice_set K to (Held result S.known.depth live)
      → is_frozen result ≡ false → NextFits_ (around code facts P x (f.place + 1)) (put_mark ns to (Some (how.Held s.regions))) others next → RegionsNext code facts next
  gets_held on K ns k under to result live next after fz h =
      goes code facts P x on (put_mark ns to (Some (how.Held s.regions))) next (mark_put code s.regions to (how.Held s.regions) ns (omega arith) under)
      (subst (λ K. Told b K (put_mark ns to (Some (how.Held s.regions)))) (sym after) (told_set b K ns to (Held result S.known.depth live) (Some (how.Held s.regions)) (subst (λ h. IsTold h (Some (how.Held s.regions))) (held_here result live) (held_told result fz)) k)) h
    where
      held_told : (ty : Ty) → is_frozen ty ≡ false → IsTold (held_by_type ty s.regions) (Some (how.Held s.regions))
      held_told t.Void e = tt
      held_told t.Int e = tt
      held_told t.Truth e = tt
      held_told t.Text e = tt
      held_told (t.Own k) e = refl
      held_told (t.Ref k) e = refl
      held_told (t.Iso k) e = refl
      held_told (t.Frozen k) e = let y : ⊥ = cc in absurd y

  -- or seen
  pub gets_seen : goes_on instr ≡ true → (K : List RegFact) (ns : Marks) → Told b K ns → Each (MarkUnder s.regions s.regions) ns → (to : ℕ) (result : Ty) (live : Bool) (next : Next) → (row code facts P).after ≡ slice_set K to (Held result S.known.depth live)
      → is_bound result ≡ false → NextFits_ (around code facts P x (f.place + 1)) (put_mark ns to (Some (how.Seen s.regions))) others next → RegionsNext code facts next
  gets_seen on K ns k under to result live next after fz h =
      goes code facts P x on (put_mark ns to (Some (how.Seen s.regions))) next (mark_put code s.regions to (how.Seen s.regions) ns (omega arith) under)
      (subst (λ K. Told b K (put_mark ns to (Some (how.Seen s.regions)))) (sym after) (told_set b K ns to (Held result S.known.depth live) (Some (how.Seen s.regions)) (subst (λ h. IsTold h (Some (how.Seen s.regions))) (held_here result live) (seen_told result fz)) k)) h
    where
      seen_told : (ty : Ty) → is_bound ty ≡ false → IsTold (held_by_type ty s.regions) (Some (how.Seen s.regions))
      seen_told t.Void e = tt
      seen_told t.Int e = tt
      seen_told t.Truth e = tt
      seen_told t.Text e = tt
      seen_told (t.Frozen k) e = refl
      seen_told (t.Own k) e = let y : ⊥ = cc in absurd y
      seen_told (t.Ref k) e = let y : ⊥ = cc in absurd y
      seen_told (t.Iso k) e = let y : ⊥ = cc in absurd y

  pub bound : (a : ℕ) (ty : Ty) (d : ℕ) (live : Bool) → fact_of S.known.regs a ≡ Held ty d live → is_bound ty ≡ true → is_usable S.known.depth (fact_of S.known.regs a) ≡ true → mark ms a ≡ Some (how.Held s.regions)
  bound a ty d live is bd u = bound_here code facts P x (fact_of S.known.regs a) ty d live (mark ms a) is bd u (told.each a)

  pub seen_mark : (a : ℕ) (k : Kind) (d : ℕ) (live : Bool) → fact_of S.known.regs a ≡ Held (t.Frozen k) d live → (mark ms a ≡ Some (how.Seen (b + d))) × (b + d ≤ s.regions)
  seen_mark a k d live is =
      let m : mark ms a ≡ Some (how.Seen (b + d)) = subst (λ fact. IsTold (mark_of b fact) (mark ms a)) is (told.each a) in
      (m, mark_low s.regions a ms (how.Seen (b + d)) x.fits.stack.0 m)

  pub copying : goes_on instr ≡ true → (to a : ℕ) → is_copied (fact_of S.known.regs a) ≡ true → is_there (fact_of S.known.regs a) ≡ true → is_usable S.known.depth (fact_of S.known.regs a) ≡ true
      → (row code facts P).after ≡ slice_set S.known.regs to (copy_of S.known.depth (fact_of S.known.regs a)) → RegionsNext code facts (with_value (read f.registers a) s (λ v. gets f to (copied v) f.registers below s))
  copying on to a e there u after = from (fact_of S.known.regs a) refl e there after ((fits_here code facts P).each a)
    where
      plain_copy : (v : Value) (result : Ty) (live : Bool) → IsPlain v → (row code facts P).after ≡ slice_set S.known.regs to (Held result S.known.depth live) → is_frozen result ≡ false → RegionsNext code facts (gets f to (copied v) f.registers below s)
      plain_copy (Int n) result live p after fz = gets_held on S.known.regs ms told x.fits.stack.0 to result live (onward f (put f.registers to (Some (Int n))) below s) after fz (plain_next code last f below s x.fits.home others ms x.fits.fits to (Int n) tt)
      plain_copy (Truth n) result live p after fz = gets_held on S.known.regs ms told x.fits.stack.0 to result live (onward f (put f.registers to (Some (Truth n))) below s) after fz (plain_next code last f below s x.fits.home others ms x.fits.fits to (Truth n) tt)
      plain_copy (Text n) result live p after fz = gets_held on S.known.regs ms told x.fits.stack.0 to result live (onward f (put f.registers to (Some (Text n))) below s) after fz (plain_next code last f below s x.fits.home others ms x.fits.fits to (Text n) tt)
      plain_copy (Own n) result live p after fz = absurd p
      plain_copy (Ref n) result live p after fz = absurd p
      plain_copy (Iso n) result live p after fz = absurd p

      by_type : (ty : Ty) (d : ℕ) (live : Bool) (v : Value) → fact_of S.known.regs a ≡ Held ty d live → not (is_owned ty) ≡ true → (row code facts P).after ≡ slice_set S.known.regs to (Held ty S.known.depth live) → read f.registers a ≡ Some v → value_has ty v ≡ true
          → RegionsNext code facts (with_value (read f.registers a) s (λ v. gets f to (copied v) f.registers below s))
      by_type t.Int d live (Int n) is e after g h = value_is code facts s _ (Int n) _ g (plain_copy (Int n) t.Int live tt after refl)
      by_type t.Truth d live (Truth n) is e after g h = value_is code facts s _ (Truth n) _ g (plain_copy (Truth n) t.Truth live tt after refl)
      by_type t.Text d live (Text n) is e after g h = value_is code facts s _ (Text n) _ g (plain_copy (Text n) t.Text live tt after refl)
      by_type (t.Ref k) d live v is e after g h =
          gets_held on S.known.regs ms told x.fits.stack.0 to (t.Ref k) live _ after refl (copy_held_next code last f below s x.fits.home others ms x.fits.fits to a v (bound a (t.Ref k) d live is refl u) g)
      by_type (t.Frozen k) d live v is e after g h =
          let m = seen_mark a k d live is in
          gets_seen on S.known.regs ms told x.fits.stack.0 to (t.Frozen k) live _ after refl (copy_seen_next code last f below s x.fits.home others ms x.fits.fits to a (b + d) v m.0 m.1 g)
      by_type _ d live _ is e after g h = let y : ⊥ = cc in absurd y

      from : (fact : RegFact) → fact_of S.known.regs a ≡ fact → is_copied fact ≡ true → is_there fact ≡ true → (row code facts P).after ≡ slice_set S.known.regs to (copy_of S.known.depth fact) → Holds code s.world fact (read f.registers a)
          → RegionsNext code facts (with_value (read f.registers a) s (λ v. gets f to (copied v) f.registers below s))
      from Empty is e there after h = let y : ⊥ = cc in absurd y
      from (Held ty d live) is e there after h = by_type ty d live h.0 is e after h.1 h.2.shape

  -- ---- owners and isolates

  pub record OwnedAt (a : ℕ) : Type 0 where
    pub ty : Ty
    pub d : ℕ
    pub live : Bool
    pub value : Value
    pub is : fact_of S.known.regs a ≡ Held ty d live
    pub is_owner : is_owned ty ≡ true
    pub reads : read f.registers a ≡ Some value
    pub shape : value_has ty value ≡ true
    pub mark_is : mark ms a ≡ Some (how.Held s.regions)

  owner_bound : (ty : Ty) → is_owned ty ≡ true → is_bound ty ≡ true
  owner_bound (t.Own k) e = refl
  owner_bound (t.Iso k) e = refl
  owner_bound _ e = let y : ⊥ = cc in absurd y

  pub owned_at : (a : ℕ) → is_moved (fact_of S.known.regs a) ≡ true → is_there (fact_of S.known.regs a) ≡ true → is_usable S.known.depth (fact_of S.known.regs a) ≡ true → OwnedAt a
  owned_at a e there u = from (fact_of S.known.regs a) refl e there ((fits_here code facts P).each a)
    where
      from : (fact : RegFact) → fact_of S.known.regs a ≡ fact → is_moved fact ≡ true → is_there fact ≡ true → Holds code s.world fact (read f.registers a) → OwnedAt a
      from Empty is e there h = let y : ⊥ = cc in absurd y
      from (Held ty d live) is e there h = record { ty = ty; d = d; live = live; value = h.0; is = is; is_owner = e; reads = h.1; shape = h.2.shape; mark_is = bound a ty d live is (owner_bound ty e) u }

  pub moving : goes_on instr ≡ true → (to a : ℕ) → is_moved (fact_of S.known.regs a) ≡ true → is_there (fact_of S.known.regs a) ≡ true → is_usable S.known.depth (fact_of S.known.regs a) ≡ true
      → (row code facts P).after ≡ slice_set (slice_set S.known.regs a Empty) to (moved_to S.known.depth (fact_of S.known.regs a)) → RegionsNext code facts (with_value (read f.registers a) s (λ v. gets f to (moved v) (put f.registers a None) below s))
  moving on to a e there u after =
      let o = owned_at a e there u in
      gets_held on (slice_set S.known.regs a Empty) (put_mark ms a None) (told_empty b S.known.regs ms a told) (none_put s.regions s.regions a ms x.fits.stack.0) to o.ty false _ (after ∙ ap (λ fact. slice_set (slice_set S.known.regs a Empty) to (moved_to S.known.depth fact)) o.is) (owner_not_frozen o.ty o.is_owner)
      (move_next code last f below s x.fits.home others ms x.fits.fits to a o.value o.mark_is o.reads)
    where
      owner_not_frozen : (ty : Ty) → is_owned ty ≡ true → is_frozen ty ≡ false
      owner_not_frozen (t.Own k) e = refl
      owner_not_frozen (t.Iso k) e = refl
      owner_not_frozen _ e = let y : ⊥ = cc in absurd y

  pub borrowing : goes_on instr ≡ true → (to a : ℕ) (kind : Kind) → owner_kind (fact_of S.known.regs a) ≡ Some kind → is_usable S.known.depth (fact_of S.known.regs a) ≡ true
      → (row code facts P).after ≡ slice_set S.known.regs to (lent_to S.known.depth (fact_of S.known.regs a)) → RegionsNext code facts (with_value (read f.registers a) s (λ v. gets f to (borrowed v) f.registers below s))
  borrowing on to a kind e u after = from (fact_of S.known.regs a) refl e after ((fits_here code facts P).each a)
    where
      from : (fact : RegFact) → fact_of S.known.regs a ≡ fact → owner_kind fact ≡ Some kind → (row code facts P).after ≡ slice_set S.known.regs to (lent_to S.known.depth fact) → Holds code s.world fact (read f.registers a)
          → RegionsNext code facts (with_value (read f.registers a) s (λ v. gets f to (borrowed v) f.registers below s))
      from (Held (t.Own k) d live) is e after h =
          gets_held on S.known.regs ms told x.fits.stack.0 to (t.Ref k) false _ after refl (borrow_next code last f below s x.fits.home others ms x.fits.fits to a h.0 (bound a (t.Own k) d live is refl u) h.1)
      from _ is e after h = let y : ⊥ = cc in absurd y

  pub dropping : Certified code facts → goes_on instr ≡ true → (a : ℕ) (at : Spot) → is_moved (fact_of S.known.regs a) ≡ true → is_there (fact_of S.known.regs a) ≡ true → is_usable S.known.depth (fact_of S.known.regs a) ≡ true
      → (row code facts P).after ≡ slice_set S.known.regs a Empty → RegionsNext code facts (with_value (read f.registers a) s (λ v. destroy code v at (behind f (put f.registers a None) ∷ below) s))
  dropping cert on a at e there u after =
      let o = owned_at a e there u in
      let k = subst (λ K. Told b K (put_mark ms a None)) (sym after) (told_empty b S.known.regs ms a told) in
      value_is code facts s _ o.value _ o.reads
      (destroys_it code facts cert o.value at (behind f (put f.registers a None) ∷ below) s x.fits.home (record { depth = s.regions; marks = put_mark ms a None } ∷ x.fits.marks) refl
      (waits_here code last f below s x.fits (put_mark ms a None) (put f.registers a None) (mark_none s.regions s.regions a ms x.fits.stack.0))
      (take_fits x.fits.home others s a (how.Held s.regions) o.value ms f.registers None o.mark_is o.reads x.fits.fits)
      (waits code facts P x on None t.Void (put_mark ms a None) (put f.registers a None) k))

  -- ---- the end of a function

  pub ends_at : S.known.depth ≡ 0 → s.regions ≡ out_of x.fits.marks
  ends_at e = let y = deep in let z = base_is code facts P x in omega (arith, y, z, e)

  -- what lies below goes on at this depth
  pub comes_out_at : (marked : List Rattle.vale_region_laws.specs.Holding.Marked) (fs : List Frame) (r q : ℕ) → StackFits code r q marked fs → s.regions ≡ out_of marked → (fs ≡ []) ⊎ (s.regions ≡ r)
  comes_out_at [] [] r q st e = inl refl
  comes_out_at [] (g ∷ fs) r q st e = absurd st
  comes_out_at (m ∷ more) [] r q st e = absurd st
  comes_out_at (m ∷ more) (Running g ∷ fs) r q st e = inr (e ∙ st.0)
  comes_out_at (m ∷ more) (Rattle.vale_code.specs.Frames.Dropping g ∷ fs) r q st e = inr (e ∙ st.0)
  comes_out_at (m ∷ more) (Rattle.vale_code.specs.Frames.Looping g ∷ fs) r q st e = inr (e ∙ st.0)
  comes_out_at (m ∷ more) (Rattle.vale_code.specs.Frames.Alone v ∷ fs) r q st e = inr (e ∙ st.0)

  -- the form of the function under way
  pub quiet_form_here : (form : Form) (func : Func) → slice_get code.funcs f.function ≡ Some func → form_of func.form ≡ Some form → IsQuiet form
  quiet_form_here form func found is =
      let same = Rattle.vale_region_cert.proofs.Frames.same_func code f.function x.told.0.func func x.told.0.found found in
      let q : Some x.told.0.form ≡ Some form = sym x.told.0.is_form ∙ ap (λ func. form_of func.form) same ∙ is in
      let y : x.told.0.form ≡ form = cc in subst IsQuiet y (Rattle.vale_region_cert.proofs.Around.quiet code facts P x)

  pub returns_nothing : S.known.depth ≡ 0 → F.func.result ≡ t.Void → RegionsNext code facts (function code f.function s (λ form func. leave_function form f.dest None below s))
  returns_nothing e void = with_known code facts f.function s _ (λ form func found is. by form (quiet_form_here form func found is) (comes_out_at x.fits.marks below x.fits.stack.2 _ x.fits.stack.5 (ends_at e)))
    where
      out : (fs : List Frame) → below ≡ fs → (fs ≡ []) ⊎ (s.regions ≡ x.fits.stack.2) → RegionsNext code facts (leave below f.dest None s)
      out fs q (inl z) = subst (λ fs. RegionsNext code facts (leave fs f.dest None s)) (sym (q ∙ z)) tt
      out fs q (inr r) = leave_without code facts x.fits.stack.2 _ below s x.fits.home x.fits.marks f.dest r x.fits.stack.5 (nothing_left code last f below s x.fits)
          (subst (λ ty. Rattle.vale_region_cert.specs.Joined.FramesTold code facts f.dest ty x.fits.marks below) (ap (λ func. func.result) (same_function code facts P x) ∙ void) x.told.1)

      by : (form : Form) → IsQuiet form → (below ≡ []) ⊎ (s.regions ≡ x.fits.stack.2) → RegionsNext code facts (leave_function form f.dest None below s)
      by Plain q r = out below refl r
      by Destructor q r = out below refl r
      by Pure q r = absurd q
      by Iteration q r = absurd q
