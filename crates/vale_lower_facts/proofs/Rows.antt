-- What the instructions of lowered code do to what is known of the registers.
use Rattle.std.proofs.Common.{◌≡◌, ℕ, ◌+◌, ◌<◌, ◌≤◌, ℤ, List, [], ◌∷◌, length, map, Some, None, Bool, true, false, ◌&&◌, ◌||◌, max, refl, sym, ap, ◌∙◌, subst, arith}
use Rattle.std.specs.Prelude.{slice_get, slice_set, nat_lt}
use Rattle.std.specs.List.{list_all}
use Rattle.std.proofs.lemmas.Bool.{and_parts, and_from, lt-ltb}
use Rattle.vale_base.specs.declared.spot.Spot.{Spot}
use Rattle.vale_rules_spec.specs.Types.{Ty}
use Rattle.vale_rules_spec.specs.Types as y
use Rattle.vale_code.specs.Operands.{reads as registers_read, writes, room_of, room_for}
use Rattle.vale_code.specs.declared.instr.Instr.{Instr}
use Rattle.vale_code.specs.declared.instr.Instr.TheVariants as i
use Rattle.vale_code.specs.declared.ty.Ty.{Ty as CodeTy}
use Rattle.vale_code.specs.declared.ty.Ty.TheVariants as t
use Rattle.vale_cert.specs.Types.{is_copy}
use Rattle.vale_cert.specs.Known.{Known, fact_of, is_there, has}
use Rattle.vale_code.proofs.OperandLaws.{below_room}
use Rattle.vale_cert.specs.Numbers.{numbers, in_tables, is_void_call}
use Rattle.vale_cert.specs.Rules.{Effect, fine, reads, uses, gets, copy_of, is_copied, is_usable, is_ordered, is_comparable, are_alike, is_printable, is_short, if_types, passed, passes_all}
use Rattle.vale_cert.specs.Walk.{goes_on, target_of}
use Rattle.vale_cert.specs.declared.facts.RegFact.{RegFact}
use Rattle.vale_cert.specs.declared.facts.RegFact.TheVariants.{Held}
use Rattle.vale_cert.specs.declared.rules.Kept.{Kept}
use Rattle.vale_lowering.specs.Instructions.{registers_from}
use Rattle.vale_lowering.specs.Scopes.{code_type}
use Rattle.vale_lower_facts.specs.Slots.{Slot, slot_register, slot_type, holds, Stand, with_slot, type_at}
use Rattle.vale_lower_facts.specs.Marks.{mark}
use Rattle.vale_lower_facts.proofs.Stands.{Site, Covers, Says, covers_less, covers_write, covers_kept, covers_again, plain_free, plain_less, plain_slot}
use Rattle.vale_lower_facts.proofs.Names.{copies_too}
use Rattle.vale_lower_facts.proofs.Runs.{row_at, Does, Runs, single}

-- ---- rules that are kept

pub record Fine (kept : Kept) : Type 0 where
  pub types : kept.types ≡ true
  pub present : kept.present ≡ true
  pub depths : kept.depths ≡ true

pub all_kept : Fine fine
all_kept = record { types = refl; present = refl; depths = refl }

-- what is said of a copy value
pub record Own (ty : CodeTy) : Type 0 where
  pub has_it : has ty (Held ty 0 false) ≡ true
  pub usable : (depth : ℕ) → is_usable depth (Held ty 0 false) ≡ true
  pub copied : is_copied (Held ty 0 false) ≡ true
  pub alike : are_alike (Held ty 0 false) (Held ty 0 false) ≡ true
  pub printable : is_printable (Held ty 0 false) ≡ true

pub own : (ty : CodeTy) → is_copy ty ≡ true → Own ty
own t.Int e = record { has_it = refl; usable = λ d. refl; copied = refl; alike = refl; printable = refl }
own t.Truth e = record { has_it = refl; usable = λ d. refl; copied = refl; alike = refl; printable = refl }
own t.Text e = record { has_it = refl; usable = λ d. refl; copied = refl; alike = refl; printable = refl }
own t.Void e = absurd (cc)
own (t.Own m) e = absurd (cc)
own (t.Ref m) e = absurd (cc)
own (t.Frozen m) e = absurd (cc)
own (t.Iso m) e = absurd (cc)

pub reads_fine : (regs : List RegFact) (a : ℕ) {ty : CodeTy} {kept : Kept} → Fine kept → is_copy ty ≡ true → fact_of regs a ≡ Held ty 0 false → Fine (reads regs a ty kept)
reads_fine regs a {ty} {kept} f copy e = record {
  types = and_from _ _ f.types (ap (has ty) e ∙ (own ty copy).has_it);
  present = and_from _ _ f.present (ap is_there e);
  depths = f.depths;
}

pub uses_fine : (depth : ℕ) (regs : List RegFact) (a : ℕ) {ty : CodeTy} {kept : Kept} → Fine kept → is_copy ty ≡ true → fact_of regs a ≡ Held ty 0 false → Fine (uses depth regs a ty kept)
uses_fine depth regs a {ty} {kept} f copy e = record {
  types = and_from _ _ f.types (ap (has ty) e ∙ (own ty copy).has_it);
  present = and_from _ _ f.present (ap is_there e);
  depths = and_from _ _ f.depths (ap (is_usable depth) e ∙ (own ty copy).usable depth);
}

module _ (k : Site) where
  -- ---- numbers inside their tables

  or_right : (a b : Bool) → b ≡ true → (a || b) ≡ true
  or_right true b e = refl
  or_right false b e = e

  -- where there are registers enough
  pub numbered : (instr : Instr) → in_tables k.code instr ≡ true → room_for instr ≤ k.func.registers → numbers k.code k.func.registers instr ≡ true
  numbered instr inside room =
      and_from _ _
      (and_from _ _ (below_room k.func.registers (registers_read instr) (omega (arith, room)))
      (or_right (is_void_call k.code instr) _ (below_room k.func.registers (writes instr) (omega (arith, room)))))
      inside

  -- ---- a value goes to a register

  pub gets_does : {known : Known} {s : Stand} (instr : Instr) (x : Slot) (kept : Kept) → row_at k instr known ≡ gets known.depth known.regs (slot_register x) (code_type (slot_type x)) kept → Fine kept → is_copy (code_type (slot_type x)) ≡ true → Covers k known s → Does k instr known (with_slot x s)
  gets_does {known} {s} instr x kept e f copy c = record {
    types = ap (λ r. r.kept.types) e ∙ f.types;
    present = ap (λ r. r.kept.present) e ∙ and_from _ _ f.present (plain_free (fact_of known.regs (slot_register x)) (c.plain (slot_register x)));
    depths = ap (λ r. r.kept.depths) e ∙ f.depths;
    covers = subst (λ r. Covers k (record { depth = known.depth; regs = r }) (with_slot x s)) (sym (ap (λ r. r.after) e)) (covers_write k x copy c);
  }

  -- from no register
  pub sets : {p : ℕ} {due : Bool} {s : Stand} (instr : Instr) (x : Slot) (kept : Kept) → goes_on instr ≡ true → target_of instr ≡ None → is_copy (code_type (slot_type x)) ≡ true → Fine kept
      → in_tables k.code instr ≡ true
      → ((known : Known) → row_at k instr known ≡ gets known.depth known.regs (slot_register x) (code_type (slot_type x)) kept)
      → Runs k p (instr ∷ []) (mark due s ∷ []) due s false (with_slot x s)
  sets instr x kept on none copy f inside is = single k instr on none (numbered instr inside) (λ room known c. gets_does instr x kept (is known) f copy c) (plain_slot k x copy)

  -- a register holds a value of a type
  abbrev pub Has : Stand → ℕ → CodeTy → Type 0
  Has s r ty = type_at k.last s r ≡ Some ty

  -- from one, two or three registers; what is known of others stays
  pub from_one : {p : ℕ} {due : Bool} {s u : Stand} (instr : Instr) (x : Slot) (a : ℕ) (ty : CodeTy) → goes_on instr ≡ true → target_of instr ≡ None → is_copy (code_type (slot_type x)) ≡ true → is_copy ty ≡ true
      → (room_for instr ≤ k.func.registers → a < k.func.registers)
      → in_tables k.code instr ≡ true
      → ((known : Known) → row_at k instr known ≡ gets known.depth known.regs (slot_register x) (code_type (slot_type x)) (reads known.regs a ty fine))
      → Has s a ty → Says k s u → Runs k p (instr ∷ []) (mark due s ∷ []) due s false (with_slot x u)
  from_one instr x a ty on none copy cty lt inside is ha less =
      single k instr on none (numbered instr inside)
      (λ room known c. gets_does instr x (reads known.regs a ty fine) (is known) (reads_fine known.regs a all_kept cty (c.held a ty (lt room) ha)) copy (covers_less k c less))
      (λ p. plain_slot k x copy (plain_less k less p))

  pub from_two : {p : ℕ} {due : Bool} {s u : Stand} (instr : Instr) (x : Slot) (a b : ℕ) (ta tb : CodeTy) → goes_on instr ≡ true → target_of instr ≡ None → is_copy (code_type (slot_type x)) ≡ true → is_copy ta ≡ true → is_copy tb ≡ true
      → (room_for instr ≤ k.func.registers → (a < k.func.registers) × (b < k.func.registers))
      → in_tables k.code instr ≡ true
      → ((known : Known) → row_at k instr known ≡ gets known.depth known.regs (slot_register x) (code_type (slot_type x)) (reads known.regs b tb (reads known.regs a ta fine)))
      → Has s a ta → Has s b tb → Says k s u → Runs k p (instr ∷ []) (mark due s ∷ []) due s false (with_slot x u)
  from_two instr x a b ta tb on none copy ca cb lt inside is ha hb less =
      single k instr on none (numbered instr inside)
      (λ room known c.
      gets_does instr x (reads known.regs b tb (reads known.regs a ta fine)) (is known)
      (reads_fine known.regs b (reads_fine known.regs a all_kept ca (c.held a ta (lt room).0 ha)) cb (c.held b tb (lt room).1 hb)) copy (covers_less k c less))
      (λ p. plain_slot k x copy (plain_less k less p))

  pub from_three : {p : ℕ} {due : Bool} {s u : Stand} (instr : Instr) (x : Slot) (a b d : ℕ) (ta tb td : CodeTy) → goes_on instr ≡ true → target_of instr ≡ None → is_copy (code_type (slot_type x)) ≡ true → is_copy ta ≡ true → is_copy tb ≡ true → is_copy td ≡ true
      → (room_for instr ≤ k.func.registers → (a < k.func.registers) × (b < k.func.registers) × (d < k.func.registers))
      → in_tables k.code instr ≡ true
      → ((known : Known) → row_at k instr known ≡ gets known.depth known.regs (slot_register x) (code_type (slot_type x)) (reads known.regs d td (reads known.regs b tb (reads known.regs a ta fine))))
      → Has s a ta → Has s b tb → Has s d td → Says k s u → Runs k p (instr ∷ []) (mark due s ∷ []) due s false (with_slot x u)
  from_three instr x a b d ta tb td on none copy ca cb cd lt inside is ha hb hd less =
      single k instr on none (numbered instr inside)
      (λ room known c.
      gets_does instr x (reads known.regs d td (reads known.regs b tb (reads known.regs a ta fine))) (is known)
      (reads_fine known.regs d (reads_fine known.regs b (reads_fine known.regs a all_kept ca (c.held a ta (lt room).0 ha)) cb (c.held b tb (lt room).1 hb)) cd (c.held d td (lt room).2 hd)) copy (covers_less k c less))
      (λ p. plain_slot k x copy (plain_less k less p))

  -- ---- each instruction

  pub int_runs : {p : ℕ} {due : Bool} {s : Stand} (h : ℕ) (n : ℤ) → Runs k p (i.Int h n ∷ []) (mark due s ∷ []) due s false (with_slot (holds h y.int) s)
  int_runs h n = sets (i.Int h n) (holds h y.int) fine refl refl refl all_kept refl (λ known. refl)

  pub truth_runs : {p : ℕ} {due : Bool} {s : Stand} (h n : ℕ) → n < 2 → Runs k p (i.Truth h n ∷ []) (mark due s ∷ []) due s false (with_slot (holds h y.bool) s)
  truth_runs h n lt = sets (i.Truth h n) (holds h y.bool) fine refl refl refl all_kept (lt-ltb n 2 lt) (λ known. refl)

  pub text_runs : {p : ℕ} {due : Bool} {s : Stand} (h n : ℕ) → n < length k.code.texts → is_short (slice_get k.code.texts n) ≡ true → Runs k p (i.Text h n ∷ []) (mark due s ∷ []) due s false (with_slot (holds h y.str) s)
  text_runs h n lt short =
      sets (i.Text h n) (holds h y.str) (if_types (is_short (slice_get k.code.texts n))) refl refl refl
      (record { types = short; present = refl; depths = refl })
      (lt-ltb n (length k.code.texts) lt) (λ known. refl)

  -- an operator on two numbers
  two_ints : {p : ℕ} {due : Bool} {s u : Stand} (instr : Instr) (to a b : ℕ) → goes_on instr ≡ true → target_of instr ≡ None → registers_read instr ≡ a ∷ b ∷ []
      → in_tables k.code instr ≡ true
      → ((known : Known) → row_at k instr known ≡ gets known.depth known.regs to t.Int (reads known.regs b t.Int (reads known.regs a t.Int fine)))
      → Has s a t.Int → Has s b t.Int → Says k s u → Runs k p (instr ∷ []) (mark due s ∷ []) due s false (with_slot (holds to y.int) u)
  two_ints instr to a b on none read inside is ha hb less =
      from_two instr (holds to y.int) a b t.Int t.Int on none refl refl refl (λ room. let few = ap room_of read in (omega (arith, room, few), omega (arith, room, few)))
      inside is ha hb less

  pub add_runs : {p : ℕ} {due : Bool} {s u : Stand} (to a b : ℕ) (at : Spot) → Has s a t.Int → Has s b t.Int → Says k s u → Runs k p (i.Add to a b at ∷ []) (mark due s ∷ []) due s false (with_slot (holds to y.int) u)
  add_runs to a b at ha hb less = two_ints (i.Add to a b at) to a b refl refl refl refl (λ known. refl) ha hb less

  pub sub_runs : {p : ℕ} {due : Bool} {s u : Stand} (to a b : ℕ) (at : Spot) → Has s a t.Int → Has s b t.Int → Says k s u → Runs k p (i.Sub to a b at ∷ []) (mark due s ∷ []) due s false (with_slot (holds to y.int) u)
  sub_runs to a b at ha hb less = two_ints (i.Sub to a b at) to a b refl refl refl refl (λ known. refl) ha hb less

  pub mul_runs : {p : ℕ} {due : Bool} {s u : Stand} (to a b : ℕ) (at : Spot) → Has s a t.Int → Has s b t.Int → Says k s u → Runs k p (i.Mul to a b at ∷ []) (mark due s ∷ []) due s false (with_slot (holds to y.int) u)
  mul_runs to a b at ha hb less = two_ints (i.Mul to a b at) to a b refl refl refl refl (λ known. refl) ha hb less

  pub div_runs : {p : ℕ} {due : Bool} {s u : Stand} (to a b : ℕ) (at : Spot) → Has s a t.Int → Has s b t.Int → Says k s u → Runs k p (i.Div to a b at ∷ []) (mark due s ∷ []) due s false (with_slot (holds to y.int) u)
  div_runs to a b at ha hb less = two_ints (i.Div to a b at) to a b refl refl refl refl (λ known. refl) ha hb less

  pub rem_runs : {p : ℕ} {due : Bool} {s u : Stand} (to a b : ℕ) (at : Spot) → Has s a t.Int → Has s b t.Int → Says k s u → Runs k p (i.Rem to a b at ∷ []) (mark due s ∷ []) due s false (with_slot (holds to y.int) u)
  rem_runs to a b at ha hb less = two_ints (i.Rem to a b at) to a b refl refl refl refl (λ known. refl) ha hb less

  pub join_runs : {p : ℕ} {due : Bool} {s u : Stand} (to a b : ℕ) (at : Spot) → Has s a t.Text → Has s b t.Text → Says k s u → Runs k p (i.Join to a b at ∷ []) (mark due s ∷ []) due s false (with_slot (holds to y.str) u)
  join_runs to a b at ha hb less =
      from_two (i.Join to a b at) (holds to y.str) a b t.Text t.Text refl refl refl refl refl (λ room. (omega (arith, room), omega (arith, room)))
      refl (λ known. refl) ha hb less

  pub byte_runs : {p : ℕ} {due : Bool} {s u : Stand} (to a b : ℕ) (at : Spot) → Has s a t.Text → Has s b t.Int → Says k s u → Runs k p (i.Byte to a b at ∷ []) (mark due s ∷ []) due s false (with_slot (holds to y.int) u)
  byte_runs to a b at ha hb less =
      from_two (i.Byte to a b at) (holds to y.int) a b t.Text t.Int refl refl refl refl refl (λ room. (omega (arith, room), omega (arith, room)))
      refl (λ known. refl) ha hb less

  pub slice_runs : {p : ℕ} {due : Bool} {s u : Stand} (to a b d : ℕ) (at : Spot) → Has s a t.Text → Has s b t.Int → Has s d t.Int → Says k s u → Runs k p (i.Slice to a b d at ∷ []) (mark due s ∷ []) due s false (with_slot (holds to y.str) u)
  slice_runs to a b d at ha hb hd less =
      from_three (i.Slice to a b d at) (holds to y.str) a b d t.Text t.Int t.Int refl refl refl refl refl refl
      (λ room. (omega (arith, room), omega (arith, room), omega (arith, room)))
      refl (λ known. refl) ha hb hd less

  pub not_runs : {p : ℕ} {due : Bool} {s u : Stand} (to a : ℕ) → Has s a t.Truth → Says k s u → Runs k p (i.Not to a ∷ []) (mark due s ∷ []) due s false (with_slot (holds to y.bool) u)
  not_runs to a ha less = from_one (i.Not to a) (holds to y.bool) a t.Truth refl refl refl refl (λ room. omega (arith, room)) refl (λ known. refl) ha less

  pub len_runs : {p : ℕ} {due : Bool} {s u : Stand} (to a : ℕ) → Has s a t.Text → Says k s u → Runs k p (i.TextLen to a ∷ []) (mark due s ∷ []) due s false (with_slot (holds to y.int) u)
  len_runs to a ha less = from_one (i.TextLen to a) (holds to y.int) a t.Text refl refl refl refl (λ room. omega (arith, room)) refl (λ known. refl) ha less

  pub text_of_runs : {p : ℕ} {due : Bool} {s u : Stand} (to a : ℕ) → Has s a t.Int → Says k s u → Runs k p (i.TextOf to a ∷ []) (mark due s ∷ []) due s false (with_slot (holds to y.str) u)
  text_of_runs to a ha less = from_one (i.TextOf to a) (holds to y.str) a t.Int refl refl refl refl (λ room. omega (arith, room)) refl (λ known. refl) ha less

  pub is_num_runs : {p : ℕ} {due : Bool} {s u : Stand} (to a : ℕ) → Has s a t.Text → Says k s u → Runs k p (i.IsNum to a ∷ []) (mark due s ∷ []) due s false (with_slot (holds to y.bool) u)
  is_num_runs to a ha less = from_one (i.IsNum to a) (holds to y.bool) a t.Text refl refl refl refl (λ room. omega (arith, room)) refl (λ known. refl) ha less

  pub num_runs : {p : ℕ} {due : Bool} {s u : Stand} (to a : ℕ) (at : Spot) → Has s a t.Text → Says k s u → Runs k p (i.Num to a at ∷ []) (mark due s ∷ []) due s false (with_slot (holds to y.int) u)
  num_runs to a at ha less = from_one (i.Num to a at) (holds to y.int) a t.Text refl refl refl refl (λ room. omega (arith, room)) refl (λ known. refl) ha less

  -- ---- comparisons, copies and what is printed

  both_alike : (choice : ℕ) (ty : CodeTy) (a b : RegFact) → is_ordered choice ty ≡ true → is_copy ty ≡ true → a ≡ Held ty 0 false → b ≡ Held ty 0 false
      → Fine (record { types = is_comparable choice a && is_comparable choice b && are_alike a b; present = is_there a && is_there b; depths = true })
  both_alike choice ty a b o copy ea eb = record {
    types =
        and_from _ _ (and_from _ _ (ap (is_comparable choice) ea ∙ o) (ap (is_comparable choice) eb ∙ o))
        (ap (λ x. are_alike x b) ea ∙ ap (are_alike (Held ty 0 false)) eb ∙ (own ty copy).alike);
    present = and_from _ _ (ap is_there ea) (ap is_there eb);
    depths = refl;
  }

  pub cmp_runs : {p : ℕ} {due : Bool} {s u : Stand} (to choice a b : ℕ) (ty : CodeTy) → choice < 6 → is_ordered choice ty ≡ true → is_copy ty ≡ true → Has s a ty → Has s b ty → Says k s u → Runs k p (i.Cmp to choice a b ∷ []) (mark due s ∷ []) due s false (with_slot (holds to y.bool) u)
  cmp_runs to choice a b ty few o copy ha hb less =
      single k (i.Cmp to choice a b) refl refl
      (numbered (i.Cmp to choice a b) (lt-ltb choice 6 few))
      (λ room known c.
      gets_does (i.Cmp to choice a b) (holds to y.bool)
      (record { types = is_comparable choice (fact_of known.regs a) && is_comparable choice (fact_of known.regs b) && are_alike (fact_of known.regs a) (fact_of known.regs b); present = is_there (fact_of known.regs a) && is_there (fact_of known.regs b); depths = true })
      refl
      (both_alike choice ty (fact_of known.regs a) (fact_of known.regs b) o copy (c.held a ty (omega (arith, room)) ha) (c.held b ty (omega (arith, room)) hb))
      refl (covers_less k c less))
      (λ p. plain_slot k (holds to y.bool) refl (plain_less k less p))

  copies_after : (known : Known) (to a : ℕ) (ty : CodeTy) → fact_of known.regs a ≡ Held ty 0 false → (row_at k (i.Copy to a) known).after ≡ slice_set known.regs to (Held ty known.depth false)
  copies_after known to a ty e = ap (λ f. slice_set known.regs to (copy_of known.depth f)) e

  copies_does : {s u : Stand} (to a : ℕ) (ty : CodeTy) (known : Known) → is_copy ty ≡ true → fact_of known.regs a ≡ Held ty 0 false → Covers k known s → Covers k (record { depth = known.depth; regs = slice_set known.regs to (Held ty known.depth false) }) u → Does k (i.Copy to a) known u
  copies_does {s} {u} to a ty known copy e c after = record {
    types = ap is_copied e ∙ (own ty copy).copied;
    present = and_from _ _ (ap is_there e) (plain_free (fact_of known.regs to) (c.plain to));
    depths = ap (is_usable known.depth) e ∙ (own ty copy).usable known.depth;
    covers = subst (λ r. Covers k (record { depth = known.depth; regs = r }) u) (sym (copies_after known to a ty e)) after;
  }

  -- to a register of which nothing is said
  pub copy_runs : {p : ℕ} {due : Bool} {s u : Stand} (x : Slot) (a : ℕ) → is_copy (code_type (slot_type x)) ≡ true → Has s a (code_type (slot_type x)) → Says k s u → Runs k p (i.Copy (slot_register x) a ∷ []) (mark due s ∷ []) due s false (with_slot x u)
  copy_runs x a copy ha less =
      single k (i.Copy (slot_register x) a) refl refl (numbered (i.Copy (slot_register x) a) refl)
      (λ room known c.
      copies_does (slot_register x) a (code_type (slot_type x)) known copy (c.held a (code_type (slot_type x)) (omega (arith, room)) ha) c
      (covers_write k x copy (covers_less k c less)))
      (λ p. plain_slot k x copy (plain_less k less p))

  -- to one that holds a value of the type already
  pub store_runs : {p : ℕ} {due : Bool} {s u : Stand} (to a : ℕ) (ty : CodeTy) → is_copy ty ≡ true → Has s a ty → Says k s u → Has u to ty → Runs k p (i.Copy to a ∷ []) (mark due s ∷ []) due s false u
  store_runs {s = s} {u} to a ty copy ha less hto =
      single k (i.Copy to a) refl refl (numbered (i.Copy to a) refl)
      (λ room known c.
      let e = c.held a ty (omega (arith, room)) ha in
      copies_does to a ty known copy e c
      (subst (λ d. Covers k (record { depth = known.depth; regs = slice_set known.regs to (Held ty d false) }) u) (sym c.depth) (covers_again k to ty copy hto (covers_less k c less))))
      (plain_less k less)

  pub print_runs : {p : ℕ} {due : Bool} {s u : Stand} (a choice : ℕ) (ty : CodeTy) → choice < 2 → is_copy ty ≡ true → Has s a ty → Says k s u → Runs k p (i.Print a choice ∷ []) (mark due s ∷ []) due s false u
  print_runs a choice ty few copy ha less =
      single k (i.Print a choice) refl refl
      (numbered (i.Print a choice) (lt-ltb choice 2 few))
      (λ room known c.
      let e = c.held a ty (omega (arith, room)) ha in
      record { types = ap is_printable e ∙ (own ty copy).printable; present = ap is_there e; depths = refl; covers = covers_kept k (covers_less k c less) })
      (plain_less k less)

  -- ---- calls

  -- the registers from h on hold values of these types
  abbrev pub Stored : List RegFact → ℕ → List Ty → Type 0
  Stored regs h [] = Unit {0}
  Stored regs h (ty ∷ tys) = (fact_of regs h ≡ Held (code_type ty) 0 false) × Stored regs (h + 1) tys

  one_passed : (depth : ℕ) (regs : List RegFact) (h : ℕ) (ty : CodeTy) (row : Effect) → is_copy ty ≡ true → fact_of regs h ≡ Held ty 0 false → row.after ≡ regs → Fine row.kept → Fine (passed depth h ty row).kept × ((passed depth h ty row).after ≡ regs)
  one_passed depth regs h t.Int row copy e same f = (uses_fine depth row.after h f copy (ap (λ q. fact_of q h) same ∙ e), same)
  one_passed depth regs h t.Truth row copy e same f = (uses_fine depth row.after h f copy (ap (λ q. fact_of q h) same ∙ e), same)
  one_passed depth regs h t.Text row copy e same f = (uses_fine depth row.after h f copy (ap (λ q. fact_of q h) same ∙ e), same)
  one_passed depth regs h t.Void row copy e same f = absurd (cc)
  one_passed depth regs h (t.Own m) row copy e same f = absurd (cc)
  one_passed depth regs h (t.Ref m) row copy e same f = absurd (cc)
  one_passed depth regs h (t.Frozen m) row copy e same f = absurd (cc)
  one_passed depth regs h (t.Iso m) row copy e same f = absurd (cc)

  pub all_passed : (depth : ℕ) (regs : List RegFact) (h : ℕ) (tys : List Ty) (row : Effect) → list_all y.is_copy tys ≡ true → Stored regs h tys → row.after ≡ regs → Fine row.kept
      → Fine (passes_all depth (map code_type tys) (registers_from h (length tys)) row).kept × ((passes_all depth (map code_type tys) (registers_from h (length tys)) row).after ≡ regs)
  all_passed depth regs h [] row copy st same f = (f, same)
  all_passed depth regs h (ty ∷ tys) row copy st same f =
      let c = and_parts (y.is_copy ty) (list_all y.is_copy tys) copy in
      let one = one_passed depth regs h (code_type ty) row (copies_too ty c.0) st.0 same f in
      all_passed depth regs (h + 1) tys (passed depth h (code_type ty) row) c.1 st.1 one.1 one.0
