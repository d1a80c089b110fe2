-- From what each group of instructions comes to, to what holds of all that go on within their function.
use Rattle.std.proofs.Common.{◌≡◌, ℕ, List, Option, refl, sym, subst}
use Rattle.std.specs.Prelude.{Bool, Err, IfOk, Ok, OnOk, Result}
use Rattle.vale_code.specs.Parts.{Parts}
use Rattle.vale_code.specs.declared.instr.Instr.{Instr}
use Rattle.vale_registers.specs.Passing.{from_base}
use Rattle.vale_registers.specs.Texts.{text_at}
use Rattle.vale_heap.specs.HeapState.{HeapState, KeepsFrames, KnowsFrames}
use Rattle.vale_heap.specs.declared.body.Cell.{Cell}
use Rattle.vale_turn.specs.View.{Stays}
use Rattle.vale_turn.specs.declared.stop.Stop.{Stop}
use Rattle.vale_turn.specs.declared.stop.Stop.TheVariants as stop
use Rattle.vale_object_cells.specs.Cells.{cells_from, cells_in}
use Rattle.vale_object_cells.specs.declared.register.Register.{Register}
use Rattle.vale_object_steps.specs.Lent.{StillLent}
use Rattle.vale_object_turn.specs.Steps.{HasRule, Obeys, ObeysLent}
use Rattle.vale_object_numbers.specs.Numbers.{HasRuleIn, HasRuleOf, ObeysAll, ObeysOf}
use Rattle.vale_object_texts.specs.Texts.{HasRuleIn as HasRuleInCode, ObeysIn}
use Rattle.vale_object_within.specs.Within.{HasRuleWithin, ObeysWithin, ObeysWithinLent}

module _ (code : Parts) (body : List Instr) (instr : Instr) (heap : HeapState) (place left : ℕ) where
  -- ---- over registers whose texts stand in a row

  module _ (base : ℕ) (texts : List (List ℕ)) (registers : List Register) where
    pub rule_in : HasRuleWithin code body heap (cells_from base texts registers) place left instr → (l : ℕ) × HasRuleIn registers place l instr
    rule_in h = (left, record { text = from_base base (text_at texts); heap = heap; rule = h.rule })

    pub rule_of : HasRuleWithin code body heap (cells_from base texts registers) place left instr → HasRuleOf body registers place left instr
    rule_of h = record { text = from_base base (text_at texts); heap = heap; rule = h.rule; is_body = h.is_body }

    pub rule_by : HasRuleWithin code body heap (cells_from base texts registers) place left instr → (t : ℕ → List ℕ) × (h : HeapState) × (l : ℕ) × HasRule h (cells_in t registers) place l instr
    rule_by h = (from_base base (text_at texts), heap, left, h.rule)

    pub obeys_number : (told : Stop) (new : List Register) (new_place : ℕ) → ((l : ℕ) → ObeysAll instr registers place l told new new_place l)
        → ObeysWithin code body instr heap (cells_from base texts registers) place left told heap (cells_from base texts new) new_place left
    obeys_number told new new_place o s v oc b runs right = o left (from_base base (text_at texts)) heap s v runs right

    pub obeys_jump : (told : Stop) (new_place new_left : ℕ) → ObeysOf body instr registers place left told new_place new_left
        → ObeysWithin code body instr heap (cells_from base texts registers) place left told heap (cells_from base texts registers) new_place new_left
    obeys_jump told new_place new_left o s v oc b runs right = o (from_base base (text_at texts)) heap s v b runs right

    pub obeys_reference : (told : Stop) (new : List Register) (new_place : ℕ)
        → ((t : ℕ → List ℕ) (h : HeapState) (l : ℕ) → Obeys instr h (cells_in t registers) place l told h (cells_in t new) new_place l)
        → ObeysWithin code body instr heap (cells_from base texts registers) place left told heap (cells_from base texts new) new_place left
    obeys_reference told new new_place o s v oc b runs right = o (from_base base (text_at texts)) heap left s v runs right

  -- ---- over any cells

  module _ (cells : List (Option Cell)) where
    -- the same rule of the instruction that this is
    pub rule_as : (same : Instr) → instr ≡ same → HasRuleWithin code body heap cells place left instr → HasRule heap cells place left same
    rule_as same is h = subst (HasRule heap cells place left) is h.rule

    pub obeys_as : (same : Instr) → instr ≡ same → (told : Stop) (new : HeapState) (after : List (Option Cell)) (new_place new_left : ℕ) → Obeys same heap cells place left told new after new_place new_left
        → ObeysWithin code body instr heap cells place left told new after new_place new_left
    obeys_as same is told new after new_place new_left o s v oc b = subst (λ i. Obeys i heap cells place left told new after new_place new_left) (sym is) o s v

    -- of a text of the code
    pub rule_of_code : (same : Instr) → instr ≡ same → HasRuleWithin code body heap cells place left instr → HasRuleInCode code heap cells place left same
    rule_of_code same is h = subst (HasRuleInCode code heap cells place left) is (record { rule = h.rule; is_code = h.of_code })

    pub obeys_of_code : (same : Instr) → instr ≡ same → (told : Stop) (new : HeapState) (after : List (Option Cell)) (new_place new_left : ℕ) → ObeysIn code same heap cells place left told new after new_place new_left
        → ObeysWithin code body instr heap cells place left told new after new_place new_left
    obeys_of_code same is told new after new_place new_left o s v oc b = subst (λ i. ObeysIn code i heap cells place left told new after new_place new_left) (sym is) o s v oc

    -- a function that goes on within itself stays so
    pub stays_by : (told : Stop) (new : HeapState) (after : List (Option Cell)) (new_place new_left : ℕ) → HasRuleWithin code body heap cells place left instr
        → ObeysWithin code body instr heap cells place left told new after new_place new_left → Stays told
    stays_by stop.Going new after new_place new_left h o = tt
    stays_by stop.Aside new after new_place new_left h o = o h.rule.scene h.rule.view h.of_code h.is_body h.rule.runs h.rule.right
    stays_by stop.Enters new after new_place new_left h o = o h.rule.scene h.rule.view h.of_code h.is_body h.rule.runs h.rule.right
    stays_by (stop.Leaves from) new after new_place new_left h o = o h.rule.scene h.rule.view h.of_code h.is_body h.rule.runs h.rule.right
    stays_by (stop.Trap kind at) new after new_place new_left h o = tt
    stays_by stop.Cut new after new_place new_left h o = tt

    pub lent_as : (same : Instr) → instr ≡ same → (out : ℕ → Bool) (floors : ℕ → ℕ) (told : Stop) (new : HeapState) (after : List (Option Cell)) (new_place new_left : ℕ)
        → ObeysLent out floors same heap cells place left told new after new_place new_left → ObeysWithinLent out floors code body instr heap cells place left told new after new_place new_left
    lent_as same is out floors told new after new_place new_left o s v low oc b = subst (λ i. ObeysLent out floors i heap cells place left told new after new_place new_left) (sym is) o s v low

    pub lent_by : (out : ℕ → Bool) (floors : ℕ → ℕ) (told : Stop) (new : HeapState) (after : List (Option Cell)) (new_place new_left : ℕ)
        → ObeysWithin code body instr heap cells place left told new after new_place new_left → ObeysWithinLent out floors code body instr heap cells place left told new after new_place new_left
    lent_by out floors told new after new_place new_left o s v low oc b = o s v oc b

-- ---- what a lender keeps

pub still_lent : (heap new : HeapState) (frames : ℕ) (out : ℕ → Bool) (floors : ℕ → ℕ) → KnowsFrames heap out → KeepsFrames heap new → StillLent heap new frames frames out out floors floors
still_lent heap new frames out floors known keeps = record {
  known = keeps.known out known;
  still_out = λ frame is. is;
  same_floors = λ frame. refl;
  same_frames = refl;
  as_long = keeps.as_long;
}

-- ---- results

pub on_if_ok : {T E F : Type 0} (r : Result T E) (q : Result T F) (P Q : T → Type 0) → IfOk q (λ told. r ≡ Ok told) → IfOk r P → ((x : T) → P x → Q x) → IfOk q Q
on_if_ok r (Ok x) P Q is h f = f x (subst (λ y. IfOk y P) is h)
on_if_ok r (Err e) P Q is h f = tt

pub on_ok : {T E F : Type 0} (r : Result T E) (q : Result T F) (X : Type 0) → IfOk q (λ told. r ≡ Ok told) → OnOk r X → OnOk q X
on_ok r (Ok x) X is h = subst (λ y. OnOk y X) is h
on_ok r (Err e) X is h = tt
