-- Calls of built-in functions, by cases.
use Rattle.std.proofs.Common.{◌≡◌, ℕ, suc, ◌+◌, List, [], ◌∷◌, length, refl, sym, ap, ◌∙◌}
use Rattle.std.proofs.Math.Dec.{eqb-suc-zero, eqb-suc-suc}
use Rattle.std.specs.Prelude.{Bool, false, not, ◌&&◌, ◌==◌, if◌then◌else◌}
use Rattle.vale_base.specs.declared.spot.Spot.{Spot}
use Rattle.vale_syntax.specs.declared.built_in.BuiltIn.TheVariants as b
use Rattle.vale_rules_spec.specs.Types as y
use Rattle.vale_code.specs.declared.instr.Instr.{Instr}
use Rattle.vale_code.specs.declared.instr.Instr.TheVariants as i
use Rattle.vale_lowering.specs.Instructions.{stuck}
use Rattle.vale_lowering_objects.specs.Scopes.{Gives, void, copy, owner, is_value}
use Rattle.vale_lowering_objects.specs.Lowered.{is_copied, len_code, built_in_code}
use Rattle.vale_lower_places.specs.Origins.{is_text}
use Rattle.vale_lower_calls.specs.Owners.{is_one_owner}

pub drop_by : (x : y.Ty) (qs : List Gives) (q : Gives) (at : Spot) (h : ℕ) → built_in_code b.Drop x qs q at h ≡ (if is_one_owner qs && not (is_value q) then i.Destroy h at ∷ [] else stuck h)
drop_by x [] q at h = refl
drop_by x (void ∷ []) q at h = refl
drop_by x (copy ∷ []) q at h = refl
drop_by x (owner ∷ []) void at h = refl
drop_by x (owner ∷ []) copy at h = refl
drop_by x (owner ∷ []) owner at h = refl
drop_by x (void ∷ t ∷ qs) q at h = refl
drop_by x (copy ∷ t ∷ qs) q at h = refl
drop_by x (owner ∷ t ∷ qs) q at h = refl

-- ---- more values than there are to be

above_one : (n : ℕ) → (suc (suc n) == 1) ≡ false
above_one n = eqb-suc-suc (suc n) 0 ∙ eqb-suc-zero n

above_two : (n : ℕ) → (suc (suc (suc n)) == 2) ≡ false
above_two n = eqb-suc-suc (suc (suc n)) 1 ∙ above_one n

too_many : (b c : Bool) (h : ℕ) (xs : List Instr) → b ≡ false → stuck h ≡ (if b && c then xs else stuck h)
too_many b c h xs e = ap (λ z. if z && c then xs else stuck h) (sym e)

len_by_type : (x : y.Ty) (at : Spot) (h : ℕ) → len_code x at h ≡ (if is_text x then i.TextLen h h ∷ [] else i.Len h h at ∷ [])
len_by_type y.void at h = refl
len_by_type y.int at h = refl
len_by_type y.bool at h = refl
len_by_type y.str at h = refl
len_by_type (y.kind n) at h = refl
len_by_type (y.array x) at h = refl
len_by_type (y.ref x) at h = refl
len_by_type (y.imm x) at h = refl
len_by_type (y.iso x) at h = refl

pub len_by : (x : y.Ty) (qs : List Gives) (q : Gives) (at : Spot) (h : ℕ)
    → built_in_code b.Len x qs q at h ≡ (if (length qs == 1) && is_copied q then (if is_text x then i.TextLen h h ∷ [] else i.Len h h at ∷ []) else stuck h)
len_by x [] q at h = refl
len_by x (r ∷ []) void at h = refl
len_by x (r ∷ []) copy at h = len_by_type x at h
len_by x (r ∷ []) owner at h = refl
len_by x (r ∷ t ∷ qs) q at h = too_many (length (r ∷ t ∷ qs) == 1) (is_copied q) h (if is_text x then i.TextLen h h ∷ [] else i.Len h h at ∷ []) (above_one (length qs))

pub push_by : (x : y.Ty) (qs : List Gives) (q : Gives) (at : Spot) (h : ℕ) → built_in_code b.Push x qs q at h ≡ (if (length qs == 2) && not (is_value q) then i.Push h (h + 1) at ∷ [] else stuck h)
push_by x [] q at h = refl
push_by x (r ∷ []) q at h = refl
push_by x (r ∷ t ∷ []) void at h = refl
push_by x (r ∷ t ∷ []) copy at h = refl
push_by x (r ∷ t ∷ []) owner at h = refl
push_by x (r ∷ t ∷ u ∷ qs) q at h = too_many (length (r ∷ t ∷ u ∷ qs) == 2) (not (is_value q)) h (i.Push h (h + 1) at ∷ []) (above_two (length qs))

pub pop_by : (x : y.Ty) (qs : List Gives) (q : Gives) (at : Spot) (h : ℕ) → built_in_code b.Pop x qs q at h ≡ (if (length qs == 1) && is_value q then i.Pop h h at ∷ [] else stuck h)
pop_by x [] q at h = refl
pop_by x (r ∷ []) void at h = refl
pop_by x (r ∷ []) copy at h = refl
pop_by x (r ∷ []) owner at h = refl
pop_by x (r ∷ t ∷ qs) q at h = too_many (length (r ∷ t ∷ qs) == 1) (is_value q) h (i.Pop h h at ∷ []) (above_one (length qs))

pub ruleset drops = (drop_by)

pub ruleset lens = (len_by)

pub ruleset pushes = (push_by)

pub ruleset pops = (pop_by)
