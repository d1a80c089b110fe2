-- What is told of a trap: the innermost calls.
use Rattle.std.proofs.Common.{refl, ◌≡◌, ℕ, zero, suc, ◌+◌, ◌-◌, ◌<◌, ◌≤◌, List, [], ◌∷◌, ◌++◌, length, take, get_or, reverse, ◌⊎◌, inl, inr, sym, ap, ◌∙◌, arith, length-append, append_assoc}
use Rattle.std.proofs.lemmas.List.{length-reverse}
use Rattle.vale_base.specs.Limits.{report_frames}
use Rattle.vale_base.specs.declared.trap.FrameAt.{FrameAt}
use Rattle.vale_code.specs.Parts.{Parts}
use Rattle.vale_machine.specs.View.{call_of, calls_of, frames_of}
use Rattle.vale_machine.specs.declared.machine.Frame.{Frame}
use Rattle.vale_machine.specs.declared.machine.Machine.{Machine}
use Rattle.vale_machine.proofs.Frames.{last_first, length_calls}

take_all : {A : Type 0} (n : ℕ) (xs : List A) → length xs ≤ n → take n xs ≡ xs
take_all zero [] le = refl
take_all zero (x ∷ xs) le = absurd (omega arith)
take_all (suc n) [] le = refl
take_all (suc n) (x ∷ xs) le = ap (λ l. x ∷ l) (take_all n xs (omega arith))

take_first : {A : Type 0} (n : ℕ) (xs ys : List A) → length xs ≡ n → take n (xs ++ ys) ≡ xs
take_first zero [] ys e = refl
take_first zero (x ∷ xs) ys e = absurd (omega arith)
take_first (suc n) [] ys e = absurd (omega arith)
take_first (suc n) (x ∷ xs) ys e = ap (λ l. x ∷ l) (take_first n xs ys (omega arith))

append_nil : {A : Type 0} (xs : List A) → xs ++ [] ≡ xs
append_nil [] = refl
append_nil (x ∷ xs) = ap (λ l. x ∷ l) (append_nil xs)

take_next : {A : Type 0} (fs : List A) (i : ℕ) (f : A) → i < length fs → f ≡ get_or fs i f → take (i + 1) fs ≡ take i fs ++ f ∷ []
take_next [] i f lt e = absurd (omega arith)
take_next (g ∷ fs) zero f lt e = ap (λ x. x ∷ []) (sym e)
take_next (g ∷ fs) (suc i) f lt e =
    let s : suc i + 1 ≡ suc (i + 1) = omega arith in
    ap (λ n. take n (g ∷ fs)) s ∙ ap (λ l. g ∷ l) (take_next fs i f (omega arith) e)

-- the calls of the frames that were told so far, and those that are left
pub record AreTold (code : Parts) (m : Machine) (told : List FrameAt) (rest : ℕ) : Type 0 where
  pub within : rest ≤ length m.below.items
  pub few : length told ≤ report_frames
  pub all : told ++ calls_of code (reverse (take rest m.below.items)) ≡ calls_of code (frames_of m)

pub first_told : (code : Parts) (m : Machine) (told : List FrameAt) → told ≡ call_of code m.top ∷ [] → AreTold code m told (length m.below.items)
first_told code m told e = record {
  within = omega arith;
  few = omega (arith, ap length e);
  all = ap (λ l. l ++ calls_of code (reverse (take (length m.below.items) m.below.items))) e
      ∙ ap (λ fs. call_of code m.top ∷ calls_of code (reverse fs)) (take_all (length m.below.items) m.below.items (omega arith));
}

pub next_told : (code : Parts) (m : Machine) (told new : List FrameAt) (rest : ℕ) (f : Frame) (call : FrameAt) → 0 < rest → length told < report_frames → f ≡ get_or m.below.items (rest - 1) f
    → call ≡ call_of code f → new ≡ told ++ call ∷ [] → AreTold code m told rest → AreTold code m new (rest - 1)
next_told code m told new rest f call some few e is put t = record {
  within = omega (arith, t.within);
  few = omega (arith, ap length put, length-append told (call ∷ []));
  all = ap (λ l. l ++ calls_of code (reverse (take (rest - 1) m.below.items))) (put ∙ ap (λ x. told ++ x ∷ []) is)
      ∙ append_assoc told (call_of code f ∷ []) (calls_of code (reverse (take (rest - 1) m.below.items)))
      ∙ ap (λ fs. told ++ calls_of code fs) (sym (ap reverse (ap (λ n. take n m.below.items) one ∙ take_next m.below.items (rest - 1) f (omega (arith, t.within)) e) ∙ last_first (take (rest - 1) m.below.items) f))
      ∙ t.all;
}
  where
    one : rest ≡ rest - 1 + 1
    one = omega arith

pub all_told : (code : Parts) (m : Machine) (told : List FrameAt) (rest : ℕ) → (rest ≡ 0) ⊎ (report_frames ≤ length told) → AreTold code m told rest → told ≡ take report_frames (calls_of code (frames_of m))
all_told code m told rest (inl e) t =
    sym (ap (take report_frames) (sym t.all ∙ ap (λ n. told ++ calls_of code (reverse (take n m.below.items))) e ∙ append_nil told) ∙ take_all report_frames told t.few)
all_told code m told rest (inr le) t = sym (ap (take report_frames) (sym t.all) ∙ take_first report_frames told _ (omega (arith, t.few)))

pub calls_count : (code : Parts) (m : Machine) → length (calls_of code (reverse m.below.items)) ≡ length m.below.items
calls_count code m = length_calls code (reverse m.below.items) ∙ length-reverse m.below.items
